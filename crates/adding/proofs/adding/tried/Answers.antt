use Rattle.std.proofs.Common.{◌≡◌, List, ℕ, subst, sym}
use Rattle.settle_core.specs.declared.plies.Ply.{Ply}
use Rattle.settle_core.specs.Settler.{plies_of}
use Rattle.board_captures.specs.Reading.{setting_of}
use Rattle.adding.specs.declared.adding.Answer.{Answer}
use Rattle.adding.specs.declared.trying.Verdict.{Verdict}
use Rattle.adding.specs.Answers.{IsAnswerTo}
use Rattle.adding.specs.Verdicts.{Judges}
use Rattle.adding.proofs.TrialLemmas.{answer_by, judged_to}
use Rattle.adding.proofs.adding.tried.Goals as goal
use Rattle.adding.proofs.adding.tried.Goals.{in-Kept, in-Changed, in-NoRoom}

pub returns : goal.returns
returns c = λ past stands is going.
    let setting = setting_of c.args.method.now in
    let recovers = c.args.method.now.recovers in
    let capture = c.args.capture.now in
    let trial = c.args.trial in
    let plies = plies_of c.args.captured.now.session.settler in
    let verdict = c.in_ok-verdict.verdict in
    let J : List ℕ → Type 0 = λ bytes. Judges setting recovers capture bytes c.as_slice-2.result.now c.as_slice-3.result.now trial.sign verdict in
    let K : List ℕ → Type 0 = λ again. Judges setting recovers capture trial.bytes.items again c.as_slice-3.result.now trial.sign verdict in
    let L : List Ply → Type 0 = λ ps. Judges setting recovers capture trial.bytes.items c.in_ok-again.again.items ps trial.sign verdict in
    let judges = subst L c.as_slice-3.ensures.value (subst K c.as_slice-2.ensures.value (subst J c.as_slice.ensures.value c.in_ok-verdict.ensures)) in
    let to = judged_to setting recovers capture past c.args.p.now plies c.args.said trial c.in_ok-again.again.items verdict is going (c.in_ok-again.ensures past stands) judges in
    let A : Answer → Type 0 = λ answer. IsAnswerTo setting recovers capture past c.args.p.now plies c.args.said answer in
    let V : Verdict → Type 0 = λ v. c.match-verdict.result ≡ answer_by c.args.said trial v in
    let result : c.match-verdict.result ≡ answer_by c.args.said trial verdict = elim c.match-verdict.branch [
      | in-Kept w ↦ subst V (sym w.in-Kept.is) w.result-is
      | in-Changed w ↦ subst V (sym w.in-Changed.is) w.result-is
      | in-NoRoom w ↦ subst V (sym w.in-NoRoom.is) w.result-is
    ] in
    subst A (sym result) to
