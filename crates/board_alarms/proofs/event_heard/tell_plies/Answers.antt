use Rattle.std.proofs.Common.{◌≡◌, ◌≢◌, ℕ, Bool, List, Some, None, inl, refl, ap, subst, sym, ◌∙◌}
use Rattle.std.specs.Prelude.{if◌then◌else◌}
use Rattle.std.proofs.lemmas.Result.{on_ok_weaker}
use Rattle.settle_core.specs.declared.plies.Ply.{Ply}
use Rattle.board_doubts.specs.declared.heard.Heard.TheVariants.{Agrees}
use Rattle.board_alarms.specs.Hearing.{AreMoved, agrees, shown_at}
use Rattle.board_alarms.specs.Keeping.{KeepsCourse}
use Rattle.board_alarms.specs.Inside.{DiffersBy}
use Rattle.board_alarms.specs.Plies.{position}
use Rattle.board_alarms.proofs.MaskLemmas.{differs_by}
use Rattle.chess_rules.specs.Picture.{picture}
use Rattle.chess_rules.specs.declared.parts.Parts.{Parts}
use Rattle.settle_core.specs.Folding.{moves_of}
use Rattle.settle_core.specs.Settling.{reached}
use Rattle.settle_core.specs.Settler.{position_of}
use Rattle.board_alarms.proofs.event_heard.tell_plies.Goals as goal

pub returns-then-moves : goal.returns-then-moves
returns-then-moves c = λ start old told keeps same grows moved last looks.
    let plies = c.args.settler.now.score.plies in
    let M : Bool → Type 0 = λ b. AreMoved b old plies in
    let other : plies ≢ old = subst M (sym c.moves.ensures ∙ c.if-moves.true) moved in
    let hears = c.go_on-heard.ensures.heard start (agrees start plies (shown_at c.args.sight c.args.picture.now)) old keeps same grows other in
    on_ok_weaker c.tell-then-moves.result (λ looks. (c.go_on-heard.result.news, c.go_on-heard.result.ply, hears, c.go_on-heard.ensures.keeps start old keeps same grows, looks))
    (c.tell-then-moves.ensures _ (c.in_ok-tell.ensures told looks))

pub returns : goal.returns
returns c = λ start old told keeps same grows moved last looks.
    let shown = shown_at c.args.sight c.args.picture.now in
    let plies = c.args.settler.now.score.plies in
    let M : Bool → Type 0 = λ b. AreMoved b old plies in
    let stay : plies ≡ old = subst M (sym c.moves.ensures ∙ c.if-moves.false) moved in
    let mask = c.differs.result in
    let seen = c.args.picture.now in
    let settler = c.args.settler.now in
    let here = ap (λ (p : Parts). picture (reached p (moves_of settler.score.plies))) same ∙ ap (λ (plies : List Ply). position start plies) stay in
    let D : List ℕ → Type 0 = λ board. DiffersBy c.args.sight mask board seen in
    let differs = subst D here (differs_by c.args.sight mask settler.last (picture (position_of settler)) seen c.differs.ensures last) in
    let agree = c.agrees-agrees.ensures start old keeps differs ∙ ap (λ (plies : List Ply). agrees start plies shown) (sym stay) in
    let C : List Ply → Type 0 = λ plies. KeepsCourse c.args.course.now start plies in
    on_ok_weaker c.tell_agreement.result (λ looks. (
      (if c.agrees-agrees.result then Some Agrees else None),
      None,
      inl (record { plies = stay; news_is = ap (λ (b : Bool). if b then Some Agrees else None) agree; ply_is = refl }),
      subst C (sym stay) keeps,
      looks,
    )) (c.tell_agreement.ensures told looks)
