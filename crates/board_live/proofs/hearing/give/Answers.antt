use Rattle.std.proofs.Common.{◌≡◌, ℕ, true, false, List, [], ◌++◌, append-nil, ap, sym, subst, ◌∙◌}
use Rattle.std.proofs.lemmas.Result.{on_ok_weaker}
use Rattle.board_game.specs.Games.{StandsFor}
use Rattle.board_game.specs.History.{Came}
use Rattle.board_live.specs.Coming.{with_bytes}
use Rattle.board_live.proofs.TakeLemmas.{given}
use Rattle.board_live.proofs.hearing.give.Goals as goal

pub returns-then-is_nothing-clause-told : goal.returns-then-is_nothing-clause-told
returns-then-is_nothing-clause-told c = λ setting recovers past text s.
    let none = c.is_nothing.ensures.0 c.if-is_nothing.true in
    let same : past ≡ with_bytes c.args.when c.args.bytes.now past = sym (ap (λ (bs : List ℕ). with_bytes c.args.when bs past) none) in
    let P : List Came → Type 0 = λ p. StandsFor c.args.game.now setting recovers p text in
    let T : List ℕ → Type 0 = λ t. StandsFor c.args.game.now setting recovers (with_bytes c.args.when c.args.bytes.now past) t in
    ([], sym (append-nil c.args.lines.now.items), subst T (sym (append-nil text)) (subst P same s))

pub returns-clause-told : goal.returns-clause-told
returns-clause-told c = λ setting recovers past text s.
    let is = given c.args.when c.args.bytes.now past (λ e. let never : false ≡ true = sym c.if-is_nothing.false ∙ c.is_nothing.ensures.1 e in cc) in
    on_ok_weaker c.take.result (λ h. (
      h.0,
      h.1,
      subst (λ (p : List Came). StandsFor c.take.new.self setting recovers p (text ++ h.0)) (sym is) h.2,
    )) (c.take.ensures.told setting recovers past text s)
