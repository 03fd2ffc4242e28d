use Rattle.std.proofs.Common.{◌-◌, ◌∷◌, ◌++◌, ℕ, List, take, subst, ap, ◌∙◌}
use Rattle.board_events.specs.Limits.{limit}
use Rattle.board_game.specs.Games.{StandsFor}
use Rattle.board_game.specs.History.{Bytes}
use Rattle.board_game.proofs.game.Game.take.Goals as goal

pub returns-clause-told : goal.returns-clause-told
returns-clause-told c = λ setting recovers past text s.
    let t = c.in_ok-take_within.ensures setting recovers past text s in
    let P : List ℕ → Type 0 = λ bs. StandsFor c.take_within.new.self setting recovers (Bytes c.args.when bs ∷ past) (text ++ t.0) in
    (t.0, t.1, subst P (c.first_bytes.ensures ∙ ap (λ (n : ℕ). take (limit - n) c.args.bytes.now) s.counted) t.2)

pub returns-clause-begun : goal.returns-clause-begun
returns-clause-begun c =
    let b = c.requires.begun in
    let t = c.in_ok-take_within.ensures b.0 b.1 b.2 b.3 b.4 in
    (b.0, b.1, Bytes c.args.when c.first_bytes.result.now ∷ b.2, b.3 ++ t.0, t.2)
