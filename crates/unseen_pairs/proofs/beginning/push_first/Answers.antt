use Rattle.std.proofs.Common.{◌≡◌, ◌<◌, None, sym, ap, subst, ◌∙◌}
use Rattle.std.specs.Int.{bit_at}
use Rattle.chess_rules.specs.declared.chess_move.Move.{Move}
use Rattle.chess_rules.specs.Board.{on}
use Rattle.unseen_pairs.specs.Inside.Beginning.{AddsMoves, Begins, IsPlainPawn}
use Rattle.unseen_pairs.proofs.Adding.{adds_fewer, on_ok}
use Rattle.unseen_pairs.proofs.beginning.push_first.Goals as goal

pub returns-then-is_plain_on : goal.returns-then-is_plain_on
returns-then-is_plain_on c among =
    let p = c.args.p.now in
    let seen = c.args.seen.now in
    let from = c.args.from in
    let old = c.args.moves.now.items in
    let new = c.push_from.new.moves.items in
    let Here : Move → Type 0 = λ m. (m.promotion ≡ None) × (m.from ≡ from) × (m.to < 64) × (bit_at c.args.targets m.to ≡ 1) in
    let First : Move → Type 0 = λ m. (m.from ≡ from) × Begins p seen m in
    on_ok c.push_from.result (AddsMoves p Here old new) (AddsMoves p First old new)
    (λ adds. adds_fewer p Here First old new adds
    (λ m l these.
    let end = among m these.1.0 these.1.1
    (λ pawn. subst (λ s. IsPlainPawn p seen s) (sym these.0) (c.is_plain_on.ensures c.if-is_plain_on.true (ap (on p.board) (sym these.0) ∙ pawn))) in
    (end.0, these.0, end.1, end.2)))
    c.push_from.ensures

pub returns-else-is_plain_on : goal.returns-else-is_plain_on
returns-else-is_plain_on c among =
    let p = c.args.p.now in
    let from = c.args.from in
    let old = c.args.moves.now.items in
    let new = c.push_all_from.new.moves.items in
    let Here : Move → Type 0 = λ m. m.from ≡ from in
    let First : Move → Type 0 = λ m. (m.from ≡ from) × Begins p c.args.seen.now m in
    on_ok c.push_all_from.result (AddsMoves p Here old new) (AddsMoves p First old new)
    (λ adds. adds_fewer p Here First old new adds (λ m l these. these.0)) c.push_all_from.ensures
