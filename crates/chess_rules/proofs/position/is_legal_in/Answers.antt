use Rattle.std.proofs.Common.{sym, subst, arith}
use Rattle.std.proofs.lemmas.Bool.{iff_false, not-true, not_from_false, false_from_ne_true}
use Rattle.chess_rules.specs.Board.{Board, other}
use Rattle.chess_rules.specs.Attack.{InCheck}
use Rattle.chess_rules.specs.Valid.{HasOneKing}
use Rattle.chess_rules.proofs.Staying.{kings_after}
use Rattle.chess_rules.proofs.position.is_legal_in.Goals as goal

pub returns-then-not-goes : goal.returns-then-not-goes
returns-then-not-goes c = (λ t. cc, λ l. absurd (iff_false c.goes.ensures c.if-not-goes.true l.goes))

pub returns : goal.returns
returns c =
    let P : Board → Type 0 = λ b. InCheck b c.args.parts.now.side (other c.args.parts.now.side) in (
      λ t. record {
        on_board = omega arith;
        goes = c.goes.ensures.0 c.if-not-goes.false;
        safe = λ h. iff_false c.is_king_attacked.ensures (not-true _ t) (subst P (sym c.board_after-next.ensures) h);
      },
      λ l. not_from_false _ (false_from_ne_true _ (λ t. l.safe (subst P c.board_after-next.ensures (c.is_king_attacked.ensures.0 t)))),
    )

pub is_king_attacked-requires : goal.is_king_attacked-requires
is_king_attacked-requires c =
    let P : Board → Type 0 = λ b. HasOneKing b c.args.parts.now.side in
    subst P (sym c.board_after-next.ensures)
    (kings_after c.args.parts.now c.args.m.now c.requires (omega arith) (c.goes.ensures.0 c.if-not-goes.false) c.args.parts.now.side)
