-- A legal move changes what two squares show.
use Rattle.std.proofs.Common.{◌≢◌, ℕ, ◌<◌, List, get_or, refl, sym, ap, ◌∙◌}
use Rattle.chess_rules.specs.declared.chess_move.Move.{Move}
use Rattle.chess_rules.specs.declared.parts.Parts.{Parts}
use Rattle.chess_rules.specs.After.{after}
use Rattle.chess_rules.specs.Board.{on}
use Rattle.chess_rules.specs.Legal.{Legal}
use Rattle.chess_rules.specs.Picture.{picture}
use Rattle.chess_rules.specs.Valid.{Valid}
use Rattle.chess_rules.proofs.Shifts.{on_board}
use Rattle.settle_core.proofs.Pieces.{Arrives, arrives, on_shown, shown_on, squares_after}

-- two pictures differ on two squares
pub record DiffersTwice (xs ys : List ℕ) : Type 0 where
  pub one : ℕ
  pub two : ℕ
  pub one_low : one < 64
  pub two_low : two < 64
  pub apart : one ≢ two
  pub at_one : get_or xs one 0 ≢ get_or ys one 0
  pub at_two : get_or xs two 0 ≢ get_or ys two 0

pub moves_differ : (p : Parts) (m : Move) → Valid p → Legal p m → DiffersTwice (picture p) (picture (after p m))
moves_differ p m v l =
    let a : Arrives p m = arrives p m v l in
    let came_low : a.square < 64 = rw (← squares_after p m v l) (on_board (after p m).board a.square p.side a.kind a.came) in
    let left_low : a.left_square < 64 = rw (← v.squares) (on_board p.board a.left_square p.side (a.was).kind (a.was).stands) in
    record {
      one = a.square;
      two = a.left_square;
      one_low = came_low;
      two_low = left_low;
      apart = λ e. a.left (record { kind = a.kind; stands = ap (on (after p m).board) (sym e) ∙ a.came });
      at_one = λ e. a.free (record {
        kind = a.kind;
        stands = on_shown p (picture p) a.square p.side a.kind (rw v.squares came_low) refl (e ∙ shown_on (after p m) (picture (after p m)) a.square p.side a.kind refl a.came);
      });
      at_two = λ e. a.left (record {
        kind = (a.was).kind;
        stands = on_shown (after p m) (picture (after p m)) a.left_square p.side (a.was).kind (rw (squares_after p m v l) left_low) refl
            (sym e ∙ shown_on p (picture p) a.left_square p.side (a.was).kind refl (a.was).stands);
      });
    }
