-- What has lasted for a time is what held throughout it.
use Rattle.std.proofs.Common.{ℕ, Bool, true, false, List, [], ◌∷◌, arith}
use Rattle.std.specs.Prelude.{if◌then◌else◌}
use Rattle.square_runs.specs.Laws.{InOrder}
use Rattle.square_runs.specs.Shown.{Shown, has}
use Rattle.square_runs.proofs.Moments.{held_is_throughout}
use Rattle.board_standing.specs.Laws.{OldIsThroughout, OverdueIsThroughout}
use Rattle.board_standing.specs.Pictures.{hand, is_left, is_no_nearer, patience, since_set_up}

cut : (b : Bool) (time : ℕ) (past : List Shown) → InOrder time past → InOrder time (if b then [] else past)
cut true time past order = tt
cut false time past order = order

in_order : (now : ℕ) (past : List Shown) → InOrder now past → InOrder now (since_set_up past)
in_order now [] order = tt
in_order now (picture ∷ before) order =
    (order.0, cut (is_left picture before) picture.time (since_set_up before) (in_order picture.time before order.1))

pub old_is_throughout : OldIsThroughout
old_is_throughout now s past order = held_is_throughout (has s) hand now (since_set_up past) (omega arith) (in_order now past order)

pub overdue_is_throughout : OverdueIsThroughout
overdue_is_throughout now past order = held_is_throughout is_no_nearer patience now past (omega arith) order
