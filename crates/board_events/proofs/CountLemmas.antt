-- No more entries than events.
use Rattle.std.proofs.Common.{◌≤◌, suc, Bool, true, false, List, [], ◌∷◌, length, arith, if◌then◌else◌}
use Rattle.dgt_frame.specs.declared.events.Event.{Event}
use Rattle.dgt_frame.specs.declared.First.{First}
use Rattle.board_events.specs.Entries.{entries, entry_at, is_entry}

pub length-entries : (first : First) (rotated : Bool) (past : List Event) → length (entries first rotated past) ≤ length past
length-entries first rotated [] = omega arith
length-entries first rotated (event ∷ past) = let fewer = length-entries first rotated past in
    elim (is_entry event past) as (λ b. length (if b then entry_at first rotated (event ∷ past) ∷ entries first rotated past else entries first rotated past) ≤ suc (length past))
    [ true ↦ omega (arith, fewer) | false ↦ omega (arith, fewer) ]
