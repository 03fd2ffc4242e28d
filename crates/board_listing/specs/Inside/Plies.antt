-- Which of what is seen is a ply.
use Rattle.std.specs.Prelude.{Bool, true, false}
use Rattle.settle_core.specs.declared.plies.Seen.{Seen}
use Rattle.settle_core.specs.declared.plies.Seen.TheVariants.{Same, Moved, Sign, Replaced, Waits}

-- a move or a correction was seen
abbrev pub is_ply : Seen → Bool
is_ply (Moved m) = true
is_ply (Replaced m) = true
is_ply Same = false
is_ply (Sign outcome) = false
is_ply Waits = false
