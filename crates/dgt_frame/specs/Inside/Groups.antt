-- The time of one group of a time message.
use Rattle.std.specs.Prelude.{ℕ, if◌then◌else◌, List, Option, Some, None}
use Rattle.chess_clock.specs.Clock.{Clock}
use Rattle.dgt_frame.specs.Times.{is_group, group}

-- the time of the group from here on, where it is a time
abbrev pub group_read : List ℕ → ℕ → Option Clock
group_read times start = if is_group times start then Some (group times start) else None
