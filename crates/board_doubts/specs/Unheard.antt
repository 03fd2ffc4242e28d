-- Times in which the clock wasn't heard. Events are listed with the latest first.
use Rattle.std.specs.Prelude.{Bool, true, false, List, [], ◌∷◌}
use Rattle.board_doubts.specs.declared.heard.Event.{Event}
use Rattle.board_doubts.specs.declared.heard.Heard.{Heard}
use Rattle.board_doubts.specs.declared.heard.Heard.TheVariants.{Away, Clock}

-- The board wasn't heard for a time, and its clock has said nothing since. What was known of the clock is known again when it says
-- something, unless it has been pressed meanwhile, or stood and has other times. (An even number of presses may not show.)
abbrev pub unheard_by : Heard → Bool → Bool
unheard_by (Away gap) before = true
unheard_by (Clock runs) before = false
unheard_by other before = before

abbrev pub is_unheard : List Event → Bool
is_unheard [] = false
is_unheard (event ∷ past) = unheard_by event.what (is_unheard past)
