-- What was heard since the last news. Events are listed with the latest first.
use Rattle.std.specs.Prelude.{ℕ, ◌+◌, min, ◌&&◌, ◌||◌, Bool, true, false, List, [], ◌∷◌, Option, Some, None, is_some, unwrap_or, if◌then◌else◌}
use Rattle.board_doubts.specs.declared.heard.Event.{Event}
use Rattle.board_doubts.specs.declared.heard.Heard.{Heard}
use Rattle.board_doubts.specs.declared.heard.Heard.TheVariants.{Shows, Moves, Corrects, Agrees, Ends, Reopens, PutsIn, Away}
use Rattle.board_doubts.specs.declared.heard.Seen.{Seen}
use Rattle.board_doubts.specs.Pictures.{Laid}

-- a day, in milliseconds: no time counts for longer
abbrev pub day : ℕ
day = 86400000

abbrev pub is_news : Heard → Bool
is_news (Moves repeats) = true
is_news (Corrects repeats) = true
is_news Agrees = true
is_news Ends = true
is_news Reopens = true
is_news other = false

-- what was heard since the last news
abbrev pub since_news : List Event → List Event
since_news [] = []
since_news (event ∷ past) = if is_news event.what then [] else event ∷ since_news past

-- The board wasn't heard for a time, and no picture has come since.
abbrev pub first_by : Heard → Bool → Bool
first_by (Away gap) before = true
first_by (Shows seen) before = false
first_by other before = before

abbrev pub comes_first : List Event → Bool
comes_first [] = false
comes_first (event ∷ past) = first_by event.what (comes_first past)

-- a picture of this time; one that comes first after a gap may have stood from the beginning
abbrev pub laid : ℕ → Bool → Seen → Laid
laid at first seen = record {
  time = at;
  since = if first then 0 else at;
  own = seen.own;
  others = seen.others;
  astray = seen.astray;
  is_off = seen.is_off;
}

-- the pictures with the one that is shown at this time, if one is. Those before a pair that is put in belong to the pair
abbrev pub with_picture : Heard → ℕ → Bool → List Laid → List Laid
with_picture (Shows seen) at first past = laid at first seen ∷ past
with_picture PutsIn at first past = []
with_picture other at first past = past

abbrev pub pictures : List Event → List Laid
pictures [] = []
pictures (event ∷ past) = with_picture event.what event.at (comes_first past) (pictures past)

-- how long the board wasn't heard, if there was such a time; several are added up
abbrev pub gap_by : Heard → Option ℕ → Option ℕ
gap_by (Away gap) before = Some (min day (gap.lasted + unwrap_or before 0))
gap_by other before = before

abbrev pub gap : List Event → Option ℕ
gap [] = None
gap (event ∷ past) = gap_by event.what (gap past)

abbrev pub has_gap : List Event → Bool
has_gap past = is_some (gap past)

-- In the last such time the recorder was away.
abbrev pub restart_by : Heard → Bool → Bool
restart_by (Away gap) before = gap.is_restart
restart_by other before = before

abbrev pub is_restart : List Event → Bool
is_restart [] = false
is_restart (event ∷ past) = restart_by event.what (is_restart past)

-- After such a time a piece of the side that moved last was in a hand.
abbrev pub touched_by : Heard → Bool → Bool → Bool
touched_by (Shows seen) away before = before || (away && seen.in_hand)
touched_by other away before = before

abbrev pub touched : List Event → Bool
touched [] = false
touched (event ∷ past) = touched_by event.what (has_gap past) (touched past)
