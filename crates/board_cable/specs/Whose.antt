-- Which board is on the cable, and what is done with what it sends. Events are listed with the latest first, times are
-- milliseconds, serial numbers five characters.
use Rattle.std.specs.Prelude.{◌≡◌, ◌<◌, ◌≤◌, ◌^◌, ◌+◌, ◌-◌, min, ℕ, nat_lt, ◌&&◌, not, Bool, true, false, List, [], ◌∷◌, Option, Some, None, is_some, if◌then◌else◌}
use Rattle.std.specs.Str.{bytes_eq}
use Rattle.board_cable.specs.Lasting.{has_lasted, IsBefore}
use Rattle.board_cable.specs.declared.line.Event.{Event}
use Rattle.board_cable.specs.declared.line.Request.TheVariants.{Numbered, Start}
use Rattle.board_cable.specs.declared.line.Happening.{Happening}
use Rattle.board_cable.specs.declared.line.Happening.TheVariants.{Begins, Opens, Answers, Dumps, Numbers, Owns, Asks}
use Rattle.board_cable.specs.declared.whose.Handling.{Handling}
use Rattle.board_cable.specs.declared.whose.Handling.TheVariants.{Keep, Hold, Other}
use Rattle.board_cable.specs.declared.whose.Whose.{Whose}

-- the number of the game's board: the first that came, or what it was said to be since
abbrev pub own_by : Happening → Option (List ℕ) → Option (List ℕ)
own_by (Owns number) before = Some number
own_by (Numbers number) None = Some number
own_by _ before = before

abbrev pub own_number : List Event → Option (List ℕ)
own_number [] = None
own_number (event ∷ past) = own_by event.what (own_number past)

-- the number of the board on the cable: the last that came since the line was opened
abbrev pub shown_by : Happening → Option (List ℕ) → Option (List ℕ)
shown_by (Numbers number) before = Some number
shown_by Begins before = None
shown_by Opens before = None
shown_by _ before = before

abbrev pub shown_number : List Event → Option (List ℕ)
shown_number [] = None
shown_number (event ∷ past) = shown_by event.what (shown_number past)

-- The number of the game's board was known when the line was opened, or the call began; or it was said since.
abbrev pub known_by : Happening → Option (List ℕ) → Bool → Bool
known_by (Owns number) own before = true
known_by Begins own before = is_some own
known_by Opens own before = is_some own
known_by _ own before = before

abbrev pub was_known : List Event → Bool
was_known [] = false
was_known (event ∷ past) = known_by event.what (own_number past) (was_known past)

-- The board on the cable has sent the number that the game's board has.
abbrev pub sends_own : Option (List ℕ) → Option (List ℕ) → Bool
sends_own None own = false
sends_own (Some shown) None = false
sends_own (Some shown) (Some own) = bytes_eq shown own

-- The board on the cable is the game's own: since the line was opened it has sent the number that was known.
abbrev pub is_own : List Event → Bool
is_own past = was_known past && sends_own (shown_number past) (own_number past)

-- Since when the number is awaited: the line was opened, or a board behind a serial server answered, or updates were asked for;
-- and no number has come since. A second request for updates changes nothing.
abbrev pub awaited_by : Happening → ℕ → Option ℕ → Option ℕ
awaited_by Opens at before = Some at
awaited_by (Asks Start) at None = Some at
awaited_by Answers at (Some since) = Some at
awaited_by (Numbers number) at before = None
awaited_by Begins at before = None
awaited_by _ at before = before

abbrev pub awaited_at : List Event → Option ℕ
awaited_at [] = None
awaited_at (event ∷ past) = awaited_by event.what event.at (awaited_at past)

-- how many dumps have come since then, counted up to three
abbrev pub dumps_by : Happening → Option ℕ → ℕ → ℕ
dumps_by (Dumps picture) awaited before = min (before + 1) 3
dumps_by (Asks Start) None before = 0
dumps_by Opens awaited before = 0
dumps_by Answers awaited before = 0
dumps_by Begins awaited before = 0
dumps_by _ awaited before = before

abbrev pub dumps_since : List Event → ℕ
dumps_since [] = 0
dumps_since (event ∷ past) = dumps_by event.what (awaited_at past) (dumps_since past)

-- How many further requests ask for the number: the two after one for updates, if the game's board has a number, until one comes.
abbrev pub left_by : Happening → Option (List ℕ) → ℕ → ℕ
left_by (Asks Start) None before = 0
left_by (Asks Start) (Some own) before = 2
left_by (Asks Numbered) own before = before - 1
left_by (Numbers number) own before = 0
left_by Begins own before = 0
left_by _ own before = before

abbrev pub left : List Event → ℕ
left [] = 0
left (event ∷ past) = left_by event.what (own_number past) (left past)

abbrev pub is_number_asked : List Event → Bool
is_number_asked past = nat_lt 0 (left past)

-- The number is awaited: for 5 s, or three dumps.
abbrev pub is_awaited : ℕ → Option ℕ → ℕ → Bool
is_awaited now None dumps = false
is_awaited now (Some since) dumps = not (has_lasted 5000 now (Some since)) && nat_lt dumps 3

-- What the board with this number sends is kept if it is the game's.
abbrev pub handling_of : List ℕ → List ℕ → Handling
handling_of shown own = if bytes_eq shown own then Keep else Other shown

-- A game without a number keeps what comes. A game with one holds it while the number is awaited. A board that sends no number
-- is taken for the game's.
abbrev pub handling_by : Bool → Option (List ℕ) → Option (List ℕ) → Handling
handling_by awaited None shown = Keep
handling_by true (Some own) shown = Hold
handling_by false (Some own) None = Keep
handling_by false (Some own) (Some shown) = handling_of shown own

-- What is done with what the board sends.
abbrev pub handling_at : ℕ → List Event → Handling
handling_at now past = handling_by (is_awaited now (awaited_at past) (dumps_since past)) (own_number past) (shown_number past)

-- Before this time the same is done with it.
abbrev pub HandledAlike : ℕ → List Event → Option ℕ → Type 0
HandledAlike now past due = (later : ℕ) → later < 2 ^ 64 → now ≤ later → IsBefore later due → handling_at later past ≡ handling_at now past

-- This happened, the latest first.
pub record HasWhose (whose : Whose) (past : List Event) : Type 0 where
  pub own_is : whose.own ≡ own_number past
  pub shown_is : whose.shown ≡ shown_number past
  pub known_is : whose.was_known ≡ was_known past
  pub awaited_is : whose.awaited ≡ awaited_at past
  pub dumps_is : whose.dumps ≡ dumps_since past
  pub left_is : whose.left ≡ left past
