-- How a game grows with an event, and what is told of the clock. Plies and events are listed with the latest first.
use Rattle.std.specs.Prelude.{◌≡◌, ◌⊎◌, ⊤, ℕ, Bool, true, false, List, [], ◌∷◌, drop, Option, Some, None}
use Rattle.dgt_frame.specs.declared.events.Event.{Event}
use Rattle.dgt_frame.specs.declared.events.Event.TheVariants.{Message as MessageEvent, Fault}
use Rattle.dgt_frame.specs.declared.events.Message.TheVariants.{Dump, Update, Time, Other}
use Rattle.dgt_frame.specs.declared.First.{First}
use Rattle.settle_core.specs.declared.plies.Ply.{Ply}
use Rattle.settle_core.specs.Masks.{IsDiff}
use Rattle.board_events.specs.History.{reading_at}
use Rattle.board_alarms.specs.declared.look.Told.{Told}
use Rattle.board_alarms.specs.declared.chunk.Chunk.{Chunk}
use Rattle.board_alarms.specs.declared.news.Sight.{Sight}
use Rattle.board_alarms.specs.declared.news.Sight.TheVariants.{Nothing, Again, Another, Moves}
use Rattle.board_alarms.specs.Clock.{clock_of, counts_said, lever_at, lever_said, presses_of, runs_said}
use Rattle.board_alarms.specs.Hearing.{with_heard}
use Rattle.board_alarms.specs.Items.{Item, events_of}

abbrev pub first_of : List Ply → Option Ply
first_of [] = None
first_of (ply ∷ earlier) = Some ply

-- The second plies are the first ones; or these and one more; or these with another one in the place of the last.
abbrev pub Grows : List Ply → List Ply → Type 0
Grows old new = (new ≡ old) ⊎ (((ply : Ply) × (new ≡ ply ∷ old)) ⊎ ((ply : Ply) × (new ≡ ply ∷ drop 1 old)))

abbrev pub is_time : Event → Bool
is_time (MessageEvent (Time bytes)) = true
is_time (MessageEvent (Dump codes)) = false
is_time (MessageEvent (Update field code)) = false
is_time (MessageEvent (Other id size)) = false
is_time (Fault kind) = false

-- with what is heard of the clock in an event that these bytes bring, after these items
abbrev pub with_clock : Chunk → ℕ → First → Event → List Item → List Told → List Told
with_clock chunk plies first event items told = with_heard chunk.when.at chunk.when.is_added plies (clock_of (runs_said chunk event))
    (with_heard chunk.when.at chunk.when.is_added plies (presses_of (lever_said chunk event) (lever_at items))
    (with_heard chunk.when.at chunk.when.is_added plies (counts_said chunk (reading_at first (events_of items)) (reading_at first (event ∷ events_of items))) told))

-- The last picture is this one, if an event has shown it.
abbrev pub ShowsLast : Sight → Option (List ℕ) → List ℕ → Type 0
ShowsLast Nothing last seen = ⊤
ShowsLast Again last seen = last ≡ Some seen
ShowsLast Another last seen = last ≡ Some seen
ShowsLast Moves last seen = last ≡ Some seen

-- It differs from a position on these squares.
abbrev pub DiffersBy : Sight → ℕ → List ℕ → List ℕ → Type 0
DiffersBy Nothing mask position seen = ⊤
DiffersBy Again mask position seen = IsDiff mask position seen
DiffersBy Another mask position seen = IsDiff mask position seen
DiffersBy Moves mask position seen = IsDiff mask position seen
