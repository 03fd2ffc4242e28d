-- What a stream shows of which a few bytes were lost.
use Rattle.std.specs.Prelude.{◌≡◌, ◌⊎◌, ℕ, ◌≤◌, List, [], ◌∷◌, ◌++◌, length, ⊤}
use Rattle.std.specs.List.{AllByRecursion}
use Rattle.dgt_frame.specs.declared.events.Message.{Message}
use Rattle.dgt_frame.specs.declared.events.Message.TheVariants.{Dump, Update, Time, Other}
use Rattle.dgt_frame.specs.declared.events.Event.{Event}
use Rattle.dgt_frame.specs.declared.events.Event.TheVariants.{Message as MessageEvent, Fault}
use Rattle.dgt_frame.specs.Frames.{Frame}
use Rattle.dgt_frame.specs.Streams.{Shows, Timed}

-- a dump, an update or a time
abbrev pub IsOfBoard : Message → Type 0
IsOfBoard (Dump codes) = ⊤
IsOfBoard (Update field code) = ⊤
IsOfBoard (Time times) = ⊤
IsOfBoard (Other id size) = ⊥

-- the frame of a dump, an update or a time
abbrev pub IsBoardFrame : List ℕ → Type 0
IsBoardFrame frame = (message : Message) × Frame message frame × IsOfBoard message

-- the frames, one after the other
abbrev pub in_a_row : List (List ℕ) → List ℕ
in_a_row [] = []
in_a_row (frame ∷ frames) = frame ++ in_a_row frames

abbrev pub IsFault : Event → Type 0
IsFault (MessageEvent message) = ⊥
IsFault (Fault kind) = ⊤

abbrev pub HasFault : List Timed → Type 0
HasFault [] = ⊥
HasFault (first ∷ events) = IsFault first.event ⊎ HasFault events

-- Of a stream of dumps, updates and times, one to four bytes in a row are lost, and a whole frame comes after them: the
-- rest shows a fault, whatever comes then.
abbrev pub SmallLossesShow : Type 0
SmallLossesShow = (frames : List (List ℕ)) (next after front lost back : List ℕ) (events : List Timed) (rest : ℕ)
    → AllByRecursion IsBoardFrame frames → IsBoardFrame next
    → in_a_row frames ≡ front ++ (lost ++ back)
    → 1 ≤ length lost → length lost ≤ 4
    → Shows (front ++ (back ++ (next ++ after))) events rest
    → HasFault events
