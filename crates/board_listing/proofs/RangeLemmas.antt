-- A frame says an event in range.
use Rattle.std.proofs.Common.{◌≡◌, ℕ, ◌<◌, List, length, All, subst}
use Rattle.std.proofs.lemmas.List.Elements.{All-from_recursion}
use Rattle.dgt_frame.specs.Frames.{Frame, IsCode}
use Rattle.dgt_frame.specs.Streams.{HasFrame}
use Rattle.dgt_frame.specs.declared.events.Event.{Event}
use Rattle.dgt_frame.specs.declared.events.Event.TheVariants.{Message, Fault}
use Rattle.dgt_frame.specs.declared.events.Message.{Message as MessageOf}
use Rattle.dgt_frame.specs.declared.events.Message.TheVariants.{Dump, Update, Time, Other}
use Rattle.board_events.specs.History.{IsInRange}

pub in_range : (event : Event) → HasFrame event → IsInRange event
in_range (Message (Dump codes)) frame = All-from_recursion IsCode codes frame.1.2
in_range (Message (Update field code)) frame = (frame.1.1, frame.1.2)
in_range (Message (Time times)) frame = tt
in_range (Message (Other id size)) frame = tt
in_range (Fault kind) frame = tt

pub codes_in : (message : MessageOf) (pieces : List ℕ) → message ≡ Dump pieces → (frame : List ℕ) × Frame message frame → All (λ code. code < 16) pieces
codes_in message pieces is framed =
    let P : MessageOf → Type 0 = λ m. (frame : List ℕ) × Frame m frame in
    let here : P (Dump pieces) = subst P is framed in
    All-from_recursion IsCode pieces here.1.2
