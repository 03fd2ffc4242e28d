-- What an honest board sends. Its events and its pictures stand in their order.
use Rattle.std.specs.Prelude.{◌≡◌, ◌<◌, ℕ, Bool, List, [], ◌∷◌, ◌++◌, map, reverse, length, slice_set}
use Rattle.dgt_frame.specs.declared.events.Message.TheVariants.{Dump, Update, Time, Other}
use Rattle.dgt_frame.specs.declared.events.Event.{Event}
use Rattle.dgt_frame.specs.declared.events.Event.TheVariants.{Message as MessageEvent, Fault}
use Rattle.dgt_frame.specs.declared.First.{First}
use Rattle.settle_core.specs.Entries.{Entry}
use Rattle.board_events.specs.Entries.{entries}
use Rattle.board_events.specs.History.{codes_by_field, turned}

-- The board, which shows one picture now, goes on to show these, and sends for each of them one update of the one
-- square that changes. Times and other messages may stand anywhere between.
abbrev pub SendsOn : Bool → List ℕ → List (List ℕ) → List Event → Type 0
SendsOn rotated now pictures [] = pictures ≡ []
SendsOn rotated now pictures (MessageEvent (Update field code) ∷ events) = (next : List ℕ) × (more : List (List ℕ))
    × (pictures ≡ next ∷ more)
    × (field < 64) × (next ≡ slice_set now (turned rotated field) code) × SendsOn rotated next more events
SendsOn rotated now pictures (MessageEvent (Dump codes) ∷ events) = ⊥
SendsOn rotated now pictures (MessageEvent (Time times) ∷ events) = SendsOn rotated now pictures events
SendsOn rotated now pictures (MessageEvent (Other id size) ∷ events) = SendsOn rotated now pictures events
SendsOn rotated now pictures (Fault kind ∷ events) = ⊥

-- It sends a dump of the first picture, and then goes on so.
pub record SendsPictures (rotated : Bool) (picture : List ℕ) (pictures : List (List ℕ)) (events : List Event) : Type 0 where
  pub squares : length picture ≡ 64
  pub later : List Event
  pub are : events ≡ MessageEvent (Dump (codes_by_field rotated picture)) ∷ later
  pub goes_on : SendsOn rotated picture pictures later

abbrev pub pictures_in : First → Bool → List Event → List (List ℕ)
pictures_in first rotated past = map (λ (entry : Entry). entry.picture) (entries first rotated past)

-- The events of an honest board show exactly its pictures, on a rotated board too, whatever was sent before.
abbrev pub HonestBoardsAreRead : Type 0
HonestBoardsAreRead = (first : First) (rotated : Bool) (past events : List Event) (picture : List ℕ) (pictures : List (List ℕ))
    → SendsPictures rotated picture pictures events
    → pictures_in first rotated (reverse events ++ past) ≡ reverse (picture ∷ pictures) ++ pictures_in first rotated past
