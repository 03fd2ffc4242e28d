-- The pictures of events, each that differs from the one just before it. Events and pictures are listed with the latest
-- first.
use Rattle.std.specs.Prelude.{◌≡◌, ◌<◌, ℕ, Bool, List, [], ◌∷◌, map, slice_set, ⊤}
use Rattle.dgt_frame.specs.declared.events.Event.{Event}
use Rattle.dgt_frame.specs.declared.time.First.TheVariants.{White}
use Rattle.settle_core.specs.Entries.{deduplicated}
use Rattle.board_events.specs.declared.view.Change.{Change}
use Rattle.board_events.specs.declared.view.Change.TheVariants.{Nothing, Square, Picture}
use Rattle.board_events.specs.Entries.{entries}

-- what the events show; readings play no part in it
abbrev pub pictures : Bool → List Event → List (List ℕ)
pictures rotated past = map (λ entry. entry.picture) (deduplicated (entries White rotated past))

-- These pictures are those; or those, and the last one with another code on a square; or those, and one more.
abbrev pub ChangesPictures : Change → List (List ℕ) → List (List ℕ) → Type 0
ChangesPictures Nothing old new = new ≡ old
ChangesPictures (Square square code) old new = (picture : List ℕ) × (earlier : List (List ℕ)) × (old ≡ picture ∷ earlier)
    × (new ≡ slice_set picture square code ∷ old)
ChangesPictures Picture old new = (picture : List ℕ) × (new ≡ picture ∷ old)

-- The square that changes is on the board.
abbrev pub IsOnBoard : Change → Type 0
IsOnBoard Nothing = ⊤
IsOnBoard (Square square code) = square < 64
IsOnBoard Picture = ⊤

-- The last picture is this one, if there is any.
abbrev pub IsLast : List ℕ → List (List ℕ) → Type 0
IsLast picture [] = ⊤
IsLast picture (last ∷ earlier) = picture ≡ last
