-- Which bytes the game gets, and which are kept back. Turns are listed with the latest first; bytes are in the order in which
-- they came.
use Rattle.std.specs.Prelude.{◌≡◌, ℕ, nat_lt, Bool, true, false, if◌then◌else◌, List, [], ◌∷◌, ◌++◌, length, Option, Some, None}
use Rattle.std.specs.Str.{bytes_eq}
use Rattle.board_cable.specs.declared.whose.Handling.{Handling}
use Rattle.board_cable.specs.declared.whose.Handling.TheVariants.{Keep, Hold, Other}
use Rattle.board_cable.specs.Whose.{own_number}
use Rattle.board_cable.specs.declared.back.Back.{Back}
use Rattle.board_cable.specs.declared.happened.What.{What}
use Rattle.board_cable.specs.declared.happened.What.TheVariants.{Begins, Opens, Closes, HangsUp, Lends}
use Rattle.board_cable.specs.Moments.{sent}
use Rattle.board_cable.specs.Turns.{Turn, handling_of}

-- the most bytes that are held, and that are kept aside
abbrev pub limit : ℕ
limit = 1048576

-- If they are more, all are dropped.
abbrev pub limited : List ℕ → List ℕ
limited bytes = if nat_lt limit (length bytes) then [] else bytes

-- What is held ends here: the board shows its pieces again when the line is opened.
abbrev pub ends_held : What → Bool
ends_held Begins = true
ends_held Opens = true
ends_held Closes = true
ends_held HangsUp = true
ends_held _ = false

-- What is kept aside ends here: another game has it, or a call begins.
abbrev pub ends_aside : What → Bool
ends_aside Begins = true
ends_aside Lends = true
ends_aside _ = false

-- Both are the same number.
abbrev pub are_same : Option (List ℕ) → Option (List ℕ) → Bool
are_same None other = false
are_same (Some number) None = false
are_same (Some number) (Some other) = bytes_eq number other

-- What is held while it isn't known whose board has sent it.
abbrev pub held_by : Handling → List ℕ → List ℕ
held_by Hold come = limited come
held_by _ come = []

abbrev pub held : List Turn → List ℕ
held [] = []
held (turn ∷ turns) = held_by (handling_of turn) ((if ends_held turn.moment.what then [] else held turns) ++ sent turn.moment)

-- The number of the board whose bytes are kept aside.
abbrev pub owner_by : Handling → Option (List ℕ) → Option (List ℕ)
owner_by Keep before = None
owner_by Hold before = before
owner_by (Other number) before = Some number

abbrev pub owner : List Turn → Option (List ℕ)
owner [] = None
owner (turn ∷ turns) = owner_by (handling_of turn) (owner turns)

-- What is kept aside: all that the board has sent that was last known to be another one.
abbrev pub aside_by : Handling → Option (List ℕ) → List ℕ → List ℕ → List ℕ
aside_by Keep owner before come = []
aside_by Hold owner before come = before
aside_by (Other number) owner before come = limited ((if are_same owner (Some number) then before else []) ++ come)

abbrev pub aside : List Turn → List ℕ
aside [] = []
aside (turn ∷ turns) = aside_by (handling_of turn) (owner turns) (if ends_aside turn.moment.what then [] else aside turns)
    ((if ends_held turn.moment.what then [] else held turns) ++ sent turn.moment)

-- What the game gets of what was kept back: what was kept aside, if that board is its own now, and what was held.
abbrev pub released_by : Handling → Option (List ℕ) → Option (List ℕ) → List ℕ → List ℕ → List ℕ
released_by Keep own owner aside held = (if are_same owner own then aside else []) ++ held
released_by _ own owner aside held = []

abbrev pub released : List Turn → List ℕ
released [] = []
released (turn ∷ turns) = released_by (handling_of turn) (own_number turn.now) (owner turns)
    (if ends_aside turn.moment.what then [] else aside turns) (if ends_held turn.moment.what then [] else held turns)

-- What the game gets: that, and then what the board has sent now.
abbrev pub kept_by : Handling → List ℕ → List ℕ → List ℕ
kept_by Keep released sent = released ++ sent
kept_by _ released sent = []

abbrev pub kept : List Turn → List ℕ
kept [] = []
kept (turn ∷ turns) = kept_by (handling_of turn) (released (turn ∷ turns)) (sent turn.moment)

-- This is kept back after these turns.
pub record HasBack (back : Back) (turns : List Turn) : Type 0 where
  pub held_is : back.held.items ≡ held turns
  pub aside_is : back.aside.items ≡ aside turns
  pub owner_is : back.owner ≡ owner turns
  pub released_is : back.released.items ≡ released turns
