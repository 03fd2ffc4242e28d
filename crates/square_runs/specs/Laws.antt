-- What it means that something has held. Pictures are listed with the latest first.
use Rattle.std.specs.Prelude.{◌≡◌, ◌<◌, ◌≤◌, ◌+◌, ◌^◌, ◌↔◌, ◌⊎◌, ℕ, true, List, [], ◌∷◌, Option, IsTrue, ⊤}
use Rattle.square_runs.specs.Lasting.{IsBefore, has_lasted, will_have_lasted}
use Rattle.square_runs.specs.Shown.{Shown, Test, has_held}

-- The pictures come in order, none later than this.
abbrev pub InOrder : ℕ → List Shown → Type 0
InOrder now [] = ⊤
InOrder now (picture ∷ before) = (picture.time ≤ now) × InOrder picture.time before

-- Each picture that stood at this moment meets the test. A picture stands from its time until that of the next one.
abbrev pub EachStanding : Test → ℕ → List Shown → Type 0
EachStanding test moment [] = ⊤
EachStanding test moment (picture ∷ before) = (picture.time ≤ moment → test picture before ≡ true)
    × (moment ≤ picture.time → EachStanding test moment before)

-- A picture had been shown by this time.
abbrev pub ShownBy : ℕ → List Shown → Type 0
ShownBy time [] = ⊥
ShownBy time (picture ∷ before) = (picture.time ≤ time) ⊎ ShownBy time before

-- For this time, up to now: when it began a picture had been shown, and at each moment after that each picture that stood
-- met the test.
abbrev pub HoldsThroughout : Test → ℕ → ℕ → List Shown → Type 0
HoldsThroughout test span now past = (start : ℕ) × (start + span ≡ now) × ShownBy start past
    × ((moment : ℕ) → start < moment → moment ≤ now → EachStanding test moment past)

-- What has held for a time is what held throughout it.
abbrev pub HeldIsThroughout : Type 0
HeldIsThroughout = (test : Test) (span now : ℕ) (past : List Shown) → 0 < span → InOrder now past
    → (IsTrue (has_held test span now past) ↔ HoldsThroughout test span now past)

-- Whether it has lasted for this time stays the same until it will have.
abbrev pub SameUntilDue : Type 0
SameUntilDue = (span now later : ℕ) (since : Option ℕ) → now ≤ later → later < 2 ^ 64
    → IsBefore later (will_have_lasted span now since) → has_lasted span later since ≡ has_lasted span now since
