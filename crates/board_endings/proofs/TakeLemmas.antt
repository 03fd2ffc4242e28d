-- What stands once something is told.
use Rattle.std.proofs.Common.{◌≡◌, ℕ, Bool, true, false, if◌then◌else◌, List, ◌∷◌, refl}
use Rattle.std.specs.Prelude.{is_some}
use Rattle.game_over.specs.declared.happened.Event.{Event}
use Rattle.game_over.specs.Over.{ended_by, hears, passes}
use Rattle.board_endings.specs.Telling.{heard, timed}

one_more : (ends : Bool) (event : Event) (past : List Event) → ends ≡ true → (if ends then event ∷ past else past) ≡ event ∷ past
one_more true event past h = refl
one_more false event past h = absurd cc

none_more : (ends : Bool) (event : Event) (past : List Event) → ends ≡ false → (if ends then event ∷ past else past) ≡ past
none_more true event past h = absurd cc
none_more false event past h = refl

-- Time has ended the game by then, or it hasn't.
pub timed_more : (at bytes : ℕ) (past : List Event) → is_some (ended_by (passes at bytes) past) ≡ true → timed at bytes past ≡ passes at bytes ∷ past
timed_more at bytes past h = one_more (is_some (ended_by (passes at bytes) past)) (passes at bytes) past h

pub timed_none : (at bytes : ℕ) (past : List Event) → is_some (ended_by (passes at bytes) past) ≡ false → timed at bytes past ≡ past
timed_none at bytes past h = none_more (is_some (ended_by (passes at bytes) past)) (passes at bytes) past h

-- The board is heard then, and that ends the game, or it doesn't.
pub heard_more : (at bytes : ℕ) (past : List Event) → is_some (ended_by (hears at bytes) past) ≡ true → heard at bytes past ≡ hears at bytes ∷ past
heard_more at bytes past h = one_more (is_some (ended_by (hears at bytes) past)) (hears at bytes) past h

pub heard_none : (at bytes : ℕ) (past : List Event) → is_some (ended_by (hears at bytes) past) ≡ false → heard at bytes past ≡ past
heard_none at bytes past h = none_more (is_some (ended_by (hears at bytes) past)) (hears at bytes) past h
