-- A move that stood, or was added, stays.
use Rattle.std.proofs.Common.{◌≡◌, ◌≤◌, ◌+◌, ◌-◌, ◌⊎◌, ◌&&◌, inl, inr, not, ℕ, zero, suc, Bool, true, false, List, [], ◌∷◌, ◌++◌, Option, Some, None, length, refl, sym, ap, ◌∙◌, arith}
use Rattle.std.specs.Prelude.{slice_get, ⊤}
use Rattle.std.proofs.lemmas.Bool.{le-leb}
use Rattle.square_runs.specs.Lasting.{carry}
use Rattle.game_over.specs.declared.made.Made.{Made}
use Rattle.game_over.specs.Unfinished.{may_go, stood_for}
use Rattle.game_over.specs.declared.happened.Happening.{Happening}
use Rattle.game_over.specs.declared.happened.Happening.TheVariants.{Moves, Agrees, Differs, Shows, Ends, Declares, Reopens, Resumes, GoesBack, Passes, Hears}
use Rattle.game_over.specs.declared.happened.Move.{Move}
use Rattle.game_over.specs.declared.moves.Last.{Last}
use Rattle.game_over.specs.Laws.{changes}
use Rattle.game_over.specs.Moves.{earlier_by, last_by, listed_move, made_of, new_move, showed_by, shown_by, stood_of}

pub kept_in : {A : Type 0} (xs ys : List A) (n : ℕ) (x : A) → slice_get xs n ≡ Some x → slice_get (xs ++ ys) n ≡ Some x
kept_in [] ys n x h = absurd cc
kept_in (y ∷ xs) ys zero x h = h
kept_in (y ∷ xs) ys (suc n) x h = kept_in xs ys n x h

pub at_end : {A : Type 0} (xs : List A) (y : A) → slice_get (xs ++ y ∷ []) (length xs) ≡ Some y
at_end [] y = refl
at_end (x ∷ xs) y = at_end xs y

pub in_end : {A : Type 0} (xs : List A) (y x : A) (k : ℕ) → slice_get (xs ++ y ∷ []) k ≡ Some x → (slice_get xs k ≡ Some x) ⊎ (y ≡ x)
in_end [] y x zero h = inr cc
in_end [] y x (suc k) h = absurd cc
in_end (z ∷ xs) y x zero h = inl h
in_end (z ∷ xs) y x (suc k) h = in_end xs y x k h

-- what stood until then, or longer
pub LeftBy : ℕ → Option ℕ → Type 0
LeftBy until None = ⊤
LeftBy until (Some left) = until ≤ left

stood_long : (at until : ℕ) (left : Option ℕ) → at + 3000 ≡ until → LeftBy until left → stood_for (stood_of at left) 3000 ≡ true
unfolding LeftBy
stood_long at until None is h = refl
stood_long at until (Some left) is h = le-leb 3000 (left - at) (omega (arith, is, h))

carried_by : (until at : ℕ) (left : Option ℕ) → until ≤ at → LeftBy until left → LeftBy until (carry true at left)
unfolding LeftBy
carried_by until at None late h = late
carried_by until at (Some left) late h = h

neither : (added stood : Bool) → (added ≡ true) ⊎ (stood ≡ true) → (not added && not stood) ≡ false
neither true stood h = refl
neither false true h = refl
neither false false (inl h) = sym h
neither false false (inr h) = sym h

-- the move is the last one, with this before it; or it is among the earlier ones
pub record InLast (added : Bool) (n until : ℕ) (last : Last) (earlier : List Made) : Type 0 where
  pub many : length earlier ≡ n
  pub time : last.at + 3000 ≡ until
  pub added_is : last.played.is_added ≡ added
  pub safe : (added ≡ true) ⊎ LeftBy until last.left

pub record InEarlier (n : ℕ) (made : Made) (earlier : List Made) : Type 0 where
  pub there : slice_get earlier n ≡ Some made
  pub safe : may_go made ≡ false

pub IsIn : Bool → ℕ → ℕ → Option Last → List Made → Type 0
IsIn added n until before earlier = ((last : Last) × (before ≡ Some last) × InLast added n until last earlier) ⊎ ((made : Made) × InEarlier n made earlier)

-- what is safe stays so when the board shows something else
left_later : (added : Bool) (until at : ℕ) (left : Option ℕ) → (added ≡ true) ⊎ LeftBy until left → (added ≡ true) ⊎ (until ≤ at)
    → (added ≡ true) ⊎ LeftBy until (carry true at left)
left_later added until at left (inl a) late = inl a
left_later added until at left (inr h) (inl a) = inl a
left_later added until at left (inr h) (inr late) = inr (carried_by until at left late h)

safe_made : (added also stood : Bool) (until at : ℕ) (left : Option ℕ) → also ≡ added → at + 3000 ≡ until → (added ≡ true) ⊎ LeftBy until left
    → (not also && not (stood_for (stood_of at left) 3000)) ≡ false
safe_made added also stood until at left is time (inl a) = neither also (stood_for (stood_of at left) 3000) (inl (is ∙ a))
safe_made added also stood until at left is time (inr h) = neither also (stood_for (stood_of at left) 3000) (inr (stood_long at until left time h))

moved : (added : Bool) (n until at : ℕ) (before after : Option Last) (earlier : List Made) → (added ≡ true) ⊎ (until ≤ at)
    → IsIn added n until before earlier → IsIn added n until after (earlier ++ listed_move (showed_by false at before))
unfolding IsIn
moved added n until at before after earlier late (inl (last, is, l)) =
    let made : Made = made_of (shown_by false at last) in
    inr (
      made,
      record {
        there = ap (λ b. slice_get (earlier ++ listed_move (showed_by false at b)) n) is ∙ ap (slice_get (earlier ++ made ∷ [])) (sym l.many) ∙ at_end earlier made;
        safe = safe_made added last.played.is_added true until last.at (carry true at last.left) l.added_is l.time (left_later added until at last.left l.safe late);
      },
    )
moved added n until at before after earlier late (inr (made, e)) =
    inr (made, record { there = kept_in earlier (listed_move (showed_by false at before)) n made e.there; safe = e.safe })

agreed : (added : Bool) (n until at : ℕ) (before : Option Last) (earlier : List Made) → IsIn added n until before earlier
    → IsIn added n until (showed_by true at before) earlier
unfolding IsIn LeftBy
agreed added n until at before earlier (inl (last, is, l)) =
    inl (shown_by true at last, ap (showed_by true at) is, record { many = l.many; time = l.time; added_is = l.added_is; safe = inr tt })
agreed added n until at before earlier (inr e) = inr e

differed : (added : Bool) (n until at : ℕ) (before : Option Last) (earlier : List Made) → (added ≡ true) ⊎ (until ≤ at)
    → IsIn added n until before earlier → IsIn added n until (showed_by false at before) earlier
unfolding IsIn
differed added n until at before earlier late (inl (last, is, l)) =
    inl (
      shown_by false at last,
      ap (showed_by false at) is,
      record {
        many = l.many;
        time = l.time;
        added_is = l.added_is;
        safe = left_later added until at last.left l.safe late;
      },
    )
differed added n until at before earlier late (inr e) = inr e

pub step : (what : Happening) (at bytes : ℕ) (added : Bool) (n until : ℕ) (before : Option Last) (earlier : List Made)
    → (changes what ≡ true → (added ≡ true) ⊎ (until ≤ at)) → IsIn added n until before earlier
    → IsIn added n until (last_by what at bytes before) (earlier_by what at before earlier)
step (Moves move) at bytes added n until before earlier late h = moved added n until at before (Some (new_move move at bytes)) earlier (late refl) h
step Agrees at bytes added n until before earlier late h = agreed added n until at before earlier h
step Differs at bytes added n until before earlier late h = differed added n until at before earlier (late refl) h
step (Shows shown) at bytes added n until before earlier late h = h
step (Ends outcome by_hand) at bytes added n until before earlier late h = h
step (Declares outcome by_hand) at bytes added n until before earlier late h = h
step Reopens at bytes added n until before earlier late h = h
step Resumes at bytes added n until before earlier late h = h
step GoesBack at bytes added n until before earlier late h = h
step Passes at bytes added n until before earlier late h = h
step Hears at bytes added n until before earlier late h = h

-- at the end: the move is among all, and may not go
pub found : (added : Bool) (n until : ℕ) (before : Option Last) (earlier : List Made) → IsIn added n until before earlier
    → (made : Made) × (slice_get (earlier ++ listed_move before) n ≡ Some made) × (may_go made ≡ false)
unfolding IsIn
found added n until before earlier (inl (last, is, l)) =
    let made : Made = made_of last in (
      made,
      ap (λ b. slice_get (earlier ++ listed_move b) n) is ∙ ap (slice_get (earlier ++ made ∷ [])) (sym l.many) ∙ at_end earlier made,
      safe_made added last.played.is_added true until last.at last.left l.added_is l.time l.safe,
    )
found added n until before earlier (inr (made, e)) = (made, kept_in earlier (listed_move before) n made e.there, e.safe)

-- a move that is made just now
pub made_now : (move : Move) (n until at bytes : ℕ) (earlier : List Made) → length earlier ≡ n → at + 3000 ≡ until
    → IsIn move.is_added n until (Some (new_move move at bytes)) earlier
unfolding IsIn LeftBy
made_now move n until at bytes earlier many time =
    inl (new_move move at bytes, refl, record { many = many; time = time; added_is = refl; safe = inr tt })
