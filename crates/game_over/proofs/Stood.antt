-- How long a move stood.
use Rattle.std.proofs.Common.{◌≡◌, ◌≢◌, inl, inr, not, ℕ, Bool, true, false, List, [], ◌∷◌, ◌++◌, Option, Some, None, length, refl, sym, ap, ◌∙◌, append_assoc}
use Rattle.std.specs.Prelude.{if◌then◌else◌, slice_get}
use Rattle.std.proofs.lemmas.Bool.{true≢false}
use Rattle.square_runs.specs.Lasting.{carry}
use Rattle.game_over.specs.declared.happened.Event.{Event}
use Rattle.game_over.specs.declared.happened.Happening.{Happening}
use Rattle.game_over.specs.declared.happened.Happening.TheVariants.{Moves, Agrees, Differs}
use Rattle.game_over.specs.declared.happened.Move.{Move}
use Rattle.game_over.specs.declared.made.Made.{Made}
use Rattle.game_over.specs.declared.moves.Last.{Last}
use Rattle.game_over.specs.Moves.{earlier_by, earlier_moves, last_by, last_move, listed_move, made_of, moves, new_move, showed_by, shown_by, stood_of}
use Rattle.game_over.specs.SettingUp.{IsListed, IsShown, NoMove, StaysAway, StoodUntilLeft, is_move, moves_at}
use Rattle.game_over.proofs.Behind.{both_longer, showed_alike}
use Rattle.game_over.proofs.Staying.{at_end}

-- The move is the last one, and the board shows something else since then, or doesn't.
record IsLast (move : Move) (at : ℕ) (left : Option ℕ) (before : Option Last) : Type 0 where
  last : Last
  is : before ≡ Some last
  played_is : last.played ≡ move
  since : last.at ≡ at
  left_is : last.left ≡ left

by_picture : (agrees : Bool) (move : Move) (at time : ℕ) (left : Option ℕ) (before : Option Last) → IsLast move at left before
    → IsLast move at (if agrees then None else carry true time left) (showed_by agrees time before)
by_picture agrees move at time left before h = record {
  last = shown_by agrees time h.last;
  is = ap (showed_by agrees time) h.is;
  played_is = h.played_is;
  since = h.since;
  left_is = ap (λ (o : Option ℕ). if agrees then None else carry true time o) h.left_is;
}

-- Without a move the last one stays.
stays_last : (what : Happening) (time more : ℕ) (move : Move) (at : ℕ) (left : Option ℕ) (before : Option Last) → is_move what ≡ false
    → IsLast move at left before → (now : Option ℕ) × IsLast move at now (last_by what time more before)
stays_last (Moves other) time more move at left before none h = absurd (true≢false none)
stays_last Agrees time more move at left before none h = (None, by_picture true move at time left before h)
stays_last Differs time more move at left before none h = (carry true time left, by_picture false move at time left before h)
stays_last _ time more move at left before none h = (left, h)

some_last : (move : Move) (at bytes : ℕ) (past later : List Event) → NoMove later
    → (left : Option ℕ) × IsLast move at left (last_move (later ++ moves_at move at bytes ∷ past))
some_last move at bytes past [] none = (None, record { last = new_move move at bytes; is = refl; played_is = refl; since = refl; left_is = refl })
some_last move at bytes past (event ∷ later) none =
    let before = some_last move at bytes past later none.1 in
    stays_last event.what event.at event.bytes move at before.0 (last_move (later ++ moves_at move at bytes ∷ past)) none.0 before.1

-- An agreement shows it again.
by_other : (what : Happening) (time more : ℕ) (move : Move) (at : ℕ) (before : Option Last) → is_move what ≡ false → what ≢ Differs
    → IsLast move at None before → IsLast move at None (last_by what time more before)
by_other (Moves other) time more move at before none neither h = absurd (true≢false none)
by_other Agrees time more move at before none neither h = by_picture true move at time None before h
by_other Differs time more move at before none neither h = absurd (neither refl)
by_other _ time more move at before none neither h = h

shown_last : (move : Move) (at bytes : ℕ) (past shown : List Event) → IsShown shown
    → IsLast move at None (last_move (shown ++ moves_at move at bytes ∷ past))
shown_last move at bytes past [] h = record { last = new_move move at bytes; is = refl; played_is = refl; since = refl; left_is = refl }
shown_last move at bytes past (event ∷ shown) (none, inl agrees) =
    let before : Option Last = last_move (shown ++ moves_at move at bytes ∷ past) in
    let last = some_last move at bytes past shown none.1 in
    rw agrees (by_picture true move at event.at last.0 before last.1)
shown_last move at bytes past (event ∷ shown) (none, inr (neither, h)) =
    let before : Option Last = last_move (shown ++ moves_at move at bytes ∷ past) in
    by_other event.what event.at event.bytes move at before none.0 neither (shown_last move at bytes past shown h)

away_last : (what : Happening) (time more : ℕ) (move : Move) (at left : ℕ) (before : Option Last) → what ≢ Agrees → is_move what ≡ false
    → IsLast move at (Some left) before → IsLast move at (Some left) (last_by what time more before)
away_last (Moves other) time more move at left before not none h = absurd (true≢false none)
away_last Agrees time more move at left before not none h = absurd (not refl)
away_last Differs time more move at left before not none h = by_picture false move at time (Some left) before h
away_last _ time more move at left before not none h = h

stays_away : (move : Move) (at left : ℕ) (rest base : List Event) → StaysAway rest → IsLast move at (Some left) (last_move base)
    → IsLast move at (Some left) (last_move (rest ++ base))
stays_away move at left [] base h last = last
stays_away move at left (event ∷ rest) base h last =
    away_last event.what event.at event.bytes move at left (last_move (rest ++ base)) h.0 h.1 (stays_away move at left rest base h.2 last)

-- No move is listed meanwhile.
not_listed : (what : Happening) (at : ℕ) (last : Option Last) (before : List Made) → is_move what ≡ false → earlier_by what at last before ≡ before
not_listed (Moves move) at last before none = absurd (true≢false none)
not_listed _ at last before none = refl

none_listed : (later base : List Event) → NoMove later → earlier_moves (later ++ base) ≡ earlier_moves base
none_listed [] base none = refl
none_listed (event ∷ later) base none =
    not_listed event.what event.at (last_move (later ++ base)) (earlier_moves (later ++ base)) none.0 ∙ none_listed later base none.1

no_move : (shown : List Event) → IsShown shown → NoMove shown
no_move [] h = tt
no_move (event ∷ shown) h = h.0

no_more : (rest base : List Event) → StaysAway rest → NoMove base → NoMove (rest ++ base)
no_more [] base h none = none
no_more (event ∷ rest) base h none = (h.1, no_more rest base h.2 none)

-- The last move is listed behind those of the past.
pub listed_there : (move : Move) (at bytes : ℕ) (last : Last) (past later : List Event) → NoMove later
    → last_move (later ++ moves_at move at bytes ∷ past) ≡ Some last
    → slice_get (moves (later ++ moves_at move at bytes ∷ past)) (length (moves past)) ≡ Some (made_of last)
listed_there move at bytes last past later none is =
    let all : List Event = later ++ moves_at move at bytes ∷ past in
    let earlier : List Made = earlier_moves (moves_at move at bytes ∷ past) in
    let many : length earlier ≡ length (moves past) =
    both_longer (earlier_moves past) (listed_move (showed_by false at (last_move past))) (earlier_moves past) (listed_move (last_move past)) refl
    (showed_alike at (last_move past)) in
    let list : moves all ≡ earlier ++ made_of last ∷ [] =
    ap (λ (xs : List Made). xs ++ listed_move (last_move all)) (none_listed later (moves_at move at bytes ∷ past) none)
    ∙ ap (λ (o : Option Last). earlier ++ listed_move o) is in
    ap (λ (xs : List Made). slice_get xs (length (moves past))) list ∙ ap (slice_get (earlier ++ made_of last ∷ [])) (sym many) ∙ at_end earlier (made_of last)

listed : (move : Move) (at bytes : ℕ) (left : Option ℕ) (past later : List Event) → NoMove later
    → IsLast move at left (last_move (later ++ moves_at move at bytes ∷ past))
    → IsListed move (stood_of at left) past (later ++ moves_at move at bytes ∷ past)
listed move at bytes left past later none h =
    record {
      made = made_of h.last;
      there = listed_there move at bytes h.last past later none h.is;
      stood_is = ap (λ (n : ℕ). stood_of n h.last.left) h.since ∙ ap (stood_of at) h.left_is;
      home = ap (λ (m : Move). m.goes_home) h.played_is;
      corrects = ap (λ (m : Move). m.corrects) h.played_is;
      added = ap (λ (m : Move). m.is_added) h.played_is;
    }

pub stood_until_left : StoodUntilLeft
stood_until_left move at bytes left past shown rest h =
    let here = shown_last move at bytes past shown h in
    let base : List Event = shown ++ moves_at move at bytes ∷ past in (
      listed move at bytes None past shown (no_move shown h) here,
      λ differs away.
          let gone : IsLast move at (Some left.at) (last_move (left ∷ base)) = rw differs (by_picture false move at left.at None (last_move base) here) in
          let again : rest ++ left ∷ base ≡ (rest ++ left ∷ shown) ++ moves_at move at bytes ∷ past = sym (append_assoc rest (left ∷ shown) (moves_at move at bytes ∷ past)) in
          let none : NoMove (rest ++ left ∷ shown) = no_more rest (left ∷ shown) away (ap is_move differs, no_move shown h) in
          let last : IsLast move at (Some left.at) (last_move ((rest ++ left ∷ shown) ++ moves_at move at bytes ∷ past)) =
          rw (sym again) (stays_away move at left.at rest (left ∷ base) away gone) in
          rw again (listed move at bytes (Some left.at) past (rest ++ left ∷ shown) none last),
    )
