-- What stays is in the game's bytes.
use Rattle.std.proofs.Common.{◌≡◌, ◌<◌, ◌≤◌, ◌+◌, ◌-◌, inl, inr, ℕ, Bool, true, false, List, [], ◌∷◌, ◌++◌, Option, Some, None, length, refl, sym, ap, ◌∙◌, arith, rules}
use Rattle.std.specs.Prelude.{slice_get, ⊤}
use Rattle.std.proofs.lemmas.Bool.{cases_Bool, cases_lt, true≢false}
use Rattle.std.proofs.lemmas.List.{append-nil, length-append}
use Rattle.std.proofs.lemmas.Option.{slice_get_cases, slice_get_within}
use Rattle.game_over.specs.declared.made.Made.{Made}
use Rattle.game_over.specs.Unfinished.{LosesTail, may_go}
use Rattle.game_over.specs.declared.happened.Event.{Event}
use Rattle.game_over.specs.declared.happened.Happening.{Happening}
use Rattle.game_over.specs.declared.happened.Happening.TheVariants.{Moves, Agrees, Differs, Shows, Ends, Declares, Reopens, Resumes, GoesBack, Passes, Hears}
use Rattle.game_over.specs.declared.happened.Move.{Move}
use Rattle.game_over.specs.declared.moves.Last.{Last}
use Rattle.game_over.specs.declared.moves.Place.{Place}
use Rattle.game_over.specs.declared.result.Given.{Given}
use Rattle.game_over.specs.declared.said.Over.{Over}
use Rattle.game_over.specs.declared.said.Said.TheVariants.{IsOver}
use Rattle.game_over.specs.Laws.{IsBehind, IsUnchanged, MovesStay, OnlySetUpGoes}
use Rattle.game_over.specs.Moves.{earlier_by, earlier_moves, earlier_places, earlier_places_by, last_by, last_move, listed_move, listed_place, moves, place_of, places, showed_by}
use Rattle.game_over.specs.Over.{has_result}
use Rattle.game_over.specs.Result.{given_by, last_given}
use Rattle.game_over.specs.Said.{IsSaid}
use Rattle.game_over.proofs.Endings.{ends_with_result}
use Rattle.game_over.proofs.Staying.{IsIn, found, in_end, made_now, step}

LastBehind : ℕ → Option Last → Type 0
LastBehind bytes None = ⊤
LastBehind bytes (Some last) = bytes ≤ last.bytes

GivenBehind : ℕ → Option Given → Type 0
GivenBehind bytes None = ⊤
GivenBehind bytes (Some given) = bytes ≤ given.bytes

-- each place from this number on
PlacesBehind : ℕ → ℕ → List Place → Type 0
PlacesBehind n bytes all = (k : ℕ) (place : Place) → n ≤ k → slice_get all k ≡ Some place → bytes ≤ place.bytes

appended : (n bytes : ℕ) (all : List Place) (last : Option Last) (given : Option Given) → PlacesBehind n bytes all → LastBehind bytes last
    → PlacesBehind n bytes (all ++ listed_place last given)
unfolding PlacesBehind LastBehind
appended n bytes all None given behind h k place from is = behind k place from (ap (λ xs. slice_get xs k) (sym (append-nil all)) ∙ is)
appended n bytes all (Some last) given behind h k place from is =
    elim (in_end all (place_of last given) place k is) [
      | inl old ↦ behind k place from old
      | inr new ↦ let same : last.bytes ≡ place.bytes = ap (λ p. p.bytes) new in omega (arith, same, h)
    ]

places_step : (what : Happening) (n bytes : ℕ) (last : Option Last) (given : Option Given) (all : List Place) → PlacesBehind n bytes all
    → LastBehind bytes last → PlacesBehind n bytes (earlier_places_by what last given all)
places_step (Moves move) n bytes last given all behind h = appended n bytes all last given behind h
places_step Agrees n bytes last given all behind h = behind
places_step Differs n bytes last given all behind h = behind
places_step (Shows shown) n bytes last given all behind h = behind
places_step (Ends outcome added) n bytes last given all behind h = behind
places_step (Declares outcome added) n bytes last given all behind h = behind
places_step Reopens n bytes last given all behind h = behind
places_step Resumes n bytes last given all behind h = behind
places_step GoesBack n bytes last given all behind h = behind
places_step Passes n bytes last given all behind h = behind
places_step Hears n bytes last given all behind h = behind

showed_behind : (bytes at : ℕ) (agrees : Bool) (last : Option Last) → LastBehind bytes last → LastBehind bytes (showed_by agrees at last)
unfolding LastBehind
showed_behind bytes at agrees None h = h
showed_behind bytes at agrees (Some last) h = h

last_step : (what : Happening) (at more bytes : ℕ) (last : Option Last) → bytes ≤ more → LastBehind bytes last → LastBehind bytes (last_by what at more last)
unfolding LastBehind
last_step (Moves move) at more bytes last later h = later
last_step Agrees at more bytes last later h = showed_behind bytes at true last h
last_step Differs at more bytes last later h = showed_behind bytes at false last h
last_step (Shows shown) at more bytes last later h = h
last_step (Ends outcome added) at more bytes last later h = h
last_step (Declares outcome added) at more bytes last later h = h
last_step Reopens at more bytes last later h = h
last_step Resumes at more bytes last later h = h
last_step GoesBack at more bytes last later h = h
last_step Passes at more bytes last later h = h
last_step Hears at more bytes last later h = h

resumed_behind : (at more bytes : ℕ) (given : Option Given) → GivenBehind bytes given → GivenBehind bytes (given_by Resumes at more given)
unfolding GivenBehind
resumed_behind at more bytes None h = h
resumed_behind at more bytes (Some given) h = h

given_step : (what : Happening) (at more bytes : ℕ) (given : Option Given) → bytes ≤ more → GivenBehind bytes given
    → GivenBehind bytes (given_by what at more given)
unfolding GivenBehind
given_step (Moves move) at more bytes given later h = tt
given_step Agrees at more bytes given later h = h
given_step Differs at more bytes given later h = h
given_step (Shows shown) at more bytes given later h = h
given_step (Ends outcome added) at more bytes given later h = later
given_step (Declares outcome added) at more bytes given later h = later
given_step Reopens at more bytes given later h = tt
given_step Resumes at more bytes given later h = resumed_behind at more bytes given h
given_step GoesBack at more bytes given later h = h
given_step Passes at more bytes given later h = h
given_step Hears at more bytes given later h = h

-- There are as many places as moves.
listed_alike : (last : Option Last) (given : Option Given) → length (listed_place last given) ≡ length (listed_move last)
listed_alike None given = refl
listed_alike (Some last) given = refl

pub showed_alike : (at : ℕ) (last : Option Last) → length (listed_move (showed_by false at last)) ≡ length (listed_move last)
showed_alike at None = refl
showed_alike at (Some last) = refl

pub both_longer : {A B : Type 0} (xs more : List A) (ys others : List B) → length xs ≡ length ys → length more ≡ length others → length (xs ++ more) ≡ length (ys ++ others)
both_longer xs more ys others h g = length-append xs more ∙ ap (λ n. n + length more) h ∙ ap (λ n. length ys + n) g ∙ sym (length-append ys others)

as_many_by : (what : Happening) (at : ℕ) (last : Option Last) (given : Option Given) (all : List Place) (earlier : List Made) → length all ≡ length earlier
    → length (earlier_places_by what last given all) ≡ length (earlier_by what at last earlier)
as_many_by (Moves move) at last given all earlier h =
    both_longer all (listed_place last given) earlier (listed_move (showed_by false at last)) h (listed_alike last given ∙ sym (showed_alike at last))
as_many_by Agrees at last given all earlier h = h
as_many_by Differs at last given all earlier h = h
as_many_by (Shows shown) at last given all earlier h = h
as_many_by (Ends outcome added) at last given all earlier h = h
as_many_by (Declares outcome added) at last given all earlier h = h
as_many_by Reopens at last given all earlier h = h
as_many_by Resumes at last given all earlier h = h
as_many_by GoesBack at last given all earlier h = h
as_many_by Passes at last given all earlier h = h
as_many_by Hears at last given all earlier h = h

as_many : (past : List Event) → length (earlier_places past) ≡ length (earlier_moves past)
as_many [] = refl
as_many (event ∷ past) =
    as_many_by event.what event.at (last_move past) (last_given past) (earlier_places past) (earlier_moves past) (as_many past)

all_as_many : (past : List Event) → length (places past) ≡ length (moves past)
all_as_many past =
    both_longer (earlier_places past) (listed_place (last_move past) (last_given past)) (earlier_moves past) (listed_move (last_move past)) (as_many past)
    (listed_alike (last_move past) (last_given past))

-- what holds of the move with this number, in all later lists
record Kept (added : Bool) (n until bytes : ℕ) (list : List Event) : Type 0 where
  pub is_in : IsIn added n until (last_move list) (earlier_moves list)
  pub all : PlacesBehind n bytes (earlier_places list)
  pub last : LastBehind bytes (last_move list)
  pub given : GivenBehind bytes (last_given list)

none_yet : (n bytes : ℕ) (all : List Place) → length all ≡ n → PlacesBehind n bytes all
unfolding PlacesBehind
none_yet n bytes all many k place from is =
    let low : k < length all = slice_get_within all k place is in
    absurd (omega (arith, low, many, from))

new_event : Move → ℕ → ℕ → Event
new_event move at bytes = record { at = at; bytes = bytes; what = Moves move }

kept_first : (move : Move) (at bytes : ℕ) (past : List Event)
    → Kept move.is_added (length (moves past)) (at + 3000) bytes (new_event move at bytes ∷ past)
unfolding new_event LastBehind GivenBehind
kept_first move at bytes past = record {
  is_in = made_now move (length (moves past)) (at + 3000) at bytes (earlier_moves (new_event move at bytes ∷ past))
      (both_longer (earlier_moves past) (listed_move (showed_by false at (last_move past))) (earlier_moves past) (listed_move (last_move past)) refl
      (showed_alike at (last_move past))) refl;
  all = none_yet (length (moves past)) bytes (places past) (all_as_many past);
  last = omega arith;
  given = tt;
}

kept_later : (added : Bool) (n until bytes : ℕ) (later base : List Event) → IsBehind bytes later → IsUnchanged added until later
    → Kept added n until bytes base → Kept added n until bytes (later ++ base)
kept_later added n until bytes [] base behind still h = h
kept_later added n until bytes (event ∷ later) base behind still h =
    let before = kept_later added n until bytes later base behind.1 still.1 h in
    record {
      is_in = step event.what event.at event.bytes added n until (last_move (later ++ base)) (earlier_moves (later ++ base)) still.0 before.is_in;
      all = places_step event.what n bytes (last_move (later ++ base)) (last_given (later ++ base)) (earlier_places (later ++ base)) before.all before.last;
      last = last_step event.what event.at event.bytes bytes (last_move (later ++ base)) behind.0 before.last;
      given = given_step event.what event.at event.bytes bytes (last_given (later ++ base)) behind.0 before.given;
    }

-- A move that may not go is among those that stay.
stays : (n kept : ℕ) (made : Made) (all : List Made) → slice_get all n ≡ Some made → may_go made ≡ false → LosesTail kept all → n < kept
stays n kept made all there safe loses =
    elim (cases_lt n kept) [
      | inl less ↦ less
      | inr more ↦ absurd (true≢false (sym (loses.gone n made more there) ∙ safe))
    ]

place_of_last : (n kept bytes most : ℕ) (all : List Place) → n < kept → kept ≤ length all → PlacesBehind n bytes all
    → ((place : Place) → slice_get all (kept - 1) ≡ Some place → place.bytes ≤ most) → bytes ≤ most
unfolding PlacesBehind
place_of_last n kept bytes most all low fits behind is_most =
    let there = slice_get_cases all (kept - 1) in
    elim there.1 [
      | inl it ↦
          let more : bytes ≤ (it.0).bytes = behind (kept - 1) it.0 (omega (arith, low)) it.2 in
          let less : (it.0).bytes ≤ most = is_most it.0 it.2 in
          omega (arith, more, less)
      | inr past ↦ let far : length all ≤ kept - 1 = past.0 in absurd (omega (arith, far, low, fits))
    ]

bytes_of : Option Given → ℕ
bytes_of None = 0
bytes_of (Some given) = given.bytes

given_behind : (bytes most : ℕ) (given : Option Given) (one : Given) → given ≡ Some one → GivenBehind bytes given → one.bytes ≤ most → bytes ≤ most
unfolding GivenBehind bytes_of
given_behind bytes most None one is h low = absurd cc
given_behind bytes most (Some given) one is h low =
    let same : given.bytes ≡ one.bytes = ap bytes_of is in omega (arith, same, h, low)

only_set_up_goes : OnlySetUpGoes
only_set_up_goes over event past said has = search rules

stays_for : (added : Bool) (n until bytes : ℕ) (list : List Event) (event : Event) (over : Over) → Kept added n until bytes list
    → IsSaid (IsOver over) event list → bytes ≤ over.bytes
stays_for added n until bytes list event over kept said =
    elim (cases_Bool (has_result (Some over.why))) [
      | inl has ↦
          let ends = ends_with_result over event list said has in
          given_behind bytes over.bytes (last_given list) ends.0 ends.1 kept.given ends.3
      | inr none ↦
          let goes = only_set_up_goes over event list said none in
          let made = found added n until (last_move list) (earlier_moves list) kept.is_in in
          let low : n < goes.0 = stays n goes.0 made.0 (moves list) made.1 made.2 goes.1 in
          let tail : goes.0 ≤ length (moves list) = (goes.1).tail in
          let many : length (places list) ≡ length (moves list) = all_as_many list in
          place_of_last n goes.0 bytes over.bytes (places list) low (omega (arith, tail, many))
          (appended n bytes (earlier_places list) (last_move list) (last_given list) kept.all kept.last) goes.2
    ]

pub moves_stay : MovesStay
unfolding new_event
moves_stay move at bytes past later event over behind still said =
    stays_for move.is_added (length (moves past)) (at + 3000) bytes (later ++ new_event move at bytes ∷ past) event over
    (kept_later move.is_added (length (moves past)) (at + 3000) bytes later (new_event move at bytes ∷ past) behind still (kept_first move at bytes past))
    said
