-- Whether hands went on at once after a move.
use Rattle.std.proofs.Common.{◌≡◌, ◌≤◌, ◌+◌, not, ℕ, Bool, true, false, List, [], ◌∷◌, ◌++◌, Option, Some, None, length, refl, sym, ap, ◌∙◌, append_assoc}
use Rattle.std.specs.Prelude.{◌↔◌, nat_le, slice_get}
use Rattle.std.proofs.lemmas.Bool.{le-leb, leb-true, not-false, true≢false}
use Rattle.square_runs.specs.Lasting.{carry}
use Rattle.game_over.specs.declared.happened.Event.{Event}
use Rattle.game_over.specs.declared.happened.Happening.{Happening}
use Rattle.game_over.specs.declared.happened.Happening.TheVariants.{Moves, Agrees, Differs}
use Rattle.game_over.specs.declared.moves.Last.{Last}
use Rattle.game_over.specs.Moves.{goes_on, last_by, last_move, made_of, moves, new_move, second_by, showed_by, shown_by}
use Rattle.game_over.specs.SettingUp.{IsStill, NoMove, ThinksForThreeSeconds, is_move, is_picture, moves_at}
use Rattle.game_over.proofs.Stood.{listed_there}

-- The board showed something after the last move at these times, first and next.
record Shows (first second : Option ℕ) (before : Option Last) : Type 0 where
  last : Last
  is : before ≡ Some last
  first_is : last.first ≡ first
  second_is : last.second ≡ second

pictured : (agrees : Bool) (time : ℕ) (first second : Option ℕ) (before : Option Last) → Shows first second before
    → Shows (carry true time first) (second_by time first second) (showed_by agrees time before)
pictured agrees time first second before h = record {
  last = shown_by agrees time h.last;
  is = ap (showed_by agrees time) h.is;
  first_is = ap (λ (o : Option ℕ). carry true time o) h.first_is;
  second_is = ap (λ (o : Option ℕ). second_by time o h.last.second) h.first_is ∙ ap (λ (o : Option ℕ). second_by time first o) h.second_is;
}

-- A picture comes.
by_picture : (what : Happening) (time more : ℕ) (first second : Option ℕ) (before : Option Last) → is_picture what ≡ true → Shows first second before
    → Shows (carry true time first) (second_by time first second) (last_by what time more before)
by_picture Agrees time more first second before is h = pictured true time first second before h
by_picture Differs time more first second before is h = pictured false time first second before h
by_picture _ time more first second before is h = absurd (true≢false (sym is))

quiet : (what : Happening) (time more : ℕ) (first second : Option ℕ) (before : Option Last) → is_move what ≡ false → is_picture what ≡ false
    → Shows first second before → Shows first second (last_by what time more before)
quiet (Moves move) time more first second before none not h = absurd (true≢false none)
quiet Agrees time more first second before none not h = absurd (true≢false not)
quiet Differs time more first second before none not h = absurd (true≢false not)
quiet _ time more first second before none not h = h

still : (first second : Option ℕ) (later base : List Event) → IsStill later → Shows first second (last_move base) → Shows first second (last_move (later ++ base))
still first second [] base h shows = shows
still first second (event ∷ later) base h shows =
    quiet event.what event.at event.bytes first second (last_move (later ++ base)) h.0 h.1 (still first second later base h.2 shows)

-- Once two pictures have come, more change nothing.
kept : (what : Happening) (time more one two : ℕ) (before : Option Last) → is_move what ≡ false → Shows (Some one) (Some two) before
    → Shows (Some one) (Some two) (last_by what time more before)
kept (Moves move) time more one two before none h = absurd (true≢false none)
kept Agrees time more one two before none h = pictured true time (Some one) (Some two) before h
kept Differs time more one two before none h = pictured false time (Some one) (Some two) before h
kept _ time more one two before none h = h

stays : (one two : ℕ) (later base : List Event) → NoMove later → Shows (Some one) (Some two) (last_move base)
    → Shows (Some one) (Some two) (last_move (later ++ base))
stays one two [] base h shows = shows
stays one two (event ∷ later) base h shows =
    kept event.what event.at event.bytes one two (last_move (later ++ base)) h.0 (stays one two later base h.1 shows)

no_move : (later base : List Event) → IsStill later → NoMove base → NoMove (later ++ base)
no_move [] base h none = none
no_move (event ∷ later) base h none = (h.0, no_move later base h.2 none)

no_move_in : (later : List Event) → IsStill later → NoMove later
no_move_in [] h = tt
no_move_in (event ∷ later) h = (h.0, no_move_in later h.2)

both : (later base : List Event) → NoMove later → NoMove base → NoMove (later ++ base)
both [] base h none = none
both (event ∷ later) base h none = (h.0, both later base h.1 none)

no_picture : (what : Happening) → is_picture what ≡ true → is_move what ≡ false
no_picture (Moves move) is = absurd (true≢false (sym is))
no_picture _ is = refl

thinks : (one two : ℕ) → (goes_on (Some one) (Some two) ≡ false) ↔ (one + 3000 ≤ two)
thinks one two = (
  (λ h. leb-true (one + 3000) two (not-false (nat_le (one + 3000) two) h)),
  (λ le. ap not (le-leb (one + 3000) two le)),
)

pub thinks_for_three_seconds : ThinksForThreeSeconds
thinks_for_three_seconds move at bytes first second past quiet_first between later one two h g none =
    let made : Event = moves_at move at bytes in
    let begun : Shows None None (last_move (made ∷ past)) = record { last = new_move move at bytes; is = refl; first_is = refl; second_is = refl } in
    let once : Shows (Some first.at) None (last_move (first ∷ (quiet_first ++ made ∷ past))) =
    by_picture first.what first.at first.bytes None None (last_move (quiet_first ++ made ∷ past)) one (still None None quiet_first (made ∷ past) h begun) in
    let twice : Shows (Some first.at) (Some second.at) (last_move (second ∷ (between ++ first ∷ (quiet_first ++ made ∷ past)))) =
    by_picture second.what second.at second.bytes (Some first.at) None (last_move (between ++ first ∷ (quiet_first ++ made ∷ past))) two
    (still (Some first.at) None between (first ∷ (quiet_first ++ made ∷ past)) g once) in
    let last = stays first.at second.at later (second ∷ (between ++ first ∷ (quiet_first ++ made ∷ past))) none twice in
    let all : List Event = later ++ second ∷ (between ++ first ∷ (quiet_first ++ made ∷ past)) in
    let all_none : NoMove (later ++ second ∷ (between ++ first ∷ quiet_first)) =
    both later (second ∷ (between ++ first ∷ quiet_first)) none (no_picture second.what two, no_move between (first ∷ quiet_first) g (no_picture first.what one, no_move_in quiet_first h)) in
    let alike : all ≡ (later ++ second ∷ (between ++ first ∷ quiet_first)) ++ made ∷ past =
    ap (λ (xs : List Event). later ++ second ∷ xs) (sym (append_assoc between (first ∷ quiet_first) (made ∷ past)))
    ∙ sym (append_assoc later (second ∷ (between ++ first ∷ quiet_first)) (made ∷ past)) in (
      made_of last.last,
      ap (λ (xs : List Event). slice_get (moves xs) (length (moves past))) alike
          ∙ listed_there move at bytes last.last past (later ++ second ∷ (between ++ first ∷ quiet_first)) all_none
          (ap (λ (xs : List Event). last_move xs) (sym alike) ∙ last.is),
      rw last.first_is (rw last.second_is (thinks first.at second.at)),
    )
