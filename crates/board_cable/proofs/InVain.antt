-- A board is silent once it was asked in vain.
use Rattle.std.proofs.Common.{◌≡◌, ◌⊎◌, ◌+◌, ◌≤◌, ◌&&◌, ◌||◌, ◌==◌, inl, inr, min, ℕ, Bool, true, false, List, [], ◌∷◌, Option, Some, None, refl, sym, ap, ◌∙◌, arith}
use Rattle.std.proofs.lemmas.Bool.{and_from, and_parts, eq-eqb, eqb-true, le-leb, leb-true, or_cases, or_left, or_right, true≢false}
use Rattle.board_cable.specs.declared.line.Event.{Event}
use Rattle.board_cable.specs.declared.line.Happening.{Happening}
use Rattle.board_cable.specs.declared.line.Happening.TheVariants.{Begins, Opens, Closes, Dumps, Asks}
use Rattle.board_cable.specs.Lasting.{has_lasted}
use Rattle.board_cable.specs.Silence.{heard_at, heard_by, is_silent, lost, lost_by, silent_by}
use Rattle.board_cable.specs.Silences.{AskedInVainIsSilent, ends_silence, hears}
use Rattle.board_cable.specs.Still.{asks, begins, count, count_by, last_by, last_of}

abbrev hears_or_begins : Happening → Bool
hears_or_begins what = hears what || begins what

lost_as : (what : Happening) (n : ℕ) → lost_by what (min n 3) ≡ min (count_by (asks what) (hears_or_begins what) n) 3
lost_as (Asks request) n = omega arith
lost_as Begins n = refl
lost_as Opens n = refl
lost_as (Dumps picture) n = refl
lost_as _ n = refl

lost_is : (past : List Event) → lost past ≡ min (count asks hears_or_begins past) 3
lost_is [] = refl
lost_is (event ∷ past) = ap (lost_by event.what) (lost_is past) ∙ lost_as event.what (count asks hears_or_begins past)

heard_as : (what : Happening) (at : ℕ) (before : Option ℕ) → heard_by what at before ≡ last_by (hears what) (begins what) at before
heard_as Opens at before = refl
heard_as (Dumps picture) at before = refl
heard_as Begins at before = refl
heard_as _ at before = refl

heard_is : (past : List Event) → heard_at past ≡ last_of hears begins past
heard_is [] = refl
heard_is (event ∷ past) = heard_as event.what event.at (heard_at past) ∙ ap (last_by (hears event.what) (begins event.what) event.at) (heard_is past)

-- The board was heard then.
record HeardThen (at : ℕ) (heard : Option ℕ) : Type 0 where
  time : ℕ
  is : heard ≡ Some time
  late : time + 5000 ≤ at

lasted : (at : ℕ) (heard : Option ℕ) → has_lasted 5000 at heard ≡ true → HeardThen at heard
lasted at None h = absurd (true≢false (sym h))
lasted at (Some time) h = record { time = time; is = refl; late = leb-true (time + 5000) at h }

-- What makes a board silent.
abbrev InVain : Happening → ℕ → ℕ → Option ℕ → Type 0
InVain what at n heard = (asks what ≡ true) × (n ≡ 3) × HeardThen at heard

silent_then : (what : Happening) (at n : ℕ) (heard : Option ℕ) (before : Bool) → silent_by what at n heard before ≡ true
    → ((before ≡ true) × (ends_silence what ≡ false)) ⊎ InVain what at n heard
silent_then (Asks request) at n heard before h =
    elim (or_cases before ((n == 3) && has_lasted 5000 at heard) h) [
      | inl was ↦ inl (was, refl)
      | inr new ↦ (let both = and_parts (n == 3) (has_lasted 5000 at heard) new in inr (refl, eqb-true n 3 both.0, lasted at heard both.1))
    ]
silent_then Begins at n heard before h = absurd (true≢false (sym h))
silent_then Closes at n heard before h = absurd (true≢false (sym h))
silent_then (Dumps picture) at n heard before h = absurd (true≢false (sym h))
silent_then _ at n heard before h = inl (h, refl)

silent_still : (what : Happening) (at n : ℕ) (heard : Option ℕ) (before : Bool) → before ≡ true → ends_silence what ≡ false → silent_by what at n heard before ≡ true
silent_still (Asks request) at n heard before was lasts = or_left before ((n == 3) && has_lasted 5000 at heard) was
silent_still Begins at n heard before was lasts = absurd (true≢false lasts)
silent_still Closes at n heard before was lasts = absurd (true≢false lasts)
silent_still (Dumps picture) at n heard before was lasts = absurd (true≢false lasts)
silent_still _ at n heard before was lasts = was

asked_in_vain : (what : Happening) (at n : ℕ) (heard : Option ℕ) (before : Bool) → InVain what at n heard → silent_by what at n heard before ≡ true
asked_in_vain (Asks request) at n heard before h =
    or_right before ((n == 3) && has_lasted 5000 at heard) (and_from (n == 3) (has_lasted 5000 at heard) (eq-eqb n 3 h.1)
    (ap (has_lasted 5000 at) h.2.is ∙ le-leb (h.2.time + 5000) at h.2.late))
asked_in_vain _ at n heard before h = absurd (true≢false (sym h.0))

pub asked_in_vain_is_silent : AskedInVainIsSilent
asked_in_vain_is_silent event past =
    let lost_now = lost_is past in (
      λ h. elim (silent_then event.what event.at (lost past) (heard_at past) (is_silent past) h) [
        | inl still ↦ inl still
        | inr new ↦ inr (record {
          asked = new.0;
          three = (let three = new.1 in let e : 3 ≤ count asks hears_or_begins past = omega arith in e);
          heard = new.2.time;
          heard_is = sym (heard_is past) ∙ new.2.is;
          five_seconds = new.2.late;
        })
      ],
      λ h. elim h [
        | inl still ↦ silent_still event.what event.at (lost past) (heard_at past) (is_silent past) still.0 still.1
        | inr new ↦ asked_in_vain event.what event.at (lost past) (heard_at past) (is_silent past) (
          new.asked,
          (let three = new.three in let e : lost past ≡ 3 = omega arith in e),
          record { time = new.heard; is = heard_is past ∙ new.heard_is; late = new.five_seconds },
        )
      ],
    )
