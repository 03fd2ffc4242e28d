-- What a keeper makes of an event.
use Rattle.std.proofs.Common.{inl, inr, ◌≡◌, ◌<◌, ℕ, Bool, true, false, List, [], ◌∷◌, length, map, get_or, get_or-set_same, slice_index, slice_set, is_some, Option, Some, None, Result, Ok, Err, IfOk, OnErr, refl, sym, ap, subst, arith, ◌∙◌}
use Rattle.std.proofs.lemmas.Bool.{cases_Bool}
use Rattle.std.proofs.lemmas.List.{length-set}
use Rattle.std.proofs.lemmas.Slice.Eq.{bytes_eq-Decides}
use Rattle.dgt_frame.specs.declared.events.Event.{Event}
use Rattle.dgt_frame.specs.declared.First.{First}
use Rattle.chess_clock.specs.declared.Reading.{Reading}
use Rattle.dgt_frame.specs.declared.time.First.TheVariants.{White}
use Rattle.chess_rules.specs.declared.parts.Parts.{Parts}
use Rattle.chess_rules.specs.Legal.{Legal}
use Rattle.settle_core.specs.declared.plies.Seen.TheVariants.{Same}
use Rattle.settle_core.specs.Entries.{Entry, deduplicated, entry_of, last_picture, repeats}
use Rattle.settle_core.specs.Settler.{HasSettled, has_seen}
use Rattle.settle_core.proofs.Repeats.{repeated_last, repeats_by}
use Rattle.unseen_pairs.specs.declared.pair.Recovery.{Recovery}
use Rattle.unseen_pairs.specs.declared.pair.SeenOrFound.{SeenOrFound}
use Rattle.unseen_pairs.specs.Recoverer.{HasRecovered, HoldsOf, RecovererState, ReturnsTold, written_after}
use Rattle.board_events.specs.Entries.{entries, entry_at, is_entry}
use Rattle.board_events.specs.History.{picture_of, reading_at}
use Rattle.board_events.specs.Pictures.{IsLast, pictures}
use Rattle.board_events.specs.Settings.{Setting}
use Rattle.board_events.specs.Session.{entries_in}
use Rattle.board_events.specs.View.{Views}
use Rattle.board_events.proofs.ViewLemmas.{last_alike, pictures_more, pictures_none, pictures_same, repeats_alike}
use Rattle.recovery.specs.declared.keeper.Keeper.{Keeper}
use Rattle.recovery.specs.Keeping.{RecoversAt, ShowsAnother}
use Rattle.recovery.specs.Inside.Keeping.{KeepsNext}
use Rattle.recovery.specs.Inside.Seeing.{Sees}

no_longer : {A : Type 0} (xs : List A) (x : A) → xs ≡ x ∷ xs → ⊥
no_longer xs x same = omega (arith, ap length same)

-- Where no picture was added, an entry repeats the last one.
pub repeats_here : (first : First) (rotated : Bool) (past : List Event) (event : Event) → pictures rotated (event ∷ past) ≡ pictures rotated past
    → is_entry event past ≡ true → repeats (picture_of rotated (event ∷ past)) (entries first rotated past) ≡ true
repeats_here first rotated past event same entered =
    let seen = picture_of rotated (event ∷ past) in
    elim (cases_Bool (repeats seen (entries White rotated past))) [
      | inl again ↦ repeats_alike seen first rotated past ∙ again
      | inr new ↦ absurd (no_longer (pictures rotated past) seen (sym same ∙ pictures_more White rotated past event entered new))
    ]

-- Where a picture was added, it is that of an entry.
pub entry_here : (rotated : Bool) (past : List Event) (event : Event) (picture : List ℕ)
    → pictures rotated (event ∷ past) ≡ picture ∷ pictures rotated past
    → (is_entry event past ≡ true) × (picture ≡ picture_of rotated (event ∷ past))
entry_here rotated past event picture more = elim (cases_Bool (is_entry event past)) [
  | inl entered ↦
      let seen = picture_of rotated (event ∷ past) in
      elim (cases_Bool (repeats seen (entries White rotated past))) [
        | inl again ↦ absurd (no_longer (pictures rotated past) picture (sym (pictures_same White rotated past event entered again) ∙ more))
        | inr new ↦ (entered, let both : picture ∷ pictures rotated past ≡ seen ∷ pictures rotated past = sym more ∙ pictures_more White rotated past event entered new in cc)
      ]
  | inr other ↦ absurd (no_longer (pictures rotated past) picture (sym (pictures_none rotated past event other) ∙ more))
]

-- Where a picture was added, the event shows another one than the last.
pub another_here : (setting : Setting) (past : List Event) (event : Event) (picture : List ℕ)
    → pictures setting.rotated (event ∷ past) ≡ picture ∷ pictures setting.rotated past → ShowsAnother setting past event
another_here setting past event picture more =
    let seen = picture_of setting.rotated (event ∷ past) in
    let entered : is_entry event past ≡ true = (entry_here setting.rotated past event picture more).0 in
    elim (cases_Bool (repeats seen (entries White setting.rotated past))) [
      | inl again ↦ absurd (no_longer (pictures setting.rotated past) picture (sym (pictures_same White setting.rotated past event entered again) ∙ more))
      | inr new ↦ (entered, repeats_alike seen setting.first setting.rotated past ∙ new)
    ]

pub on_any_err : {T E P : Type 0} (r : Result T E) → P → OnErr r P
on_any_err (Ok v) p = tt
on_any_err (Err error) p = p

-- The entries with one more that repeats the last picture.
again_settles : (recoverer : RecovererState) (start : _) (past written : List Entry) (entry : Entry) → last_picture written ≡ last_picture past
    → repeats entry.picture past ≡ true → HasSettled recoverer.settler start written → HasSettled recoverer.settler start (entry ∷ written)
again_settles recoverer start past [] entry last again stands = absurd (let n : repeats entry.picture [] ≡ true = repeats_by entry.picture [] past last ∙ again in cc)
again_settles recoverer start past (before ∷ written) entry last again stands =
    let here : repeats entry.picture (before ∷ written) ≡ true = repeats_by entry.picture (before ∷ written) past last ∙ again in
    let d = bytes_eq-Decides entry.picture before.picture in record {
      start_is = stands.start_is;
      last = stands.last ∙ ap Some (sym (d.0 here));
      folds = rw here stands.folds;
    }

pub once_more : (recoverer : RecovererState) (start : _) (past written : List Entry) (entry : Entry) → HasRecovered recoverer start past written
    → repeats entry.picture past ≡ true → HasRecovered recoverer start (entry ∷ past) (entry ∷ written)
once_more recoverer start past written entry stands again = record {
  settles = again_settles recoverer start past written entry stands.last again stands.settles;
  last = refl;
  waiting = stands.waiting;
  folds = rw again stands.folds;
  candidates = stands.candidates;
}

-- An event at which the picture stays.
pub kept_same : (new : Keeper) (setting : Setting) (past : List Event) (event : Event) (written : List Entry)
    → Views new.view setting.rotated (event ∷ past) → new.reading ≡ reading_at setting.first (event ∷ past) → new.first ≡ setting.first → new.rotated ≡ setting.rotated
    → HasRecovered new.recoverer setting.start (entries_in setting past) written
    → pictures setting.rotated (event ∷ past) ≡ pictures setting.rotated past
    → KeepsNext new setting past event None written
kept_same new setting past event written views reading first rotated stands same = elim (cases_Bool (is_entry event past)) [
  | inl entered ↦
      let entry : Entry = entry_at setting.first setting.rotated (event ∷ past) in
      let again = repeats_here setting.first setting.rotated past event same entered in
      record {
        keeps = record { view = views; reading = reading; first = first; rotated = rotated; recoverer = rw entered (once_more new.recoverer setting.start (entries_in setting past) written entry stands again) };
        finds = λ e. (Same, again);
      }
  | inr other ↦ record {
    keeps = record { view = views; reading = reading; first = first; rotated = rotated; recoverer = rw other stands };
    finds = λ e. absurd (let n : ⊥ = cc in n);
  }
]

kept_now : (new : Keeper) (setting : Setting) (past : List Event) (event : Event) (written : List Entry) (found : Option Recovery)
    → Views new.view setting.rotated (event ∷ past) → new.reading ≡ reading_at setting.first (event ∷ past) → new.first ≡ setting.first → new.rotated ≡ setting.rotated
    → is_entry event past ≡ true
    → Sees new.recoverer setting.start (entries_in setting past) written (entry_at setting.first setting.rotated (event ∷ past)) found
    → KeepsNext new setting past event found written
kept_now new setting past event written None views reading first rotated entered sees = record {
  keeps = record { view = views; reading = reading; first = first; rotated = rotated; recoverer = rw entered sees.1 };
  finds = λ e. (sees.0, sees.2);
}
kept_now new setting past event written (Some r) views reading first rotated entered sees = record {
  keeps = record { view = views; reading = reading; first = first; rotated = rotated; recoverer = rw entered sees.0 };
  finds = (entered, sees.1);
}

-- An event that shows another picture.
pub kept_seen : (new : Keeper) (setting : Setting) (past : List Event) (event : Event) (picture : List ℕ) (written : List Entry) (found : Option Recovery)
    → Views new.view setting.rotated (event ∷ past) → new.reading ≡ reading_at setting.first (event ∷ past) → new.first ≡ setting.first → new.rotated ≡ setting.rotated
    → pictures setting.rotated (event ∷ past) ≡ picture ∷ pictures setting.rotated past
    → Sees new.recoverer setting.start (entries_in setting past) written (entry_of picture (reading_at setting.first (event ∷ past))) found
    → KeepsNext new setting past event found written
kept_seen new setting past event picture written found views reading first rotated more sees =
    let here = entry_here setting.rotated past event picture more in
    let S : List ℕ → Type 0 = λ p. Sees new.recoverer setting.start (entries_in setting past) written (entry_of p (reading_at setting.first (event ∷ past))) found in
    kept_now new setting past event written found views reading first rotated here.0 (subst S here.1 sees)

-- The picture at an event at which a pair was recovered.
pub picture_now : (setting : Setting) (past : List Event) (event : Event) (r : Recovery) (picture : List ℕ) → RecoversAt setting past event (Some r)
    → IsLast picture (pictures setting.rotated (event ∷ past)) → picture ≡ picture_of setting.rotated (event ∷ past)
picture_now setting past event r picture finds last =
    let seen = picture_of setting.rotated (event ∷ past) in
    let fresh : repeats seen (entries White setting.rotated past) ≡ false = sym (repeats_alike seen setting.first setting.rotated past) ∙ (finds.1).0 in
    subst (IsLast picture) (pictures_more White setting.rotated past event finds.0 fresh) last

pub entry_now : (setting : Setting) (past : List Event) (picture : List ℕ) (reading : Option Reading) → picture ≡ picture_of setting.rotated past
    → reading ≡ reading_at setting.first past → entry_of picture reading ≡ entry_at setting.first setting.rotated past
entry_now setting past picture reading shown read =
    ap (λ (p : List ℕ). entry_of p reading) shown ∙ ap (λ (r : Option Reading). entry_of (picture_of setting.rotated past) r) read

-- The entry before an event that changes its picture.

last_shown : (es : List Entry) (picture : List ℕ) (earlier : List (List ℕ)) → map (λ (e : Entry). e.picture) (deduplicated es) ≡ picture ∷ earlier
    → last_picture es ≡ Some picture
last_shown [] picture earlier shown = absurd (let n : ⊥ = cc in n)
last_shown (entry ∷ past) picture earlier shown = elim (cases_Bool (repeats entry.picture past)) [
  | inl again ↦
      let before : map (λ (e : Entry). e.picture) (deduplicated past) ≡ picture ∷ earlier = rw again at shown in
      sym (repeated_last entry.picture past again) ∙ last_shown past picture earlier before
  | inr new ↦
      let both : entry.picture ∷ map (λ (e : Entry). e.picture) (deduplicated past) ≡ picture ∷ earlier = rw new at shown in
      let same : entry.picture ≡ picture = cc in
      ap Some same
]

first_entry : (es : List Entry) (picture : List ℕ) → last_picture es ≡ Some picture
    → (before : Entry) × (more : List Entry) × (es ≡ before ∷ more) × (before.picture ≡ picture)
first_entry [] picture last = absurd (let n : ⊥ = cc in n)
first_entry (before ∷ more) picture last = (before, more, refl, (let is : before.picture ≡ picture = cc in is))

pub entry_before : (setting : Setting) (past : List Event) (picture : List ℕ) (earlier : List (List ℕ)) → pictures setting.rotated past ≡ picture ∷ earlier
    → (before : Entry) × (more : List Entry) × (entries_in setting past ≡ before ∷ more) × (before.picture ≡ picture)
entry_before setting past picture earlier shown =
    first_entry (entries_in setting past) picture
    (last_alike setting.first setting.rotated past ∙ last_shown (entries White setting.rotated past) picture earlier shown)

pub seen_before : (recoverer : RecovererState) (start : Parts) (before : Entry) (past written : List Entry) → HasRecovered recoverer start (before ∷ past) written
    → has_seen recoverer.settler ≡ true
seen_before recoverer start before past written stands = ap is_some ((stands.settles).last ∙ stands.last)

-- The square that changed shows what the picture shows there.
pub shown_there : (old seen : List ℕ) (at code : ℕ) → at < 64 → length seen ≡ 64 → seen ≡ slice_set old at code → seen ≡ slice_set old at (slice_index seen at)
shown_there old seen at code low long is =
    let long' : length old ≡ 64 = sym (length-set old at code) ∙ ap length (sym is) ∙ long in
    is ∙ ap (slice_set old at) (sym (ap (λ xs. get_or xs at 0) is ∙ get_or-set_same old at code 0 (rw long' low)))

-- A pair that was recovered, where it stands.
pub sees_found : (recoverer : RecovererState) (start : Parts) (past written : List Entry) (entry : Entry) (found : Option Recovery)
    → HoldsOf (λ told. HasRecovered recoverer start (entry ∷ past) (written_after entry told written)) SeenOrFound.Recovered found
    → HoldsOf (ReturnsTold start past entry.picture) SeenOrFound.Recovered found → Sees recoverer start past written entry found
sees_found recoverer start past written entry (Some r) stands answer = (stands, answer)
sees_found recoverer start past written entry None stands answer = absurd stands

-- Both plies of a pair that was recovered are legal where they stand.
pub legal_found : (setting : Setting) (past : List Event) (event : Event) (r : Recovery) → RecoversAt setting past event (Some r)
    → Legal r.before r.pair.first × Legal r.middle r.pair.second
legal_found setting past event r finds =
    let c = finds.1.1.3.1 in
    let two = (c.explains).explains.after_two in (
      subst (λ (p : Parts). Legal p r.pair.first) (sym c.before_is) two.first,
      subst (λ (p : Parts). Legal p r.pair.second) (sym c.middle_is) two.second,
    )

pub at_some : {T E : Type 0} (P : T → Type 0) (r : Result T E) (v : T) → r ≡ Ok v → IfOk r P → P v
at_some P r v is h = let Q : Result _ _ → Type 0 = λ x. IfOk x P in subst Q is h
