-- What a view makes of an event.
use Rattle.std.proofs.Common.{inl, inr, ◌≡◌, ◌≢◌, ◌<◌, ℕ, Bool, true, false, if◌then◌else◌, List, [], ◌∷◌, length, get_or, get_or-set_same, replicate, map, slice_set, Option, Some, None, IfNone, IfSome, refl, sym, ap, subst, arith, ◌∙◌}
use Rattle.std.specs.Str.{bytes_eq}
use Rattle.std.proofs.lemmas.Bool.{false_from_ne_true, cases_Bool}
use Rattle.std.proofs.lemmas.List.{get_or-replicate, set-get_or}
use Rattle.std.proofs.lemmas.Slice.Eq.{bytes_eq-Decides}
use Rattle.std.proofs.lemmas.Option.{same_Some}
use Rattle.dgt_frame.specs.declared.events.Message.TheVariants.{Update}
use Rattle.dgt_frame.specs.declared.events.Event.{Event}
use Rattle.dgt_frame.specs.declared.events.Event.TheVariants.{Message as MessageEvent}
use Rattle.dgt_frame.specs.declared.time.First.TheVariants.{White}
use Rattle.dgt_frame.specs.declared.time.First.{First}
use Rattle.settle_core.specs.Entries.{Entry, last_picture, deduplicated, repeats}
use Rattle.settle_core.proofs.Repeats.{repeats_by}
use Rattle.board_events.specs.declared.view.View.{View}
use Rattle.board_events.specs.History.{is_trusted, picture_of, turned}
use Rattle.board_events.specs.Entries.{entries, entry_at, is_entry}
use Rattle.board_events.specs.declared.view.Change.{Change}
use Rattle.board_events.specs.declared.view.Change.TheVariants.{Nothing, Square, Picture}
use Rattle.board_events.specs.Pictures.{ChangesPictures, IsLast, pictures}
use Rattle.board_events.specs.View.{Views, last_of}
use Rattle.board_events.proofs.PictureLemmas.{length-picture_of, updated_picture}
use Rattle.board_events.proofs.TakeLemmas.{entries_updated, seen_before}

abbrev pictures_in : List Entry → List (List ℕ)
pictures_in past = map (λ entry. entry.picture) (deduplicated past)

-- The picture was returned, where it isn't that of the entry before.
abbrev pub Answered : List ℕ → Option (List ℕ) → Option (List ℕ) → Type 0
Answered picture last answer = IfNone answer (last ≡ Some picture) × IfSome answer (λ shown. (shown ≡ picture) × (last ≢ Some picture))

same_picture : (picture before : List ℕ) → Some before ≡ Some picture → bytes_eq picture before ≡ true
same_picture picture before same = let d = bytes_eq-Decides picture before in d.1 (cc)

other_picture : (picture before : List ℕ) → (Some before ≡ Some picture → ⊥) → bytes_eq picture before ≡ false
other_picture picture before differ = false_from_ne_true (bytes_eq picture before) (λ e. let d = bytes_eq-Decides picture before in differ (ap Some (sym (d.0 e))))

-- These pictures are those, and the one that was returned.
abbrev pub Adds : Option (List ℕ) → List (List ℕ) → List (List ℕ) → Type 0
Adds None old new = new ≡ old
Adds (Some picture) old new = new ≡ picture ∷ old

adds_next : (entry : Entry) (past : List Entry) (picture : List ℕ) (answer : Option (List ℕ)) → entry.picture ≡ picture → Answered picture (last_picture past) answer
    → Adds answer (pictures_in past) (pictures_in (entry ∷ past))
adds_next entry [] picture None is answered = let bad = answered.0 in absurd (cc)
adds_next entry [] picture (Some shown) is answered = ap (λ p. p ∷ []) (is ∙ sym answered.1.0)
adds_next entry (before ∷ past) picture None is answered = rw (same_picture entry.picture before.picture (answered.0 ∙ ap Some (sym is))) refl
adds_next entry (before ∷ past) picture (Some shown) is answered =
    let differ : bytes_eq entry.picture before.picture ≡ false = other_picture entry.picture before.picture (λ same. answered.1.1 (same ∙ ap Some is)) in
    rw differ (ap (λ p. p ∷ pictures_in (before ∷ past)) (is ∙ sym answered.1.0))

-- The last picture is among those that differ from the one before.
at_head : (past : List Entry) (picture : List ℕ) → last_picture past ≡ Some picture → (earlier : List (List ℕ)) × (pictures_in past ≡ picture ∷ earlier)
at_head [] picture is = absurd (cc)
at_head (entry ∷ []) picture is = ([], ap (λ p. p ∷ []) (same_Some _ _ is))
at_head (entry ∷ before ∷ past) picture is = elim (cases_Bool (bytes_eq entry.picture before.picture)) [
  | inl same ↦
      let d = bytes_eq-Decides entry.picture before.picture in
      let more = at_head (before ∷ past) picture (ap Some (sym (d.0 same)) ∙ is) in
      (more.0, rw same more.1)
  | inr other ↦ (pictures_in (before ∷ past), rw other (ap (λ p. p ∷ pictures_in (before ∷ past)) (same_Some _ _ is)))
]

none_before : (past : List Entry) → last_picture past ≡ None → past ≡ []
none_before [] is = refl
none_before (entry ∷ past) is = absurd (cc)

-- A picture that was seen.
pub was_seen : (seen : Bool) (picture shown : List ℕ) → (if seen then Some picture else None) ≡ Some shown → (seen ≡ true) × (picture ≡ shown)
was_seen true picture shown is = (refl, same_Some _ _ is)
was_seen false picture shown is = absurd (cc)

last_by : (seen : Bool) (picture : List ℕ) (past : List Entry) → (if seen then Some picture else None) ≡ last_picture past → IsLast picture (pictures_in past)
last_by true picture past is = let head = at_head past picture (sym is) in subst (IsLast picture) (sym head.1) refl
last_by false picture past is = subst (λ (es : List Entry). IsLast picture (pictures_in es)) (sym (none_before past (sym is))) tt

pub view_last : (view : View) (rotated : Bool) (past : List Event) → Views view rotated past → IsLast view.picture (pictures rotated past)
view_last view rotated past views = last_by view.seen view.picture (entries White rotated past) views.last

-- A trusted board's last picture is the present one.
pub last_trusted : (rotated : Bool) (past : List Event) → is_trusted past ≡ true → last_picture (entries White rotated past) ≡ Some (picture_of rotated past)
last_trusted rotated past trusted = let s = seen_before White rotated past trusted in ap last_picture s.2 ∙ ap Some s.3

pub trusted_last : (view : View) (rotated : Bool) (past : List Event) → Views view rotated past → view.trusted ≡ true → (view.seen ≡ true) × (view.picture ≡ picture_of rotated past)
trusted_last view rotated past views trusted =
    was_seen view.seen view.picture (picture_of rotated past) (views.last ∙ last_trusted rotated past (sym views.trust ∙ trusted))

-- The picture with its square changed is the one after the update.
pub changed_picture : (view : View) (rotated : Bool) (past : List Event) (field code square : ℕ) → field < 64 → Views view rotated past → view.trusted ≡ true
    → square ≡ turned view.rotated field → slice_set view.picture square code ≡ picture_of rotated (MessageEvent (Update field code) ∷ past)
changed_picture view rotated past field code square inside views trusted square_is =
    let picture_is : view.picture ≡ picture_of rotated past = (let t = trusted_last view rotated past views trusted in t.1) in
    let at : square ≡ turned rotated field = square_is ∙ ap (λ r. turned r field) views.turned in
    rw (picture_is, at) (updated_picture rotated field code past inside)

-- A view that has seen the present picture of a trusted board.
pub views_now : (old new : View) (rotated : Bool) (past : List Event) (event : Event) → Views old rotated past → is_trusted (event ∷ past) ≡ true
    → new.rotated ≡ old.rotated → new.trusted ≡ true → new.seen ≡ true → new.picture ≡ picture_of rotated (event ∷ past) → Views new rotated (event ∷ past)
views_now old new rotated past event views trust rotated_is trusted_is seen_is picture_is = record {
  turned = rotated_is ∙ views.turned;
  trust = trusted_is ∙ sym trust;
  last = rw seen_is (ap Some picture_is ∙ sym (last_trusted rotated (event ∷ past) trust));
}

-- What an event does that shows this picture.
pub shows_same : (old : View) (rotated : Bool) (past : List Event) (event : Event) → Views old rotated past
    → entries White rotated (event ∷ past) ≡ entry_at White rotated (event ∷ past) ∷ entries White rotated past
    → old.seen ≡ true → old.picture ≡ picture_of rotated (event ∷ past) → pictures rotated (event ∷ past) ≡ pictures rotated past
shows_same old rotated past event views added seen same =
    let before : last_of old ≡ Some (picture_of rotated (event ∷ past)) = rw seen (ap Some same) in
    rw added (adds_next (entry_at White rotated (event ∷ past)) (entries White rotated past) (picture_of rotated (event ∷ past)) None refl (sym views.last ∙ before, tt))

pub shows_other : (old : View) (rotated : Bool) (past : List Event) (event : Event) → Views old rotated past
    → entries White rotated (event ∷ past) ≡ entry_at White rotated (event ∷ past) ∷ entries White rotated past
    → (old.seen ≡ true → old.picture ≡ picture_of rotated (event ∷ past) → ⊥)
    → pictures rotated (event ∷ past) ≡ picture_of rotated (event ∷ past) ∷ pictures rotated past
shows_other old rotated past event views added differ =
    let shown = picture_of rotated (event ∷ past) in
    let other : last_picture (entries White rotated past) ≡ Some shown → ⊥ = λ same. (let w = was_seen old.seen old.picture shown (views.last ∙ same) in differ w.0 w.1) in
    rw added (adds_next (entry_at White rotated (event ∷ past)) (entries White rotated past) shown (Some shown) refl (tt, (refl, other)))

-- A square of a trusted board's picture has another code.
pub square_changed : (old : View) (rotated : Bool) (past : List Event) (field code square : ℕ) → field < 64 → Views old rotated past → old.trusted ≡ true
    → square ≡ turned old.rotated field → (old.picture ≡ slice_set old.picture square code → ⊥)
    → ChangesPictures (Square square code) (pictures rotated past) (pictures rotated (MessageEvent (Update field code) ∷ past))
square_changed old rotated past field code square inside views trusted square_is differ =
    let event = MessageEvent (Update field code) in
    let trust : is_trusted past ≡ true = sym views.trust ∙ trusted in
    let now = changed_picture old rotated past field code square inside views trusted square_is in
    let was = trusted_last old rotated past views trusted in
    let head = at_head (entries White rotated past) old.picture (sym (rw was.0 at views.last)) in
    let shown = shows_other old rotated past event views (entries_updated White rotated field code past trust) (λ seen same. differ (same ∙ sym now)) in
    (old.picture, head.0, head.1, shown ∙ ap (λ p. p ∷ pictures rotated past) (sym now))

same_set : (xs : List ℕ) (i code any : ℕ) → i < length xs → get_or xs i any ≡ code → slice_set xs i code ≡ xs
same_set xs i code any lt is = ap (λ (c : ℕ). slice_set xs i c) (sym is) ∙ set-get_or xs i any

-- A square that shows its code again leaves the picture.
pub same_picture_shown : (view : View) (rotated : Bool) (past : List Event) (field code square any : ℕ) → field < 64 → square < 64 → Views view rotated past → view.trusted ≡ true
    → square ≡ turned view.rotated field → get_or view.picture square any ≡ code → view.picture ≡ picture_of rotated (MessageEvent (Update field code) ∷ past)
same_picture_shown view rotated past field code square any inside within views trusted square_is same =
    let long : length view.picture ≡ 64 = (let t = trusted_last view rotated past views trusted in ap length t.1 ∙ length-picture_of rotated past) in
    sym (same_set view.picture square code any (omega (arith, long)) same) ∙ changed_picture view rotated past field code square inside views trusted square_is

-- A square that shows another code changes it.
pub other_picture_shown : (view : View) (rotated : Bool) (past : List Event) (square code any : ℕ) → square < 64 → Views view rotated past → view.trusted ≡ true
    → (get_or view.picture square any ≡ code → ⊥) → view.picture ≡ slice_set view.picture square code → ⊥
other_picture_shown view rotated past square code any within views trusted other same =
    let long : length view.picture ≡ 64 = (let t = trusted_last view rotated past views trusted in ap length t.1 ∙ length-picture_of rotated past) in
    other (ap (λ (l : List ℕ). get_or l square any) same ∙ get_or-set_same view.picture square code any (omega (arith, long)))

pub zero_codes : (k any : ℕ) → k < 64 → get_or (replicate 64 0) k any < 16
zero_codes k any lt = let zero : get_or (replicate 64 0) k any ≡ 0 = get_or-replicate 64 k 0 any lt in omega (arith, zero)

-- What changed is what the last picture shows.
pub adds_changed : (change : Change) (picture : List ℕ) (old new : List (List ℕ)) → ChangesPictures change old new → (change ≡ Nothing → ⊥) → IsLast picture new → new ≡ picture ∷ old
adds_changed Nothing picture old new changes other last = absurd (other refl)
adds_changed (Square square code) picture old new changes other last =
    let is : picture ≡ slice_set changes.0 square code = subst (IsLast picture) changes.3 last in
    changes.3 ∙ ap (λ p. p ∷ old) (sym is)
adds_changed Picture picture old new changes other last =
    let is : picture ≡ changes.0 = subst (IsLast picture) changes.1 last in
    changes.1 ∙ ap (λ p. p ∷ old) (sym is)

-- readings play no part in which picture is the last
pub last_alike : (first : First) (rotated : Bool) (past : List Event) → last_picture (entries first rotated past) ≡ last_picture (entries White rotated past)
last_alike first rotated [] = refl
last_alike first rotated (event ∷ past) = elim (cases_Bool (is_entry event past)) [
  | inl entered ↦ rw entered refl
  | inr other ↦ rw other (last_alike first rotated past)
]

pub repeats_alike : (seen : List ℕ) (first : First) (rotated : Bool) (past : List Event)
    → repeats seen (entries first rotated past) ≡ repeats seen (entries White rotated past)
repeats_alike seen first rotated past = repeats_by seen (entries first rotated past) (entries White rotated past) (last_alike first rotated past)

-- An entry adds a picture unless it repeats the last one.
pub pictures_more : (first : First) (rotated : Bool) (past : List Event) (event : Event) → is_entry event past ≡ true
    → repeats (picture_of rotated (event ∷ past)) (entries first rotated past) ≡ false
    → pictures rotated (event ∷ past) ≡ picture_of rotated (event ∷ past) ∷ pictures rotated past
pictures_more first rotated past event entered fresh =
    let new = sym (repeats_alike (picture_of rotated (event ∷ past)) first rotated past) ∙ fresh in rw (entered, new) refl

pub pictures_same : (first : First) (rotated : Bool) (past : List Event) (event : Event) → is_entry event past ≡ true
    → repeats (picture_of rotated (event ∷ past)) (entries first rotated past) ≡ true
    → pictures rotated (event ∷ past) ≡ pictures rotated past
pictures_same first rotated past event entered again =
    let repeated = sym (repeats_alike (picture_of rotated (event ∷ past)) first rotated past) ∙ again in rw (entered, repeated) refl

pub pictures_none : (rotated : Bool) (past : List Event) (event : Event) → is_entry event past ≡ false
    → pictures rotated (event ∷ past) ≡ pictures rotated past
pictures_none rotated past event other = rw other refl
