-- What an event shows.
use Rattle.std.proofs.Common.{◌≡◌, ℕ, Bool, true, false, if◌then◌else◌, List, [], ◌∷◌, Option, Some, None, is_some, refl, sym, ap, ◌∙◌}
use Rattle.std.specs.Str.{bytes_eq}
use Rattle.std.proofs.lemmas.Option.{same_Some}
use Rattle.dgt_frame.specs.declared.events.Event.{Event}
use Rattle.dgt_frame.specs.declared.First.{First}
use Rattle.settle_core.specs.Entries.{Entry, last_picture, repeats}
use Rattle.board_events.specs.Entries.{entries, entry_at, is_entry}
use Rattle.board_events.specs.History.{picture_of}
use Rattle.board_events.specs.Pictures.{IsLast, pictures}
use Rattle.board_events.specs.Session.{entries_in}
use Rattle.board_events.specs.Settings.{Setting}
use Rattle.board_captures.proofs.ReadLemmas.{is_last}
use Rattle.board_alarms.specs.Hearing.{Again as AgainWhole, Another as AnotherWhole, IsShown as IsWhole}
use Rattle.board_game.specs.declared.pictures.Shown.TheVariants.{Again, Another}
use Rattle.board_game.specs.Inside.Shown.{IsShown}

entry_if : (given : Bool) (entry : Entry) (past : List Entry) → given ≡ true → last_picture (if given then entry ∷ past else past) ≡ Some entry.picture
entry_if true entry past h = refl
entry_if false entry past h = absurd cc

past_if : (given : Bool) (entry : Entry) (past : List Entry) → given ≡ false → last_picture (if given then entry ∷ past else past) ≡ last_picture past
past_if true entry past h = absurd cc
past_if false entry past h = refl

-- An entry shows its picture, and another event leaves the last one.
pub entry_shows : (first : First) (rotated : Bool) (past : List Event) (event : Event) → is_entry event past ≡ true
    → last_picture (entries first rotated (event ∷ past)) ≡ Some (picture_of rotated (event ∷ past))
entry_shows first rotated past event h = entry_if (is_entry event past) (entry_at first rotated (event ∷ past)) (entries first rotated past) h

pub other_shows : (first : First) (rotated : Bool) (past : List Event) (event : Event) → is_entry event past ≡ false
    → last_picture (entries first rotated (event ∷ past)) ≡ last_picture (entries first rotated past)
other_shows first rotated past event h = past_if (is_entry event past) (entry_at first rotated (event ∷ past)) (entries first rotated past) h

pub repeats_last : (picture before : List ℕ) (past : List Entry) → last_picture past ≡ Some before → repeats picture past ≡ bytes_eq picture before
repeats_last picture before [] h = absurd cc
repeats_last picture before (entry ∷ past) h = ap (λ (p : List ℕ). bytes_eq picture p) (same_Some entry.picture before h)

pub repeats_none : (picture : List ℕ) (past : List Entry) → last_picture past ≡ None → repeats picture past ≡ false
repeats_none picture [] h = refl
repeats_none picture (entry ∷ past) h = absurd cc

-- What an event shows, with its picture.
pub picture_is : (setting : Setting) (past : List Event) (event : Event) (seen : List ℕ) → is_entry event past ≡ true → IsLast seen (pictures setting.rotated (event ∷ past))
    → seen ≡ picture_of setting.rotated (event ∷ past)
picture_is setting past event seen entry last =
    let here = entry_shows setting.first setting.rotated past event entry in
    same_Some seen (picture_of setting.rotated (event ∷ past))
    (sym (is_last setting.first setting.rotated (event ∷ past) seen (ap (λ (o : Option (List ℕ)). is_some o) here) last) ∙ here)

pub whole_again : (setting : Setting) (past : List Event) (event : Event) (seen : List ℕ) → IsLast seen (pictures setting.rotated (event ∷ past)) → IsShown setting past event Again
    → IsWhole setting past event (AgainWhole seen)
whole_again setting past event seen last shown =
    let same = picture_is setting past event seen shown.0 last in
    (shown.0, same, ap (λ (p : List ℕ). repeats p (entries_in setting past)) same ∙ shown.1)

pub whole_another : (setting : Setting) (past : List Event) (event : Event) (seen : List ℕ) (changed turned : ℕ) (moved : Bool) → IsLast seen (pictures setting.rotated (event ∷ past))
    → IsShown setting past event (Another changed turned moved) → IsWhole setting past event (AnotherWhole seen)
whole_another setting past event seen changed turned moved last shown =
    let same = picture_is setting past event seen (shown.0).entry last in
    ((shown.0).entry, same, ap (λ (p : List ℕ). repeats p (entries_in setting past)) same ∙ (shown.0).another)
