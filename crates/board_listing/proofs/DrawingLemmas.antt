-- The pictures that events show, and the placement that is drawn.
use Rattle.std.proofs.Common.{◌≡◌, ◌∙◌, ℕ, Bool, true, false, List, ◌∷◌, length, slice_set, Some, ap, refl, sym}
use Rattle.std.proofs.lemmas.Option.{same_Some}
use Rattle.chess_text.specs.declared.placement_text.PlacementText.{PlacementText}
use Rattle.chess_text.specs.KeptRanks.{picture_in}
use Rattle.dgt_frame.specs.declared.First.{First}
use Rattle.dgt_frame.specs.declared.events.Event.{Event}
use Rattle.dgt_frame.specs.declared.events.Event.TheVariants.{Message, Fault}
use Rattle.dgt_frame.specs.declared.events.Message.TheVariants.{Dump, Update, Time, Other}
use Rattle.dgt_frame.specs.Streams.{HasFrame}
use Rattle.settle_core.specs.Entries.{last_picture, repeats}
use Rattle.settle_core.proofs.Repeats.{repeated_last}
use Rattle.board_events.specs.Entries.{is_entry}
use Rattle.board_events.specs.History.{codes_by_field, picture_of, reading_at, turned}
use Rattle.board_events.specs.Session.{entries_in}
use Rattle.board_events.specs.Settings.{Setting}
use Rattle.board_events.proofs.PictureLemmas.{plain_dump, rotated_dump, updated_picture}
use Rattle.board_events.proofs.TakeLemmas.{seen_before}
use Rattle.board_listing.specs.Inside.Drawing.{Draws, drawn, is_time}
use Rattle.board_listing.proofs.FollowLemmas.{clash, entries_new, entries_same}

-- ---- the placement

pub draws_none : (placement : PlacementText) (setting : Setting) (past : List Event) (event : Event) → is_entry event past ≡ false
    → Draws placement setting past → Draws placement setting (event ∷ past)
draws_none placement setting past event other draws = λ picture last.
    draws picture (sym (ap last_picture (entries_same setting event past other)) ∙ last)

last_new : (setting : Setting) (past : List Event) (event : Event) (picture : List ℕ) → is_entry event past ≡ true
    → last_picture (entries_in setting (event ∷ past)) ≡ Some picture → picture_of setting.rotated (event ∷ past) ≡ picture
last_new setting past event picture entered last = same_Some _ _ (sym (ap last_picture (entries_new setting event past entered)) ∙ last)

pub draws_same : (placement : PlacementText) (setting : Setting) (past : List Event) (event : Event) → is_entry event past ≡ true
    → repeats (picture_of setting.rotated (event ∷ past)) (entries_in setting past) ≡ true
    → Draws placement setting past → Draws placement setting (event ∷ past)
draws_same placement setting past event entered again draws = λ picture last.
    draws (picture_of setting.rotated (event ∷ past)) (repeated_last (picture_of setting.rotated (event ∷ past)) (entries_in setting past) again)
    ∙ last_new setting past event picture entered last

pub draws_new : (placement : PlacementText) (setting : Setting) (past : List Event) (event : Event) → is_entry event past ≡ true
    → picture_in placement ≡ picture_of setting.rotated (event ∷ past) → Draws placement setting (event ∷ past)
draws_new placement setting past event entered is = λ picture last. is ∙ last_new setting past event picture entered last

dump_drawn : (rotated : Bool) (codes : List ℕ) (past : List Event) → length codes ≡ 64
    → codes_by_field rotated codes ≡ picture_of rotated (Message (Dump codes) ∷ past)
dump_drawn true codes past size = rotated_dump codes past size
dump_drawn false codes past size = plain_dump codes past size

-- What is drawn is the picture that the event shows.
pub now_drawn : (placement : PlacementText) (setting : Setting) (past : List Event) (event : Event) → HasFrame event → is_entry event past ≡ true
    → Draws placement setting past → drawn setting.rotated event (picture_in placement) ≡ picture_of setting.rotated (event ∷ past)
now_drawn placement setting past (Message (Dump codes)) frame entered draws = dump_drawn setting.rotated codes past frame.1.1
now_drawn placement setting past (Message (Update field code)) frame entered draws =
    let before = seen_before setting.first setting.rotated past entered in
    let was : picture_in placement ≡ picture_of setting.rotated past = draws before.0.picture (ap last_picture before.2) ∙ before.3 in
    ap (λ p. slice_set p (turned setting.rotated field) code) was ∙ updated_picture setting.rotated field code past frame.1.1
now_drawn placement setting past (Message (Time times)) frame entered draws = absurd (clash entered refl)
now_drawn placement setting past (Message (Other id size)) frame entered draws = absurd (clash entered refl)
now_drawn placement setting past (Fault kind) frame entered draws = absurd (clash entered refl)

-- ---- the clocks

-- Only a time message changes what they show.
pub reading_kept : (first : First) (event : Event) (past : List Event) → is_time event ≡ false → reading_at first (event ∷ past) ≡ reading_at first past
reading_kept first (Message (Dump codes)) past other = refl
reading_kept first (Message (Update field code)) past other = refl
reading_kept first (Message (Time times)) past other = absurd (clash refl other)
reading_kept first (Message (Other id size)) past other = refl
reading_kept first (Fault kind) past other = refl
