-- How a game goes on with an event.
use Rattle.std.proofs.Common.{◌≡◌, ◌&&◌, Bool, true, false, not, if◌then◌else◌, List, ◌∷◌, Some, refl}
use Rattle.chess_rules.specs.declared.parts.Parts.{Parts}
use Rattle.chess_rules.specs.Valid.{Valid}
use Rattle.dgt_frame.specs.declared.events.Event.{Event}
use Rattle.settle_core.specs.Entries.{Entry, deduplicated, last_picture, repeats}
use Rattle.settle_core.specs.Folding.{Folds, Score}
use Rattle.settle_core.proofs.Once.{folds_once}
use Rattle.board_events.specs.Entries.{entry_at, is_entry}
use Rattle.board_events.specs.History.{picture_of}
use Rattle.board_events.specs.Session.{entries_in}
use Rattle.board_events.specs.Settings.{Setting}
use Rattle.board_endings.specs.Telling.{is_new}

again : (start : Parts) (entry : Entry) (past : List Entry) (repeats : Bool) (old new : Score) → Valid start → not repeats ≡ false → Folds start past old
    → Folds start (if repeats then past else entry ∷ past) new → new ≡ old
again start entry past true old new valid none f g = folds_once start past new old valid g f
again start entry past false old new valid none f g = absurd cc

none_new : (start : Parts) (entry : Entry) (past : List Entry) (given : Bool) (old new : Score) → Valid start → (given && not (repeats entry.picture past)) ≡ false
    → Folds start (deduplicated past) old → Folds start (deduplicated (if given then entry ∷ past else past)) new → new ≡ old
none_new start entry past true old new valid none f g = again start entry (deduplicated past) (repeats entry.picture past) old new valid none f g
none_new start entry past false old new valid none f g = folds_once start (deduplicated past) new old valid g f

-- With no other picture the game stays as it was.
pub stays : (setting : Setting) (past : List Event) (event : Event) (old new : Score) → Valid setting.start → is_new setting past event ≡ false
    → Folds setting.start (deduplicated (entries_in setting past)) old → Folds setting.start (deduplicated (entries_in setting (event ∷ past))) new → new ≡ old
stays setting past event old new valid none f g =
    none_new setting.start (entry_at setting.first setting.rotated (event ∷ past)) (entries_in setting past) (is_entry event past) old new valid none f g

entry_if : (given : Bool) (entry : Entry) (past : List Entry) → given ≡ true → last_picture (if given then entry ∷ past else past) ≡ Some entry.picture
entry_if true entry past h = refl
entry_if false entry past h = absurd cc

is_given : (given other : Bool) → (given && other) ≡ true → given ≡ true
is_given true other h = refl
is_given false other h = h

-- The last picture is the other one.
pub last_is_new : (setting : Setting) (past : List Event) (event : Event) → is_new setting past event ≡ true
    → last_picture (entries_in setting (event ∷ past)) ≡ Some (picture_of setting.rotated (event ∷ past))
last_is_new setting past event h =
    entry_if (is_entry event past) (entry_at setting.first setting.rotated (event ∷ past)) (entries_in setting past)
    (is_given (is_entry event past) (not (repeats (picture_of setting.rotated (event ∷ past)) (entries_in setting past))) h)
