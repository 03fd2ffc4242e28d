-- What is known of the pictures of a list of events, which has the latest first.
use Rattle.std.specs.Prelude.{◌≡◌, ℕ, Bool, true, false, List, ◌∷◌, reverse, Option, Some, None, is_some}
use Rattle.chess_rules.specs.Picture.{picture}
use Rattle.dgt_frame.specs.declared.events.Event.{Event}
use Rattle.settle_core.specs.declared.plies.Seen.{Seen}
use Rattle.settle_core.specs.declared.plies.Seen.TheVariants.{Same, Moved, Sign, Replaced, Waits}
use Rattle.settle_core.specs.Entries.{last_picture, repeats}
use Rattle.settle_core.specs.Masks.{IsDiff}
use Rattle.board_events.specs.Entries.{is_entry}
use Rattle.board_events.specs.History.{picture_of}
use Rattle.board_events.specs.Session.{entries_in}
use Rattle.board_events.specs.Settings.{Setting}
use Rattle.board_events.specs.View.{Views}
use Rattle.board_alarms.specs.Hearing.{HasMoved}
use Rattle.board_game.specs.Hearing.{Changes, IsMask, IsNew}
use Rattle.board_game.specs.declared.pictures.Pictures.{Pictures}
use Rattle.board_game.specs.declared.pictures.Shown.{Shown}
use Rattle.board_game.specs.declared.pictures.Shown.TheVariants.{Nothing, Again, Another}

-- These events were seen.
pub record HasSeen (pictures : Pictures) (setting : Setting) (past : List Event) : Type 0 where
  pub view : Views pictures.view setting.rotated past
  pub shown : pictures.has_shown ≡ is_some (last_picture (entries_in setting past))
  pub turned : pictures.turned ≡ reverse (picture setting.start)
  pub mask : (seen : List ℕ) → last_picture (entries_in setting past) ≡ Some seen → IsDiff pictures.mask pictures.turned seen

-- What an event after these shows.
abbrev pub IsShown : Setting → List Event → Event → Shown → Type 0
IsShown setting past event Nothing = is_entry event past ≡ false
IsShown setting past event Again = (is_entry event past ≡ true) × (repeats (picture_of setting.rotated (event ∷ past)) (entries_in setting past) ≡ true)
IsShown setting past event (Another changed turned moved) = IsNew setting past event
    × Changes (last_picture (entries_in setting past)) (picture_of setting.rotated (event ∷ past)) changed
    × IsMask turned (reverse (picture setting.start)) (picture_of setting.rotated (event ∷ past)) × HasMoved setting past event moved

abbrev pub is_another : Shown → Bool
is_another Nothing = false
is_another Again = false
is_another (Another changed turned moved) = true

-- What was seen is a ply, made or corrected.
abbrev pub is_ply : Seen → Bool
is_ply (Moved m) = true
is_ply (Replaced m) = true
is_ply (Sign outcome) = false
is_ply Waits = false
is_ply Same = false

abbrev pub moves : Option Seen → Bool
moves None = false
moves (Some seen) = is_ply seen
