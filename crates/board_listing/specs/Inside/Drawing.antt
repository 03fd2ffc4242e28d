-- What a watcher knows of the pictures and of the clocks. Events are listed with the latest first.
use Rattle.std.specs.Prelude.{◌≡◌, ℕ, Bool, true, false, List, Some, slice_set}
use Rattle.dgt_frame.specs.declared.events.Message.TheVariants.{Dump, Update, Time, Other}
use Rattle.dgt_frame.specs.declared.events.Event.{Event}
use Rattle.dgt_frame.specs.declared.events.Event.TheVariants.{Message, Fault}
use Rattle.settle_core.specs.Entries.{last_picture}
use Rattle.board_events.specs.History.{codes_by_field, turned}
use Rattle.board_events.specs.Settings.{Setting}
use Rattle.board_events.specs.Session.{entries_in}
use Rattle.chess_text.specs.declared.placement_text.PlacementText.{PlacementText}
use Rattle.chess_text.specs.KeptRanks.{picture_in}

-- The placement is that of the picture that was seen last, if any was.
abbrev pub Draws : PlacementText → Setting → List Event → Type 0
Draws placement setting past = (picture : List ℕ) → last_picture (entries_in setting past) ≡ Some picture → picture_in placement ≡ picture

-- a picture, and what a dump or an update makes of it, of a board that stands turned or not
abbrev pub drawn : Bool → Event → List ℕ → List ℕ
drawn rotated (Message (Dump codes)) picture = codes_by_field rotated codes
drawn rotated (Message (Update field code)) picture = slice_set picture (turned rotated field) code
drawn rotated (Message (Time times)) picture = picture
drawn rotated (Message (Other id size)) picture = picture
drawn rotated (Fault kind) picture = picture

-- whether an event tells what the clocks show
abbrev pub is_time : Event → Bool
is_time (Message (Dump codes)) = false
is_time (Message (Update field code)) = false
is_time (Message (Time times)) = true
is_time (Message (Other id size)) = false
is_time (Fault kind) = false
