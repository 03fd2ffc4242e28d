use Rattle.std.proofs.Common.{◌≡◌, take, true}
use Rattle.std.specs.List.{list_all}
use Rattle.board_cable.specs.Serial.{is_visible}
use Rattle.board_cable.proofs.serial.are_visible.Given as goal

abbrev pub invariant-loop-character : goal.invariant-loop-character
invariant-loop-character l = list_all is_visible (take l.character-index l.characters) ≡ true
