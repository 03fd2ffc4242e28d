use Rattle.std.proofs.Common.{[], refl}
use Rattle.board_game.proofs.telling.Teller.new.Goals as goal

pub returns : goal.returns
returns c = record {
  watched = c.new-watcher.ensures;
  seen = c.new-pictures.ensures _ refl refl;
  heard = [];
  hears = refl;
  standing = c.new-standing.ensures;
  alarms = c.new-alarms.ensures _ refl;
  endings = c.new-endings.ensures _ refl;
  reports = refl;
}
