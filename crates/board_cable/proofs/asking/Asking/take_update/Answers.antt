use Rattle.std.proofs.Common.{refl}
use Rattle.board_cable.proofs.asking.Asking.take_update.Goals as goal

pub returns : goal.returns
returns c past stands = record {
  pace = c.take_update.ensures past stands.pace;
  starting = c.take_update-2.ensures _ past refl stands.starting;
  silence = record { lost_is = stands.silence.lost_is; heard_is = stands.silence.heard_is; silent_is = stands.silence.silent_is };
  whose = record {
    own_is = stands.whose.own_is;
    shown_is = stands.whose.shown_is;
    known_is = stands.whose.known_is;
    awaited_is = stands.whose.awaited_is;
    dumps_is = stands.whose.dumps_is;
    left_is = stands.whose.left_is;
  };
}
