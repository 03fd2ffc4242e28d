use Rattle.std.proofs.Common.{refl}
use Rattle.board_cable.proofs.asking.Asking.take_dump.Goals as goal

pub returns : goal.returns
returns c = λ past stands. record {
  pace = c.take_dump.ensures _ _ past refl refl stands.pace;
  starting = c.take_dump-2.ensures _ past refl stands.starting;
  silence = c.take_dump-3.ensures _ _ past refl refl stands.silence;
  whose = c.take_dump-4.ensures _ _ past refl stands.whose;
}
