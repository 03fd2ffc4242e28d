use Rattle.std.proofs.Common.{Some}
use Rattle.board_times.proofs.reading.generation_of.Goals as goal

pub returns-in_default-clause-none : goal.returns-in_default-clause-none
returns-in_default-clause-none c generation e = c.in_default.ensures.none 1 (Some generation) e
