-- The line that says what became of a typed line: `add: `, and what the line says; or a word for why nothing is added.
use Rattle.std.specs.Prelude.{ℕ, List, ◌++◌, codes}
use Rattle.typed_lines.specs.Telling.{said_line}
use Rattle.adding.specs.declared.adding.Answer.{Answer}
use Rattle.adding.specs.declared.adding.Answer.TheVariants.{Added, Refused}
use Rattle.adding.specs.declared.adding.Reason.TheVariants.{Line, Ended, Board, Long}

abbrev pub answer_line : Answer → List ℕ
answer_line (Added said added) = codes "add: " ++ said_line said
answer_line (Refused said Line) = codes "add: " ++ said_line said
answer_line (Refused said Ended) = codes "add: ended\n"
answer_line (Refused said Board) = codes "add: board\n"
answer_line (Refused said Long) = codes "add: long\n"
