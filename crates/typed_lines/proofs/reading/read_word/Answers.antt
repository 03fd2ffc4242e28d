use Rattle.std.proofs.Common.{List, subst, sym}
use Rattle.std.specs.Prelude.{◌↔◌, Contains}
use Rattle.chess_rules.specs.Legal.{Legal}
use Rattle.chess_rules.specs.declared.chess_move.Move.{Move}
use Rattle.typed_lines.proofs.reading.read_word.Goals as goal

pub only-requires : goal.only-requires
only-requires c =
    let P : List Move → Type 0 = λ moves. (m : Move) → Contains moves m ↔ Legal c.args.p.now m in
    subst P (sym c.as_slice.ensures.value) c.in_ok-moves.ensures.listed.each

pub read_other-requires-clause-listed : goal.read_other-requires-clause-listed
read_other-requires-clause-listed c =
    let P : List Move → Type 0 = λ moves. (m : Move) → Contains moves m ↔ Legal c.args.p.now m in
    subst P (sym c.as_slice-in-None.ensures.value) c.in_ok-moves.ensures.listed.each
