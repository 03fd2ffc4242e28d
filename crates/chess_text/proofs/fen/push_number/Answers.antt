use Rattle.std.proofs.Common.{arith, ap, length}
use Rattle.std.proofs.lemmas.Fmt.{length-decimal-le}
use Rattle.chess_text.proofs.fen.push_number.Goals as goal

pub push_str-requires : goal.push_str-requires
push_str-requires c = omega (arith, length-decimal-le 4 c.args.n (omega arith) c.requires.fits (omega arith), ap length c.format.ensures.text, c.requires.room)

pub returns-clause-short : goal.returns-clause-short
returns-clause-short c = omega (arith, length-decimal-le 4 c.args.n (omega arith) c.requires.fits (omega arith), ap length c.format.ensures.text, c.push_str.ensures.len)
