use Rattle.std.proofs.Common.{ap, ◌∙◌, false, rules}
use Rattle.pgn_book.specs.Inside.Parse.{value_at}
use Rattle.pgn_book.proofs.Starts.{fen_is, fen_kept}
use Rattle.pgn_book.proofs.reading.read_start.Goals as goal

pub returns-in-None : goal.returns-in-None
returns-in-None c = λ start v s.
    let value = ap (value_at false) c.fen_of.ensures ∙ fen_is start c.args.set_up.now (search rules) s in
    absurd (c.in-None.ensures.none (fen_kept c.fens_are_plain.ensures start _ v value))
