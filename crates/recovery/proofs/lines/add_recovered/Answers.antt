use Rattle.std.proofs.Common.{refl, decimal, codes}
use Rattle.pgn_book.specs.Movetext.{number_token}
use Rattle.watched_streams.specs.Lines.{line}
use Rattle.recovery.specs.Weaving.{recovered_words}
use Rattle.recovery.proofs.WordLemmas.{line_added}
use Rattle.recovery.proofs.lines.add_recovered.Goals as goal

pub returns : goal.returns
returns c =
    let p = c.args.found.now.before in
    let q = c.args.found.now.middle in
    let san = c.add_move.ensures.told.0 in
    let reply = c.add_move-2.ensures.told.0 in (
      line c.args.offset (recovered_words p san q reply),
      (san, reply, c.add_move.ensures.told.1, c.add_move-2.ensures.told.1, refl),
      line_added c.args.lines.now.items _ _ _ _ _ _ _ (decimal c.args.offset) (codes " ") (codes "recovered ") (number_token p.side p.fullmove) (codes " ") san
          (codes " ") (number_token q.side q.fullmove) (codes " ") reply (codes "\n")
          c.add_number.ensures.items c.add.ensures.items c.add-2.ensures.items c.add_move.ensures.told.2 c.add-3.ensures.items c.add_move-2.ensures.told.2 c.add-4.ensures.items,
    )
