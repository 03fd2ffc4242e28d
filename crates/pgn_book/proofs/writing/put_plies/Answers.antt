use Rattle.std.proofs.Common.{◌++◌, [], sym, arith}
use Rattle.pgn_book.specs.Movetext.{move_tokens}
use Rattle.pgn_book.proofs.Standing.{Writes-then, Writes-same, Writes-nil}
use Rattle.chess_game.proofs.Plies.{line_at}
use Rattle.pgn_book.proofs.Moves.{continues_at_start, continues_more, continues_to_end}
use Rattle.pgn_book.proofs.writing.put_plies.Goals as goal

pub loop-ply-init : goal.loop-ply-init
loop-ply-init g c = record { line = c.requires; done = []; continues = continues_at_start c.args.start.now c.args.plies.now; writes = Writes-nil _ _ c.args.at.now }

pub put_ply-requires : goal.put_ply-requires
put_ply-requires g c =
    let l = c.loop-ply in
    (line_at l.position c.args.plies.now l.ply-index c.ply-item.result (omega arith) c.ply-item.is l.invariant.line).0

pub loop-ply-preserved : goal.loop-ply-preserved
loop-ply-preserved g c =
    let l = c.loop-ply in
    let plies = c.args.plies.now in
    let ply = c.ply-item.result in
    let shown = c.put_ply.ensures.0 in
    let next = continues_more c.args.start.now plies l.position l.ply-index l.wanted l.invariant.done ply shown (omega arith) c.ply-item.is c.put_ply.ensures.1 l.invariant.continues in
    record {
      line = rw c.play-position.ensures.after (line_at l.position plies l.ply-index ply (omega arith) c.ply-item.is l.invariant.line).1;
      done = l.invariant.done ++ move_tokens l.wanted shown;
      continues = rw (c.play-position.ensures.after, c.is_some-wanted.ensures) next;
      writes = Writes-then _ _ _ _ _ _ c.args.at.now l.at c.put_ply.new.at l.invariant.done (move_tokens l.wanted shown) l.invariant.writes c.put_ply.ensures.2;
    }

pub returns : goal.returns
returns g c =
    let l = c.loop-ply in
    let end = continues_to_end c.args.start.now c.args.plies.now l.position l.ply-index l.wanted l.invariant.done (omega arith) l.invariant.continues in
    (end.0, end.1, Writes-same _ _ _ _ c.args.at.now l.at _ _ (sym end.2) l.invariant.writes)
