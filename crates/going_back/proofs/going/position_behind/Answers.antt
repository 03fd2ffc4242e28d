use Rattle.std.proofs.Common.{◌∙◌, sym, arith}
use Rattle.chess_game.proofs.Plies.{line_at, position_at}
use Rattle.going_back.proofs.going.position_behind.Goals as goal

pub loop-ply-preserved : goal.loop-ply-preserved
loop-ply-preserved c =
    let plies = c.args.plies.now in
    let l = c.loop-ply in
    let p = l.position in
    let here = line_at p plies l.ply-index c.ply-item.result (omega arith) c.ply-item.is l.invariant.line in
    record {
      line = rw c.play-position.ensures.after here.1;
      position = rw c.play-position.ensures.after (sym (position_at p plies l.ply-index c.ply-item.result (omega arith) c.ply-item.is) ∙ l.invariant.position);
    }
