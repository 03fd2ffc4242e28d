use Rattle.std.proofs.Common.{arith}
use Rattle.std.proofs.lemmas.Bool.{iff_false}
use Rattle.chess_game.proofs.Plies.{line_at}
use Rattle.chess_game.proofs.game.Game.is_line.Goals as goal

pub returns-then-not-is_legal : goal.returns-then-not-is_legal
returns-then-not-is_legal c =
    let l = c.loop-ply in (
      λ t. absurd cc,
      λ line. absurd (iff_false c.is_legal.ensures c.if-not-is_legal.true
          (line_at l.position c.args.plies.now l.ply-index c.ply-item.result (omega arith) c.ply-item.is (l.invariant.0 line)).0),
    )
