use Rattle.std.proofs.Common.{◌∙◌, All, List, sym, subst, arith}
use Rattle.std.proofs.lemmas.List.{take_all}
use Rattle.settle_core.specs.declared.plies.Ply.{Ply}
use Rattle.chess_game.specs.Games.{IsTimed}
use Rattle.chess_game.proofs.Plies.{line_at, position_at, timed_more}
use Rattle.chess_game.proofs.game.last_position.Goals as goal

pub loop-ply-preserved : goal.loop-ply-preserved
loop-ply-preserved c =
    let plies = c.args.plies.now in
    let l = c.loop-ply in
    let p = l.position in
    let here = line_at p plies l.ply-index c.ply-item.result (omega arith) c.ply-item.is l.invariant.line in
    record {
      line = rw c.play-position.ensures.after here.1;
      position = rw c.play-position.ensures.after (sym (position_at p plies l.ply-index c.ply-item.result (omega arith) c.ply-item.is) ∙ l.invariant.position);
      clocks = timed_more plies l.ply-index c.ply-item.result (omega arith) c.ply-item.is c.count_clock.ensures l.invariant.clocks;
    }

pub returns-clause-clocks : goal.returns-clause-clocks
returns-clause-clocks c = let P : List Ply → Type 0 = λ xs. All IsTimed xs in subst P (take_all c.loop-ply.ply-index c.args.plies.now (omega arith)) c.loop-ply.invariant.clocks
