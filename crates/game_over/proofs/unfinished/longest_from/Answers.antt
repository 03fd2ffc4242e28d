use Rattle.game_over.proofs.Tails.{better, is_first, is_longest, no_better}
use Rattle.game_over.proofs.unfinished.longest_from.Goals as goal
use Rattle.game_over.proofs.unfinished.longest_from.Goals.{else-time-other, then-time-other}

pub loop-i-preserved : goal.loop-i-preserved
loop-i-preserved c =
    elim c.if-time-other.branch [
      | then-time-other w ↦ rw w.kept-is (rw w.time-is (better c.args.first c.loop-i.i c.loop-i.kept c.loop-i.time c.time_at-other.result c.args.moves.now
          c.loop-i.invariant c.loop-i.auto.i c.loop-i-test.true c.time_at-other.ensures w.if-time-other.true))
      | else-time-other w ↦ rw w.kept-is (rw w.time-is (no_better c.args.first c.loop-i.i c.loop-i.kept c.loop-i.time c.time_at-other.result c.args.moves.now
          c.loop-i.invariant c.time_at-other.ensures w.if-time-other.false))
    ]

pub returns-clause-longest : goal.returns-clause-longest
returns-clause-longest c = is_longest c.args.first c.loop-i.i c.loop-i.kept c.loop-i.time c.args.moves.now c.loop-i.invariant c.loop-i-test.false

pub returns-clause-is_first : goal.returns-clause-is_first
returns-clause-is_first c = is_first c.args.first c.loop-i.i c.loop-i.kept c.loop-i.time c.args.moves.now c.loop-i.invariant
