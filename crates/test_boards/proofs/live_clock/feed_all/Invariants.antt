use Rattle.board_live.specs.Live.{HasBegun}
use Rattle.test_boards.proofs.live_clock.feed_all.Given as goal

abbrev pub invariant-each : goal.invariant-each
invariant-each l = HasBegun l.live
