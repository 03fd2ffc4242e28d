use Rattle.board_live.specs.Live.{HasBegun}
use Rattle.test_boards.proofs.own_boards.feed.Given as goal

abbrev pub invariant-each : goal.invariant-each
invariant-each l = HasBegun l.live
