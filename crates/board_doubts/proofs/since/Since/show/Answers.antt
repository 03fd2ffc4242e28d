use Rattle.std.proofs.Common.{refl, sym}
use Rattle.board_doubts.specs.Pictures.{astray, moved_on, others, own}
use Rattle.board_doubts.specs.Recent.{laid}
use Rattle.board_doubts.proofs.since.Since.show.Goals as goal

pub returns : goal.returns
returns c past keeps =
    let at = c.args.at in
    let first = c.args.first in
    let picture = laid at first c.args.seen.now in
    let since = sym c.since_of-since.ensures in
    let moved = sym (c.moved_on-moved_on.ensures at first) in
    record {
      own_is = c.show.ensures own picture past refl since refl keeps.own_is;
      others_is = c.show-2.ensures others picture past refl since refl keeps.others_is;
      astray_is = c.show-3.ensures astray picture past refl since refl keeps.astray_is;
      again = c.show-4.ensures moved_on picture past refl since moved keeps.again;
      drawn = c.show-5.ensures moved_on picture past refl since moved keeps.drawn;
    }
