use Rattle.std.proofs.Common.{◌≡◌, length, rules}
use Rattle.board_events.proofs.PictureLemmas.{plain_dump, rotated_dump}
use Rattle.board_events.proofs.session.picture_of.Goals as goal

pub returns-then-not-rotated-clause-picture : goal.returns-then-not-rotated-clause-picture
returns-then-not-rotated-clause-picture c = λ past.
    let size : length c.args.codes ≡ 64 = search rules in rw c.if-not-rotated.true (plain_dump c.args.codes past size)

pub returns-clause-picture : goal.returns-clause-picture
returns-clause-picture c = λ past.
    let size : length c.args.codes ≡ 64 = search rules in
    rw (c.if-not-rotated.false, c.reverse.ensures.after) (rotated_dump c.args.codes past size)
