use Rattle.std.proofs.Common.{arith}
use Rattle.board_alarms.proofs.PlyLemmas.{one_more, same_before}
use Rattle.board_alarms.proofs.course.Course.positions_after.Goals as goal

pub returns-then-self-count : goal.returns-then-self-count
returns-then-self-count c = λ start old new keeps here count grows.
    let size = keeps.counted in
    let more = c.if-self-count.true in
    c.with.ensures start old new keeps.keeps here (one_more old new grows (omega (arith, size, count, more)))

pub returns-else-self-count : goal.returns-else-self-count
returns-else-self-count c = λ start old new keeps here count grows.
    let size = keeps.counted in
    let none = c.if-self-count.false in
    c.instead.ensures start old new keeps.keeps here (same_before old new grows (omega (arith, size, count, none)))
