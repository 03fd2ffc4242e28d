use Rattle.std.proofs.Common.{subst}
use Rattle.chess_rules.specs.Valid.{Valid}
use Rattle.unseen_pairs.proofs.Aging.{all_added, none_near, valid_before}
use Rattle.unseen_pairs.proofs.waiting.add_all.Goals as goal

pub returns-then-has_more : goal.returns-then-has_more
returns-then-has_more c = λ last played waits.
    let start = c.args.settler.now.start in
    let plies = c.args.settler.now.score.plies in
    let valid : Valid start = subst Valid c.start.ensures c.parts.ensures.valid in
    none_near start plies c.args.picture.now c.args.reading.now c.args.candidates.now.items c.differs.result valid played
    c.has_more.ensures.fits (c.differs.ensures c.args.picture.now last) (c.has_more.ensures.more c.if-has_more.true)

pub returns-then-hides_none : goal.returns-then-hides_none
returns-then-hides_none c = λ last played waits.
    c.hides_none.ensures c.if-hides_none.true c.args.picture.now c.args.reading.now c.args.candidates.now.items last played waits

pub returns : goal.returns
returns c = λ last played waits.
    let start = c.args.settler.now.start in
    let plies = c.args.settler.now.score.plies in
    let valid : Valid start = subst Valid c.start.ensures c.parts.ensures.valid in
    all_added c.add_correcting.result start plies c.args.picture.now c.args.reading.now c.args.candidates.now.items c.add_next.new.candidates.items c.add_correcting.new.candidates.items
    (c.in_ok-add_next.ensures last)
    (λ ply earlier e. c.add_correcting.ensures.last ply earlier last e (valid_before start plies ply earlier valid played e)) c.add_correcting.ensures.none
