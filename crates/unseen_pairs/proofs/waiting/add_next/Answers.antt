use Rattle.std.proofs.Common.{false, OnOk, subst}
use Rattle.std.proofs.lemmas.Bool.{both_ways}
use Rattle.chess_rules.specs.declared.parts.Parts.{Parts}
use Rattle.chess_rules.specs.Valid.{Valid}
use Rattle.unseen_pairs.specs.Inside.Waiting.{AreAdded}
use Rattle.unseen_pairs.proofs.Aging.{none_between, none_within}
use Rattle.unseen_pairs.proofs.waiting.add_next.Goals as goal

pub returns-then-has_more : goal.returns-then-has_more
returns-then-has_more c = λ last.
    none_within false _ c.args.picture.now c.args.reading.now c.args.candidates.now.items c.differs.result (subst Valid c.position.ensures.reached c.parts.ensures.valid)
    c.has_more.ensures.fits (c.differs.ensures c.args.picture.now last) (c.has_more.ensures.more c.if-has_more.true)

pub returns-then-not-may_hide_two : goal.returns-then-not-may_hide_two
returns-then-not-may_hide_two c = λ last.
    let h = c.may_hide_two.ensures c.args.picture.now last in
    none_between false _ c.args.picture.now c.args.reading.now c.args.candidates.now.items (subst Valid c.position.ensures.reached c.parts.ensures.valid)
    (λ m. both_ways _ c.if-not-may_hide_two.true (h.1 m))

pub returns : goal.returns
returns c = λ last.
    let A : Parts → Type 0 = λ (p : Parts). OnOk c.add_explaining.result
    (AreAdded false p c.args.picture.now c.args.reading.now c.args.candidates.now.items c.add_explaining.new.candidates.items) in
    subst A c.position-2.ensures.reached c.add_explaining.ensures
