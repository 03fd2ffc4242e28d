use Rattle.board_live.specs.Coming.{with_news}
use Rattle.board_live.proofs.hearing.tell_and_give.Goals as goal

pub returns-clause-told : goal.returns-clause-told
returns-clause-told c = λ setting recovers past text s.
    c.give.ensures.told setting recovers (with_news c.args.when.at c.args.news past) text (c.in_ok-tell.ensures.told setting recovers past text s)

pub returns-clause-whole : goal.returns-clause-whole
returns-clause-whole c = λ setting recovers past text s.
    c.give.ensures.whole setting recovers (with_news c.args.when.at c.args.news past) text (c.in_ok-tell.ensures.told setting recovers past text s)

pub give-requires : goal.give-requires
give-requires c = record { begun = c.in_ok-tell.ensures.begun c.requires.begun }
