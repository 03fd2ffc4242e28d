use Rattle.std.proofs.Common.{refl}
use Rattle.game_over.specs.declared.said.Said.TheVariants.{Nothing}
use Rattle.board_endings.proofs.judging.Judging.take_game.Goals as goal

pub returns-in-Agrees : goal.returns-in-Agrees
returns-in-Agrees c = λ past h. rw c.in-Agrees.is (record {
  ending = c.agree.ensures.stands past c.args.bytes h.ending;
  end = (c.args.self.now.end, Nothing, h.end, c.agree.ensures.said past c.args.bytes, refl);
})

pub returns-in-Differs : goal.returns-in-Differs
returns-in-Differs c = λ past h. rw c.in-Differs.is (record {
  ending = c.differ.ensures.stands past c.args.bytes h.ending;
  end = (c.args.self.now.end, Nothing, h.end, c.differ.ensures.said past c.args.bytes, refl);
})
