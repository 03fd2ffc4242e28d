use Rattle.std.proofs.Common.{None, refl, ap}
use Rattle.board_live.specs.declared.saying.Saying.{Saying}
use Rattle.board_live.proofs.live.Live.new.Goals as goal

pub returns-clause-stands : goal.returns-clause-stands
returns-clause-stands c = record {
  attends = c.new-attending.ensures;
  game = c.new-game.ensures.stands;
  saying = record {
    live = ap (λ (s : Saying). s.is_live) c.new-saying.ensures;
    said = None;
    is_said = (refl, ap (λ (s : Saying). s.last) c.new-saying.ensures);
  };
  at_is = refl;
}
