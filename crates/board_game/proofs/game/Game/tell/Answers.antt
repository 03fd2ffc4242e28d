use Rattle.std.proofs.Common.{◌∷◌, refl}
use Rattle.std.proofs.lemmas.Result.{on_ok_weaker}
use Rattle.board_events.specs.Commands.{past_of}
use Rattle.board_game.specs.History.{News, Noted}
use Rattle.board_game.proofs.game.Game.tell.Goals as goal

pub returns-clause-told : goal.returns-clause-told
returns-clause-told c = λ setting recovers past text s. on_ok_weaker c.note.result (λ follows. record {
  events = s.events;
  items = Noted c.args.at c.args.note ∷ s.items;
  decoded = s.decoded;
  shown = s.shown;
  counted = s.counted;
  within = s.within;
  makes = (s.items, s.makes, refl);
  follows = follows;
}) (c.note.ensures setting recovers (past_of s.events) s.items text s.follows)

pub returns-clause-begun : goal.returns-clause-begun
returns-clause-begun c = λ b.
    on_ok_weaker c.note.result (λ s. (b.0, b.1, News c.args.at c.args.note ∷ b.2, b.3, s)) (returns-clause-told c b.0 b.1 b.2 b.3 b.4)
