use Rattle.std.proofs.Common.{[], inl, refl, arith}
use Rattle.board_captures.specs.Reading.{setting_of}
use Rattle.board_game.specs.Report.{first_line}
use Rattle.board_game.proofs.game.Game.new.Goals as goal

pub returns-clause-stands : goal.returns-clause-stands
returns-clause-stands c = record {
  events = [];
  items = [];
  decoded = c.new-decoder.ensures;
  shown = (0, (inl refl, refl));
  counted = refl;
  within = omega arith;
  makes = refl;
  follows = c.new-following.ensures;
}

pub returns-clause-begun : goal.returns-clause-begun
returns-clause-begun c =
    let setting = setting_of c.args.method.now in
    (setting, c.args.method.now.recovers, [], first_line setting, returns-clause-stands c)
