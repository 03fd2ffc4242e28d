use Rattle.board_cable.specs.Turns.{told}
use Rattle.board_cable.proofs.Once.{asking_after}
use Rattle.board_cable.proofs.cable.Cable.is_own.Goals as goal

pub returns : goal.returns
returns c past turns stands h = c.is_own.ensures (told turns) (asking_after c.args.self.now past turns stands h)
