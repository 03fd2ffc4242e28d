use Rattle.board_cable.specs.Turns.{told}
use Rattle.board_cable.proofs.Once.{asking_after}
use Rattle.board_cable.proofs.cable.Cable.serial.Goals as goal

pub returns : goal.returns
returns c past turns stands h = c.serial.ensures (told turns) (asking_after c.args.self.now past turns stands h)
