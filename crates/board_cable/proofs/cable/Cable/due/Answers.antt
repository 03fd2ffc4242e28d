use Rattle.board_cable.specs.Turns.{told}
use Rattle.board_cable.proofs.Once.{asking_after}
use Rattle.board_cable.proofs.cable.Cable.due.Goals as goal

pub returns-clause-asks : goal.returns-clause-asks
returns-clause-asks c past turns stands h = c.due.ensures.asks (told turns) (asking_after c.args.self.now past turns stands h)

pub returns-clause-handling : goal.returns-clause-handling
returns-clause-handling c past turns stands h = c.due.ensures.handling (told turns) (asking_after c.args.self.now past turns stands h)

pub returns-clause-changes : goal.returns-clause-changes
returns-clause-changes c past turns stands h = c.due.ensures.changes (told turns) (asking_after c.args.self.now past turns stands h)
