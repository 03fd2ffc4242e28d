use Rattle.settle_core.proofs.Once.{no_entry_gives_two}
use Rattle.settle_core.proofs.laws.no_entry_gives_two.Goals as goal

pub returns : goal.returns
returns c = no_entry_gives_two
