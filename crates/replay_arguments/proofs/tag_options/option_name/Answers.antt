use Prim.{search}
use Rattle.std.proofs.Common.{rules}
use Rattle.replay_arguments.proofs.tag_options.option_name.Goals as goal

pub returns-in-White : goal.returns-in-White
returns-in-White c = search rules
