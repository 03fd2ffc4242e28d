use Rattle.std.proofs.Common.{take}
use Rattle.clap.specs.Simple.{App}
use Rattle.chess_game.specs.TagNames.{all_tags}
use Rattle.replay_arguments.specs.Command.{Makes, with_options}
use Rattle.replay_arguments.proofs.command.with_tags.Given as goal

abbrev pub invariant-loop-tag : goal.invariant-loop-tag
invariant-loop-tag l = (app : App) → Makes l.fn.command app → Makes l.tagged (with_options (take l.tag-index all_tags) app)
