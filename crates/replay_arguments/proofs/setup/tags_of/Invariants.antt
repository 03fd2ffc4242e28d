use Rattle.replay_arguments.specs.Setups.{tag_text}
use Rattle.replay_arguments.proofs.SetupLemmas.{SetTo}
use Rattle.replay_arguments.proofs.setup.tags_of.Given as goal

abbrev pub invariant-loop-tag : goal.invariant-loop-tag
invariant-loop-tag l = SetTo (tag_text l.options) l.tag-index l.tags
