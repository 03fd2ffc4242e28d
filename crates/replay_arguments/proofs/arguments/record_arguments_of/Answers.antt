use Rattle.clap.specs.Matches.{found_of}
use Rattle.clap.specs.Walk.{rows_of}
use Rattle.replay_arguments.specs.Setups.{WantsBoard}
use Rattle.replay_arguments.proofs.ArgumentLemmas.{if_some_at}
use Rattle.replay_arguments.proofs.SetupLemmas.{options_with, wants_tags}
use Rattle.replay_arguments.proofs.arguments.record_arguments_of.Goals as goal

pub returns-clause-wants : goal.returns-clause-wants
returns-clause-wants c = record {
  board = if_some_at (WantsBoard (rows_of (found_of c.args.matches.now))) c.board_arguments_of.result c.in-Some.board c.in-Some.is c.board_arguments_of.ensures.wants;
  tags = wants_tags (rows_of (found_of c.args.matches.now))
      (options_with c.in-Some.board c.tag_text_of.result c.tag_text_of-2.result c.tag_text_of-3.result c.tag_text_of-4.result c.tag_text_of-5.result c.tag_text_of-6.result)
      c.tag_text_of.ensures c.tag_text_of-2.ensures c.tag_text_of-3.ensures c.tag_text_of-4.ensures c.tag_text_of-5.ensures c.tag_text_of-6.ensures;
}
