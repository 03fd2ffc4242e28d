use Rattle.std.proofs.Common.{ap, ◌∙◌}
use Rattle.clap.specs.Matches.{found_of}
use Rattle.clap.specs.Walk.{Text, first_of, rows_of}
use Rattle.replay_arguments.proofs.ArgumentLemmas.{text_given}
use Rattle.replay_arguments.proofs.arguments.tag_text_of.Goals as goal

pub returns : goal.returns
returns c =
    let found = found_of c.args.matches.now in
    text_given found c.option_name.result.now c.get_str.result c.get_str.ensures ∙ ap (λ (name : Text). first_of name (rows_of found)) c.option_name.ensures
