use Rattle.std.proofs.Common.{codes, ap, sym, ◌∙◌}
use Rattle.clap.specs.Matches.{found_of}
use Rattle.replay_arguments.specs.Setups.{side_in}
use Rattle.replay_arguments.proofs.ArgumentLemmas.{flag_reads, text_given}
use Rattle.replay_arguments.proofs.arguments.board_arguments_of.Goals as goal

pub returns-clause-wants : goal.returns-clause-wants
returns-clause-wants c =
    let found = found_of c.args.matches.now in
    record {
      rotated = λ rotated given. flag_reads found c.get_flag.result rotated c.get_flag.ensures.value c.get_flag.ensures.other given;
      first = ap side_in (sym (text_given found (codes "first") c.get_str.result c.get_str.ensures)) ∙ sym c.side_of.ensures ∙ c.in-Some.is;
      fen = text_given found (codes "fen") c.get_str-2.result c.get_str-2.ensures;
    }
