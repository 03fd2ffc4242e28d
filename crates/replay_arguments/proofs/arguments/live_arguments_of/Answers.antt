use Rattle.std.proofs.Common.{codes}
use Rattle.clap.specs.Matches.{found_of}
use Rattle.clap.specs.Walk.{rows_of}
use Rattle.replay_arguments.specs.Setups.{Wants}
use Rattle.replay_arguments.proofs.ArgumentLemmas.{flag_of_reads, if_some_at}
use Rattle.replay_arguments.proofs.arguments.live_arguments_of.Goals as goal

pub returns-clause-wants : goal.returns-clause-wants
returns-clause-wants c =
    let found = found_of c.args.matches.now in
    record {
      game = if_some_at (Wants (rows_of found)) c.record_arguments_of.result c.in-Some.game c.in-Some.is c.record_arguments_of.ensures.wants;
      recovers = λ recovers given. flag_of_reads found (codes "recover") c.get_flag-recovers.result recovers c.get_flag-recovers.ensures.value c.get_flag-recovers.ensures.other given;
    }
