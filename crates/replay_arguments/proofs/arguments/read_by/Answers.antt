use Rattle.std.proofs.Common.{◌≡◌, ◌∙◌, List, Option, None, map, string_bytes, ap, inl, inr, subst}
use Rattle.std.specs.Prelude.{MatchOption}
use Rattle.clap.specs.Walk.{Row, Text}
use Rattle.clap.specs.Simple.{app_of, subcommand_of, subcommand_rows_of}
use Rattle.clap.specs.Takes.{takes}
use Rattle.replay_arguments.specs.Subcommands.{Chooses}
use Rattle.replay_arguments.specs.Command.{replay}
use Rattle.replay_arguments.proofs.FaultLemmas.{fault_found, none_found}
use Rattle.replay_arguments.proofs.ArgumentLemmas.{asks_for, asks_for_none, not_taken, rows_found}
use Rattle.replay_arguments.proofs.arguments.read_by.Goals as goal

pub returns-in-Err-clause-refused : goal.returns-in-Err-clause-refused
returns-in-Err-clause-refused c =
    let arguments = map string_bytes c.args.arguments.now in
    not_taken (takes replay arguments) _ _ (λ taken. c.in-Err.ensures.passes (ap (λ app. takes app arguments) c.requires ∙ taken))

pub returns-in-Some-clause-chooses : goal.returns-in-Some-clause-chooses
returns-in-Some-clause-chooses c =
    let arguments = map string_bytes c.args.arguments.now in
    let found : subcommand_rows_of c.in-Ok.matches ≡ subcommand_of replay arguments = rows_found (app_of c.args.command.now) arguments c.in-Ok.matches c.requires c.in-Ok.ensures.ok.2 in
    let P : Option (Text × List Row) → Type 0 = λ rows. MatchOption rows (c.subcommand_in.result ≡ None) (λ f. Chooses f.0 f.1 c.subcommand_in.result) in
    asks_for (subcommand_of replay arguments) c.subcommand_in.result c.in-Some.subcommand (subst P found c.subcommand_in.ensures) c.in-Some.is

pub returns-clause-refused : goal.returns-clause-refused
returns-clause-refused c =
    let arguments = map string_bytes c.args.arguments.now in
    let found : subcommand_rows_of c.in-Ok.matches ≡ subcommand_of replay arguments = rows_found (app_of c.args.command.now) arguments c.in-Ok.matches c.requires c.in-Ok.ensures.ok.2 in
    let P : Option (Text × List Row) → Type 0 = λ rows. MatchOption rows (c.subcommand_in.result ≡ None) (λ f. Chooses f.0 f.1 c.subcommand_in.result) in
    inr (inr (asks_for_none (subcommand_of replay arguments) c.subcommand_in.result (subst P found c.subcommand_in.ensures) c.in-None.is))

pub returns-in-Err-clause-fault : goal.returns-in-Err-clause-fault
returns-in-Err-clause-fault c = fault_found (app_of c.args.command.now) (map string_bytes c.args.arguments.now) c.in-Err.error c.requires c.in-Err.ensures.kinds

pub returns-in-Some-clause-faultless : goal.returns-in-Some-clause-faultless
returns-in-Some-clause-faultless c = none_found (app_of c.args.command.now) (map string_bytes c.args.arguments.now) c.requires c.in-Ok.ensures.kinds

pub returns-clause-fault : goal.returns-clause-fault
returns-clause-fault c =
    let none = none_found (app_of c.args.command.now) (map string_bytes c.args.arguments.now) c.requires c.in-Ok.ensures.kinds in
    elim c.unknown_side.ensures [
      | inl memory ↦ inl memory
      | inr kind ↦ inr (inr (none, kind))
    ]
