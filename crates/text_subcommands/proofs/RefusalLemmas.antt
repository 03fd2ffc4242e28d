-- What is said of a start that is refused.
use Rattle.std.proofs.Common.{ℕ, List, Option, Some, None, refl}
use Rattle.std.specs.Prelude.{IfSome}
use Rattle.chess_rules.specs.declared.parts.Parts.{Parts}
use Rattle.chess_rules.specs.Initial.{initial}
use Rattle.chess_text.specs.declared.fen.FenError.{FenError}
use Rattle.chess_text.specs.Fen.{RefusedFirst}
use Rattle.chess_text.specs.Start.{StartsAt}
use Rattle.text_subcommands.specs.Refusals.{RefusesStart}
use Rattle.text_subcommands.specs.Messages.{fen_message}

pub start_refused : (fen : Option (List ℕ)) (error : FenError) → IfSome fen (λ text. RefusedFirst text error) → ((start : Parts) → StartsAt fen start → ⊥) → RefusesStart fen (fen_message error)
start_refused None error refused none = none initial refl
start_refused (Some text) error refused none = (error, refused, refl)
