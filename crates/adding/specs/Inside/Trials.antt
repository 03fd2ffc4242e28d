-- What is tried behind a capture.
use Rattle.std.specs.Prelude.{◌≡◌, List, ◌∷◌, ◌++◌, map, None, Some}
use Rattle.chess_rules.specs.declared.parts.Parts.{Parts}
use Rattle.dgt_frame.specs.declared.events.Event.{Event}
use Rattle.settle_core.specs.declared.plies.Outcome.{Outcome}
use Rattle.settle_core.specs.declared.plies.Ply.{Ply}
use Rattle.board_events.specs.Settings.{Setting}
use Rattle.typed_lines.specs.declared.reading.Typed.{Typed}
use Rattle.chess_rules.specs.declared.chess_move.Move.{Move}
use Rattle.chess_rules.specs.Picture.{picture}
use Rattle.pair_frames.specs.PutIn.{ShowsWhole, dump_of}
use Rattle.board_captures.specs.Shown.{plies_shown}
use Rattle.adding.specs.Signs.{sign_picture}
use Rattle.adding.specs.Making.{ShowsTyped, board_again, plies_with, sign_with, unclocked}
use Rattle.adding.specs.declared.adding.Trial.{Trial}

-- The bytes, and the game that they are to give, are those of what was typed.
pub record IsTrial (setting : Setting) (past : List Event) (p : Parts) (plies : List Ply) (said : Typed) (trial : Trial) : Type 0 where
  pub shows : ShowsTyped setting past p said trial.bytes.items
  pub plies_are : trial.plies.items ≡ plies_with plies said
  pub sign_is : trial.sign ≡ sign_with said

-- those of moves
pub record TriesMoves (setting : Setting) (past : List Event) (p : Parts) (plies : List Ply) (moves : List Move) (trial : Trial) : Type 0 where
  pub shows : ShowsWhole trial.bytes.items (plies_shown setting.first setting.rotated p None (map unclocked moves) ++ board_again setting past p)
  pub plies_are : trial.plies.items ≡ plies ++ map unclocked moves
  pub sign_is : trial.sign ≡ None

-- those of a result
pub record TriesResult (setting : Setting) (past : List Event) (p : Parts) (plies : List Ply) (outcome : Outcome) (trial : Trial) : Type 0 where
  pub shows : ShowsWhole trial.bytes.items (dump_of setting.rotated (sign_picture outcome (picture p)) ∷ board_again setting past p)
  pub plies_are : trial.plies.items ≡ plies
  pub sign_is : trial.sign ≡ Some outcome
