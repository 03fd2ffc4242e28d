-- The game of a list of events. Events, entries and plies are listed with the latest first, the plies of a game in
-- their order.
use Rattle.std.specs.Prelude.{◌≡◌, ◌+◌, ◌≤◌, List, [], ◌∷◌, Option, length, ⊤}
use Rattle.chess_rules.specs.declared.parts.Parts.{Parts}
use Rattle.dgt_frame.specs.declared.events.Event.{Event}
use Rattle.settle_core.specs.declared.plies.Outcome.{Outcome}
use Rattle.settle_core.specs.Entries.{Entry, deduplicated}
use Rattle.settle_core.specs.Folding.{Folds, Score, moves_of, score_of}
use Rattle.settle_core.specs.Settling.{Line}
use Rattle.chess_game.specs.Games.{Content, Result}
use Rattle.chess_game.specs.Values.{TagValues}
use Rattle.board_events.specs.Settings.{Setting}
use Rattle.board_events.specs.Session.{entries_in}

-- The game is that of these events: it is folded from their pictures, of which one that equals the one before counts no
-- further time; each of its moves is legal where it stands.
pub record IsGameOf (game : Content) (setting : Setting) (tags : TagValues) (past : List Event) : Type 0 where
  pub sign : Option Outcome
  pub tags_are : game.tags ≡ tags
  pub start_is : game.start ≡ setting.start
  pub folds : Folds setting.start (deduplicated (entries_in setting past)) (score_of game.plies sign)
  pub line : Line setting.start (moves_of game.plies)
  pub result_is : Result setting.start game.plies sign game.result

-- Each of these entries gave one move more than those before it, or none.
abbrev pub GivesOneEach : Parts → List Entry → Type 0
GivesOneEach start [] = ⊤
GivesOneEach start (entry ∷ past) = ((before score : Score) → Folds start past before → Folds start (entry ∷ past) score
    → length score.plies ≤ length before.plies + 1) × GivesOneEach start past
