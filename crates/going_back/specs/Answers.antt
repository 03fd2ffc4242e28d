-- What becomes of a capture, by a text that says how far its game goes back. Events are listed with the latest first.
use Rattle.std.specs.Prelude.{◌≡◌, ◌+◌, ℕ, Bool, List, [], MatchOption, length, take}
use Rattle.dgt_frame.specs.declared.events.Event.{Event}
use Rattle.settle_core.specs.GameResult.{IsResult}
use Rattle.settle_core.specs.Settler.{SettlerState, HasSettled, plies_of, position_of}
use Rattle.board_events.specs.Session.{entries_in}
use Rattle.board_events.specs.Settings.{Setting}
use Rattle.board_captures.specs.Reading.{IsRead}
use Rattle.going_back.specs.declared.answering.Answer.{Answer}
use Rattle.going_back.specs.declared.answering.Answer.TheVariants.{Back, Unnamed, Refused}
use Rattle.going_back.specs.Back.{GoesBack, Refuses}
use Rattle.going_back.specs.Naming.{Names}
use Rattle.going_back.specs.Nearest.{IsNearest}

-- Of these events, which gave this game: so many plies are named and stay, the others go, the result was this, and the
-- new capture is this; or no ply is named, and this one is nearest, or there is none; or so many plies are named, and the
-- game can't go back to them for this reason.
abbrev pub IsAnswerOf : Setting → Bool → List Event → SettlerState → List ℕ → Answer → Type 0
IsAnswerOf setting recovers past game to (Back made stays gone result) = Names game.start (plies_of game) to stays
    × (stays + gone ≡ length (plies_of game)) × IsResult (position_of game) game.score.sign result
    × GoesBack setting recovers past (plies_of game) (take stays (plies_of game)) made.items
IsAnswerOf setting recovers past game to (Unnamed nearest) = ((k : ℕ) → Names game.start (plies_of game) to k → ⊥)
    × MatchOption nearest (plies_of game ≡ []) (IsNearest to game.start (plies_of game))
IsAnswerOf setting recovers past game to (Refused stays error) = Names game.start (plies_of game) to stays
    × Refuses setting recovers past (plies_of game) (take stays (plies_of game)) error

-- So it is of the game of this capture.
abbrev pub IsAnswer : Setting → Bool → List ℕ → List ℕ → Answer → Type 0
IsAnswer setting recovers capture to answer = (past : List Event) × (game : SettlerState) × IsRead setting recovers capture past
    × HasSettled game setting.start (entries_in setting past) × IsAnswerOf setting recovers past game to answer
