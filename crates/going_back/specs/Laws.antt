-- What `record` makes of the new capture of a game that went back, and what is typed for a change. Plies stand in their order, events
-- have the latest first.
use Rattle.std.specs.Prelude.{◌≡◌, ◌≢◌, ◌⊎◌, ◌-◌, ◌++◌, ℕ, Bool, false, true, List, None, Some, length, take}
use Rattle.chess_rules.specs.declared.parts.Parts.{Parts}
use Rattle.chess_rules.specs.Picture.{picture}
use Rattle.chess_rules.specs.Valid.{Valid}
use Rattle.dgt_frame.specs.declared.events.Event.{Event}
use Rattle.dgt_frame.specs.Streams.{Shows, Timed}
use Rattle.settle_core.specs.declared.plies.Ply.{Ply}
use Rattle.settle_core.specs.Entries.{Entry, last_picture}
use Rattle.settle_core.specs.Folding.{moves_of}
use Rattle.chess_game.specs.Games.{Content}
use Rattle.chess_game.specs.Values.{TagValues}
use Rattle.board_events.specs.Commands.{past_of}
use Rattle.board_events.specs.Game.{IsGameOf}
use Rattle.board_events.specs.Session.{entries_in}
use Rattle.board_events.specs.Settings.{Setting}
use Rattle.unseen_pairs.specs.declared.pair.Recovery.{Recovery}
use Rattle.unseen_pairs.specs.Pairs.{Confirms, ExplainsAt}
use Rattle.settle_core.specs.Settling.{Line, position_after}
use Rattle.going_back.specs.declared.fit.Fit.{Fit}
use Rattle.going_back.specs.Back.{GoesBack, HasOneMore, Replaces}
use Rattle.going_back.specs.Fitting.{IsOnlyFit, moves_in}
use Rattle.going_back.specs.Proposing.{SaysFit}

-- The game of the events that it shows has exactly the plies that stay, with their clocks, and no result; or one more, which
-- the board shows, and which the old game hadn't there.
abbrev pub WhatStaysIsRecorded : Type 0
WhatStaysIsRecorded = (setting : Setting) (tags : TagValues) (game : Content) (past : List Event) (old stay : List Ply)
    (made : List ℕ) (events : List Timed) (rest : ℕ)
    → Valid setting.start
    → GoesBack setting false past old stay made
    → Shows made events rest
    → IsGameOf game setting tags (past_of events)
    → ((game.plies ≡ stay) × (game.result ≡ None)) ⊎ HasOneMore old stay game.plies

-- The game of the events that a new capture with other plies shows has exactly these plies, or one more, which the board shows,
-- and which the old game hadn't there; and no sign of a result stands.
abbrev pub WhatComesIsRecorded : Type 0
WhatComesIsRecorded = (setting : Setting) (tags : TagValues) (game : Content) (past : List Event) (old plies : List Ply) (more : Bool)
    (made : List ℕ) (events : List Timed) (rest : ℕ)
    → Valid setting.start
    → Replaces setting false past old plies more made
    → Shows made events rest
    → (is : IsGameOf game setting tags (past_of events))
    → (is.sign ≡ None) × ((game.plies ≡ plies) ⊎ HasOneMore old plies game.plies)

-- What went stays away behind `recover`: as long as the game has the plies that the new capture gives, whatever waits and
-- whatever picture comes, no pair is put in for what the board showed when the game went back.
abbrev pub WhatWentStaysAway : Type 0
WhatWentStaysAway = (setting : Setting) (past : List Event) (old stay : List Ply) (made shown : List ℕ) (waiting : List Entry)
    (seen : List ℕ) (r : Recovery) (place : ℕ) (entry : Entry)
    → (back : GoesBack setting true past old stay made)
    → last_picture (entries_in setting past) ≡ Some shown
    → Confirms setting.start (moves_of back.1.1.settler.score.plies) waiting seen r
    → ExplainsAt setting.start (moves_of back.1.1.settler.score.plies) waiting r.pair place entry
    → entry.picture ≢ shown

-- If the game gets the change that alone explains the board, its moves are legal, and its last position is what the board shows: the
-- board agrees.
abbrev pub FitSettlesIt : Type 0
FitSettlesIt = (start : Parts) (plies made : List Ply) (seen : List ℕ) (fit : Fit) → Line start (moves_of plies)
    → IsOnlyFit start (moves_of plies) seen fit
    → moves_of made ≡ moves_of (take (length plies - fit.gone) plies) ++ moves_in fit.coming
    → Line start (moves_of made) × (seen ≡ picture (position_after start (moves_of made)))

-- From a valid start, what is typed for a change follows from the game and the picture.
abbrev pub FitIsOne : Type 0
FitIsOne = (start : Parts) (plies : List Ply) (seen one other : List ℕ) → Valid start → Line start (moves_of plies)
    → SaysFit start plies seen one → SaysFit start plies seen other → one ≡ other
