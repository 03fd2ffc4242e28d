-- What holds of the game of all events, whatever a board sent, and how honest play goes on after them. Events have the
-- latest first, the plies of a game stand in their order.
use Rattle.std.specs.Prelude.{◌≡◌, true, List, [], ◌∷◌, ◌++◌, Some, None, reverse}
use Rattle.chess_rules.specs.declared.chess_move.Move.{Move}
use Rattle.chess_rules.specs.declared.parts.Parts.{Parts}
use Rattle.chess_rules.specs.After.{after}
use Rattle.chess_rules.specs.Picture.{picture}
use Rattle.chess_rules.specs.Valid.{Valid}
use Rattle.dgt_frame.specs.declared.events.Event.{Event}
use Rattle.settle_core.specs.declared.plies.Outcome.{Outcome}
use Rattle.settle_core.specs.declared.plies.Ply.{Ply}
use Rattle.settle_core.specs.AnyPlay.{AllShowBothKings}
use Rattle.settle_core.specs.Entries.{Entry, deduplicated, last_picture}
use Rattle.settle_core.specs.Folding.{moves_of, time_of}
use Rattle.settle_core.specs.HonestPlay.{AllShowNoMoreOrLackKing, AllWithinTurnOrLackKing, HasWhole, ShownEach, shown_plies}
use Rattle.settle_core.specs.Laws.{joined}
use Rattle.settle_core.specs.Settling.{Line, position_after, reached}
use Rattle.settle_core.specs.Sign.{IsSign}
use Rattle.chess_game.specs.Games.{Content, Result}
use Rattle.chess_game.specs.Values.{TagValues}
use Rattle.board_events.specs.Entries.{is_entry}
use Rattle.board_events.specs.Game.{IsGameOf}
use Rattle.board_events.specs.History.{picture_of, reading_at}
use Rattle.board_events.specs.Settings.{Setting}
use Rattle.board_events.specs.Session.{entries_in}

-- Each of the plies, of which the latest comes first, was shown whole: at some event that gives an entry the picture
-- was that after it, and in the reading then its mover had the time that is the ply's clock; and the plies before it
-- were shown in the events before that one.
abbrev pub WereShownByEvents : Setting → List Ply → List Event → Type 0
WereShownByEvents setting [] past = Unit {0}
WereShownByEvents setting (ply ∷ earlier) past = (later : List Event) × (event : Event) × (before : List Event)
    × (past ≡ later ++ event ∷ before)
    × (is_entry event before ≡ true)
    × (picture_of setting.rotated (event ∷ before) ≡ picture (after (reached setting.start (moves_of earlier)) ply.mv))
    × (ply.clock ≡ time_of (reached setting.start (moves_of earlier)).side (reading_at setting.first (event ∷ before)))
    × WereShownByEvents setting earlier before

-- Nothing is invented: whatever the events, each ply of their game was shown whole, in its turn.
abbrev pub NothingRecordedIsInvented : Type 0
NothingRecordedIsInvented = (setting : Setting) (tags : TagValues) (past : List Event) (game : Content)
    → IsGameOf game setting tags past → WereShownByEvents setting (reverse game.plies) past

-- The plies that come after have all plies but the last in their places, and another one at least after them.
abbrev pub HasAllButLast : List Ply → List Ply → Type 0
HasAllButLast before plies = (kept : List Ply) (last : Ply) → before ≡ kept ++ last ∷ []
    → (ply : Ply) × (more : List Ply) × (plies ≡ kept ++ ply ∷ more)

-- Only the last ply may change: whatever events come later, all plies but the last stand for good.
abbrev pub OnlyTheLastRecordedPlyMayChange : Type 0
OnlyTheLastRecordedPlyMayChange = (setting : Setting) (tags : TagValues) (later past : List Event) (before game : Content)
    → Valid setting.start → IsGameOf before setting tags past → IsGameOf game setting tags (later ++ past)
    → HasAllButLast before.plies game.plies

-- the position that a game has reached
abbrev pub end_of : Content → Parts
end_of game = position_after game.start (moves_of game.plies)

-- This is the game of these events; it has no result, and the board agrees with it: the last picture is that of its
-- last position.
pub record Agrees (game : Content) (setting : Setting) (tags : TagValues) (past : List Event) : Type 0 where
  pub game_is : IsGameOf game setting tags past
  pub running : game.result ≡ None
  pub last : last_picture (entries_in setting past) ≡ Some (picture (end_of game))

-- These lists of entries show a line of moves honestly from here on.
pub record ShowsOn (position : Parts) (moves : List Move) (lists : List (List Entry)) : Type 0 where
  pub line : Line position moves
  pub shown : ShownEach position moves lists

-- After these events, later ones give the entries that are listed here in their order, repeated pictures aside.
abbrev pub GivesOn : Setting → List Event → List Event → List Entry → Type 0
GivesOn setting later past shown =
    deduplicated (entries_in setting (later ++ past)) ≡ deduplicated (reverse shown ++ entries_in setting past)

-- Honest play resumes: whatever was sent before, where the board agrees with the game, the moves that later events show
-- honestly are added to its plies, each with its clock, and nothing else is.
abbrev pub ResumedPlayIsRecorded : Type 0
ResumedPlayIsRecorded = (setting : Setting) (tags : TagValues) (later past : List Event) (before game : Content) (moves : List Move)
    (lists : List (List Entry))
    → Valid setting.start → Agrees before setting tags past
    → ShowsOn (end_of before) moves lists
    → GivesOn setting later past (joined lists)
    → IsGameOf game setting tags (later ++ past)
    → (game.plies ≡ before.plies ++ shown_plies (end_of before) moves lists) × Result setting.start game.plies None game.result

-- Where it then stops between two moves, the plies that were added are those of the whole moves, or these and one more.
abbrev pub ResumedStopIsRecorded : Type 0
ResumedStopIsRecorded = (setting : Setting) (tags : TagValues) (later past : List Event) (before game : Content) (moves : List Move)
    (lists : List (List Entry))
    (part : List Entry)
    → Valid setting.start → Agrees before setting tags past
    → ShowsOn (end_of before) moves lists
    → AllWithinTurnOrLackKing (position_after (end_of before) moves) part
    → GivesOn setting later past (joined lists ++ part)
    → IsGameOf game setting tags (later ++ past)
    → ((made : List Ply) × (game.plies ≡ before.plies ++ made) × HasWhole (end_of before) moves lists part made)
    × Result setting.start game.plies None game.result

-- And where the kings end it, the game has these plies, and the result of its last position, else the sign's.
abbrev pub ResumedEndIsRecorded : Type 0
ResumedEndIsRecorded = (setting : Setting) (tags : TagValues) (later past : List Event) (before game : Content) (moves : List Move)
    (lists : List (List Entry))
    (clearing rest : List Entry) (kings : Entry) (outcome : Outcome)
    → Valid setting.start → Agrees before setting tags past
    → ShowsOn (end_of before) moves lists
    → AllShowNoMoreOrLackKing (position_after (end_of before) moves) clearing
    → IsSign (position_after (end_of before) moves) kings.picture outcome
    → AllShowNoMoreOrLackKing (position_after (end_of before) moves) rest
    → GivesOn setting later past (joined lists ++ (clearing ++ kings ∷ rest))
    → IsGameOf game setting tags (later ++ past)
    → (game.plies ≡ before.plies ++ shown_plies (end_of before) moves lists) × Result setting.start game.plies (Some outcome) game.result

-- While both kings stand in the centre no move is made: later events of which all entries show them there leave the
-- plies as they were, whatever else they show; the result alone can change.
abbrev pub KingsInCentreRecordNoMove : Type 0
KingsInCentreRecordNoMove = (setting : Setting) (tags : TagValues) (later past : List Event) (before game : Content) (shown : List Entry)
    → Valid setting.start → IsGameOf before setting tags past
    → entries_in setting (later ++ past) ≡ shown ++ entries_in setting past
    → AllShowBothKings shown
    → IsGameOf game setting tags (later ++ past)
    → game.plies ≡ before.plies
