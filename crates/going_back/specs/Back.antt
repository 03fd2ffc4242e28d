-- A game that goes back to one of its plies. Plies stand in their order, events have the latest first.
use Rattle.std.specs.Prelude.{◌≡◌, ◌⊎◌, ◌<◌, ◌+◌, ℕ, Bool, false, true, List, [], ◌∷◌, ◌++◌, Option, Some, None, length, reverse, slice_get}
use Rattle.chess_rules.specs.declared.chess_move.Move.{Move}
use Rattle.dgt_frame.specs.declared.events.Event.{Event}
use Rattle.settle_core.specs.declared.plies.Outcome.{Outcome}
use Rattle.settle_core.specs.declared.plies.Ply.{Ply}
use Rattle.settle_core.specs.Entries.{last_picture}
use Rattle.settle_core.specs.Folding.{moves_of}
use Rattle.settle_core.specs.GameResult.{IsResult}
use Rattle.settle_core.specs.Settler.{SettlerState, HasSettled, plies_of}
use Rattle.settle_core.specs.Settling.{position_after}
use Rattle.board_events.specs.History.{is_trusted, reading_at}
use Rattle.board_events.specs.Limits.{limit}
use Rattle.board_events.specs.Session.{entries_in}
use Rattle.board_events.specs.Settings.{Setting}
use Rattle.unseen_pairs.specs.Pairs.{IsExplained}
use Rattle.pair_frames.specs.PutIn.{ShowsWhole}
use Rattle.board_captures.specs.Reading.{IsRead, IsTooLong, StandAlike}
use Rattle.board_captures.specs.Shown.{board_shown, game_shown, size_of_board, size_of_game}
use Rattle.going_back.specs.declared.going.BackError.{BackError}
use Rattle.going_back.specs.declared.going.BackError.TheVariants.{Unseen, Ended, Signed, Moved, Board, TooLong, Memory}

-- These bytes show these plies, and then the board as it stands after these events.
abbrev pub IsMade : Setting → List Event → List Ply → List ℕ → Type 0
IsMade setting past stay made = (seen : List ℕ) × (last_picture (entries_in setting past) ≡ Some seen)
    × ShowsWhole made (game_shown setting.first setting.rotated setting.start stay
    ++ board_shown setting.first setting.rotated (reading_at setting.first past) seen (is_trusted past))

-- At this place, 0 for the first, the game had this move.
abbrev pub HadMove : List Ply → ℕ → Move → Type 0
HadMove old place m = (was : Ply) × (slice_get old place ≡ Some was) × (was.mv ≡ m)

-- All these plies are the first ones and one more, which the old game hadn't there.
abbrev pub HasOneMore : List Ply → List Ply → List Ply → Type 0
HasOneMore old plies all = (next : Ply) × (all ≡ plies ++ next ∷ []) × (HadMove old (length plies) next.mv → ⊥)

-- The game has these plies and no other; or one more, which the old game hadn't there.
abbrev pub HasPlies : SettlerState → List Ply → List Ply → Bool → Type 0
HasPlies made old plies false = plies_of made ≡ plies
HasPlies made old plies true = HasOneMore old plies (plies_of made)

-- What the game has otherwise: the sign of a result; the move that the old game had there; other plies.
abbrev pub Differs : SettlerState → List Ply → List Ply → BackError → Type 0
Differs made old plies (Signed outcome) = (more : Bool) × HasPlies made old plies more × (made.score.sign ≡ Some outcome)
Differs made old plies (Moved m) = (ply : Ply) × (more : List Ply) × (plies_of made ≡ plies ++ ply ∷ more) × (ply.mv ≡ m)
    × HadMove old (length plies) m
Differs made old plies Board = (more : Bool) → HasPlies made old plies more → ⊥
Differs made old plies (Ended outcome) = ⊥
Differs made old plies Unseen = ⊥
Differs made old plies TooLong = ⊥
Differs made old plies Memory = ⊥

-- What the board shows after these events may be taken for two plies that weren't shown, behind these plies or with
-- another one in place of the last.
abbrev pub ShowsPair : Setting → List Event → List Ply → Type 0
ShowsPair setting past plies = (seen : List ℕ) × (last_picture (entries_in setting past) ≡ Some seen)
    × IsExplained setting.start (moves_of (reverse plies)) seen

-- In place of the old game `record` makes the one of this capture, which has these plies, with their clocks, or one more
-- that the board shows and that the old game hadn't there, and no sign of a result; and after it the board stands as after
-- these events. Where unseen pairs are recovered, what the board shows is no pair: so none comes back at the next move.
pub record Gives (setting : Setting) (recovers : Bool) (past : List Event) (old plies : List Ply) (more : Bool) (made : List ℕ) : Type 0 where
  pub events : List Event
  pub read : IsRead setting recovers made events
  pub settler : SettlerState
  pub settled : HasSettled settler setting.start (entries_in setting events)
  pub front : HasPlies settler old plies more
  pub sign : settler.score.sign ≡ None
  pub board : StandAlike setting events past
  pub no_pair : recovers ≡ true → ShowsPair setting past (plies_of settler) → ⊥

-- Of this capture it makes another game; or the board stands otherwise after it, or shows a pair that would be recovered.
pub record GivesOther (setting : Setting) (recovers : Bool) (past : List Event) (old plies : List Ply) (made : List ℕ) (error : BackError) : Type 0 where
  pub events : List Event
  pub read : IsRead setting recovers made events
  pub settler : SettlerState
  pub settled : HasSettled settler setting.start (entries_in setting events)
  pub why : Differs settler old plies error
      ⊎ ((error ≡ Board) × ((StandAlike setting events past → ⊥) ⊎ ((recovers ≡ true) × ShowsPair setting past (plies_of settler))))

-- What is wrong with this capture.
abbrev pub Spoils : Setting → Bool → List Event → List Ply → List Ply → List ℕ → BackError → Type 0
Spoils setting recovers past old plies made error = ((error ≡ TooLong) × IsTooLong setting recovers made)
    ⊎ GivesOther setting recovers past old plies made error

-- A capture that shows so many plies, and then the board as it stands after these events, has more bytes than a stream
-- may have.
abbrev pub IsTooLarge : List Event → ℕ → Type 0
IsTooLarge past plies = limit < size_of_game plies + size_of_board (is_trusted past)

-- The new capture of a game that gets these plies in place of the old ones, or one more.
abbrev pub Replaces : Setting → Bool → List Event → List Ply → List Ply → Bool → List ℕ → Type 0
Replaces setting recovers past old plies more made = IsMade setting past plies made × Gives setting recovers past old plies more made

-- Why it can't get them: memory ran out, the board has shown nothing, the new capture would be too large, or it won't do.
abbrev pub RefusesThese : Setting → Bool → List Event → List Ply → List Ply → BackError → Type 0
RefusesThese setting recovers past old plies error = (error ≡ Memory)
    ⊎ (((error ≡ Unseen) × (last_picture (entries_in setting past) ≡ None))
    ⊎ (((error ≡ TooLong) × IsTooLarge past (length plies))
    ⊎ ((made : List ℕ) × IsMade setting past plies made × Spoils setting recovers past old plies made error)))

-- with the last of these plies the game ends on the board, so, or doesn't
abbrev pub EndsSo : Setting → List Ply → Option Outcome → Type 0
EndsSo setting plies outcome = IsResult (position_after setting.start (moves_of plies)) None outcome

-- The new capture of a game that goes back to these plies, with which it doesn't end.
abbrev pub GoesBack : Setting → Bool → List Event → List Ply → List Ply → List ℕ → Type 0
GoesBack setting recovers past old stay made = (more : Bool) × Replaces setting recovers past old stay more made × EndsSo setting stay None

-- Why it can't go back to them: with the last of them it ends by mate or stalemate, or it can't get them.
abbrev pub Refuses : Setting → Bool → List Event → List Ply → List Ply → BackError → Type 0
Refuses setting recovers past old stay error = ((outcome : Outcome) × (error ≡ Ended outcome) × EndsSo setting stay (Some outcome))
    ⊎ RefusesThese setting recovers past old stay error
