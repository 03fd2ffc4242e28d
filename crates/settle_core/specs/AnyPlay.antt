-- What holds of all games, whatever a board showed, and how honest play goes on after it.
use Rattle.std.specs.Prelude.{◌≡◌, ℕ, slice_index, List, [], ◌∷◌, ◌++◌, None, Some, reverse}
use Rattle.chess_rules.specs.declared.chess_move.Move.{Move}
use Rattle.chess_rules.specs.declared.parts.Parts.{Parts}
use Rattle.chess_rules.specs.declared.pieces.Side.TheVariants.{White, Black}
use Rattle.chess_rules.specs.declared.pieces.Kind.TheVariants.{King}
use Rattle.chess_rules.specs.After.{after}
use Rattle.chess_rules.specs.Picture.{code_of_piece, picture}
use Rattle.chess_rules.specs.Valid.{Valid}
use Rattle.settle_core.specs.declared.plies.Outcome.{Outcome}
use Rattle.settle_core.specs.declared.plies.Ply.{Ply}
use Rattle.settle_core.specs.Entries.{Entry, deduplicated, last_picture}
use Rattle.settle_core.specs.Settling.{Line, Played, Settles, position_after, reached}
use Rattle.settle_core.specs.Folding.{Folds, Replaces, Score, moves_of, time_of}
use Rattle.settle_core.specs.HonestPlay.{AllShowNoMoreOrLackKing, AllWithinTurnOrLackKing, HasWhole, ShownEach, shown_plies}
use Rattle.settle_core.specs.Laws.{joined}
use Rattle.settle_core.specs.Sign.{InCentre, IsSign}

-- Each of the plies was shown whole: some entry has the picture after it, and in the reading of that entry its mover
-- has the time that is the ply's clock; and the plies before it were shown in the entries before that one. All have the
-- latest first.
abbrev pub WereShown : Parts → List Ply → List Entry → Type 0
WereShown start [] past = Unit {0}
WereShown start (ply ∷ earlier) past = (later : List Entry) × (entry : Entry) × (before : List Entry)
    × (past ≡ later ++ entry ∷ before)
    × (entry.picture ≡ picture (after (reached start (moves_of earlier)) ply.mv))
    × (ply.clock ≡ time_of (reached start (moves_of earlier)).side entry.reading)
    × WereShown start earlier before

-- Nothing is invented: whatever entries there were, each ply of the score was shown whole, in its turn.
abbrev pub NothingIsInvented : Type 0
NothingIsInvented = (start : Parts) (past : List Entry) (score : Score) → Folds start past score → WereShown start score.plies past

-- The plies that come after have all plies but the last in their places, and another one at least after them.
abbrev pub KeepsAllButLast : List Ply → List Ply → Type 0
KeepsAllButLast [] plies = Unit {0}
KeepsAllButLast (last ∷ earlier) plies = (later : List Ply) × (ply : Ply) × (plies ≡ later ++ ply ∷ earlier)

-- Only the last ply may change: whatever entries come later, all plies but the last stand for good.
abbrev pub OnlyTheLastPlyMayChange : Type 0
OnlyTheLastPlyMayChange =
    (start : Parts) (later past : List Entry) (before score : Score)
    → Valid start
    → Folds start past before
    → Folds start (later ++ past) score
    → KeepsAllButLast before.plies score.plies

-- Honest play resumes: whatever was seen before, where no sign stands and the last picture is that of the position
-- reached, the moves that are shown honestly from there on are added to the plies, each with its clock, and nothing
-- else is.
abbrev pub HonestPlayResumes : Type 0
HonestPlayResumes =
    (start : Parts) (past : List Entry) (before score : Score) (moves : List Move) (lists : List (List Entry))
    → Valid start
    → Folds start (deduplicated past) before
    → before.sign ≡ None
    → last_picture past ≡ Some (picture (reached start (moves_of before.plies)))
    → Line (reached start (moves_of before.plies)) moves
    → ShownEach (reached start (moves_of before.plies)) moves lists
    → Folds start (deduplicated (reverse (joined lists) ++ past)) score
    → score ≡ record { plies = reverse (shown_plies (reached start (moves_of before.plies)) moves lists) ++ before.plies; sign = None }

-- And where it then stops between two moves, the plies that were added are those of the whole moves, or these and one
-- more.
abbrev pub ResumedPlayStops : Type 0
ResumedPlayStops =
    (start : Parts) (past : List Entry) (before score : Score) (moves : List Move) (lists : List (List Entry)) (part : List Entry)
    → Valid start
    → Folds start (deduplicated past) before
    → before.sign ≡ None
    → last_picture past ≡ Some (picture (reached start (moves_of before.plies)))
    → Line (reached start (moves_of before.plies)) moves
    → ShownEach (reached start (moves_of before.plies)) moves lists
    → AllWithinTurnOrLackKing (position_after (reached start (moves_of before.plies)) moves) part
    → Folds start (deduplicated (reverse (joined lists ++ part) ++ past)) score
    → (score.sign ≡ None) × ((made : List Ply) × (reverse score.plies ≡ reverse before.plies ++ made)
    × HasWhole (reached start (moves_of before.plies)) moves lists part made)

-- And where the kings then end it, as after honest play from the start, the plies stand with the sign.
abbrev pub KingsEndResumedPlay : Type 0
KingsEndResumedPlay =
    (start : Parts) (past : List Entry) (before score : Score) (moves : List Move) (lists : List (List Entry))
    (clearing later : List Entry) (kings : Entry) (outcome : Outcome)
    → Valid start
    → Folds start (deduplicated past) before
    → before.sign ≡ None
    → last_picture past ≡ Some (picture (reached start (moves_of before.plies)))
    → Line (reached start (moves_of before.plies)) moves
    → ShownEach (reached start (moves_of before.plies)) moves lists
    → AllShowNoMoreOrLackKing (position_after (reached start (moves_of before.plies)) moves) clearing
    → IsSign (position_after (reached start (moves_of before.plies)) moves) kings.picture outcome
    → AllShowNoMoreOrLackKing (position_after (reached start (moves_of before.plies)) moves) later
    → Folds start (deduplicated (reverse (joined lists ++ (clearing ++ kings ∷ later)) ++ past)) score
    → score ≡ record {
      plies = reverse (shown_plies (reached start
          (moves_of before.plies)) moves lists) ++ before.plies;
      sign = Some outcome;
    }

-- The codes of both kings stand in the centre; whatever else shows.
pub record ShowsBothKings (seen : List ℕ) : Type 0 where
  pub white : ℕ
  pub black : ℕ
  pub white_centre : InCentre white
  pub black_centre : InCentre black
  pub white_stands : slice_index seen white ≡ code_of_piece White King
  pub black_stands : slice_index seen black ≡ code_of_piece Black King

-- Such a picture settles no move, and none in the place of the last one: it is a sign, or it waits.
abbrev pub KingsInCentreMakeNoMove : Type 0
KingsInCentreMakeNoMove =
    (start : Parts) (moves : List Move) (seen : List ℕ)
    → Valid start
    → Played start moves
    → ShowsBothKings seen
    → ((n : Move) → ¬ Settles (reached start moves) seen n) × ((n : Move) → ¬ Replaces start moves seen n)

abbrev pub AllShowBothKings : List Entry → Type 0
AllShowBothKings [] = Unit {0}
AllShowBothKings (entry ∷ more) = ShowsBothKings entry.picture × AllShowBothKings more

-- So entries with such pictures leave the plies as they were; the sign alone can change.
abbrev pub KingsInCentreKeepThePlies : Type 0
KingsInCentreKeepThePlies =
    (start : Parts) (later past : List Entry) (before score : Score)
    → Valid start
    → AllShowBothKings later
    → Folds start past before
    → Folds start (later ++ past) score
    → score.plies ≡ before.plies
