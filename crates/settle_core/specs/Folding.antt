-- The game that entries show.
use Rattle.std.specs.Prelude.{◌≡◌, ◌≢◌, ℕ, List, [], ◌∷◌, Option, Some, None, map, drop, reverse}
use Rattle.chess_clock.specs.declared.times.Hms.{Hms}
use Rattle.chess_clock.specs.declared.times.Reading.{Reading}
use Rattle.chess_rules.specs.declared.pieces.Side.{Side}
use Rattle.chess_rules.specs.declared.pieces.Side.TheVariants.{White, Black}
use Rattle.chess_rules.specs.declared.chess_move.Move.{Move}
use Rattle.chess_rules.specs.declared.parts.Parts.{Parts}
use Rattle.settle_core.specs.declared.plies.Outcome.{Outcome}
use Rattle.settle_core.specs.declared.plies.Ply.{Ply}
use Rattle.settle_core.specs.declared.plies.Seen.{Seen}
use Rattle.settle_core.specs.declared.plies.Seen.TheVariants.{Same, Moved, Sign, Replaced, Waits}
use Rattle.settle_core.specs.Entries.{Entry}
use Rattle.settle_core.specs.Settling.{Settles, reached}
use Rattle.settle_core.specs.Sign.{IsSign}

-- The score of a game: its plies, the latest first, and the sign that stands, if any.
pub record Score : Type 0 where
  pub plies : List Ply
  pub sign : Option Outcome

abbrev pub moves_of : List Ply → List Move
moves_of plies = map (λ ply. ply.mv) plies

-- the score of plies in their order
abbrev pub score_of : List Ply → Option Outcome → Score
score_of plies sign = record { plies = reverse plies; sign = sign }

-- The picture settles another move in the place of the last one.
abbrev pub Replaces : Parts → List Move → List ℕ → Move → Type 0
Replaces start [] seen m = ⊥
Replaces start (last ∷ earlier) seen m = Settles (reached start earlier) seen m × m ≢ last

-- What a picture shows where these moves were made, the latest first: a move that it settles in the position reached;
-- a sign over this position; and where it is neither, another move in the place of the last one, or nothing yet.
abbrev pub SeenAs : Parts → List Move → List ℕ → Seen → Type 0
SeenAs start moves seen (Moved m) = Settles (reached start moves) seen m
SeenAs start moves seen (Sign outcome) = IsSign (reached start moves) seen outcome
SeenAs start moves seen (Replaced m) = ((n : Move) → ¬ Settles (reached start moves) seen n)
    × ((outcome : Outcome) → ¬ IsSign (reached start moves) seen outcome) × Replaces start moves seen m
SeenAs start moves seen Waits = ((n : Move) → ¬ Settles (reached start moves) seen n)
    × ((outcome : Outcome) → ¬ IsSign (reached start moves) seen outcome) × ((n : Move) → ¬ Replaces start moves seen n)
SeenAs start moves seen Same = ⊥

-- the side's time in a reading
abbrev pub time_of : Side → Option Reading → Option Hms
time_of White (Some reading) = Some reading.white
time_of Black (Some reading) = Some reading.black
time_of side None = None

-- one more ply, with its mover's time; the sign is cleared
abbrev pub played : Parts → List Ply → Option Reading → Move → Score
played start earlier reading m = record {
  plies = record { mv = m; clock = time_of (reached start (moves_of earlier)).side reading } ∷ earlier;
  sign = None;
}

-- the score after what an entry showed
abbrev pub score_after : Parts → Score → Option Reading → Seen → Score
score_after start score reading (Moved m) = played start score.plies reading m
score_after start score reading (Sign outcome) = record score { sign = Some outcome }
score_after start score reading (Replaced m) = played start (drop 1 score.plies) reading m
score_after start score reading Waits = score
score_after start score reading Same = score

-- The entries, the latest first, give this score.
abbrev pub Folds : Parts → List Entry → Score → Type 0
Folds start [] score = score ≡ record { plies = []; sign = None }
Folds start (entry ∷ past) score = (before : Score) × (seen : Seen) × Folds start past before
    × SeenAs start (moves_of before.plies) entry.picture seen × (score ≡ score_after start before entry.reading seen)
