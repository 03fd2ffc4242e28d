-- The game that entries show where unseen pairs are recovered.
use Rattle.std.specs.Prelude.{◌≡◌, ℕ, List, [], ◌∷◌, None, Option, if◌then◌else◌}
use Rattle.std.specs.Str.{bytes_eq}
use Rattle.chess_clock.specs.declared.times.Reading.{Reading}
use Rattle.chess_rules.specs.declared.chess_move.Move.{Move}
use Rattle.chess_rules.specs.declared.parts.Parts.{Parts}
use Rattle.chess_rules.specs.Picture.{picture}
use Rattle.settle_core.specs.declared.plies.Seen.TheVariants.{Waits}
use Rattle.settle_core.specs.Settling.{reached}
use Rattle.settle_core.specs.Entries.{Entry}
use Rattle.settle_core.specs.Folding.{Score, SeenAs, moves_of, played, score_after}
use Rattle.unseen_pairs.specs.declared.pair.Pair.{Pair}
use Rattle.unseen_pairs.specs.declared.pair.Recovery.{Recovery}
use Rattle.unseen_pairs.specs.declared.pair.SeenOrRecovered.{SeenOrRecovered}
use Rattle.unseen_pairs.specs.declared.pair.SeenOrRecovered.TheVariants.{Shown, Recovered}
use Rattle.unseen_pairs.specs.Pairs.{Confirms, root}

-- What a picture tells after these moves, while these entries wait: what it shows; but where it shows nothing yet and
-- confirms one pair, that pair.
abbrev pub TellsAs : Parts → List Move → List Entry → List ℕ → SeenOrRecovered → Type 0
TellsAs start moves waiting seen (Shown answer) =
    SeenAs start moves seen answer × (answer ≡ Waits → (r : Recovery) → ¬ Confirms start moves waiting seen r)
TellsAs start moves waiting seen (Recovered r) = SeenAs start moves seen Waits × Confirms start moves waiting seen r

-- the score with a pair, each ply with its mover's time in this reading
abbrev pub recovered : Parts → Score → Option Reading → Pair → Score
recovered start score reading pair =
    played start (played start (root pair.corrects score.plies) reading pair.first).plies reading pair.second

-- the score after what an entry told
abbrev pub score_told : Parts → Score → Option Reading → SeenOrRecovered → Score
score_told start score reading (Shown answer) = score_after start score reading answer
score_told start score reading (Recovered r) = score_after start (recovered start score r.reading r.pair) reading r.sequel

-- The entries that wait after one: this one too where it told nothing, and the board does not stand as the position.
abbrev pub waiting_after : Parts → List Move → List Entry → Entry → SeenOrRecovered → List Entry
waiting_after start moves waiting entry (Shown Waits) =
    if bytes_eq entry.picture (picture (reached start moves)) then [] else entry ∷ waiting
waiting_after start moves waiting entry _ = []

-- The entries, the latest first, give this score, and these of them wait.
abbrev pub FoldsRecovering : Parts → List Entry → Score → List Entry → Type 0
FoldsRecovering start [] score waiting = (score ≡ record { plies = []; sign = None }) × (waiting ≡ [])
FoldsRecovering start (entry ∷ past) score waiting =
    (before : Score) × (waited : List Entry) × (told : SeenOrRecovered)
    × FoldsRecovering start past before waited
    × TellsAs start (moves_of before.plies) waited entry.picture told
    × (score ≡ score_told start before entry.reading told)
    × (waiting ≡ waiting_after start (moves_of before.plies) waited entry told)
