-- Moves that come in place of the last plies of a game. Plies and moves stand in their order.
use Rattle.std.specs.Prelude.{◌≡◌, ◌≢◌, ◌⊎◌, ℕ, List, [], ◌∷◌, ◌++◌, None, drop, take, ⊤}
use Rattle.chess_rules.specs.declared.chess_move.Move.{Move}
use Rattle.settle_core.specs.declared.plies.Ply.{Ply}

-- a move without a clock
abbrev pub bare : Move → Ply
bare m = record { mv = m; clock = None }

-- In place of this ply comes one with this move: the same one, with its clock, if it made this move; else a bare one.
abbrev pub IsInPlaceOf : Ply → Move → Ply → Type 0
IsInPlaceOf was m ply = ((was.mv ≡ m) × (ply ≡ was)) ⊎ ((was.mv ≢ m) × (ply ≡ bare m))

-- Each move comes in place of the ply that went from there, if there is one.
abbrev pub Comes : List Ply → List Move → List Ply → Type 0
Comes went [] [] = ⊤
Comes [] (m ∷ moves) (ply ∷ plies) = (ply ≡ bare m) × Comes [] moves plies
Comes (was ∷ went) (m ∷ moves) (ply ∷ plies) = IsInPlaceOf was m ply × Comes went moves plies
Comes went (m ∷ moves) [] = ⊥
Comes went [] (ply ∷ plies) = ⊥

-- Of the old plies the first stay, so many, and behind them come these moves.
abbrev pub IsNewLine : List Ply → ℕ → List Move → List Ply → Type 0
IsNewLine old stays moves plies = (coming : List Ply) × Comes (drop stays old) moves coming × (plies ≡ take stays old ++ coming)
