-- Moves that come in place of plies, move by move.
use Rattle.std.proofs.Common.{◌≡◌, ℕ, List, [], ◌∷◌, ◌++◌, MatchOption, length, inl, inr, refl, ap, ◌∙◌}
use Rattle.std.specs.Prelude.{slice_get}
use Rattle.chess_rules.specs.declared.chess_move.Move.{Move}
use Rattle.chess_rules.specs.declared.parts.Parts.{Parts}
use Rattle.chess_rules.specs.After.{after}
use Rattle.settle_core.specs.declared.plies.Ply.{Ply}
use Rattle.settle_core.specs.Folding.{moves_of}
use Rattle.settle_core.specs.Settling.{Line, position_after}
use Rattle.going_back.specs.Coming.{Comes, IsInPlaceOf, bare}

-- what comes for a move at this place of those that went
abbrev pub ComesAt : List Ply → ℕ → Move → Ply → Type 0
ComesAt went place m ply = MatchOption (slice_get went place) (ply ≡ bare m) (λ was. IsInPlaceOf was m ply)

-- one move more
pub comes_more : (went : List Ply) (moves : List Move) (plies : List Ply) (m : Move) (ply : Ply) → Comes went moves plies → ComesAt went (length moves) m ply
    → Comes went (moves ++ m ∷ []) (plies ++ ply ∷ [])
comes_more [] [] [] m ply h here = (here, tt)
comes_more (was ∷ went) [] [] m ply h here = (here, tt)
comes_more went [] (x ∷ plies) m ply h here = absurd h
comes_more went (n ∷ moves) [] m ply h here = absurd h
comes_more [] (n ∷ moves) (x ∷ plies) m ply h here = (h.0, comes_more [] moves plies m ply h.1 here)
comes_more (was ∷ went) (n ∷ moves) (x ∷ plies) m ply h here = (h.0, comes_more went moves plies m ply h.1 here)

move_in_place : (was : Ply) (m : Move) (ply : Ply) → IsInPlaceOf was m ply → ply.mv ≡ m
move_in_place was m ply (inl h) = ap (λ (x : Ply). x.mv) h.1 ∙ h.0
move_in_place was m ply (inr h) = ap (λ (x : Ply). x.mv) h.1

two_heads : (a b : Move) (xs ys : List Move) → a ≡ b → xs ≡ ys → a ∷ xs ≡ b ∷ ys
two_heads a b xs ys e f = cc

-- the moves of what comes
pub comes_moves : (went : List Ply) (moves : List Move) (plies : List Ply) → Comes went moves plies → moves_of plies ≡ moves
comes_moves went [] [] h = refl
comes_moves went [] (x ∷ plies) h = absurd h
comes_moves went (m ∷ moves) [] h = absurd h
comes_moves [] (m ∷ moves) (x ∷ plies) h = two_heads x.mv m (moves_of plies) moves (ap (λ (y : Ply). y.mv) h.0) (comes_moves [] moves plies h.1)
comes_moves (was ∷ went) (m ∷ moves) (x ∷ plies) h = two_heads x.mv m (moves_of plies) moves (move_in_place was m x h.0) (comes_moves went moves plies h.1)

-- a line goes on behind another one
pub line_on : (p : Parts) (front coming : List Ply) → Line p (moves_of front) → Line (position_after p (moves_of front)) (moves_of coming) → Line p (moves_of (front ++ coming))
line_on p [] coming before behind = behind
line_on p (x ∷ front) coming before behind = (before.0, line_on (after p x.mv) front coming before.1 behind)
