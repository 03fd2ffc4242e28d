-- One more ply of a line.
use Rattle.std.proofs.Common.{◌≡◌, ℕ, ◌+◌, ◌<◌, List, [], ◌∷◌, ◌++◌, length, get_or, take, drop, refl, sym, ap, subst, ◌∙◌, add-one, drop-cons, All}
use Rattle.std.proofs.lemmas.List.{take_more}
use Rattle.std.proofs.lemmas.List.Elements.{All-push}
use Rattle.chess_rules.specs.declared.parts.Parts.{Parts}
use Rattle.chess_rules.specs.After.{after}
use Rattle.chess_rules.specs.Legal.{Legal}
use Rattle.settle_core.specs.declared.plies.Ply.{Ply}
use Rattle.settle_core.specs.Settling.{Line, position_after}
use Rattle.settle_core.specs.Folding.{moves_of}
use Rattle.chess_game.specs.Games.{IsTimed}

pub cut_at : (plies : List Ply) (i : ℕ) (ply : Ply) → i < length plies → ply ≡ get_or plies i ply → drop i plies ≡ ply ∷ drop (i + 1) plies
cut_at plies i ply lt e = rw (add-one, drop-cons plies i ply, ← e) refl

-- the line from a ply on
pub line_at : (p : Parts) (plies : List Ply) (i : ℕ) (ply : Ply) → i < length plies → ply ≡ get_or plies i ply
    → Line p (moves_of (drop i plies)) → Legal p ply.mv × Line (after p ply.mv) (moves_of (drop (i + 1) plies))
line_at p plies i ply lt e h = subst (λ (rest : List Ply). Line p (moves_of rest)) (cut_at plies i ply lt e) h

pub line_before : (p : Parts) (plies : List Ply) (i : ℕ) (ply : Ply) → i < length plies → ply ≡ get_or plies i ply
    → Legal p ply.mv → Line (after p ply.mv) (moves_of (drop (i + 1) plies)) → Line p (moves_of (drop i plies))
line_before p plies i ply lt e h k = let both : Line p (moves_of (ply ∷ drop (i + 1) plies)) = (h, k) in subst (λ (rest : List Ply). Line p (moves_of rest)) (sym (cut_at plies i ply lt e)) both

pub position_at : (p : Parts) (plies : List Ply) (i : ℕ) (ply : Ply) → i < length plies → ply ≡ get_or plies i ply
    → position_after p (moves_of (drop i plies)) ≡ position_after (after p ply.mv) (moves_of (drop (i + 1) plies))
position_at p plies i ply lt e = ap (λ (rest : List Ply). position_after p (moves_of rest)) (cut_at plies i ply lt e)

pub timed_more : (plies : List Ply) (i : ℕ) (ply : Ply) → i < length plies → ply ≡ get_or plies i ply → IsTimed ply → All IsTimed (take i plies) → All IsTimed (take (i + 1) plies)
timed_more plies i ply lt e h k =
    let one : take (i + 1) plies ≡ take i plies ++ ply ∷ [] = take_more plies i ply lt ∙ ap (λ (x : Ply). take i plies ++ x ∷ []) (sym e) in
    subst (λ (xs : List Ply). All IsTimed xs) (sym one) (All-push IsTimed (take i plies) ply k h)
