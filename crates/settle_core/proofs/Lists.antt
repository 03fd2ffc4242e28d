-- Lists from the end.
use Rattle.std.proofs.Common.{◌≡◌, ◌+◌, ◌-◌, List, [], ◌∷◌, ◌++◌, drop, set, length, reverse, refl, sym, ap, subst, ◌∙◌, arith, length-append}
use mathlib.Core.List.{reverse_aux}
use Rattle.std.proofs.lemmas.List.{reverse-reverse, reverse-append}
use Rattle.chess_rules.specs.declared.chess_move.Move.{Move}
use Rattle.chess_rules.specs.declared.parts.Parts.{Parts}
use Rattle.settle_core.specs.declared.plies.Ply.{Ply}
use Rattle.settle_core.specs.Settling.{reached, position_after, Played, Line}
use Rattle.settle_core.specs.Folding.{moves_of}
use Rattle.settle_core.specs.Inside.Kept.{IsLastSet}
use Rattle.settle_core.proofs.Lines.{moves-reverse_aux}

pub set_at_end : {X : Type 0} (xs : List X) (x y : X) → set (xs ++ x ∷ []) (length xs) y ≡ xs ++ y ∷ []
set_at_end [] x y = refl
set_at_end (z ∷ xs) x y = ap (λ ys. z ∷ ys) (set_at_end xs x y)

pub last_set : (old : List Ply) (ply : Ply) → IsLastSet old ply (set old (length old - 1) ply)
last_set old ply other earlier e =
    let is : old ≡ reverse earlier ++ other ∷ [] = sym (reverse-reverse old) ∙ ap reverse e ∙ reverse-append (other ∷ []) earlier in
    let n : length (reverse earlier ++ other ∷ []) ≡ length (reverse earlier) + 1 = length-append (reverse earlier) (other ∷ []) in
    let at : length old - 1 ≡ length (reverse earlier) = ap (λ (xs : List Ply). length xs - 1) is ∙ (let q : length (reverse earlier ++ other ∷ []) - 1 ≡ length (reverse earlier) = omega arith in q) in
    let put : set old (length old - 1) ply ≡ reverse earlier ++ ply ∷ [] =
    ap (λ n. set old n ply) at ∙ ap (λ (xs : List Ply). set xs (length (reverse earlier)) ply) is ∙ set_at_end (reverse earlier) other ply in
    ap reverse put ∙ reverse-append (reverse earlier) (ply ∷ []) ∙ ap (λ (xs : List Ply). ply ∷ xs) (reverse-reverse earlier)

pub line_onto :
    (start : Parts) (moves rest : List Move) → Played start moves → Line (reached start moves) rest → Line start (reverse_aux moves rest)
line_onto start [] rest p l = l
line_onto start (m ∷ earlier) rest p l = line_onto start earlier (m ∷ rest) p.1 (p.0, l)

-- moves that were played in their turn are a line
pub line_played : (start : Parts) (plies : List Ply) → Played start (moves_of (reverse plies)) → Line start (moves_of plies)
line_played start plies p =
    let P : List Move → Type 0 = λ ms. Line start ms in
    let same : reverse (moves_of (reverse plies)) ≡ moves_of plies = sym (moves-reverse_aux (reverse plies) []) ∙ ap moves_of (reverse-reverse plies) in
    subst P same (line_onto start (moves_of (reverse plies)) [] p tt)

pub position_onto :
    (start : Parts) (moves rest : List Move) → position_after start (reverse_aux moves rest) ≡ position_after (reached start moves) rest
position_onto start [] rest = refl
position_onto start (m ∷ earlier) rest = position_onto start earlier (m ∷ rest)

-- moves in their order lead where they lead with the latest first
pub position_in_order : (start : Parts) (plies : List Ply) → position_after start (moves_of (reverse plies)) ≡ reached start (moves_of plies)
position_in_order start plies = ap (position_after start) (moves-reverse_aux plies []) ∙ position_onto start (moves_of plies) []

pub moves_of_drop : (plies : List Ply) → moves_of (drop 1 plies) ≡ drop 1 (moves_of plies)
moves_of_drop [] = refl
moves_of_drop (ply ∷ plies) = refl
