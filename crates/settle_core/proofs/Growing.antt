-- Each entry gives one ply at most.
use Rattle.std.proofs.Common.{◌≡◌, ℕ, ◌≤◌, ◌+◌, suc, true, false, List, [], ◌∷◌, drop, length, if◌then◌else◌, arith, ap}
use Rattle.chess_rules.specs.declared.parts.Parts.{Parts}
use Rattle.settle_core.specs.declared.plies.Ply.{Ply}
use Rattle.settle_core.specs.declared.plies.Seen.{Seen}
use Rattle.settle_core.specs.declared.plies.Seen.TheVariants.{Same, Moved, Sign, Replaced, Waits}
use Rattle.settle_core.specs.Entries.{Entry, repeats, deduplicated}
use Rattle.settle_core.specs.Folding.{Score, Folds, score_after}
use Rattle.settle_core.specs.Settler.{HasSettled, SettlerState}

length-replaced : (start : Parts) (plies : List Ply) (seen : List ℕ) (entry : Entry) (m : Seen) → length (drop 1 plies) + 1 ≤ length plies + 1
length-replaced start [] seen entry m = omega arith
length-replaced start (ply ∷ plies) seen entry m = omega arith

pub one_more : (start : Parts) (entry : Entry) (past : List Entry) (before score : Score) (seen : Seen)
    → score ≡ score_after start before entry.reading seen → length score.plies ≤ length before.plies + 1
one_more start entry past before score Same e = let q : length score.plies ≡ length before.plies = ap (λ (s : Score). length s.plies) e in omega arith
one_more start entry past before score Waits e = let q : length score.plies ≡ length before.plies = ap (λ (s : Score). length s.plies) e in omega arith
one_more start entry past before score (Sign outcome) e = let q : length score.plies ≡ length before.plies = ap (λ (s : Score). length s.plies) e in omega arith
one_more start entry past before score (Moved m) e = let q : length score.plies ≡ suc (length before.plies) = ap (λ (s : Score). length s.plies) e in omega arith
one_more start entry past before score (Replaced m) e =
    let q : length score.plies ≡ suc (length (drop 1 before.plies)) = ap (λ (s : Score). length s.plies) e in
    let l : length (drop 1 before.plies) + 1 ≤ length before.plies + 1 = length-replaced start before.plies [] entry Same in
    omega arith

pub length-folds : (start : Parts) (past : List Entry) (score : Score) → Folds start past score → length score.plies ≤ length past
length-folds start [] score h = let q : length score.plies ≡ 0 = ap (λ (s : Score). length s.plies) h in omega arith
length-folds start (entry ∷ past) score h =
    let before : length (h.0).plies ≤ length past = length-folds start past h.0 h.2 in
    let more : length score.plies ≤ length (h.0).plies + 1 = one_more start entry past h.0 score h.1 h.4 in
    omega arith

pub length-deduplicated : (past : List Entry) → length (deduplicated past) ≤ length past
length-deduplicated [] = omega arith
length-deduplicated (entry ∷ past) =
    let fewer : length (deduplicated past) ≤ length past = length-deduplicated past in
    elim (repeats entry.picture past) as (λ b. length (if b then deduplicated past else entry ∷ deduplicated past) ≤ suc (length past)) [
      | true ↦ omega arith
      | false ↦ omega arith
    ]

-- no more plies than entries
pub moves_within : (settler : SettlerState) (start : Parts) (past : List Entry) (plies : List Ply)
    → HasSettled settler start past → length settler.score.plies ≡ length plies → length plies ≤ length past
moves_within settler start past plies st e =
    let a : length settler.score.plies ≤ length (deduplicated past) = length-folds start (deduplicated past) settler.score st.folds in
    let b : length (deduplicated past) ≤ length past = length-deduplicated past in
    omega arith
