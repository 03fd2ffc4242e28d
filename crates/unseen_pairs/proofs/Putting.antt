-- Pictures put in give the recovered score: the entries with those of a confirmed pair's two positions before its
-- sequel fold, as entries do, to the score that the pair gives.
use Rattle.std.proofs.Common.{◌≡◌, ℕ, Bool, true, false, List, [], ◌∷◌, Option, drop, refl, sym, subst}
use Rattle.chess_clock.specs.declared.times.Reading.{Reading}
use Rattle.chess_rules.specs.declared.chess_move.Move.{Move}
use Rattle.chess_rules.specs.declared.parts.Parts.{Parts}
use Rattle.chess_rules.specs.After.{after}
use Rattle.chess_rules.specs.Legal.{Legal}
use Rattle.chess_rules.specs.Valid.{Valid}
use Rattle.chess_rules.specs.Picture.{picture}
use Rattle.chess_rules.proofs.LawLemmas.{pictures_tell_moves}
use Rattle.settle_core.specs.declared.plies.Ply.{Ply}
use Rattle.settle_core.specs.declared.plies.Seen.{Seen}
use Rattle.settle_core.specs.declared.plies.Seen.TheVariants.{Same, Moved, Sign, Replaced, Waits}
use Rattle.settle_core.specs.Entries.{Entry, entry_of}
use Rattle.settle_core.specs.Settling.{Settles, Played, reached}
use Rattle.settle_core.specs.Folding.{Score, Folds, Replaces, SeenAs, moves_of, played}
use Rattle.settle_core.proofs.Once.{folds_played, replies_replace_nothing, signs_settle_nothing}
use Rattle.settle_core.proofs.Stages.{valid_reached}
use Rattle.unseen_pairs.specs.declared.pair.Pair.{Pair}
use Rattle.unseen_pairs.specs.declared.pair.Recovery.{Recovery}
use Rattle.unseen_pairs.specs.declared.pair.SeenOrRecovered.TheVariants.{Recovered}
use Rattle.unseen_pairs.specs.Pairs.{Confirms, Explains, GoesOn, IsInstead, ends, root}
use Rattle.unseen_pairs.specs.Recovering.{recovered, score_told}

-- the picture after a legal move settles it
pub settles_own : (p : Parts) (m : Move) → Valid p → Legal p m → Settles p (picture (after p m)) m
settles_own p m v l = record { legal = l; shows = refl; alone = λ n k e. sym (pictures_tell_moves p m n v l k e) }

replaces_own :
    (start : Parts) (plies : List Ply) (m : Move)
    → Valid start
    → Played start (moves_of plies)
    → Legal (reached start (moves_of (drop 1 plies))) m
    → IsInstead (moves_of plies) m
    → Replaces start (moves_of plies) (picture (after (reached start (moves_of (drop 1 plies))) m)) m
replaces_own start [] m v h l i = absurd i
replaces_own start (last ∷ earlier) m v h l i = (settles_own (reached start (moves_of earlier)) m (valid_reached start (moves_of earlier) v h.1) l, i)

played_before : (start : Parts) (plies : List Ply) → Played start (moves_of plies) → Played start (moves_of (drop 1 plies))
played_before start [] h = h
played_before start (last ∷ earlier) h = h.1

-- the first ply's picture
first_seen :
    (start : Parts) (plies : List Ply) (m : Move)
    → Valid start
    → Played start (moves_of plies)
    → Legal (reached start (moves_of (drop 1 plies))) m
    → IsInstead (moves_of plies) m
    → SeenAs start (moves_of plies) (picture (after (reached start (moves_of (drop 1 plies))) m)) (Replaced m)
first_seen start plies m v h l i =
    let r = replaces_own start plies m v h l i in
    let seen = picture (after (reached start (moves_of (drop 1 plies))) m) in
    let u : Valid (reached start (moves_of (drop 1 plies))) = valid_reached start (moves_of (drop 1 plies)) v (played_before start plies h) in (
      λ n s. replies_replace_nothing start (moves_of plies) seen n m v h s r,
      λ outcome s. signs_settle_nothing (reached start (moves_of (drop 1 plies))) (reached start (moves_of plies)) seen m outcome u (settles_own _ m u l) s,
      r,
    )

first_folds :
    (start : Parts) (past : List Entry) (before : Score) (reading : Option Reading) (corrects : Bool) (m : Move)
    → Valid start
    → Folds start past before
    → Legal (reached start (moves_of (root corrects before.plies))) m
    → (corrects ≡ true → IsInstead (moves_of before.plies) m)
    → Folds start (entry_of (picture (after (reached start (moves_of (root corrects before.plies))) m)) reading ∷ past)
    (played start (root corrects before.plies) reading m)
first_folds start past before reading false m v f l i =
    let h : Played start (moves_of before.plies) = folds_played start past before f in
    (before, Moved m, f, settles_own _ m (valid_reached start (moves_of before.plies) v h) l, refl)
first_folds start past before reading true m v f l i =
    let h : Played start (moves_of before.plies) = folds_played start past before f in
    (before, Replaced m, f, first_seen start before.plies m v h l (i refl), refl)

-- so the two plies' pictures give both plies
pub pair_folds :
    (start : Parts) (past : List Entry) (before : Score) (reading : Option Reading) (corrects : Bool) (m n : Move)
    → Valid start
    → Folds start past before
    → Legal (reached start (moves_of (root corrects before.plies))) m
    → (corrects ≡ true → IsInstead (moves_of before.plies) m)
    → Legal (after (reached start (moves_of (root corrects before.plies))) m) n
    → Folds start
    (entry_of (picture (after (after (reached start (moves_of (root corrects before.plies))) m) n)) reading
    ∷ entry_of (picture (after (reached start (moves_of (root corrects before.plies))) m)) reading ∷ past)
    (played start (played start (root corrects before.plies) reading m).plies reading n)
pair_folds start past before reading corrects m n v f l i k =
    let one = first_folds start past before reading corrects m v f l i in
    let s : Score = played start (root corrects before.plies) reading m in
    let first : Entry = entry_of (picture (after (reached start (moves_of (root corrects before.plies))) m)) reading in
    let h : Played start (moves_of s.plies) = folds_played start (first ∷ past) s one in
    (s, Moved n, one, settles_own (reached start (moves_of s.plies)) n (valid_reached start (moves_of s.plies) v h) k, refl)

-- what goes on from a position is seen over moves that lead to it
pub goes_seen : (now start : Parts) (moves : List Move) (seen : List ℕ) (a : Seen) → GoesOn now (reached start moves) seen a → SeenAs start moves seen a
goes_seen now start moves seen (Moved m) h = h.0
goes_seen now start moves seen (Sign outcome) h = h.0
goes_seen now start moves seen (Replaced m) h = absurd h
goes_seen now start moves seen Waits h = absurd h
goes_seen now start moves seen Same h = absurd h

pub roots : (corrects : Bool) (plies : List Ply) → root corrects (moves_of plies) ≡ moves_of (root corrects plies)
roots false plies = refl
roots true [] = refl
roots true (last ∷ earlier) = refl

-- The entries with the two pictures put in fold to the score with the pair and its sequel.
pub put_in_folds :
    (start : Parts) (past : List Entry) (before : Score) (waiting : List Entry) (seen : List ℕ) (reading : Option Reading) (r : Recovery)
    → Valid start
    → Folds start past before
    → Confirms start (moves_of before.plies) waiting seen r
    → Folds start
    (entry_of seen reading ∷ entry_of (picture r.after) r.reading ∷ entry_of (picture r.middle) r.reading ∷ past)
    (score_told start before reading (Recovered r))
put_in_folds start past before waiting seen reading r v f c =
    let pair : Pair = r.pair in
    let e : Explains start (moves_of before.plies) (c.entry).picture pair = (c.explains).explains in
    let same = roots pair.corrects before.plies in
    let P : List Move → Type 0 = λ ms.
    Legal (reached start ms) pair.first
    → Legal (after (reached start ms) pair.first) pair.second
    → GoesOn (reached start (moves_of before.plies)) (after (after (reached start ms) pair.first) pair.second) seen r.sequel
    → Folds start
    (entry_of seen reading
    ∷ entry_of (picture (after (after (reached start ms) pair.first) pair.second)) r.reading
    ∷ entry_of (picture (after (reached start ms) pair.first)) r.reading
    ∷ past)
    (score_told start before reading (Recovered r)) in
    let at : P (moves_of (root pair.corrects before.plies)) = λ l k g.
    let s : Score = recovered start before r.reading pair in
    (s, r.sequel, pair_folds start past before r.reading pair.corrects pair.first pair.second v f l e.instead k, goes_seen (reached start (moves_of before.plies)) start (moves_of s.plies) seen r.sequel g, refl) in
    let M : Parts → Type 0 = λ (q : Parts). Folds start
    (entry_of seen reading ∷ entry_of (picture (ends start (moves_of before.plies) pair)) r.reading ∷ entry_of (picture q) r.reading ∷ past)
    (score_told start before reading (Recovered r)) in
    let E : Parts → Type 0 = λ (q : Parts). Folds start
    (entry_of seen reading ∷ entry_of (picture q) r.reading ∷ entry_of (picture r.middle) r.reading ∷ past)
    (score_told start before reading (Recovered r)) in
    subst E (sym c.after_is) (subst M (sym c.middle_is) (subst P (sym same) at (e.after_two).first (e.after_two).second c.goes_on))
