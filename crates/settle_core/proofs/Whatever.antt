-- What holds of a score, whatever was seen.
use Rattle.std.proofs.Common.{◌≡◌, ℕ, List, [], ◌∷◌, ◌++◌, drop, refl, sym, ap, subst, ◌∙◌, append_assoc}
use Rattle.chess_rules.specs.declared.chess_move.Move.{Move}
use Rattle.chess_rules.specs.declared.parts.Parts.{Parts}
use Rattle.chess_rules.specs.After.{after}
use Rattle.chess_rules.specs.Valid.{Valid}
use Rattle.chess_rules.proofs.LawLemmas.{moves_stay_valid}
use Rattle.settle_core.specs.declared.plies.Ply.{Ply}
use Rattle.settle_core.specs.declared.plies.Seen.{Seen}
use Rattle.settle_core.specs.declared.plies.Seen.TheVariants.{Same, Moved, Sign, Replaced, Waits}
use Rattle.settle_core.specs.AnyPlay.{KeepsAllButLast, KingsInCentreKeepThePlies, KingsInCentreMakeNoMove, NothingIsInvented, OnlyTheLastPlyMayChange, ShowsBothKings, WereShown}
use Rattle.settle_core.specs.Entries.{Entry}
use Rattle.settle_core.specs.Settling.{Settles, reached}
use Rattle.settle_core.specs.Folding.{Score, SeenAs, moves_of, score_after, time_of}
use Rattle.settle_core.proofs.Apart.{apart_valid, both_codes}
use Rattle.settle_core.proofs.Once.{folds_once, folds_played}
use Rattle.settle_core.proofs.Stages.{bare, valid_reached}

-- plies that were shown were shown where more is seen
still_shown : (start : Parts) (plies : List Ply) (more past : List Entry) → WereShown start plies past → WereShown start plies (more ++ past)
still_shown start [] more past h = tt
still_shown start (ply ∷ earlier) more past h =
    (more ++ h.0, h.1, h.2, ap (λ l. more ++ l) h.3 ∙ sym (append_assoc more h.0 (h.1 ∷ h.2)), h.4, h.5, h.6)

replaced_shown :
    (start : Parts) (plies : List Ply) (entry : Entry) (past : List Entry) (m : Move)
    → SeenAs start (moves_of plies) entry.picture (Replaced m)
    → WereShown start plies past
    → WereShown start (score_after start (bare plies) entry.reading (Replaced m)).plies (entry ∷ past)
replaced_shown start [] entry past m h w = absurd h.2
replaced_shown start (last ∷ earlier) entry past m h w =
    let P : List Entry → Type 0 = λ es. WereShown start earlier es in
    let older : WereShown start earlier past =
    subst P (sym w.3) (still_shown start earlier w.0 (w.1 ∷ w.2) (still_shown start earlier (w.1 ∷ []) w.2 w.6)) in
    ([], entry, past, refl, ((h.2).0).shows, refl, older)

shown_step :
    (start : Parts) (score : Score) (entry : Entry) (past : List Entry) (seen : Seen)
    → SeenAs start (moves_of score.plies) entry.picture seen
    → WereShown start score.plies past
    → WereShown start (score_after start score entry.reading seen).plies (entry ∷ past)
shown_step start score entry past Same h w = absurd h
shown_step start score entry past Waits h w = still_shown start score.plies (entry ∷ []) past w
shown_step start score entry past (Sign o) h w = still_shown start score.plies (entry ∷ []) past w
shown_step start score entry past (Moved m) h w = ([], entry, past, refl, h.shows, refl, w)
shown_step start score entry past (Replaced m) h w = replaced_shown start score.plies entry past m h w

pub nothing_is_invented : NothingIsInvented
nothing_is_invented start [] score h = let P : Score → Type 0 = λ s. WereShown start s.plies [] in subst P (sym h) tt
nothing_is_invented start (entry ∷ past) score h =
    let P : Score → Type 0 = λ s. WereShown start s.plies (entry ∷ past) in
    subst P (sym h.4) (shown_step start h.0 entry past h.1 h.3 (nothing_is_invented start past h.0 h.2))

keeps_itself : (plies : List Ply) → KeepsAllButLast plies plies
keeps_itself [] = tt
keeps_itself (last ∷ earlier) = ([], last, refl)

-- another ply in the place of the last one
another_last : (later : List Ply) (ply new : Ply) (earlier : List Ply) → (more : List Ply) × (kept : Ply) × (new ∷ drop 1 (later ++ ply ∷ earlier) ≡ more ++ kept ∷ earlier)
another_last [] ply new earlier = ([], new, refl)
another_last (x ∷ later) ply new earlier = (new ∷ later, ply, refl)

keeps_step :
    (start : Parts) (old : List Ply) (score : Score) (entry : Entry) (seen : Seen)
    → SeenAs start (moves_of score.plies) entry.picture seen
    → KeepsAllButLast old score.plies
    → KeepsAllButLast old (score_after start score entry.reading seen).plies
keeps_step start [] score entry seen h k = tt
keeps_step start (last ∷ earlier) score entry Same h k = absurd h
keeps_step start (last ∷ earlier) score entry Waits h k = k
keeps_step start (last ∷ earlier) score entry (Sign o) h k = k
keeps_step start (last ∷ earlier) score entry (Moved m) h k =
    let new : Ply = record { mv = m; clock = time_of (reached start (moves_of score.plies)).side entry.reading } in
    (new ∷ k.0, k.1, ap (λ (l : List Ply). new ∷ l) k.2)
keeps_step start (last ∷ earlier) score entry (Replaced m) h k =
    let new : Ply = record { mv = m; clock = time_of (reached start (moves_of (drop 1 score.plies))).side entry.reading } in
    let d = another_last k.0 k.1 new earlier in
    (d.0, d.1, ap (λ (l : List Ply). new ∷ drop 1 l) k.2 ∙ d.2)

pub only_the_last_may_change : OnlyTheLastPlyMayChange
only_the_last_may_change start [] past before score v b s =
    let P : Score → Type 0 = λ x. KeepsAllButLast before.plies x.plies in
    subst P (folds_once start past before score v b s) (keeps_itself before.plies)
only_the_last_may_change start (entry ∷ later) past before score v b s =
    let P : Score → Type 0 = λ x. KeepsAllButLast before.plies x.plies in
    subst P (sym s.4) (keeps_step start before.plies s.0 entry s.1 s.3 (only_the_last_may_change start later past before s.0 v b s.2))

kings_settle_nothing : (p : Parts) (seen : List ℕ) (m : Move) → Valid p → ShowsBothKings seen → ¬ Settles p seen m
kings_settle_nothing p seen m v k h =
    apart_valid (after p m) seen (moves_stay_valid p m v h.legal) h.shows
    (both_codes seen (after p m).side k.white k.black k.white_centre k.black_centre k.white_stands k.black_stands)

pub kings_make_no_move : KingsInCentreMakeNoMove
kings_make_no_move start [] seen v l k = (λ n. kings_settle_nothing start seen n v k, λ n h. h)
kings_make_no_move start (last ∷ earlier) seen v l k = (
  λ n. kings_settle_nothing (reached start (last ∷ earlier)) seen n (valid_reached start (last ∷ earlier) v l) k,
  λ n h. kings_settle_nothing (reached start earlier) seen n (valid_reached start earlier v l.1) k h.0,
)

kings_step :
    (start : Parts) (score : Score) (entry : Entry) (seen : Seen)
    → ((n : Move) → ¬ Settles (reached start (moves_of score.plies)) entry.picture n)
    → SeenAs start (moves_of score.plies) entry.picture seen
    → ((n : Move) → SeenAs start (moves_of score.plies) entry.picture (Replaced n) → ⊥)
    → (score_after start score entry.reading seen).plies ≡ score.plies
kings_step start score entry Same settles h replaces = absurd h
kings_step start score entry Waits settles h replaces = refl
kings_step start score entry (Sign o) settles h replaces = refl
kings_step start score entry (Moved m) settles h replaces = absurd (settles m h)
kings_step start score entry (Replaced m) settles h replaces = absurd (replaces m h)

pub kings_keep_the_plies : KingsInCentreKeepThePlies
kings_keep_the_plies start [] past before score v k b s = ap (λ (x : Score). x.plies) (folds_once start past score before v s b)
kings_keep_the_plies start (entry ∷ later) past before score v k b s =
    let nothing = kings_make_no_move start (moves_of (s.0).plies) entry.picture v (folds_played start (later ++ past) s.0 s.2) k.0 in
    ap (λ (x : Score). x.plies) s.4 ∙ kings_step start s.0 entry s.1 nothing.0 s.3 (λ n h. nothing.1 n h.2)
    ∙ kings_keep_the_plies start later past before s.0 v k.1 b s.2
