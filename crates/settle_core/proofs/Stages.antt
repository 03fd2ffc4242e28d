-- How honest play of one move folds: nothing is made, then another move may stand in its place, then the move.
use Rattle.std.proofs.Common.{◌≡◌, ◌≢◌, ℕ, ◌⊎◌, inl, inr, List, [], ◌∷◌, Option, None, false, refl, sym, ap, subst, ◌∙◌}
use Rattle.std.specs.Str.{bytes_eq}
use Rattle.std.proofs.lemmas.Slice.Eq.{bytes_eq-Decides}
use Rattle.std.proofs.lemmas.Bool.{cases_Bool, cond-true, cond-false, false_from_ne_true}
use Rattle.chess_clock.specs.declared.times.Reading.{Reading}
use Rattle.chess_rules.specs.declared.chess_move.Move.{Move}
use Rattle.chess_rules.specs.declared.parts.Parts.{Parts}
use Rattle.chess_rules.specs.After.{after}
use Rattle.chess_rules.specs.Legal.{Legal}
use Rattle.chess_rules.specs.Valid.{Valid}
use Rattle.chess_rules.specs.Picture.{picture}
use Rattle.chess_rules.proofs.LawLemmas.{moves_stay_valid}
use Rattle.settle_core.specs.declared.plies.Ply.{Ply}
use Rattle.settle_core.specs.declared.plies.Seen.{Seen}
use Rattle.settle_core.specs.declared.plies.Seen.TheVariants.{Same, Moved, Sign, Replaced, Waits}
use Rattle.settle_core.specs.Entries.{Entry, repeats, deduplicated}
use Rattle.settle_core.specs.Settling.{Settles, reached, Played}
use Rattle.settle_core.specs.Folding.{Score, moves_of, played, Replaces, SeenAs, score_after, Folds}
use Rattle.settle_core.specs.HonestPlay.{IsCapture, IsWithinTurn, IsWithinTurnOrLacksKing, LacksKing}
use Rattle.settle_core.proofs.Pieces.{ShowsNoNew, quiet_unless, no_new_after, no_reply, no_earlier, picture_moves, settles_end}
use Rattle.settle_core.proofs.Apart.{no_sign_valid}
use Rattle.settle_core.proofs.Hands.{no_sign_apart, within_turn_quiet, within_turn_no_new, lacking_settles, lacking_no_sign}

-- a score of these plies, the latest first, without a sign
abbrev pub bare : List Ply → Score
bare plies = record { plies = plies; sign = None }

-- A ply stands where the next one is to come. Its move takes no piece, and its picture is one of those that were seen.
pub record StandsIn (start : Parts) (earlier : List Ply) (Q : List ℕ → Type 0) (score : Score) : Type 0 where
  pub ply : Ply
  pub is : score ≡ bare (ply ∷ earlier)
  pub legal : Legal (reached start (moves_of earlier)) ply.mv
  pub no_capture : ¬ IsCapture (reached start (moves_of earlier)) ply.mv
  pub shown : Q (picture (after (reached start (moves_of earlier)) ply.mv))

-- what the score may be within the turn
abbrev pub IsOpen : Parts → List Ply → (List ℕ → Type 0) → Score → Type 0
IsOpen start earlier Q score = (score ≡ bare earlier) ⊎ StandsIn start earlier Q score

-- what is known of the game so far
pub record IsSound (start : Parts) (earlier : List Ply) : Type 0 where
  pub valid : Valid start
  pub played : Played start (moves_of earlier)

pub valid_reached : (start : Parts) (moves : List Move) → Valid start → Played start moves → Valid (reached start moves)
valid_reached start [] v l = v
valid_reached start (m ∷ earlier) v l = moves_stay_valid (reached start earlier) m (valid_reached start earlier v l.1) l.0

pub now : (start : Parts) (earlier : List Ply) → IsSound start earlier → Valid (reached start (moves_of earlier))
now start earlier s = valid_reached start (moves_of earlier) s.valid s.played

-- no move is settled in the place of the last one before
pub no_replace :
    (start : Parts) (earlier : List Move) (k : Move) (seen : List ℕ)
    → Valid start
    → Played start earlier
    → ShowsNoNew (reached start earlier) seen
    → ¬ Replaces start earlier seen k
no_replace start [] k seen v l new h = h
no_replace start (last ∷ before) k seen v l new h =
    h.1 (no_earlier (reached start before) last k seen (valid_reached start before v l.1) l.0 new h.0)

-- what a picture shows, where the score is this one
pub shows_at :
    (start : Parts) (score score' : Score) (seen : List ℕ) (shown : Seen)
    → score ≡ score' → SeenAs start (moves_of score.plies) seen shown → SeenAs start (moves_of score'.plies) seen shown
shows_at start score score' seen shown e h = let P : Score → Type 0 = λ s. SeenAs start (moves_of s.plies) seen shown in subst P e h

-- the move that a picture within the turn settles stands in the place of the next one
stands_in :
    (start : Parts) (earlier : List Ply) (Q : List ℕ → Type 0) (seen : List ℕ) (reading : Option Reading) (k : Move)
    → IsWithinTurn (reached start (moves_of earlier)) seen
    → Q seen
    → Settles (reached start (moves_of earlier)) seen k
    → StandsIn start earlier Q (played start earlier reading k)
stands_in start earlier Q seen reading k hand q h =
    record { ply = _; is = refl; legal = h.legal; no_capture = within_turn_quiet (reached start (moves_of earlier)) k seen hand h; shown = subst Q h.shows q }

-- where no other move stands there
step_first :
    (start : Parts) (earlier : List Ply) (Q : List ℕ → Type 0) (seen : List ℕ) (reading : Option Reading) (shown : Seen)
    → IsSound start earlier
    → IsWithinTurn (reached start (moves_of earlier)) seen
    → Q seen
    → SeenAs start (moves_of earlier) seen shown
    → IsOpen start earlier Q (score_after start (bare earlier) reading shown)
step_first start earlier Q seen reading Same s hand q h = absurd h
step_first start earlier Q seen reading Waits s hand q h = inl refl
step_first start earlier Q seen reading (Sign outcome) s hand q h = absurd (no_sign_apart seen hand.kings _ outcome h)
step_first start earlier Q seen reading (Moved k) s hand q h = inr (stands_in start earlier Q seen reading k hand q h)
step_first start earlier Q seen reading (Replaced k) s hand q h =
    absurd (no_replace start (moves_of earlier) k seen s.valid s.played (within_turn_no_new (reached start (moves_of earlier)) seen hand) h.2)

-- and where one does
step_again :
    (start : Parts) (earlier : List Ply) (Q : List ℕ → Type 0) (ply : Ply) (seen : List ℕ) (reading : Option Reading) (shown : Seen)
    → IsSound start earlier
    → StandsIn start earlier Q (bare (ply ∷ earlier))
    → Legal (reached start (moves_of earlier)) ply.mv
    → ¬ IsCapture (reached start (moves_of earlier)) ply.mv
    → IsWithinTurn (reached start (moves_of earlier)) seen
    → Q seen
    → SeenAs start (ply.mv ∷ moves_of earlier) seen shown
    → IsOpen start earlier Q (score_after start (bare (ply ∷ earlier)) reading shown)
step_again start earlier Q ply seen reading Same s i l t hand q h = absurd h
step_again start earlier Q ply seen reading Waits s i l t hand q h = inr i
step_again start earlier Q ply seen reading (Sign outcome) s i l t hand q h = absurd (no_sign_apart seen hand.kings _ outcome h)
step_again start earlier Q ply seen reading (Moved k) s i l t hand q h =
    let p : Parts = reached start (moves_of earlier) in
    absurd (no_reply p ply.mv k seen (now start earlier s) l (quiet_unless p ply.mv t) (within_turn_no_new p seen hand) h)
step_again start earlier Q ply seen reading (Replaced k) s i l t hand q h = inr (stands_in start earlier Q seen reading k hand q (h.2).0)

-- a picture within the turn
step_hand :
    (start : Parts) (earlier : List Ply) (Q : List ℕ → Type 0) (score : Score) (seen : List ℕ) (reading : Option Reading) (shown : Seen)
    → IsSound start earlier
    → IsWithinTurn (reached start (moves_of earlier)) seen
    → Q seen
    → IsOpen start earlier Q score
    → SeenAs start (moves_of score.plies) seen shown
    → IsOpen start earlier Q (score_after start score reading shown)
step_hand start earlier Q score seen reading shown s hand q o h =
    let P : Score → Type 0 = λ x. IsOpen start earlier Q (score_after start x reading shown) in
    elim o [
      | inl e ↦ subst P (sym e) (step_first start earlier Q seen reading shown s hand q (shows_at start score (bare earlier) seen shown e h))
      | inr i ↦
          let S : Score → Type 0 = λ x. StandsIn start earlier Q x in
          subst P (sym i.is)
          (step_again start earlier Q i.ply seen reading shown s (subst S i.is i) i.legal i.no_capture hand q
          (shows_at start score (bare (i.ply ∷ earlier)) seen shown i.is h))
    ]

-- the moves that were made are legal in their turn
open_played :
    (start : Parts) (earlier : List Ply) (Q : List ℕ → Type 0) (score : Score)
    → IsSound start earlier → IsOpen start earlier Q score → Played start (moves_of score.plies)
open_played start earlier Q score s o =
    let P : Score → Type 0 = λ x. Played start (moves_of x.plies) in
    elim o [ inl e ↦ subst P (sym e) s.played | inr i ↦ subst P (sym i.is) (i.legal, s.played) ]

-- a picture without a king replaces nothing
pub lacking_replaces : (start : Parts) (moves : List Move) (seen : List ℕ) (k : Move) → Valid start → Played start moves → LacksKing seen → ¬ Replaces start moves seen k
lacking_replaces start [] seen k v l lacks h = h
lacking_replaces start (last ∷ before) seen k v l lacks h = lacking_settles (reached start before) seen k (valid_reached start before v l.1) lacks h.0

-- a picture without a king changes no score
pub lacking_step :
    (start : Parts) (score : Score) (seen : List ℕ) (reading : Option Reading) (shown : Seen)
    → Valid start
    → Played start (moves_of score.plies)
    → LacksKing seen
    → SeenAs start (moves_of score.plies) seen shown
    → score_after start score reading shown ≡ score
lacking_step start score seen reading Same v l lacks h = absurd h
lacking_step start score seen reading Waits v l lacks h = refl
lacking_step start score seen reading (Sign outcome) v l lacks h = absurd (lacking_no_sign _ seen outcome lacks h)
lacking_step start score seen reading (Moved k) v l lacks h = absurd (lacking_settles (reached start (moves_of score.plies)) seen k (valid_reached start (moves_of score.plies) v l) lacks h)
lacking_step start score seen reading (Replaced k) v l lacks h = absurd (lacking_replaces start (moves_of score.plies) seen k v l lacks h.2)

-- a picture between two moves
pub step_open :
    (start : Parts) (earlier : List Ply) (Q : List ℕ → Type 0) (score : Score) (seen : List ℕ) (reading : Option Reading) (shown : Seen)
    → IsSound start earlier
    → IsWithinTurnOrLacksKing (reached start (moves_of earlier)) seen
    → Q seen
    → IsOpen start earlier Q score
    → SeenAs start (moves_of score.plies) seen shown
    → IsOpen start earlier Q (score_after start score reading shown)
step_open start earlier Q score seen reading shown s (inl hand) q o h = step_hand start earlier Q score seen reading shown s hand q o h
step_open start earlier Q score seen reading shown s (inr lacks) q o h =
    let P : Score → Type 0 = λ x. IsOpen start earlier Q x in
    subst P (sym (lacking_step start score seen reading shown s.valid (open_played start earlier Q score s o) lacks h)) o

-- no picture of those seen was the one after m
abbrev pub NotYet : Parts → Move → List ℕ → Type 0
NotYet p m seen = seen ≢ picture (after p m)

-- the picture after m, where no other move stands in its place
pub end_first :
    (start : Parts) (earlier : List Ply) (m : Move) (seen : List ℕ) (reading : Option Reading) (shown : Seen)
    → IsSound start earlier
    → Legal (reached start (moves_of earlier)) m
    → seen ≡ picture (after (reached start (moves_of earlier)) m)
    → SeenAs start (moves_of earlier) seen shown
    → score_after start (bare earlier) reading shown ≡ played start earlier reading m
end_first start earlier m seen reading Same s l e h = absurd h
end_first start earlier m seen reading (Sign outcome) s l e h =
    let p : Parts = reached start (moves_of earlier) in
    absurd (no_sign_valid (after p m) seen (moves_stay_valid p m (now start earlier s) l) e _ outcome h)
end_first start earlier m seen reading (Moved k) s l e h = ap (λ (x : Move). played start earlier reading x) (sym (h.alone m l e))
end_first start earlier m seen reading (Replaced k) s l e h =
    let p : Parts = reached start (moves_of earlier) in
    absurd (no_replace start (moves_of earlier) k seen s.valid s.played (no_new_after p m seen (now start earlier s) l e) h.2)
end_first start earlier m seen reading Waits s l e h =
    absurd (h.0 m (settles_end (reached start (moves_of earlier)) m seen (now start earlier s) l e))

-- and where one does
pub end_again :
    (start : Parts) (earlier : List Ply) (ply : Ply) (m : Move) (seen : List ℕ) (reading : Option Reading) (shown : Seen)
    → IsSound start earlier
    → Legal (reached start (moves_of earlier)) ply.mv
    → ¬ IsCapture (reached start (moves_of earlier)) ply.mv
    → ply.mv ≢ m
    → Legal (reached start (moves_of earlier)) m
    → seen ≡ picture (after (reached start (moves_of earlier)) m)
    → SeenAs start (ply.mv ∷ moves_of earlier) seen shown
    → score_after start (bare (ply ∷ earlier)) reading shown ≡ played start earlier reading m
end_again start earlier ply m seen reading Same s lp t ne l e h = absurd h
end_again start earlier ply m seen reading (Sign outcome) s lp t ne l e h =
    let p : Parts = reached start (moves_of earlier) in
    absurd (no_sign_valid (after p m) seen (moves_stay_valid p m (now start earlier s) l) e _ outcome h)
end_again start earlier ply m seen reading (Moved k) s lp t ne l e h =
    let p : Parts = reached start (moves_of earlier) in
    absurd (no_reply p ply.mv k seen (now start earlier s) lp (quiet_unless p ply.mv t) (no_new_after p m seen (now start earlier s) l e) h)
end_again start earlier ply m seen reading (Replaced k) s lp t ne l e h =
    ap (λ (x : Move). played start earlier reading x) (sym (((h.2).0).alone m l e))
end_again start earlier ply m seen reading Waits s lp t ne l e h =
    absurd (h.2 m (settles_end (reached start (moves_of earlier)) m seen (now start earlier s) l e, λ same. ne (sym same)))

-- the picture after m
pub step_end :
    (start : Parts) (earlier : List Ply) (m : Move) (score : Score) (seen : List ℕ) (reading : Option Reading) (shown : Seen)
    → IsSound start earlier
    → Legal (reached start (moves_of earlier)) m
    → seen ≡ picture (after (reached start (moves_of earlier)) m)
    → IsOpen start earlier (NotYet (reached start (moves_of earlier)) m) score
    → SeenAs start (moves_of score.plies) seen shown
    → score_after start score reading shown ≡ played start earlier reading m
step_end start earlier m score seen reading shown s l e o h =
    let p : Parts = reached start (moves_of earlier) in
    let P : Score → Type 0 = λ x. score_after start x reading shown ≡ played start earlier reading m in
    elim o [
      | inl q ↦ subst P (sym q) (end_first start earlier m seen reading shown s l e (shows_at start score (bare earlier) seen shown q h))
      | inr i ↦
          subst P (sym i.is)
          (end_again start earlier i.ply m seen reading shown s i.legal i.no_capture
          (λ same. i.shown (ap (λ (x : Move). picture (after p x)) same)) l e
          (shows_at start score (bare (i.ply ∷ earlier)) seen shown i.is h))
    ]

-- the game so far, over entries of the past: no picture since the last move was other than those with Q
abbrev pub Opens : Parts → List Ply → (List ℕ → Type 0) → List Entry → Type 0
Opens start earlier Q past = (score : Score) → Folds start (deduplicated past) score → IsOpen start earlier Q score

-- the last picture, if any, is that of this position
abbrev pub EndsAt : Parts → List Entry → Type 0
EndsAt p [] = Unit {0}
EndsAt p (entry ∷ past) = entry.picture ≡ picture p

-- the entries have this score and no other
abbrev pub Gives : Parts → Score → List Entry → Type 0
Gives start final past = (score : Score) → Folds start (deduplicated past) score → score ≡ final

-- exactly these plies were made
pub record Ends (start : Parts) (made : List Ply) (past : List Entry) : Type 0 where
  pub score : Gives start (bare made) past
  pub last : EndsAt (reached start (moves_of made)) past

pub differ_false : (xs ys : List ℕ) → xs ≢ ys → bytes_eq xs ys ≡ false
differ_false xs ys ne = false_from_ne_true (bytes_eq xs ys) (λ e. let d = bytes_eq-Decides xs ys in ne (d.0 e))

-- a folded step
pub fold_keeps :
    (start : Parts) (past : List Entry) (entry : Entry) (P Q : Score → Type 0)
    → ((score : Score) → Folds start (deduplicated past) score → P score)
    → ((score : Score) → P score → Q score)
    → ((score : Score) (seen : Seen) → P score → SeenAs start (moves_of score.plies) entry.picture seen → Q (score_after start score entry.reading seen))
    → (score : Score) → Folds start (deduplicated (entry ∷ past)) score → Q score
fold_keeps start past entry P Q before weaken step score h =
    elim (cases_Bool (repeats entry.picture past)) [
      | inl same ↦
          let F : List Entry → Type 0 = λ es. Folds start es score in
          weaken score (before score (subst F (cond-true (repeats entry.picture past) (deduplicated past) (entry ∷ deduplicated past) same) h))
      | inr new ↦
          let F : List Entry → Type 0 = λ es. Folds start es score in
          let f : Folds start (entry ∷ deduplicated past) score =
          subst F (cond-false (repeats entry.picture past) (deduplicated past) (entry ∷ deduplicated past) new) h in
          subst Q (sym f.4) (step f.0 f.1 (before f.0 f.2) f.3)
    ]

-- where the entry repeats no picture
pub fold_new :
    (start : Parts) (past : List Entry) (entry : Entry) (P Q : Score → Type 0)
    → repeats entry.picture past ≡ false
    → ((score : Score) → Folds start (deduplicated past) score → P score)
    → ((score : Score) (seen : Seen) → P score → SeenAs start (moves_of score.plies) entry.picture seen → Q (score_after start score entry.reading seen))
    → (score : Score) → Folds start (deduplicated (entry ∷ past)) score → Q score
fold_new start past entry P Q new before step score h =
    let F : List Entry → Type 0 = λ es. Folds start es score in
    let f : Folds start (entry ∷ deduplicated past) score =
    subst F (cond-false (repeats entry.picture past) (deduplicated past) (entry ∷ deduplicated past) new) h in
    subst Q (sym f.4) (step f.0 f.1 (before f.0 f.2) f.3)

pub entry_open :
    (start : Parts) (earlier : List Ply) (Q : List ℕ → Type 0) (past : List Entry) (entry : Entry)
    → IsSound start earlier
    → IsWithinTurnOrLacksKing (reached start (moves_of earlier)) entry.picture
    → Q entry.picture
    → Opens start earlier Q past
    → Opens start earlier Q (entry ∷ past)
entry_open start earlier Q past entry s pass q o =
    fold_keeps start past entry (IsOpen start earlier Q) (IsOpen start earlier Q) o (λ score g. g)
    (λ score seen g h. step_open start earlier Q score entry.picture entry.reading seen s pass q g h)

pub entry_end :
    (start : Parts) (earlier : List Ply) (m : Move) (past : List Entry) (entry : Entry)
    → IsSound start earlier
    → Legal (reached start (moves_of earlier)) m
    → entry.picture ≡ picture (after (reached start (moves_of earlier)) m)
    → Opens start earlier (NotYet (reached start (moves_of earlier)) m) past
    → repeats (picture (after (reached start (moves_of earlier)) m)) past ≡ false
    → Gives start (played start earlier entry.reading m) (entry ∷ past)
entry_end start earlier m past entry s l e o not_yet =
    fold_new start past entry (IsOpen start earlier (NotYet (reached start (moves_of earlier)) m)) (λ score. score ≡ played start earlier entry.reading m)
    (ap (λ q. repeats q past) e ∙ not_yet) o
    (λ score seen g h. step_end start earlier m score entry.picture entry.reading seen s l e g h)

pub not_repeated :
    (p : Parts) (m : Move) (past : List Entry) → Valid p → Legal p m → EndsAt p past → repeats (picture (after p m)) past ≡ false
not_repeated p m [] v l h = refl
not_repeated p m (entry ∷ past) v l h = differ_false _ _ (λ e. picture_moves p m v l (e ∙ h))

pub opens : (start : Parts) (earlier : List Ply) (Q : List ℕ → Type 0) (past : List Entry) → Ends start earlier past → Opens start earlier Q past
opens start earlier Q past o = λ score h. inl (o.score score h)
