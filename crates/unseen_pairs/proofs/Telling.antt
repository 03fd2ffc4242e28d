-- What a recoverer tells, from what its settler tells.
use Rattle.std.proofs.Common.{◌≡◌, ◌≢◌, ℕ, ◌<◌, Bool, true, false, List, [], ◌∷◌, Option, Contains, Some, None, inl, inr, slice_set, length, Result, Ok, Err, IfOk, refl, sym, ap, subst, ◌∙◌, arith}
use Rattle.std.specs.Str.{bytes_eq}
use Rattle.std.proofs.lemmas.Bool.{both_ways, cases_Bool, cond-true, cond-false}
use Rattle.std.proofs.lemmas.Slice.Eq.{bytes_eq-Decides}
use Rattle.chess_rules.specs.declared.chess_move.Move.{Move}
use Rattle.chess_rules.specs.declared.parts.Parts.{Parts}
use Rattle.chess_rules.specs.After.{after}
use Rattle.chess_rules.specs.Legal.{Legal}
use Rattle.chess_rules.specs.Valid.{Valid}
use Rattle.chess_rules.specs.Picture.{picture}
use Rattle.chess_rules.proofs.LawLemmas.{moves_stay_valid}
use Rattle.settle_core.specs.declared.plies.Seen.{Seen}
use Rattle.settle_core.specs.declared.plies.Seen.TheVariants.{Same, Moved, Sign, Replaced, Waits}
use Rattle.chess_clock.specs.declared.times.Reading.{Reading}
use Rattle.settle_core.specs.Entries.{Entry, changed, entry_of, deduplicated, last_picture, repeats}
use Rattle.settle_core.specs.Settler.{HasSettled, ReturnsNewSeen, ReturnsSeen, SettlerState}
use Rattle.settle_core.specs.Settling.{Played, reached}
use Rattle.settle_core.specs.Folding.{Score, Folds, SeenAs, moves_of, score_after}
use Rattle.settle_core.proofs.Apart.{no_sign_valid}
use Rattle.settle_core.proofs.Once.{folds_once, folds_played}
use Rattle.settle_core.proofs.Pieces.{picture_moves}
use Rattle.settle_core.proofs.Stages.{differ_false, valid_reached}
use Rattle.settle_core.proofs.Repeats.{repeats_by, with_new, with_repeated}
use Rattle.unseen_pairs.specs.declared.pair.Recovery.{Recovery}
use Rattle.unseen_pairs.specs.declared.pair.SeenOrFound.{SeenOrFound}
use Rattle.unseen_pairs.specs.declared.pair.SeenOrRecovered.{SeenOrRecovered}
use Rattle.unseen_pairs.specs.declared.pair.SeenOrRecovered.TheVariants.{Shown, Recovered}
use Rattle.unseen_pairs.specs.declared.confirming.Candidate.{Candidate}
use Rattle.unseen_pairs.specs.declared.confirming.Confirmed.{Confirmed}
use Rattle.unseen_pairs.specs.Pairs.{Confirms, Explains, GoesOn, IsInstead, begins, ends, root}
use Rattle.unseen_pairs.specs.Recovering.{FoldsRecovering, TellsAs, score_told, waiting_after}
use Rattle.unseen_pairs.specs.Recoverer.{HasRecovered, HoldsOf, RecovererState, TellsNew}
use Rattle.unseen_pairs.specs.Inside.Telling.{HasTold, IsWaiting}
use Rattle.unseen_pairs.specs.Candidates.{ListsCandidates}
use Rattle.unseen_pairs.specs.Inside.Waiting.{AreKept, AreAllAdded, HidesNone, IsOnlyOne}
use Rattle.unseen_pairs.proofs.Aging.{lists_next}
use Rattle.unseen_pairs.proofs.Choosing.{recovery_of, one_confirmed, confirmed_one}
use Rattle.unseen_pairs.proofs.Putting.{put_in_folds, settles_own}

-- nothing waits after a move or a sign
pub no_candidates : (start : Parts) (moves : List Move) → ListsCandidates start moves [] []
no_candidates start moves = record {
  each = λ c k. absurd (let low : k.0 < 0 = k.1 in let n : ⊥ = omega arith in n);
  whole = λ pair place entry at. absurd (let n : ⊥ = cc (at.waits) in n);
}

-- what a settler showed that was given one new entry
shown_step :
    (old new : SettlerState) (start : Parts) (written : List Entry) (entry : Entry) (a : Seen)
    → Valid start
    → HasSettled old start written
    → HasSettled new start (entry ∷ written)
    → ReturnsNewSeen start written entry.picture a
    → SeenAs start (moves_of old.score.plies) entry.picture a × new.score ≡ score_after start old.score entry.reading a
shown_step old new start written entry a v st after h =
    let same : (h.1).0 ≡ old.score = folds_once start (deduplicated written) (h.1).0 old.score v (h.1).1 st.folds in
    let S : Score → Type 0 = λ s. SeenAs start (moves_of s.plies) entry.picture a in
    let seen : SeenAs start (moves_of old.score.plies) entry.picture a = subst S same (h.1).2 in
    let F : List Entry → Type 0 = λ es. Folds start es new.score in (
      seen,
      folds_once start (entry ∷ deduplicated written) new.score (score_after start old.score entry.reading a) v
          (subst F (with_new entry written h.0) after.folds) (old.score, a, st.folds, seen, refl),
    )

-- A move or a sign is told, and nothing waits.
shown_new :
    (old new : RecovererState) (start : Parts) (past written : List Entry) (entry : Entry) (a : Seen)
    → Valid start
    → (st : HasRecovered old start past written)
    → HasSettled new.settler start (entry ∷ written)
    → new.candidates ≡ []
    → (a ≢ Waits)
    → waiting_after start (moves_of old.settler.score.plies) st.waiting entry (Shown a) ≡ []
    → ReturnsNewSeen start written entry.picture a
    → HasRecovered new start (entry ∷ past) (entry ∷ written) × TellsNew start past entry.picture (Shown a)
shown_new old new start past written entry a v st after none ne empty h =
    let step = shown_step old.settler new.settler start written entry a v st.settles after h in
    let fresh : repeats entry.picture past ≡ false = sym (repeats_by entry.picture written past st.last) ∙ h.0 in
    let tells : TellsAs start (moves_of old.settler.score.plies) st.waiting entry.picture (Shown a) = (step.0, λ e. absurd (ne e)) in
    let F : List Entry → Type 0 = λ es. FoldsRecovering start es new.settler.score [] in
    let C : List Candidate → Type 0 = λ cs. ListsCandidates start (moves_of new.settler.score.plies) [] cs in (
      record {
        settles = after;
        last = refl;
        waiting = [];
        folds = subst F (sym (with_new entry past fresh)) (old.settler.score, st.waiting, Shown a, st.folds, tells, step.1, sym empty);
        candidates = subst C (sym none) (no_candidates start (moves_of new.settler.score.plies));
      },
      (fresh, (old.settler.score, st.waiting, st.folds, tells)),
    )

pub shown_told :
    (old new : RecovererState) (start : Parts) (past written : List Entry) (entry : Entry) (a : Seen)
    → Valid start
    → HasRecovered old start past written
    → HasSettled new.settler start (entry ∷ written)
    → new.candidates ≡ []
    → a ≢ Same
    → a ≢ Waits
    → ReturnsSeen start written entry.picture a
    → HasTold new start past written entry (Shown a)
shown_told old new start past written entry Same v st after none no_same no_waits h = absurd (no_same refl)
shown_told old new start past written entry Waits v st after none no_same no_waits h = absurd (no_waits refl)
shown_told old new start past written entry (Moved m) v st after none no_same no_waits h =
    let both = shown_new old new start past written entry (Moved m) v st after none no_waits refl h in
    record { stands = both.0; answer = both.1 }
shown_told old new start past written entry (Sign outcome) v st after none no_same no_waits h =
    let both = shown_new old new start past written entry (Sign outcome) v st after none no_waits refl h in
    record { stands = both.0; answer = both.1 }
shown_told old new start past written entry (Replaced m) v st after none no_same no_waits h =
    let both = shown_new old new start past written entry (Replaced m) v st after none no_waits refl h in
    record { stands = both.0; answer = both.1 }

-- The last picture again changes nothing.
pub same_told :
    (old : RecovererState) (new : SettlerState) (start : Parts) (past written : List Entry) (entry : Entry)
    → Valid start
    → HasRecovered old start past written
    → HasSettled new start (entry ∷ written)
    → ReturnsSeen start written entry.picture Same
    → HasTold (record { settler = new; candidates = old.candidates }) start past written entry (Shown Same)
same_told old new start past written entry v st after h =
    let again : repeats entry.picture past ≡ true = sym (repeats_by entry.picture written past st.last) ∙ h in
    let F : List Entry → Type 0 = λ es. Folds start es new.score in
    let same : old.settler.score ≡ new.score = folds_once start (deduplicated written) old.settler.score new.score v (st.settles).folds (subst F (with_repeated entry written h) after.folds) in
    let R : List Entry → Type 0 = λ es. FoldsRecovering start es new.score st.waiting in
    let Q : Score → Type 0 = λ s. FoldsRecovering start (deduplicated past) s st.waiting in
    let C : Score → Type 0 = λ s. ListsCandidates start (moves_of s.plies) st.waiting old.candidates in
    record {
      stands = record {
        settles = after;
        last = refl;
        waiting = st.waiting;
        folds = subst R (sym (with_repeated entry past again)) (subst Q same st.folds);
        candidates = subst C same st.candidates;
      };
      answer = again;
    }

-- A picture that shows nothing by itself is to wait.
pub to_wait :
    (old : RecovererState) (new : SettlerState) (start : Parts) (past written : List Entry) (entry : Entry)
    → Valid start
    → HasRecovered old start past written
    → HasSettled new start (entry ∷ written)
    → ReturnsSeen start written entry.picture Waits
    → IsWaiting (record { settler = new; candidates = old.candidates }) start past written entry
to_wait old new start past written entry v st after h =
    let step = shown_step old.settler new start written entry Waits v st.settles after h in
    let same : old.settler.score ≡ new.score = sym step.1 in
    let F : Score → Type 0 = λ s. Folds start (deduplicated written) s in
    let S : Score → Type 0 = λ s. SeenAs start (moves_of s.plies) entry.picture Waits in
    let Q : Score → Type 0 = λ s. FoldsRecovering start (deduplicated past) s st.waiting in
    let C : Score → Type 0 = λ s. ListsCandidates start (moves_of s.plies) st.waiting old.candidates in
    record {
      settles = after;
      folded = subst F same (st.settles).folds;
      new = sym (repeats_by entry.picture written past st.last) ∙ h.0;
      same = h.0;
      waits = subst S same step.0;
      waiting = st.waiting;
      folds = subst Q same st.folds;
      candidates = subst C same st.candidates;
    }

-- The picture waits, and the candidates are brought to it.
kept_told :
    (recoverer : RecovererState) (candidates : List Candidate) (start : Parts) (past written : List Entry) (entry : Entry) (w : IsWaiting recoverer start past written entry)
    → ((one : Confirmed) → ¬ IsOnlyOne (reached start (moves_of recoverer.settler.score.plies)) recoverer.candidates entry.picture one)
    → ListsCandidates start (moves_of recoverer.settler.score.plies) (waiting_after start (moves_of recoverer.settler.score.plies) w.waiting entry (Shown Waits)) candidates
    → HasTold (record { settler = recoverer.settler; candidates = candidates }) start past written entry (Shown Waits)
kept_told recoverer candidates start past written entry w none lists =
    let moves = moves_of recoverer.settler.score.plies in
    let tells : TellsAs start moves w.waiting entry.picture (Shown Waits) = (
      w.waits,
      λ e r h.
          let one = confirmed_one start moves w.waiting recoverer.candidates entry.picture r w.candidates h in
          none one.0 one.1,
    ) in
    let next : List Entry = waiting_after start moves w.waiting entry (Shown Waits) in
    let F : List Entry → Type 0 = λ es. FoldsRecovering start es recoverer.settler.score next in
    record {
      stands = record {
        settles = w.settles;
        last = refl;
        waiting = next;
        folds = subst F (sym (with_new entry past w.new)) (recoverer.settler.score, w.waiting, Shown Waits, w.folds, tells, refl, refl);
        candidates = lists;
      };
      answer = (w.new, (recoverer.settler.score, w.waiting, w.folds, tells));
    }

-- It is the position's own.
pub own_told :
    (recoverer : RecovererState) (candidates : List Candidate) (start : Parts) (past written : List Entry) (entry : Entry)
    → IsWaiting recoverer start past written entry
    → ((one : Confirmed) → ¬ IsOnlyOne (reached start (moves_of recoverer.settler.score.plies)) recoverer.candidates entry.picture one)
    → entry.picture ≡ picture (reached start (moves_of recoverer.settler.score.plies))
    → candidates ≡ []
    → HasTold (record { settler = recoverer.settler; candidates = candidates }) start past written entry (Shown Waits)
own_told recoverer candidates start past written entry w none own empty =
    let moves = moves_of recoverer.settler.score.plies in
    let test : bytes_eq entry.picture (picture (reached start moves)) ≡ true = let d = bytes_eq-Decides entry.picture (picture (reached start moves)) in d.1 own in
    let next : waiting_after start moves w.waiting entry (Shown Waits) ≡ [] = cond-true (bytes_eq entry.picture (picture (reached start moves))) [] (entry ∷ w.waiting) test in
    let L : List Entry → Type 0 = λ es. ListsCandidates start moves es candidates in
    let C : List Candidate → Type 0 = λ cs. ListsCandidates start moves [] cs in
    kept_told recoverer candidates start past written entry w none (subst L (sym next) (subst C (sym empty) (no_candidates start moves)))

-- It is another one.
pub other_told :
    (recoverer : RecovererState) (candidates : List Candidate) (start : Parts) (past written : List Entry) (entry : Entry) (w : IsWaiting recoverer start past written entry)
    → ((one : Confirmed) → ¬ IsOnlyOne (reached start (moves_of recoverer.settler.score.plies)) recoverer.candidates entry.picture one)
    → entry.picture ≢ picture (reached start (moves_of recoverer.settler.score.plies))
    → ListsCandidates start (moves_of recoverer.settler.score.plies) (entry ∷ w.waiting) candidates
    → HasTold (record { settler = recoverer.settler; candidates = candidates }) start past written entry (Shown Waits)
other_told recoverer candidates start past written entry w none other lists =
    let moves = moves_of recoverer.settler.score.plies in
    let next : waiting_after start moves w.waiting entry (Shown Waits) ≡ entry ∷ w.waiting =
    cond-false (bytes_eq entry.picture (picture (reached start moves))) [] (entry ∷ w.waiting) (differ_false _ _ other) in
    let L : List Entry → Type 0 = λ es. ListsCandidates start moves es candidates in
    kept_told recoverer candidates start past written entry w none (subst L (sym next) lists)

-- No pair explains it, and none waits.
none_listed : (cs : List Candidate) (c : Candidate) → cs ≡ [] → ¬ Contains cs c
none_listed cs c e k = let at : Contains [] c = subst (λ (xs : List Candidate). Contains xs c) e k in let low : at.0 < 0 = at.1 in let n : ⊥ = omega arith in n

pub none_only : (now : Parts) (cs : List Candidate) (seen : List ℕ) → cs ≡ [] → (one : Confirmed) → ¬ IsOnlyOne now cs seen one
none_only now cs seen e one only = none_listed cs one.candidate e only.listed

none_kept : (p : Parts) (seen : List ℕ) (cs : List Candidate) → cs ≡ [] → AreKept p seen cs cs
none_kept p seen cs e = record {
  sound = λ c k. absurd (none_listed cs c e k);
  whole = λ b k low. absurd (none_listed cs b e k);
}

pub none_long : (cs : List Candidate) → length cs ≡ 0 → cs ≡ []
none_long [] e = refl
none_long (c ∷ cs) e = absurd (let n : ⊥ = omega arith in n)

pub idle_told :
    (recoverer : RecovererState) (start : Parts) (past written : List Entry) (entry : Entry)
    → Valid start
    → IsWaiting recoverer start past written entry
    → recoverer.candidates ≡ []
    → HidesNone recoverer.settler
    → HasTold recoverer start past written entry (Shown Waits)
idle_told recoverer start past written entry v w empty hides =
    let plies = recoverer.settler.score.plies in
    let p : Parts = reached start (moves_of plies) in
    let played : Played start (moves_of plies) = folds_played start (deduplicated written) recoverer.settler.score w.folded in
    let start_is : recoverer.settler.start ≡ start = (w.settles).start_is in
    let P : Parts → Type 0 = λ (q : Parts). Played q (moves_of plies) in
    let S : Parts → Type 0 = λ (q : Parts). SeenAs q (moves_of plies) entry.picture Waits in
    let A : Parts → Type 0 = λ (q : Parts). AreAllAdded q plies entry.picture entry.reading recoverer.candidates recoverer.candidates in
    let all : AreAllAdded start plies entry.picture entry.reading recoverer.candidates recoverer.candidates =
    subst A start_is (hides entry.picture entry.reading recoverer.candidates (w.settles).last (subst P (sym start_is) played) (subst S (sym start_is) w.waits)) in
    let none : (one : Confirmed) → ¬ IsOnlyOne (reached start (moves_of recoverer.settler.score.plies)) recoverer.candidates entry.picture one = λ one only. none_listed recoverer.candidates one.candidate empty only.listed in
    let d = bytes_eq-Decides entry.picture (picture p) in
    elim (cases_Bool (bytes_eq entry.picture (picture p))) [
      | inl own ↦ own_told recoverer recoverer.candidates start past written entry w none (d.0 own) empty
      | inr other ↦
          other_told recoverer recoverer.candidates start past written entry w none (λ e. both_ways _ other (d.1 e))
          (lists_next start plies w.waiting entry recoverer.candidates recoverer.candidates all.one recoverer.candidates
          v played w.waits w.candidates (none_kept p entry.picture recoverer.candidates empty) all.next all.more all.none)
    ]

-- The last picture with another code on a square.
pub changed_step :
    (old new : SettlerState) (start : Parts) (before : Entry) (past written : List Entry) (seen : List ℕ) (square code : ℕ) (reading : Option Reading) (a : Seen)
    → HasSettled old start written
    → last_picture written ≡ last_picture (before ∷ past)
    → seen ≡ slice_set before.picture square code
    → ((w : Entry) (ws : List Entry) → HasSettled old start (w ∷ ws)
    → HasSettled new start (changed w square code reading ∷ w ∷ ws) × ReturnsSeen start (w ∷ ws) (slice_set w.picture square code) a)
    → HasSettled new start (entry_of seen reading ∷ written) × ReturnsSeen start written seen a
changed_step old new start before past [] seen square code reading a st last shown k = absurd (let n : ⊥ = cc in n)
changed_step old new start before past (w ∷ ws) seen square code reading a st last shown k =
    let same : w.picture ≡ before.picture = cc in
    let at : slice_set w.picture square code ≡ seen = ap (λ xs. slice_set xs square code) same ∙ sym shown in
    let both = k w ws st in (
      subst (λ (xs : List ℕ). HasSettled new start (entry_of xs reading ∷ w ∷ ws)) at both.0,
      subst (λ (xs : List ℕ). ReturnsSeen start (w ∷ ws) xs a) at both.1,
    )

-- The pictures that are put in are new.
pub valid_root : (corrects : Bool) (start : Parts) (moves : List Move) → Valid start → Played start moves → Valid (reached start (root corrects moves))
valid_root false start moves v h = valid_reached start moves v h
valid_root true start [] v h = v
valid_root true start (last ∷ earlier) v h = valid_reached start earlier v h.1

middle_new :
    (corrects : Bool) (start : Parts) (moves : List Move) (seen : List ℕ) (m : Move)
    → Valid start
    → Played start moves
    → SeenAs start moves seen Waits
    → Legal (reached start (root corrects moves)) m
    → (corrects ≡ true → IsInstead moves m)
    → picture (after (reached start (root corrects moves)) m) ≢ seen
middle_new false start moves seen m v h waits l instead e =
    let own = settles_own (reached start moves) m (valid_reached start moves v h) l in
    waits.0 m (record { legal = l; shows = sym e; alone = λ k a b. own.alone k a (e ∙ b) })
middle_new true start [] seen m v h waits l instead e = absurd (instead refl)
middle_new true start (last ∷ earlier) seen m v h waits l instead e =
    let own = settles_own (reached start earlier) m (valid_reached start earlier v h.1) l in
    waits.2 m (record { legal = l; shows = sym e; alone = λ k a b. own.alone k a (e ∙ b) }, instead refl)

goes_elsewhere : (now p : Parts) (seen : List ℕ) (a : Seen) → Valid p → GoesOn now p seen a → seen ≢ picture p
goes_elsewhere now p seen (Moved m) v h e = picture_moves p m v (h.0).legal (sym (h.0).shows ∙ e)
goes_elsewhere now p seen (Sign outcome) v h e = no_sign_valid p seen v e p outcome h.0
goes_elsewhere now p seen (Replaced m) v h e = h
goes_elsewhere now p seen Waits v h e = h
goes_elsewhere now p seen Same v h e = h

-- The pair is told, and its pictures were put in.
pub put_in_told :
    (recoverer new : RecovererState) (start : Parts) (past written : List Entry) (entry : Entry) (one : Confirmed)
    → Valid start
    → IsWaiting recoverer start past written entry
    → IsOnlyOne (reached start (moves_of recoverer.settler.score.plies)) recoverer.candidates entry.picture one
    → HasSettled new.settler start
    (entry
    ∷ entry_of (picture one.candidate.after) one.candidate.reading
    ∷ entry_of (picture one.candidate.middle) one.candidate.reading
    ∷ entry ∷ written)
    → new.candidates ≡ []
    → HasTold new start past written entry (Recovered (recovery_of one))
put_in_told recoverer new start past written entry one v w only st none =
    let r : Recovery = recovery_of one in
    let before : Score = recoverer.settler.score in
    let moves = moves_of before.plies in
    let conf : Confirms start moves w.waiting entry.picture r = one_confirmed start moves w.waiting recoverer.candidates entry.picture one w.candidates only in
    let e : Explains start moves (conf.entry).picture r.pair = (conf.explains).explains in
    let played : Played start moves = folds_played start (deduplicated written) before w.folded in
    let p : Parts = begins start moves r.pair in
    let u : Valid p = valid_root r.pair.corrects start moves v played in
    let um : Valid (after p r.pair.first) = moves_stay_valid p r.pair.first u (e.after_two).first in
    let ue : Valid (ends start moves r.pair) = moves_stay_valid (after p r.pair.first) r.pair.second um (e.after_two).second in
    let first : Entry = entry_of (picture r.middle) r.reading in
    let second : Entry = entry_of (picture r.after) r.reading in
    let one_differs : picture r.middle ≢ entry.picture = λ q.
    middle_new r.pair.corrects start moves entry.picture r.pair.first v played w.waits (e.after_two).first e.instead (ap picture (sym conf.middle_is) ∙ q) in
    let two_differs : picture r.after ≢ picture r.middle = λ q.
    picture_moves (after p r.pair.first) r.pair.second um (e.after_two).second (ap picture (sym conf.after_is) ∙ q ∙ ap picture conf.middle_is) in
    let three_differs : entry.picture ≢ picture r.after = λ q.
    goes_elsewhere (reached start moves) (ends start moves r.pair) entry.picture r.sequel ue conf.goes_on (q ∙ ap picture conf.after_is) in
    let d0 = with_new entry written w.same in
    let d1 : deduplicated (first ∷ entry ∷ written) ≡ first ∷ entry ∷ deduplicated written =
    with_new first (entry ∷ written) (differ_false _ _ one_differs) ∙ ap (λ es. first ∷ es) d0 in
    let d2 : deduplicated (second ∷ first ∷ entry ∷ written) ≡ second ∷ first ∷ entry ∷ deduplicated written =
    with_new second (first ∷ entry ∷ written) (differ_false _ _ two_differs) ∙ ap (λ es. second ∷ es) d1 in
    let d3 : deduplicated (entry ∷ second ∷ first ∷ entry ∷ written) ≡ entry ∷ second ∷ first ∷ entry ∷ deduplicated written =
    with_new entry (second ∷ first ∷ entry ∷ written) (differ_false _ _ three_differs) ∙ ap (λ es. entry ∷ es) d2 in
    let F : List Entry → Type 0 = λ es. Folds start es before in
    let N : List Entry → Type 0 = λ es. Folds start es new.settler.score in
    let folds : Folds start (entry ∷ deduplicated written) before = subst F d0 (w.settles).folds in
    let put = put_in_folds start (entry ∷ deduplicated written) before w.waiting entry.picture entry.reading r v folds conf in
    let score : new.settler.score ≡ score_told start before entry.reading (Recovered r) =
    folds_once start (entry ∷ second ∷ first ∷ entry ∷ deduplicated written) new.settler.score (score_told start before entry.reading (Recovered r)) v (subst N d3 st.folds) put in
    let tells : TellsAs start moves w.waiting entry.picture (Recovered r) = (w.waits, conf) in
    let R : List Entry → Type 0 = λ es. FoldsRecovering start es new.settler.score [] in
    let C : List Candidate → Type 0 = λ cs. ListsCandidates start (moves_of new.settler.score.plies) [] cs in
    record {
      stands = record {
        settles = st;
        last = refl;
        waiting = [];
        folds = subst R (sym (with_new entry past w.new)) (before, w.waiting, Recovered r, w.folds, tells, score, refl);
        candidates = subst C (sym none) (no_candidates start (moves_of new.settler.score.plies));
      };
      answer = (w.new, (before, w.waiting, w.folds, tells));
    }

pub map_heard : {E : Type 0} (P Q : SeenOrRecovered → Type 0) (r : Result SeenOrFound E) (found : Option Recovery) → ((told : SeenOrRecovered) → P told → Q told)
    → IfOk r (λ heard. HoldsOf P heard found) → IfOk r (λ heard. HoldsOf Q heard found)
map_heard P Q (Ok (SeenOrFound.Shown a)) found f h = f (Shown a) h
map_heard P Q (Ok SeenOrFound.Recovered) (Some r) f h = f (Recovered r) h
map_heard P Q (Ok SeenOrFound.Recovered) None f h = h
map_heard P Q (Err e) found f h = tt
