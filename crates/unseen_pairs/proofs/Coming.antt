-- Where the plies come from.
use Rattle.std.proofs.Common.{◌≡◌, Bool, true, false, inl, inr, List, [], ◌∷◌, refl, sym, ap, subst}
use Rattle.chess_rules.specs.declared.chess_move.Move.{Move}
use Rattle.chess_rules.specs.declared.parts.Parts.{Parts}
use Rattle.chess_rules.specs.After.{after}
use Rattle.settle_core.specs.declared.plies.Ply.{Ply}
use Rattle.settle_core.specs.declared.plies.Seen.{Seen}
use Rattle.settle_core.specs.declared.plies.Seen.TheVariants.{Same, Moved, Sign, Replaced, Waits}
use Rattle.settle_core.specs.Entries.{Entry}
use Rattle.settle_core.specs.Settling.{reached}
use Rattle.settle_core.specs.Folding.{Replaces, Score, moves_of, score_after}
use Rattle.unseen_pairs.specs.declared.pair.SeenOrRecovered.{SeenOrRecovered}
use Rattle.unseen_pairs.specs.declared.pair.SeenOrRecovered.TheVariants.{Shown, Recovered}
use Rattle.unseen_pairs.specs.Pairs.{GoesOn, root}
use Rattle.unseen_pairs.specs.Recovering.{FoldsRecovering, TellsAs, recovered, score_told}
use Rattle.unseen_pairs.specs.Laws.{AllComeFrom, PliesAreShownOrRecovered, WasRecovered, WasShown}
use Rattle.unseen_pairs.proofs.Putting.{roots}

still_shown : (start : Parts) (ply : Ply) (earlier : List Ply) (entry : Entry) (past : List Entry) → WasShown start ply earlier past → WasShown start ply earlier (entry ∷ past)
still_shown start ply earlier entry past h = record {
  later = entry ∷ h.later;
  entry = h.entry;
  before = h.before;
  among = ap (λ (es : List Entry). entry ∷ es) h.among;
  shows = h.shows;
  clock_is = h.clock_is;
}

still_recovered : (start : Parts) (ply : Ply) (earlier : List Ply) (entry : Entry) (past : List Entry) → WasRecovered start ply earlier past → WasRecovered start ply earlier (entry ∷ past)
still_recovered start ply earlier entry past h = record {
  later = entry ∷ h.later;
  entry = h.entry;
  before = h.before;
  among = ap (λ (es : List Entry). entry ∷ es) h.among;
  score = h.score;
  waiting = h.waiting;
  folds = h.folds;
  r = h.r;
  tells = h.tells;
  one = h.one;
  clock_is = h.clock_is;
}

-- plies come from where they came when more is seen
still_come : (start : Parts) (plies : List Ply) (entry : Entry) (past : List Entry) → AllComeFrom start plies past → AllComeFrom start plies (entry ∷ past)
still_come start [] entry past h = tt
still_come start (ply ∷ earlier) entry past h = (
  elim h.0 [
    | inl s ↦ inl (still_shown start ply earlier entry past s)
    | inr r ↦ inr (still_recovered start ply earlier entry past r)
  ],
  still_come start earlier entry past h.1,
)

roots_come : (start : Parts) (corrects : Bool) (plies : List Ply) (past : List Entry) → AllComeFrom start plies past → AllComeFrom start (root corrects plies) past
roots_come start false plies past h = h
roots_come start true [] past h = tt
roots_come start true (last ∷ earlier) past h = h.1

replaced_come :
    (start : Parts) (plies : List Ply) (entry : Entry) (past : List Entry) (score : Score) (m : Move)
    → score.plies ≡ plies
    → Replaces start (moves_of plies) entry.picture m
    → AllComeFrom start plies past
    → AllComeFrom start (score_after start (record score { plies = plies }) entry.reading (Replaced m)).plies (entry ∷ past)
replaced_come start [] entry past score m e r h = absurd r
replaced_come start (last ∷ earlier) entry past score m e r h = (
  inl (record { later = []; entry = entry; before = past; among = refl; shows = (r.0).shows; clock_is = refl }),
  still_come start earlier entry past h.1,
)

sequel_come :
    (now start : Parts) (score : Score) (a : Seen) (entry : Entry) (past : List Entry)
    → GoesOn now (reached start (moves_of score.plies)) entry.picture a
    → AllComeFrom start score.plies (entry ∷ past)
    → AllComeFrom start (score_after start score entry.reading a).plies (entry ∷ past)
sequel_come now start score (Moved m) entry past g h =
    (inl (record { later = []; entry = entry; before = past; among = refl; shows = (g.0).shows; clock_is = refl }), h)
sequel_come now start score (Sign outcome) entry past g h = h
sequel_come now start score (Replaced m) entry past g h = absurd g
sequel_come now start score Waits entry past g h = absurd g
sequel_come now start score Same entry past g h = absurd g

told_come :
    (start : Parts) (entry : Entry) (past : List Entry) (before : Score) (waited : List Entry) (told : SeenOrRecovered)
    → FoldsRecovering start past before waited
    → TellsAs start (moves_of before.plies) waited entry.picture told
    → AllComeFrom start before.plies past
    → AllComeFrom start (score_told start before entry.reading told).plies (entry ∷ past)
told_come start entry past before waited (Shown Same) f t h = absurd t.0
told_come start entry past before waited (Shown Waits) f t h = still_come start before.plies entry past h
told_come start entry past before waited (Shown (Sign outcome)) f t h = still_come start before.plies entry past h
told_come start entry past before waited (Shown (Moved m)) f t h = (
  inl (record { later = []; entry = entry; before = past; among = refl; shows = (t.0).shows; clock_is = refl }),
  still_come start before.plies entry past h,
)
told_come start entry past before waited (Shown (Replaced m)) f t h = replaced_come start before.plies entry past before m refl (t.0).2 h
told_come start entry past before waited (Recovered r) f t h =
    let base : List Ply = root r.pair.corrects before.plies in
    let same : root r.pair.corrects (moves_of before.plies) ≡ moves_of base = roots r.pair.corrects before.plies in
    let s : Score = recovered start before r.reading r.pair in
    let older : AllComeFrom start base (entry ∷ past) = still_come start base entry past (roots_come start r.pair.corrects before.plies past h) in
    let two : AllComeFrom start s.plies (entry ∷ past) = (
      inr (record {
        later = [];
        entry = entry;
        before = past;
        among = refl;
        score = before;
        waiting = waited;
        folds = f;
        r = r;
        tells = t;
        one = inr (refl, ap (λ (ms : List Move). r.pair.first ∷ ms) (sym same));
        clock_is = refl;
      }),
      (
        inr (record {
          later = [];
          entry = entry;
          before = past;
          among = refl;
          score = before;
          waiting = waited;
          folds = f;
          r = r;
          tells = t;
          one = inl (refl, sym same);
          clock_is = refl;
        }),
        older,
      ),
    ) in
    let G : List Move → Type 0 = λ ms. GoesOn (reached start (moves_of before.plies)) (after (after (reached start ms) r.pair.first) r.pair.second) entry.picture r.sequel in
    sequel_come (reached start (moves_of before.plies)) start s r.sequel entry past (subst G same (t.1).goes_on) two

pub nothing_is_invented : PliesAreShownOrRecovered
nothing_is_invented start [] score waiting h = let P : Score → Type 0 = λ s. AllComeFrom start s.plies [] in subst P (sym h.0) tt
nothing_is_invented start (entry ∷ past) score waiting h =
    let P : Score → Type 0 = λ s. AllComeFrom start s.plies (entry ∷ past) in
    subst P (sym h.5) (told_come start entry past h.0 h.1 h.2 h.3 h.4 (nothing_is_invented start past h.0 h.1 h.3))
