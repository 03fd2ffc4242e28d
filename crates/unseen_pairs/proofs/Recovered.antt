-- What entries give where unseen pairs are recovered, beside what they fold to without.
use Rattle.std.proofs.Common.{◌≡◌, ℕ, inl, inr, List, [], ◌∷◌, Option, slice_get, reverse, refl, sym, ap, subst, ◌∙◌, arith}
use Rattle.std.proofs.lemmas.Bool.{cases_lt}
use Rattle.std.proofs.lemmas.List.{reverse-reverse}
use Rattle.std.proofs.lemmas.Option.{same_Some}
use Rattle.chess_rules.specs.declared.chess_move.Move.{Move}
use Rattle.chess_rules.specs.declared.parts.Parts.{Parts}
use Rattle.chess_rules.specs.After.{after}
use Rattle.chess_rules.specs.Valid.{Valid}
use Rattle.chess_rules.proofs.LawLemmas.{moves_stay_valid}
use Rattle.chess_clock.specs.declared.times.Reading.{Reading}
use Rattle.settle_core.specs.declared.plies.Ply.{Ply}
use Rattle.settle_core.specs.declared.plies.Seen.{Seen}
use Rattle.settle_core.specs.declared.plies.Seen.TheVariants.{Waits}
use Rattle.settle_core.specs.Entries.{Entry}
use Rattle.settle_core.specs.Settling.{Played, reached}
use Rattle.settle_core.specs.Folding.{Folds, Score, SeenAs, moves_of}
use Rattle.settle_core.proofs.Lists.{line_played}
use Rattle.settle_core.proofs.Once.{folds_played, shows_once}
use Rattle.settle_core.proofs.Stages.{valid_reached}
use Rattle.unseen_pairs.specs.declared.pair.Pair.{Pair}
use Rattle.unseen_pairs.specs.declared.pair.Recovery.{Recovery}
use Rattle.unseen_pairs.specs.declared.pair.SeenOrRecovered.{SeenOrRecovered}
use Rattle.unseen_pairs.specs.declared.pair.SeenOrRecovered.TheVariants.{Shown, Recovered}
use Rattle.unseen_pairs.specs.Pairs.{Confirms, ExplainsAt, GoesOn, begins, ends}
use Rattle.unseen_pairs.specs.Recovering.{FoldsRecovering, TellsAs, score_told, waiting_after}
use Rattle.unseen_pairs.specs.Recoverer.{written_after}
use Rattle.unseen_pairs.specs.Laws.{ConfirmNone, IsWritten, NothingConfirmed, NothingPutIn, PliesAreLegal, RecoversOnce, Writes, WritesOnce, WrittenFolds}
use Rattle.unseen_pairs.proofs.Putting.{goes_seen, put_in_folds}
use Rattle.unseen_pairs.proofs.Telling.{valid_root}

-- where no pair is told
shown_folds :
    (start : Parts) (entry : Entry) (past : List Entry) (before score : Score) (waited : List Entry) (told : SeenOrRecovered)
    → ((r : Recovery) → ¬ TellsAs start (moves_of before.plies) waited entry.picture (Recovered r))
    → TellsAs start (moves_of before.plies) waited entry.picture told
    → Folds start past before
    → score ≡ score_told start before entry.reading told
    → Folds start (entry ∷ past) score
shown_folds start entry past before score waited (Shown a) none t f is = (before, a, f, t.0, is)
shown_folds start entry past before score waited (Recovered r) none t f is = absurd (none r t)

recovers_none :
    (start : Parts) (past : List Entry) (score : Score) (waiting : List Entry)
    → ConfirmNone start past → FoldsRecovering start past score waiting → Folds start past score
recovers_none start [] score waiting none h = h.0
recovers_none start (entry ∷ past) score waiting none h =
    shown_folds start entry past h.0 score h.1 h.2 (λ r. none.1 h.0 h.1 r h.3) h.4 (recovers_none start past h.0 h.1 none.0 h.3) h.5

folds_none :
    (start : Parts) (past : List Entry) (score : Score)
    → ConfirmNone start past → Folds start past score → (waiting : List Entry) × FoldsRecovering start past score waiting
folds_none start [] score none h = ([], (h, refl))
folds_none start (entry ∷ past) score none h =
    let w = folds_none start past h.0 none.0 h.2 in
    let S : Seen → Type 0 = λ a. SeenAs start (moves_of (h.0).plies) entry.picture a in
    let tells : TellsAs start (moves_of (h.0).plies) w.0 entry.picture (Shown h.1) = (h.3, λ e r c. none.1 h.0 w.0 r w.1 (subst S e h.3, c)) in
    (waiting_after start (moves_of (h.0).plies) w.0 entry (Shown h.1), (h.0, w.0, Shown h.1, w.1, tells, h.4, refl))

pub nothing_confirmed : NothingConfirmed
nothing_confirmed start past score none = (folds_none start past score none, λ h. recovers_none start past score h.0 none h.1)

-- the entries with what is put in
writes_recovers :
    (start : Parts) (past written : List Entry) (score : Score) (waiting : List Entry)
    → Writes start past written score waiting → FoldsRecovering start past score waiting
writes_recovers start [] written score waiting h = (h.1, h.2)
writes_recovers start (entry ∷ past) written score waiting h =
    (h.0, h.1, h.2, writes_recovers start past h.3 h.0 h.1 h.4, h.5, h.7, h.8)

recovers_writes :
    (start : Parts) (past : List Entry) (score : Score) (waiting : List Entry)
    → FoldsRecovering start past score waiting → (written : List Entry) × Writes start past written score waiting
recovers_writes start [] score waiting h = ([], (refl, h.0, h.1))
recovers_writes start (entry ∷ past) score waiting h =
    let w = recovers_writes start past h.0 h.1 h.3 in
    (written_after entry h.2 w.0, (h.0, h.1, h.2, w.0, w.1, h.4, refl, h.5, h.6))

pub is_written : IsWritten
is_written start past score waiting =
    (recovers_writes start past score waiting, λ h. writes_recovers start past h.0 score waiting h.1)

given_after :
    (start : Parts) (moves : List Move) (entry : Entry) (waited earlier : List Entry) (told : SeenOrRecovered)
    → ((r : Recovery) → ¬ TellsAs start moves waited entry.picture (Recovered r))
    → TellsAs start moves waited entry.picture told
    → written_after entry told earlier ≡ entry ∷ earlier
given_after start moves entry waited earlier (Shown a) none t = refl
given_after start moves entry waited earlier (Recovered r) none t = absurd (none r t)

pub nothing_put_in : NothingPutIn
nothing_put_in start [] written score waiting none h = h.0
nothing_put_in start (entry ∷ past) written score waiting none h =
    let folds = writes_recovers start past h.3 h.0 h.1 h.4 in
    h.6 ∙ given_after start (moves_of (h.0).plies) entry h.1 h.3 h.2 (λ r. none.1 h.0 h.1 r folds) h.5
    ∙ ap (λ es. entry ∷ es) (nothing_put_in start past h.3 h.0 h.1 none.0 h.4)

told_folds :
    (start : Parts) (entry : Entry) (earlier : List Entry) (before score : Score) (waited : List Entry) (told : SeenOrRecovered)
    → Valid start
    → Folds start earlier before
    → TellsAs start (moves_of before.plies) waited entry.picture told
    → score ≡ score_told start before entry.reading told
    → Folds start (written_after entry told earlier) score
told_folds start entry earlier before score waited (Shown a) v f t is = (before, a, f, t.0, is)
told_folds start entry earlier before score waited (Recovered r) v f t is =
    let F : Score → Type 0 = λ s. Folds start (written_after entry (Recovered r) earlier) s in
    let waits : Folds start (entry ∷ earlier) before = (before, Waits, f, t.0, refl) in
    subst F (sym is) (put_in_folds start (entry ∷ earlier) before waited entry.picture entry.reading r v waits t.1)

pub written_folds : WrittenFolds
written_folds start [] written score waiting v h =
    let F : List Entry → Type 0 = λ es. Folds start es score in
    subst F (sym h.0) h.1
written_folds start (entry ∷ past) written score waiting v h =
    let F : List Entry → Type 0 = λ es. Folds start es score in
    let f = written_folds start past h.3 h.0 h.1 v h.4 in
    subst F (sym h.6) (told_folds start entry h.3 h.0 score h.1 h.2 v f h.5 h.7)

-- each move of such a score is legal where it stands
pub recovering_played :
    (start : Parts) (past : List Entry) (score : Score) (waiting : List Entry)
    → Valid start → FoldsRecovering start past score waiting → Played start (moves_of score.plies)
recovering_played start past score waiting v h =
    let w = recovers_writes start past score waiting h in
    folds_played start w.0 score (written_folds start past w.0 score waiting v w.1)

pub plies_are_legal : PliesAreLegal
plies_are_legal start past score waiting v h =
    let P : List Ply → Type 0 = λ plies. Played start (moves_of plies) in
    line_played start (reverse score.plies) (subst P (sym (reverse-reverse score.plies)) (recovering_played start past score waiting v h))

-- what goes on from a position is one
goes_once : (now p : Parts) (seen : List ℕ) (a b : Seen) → Valid p → GoesOn now p seen a → GoesOn now p seen b → a ≡ b
goes_once now p seen a b v g h = shows_once p [] seen a b v (goes_seen now p [] seen a g) (goes_seen now p [] seen b h)

recovery_is :
    (r s : Recovery) → r.pair ≡ s.pair → r.before ≡ s.before → r.middle ≡ s.middle → r.after ≡ s.after → r.reading ≡ s.reading → r.sequel ≡ s.sequel
    → r ≡ s
recovery_is r s a b c d e f =
    ap (λ (x : Pair). record r { pair = x }) a
    ∙ ap (λ (x : Parts). record r { pair = s.pair; before = x }) b
    ∙ ap (λ (x : Parts). record r { pair = s.pair; before = s.before; middle = x }) c
    ∙ ap (λ (x : Parts). record r { pair = s.pair; before = s.before; middle = s.middle; after = x }) d
    ∙ ap (λ (x : Option Reading). record r { pair = s.pair; before = s.before; middle = s.middle; after = s.after; reading = x }) e
    ∙ ap (λ (x : Seen). record r { pair = s.pair; before = s.before; middle = s.middle; after = s.after; reading = s.reading; sequel = x }) f

-- a picture confirms one pair at most
confirms_once :
    (start : Parts) (moves : List Move) (waiting : List Entry) (seen : List ℕ) (r s : Recovery)
    → Valid start
    → Played start moves
    → Confirms start moves waiting seen r
    → Confirms start moves waiting seen s
    → r ≡ s
confirms_once start moves waiting seen r s v played g h =
    let pair : r.pair ≡ s.pair = sym (g.alone s.pair h.place h.entry s.sequel h.explains h.goes_on) in
    let At : Pair → ℕ → Entry → Type 0 = λ x k e. ExplainsAt start moves waiting x k e in
    let low : g.place ≡ h.place = elim (cases_lt g.place h.place) [
      | inl less ↦ absurd (g.first h.place h.entry less (subst (λ (x : Pair). At x h.place h.entry) (sym pair) h.explains))
      | inr above ↦
          elim (cases_lt h.place g.place) [
            | inl less ↦ absurd (h.first g.place g.entry less (subst (λ (x : Pair). At x g.place g.entry) pair g.explains))
            | inr other ↦ omega arith
          ]
    ] in
    let entry : g.entry ≡ h.entry =
    same_Some g.entry h.entry (sym (g.explains).waits ∙ ap (λ k. slice_get waiting k) low ∙ (h.explains).waits) in
    let two = ((g.explains).explains).after_two in
    let u : Valid (begins start moves r.pair) = valid_root r.pair.corrects start moves v played in
    let um : Valid (after (begins start moves r.pair) r.pair.first) = moves_stay_valid _ r.pair.first u two.first in
    let ue : Valid (ends start moves r.pair) = moves_stay_valid _ r.pair.second um two.second in
    let G : Pair → Type 0 = λ x. GoesOn (reached start moves) (ends start moves x) seen s.sequel in
    recovery_is r s pair
    (g.before_is ∙ ap (λ (x : Pair). begins start moves x) pair ∙ sym h.before_is)
    (g.middle_is ∙ ap (λ (x : Pair). after (begins start moves x) x.first) pair ∙ sym h.middle_is)
    (g.after_is ∙ ap (λ (x : Pair). ends start moves x) pair ∙ sym h.after_is)
    (g.reading_is ∙ ap (λ (x : Entry). x.reading) entry ∙ sym h.reading_is)
    (goes_once (reached start moves) (ends start moves r.pair) seen r.sequel s.sequel ue g.goes_on (subst G (sym pair) h.goes_on))

told_once :
    (start : Parts) (moves : List Move) (waiting : List Entry) (seen : List ℕ) (a b : SeenOrRecovered)
    → Valid start
    → Played start moves
    → TellsAs start moves waiting seen a
    → TellsAs start moves waiting seen b
    → a ≡ b
told_once start moves waiting seen (Shown a) (Shown b) v played g h =
    ap (λ (x : Seen). Shown x) (shows_once start moves seen a b (valid_reached start moves v played) g.0 h.0)
told_once start moves waiting seen (Shown a) (Recovered r) v played g h =
    absurd (g.1 (shows_once start moves seen a Waits (valid_reached start moves v played) g.0 h.0) r h.1)
told_once start moves waiting seen (Recovered r) (Shown b) v played g h =
    absurd (h.1 (shows_once start moves seen b Waits (valid_reached start moves v played) h.0 g.0) r g.1)
told_once start moves waiting seen (Recovered r) (Recovered s) v played g h =
    ap (λ (x : Recovery). Recovered x) (confirms_once start moves waiting seen r s v played g.1 h.1)

pub told_same :
    (start : Parts) (past : List Entry) (entry : Entry) (a b : Score) (v w : List Entry) (t u : SeenOrRecovered)
    → Valid start
    → FoldsRecovering start past b w
    → a ≡ b
    → v ≡ w
    → TellsAs start (moves_of a.plies) v entry.picture t
    → TellsAs start (moves_of b.plies) w entry.picture u
    → t ≡ u
told_same start past entry a b v w t u valid f same waits g h =
    let T : Score → List Entry → Type 0 = λ s ws. TellsAs start (moves_of s.plies) ws entry.picture t in
    told_once start (moves_of b.plies) w entry.picture t u valid (recovering_played start past b w valid f)
    (subst (λ ws. T b ws) waits (subst (λ s. T s v) same g)) h

pub recovers_once : RecoversOnce
recovers_once start [] a b v w valid g h = (g.0 ∙ sym h.0, g.1 ∙ sym h.1)
recovers_once start (entry ∷ past) a b v w valid g h =
    let same = recovers_once start past g.0 h.0 g.1 h.1 valid g.3 h.3 in
    let told : g.2 ≡ h.2 = told_same start past entry g.0 h.0 g.1 h.1 g.2 h.2 valid h.3 same.0 same.1 g.4 h.4 in (
      g.5 ∙ ap (λ (s : Score). score_told start s entry.reading g.2) same.0 ∙ ap (λ (t : SeenOrRecovered). score_told start h.0 entry.reading t) told ∙ sym h.5,
      g.6 ∙ ap (λ (s : Score). waiting_after start (moves_of s.plies) g.1 entry g.2) same.0
          ∙ ap (λ (ws : List Entry). waiting_after start (moves_of (h.0).plies) ws entry g.2) same.1
          ∙ ap (λ (t : SeenOrRecovered). waiting_after start (moves_of (h.0).plies) h.1 entry t) told ∙ sym h.6,
    )

pub writes_once : WritesOnce
writes_once start [] x y a b v w valid g h = g.0 ∙ sym h.0
writes_once start (entry ∷ past) x y a b v w valid g h =
    let f = writes_recovers start past g.3 g.0 g.1 g.4 in
    let k = writes_recovers start past h.3 h.0 h.1 h.4 in
    let same = recovers_once start past g.0 h.0 g.1 h.1 valid f k in
    let told : g.2 ≡ h.2 = told_same start past entry g.0 h.0 g.1 h.1 g.2 h.2 valid k same.0 same.1 g.5 h.5 in
    g.6 ∙ ap (λ (t : SeenOrRecovered). written_after entry t g.3) told
    ∙ ap (λ (es : List Entry). written_after entry h.2 es) (writes_once start past g.3 h.3 g.0 h.0 g.1 h.1 valid g.4 h.4) ∙ sym h.6
