-- An entry with the picture after two unseen plies leaves the score as it was; after three it adds nothing.
use Rattle.std.proofs.Common.{◌≡◌, ◌⊎◌, ℕ, List, [], ◌∷◌, drop, inl, inr, refl, sym, ap, subst, ◌∙◌}
use Rattle.chess_rules.specs.declared.chess_move.Move.{Move}
use Rattle.chess_rules.specs.declared.parts.Parts.{Parts}
use Rattle.settle_core.specs.declared.plies.Outcome.{Outcome}
use Rattle.settle_core.specs.declared.plies.Ply.{Ply}
use Rattle.settle_core.specs.declared.plies.Seen.{Seen}
use Rattle.settle_core.specs.declared.plies.Seen.TheVariants.{Moved, Replaced, Same, Sign, Waits}
use Rattle.settle_core.specs.Entries.{Entry}
use Rattle.settle_core.specs.Settling.{Played, Settles, reached}
use Rattle.settle_core.specs.Sign.{IsSign}
use Rattle.settle_core.specs.Folding.{Replaces, Score, SeenAs, moves_of, score_after, time_of}
use Rattle.settle_core.specs.Laws.{HasAnotherLastPly, ThreeUnseenAddNothing, TwoUnseenChangeNothing}
use Rattle.settle_core.proofs.Once.{folds_once, folds_played, shows_once}
use Rattle.settle_core.proofs.Stages.{valid_reached, shows_at}
use Rattle.settle_core.proofs.Unseen.{three_settle_nothing, two_unseen_wait}

pub two_unseen_change_nothing : TwoUnseenChangeNothing
two_unseen_change_nothing start past entry before score m reply v g lm ln e h =
    let same : h.0 ≡ before = folds_once start past h.0 before v h.2 g in
    let played : Played start (moves_of before.plies) = folds_played start past before g in
    let W : List ℕ → Type 0 = λ xs. SeenAs start (moves_of before.plies) xs Waits in
    let waits : SeenAs start (moves_of before.plies) entry.picture Waits =
    subst W (sym e) (two_unseen_wait start (moves_of before.plies) m reply v played lm ln) in
    let is : h.1 ≡ Waits =
    shows_once start (moves_of before.plies) entry.picture h.1 Waits (valid_reached start (moves_of before.plies) v played)
    (shows_at start h.0 before entry.picture h.1 same h.3) waits in
    h.4 ∙ ap (λ (x : Seen). score_after start h.0 entry.reading x) is ∙ same

-- where the last move is replaced there is one
last_of : (start : Parts) (plies : List Ply) (seen : List ℕ) (m : Move) → Replaces start (moves_of plies) seen m → (old : Ply) × (earlier : List Ply) × (plies ≡ old ∷ earlier)
last_of start [] seen m h = absurd h
last_of start (ply ∷ plies) seen m h = (ply, plies, refl)

-- what an entry adds that settles no move, and no sign
adds_nothing :
    (start : Parts) (entry : Entry) (before score : Score) (seen : Seen)
    → ((n : Move) → ¬ Settles (reached start (moves_of before.plies)) entry.picture n)
    → ((outcome : Outcome) → ¬ IsSign (reached start (moves_of before.plies)) entry.picture outcome)
    → SeenAs start (moves_of before.plies) entry.picture seen
    → score ≡ score_after start before entry.reading seen
    → (score ≡ before) ⊎ HasAnotherLastPly before score
adds_nothing start entry before score (Moved n) moves signs h e = absurd (moves n h)
adds_nothing start entry before score (Sign outcome) moves signs h e = absurd (signs outcome h)
adds_nothing start entry before score (Replaced n) moves signs h e =
    let last = last_of start before.plies entry.picture n h.2 in
    let ply : Ply = record { mv = n; clock = time_of (reached start (moves_of (drop 1 before.plies))).side entry.reading } in
    inr (record {
      old = last.0;
      new = ply;
      earlier = last.1;
      was = last.2;
      is = ap (λ (s : Score). s.plies) e ∙ ap (λ (ps : List Ply). ply ∷ drop 1 ps) last.2;
      no_sign = ap (λ (s : Score). s.sign) e;
    })
adds_nothing start entry before score Waits moves signs h e = inl e
adds_nothing start entry before score Same moves signs h e = absurd h

pub three_unseen_add_nothing : ThreeUnseenAddNothing
three_unseen_add_nothing start past entry before score m reply next v g lm ln lx e h =
    let same : h.0 ≡ before = folds_once start past h.0 before v h.2 g in
    let played : Played start (moves_of before.plies) = folds_played start past before g in
    let none = three_settle_nothing (reached start (moves_of before.plies)) m reply next (valid_reached start (moves_of before.plies) v played) lm ln lx in
    let M : List ℕ → Type 0 = λ xs. (n : Move) → ¬ Settles (reached start (moves_of before.plies)) xs n in
    let S : List ℕ → Type 0 = λ xs. (outcome : Outcome) → ¬ IsSign (reached start (moves_of before.plies)) xs outcome in
    adds_nothing start entry before score h.1 (subst M (sym e) none.0) (subst S (sym e) (λ outcome. none.1 (reached start (moves_of before.plies)) outcome))
    (shows_at start h.0 before entry.picture h.1 same h.3) (h.4 ∙ ap (λ (s : Score). score_after start s entry.reading h.1) same)
