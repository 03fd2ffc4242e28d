-- A list of entries folds to one score at most.
use Rattle.std.proofs.Common.{◌≡◌, ℕ, ◌≤◌, ◌+◌, inl, inr, List, [], ◌∷◌, drop, length, arith, refl, sym, ap, subst, ◌∙◌}
use Rattle.chess_rules.specs.declared.chess_move.Move.{Move}
use Rattle.chess_rules.specs.declared.parts.Parts.{Parts}
use Rattle.chess_rules.specs.After.{after}
use Rattle.chess_rules.specs.Valid.{Valid}
use Rattle.settle_core.specs.declared.plies.Outcome.{Outcome}
use Rattle.settle_core.specs.declared.plies.Outcome.TheVariants.{WhiteWins, BlackWins, Drawn}
use Rattle.settle_core.specs.declared.plies.Ply.{Ply}
use Rattle.settle_core.specs.declared.plies.Seen.{Seen}
use Rattle.settle_core.specs.declared.plies.Seen.TheVariants.{Same, Moved, Sign, Replaced, Waits}
use Rattle.settle_core.specs.Entries.{Entry}
use Rattle.settle_core.specs.Settling.{Settles, reached, Played}
use Rattle.settle_core.specs.Sign.{IsSign, IsLight, IsDark, Means}
use Rattle.settle_core.specs.Folding.{Score, Folds, Replaces, SeenAs, moves_of, score_after}
use Rattle.settle_core.specs.Laws.{FoldsOnce, NoEntryGivesTwo, SignsSettleNothing}
use Rattle.settle_core.proofs.Apart.{no_sign_valid}
use Rattle.settle_core.proofs.Growing.{one_more}
use Rattle.settle_core.proofs.Stages.{valid_reached, no_replace}
use Rattle.settle_core.proofs.Pieces.{no_new_after}

light_dark : (s : ℕ) → IsLight s → IsDark s → ⊥
light_dark s (inl a) (inl b) = omega arith
light_dark s (inl a) (inr b) = omega arith
light_dark s (inr a) (inl b) = omega arith
light_dark s (inr a) (inr b) = omega arith

-- kings on two squares mean one thing
means_once : (white black : ℕ) (a b : Outcome) → Means white black a → Means white black b → a ≡ b
means_once white black WhiteWins WhiteWins g h = refl
means_once white black BlackWins BlackWins g h = refl
means_once white black Drawn Drawn g h = refl
means_once white black WhiteWins BlackWins g h = absurd (light_dark white g.0 h.0)
means_once white black BlackWins WhiteWins g h = absurd (light_dark white h.0 g.0)
means_once white black WhiteWins Drawn g (inl h) = absurd (light_dark black g.1 h.1)
means_once white black WhiteWins Drawn g (inr h) = absurd (light_dark white g.0 h.0)
means_once white black Drawn WhiteWins (inl g) h = absurd (light_dark black h.1 g.1)
means_once white black Drawn WhiteWins (inr g) h = absurd (light_dark white h.0 g.0)
means_once white black BlackWins Drawn g (inl h) = absurd (light_dark white h.0 g.0)
means_once white black BlackWins Drawn g (inr h) = absurd (light_dark black h.1 g.1)
means_once white black Drawn BlackWins (inl g) h = absurd (light_dark white g.0 h.0)
means_once white black Drawn BlackWins (inr g) h = absurd (light_dark black g.1 h.1)

pub sign_once : (p : Parts) (seen : List ℕ) (a b : Outcome) → IsSign p seen a → IsSign p seen b → a ≡ b
sign_once p seen a b g h =
    let white : h.white_king ≡ g.white_king = g.white.once h.white_king h.white.centre h.white.stands in
    let black : h.black_king ≡ g.black_king = g.black.once h.black_king h.black.centre h.black.stands in
    let W : ℕ → Type 0 = λ s. Means s h.black_king b in
    let B : ℕ → Type 0 = λ s. Means g.white_king s b in
    means_once g.white_king g.black_king a b g.means (subst B black (subst W white h.means))

pub settles_once : (p : Parts) (seen : List ℕ) (m n : Move) → Settles p seen m → Settles p seen n → m ≡ n
settles_once p seen m n g h = h.alone m g.legal g.shows

replaces_once : (start : Parts) (moves : List Move) (seen : List ℕ) (m n : Move) → Replaces start moves seen m → Replaces start moves seen n → m ≡ n
replaces_once start [] seen m n g h = absurd g
replaces_once start (last ∷ earlier) seen m n g h = settles_once (reached start earlier) seen m n g.0 h.0

-- a picture that settles a move is no sign
pub signs_settle_nothing : SignsSettleNothing
signs_settle_nothing p over seen m outcome v g = no_sign_valid (after p m) seen (valid_reached p (m ∷ []) v (g.legal, tt)) g.shows over outcome

not_both : (p : Parts) (seen : List ℕ) (m : Move) (outcome : Outcome) → Valid p → Settles p seen m → IsSign p seen outcome → ⊥
not_both p seen m outcome v g h = signs_settle_nothing p p seen m outcome v g h

pub replies_replace_nothing :
    (start : Parts) (moves : List Move) (seen : List ℕ) (reply m : Move)
    → Valid start → Played start moves → Settles (reached start moves) seen reply → ¬ Replaces start moves seen m
replies_replace_nothing start moves seen reply m v played h =
    no_replace start moves m seen v played (no_new_after (reached start moves) reply seen (valid_reached start moves v played) h.legal h.shows)

pub shows_once :
    (start : Parts) (moves : List Move) (seen : List ℕ) (a b : Seen)
    → Valid (reached start moves)
    → SeenAs start moves seen a
    → SeenAs start moves seen b
    → a ≡ b
shows_once start moves seen Same b v g h = absurd g
shows_once start moves seen (Moved m) Same v g h = absurd h
shows_once start moves seen (Sign o) Same v g h = absurd h
shows_once start moves seen (Replaced m) Same v g h = absurd h
shows_once start moves seen Waits Same v g h = absurd h
shows_once start moves seen (Moved m) (Moved n) v g h = ap (λ (x : Move). Moved x) (settles_once (reached start moves) seen m n g h)
shows_once start moves seen (Sign o) (Sign q) v g h = ap (λ (x : Outcome). Sign x) (sign_once (reached start moves) seen o q g h)
shows_once start moves seen (Replaced m) (Replaced n) v g h = ap (λ (x : Move). Replaced x) (replaces_once start moves seen m n g.2 h.2)
shows_once start moves seen Waits Waits v g h = refl
shows_once start moves seen (Moved m) (Sign o) v g h = absurd (not_both (reached start moves) seen m o v g h)
shows_once start moves seen (Sign o) (Moved m) v g h = absurd (not_both (reached start moves) seen m o v h g)
shows_once start moves seen (Moved m) (Replaced n) v g h = absurd (h.0 m g)
shows_once start moves seen (Replaced n) (Moved m) v g h = absurd (g.0 m h)
shows_once start moves seen (Moved m) Waits v g h = absurd (h.0 m g)
shows_once start moves seen Waits (Moved m) v g h = absurd (g.0 m h)
shows_once start moves seen (Sign o) (Replaced n) v g h = absurd (h.1 o g)
shows_once start moves seen (Replaced n) (Sign o) v g h = absurd (g.1 o h)
shows_once start moves seen (Sign o) Waits v g h = absurd (h.1 o g)
shows_once start moves seen Waits (Sign o) v g h = absurd (g.1 o h)
shows_once start moves seen (Replaced n) Waits v g h = absurd (h.2 n g.2)
shows_once start moves seen Waits (Replaced n) v g h = absurd (g.2 n h.2)

replaced_played :
    (start : Parts) (plies : List Ply) (seen : List ℕ) (m : Move)
    → Replaces start (moves_of plies) seen m → Played start (moves_of plies) → Played start (m ∷ moves_of (drop 1 plies))
replaced_played start [] seen m r p = absurd r
replaced_played start (last ∷ earlier) seen m r p = ((r.0).legal, p.1)

shown_played :
    (start : Parts) (score : Score) (entry : Entry) (seen : Seen)
    → SeenAs start (moves_of score.plies) entry.picture seen
    → Played start (moves_of score.plies)
    → Played start (moves_of (score_after start score entry.reading seen).plies)
shown_played start score entry Same h p = absurd h
shown_played start score entry Waits h p = p
shown_played start score entry (Sign o) h p = p
shown_played start score entry (Moved m) h p = (h.legal, p)
shown_played start score entry (Replaced m) h p = replaced_played start score.plies entry.picture m h.2 p

-- each move of a score is legal where it stands
pub folds_played : (start : Parts) (past : List Entry) (score : Score) → Folds start past score → Played start (moves_of score.plies)
folds_played start [] score h = let P : Score → Type 0 = λ s. Played start (moves_of s.plies) in subst P (sym h) tt
folds_played start (entry ∷ past) score h =
    let P : Score → Type 0 = λ s. Played start (moves_of s.plies) in
    subst P (sym h.4) (shown_played start h.0 entry h.1 h.3 (folds_played start past h.0 h.2))

pub folds_once : FoldsOnce
folds_once start [] a b v g h = g ∙ sym h
folds_once start (entry ∷ past) a b v g h =
    let before : g.0 ≡ h.0 = folds_once start past g.0 h.0 v g.2 h.2 in
    let S : Score → Type 0 = λ s. SeenAs start (moves_of s.plies) entry.picture g.1 in
    let valid : Valid (reached start (moves_of (h.0).plies)) = valid_reached start (moves_of (h.0).plies) v (folds_played start past h.0 h.2) in
    let seen : g.1 ≡ h.1 = shows_once start (moves_of (h.0).plies) entry.picture g.1 h.1 valid (subst S before g.3) h.3 in
    g.4 ∙ ap (λ (s : Score). score_after start s entry.reading g.1) before ∙ ap (λ (x : Seen). score_after start h.0 entry.reading x) seen ∙ sym h.4

pub no_entry_gives_two : NoEntryGivesTwo
no_entry_gives_two start entry past before score v g h =
    let same : h.0 ≡ before = folds_once start past h.0 before v h.2 g in
    let P : Score → Type 0 = λ s. length score.plies ≤ length s.plies + 1 in
    subst P same (one_more start entry past h.0 score h.1 h.4)
