-- What is known of an answer whose line is written.
use Rattle.std.proofs.Common.{◌≡◌, ◌∙◌, ◌+◌, ◌-◌, ◌<◌, ◌≤◌, ℕ, zero, suc, Bool, List, [], ◌∷◌, ◌++◌, Some, None, inl, inr, drop, get_or, length, take, sym, ap, subst, arith}
use Rattle.std.proofs.lemmas.List.{length-take-le, reverse-reverse, take-append-drop}
use Rattle.chess_game.proofs.Plies.{cut_at}
use Rattle.chess_rules.specs.declared.chess_move.Move.{Move}
use Rattle.chess_rules.specs.declared.parts.Parts.{Parts}
use Rattle.chess_rules.specs.After.{after}
use Rattle.chess_rules.specs.Legal.{Legal}
use Rattle.dgt_frame.specs.declared.events.Event.{Event}
use Rattle.settle_core.specs.declared.plies.Ply.{Ply}
use Rattle.settle_core.specs.Entries.{Entry, deduplicated}
use Rattle.settle_core.specs.Folding.{moves_of}
use Rattle.settle_core.specs.Settler.{SettlerState, HasSettled, plies_of}
use Rattle.settle_core.specs.Settling.{Line, Played, position_after}
use Rattle.settle_core.proofs.Lists.{line_played}
use Rattle.settle_core.proofs.Once.{folds_played}
use Rattle.board_events.specs.Session.{entries_in}
use Rattle.board_events.specs.Settings.{Setting}
use Rattle.going_back.specs.declared.answering.Answer.{Answer}
use Rattle.going_back.specs.declared.answering.Answer.TheVariants.{Back, Unnamed, Refused}
use Rattle.going_back.specs.declared.going.BackError.{BackError}
use Rattle.going_back.specs.declared.going.BackError.TheVariants.{Unseen, Ended, Signed, Moved, Board, TooLong, Memory}
use Rattle.going_back.specs.Answers.{IsAnswerOf}
use Rattle.going_back.specs.Back.{Refuses, RefusesThese}
use Rattle.going_back.specs.Inside.Tellable.{IsLegalBehind, IsTellable}
use Rattle.going_back.specs.Naming.{Names, NamesPly}
use Rattle.going_back.specs.Nearest.{IsSoFar}
use Rattle.going_back.specs.Telling.{IsPlyWritten, IsWrittenSo}

-- a ply that is so far is one of the plies
pub far_within : (text : List ℕ) (p : Parts) (plies : List Ply) (k n : ℕ) → IsSoFar text p plies k n → (0 < k) × (k ≤ length plies)
far_within text p [] k n h = absurd h
far_within text p (ply ∷ plies) zero n h = absurd h
far_within text p (ply ∷ plies) (suc zero) n h = (omega arith, omega arith)
far_within text p (ply ∷ plies) (suc (suc k)) n h = let r = far_within text (after p ply.mv) plies (suc k) n h in (omega arith, omega (arith, r.1))

-- and so is one that is named
ply_within : (p : Parts) (plies : List Ply) (text : List ℕ) (k : ℕ) → NamesPly p plies text k → k ≤ length plies
ply_within p [] text k h = absurd h
ply_within p (ply ∷ plies) text zero h = absurd h
ply_within p (ply ∷ plies) text (suc zero) h = omega arith
ply_within p (ply ∷ plies) text (suc (suc k)) h = let r = ply_within (after p ply.mv) plies text (suc k) h in omega (arith, r)

names_within : (start : Parts) (plies : List Ply) (to : List ℕ) (k : ℕ) → Names start plies to k → k ≤ length plies
names_within start plies to k (inl h) = omega (arith, h.1)
names_within start plies to k (inr (inl h)) = omega (arith, h.1)
names_within start plies to k (inr (inr (inl h))) = h.1
names_within start plies to k (inr (inr (inr h))) = ply_within start plies to k h

-- the move behind the first plies of a line is legal
pub legal_behind : (p : Parts) (front : List Ply) (ply : Ply) (more : List Ply) → Line p (moves_of (front ++ ply ∷ more)) → Legal (position_after p (moves_of front)) ply.mv
legal_behind p [] ply more h = h.0
legal_behind p (x ∷ front) ply more h = legal_behind (after p x.mv) front ply more h.1

-- what was settled is a line
pub settled_line : (settler : SettlerState) (start : Parts) (past : List Entry) → HasSettled settler start past → Line start (moves_of (plies_of settler))
settled_line settler start past settled =
    let P : List Ply → Type 0 = λ plies. Played start (moves_of plies) in
    line_played start (plies_of settler) (subst P (sym (reverse-reverse settler.score.plies)) (folds_played start (deduplicated past) settler.score settled.folds))

shown_legal : (setting : Setting) (settler : SettlerState) (past : List Event) (stay more : List Ply) (ply : Ply) (m : Move)
    → HasSettled settler setting.start (entries_in setting past) → plies_of settler ≡ stay ++ ply ∷ more → ply.mv ≡ m → Legal (position_after setting.start (moves_of stay)) m
shown_legal setting settler past stay more ply m settled are is =
    let P : List Ply → Type 0 = λ plies. Line setting.start (moves_of plies) in
    let M : Move → Type 0 = λ n. Legal (position_after setting.start (moves_of stay)) n in
    subst M is (legal_behind setting.start stay ply more (subst P are (settled_line settler setting.start (entries_in setting past) settled)))

-- a move that the board still shows is legal
pub shown_move_legal : (setting : Setting) (recovers : Bool) (past : List Event) (old stay : List Ply) (m : Move) → RefusesThese setting recovers past old stay (Moved m)
    → Legal (position_after setting.start (moves_of stay)) m
shown_move_legal setting recovers past old stay m (inl e) = absurd cc
shown_move_legal setting recovers past old stay m (inr (inl (e, none))) = absurd cc
shown_move_legal setting recovers past old stay m (inr (inr (inl (e, large)))) = absurd cc
shown_move_legal setting recovers past old stay m (inr (inr (inr (made, is, inl (e, long))))) = absurd cc
shown_move_legal setting recovers past old stay m (inr (inr (inr (made, is, inr other)))) = elim other.why [
  | inl h ↦ shown_legal setting other.settler other.events stay h.1 h.0 m other.settled h.2 h.3
  | inr h ↦ (let e = h.0 in absurd cc)
]

moved_legal : (setting : Setting) (recovers : Bool) (past : List Event) (old stay : List Ply) (m : Move) → Refuses setting recovers past old stay (Moved m)
    → Legal (position_after setting.start (moves_of stay)) m
moved_legal setting recovers past old stay m (inl (outcome, e, ends)) = absurd cc
moved_legal setting recovers past old stay m (inr h) = shown_move_legal setting recovers past old stay m h

refused_legal : (setting : Setting) (recovers : Bool) (past : List Event) (plies : List Ply) (stays : ℕ) (error : BackError)
    → Refuses setting recovers past plies (take stays plies) error → IsLegalBehind setting.start plies stays error
refused_legal setting recovers past plies stays (Moved m) h = moved_legal setting recovers past plies (take stays plies) m h
refused_legal setting recovers past plies stays Unseen h = tt
refused_legal setting recovers past plies stays (Ended outcome) h = tt
refused_legal setting recovers past plies stays (Signed outcome) h = tt
refused_legal setting recovers past plies stays Board h = tt
refused_legal setting recovers past plies stays TooLong h = tt
refused_legal setting recovers past plies stays Memory h = tt

tellable_from : (setting : Setting) (recovers : Bool) (past : List Event) (game : SettlerState) (to : List ℕ) (answer : Answer)
    → IsAnswerOf setting recovers past game to answer → game.start ≡ setting.start → IsTellable game.start (plies_of game) answer
tellable_from setting recovers past game to (Back made stays gone result) is start = tt
tellable_from setting recovers past game to (Unnamed None) is start = tt
tellable_from setting recovers past game to (Unnamed (Some k)) is start = far_within to game.start (plies_of game) k is.1.0 is.1.1
tellable_from setting recovers past game to (Refused stays error) is start = (
  names_within game.start (plies_of game) to stays is.0,
  let L : Parts → Type 0 = λ p. IsLegalBehind p (plies_of game) stays error in
      subst L (sym start) (refused_legal setting recovers past (plies_of game) stays error is.1),
)

-- the same with the start and the plies as they were taken
pub tellable : (setting : Setting) (recovers : Bool) (past : List Event) (game : SettlerState) (to : List ℕ) (answer : Answer) (start : Parts) (plies : List Ply)
    → HasSettled game setting.start (entries_in setting past) → IsAnswerOf setting recovers past game to answer → start ≡ game.start → plies ≡ plies_of game → IsTellable start plies answer
tellable setting recovers past game to answer start plies settled is start-is plies-are =
    let S : Parts → Type 0 = λ p. IsTellable p plies answer in
    let P : List Ply → Type 0 = λ xs. IsTellable game.start xs answer in
    subst S (sym start-is) (subst P (sym plies-are) (tellable_from setting recovers past game to answer is settled.start_is))

split_at : (plies : List Ply) (i : ℕ) (x : Ply) → i < length plies → x ≡ get_or plies i x → plies ≡ take i plies ++ x ∷ drop (i + 1) plies
split_at plies i x lt e = sym (take-append-drop i plies) ∙ ap (λ (ys : List Ply). take i plies ++ ys) (cut_at plies i x lt e)

-- the move of a ply is legal where it stands
pub legal_at : (start p : Parts) (plies : List Ply) (number : ℕ) (x : Ply) → 0 < number → number ≤ length plies → x ≡ get_or plies (number - 1) x
    → p ≡ position_after start (moves_of (take (number - 1) plies)) → Line start (moves_of plies) → Legal p x.mv
legal_at start p plies number x some within e here line =
    let L : List Ply → Type 0 = λ xs. Line start (moves_of xs) in
    let P : Parts → Type 0 = λ q. Legal q x.mv in
    let front = take (number - 1) plies in
    let more = drop (number - 1 + 1) plies in
    subst P (sym here) (legal_behind start front x more (subst L (split_at plies (number - 1) x (omega (arith, some, within)) e) line))

-- and it is written so
pub ply_written : (start p : Parts) (plies : List Ply) (number : ℕ) (x : Ply) (text : List ℕ) → 0 < number → number ≤ length plies → x ≡ get_or plies (number - 1) x
    → p ≡ position_after start (moves_of (take (number - 1) plies)) → IsWrittenSo p x.mv text → IsPlyWritten start plies number text
ply_written start p plies number x text some within e here written =
    let front = take (number - 1) plies in
    let P : Parts → Type 0 = λ q. IsWrittenSo q x.mv text in
    let long = length-take-le (number - 1) plies (omega (arith, within)) in
    (front, drop (number - 1 + 1) plies, x, split_at plies (number - 1) x (omega (arith, some, within)) e, omega (arith, some, long), subst P here written)
