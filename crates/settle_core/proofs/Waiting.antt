-- Pictures that wait, and the end by the kings.
use Rattle.std.proofs.Common.{◌≡◌, ℕ, ◌<◌, inl, inr, List, [], ◌∷◌, ◌++◌, Option, Some, None, false, get_or, reverse, refl, sym, ap, subst, ◌∙◌}
use mathlib.Core.List.{reverse_aux}
use Rattle.chess_rules.specs.declared.pieces.Side.{Side}
use Rattle.chess_rules.specs.declared.pieces.Kind.{Kind}
use Rattle.chess_rules.specs.declared.pieces.Kind.TheVariants.{King}
use Rattle.chess_rules.specs.declared.chess_move.Move.{Move}
use Rattle.chess_rules.specs.declared.parts.Parts.{Parts}
use Rattle.chess_rules.specs.Board.{on, piece_of, other}
use Rattle.chess_rules.specs.After.{after}
use Rattle.chess_rules.specs.Valid.{Valid}
use Rattle.chess_rules.specs.Picture.{code_of_piece}
use Rattle.chess_rules.proofs.LawLemmas.{moves_stay_valid}
use Rattle.chess_rules.proofs.Shifts.{on_board}
use Rattle.settle_core.specs.declared.plies.Outcome.{Outcome}
use Rattle.settle_core.specs.declared.plies.Ply.{Ply}
use Rattle.settle_core.specs.declared.plies.Seen.{Seen}
use Rattle.settle_core.specs.declared.plies.Seen.TheVariants.{Sign, Waits}
use Rattle.settle_core.specs.Entries.{Entry, repeats, deduplicated}
use Rattle.settle_core.specs.Settling.{Line, Settles, reached, position_after}
use Rattle.settle_core.specs.Sign.{IsSign}
use Rattle.settle_core.specs.Folding.{Score, Folds, SeenAs, moves_of, score_after, score_of}
use Rattle.settle_core.specs.HonestPlay.{ShowsNoMore, ShowsNoMoreOrLacksKing, AllShowNoMoreOrLackKing, ShownEach, shown_plies}
use Rattle.settle_core.specs.Laws.{joined, GivesScore, NoMoreIsWithinTurn, RestingWaits}
use Rattle.settle_core.proofs.Pieces.{same_code, code_no_zero, shown_on, ShowsNoNew, Arrives, arrives, settles_end}
use Rattle.settle_core.proofs.Apart.{BothKings, apart_unless, both_kings, kings_apart, apart, centre_low}
use Rattle.settle_core.proofs.Hands.{lacking_settles, lacking_no_sign}
use Rattle.settle_core.proofs.Stages.{IsSound, EndsAt, Gives, now, valid_reached, no_replace, lacking_replaces, shows_at, fold_keeps, fold_new, differ_false}
use Rattle.settle_core.proofs.Lines.{MakesMove, line_ends, reverse_aux-append}
use Rattle.settle_core.proofs.Fronts.{reached_shown}
use Rattle.settle_core.proofs.Once.{shows_once}

-- a piece that such a picture shows stands there
pub no_more_piece : (p : Parts) (seen : List ℕ) (s : ℕ) (side : Side) (k : Kind) → ShowsNoMore p seen → s < 64
    → get_or seen s 0 ≡ code_of_piece side k → on p.board s ≡ piece_of side k
no_more_piece p seen s side k h low e =
    elim (h s low) [
      | inl stands ↦ same_code (on p.board s) (piece_of side k) (sym stands ∙ e)
      | inr none ↦ absurd (code_no_zero side k (sym e ∙ none))
    ]

pub no_more_settles : (p : Parts) (seen : List ℕ) (m : Move) → Valid p → ShowsNoMore p seen → ¬ Settles p seen m
no_more_settles p seen m v h st =
    let w : Valid (after p m) = moves_stay_valid p m v st.legal in
    let a : Arrives p m = arrives p m v st.legal in
    let low : a.square < 64 = rw (← w.squares) (on_board (after p m).board a.square p.side a.kind a.came) in
    a.free (record { kind = a.kind; stands = no_more_piece p seen a.square p.side a.kind h low (shown_on (after p m) seen a.square p.side a.kind st.shows a.came) })

no_more_apart : (p : Parts) (seen : List ℕ) → Valid p → ShowsNoMore p seen → ¬ BothKings seen p.side
no_more_apart p seen v h k =
    kings_apart p k.mine k.theirs v
    (no_more_piece p seen k.mine p.side King h (centre_low k.mine k.mine_centre) k.mine_stands)
    (no_more_piece p seen k.theirs (other p.side) King h (centre_low k.theirs k.theirs_centre) k.theirs_stands)
    k.mine_centre k.theirs_centre (apart seen p.side k)

pub no_more_sign : (p : Parts) (seen : List ℕ) → Valid p → ShowsNoMore p seen → (over : Parts) (outcome : Outcome) → ¬ IsSign over seen outcome
no_more_sign p seen v h over outcome sign = no_more_apart p seen v h (both_kings over seen outcome p.side sign)

pub no_more_new : (p : Parts) (seen : List ℕ) → ShowsNoMore p seen → ShowsNoNew p seen
no_more_new p seen h s k low e = no_more_piece p seen s (other p.side) k h low e

pub no_more_is_within_turn : NoMoreIsWithinTurn
no_more_is_within_turn p seen v h =
    record {
      theirs = no_more_new p seen h;
      kings = apart_unless seen p.side (no_more_apart p seen v h);
      no_capture = λ n l t e. no_more_settles p seen n v h (settles_end p n seen v l e);
    }

pub resting_waits : RestingWaits
resting_waits start moves seen v l (inl h) =
    let w : Valid (reached start moves) = valid_reached start moves v l in (
      λ n. no_more_settles (reached start moves) seen n w h,
      λ outcome. no_more_sign (reached start moves) seen w h (reached start moves) outcome,
      λ n. no_replace start moves n seen v l (no_more_new (reached start moves) seen h),
    )
resting_waits start moves seen v l (inr lacks) = (
  λ n. lacking_settles (reached start moves) seen n (valid_reached start moves v l) lacks,
  λ outcome. lacking_no_sign (reached start moves) seen outcome lacks,
  λ n. lacking_replaces start moves seen n v l lacks,
)

resting_no_sign : (p : Parts) (seen : List ℕ) → Valid p → ShowsNoMoreOrLacksKing p seen → (outcome : Outcome) → ¬ IsSign p seen outcome
resting_no_sign p seen v (inl h) outcome = no_more_sign p seen v h p outcome
resting_no_sign p seen v (inr lacks) outcome = lacking_no_sign p seen outcome lacks

abbrev pub with_sign : List Ply → Option Outcome → Score
with_sign plies sign = record { plies = plies; sign = sign }

-- the entries give these plies and this sign, and the last picture is no sign over the position
pub record IsStill (start : Parts) (plies : List Ply) (sign : Option Outcome) (past : List Entry) : Type 0 where
  pub score : Gives start (with_sign plies sign) past

abbrev pub NoSignLast : Parts → List Entry → Type 0
NoSignLast p [] = Unit {0}
NoSignLast p (entry ∷ past) = (outcome : Outcome) → ¬ IsSign p entry.picture outcome

-- a picture that rests keeps the score
rest_step :
    (start : Parts) (plies : List Ply) (sign : Option Outcome) (past : List Entry) (entry : Entry)
    → IsSound start plies
    → ShowsNoMoreOrLacksKing (reached start (moves_of plies)) entry.picture
    → Gives start (with_sign plies sign) past
    → Gives start (with_sign plies sign) (entry ∷ past)
rest_step start plies sign past entry s rest g =
    let final : Score = with_sign plies sign in
    fold_keeps start past entry (λ score. score ≡ final) (λ score. score ≡ final) g (λ score e. e)
    (λ score seen e h.
    let waits : SeenAs start (moves_of plies) entry.picture Waits = resting_waits start (moves_of plies) entry.picture s.valid s.played rest in
    let same : seen ≡ Waits = shows_once start (moves_of plies) entry.picture seen Waits (now start plies s) (shows_at start score final entry.picture seen e h) waits in
    ap (λ (x : Seen). score_after start score entry.reading x) same ∙ e)

pub rest_all :
    (start : Parts) (plies : List Ply) (sign : Option Outcome) (entries past : List Entry)
    → IsSound start plies
    → AllShowNoMoreOrLackKing (reached start (moves_of plies)) entries
    → Gives start (with_sign plies sign) past
    → Gives start (with_sign plies sign) (reverse_aux entries past)
rest_all start plies sign [] past s a g = g
rest_all start plies sign (entry ∷ entries) past s a g =
    rest_all start plies sign entries (entry ∷ past) s a.1 (rest_step start plies sign past entry s a.0 g)

pub rest_last :
    (start : Parts) (plies : List Ply) (entries past : List Entry)
    → IsSound start plies
    → AllShowNoMoreOrLackKing (reached start (moves_of plies)) entries
    → NoSignLast (reached start (moves_of plies)) past
    → NoSignLast (reached start (moves_of plies)) (reverse_aux entries past)
rest_last start plies [] past s a n = n
rest_last start plies (entry ∷ entries) past s a n =
    rest_last start plies entries (entry ∷ past) s a.1 (resting_no_sign (reached start (moves_of plies)) entry.picture (now start plies s) a.0)

-- the picture of a sign is not the last one
sign_is_new : (p : Parts) (seen : List ℕ) (outcome : Outcome) (past : List Entry) → IsSign p seen outcome → NoSignLast p past → repeats seen past ≡ false
sign_is_new p seen outcome [] h n = refl
sign_is_new p seen outcome (entry ∷ past) h n =
    differ_false seen entry.picture (λ e. n outcome (let P : List ℕ → Type 0 = λ xs. IsSign p xs outcome in subst P e h))

pub sign_step :
    (start : Parts) (plies : List Ply) (sign : Option Outcome) (past : List Entry) (entry : Entry) (outcome : Outcome)
    → IsSound start plies
    → IsSign (reached start (moves_of plies)) entry.picture outcome
    → NoSignLast (reached start (moves_of plies)) past
    → Gives start (with_sign plies sign) past
    → Gives start (with_sign plies (Some outcome)) (entry ∷ past)
sign_step start plies sign past entry outcome s k n g =
    let final : Score = with_sign plies sign in
    fold_new start past entry (λ score. score ≡ final) (λ score. score ≡ with_sign plies (Some outcome))
    (sign_is_new (reached start (moves_of plies)) entry.picture outcome past k n) g
    (λ score seen e h.
    let same : seen ≡ Sign outcome = shows_once start (moves_of plies) entry.picture seen (Sign outcome) (now start plies s) (shows_at start score final entry.picture seen e h) k in
    ap (λ (x : Seen). score_after start score entry.reading x) same ∙ ap (λ (x : Score). with_sign x.plies (Some outcome)) e)

pub ends_no_sign : (p : Parts) (past : List Entry) → Valid p → EndsAt p past → NoSignLast p past
ends_no_sign p [] v h = tt
ends_no_sign p (entry ∷ past) v h = Rattle.settle_core.proofs.Apart.no_sign_valid p entry.picture v h p

-- the kings' sign stands among pictures on which pieces are taken off or set up
pub kings_end :
    (start : Parts) (moves : List Move) (lists : List (List Entry)) (clearing later : List Entry) (kings : Entry) (outcome : Outcome)
    (score : Score)
    → Valid start → Line start moves → ShownEach start moves lists
    → AllShowNoMoreOrLackKing (position_after start moves) clearing
    → IsSign (position_after start moves) kings.picture outcome
    → AllShowNoMoreOrLackKing (position_after start moves) later
    → GivesScore start (joined lists ++ (clearing ++ kings ∷ later)) score
    → score ≡ score_of (shown_plies start moves lists) (Some outcome)
kings_end start moves lists clearing later kings outcome score v l h a k b f =
    let plies : List Ply = reverse (shown_plies start moves lists) in
    let made : MakesMove start plies (joined lists) [] = line_ends start moves lists v l h in
    let s : IsSound start plies = made.sound in
    let at : position_after start moves ≡ reached start (moves_of plies) = sym (reached_shown start moves lists h) in
    let A : Parts → Type 0 = λ x. AllShowNoMoreOrLackKing x clearing in
    let B : Parts → Type 0 = λ x. AllShowNoMoreOrLackKing x later in
    let K : Parts → Type 0 = λ x. IsSign x kings.picture outcome in
    let past : List Entry = reverse_aux (joined lists) [] in
    let one : Gives start (with_sign plies None) (reverse_aux clearing past) = rest_all start plies None clearing past s (subst A at a) (made.ends).score in
    let n : NoSignLast (reached start (moves_of plies)) (reverse_aux clearing past) =
    rest_last start plies clearing past s (subst A at a) (ends_no_sign (reached start (moves_of plies)) past (now start plies s) (made.ends).last) in
    let two : Gives start (with_sign plies (Some outcome)) (kings ∷ reverse_aux clearing past) =
    sign_step start plies None (reverse_aux clearing past) kings outcome s (subst K at k) n one in
    let three : Gives start (with_sign plies (Some outcome)) (reverse_aux later (kings ∷ reverse_aux clearing past)) =
    rest_all start plies (Some outcome) later (kings ∷ reverse_aux clearing past) s (subst B at b) two in
    let F : List Entry → Type 0 = λ es. Folds start (deduplicated es) score in
    let order : reverse_aux (joined lists ++ (clearing ++ kings ∷ later)) [] ≡ reverse_aux later (kings ∷ reverse_aux clearing past) =
    reverse_aux-append (joined lists) (clearing ++ kings ∷ later) [] ∙ reverse_aux-append clearing (kings ∷ later) past in
    three score (subst F order f)
