-- What is typed for a change.
use Rattle.std.proofs.Common.{◌≡◌, ◌∙◌, ◌+◌, ◌-◌, ◌<◌, ◌≤◌, ℕ, zero, suc, List, [], ◌∷◌, ◌++◌, codes, get_or, inl, inr, length, take, refl, sym, ap, subst, arith}
use Rattle.std.proofs.lemmas.List.{length-map, take-map}
use Rattle.chess_rules.specs.declared.chess_move.Move.{Move}
use Rattle.chess_rules.specs.declared.parts.Parts.{Parts}
use Rattle.chess_rules.specs.declared.pieces.Side.{Side}
use Rattle.chess_rules.specs.declared.pieces.Side.TheVariants.{White, Black}
use Rattle.chess_rules.specs.After.{after}
use Rattle.chess_rules.specs.Legal.{Legal}
use Rattle.chess_rules.specs.Picture.{picture}
use Rattle.chess_rules.specs.Valid.{Valid}
use Rattle.chess_rules.proofs.Staying.{valid_after}
use Rattle.chess_text.specs.Laws.{MovesTellTexts}
use Rattle.pgn_book.specs.Movetext.{number_token}
use Rattle.settle_core.specs.declared.plies.Ply.{Ply}
use Rattle.settle_core.specs.Folding.{moves_of}
use Rattle.settle_core.specs.Settling.{Line, position_after}
use Rattle.going_back.specs.declared.fit.Coming.{Coming}
use Rattle.going_back.specs.declared.fit.Coming.TheVariants.{Nothing, One, Two}
use Rattle.going_back.specs.declared.fit.Fit.{Fit}
use Rattle.going_back.specs.Fitting.{IsOnlyFit, LeadsTo, moves_in}
use Rattle.going_back.specs.Laws.{FitIsOne, FitSettlesIt}
use Rattle.going_back.specs.Proposing.{AreWritten, IsLastWritten, IsReplyWritten, IsTyped, front, line_of}
use Rattle.going_back.specs.Telling.{IsPlyWritten, IsWrittenSo}
use Rattle.going_back.proofs.FitLemmas.{going_from, gone_within, sum_of}
use Rattle.going_back.proofs.Fronts.{line_front}
use Rattle.going_back.proofs.TellLemmas.{legal_behind, ply_written}

never : (n : ℕ) → n < 0 → ⊥
never n h = omega (arith, h)

same : (n : ℕ) → n ≤ n
same n = omega arith

pub last_written : (start p : Parts) (stay : List Ply) (x : Ply) (text : List ℕ) → 0 < length stay → x ≡ get_or stay (length stay - 1) x
    → p ≡ position_after start (moves_of (take (length stay - 1) stay)) → IsWrittenSo p x.mv text → IsLastWritten start stay text
last_written start p [] x text some e here written = absurd (never 0 some)
last_written start p (ply ∷ stay) x text some e here written =
    ply_written start p (ply ∷ stay) (length (ply ∷ stay)) x text some (same (length (ply ∷ stay))) e here written

pub moves_typed : (start : Parts) (stay : List Ply) (gone : ℕ) (coming : Coming) (moves typed : List ℕ) → (coming ≡ Nothing → ⊥)
    → AreWritten (position_after start (moves_of stay)) coming moves → typed ≡ front gone ++ moves → IsTyped start stay gone coming typed
moves_typed start stay gone Nothing moves typed not written e = absurd (not refl)
moves_typed start stay zero (One m) moves typed not written e = (moves, written, e)
moves_typed start stay (suc gone) (One m) moves typed not written e = (moves, written, e)
moves_typed start stay zero (Two two) moves typed not written e = (moves, written, e)
moves_typed start stay (suc gone) (Two two) moves typed not written e = (moves, written, e)

-- what comes leads from where the plies stay to the picture
pub leads_behind : (start : Parts) (plies : List Ply) (seen : List ℕ) (fit : Fit) → IsOnlyFit start (moves_of plies) seen fit
    → LeadsTo (position_after start (moves_of (take (length plies - fit.gone) plies))) seen (moves_in fit.coming)
leads_behind start plies seen fit only =
    let moves = moves_of plies in
    let n = length plies - fit.gone in
    let long = length-map plies (λ (ply : Ply). ply.mv) in
    let low = subst (λ k. fit.gone ≤ k) long (gone_within start moves seen fit only.fits) in
    let from = going_from start moves seen fit.gone n fit (sum_of fit.gone (length moves) (length plies) low long) (refl, only.fits) in
    let P : List Move → Type 0 = λ front. LeadsTo (position_after start front) seen (moves_in fit.coming) in
    subst P (take-map (λ (ply : Ply). ply.mv) n plies) from.leads

-- ---- one line

written_once : MovesTellTexts → (p : Parts) (m : Move) (a b : List ℕ) → Valid p → Legal p m → IsWrittenSo p m a → IsWrittenSo p m b → a ≡ b
written_once one p m a b v l (s, h, e) (t, k, f) = e ∙ ap (λ (text : List ℕ). number_token p.side p.fullmove ++ codes " " ++ text) (one p m s t v l h k) ∙ sym f

reply_once : MovesTellTexts → (side : Side) (p : Parts) (m : Move) (a b : List ℕ) → Valid p → Legal p m → IsReplyWritten side p m a → IsReplyWritten side p m b → a ≡ b
reply_once one White p m a b v l h k = written_once one p m a b v l h k
reply_once one Black p m a b v l h k = one p m a b v l h k

coming_once : MovesTellTexts → (p : Parts) (coming : Coming) (a b : List ℕ) → Valid p → Line p (moves_in coming) → AreWritten p coming a → AreWritten p coming b → a ≡ b
coming_once one p Nothing a b v l h k = h ∙ sym k
coming_once one p (One m) a b v l h k = written_once one p m a b v l.0 h k
coming_once one p (Two two) a b v l (f, s, h, r, e) (g, t, k, q, d) =
    let first : f ≡ g = written_once one p two.first f g v l.0 h k in
    let next = after p two.first in
    let second : s ≡ t = reply_once one next.side next two.second s t (valid_after p two.first v l.0) l.1.0 r q in
    e ∙ ap (λ (text : List ℕ). text ++ (codes " " ++ s)) first ∙ ap (λ (text : List ℕ). g ++ (codes " " ++ text)) second ∙ sym d

same_count : (a b : ℕ) → suc a ≡ suc b → a ≡ b
same_count a b e = omega (arith, e)

same_list : (x y : Ply) (a b : List Ply) → x ≡ y → a ≡ b → x ∷ a ≡ y ∷ b
same_list x y a b e f = ap (λ (z : Ply). z ∷ a) e ∙ ap (λ (zs : List Ply). y ∷ zs) f

split_once : (a b : List Ply) (x y : Ply) (m n : List Ply) → length a ≡ length b → a ++ x ∷ m ≡ b ++ y ∷ n → (a ≡ b) × (x ≡ y)
split_once [] [] x y m n l e = (refl, cc)
split_once [] (d ∷ b) x y m n l e = absurd (let z : 0 ≡ suc (length b) = l in omega (arith, z))
split_once (c ∷ a) [] x y m n l e = absurd (let z : suc (length a) ≡ 0 = l in omega (arith, z))
split_once (c ∷ a) (d ∷ b) x y m n l e =
    let head : c ≡ d = cc in
    let tail : a ++ x ∷ m ≡ b ++ y ∷ n = cc in
    let rest = split_once a b x y m n (same_count (length a) (length b) l) tail in (
      same_list c d a b head rest.0,
      rest.1,
    )

valid_behind : (start : Parts) (plies : List Ply) (more : List Ply) → Valid start → Line start (moves_of (plies ++ more)) → Valid (position_after start (moves_of plies))
valid_behind start [] more v l = v
valid_behind start (ply ∷ plies) more v l = valid_behind (after start ply.mv) plies more (valid_after start ply.mv v l.0) l.1

sum_once : (a b k : ℕ) → k ≡ a + 1 → k ≡ b + 1 → a ≡ b
sum_once a b k e f = omega (arith, e, f)

ply_once : MovesTellTexts → (start : Parts) (plies : List Ply) (k : ℕ) (a b : List ℕ) → Valid start → Line start (moves_of plies)
    → IsPlyWritten start plies k a → IsPlyWritten start plies k b → a ≡ b
ply_once one start plies k a b v l (before, more, x, are, count, w) (front, rest, y, same, counted, u) =
    let both = split_once before front x y more rest (sum_once (length before) (length front) k count counted) (sym are ∙ same) in
    let L : List Ply → Type 0 = λ xs. Line start (moves_of xs) in
    let here : L (before ++ x ∷ more) = subst L are l in
    let p = position_after start (moves_of before) in
    let F : List Ply → Type 0 = λ xs. IsWrittenSo (position_after start (moves_of xs)) y.mv b in
    let Y : Ply → Type 0 = λ z. IsWrittenSo p z.mv b in
    written_once one p x.mv a b (valid_behind start before (x ∷ more) v here) (legal_behind start before x more here) w
    (subst Y (sym both.1) (subst F (sym both.0) u))

last_once : MovesTellTexts → (start : Parts) (stay : List Ply) (a b : List ℕ) → Valid start → Line start (moves_of stay) → IsLastWritten start stay a → IsLastWritten start stay b
    → a ≡ b
last_once one start [] a b v l h k = h ∙ sym k
last_once one start (ply ∷ stay) a b v l h k = ply_once one start (ply ∷ stay) (length (ply ∷ stay)) a b v l h k

moves_once : MovesTellTexts → (p : Parts) (gone : ℕ) (coming : Coming) (s t a b : List ℕ) → Valid p → Line p (moves_in coming)
    → AreWritten p coming s → a ≡ front gone ++ s → AreWritten p coming t → b ≡ front gone ++ t → a ≡ b
moves_once one p gone coming s t a b v l h e k f =
    e ∙ ap (λ (text : List ℕ). front gone ++ text) (coming_once one p coming s t v l h k) ∙ sym f

whole : (xs : List Ply) → xs ++ [] ≡ xs
whole [] = refl
whole (x ∷ xs) = ap (λ (ys : List Ply). x ∷ ys) (whole xs)

valid_at : (start : Parts) (stay : List Ply) → Valid start → Line start (moves_of stay) → Valid (position_after start (moves_of stay))
valid_at start stay v l =
    let L : List Ply → Type 0 = λ xs. Line start (moves_of xs) in
    valid_behind start stay [] v (subst L (sym (whole stay)) l)

typed_once : MovesTellTexts → (start : Parts) (stay : List Ply) (gone : ℕ) (coming : Coming) (a b : List ℕ) → Valid start → Line start (moves_of stay)
    → Line (position_after start (moves_of stay)) (moves_in coming) → IsTyped start stay gone coming a → IsTyped start stay gone coming b → a ≡ b
typed_once one start stay zero Nothing a b v l c h k = h ∙ sym k
typed_once one start stay (suc gone) Nothing a b v l c (s, h, e) (t, k, f) =
    e ∙ ap (λ (text : List ℕ). codes "back " ++ text) (last_once one start stay s t v l h k) ∙ sym f
typed_once one start stay zero (One m) a b v l c (s, h, e) (t, k, f) =
    moves_once one (position_after start (moves_of stay)) 0 (One m) s t a b (valid_at start stay v l) c h e k f
typed_once one start stay (suc gone) (One m) a b v l c (s, h, e) (t, k, f) =
    moves_once one (position_after start (moves_of stay)) (suc gone) (One m) s t a b (valid_at start stay v l) c h e k f
typed_once one start stay zero (Two two) a b v l c (s, h, e) (t, k, f) =
    moves_once one (position_after start (moves_of stay)) 0 (Two two) s t a b (valid_at start stay v l) c h e k f
typed_once one start stay (suc gone) (Two two) a b v l c (s, h, e) (t, k, f) =
    moves_once one (position_after start (moves_of stay)) (suc gone) (Two two) s t a b (valid_at start stay v l) c h e k f

pub fit_is_one : MovesTellTexts → FitIsOne
fit_is_one one start plies seen a b v l (inl (f, only, (s, h, e))) (inl (g, other, (t, k, d))) =
    let same : g ≡ f = only.alone g other.fits in
    let stay = take (length plies - f.gone) plies in
    let K : Fit → Type 0 = λ x. IsTyped start (take (length plies - x.gone) plies) x.gone x.coming t in
    let comes = leads_behind start plies seen f only in
    let both = typed_once one start stay f.gone f.coming s t v (line_front start plies (length plies - f.gone) l) comes.legal h (subst K same k) in
    e ∙ ap (λ (text : List ℕ). line_of text) both ∙ sym d
fit_is_one one start plies seen a b v l (inl (f, only, said)) (inr (none, d)) = absurd (none f only)
fit_is_one one start plies seen a b v l (inr (none, e)) (inl (g, other, said)) = absurd (none g other)
fit_is_one one start plies seen a b v l (inr (none, e)) (inr (neither, d)) = e ∙ sym d

-- ---- what the board shows then

line_both : (start : Parts) (front behind : List Move) → Line start front → Line (position_after start front) behind → Line start (front ++ behind)
line_both start [] behind l m = m
line_both start (x ∷ front) behind l m = (l.0, line_both (after start x) front behind l.1 m)

position_both : (start : Parts) (front behind : List Move) → position_after start (front ++ behind) ≡ position_after (position_after start front) behind
position_both start [] behind = refl
position_both start (x ∷ front) behind = position_both (after start x) front behind

pub fit_settles_it : FitSettlesIt
fit_settles_it start plies made seen fit l only are =
    let front = moves_of (take (length plies - fit.gone) plies) in
    let leads = leads_behind start plies seen fit only in
    let L : List Move → Type 0 = λ xs. Line start xs in
    let P : List Move → Type 0 = λ xs. seen ≡ picture (position_after start xs) in (
      subst L (sym are) (line_both start front (moves_in fit.coming) (line_front start plies (length plies - fit.gone) l) leads.legal),
      subst P (sym are) (leads.shows ∙ ap (λ (q : Parts). picture q) (sym (position_both start front (moves_in fit.coming)))),
    )
