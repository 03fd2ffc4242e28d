-- What the game gets was sent, in this order.
use Rattle.std.proofs.Common.{ℕ, nat_lt, Bool, true, false, List, [], ◌∷◌, ◌++◌, Option, Some, length, refl, sym, subst, ◌∙◌, append_assoc, append-nil, inl, inr}
use Rattle.std.specs.Prelude.{if◌then◌else◌}
use Rattle.board_cable.specs.declared.whose.Handling.{Handling}
use Rattle.board_cable.specs.declared.whose.Handling.TheVariants.{Hold, Keep, Other}
use Rattle.board_cable.specs.Whose.{own_number}
use Rattle.board_cable.specs.Keeping.{are_same, aside, aside_by, ends_aside, ends_held, held, held_by, kept_by, limit, limited, owner, released_by}
use Rattle.board_cable.specs.Laws.{AreSomeOf, IsKeptInOrder, all_kept, all_sent}
use Rattle.board_cable.specs.Moments.{sent}
use Rattle.board_cable.specs.Turns.{Turn, handling_of}

pub all_of : (xs : List ℕ) → AreSomeOf xs xs
all_of [] = tt
all_of (x ∷ xs) = inl (refl, all_of xs)

pub none_of : (ys : List ℕ) → AreSomeOf [] ys
none_of ys = tt

one_more : (y : ℕ) (xs ys : List ℕ) → AreSomeOf xs ys → AreSomeOf xs (y ∷ ys)
one_more y [] ys h = tt
one_more y (x ∷ xs) ys h = inr h

pub joined : (a b c d : List ℕ) → AreSomeOf a b → AreSomeOf c d → AreSomeOf (a ++ c) (b ++ d)
joined [] [] c d p q = q
joined [] (y ∷ b) c d p q = one_more y c (b ++ d) (joined [] b c d tt q)
joined (x ∷ a) [] c d p q = absurd p
joined (x ∷ a) (y ∷ b) c d (inl both) q = inl (both.0, joined a b c d both.1 q)
joined (x ∷ a) (y ∷ b) c d (inr p) q = inr (joined (x ∷ a) b c d p q)

pub through : (xs ys zs : List ℕ) → AreSomeOf xs ys → AreSomeOf ys zs → AreSomeOf xs zs
through [] ys zs p q = tt
through (x ∷ xs) [] zs p q = absurd p
through (x ∷ xs) (y ∷ ys) [] p q = absurd q
through (x ∷ xs) (y ∷ ys) (z ∷ zs) (inl p) (inl q) = inl (p.0 ∙ q.0, through xs ys zs p.1 q.1)
through (x ∷ xs) (y ∷ ys) (z ∷ zs) (inr p) (inl q) = inr (through (x ∷ xs) ys zs p q.1)
through (x ∷ xs) (y ∷ ys) (z ∷ zs) p (inr q) = inr (through (x ∷ xs) (y ∷ ys) zs p q)

pub unless_ended : (ends : Bool) (xs : List ℕ) → AreSomeOf (if ends then [] else xs) xs
unless_ended true xs = none_of xs
unless_ended false xs = all_of xs

if_same : (same : Bool) (xs : List ℕ) → AreSomeOf (if same then xs else []) xs
if_same true xs = all_of xs
if_same false xs = none_of xs

pub within_limit : (xs : List ℕ) → AreSomeOf (limited xs) xs
within_limit xs = unless_ended (nat_lt limit (length xs)) xs

abbrev Goes : List ℕ → List ℕ → Type 0
Goes xs ys = AreSomeOf xs ys

-- What was kept, and is kept back, grows by what is sent.
grows : (k back front s w : List ℕ) → AreSomeOf front back → AreSomeOf (k ++ back) w → AreSomeOf (k ++ (front ++ s)) (w ++ s)
grows k back front s w some h =
    let before = through (k ++ front) (k ++ back) w (joined k k front back (all_of k) some) h in
    subst (λ xs. AreSomeOf xs (w ++ s)) (append_assoc k front s) (joined (k ++ front) w s s before (all_of s))

step : (handling : Handling) (own before : Option (List ℕ)) (k a h a0 h0 s w : List ℕ) → AreSomeOf a a0 → AreSomeOf h h0 → AreSomeOf (k ++ (a0 ++ h0)) w
    → AreSomeOf ((k ++ kept_by handling (released_by handling own before a h) s) ++ (aside_by handling before a (h ++ s) ++ held_by handling (h ++ s))) (w ++ s)
step Keep own before k a h a0 h0 s w p q r =
    let given : List ℕ = if are_same before own then a else [] in
    let front : AreSomeOf (given ++ h) (a0 ++ h0) = joined given a0 h h0 (through given a a0 (if_same (are_same before own) a) p) q in
    subst (λ xs. AreSomeOf xs (w ++ s)) (sym (append-nil (k ++ ((given ++ h) ++ s)))) (grows k (a0 ++ h0) (given ++ h) s w front r)
step Hold own before k a h a0 h0 s w p q r =
    let front : AreSomeOf (a ++ h) (a0 ++ h0) = joined a a0 h h0 p q in
    let all : AreSomeOf (k ++ ((a ++ h) ++ s)) (w ++ s) = grows k (a0 ++ h0) (a ++ h) s w front r in
    let come : AreSomeOf (a ++ limited (h ++ s)) (a ++ (h ++ s)) = joined a a (limited (h ++ s)) (h ++ s) (all_of a) (within_limit (h ++ s)) in
    let moved : AreSomeOf (a ++ limited (h ++ s)) ((a ++ h) ++ s) = subst (λ xs. AreSomeOf (a ++ limited (h ++ s)) xs) (sym (append_assoc a h s)) come in
    let some = through (k ++ (a ++ limited (h ++ s))) (k ++ ((a ++ h) ++ s)) (w ++ s) (joined k k _ _ (all_of k) moved) all in
    subst (λ xs. AreSomeOf (xs ++ (a ++ limited (h ++ s))) (w ++ s)) (sym (append-nil k)) some
step (Other number) own before k a h a0 h0 s w p q r =
    let mine : List ℕ = if are_same before (Some number) then a else [] in
    let put = limited (mine ++ (h ++ s)) in
    let front : AreSomeOf (mine ++ h) (a0 ++ h0) = joined mine a0 h h0 (through mine a a0 (if_same _ a) p) q in
    let all : AreSomeOf (k ++ ((mine ++ h) ++ s)) (w ++ s) = grows k (a0 ++ h0) (mine ++ h) s w front r in
    let moved : AreSomeOf put ((mine ++ h) ++ s) = subst (λ xs. AreSomeOf put xs) (sym (append_assoc mine h s)) (within_limit (mine ++ (h ++ s))) in
    let some = through (k ++ put) (k ++ ((mine ++ h) ++ s)) (w ++ s) (joined k k put _ (all_of k) moved) all in
    subst (λ xs. AreSomeOf (xs ++ (put ++ [])) (w ++ s)) (sym (append-nil k)) (subst (λ xs. AreSomeOf (k ++ xs) (w ++ s)) (sym (append-nil put)) some)

in_order : (turns before : List Turn) → AreSomeOf (all_kept turns before ++ (aside (turns ++ before) ++ held (turns ++ before)))
    ((aside before ++ held before) ++ all_sent turns)
in_order [] before = subst (λ xs. AreSomeOf (aside before ++ held before) xs) (sym (append-nil (aside before ++ held before))) (all_of (aside before ++ held before))
in_order (turn ∷ turns) before =
    let past = turns ++ before in
    let a = if ends_aside turn.moment.what then [] else aside past in
    let h = if ends_held turn.moment.what then [] else held past in
    let one = step (handling_of turn) (own_number turn.now) (owner past) (all_kept turns before) a h (aside past) (held past) (sent turn.moment)
    ((aside before ++ held before) ++ all_sent turns)
    (unless_ended (ends_aside turn.moment.what) (aside past)) (unless_ended (ends_held turn.moment.what) (held past)) (in_order turns before) in
    subst (λ xs. AreSomeOf (all_kept (turn ∷ turns) before ++ (aside (turn ∷ past) ++ held (turn ∷ past))) xs)
    (append_assoc (aside before ++ held before) (all_sent turns) (sent turn.moment)) one

pub kept_in_order : IsKeptInOrder
kept_in_order turns =
    let all = in_order turns [] in
    let back = aside (turns ++ []) ++ held (turns ++ []) in
    through (all_kept turns []) (all_kept turns [] ++ back) (all_sent turns)
    (subst (λ xs. AreSomeOf xs (all_kept turns [] ++ back)) (append-nil (all_kept turns []))
    (joined (all_kept turns []) (all_kept turns []) [] back (all_of (all_kept turns [])) (none_of back)))
    all
