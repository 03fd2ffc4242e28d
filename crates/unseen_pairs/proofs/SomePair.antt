-- Whether some pair explains a picture.
use Rattle.std.proofs.Common.{◌≡◌, ◌⊎◌, ◌↔◌, ◌∙◌, ◌<◌, ◌+◌, inl, inr, refl, sym, ap, subst, arith, ℕ, Bool, true, false, Contains, IsTrue, List, [], ◌∷◌, length, Option, Some, None}
use Rattle.std.specs.Prelude.{slice_index_or}
use Rattle.std.proofs.lemmas.Bool.{cases_eq}
use Rattle.std.proofs.lemmas.List.{get_or_default}
use Rattle.chess_rules.specs.declared.chess_move.Move.{Move}
use Rattle.chess_rules.specs.declared.parts.Parts.{Parts}
use Rattle.settle_core.specs.declared.plies.Ply.{Ply}
use Rattle.settle_core.specs.Folding.{moves_of}
use Rattle.settle_core.specs.Settling.{reached}
use Rattle.unseen_pairs.specs.declared.pair.TwoPlies.{TwoPlies}
use Rattle.unseen_pairs.specs.Pairs.{IsAfterTwo, IsExplained, IsInstead, root}
use Rattle.unseen_pairs.specs.Inside.Explaining.{IsBegunOtherwise}

some_move : (m n : Move) → Some m ≡ Some n → m ≡ n
some_move m n h = cc

none_move : (m : Move) → None ≡ Some m → ⊥
none_move m h = cc

not_false : false ≡ true → ⊥
not_false h = cc

-- from the position reached
pub explained_next : (start : Parts) (moves : List Move) (seen : List ℕ) → IsBegunOtherwise (reached start moves) None seen → IsExplained start moves seen
explained_next start moves seen b = (
  record { corrects = false; first = b.first; second = b.second },
  record { after_two = b.after_two; instead = λ e. absurd (not_false e) },
)

-- in place of the last ply
explained_instead : (start : Parts) (ply : Ply) (earlier : List Ply) (seen : List ℕ) → IsBegunOtherwise (reached start (moves_of earlier)) (Some ply.mv) seen
    → IsExplained start (moves_of (ply ∷ earlier)) seen
explained_instead start ply earlier seen b = (
  record { corrects = true; first = b.first; second = b.second },
  record { after_two = b.after_two; instead = λ e h. b.otherwise (ap (λ (m : Move). Some m) (sym h)) },
)

explained_by : (start : Parts) (plies : List Ply) (seen : List ℕ) (corrects : Bool) (m n : Move) → IsAfterTwo (reached start (root corrects (moves_of plies))) seen m n
    → (corrects ≡ true → IsInstead (moves_of plies) m)
    → IsBegunOtherwise (reached start (moves_of plies)) None seen
    ⊎ ((ply : Ply) × (earlier : List Ply) × (plies ≡ ply ∷ earlier) × IsBegunOtherwise (reached start (moves_of earlier)) (Some ply.mv) seen)
explained_by start plies seen false m n two instead =
    inl (record { first = m; second = n; after_two = two; otherwise = λ h. none_move m h })
explained_by start [] seen true m n two instead = absurd (instead refl)
explained_by start (ply ∷ earlier) seen true m n two instead =
    inr (ply, earlier, refl, record { first = m; second = n; after_two = two; otherwise = λ h. instead refl (sym (some_move ply.mv m h)) })

explained_cases : (start : Parts) (plies : List Ply) (seen : List ℕ) → IsExplained start (moves_of plies) seen
    → IsBegunOtherwise (reached start (moves_of plies)) None seen
    ⊎ ((ply : Ply) × (earlier : List Ply) × (plies ≡ ply ∷ earlier) × IsBegunOtherwise (reached start (moves_of earlier)) (Some ply.mv) seen)
explained_cases start plies seen (pair, e) = explained_by start plies seen pair.corrects pair.first pair.second e.after_two e.instead

none_pair : {A : Type 0} (a : A) → None ≡ Some a → ⊥
none_pair a h = cc

-- where there is no ply
pub explained_by_none : (start : Parts) (plies : List Ply) (seen : List ℕ) (ends : Option (Parts × Ply)) → ends ≡ None
    → ((ply : Ply) (earlier : List Ply) → plies ≡ ply ∷ earlier → ends ≡ Some (reached start (moves_of earlier), ply))
    → (IsBegunOtherwise (reached start (moves_of plies)) None seen → ⊥) → IsExplained start (moves_of plies) seen → ⊥
explained_by_none start plies seen ends none last next h = elim (explained_cases start plies seen h) [
  | inl b ↦ next b
  | inr t ↦ none_pair _ (sym none ∙ last t.0 t.1 t.2)
]

other_last : (start : Parts) (ply : Ply) (earlier : List Ply) (seen : List ℕ) (before : Parts) (last : Ply)
    → reached start (moves_of earlier) ≡ before → ply ≡ last → (one : Ply) (others : List Ply) → ply ∷ earlier ≡ one ∷ others
    → IsBegunOtherwise (reached start (moves_of others)) (Some one.mv) seen → IsBegunOtherwise before (Some last.mv) seen
other_last start ply earlier seen before last here this one others same b =
    let ones : one ≡ last = let e : ply ≡ one = cc in sym e ∙ this in
    let those : reached start (moves_of others) ≡ before = let e : earlier ≡ others = cc in ap (λ (xs : List Ply). reached start (moves_of xs)) (sym e) ∙ here in
    let B : Parts → Type 0 = λ p. IsBegunOtherwise p (Some last.mv) seen in
    let L : Ply → Type 0 = λ x. IsBegunOtherwise (reached start (moves_of others)) (Some x.mv) seen in
    subst B those (subst L ones b)

some_same : (x y : Parts × Ply) → Some x ≡ Some y → x ≡ y
some_same x y h = cc

pair_same : (x : Option (Parts × Ply)) (p q : Parts) (a b : Ply) → x ≡ Some (p, a) → x ≡ Some (q, b) → (p ≡ q) × (a ≡ b)
pair_same x p q a b h k =
    let same = some_same (p, a) (q, b) (sym h ∙ k) in
    (ap (λ (y : Parts × Ply). y.0) same, ap (λ (y : Parts × Ply). y.1) same)

-- where there is one, and the pictures that go on from it were tried
pub explained_at_last : (start : Parts) (plies : List Ply) (seen : List ℕ) (ends : Option (Parts × Ply)) (before : Parts) (last : Ply) (found : Bool)
    → ends ≡ Some (before, last)
    → ((ply : Ply) (earlier : List Ply) → plies ≡ ply ∷ earlier → ends ≡ Some (reached start (moves_of earlier), ply))
    → (plies ≡ [] → ends ≡ None)
    → (IsBegunOtherwise (reached start (moves_of plies)) None seen → ⊥)
    → IsTrue found ↔ IsBegunOtherwise before (Some last.mv) seen
    → IsTrue found ↔ IsExplained start (moves_of plies) seen
explained_at_last start [] seen ends before last found is some none next tried = absurd (none_pair _ (sym (none refl) ∙ is))
explained_at_last start (ply ∷ earlier) seen ends before last found is some none next tried =
    let same = pair_same ends (reached start (moves_of earlier)) before ply last (some ply earlier refl) is in
    let here = same.0 in
    let this = same.1 in
    let B : Parts → Type 0 = λ p. IsBegunOtherwise p (Some ply.mv) seen in
    let L : Ply → Type 0 = λ x. IsBegunOtherwise before (Some x.mv) seen in (
      λ t. explained_instead start ply earlier seen (subst B (sym here) (subst L (sym this) (tried.0 t))),
      λ h. elim (explained_cases start (ply ∷ earlier) seen h) [
        | inl b ↦ absurd (next b)
        | inr t ↦ tried.1 (other_last start ply earlier seen before last here this t.0 t.1 t.2 t.3)
      ],
    )

-- One more pair begins with this move.
pub one_more : (items : List TwoPlies) (last : Option Move) (i : ℕ) (two : TwoPlies) → i < length items → two ≡ slice_index_or items i two → last ≡ Some two.first
    → ((x : TwoPlies) (k : ℕ) → k < i → slice_index_or items k x ≡ x → last ≡ Some x.first)
    → (x : TwoPlies) (k : ℕ) → k < i + 1 → slice_index_or items k x ≡ x → last ≡ Some x.first
one_more items last i two low at is before x k below same = elim (cases_eq k i) [
  | inl e ↦
      let here : two ≡ x = at ∙ get_or_default items i two x low ∙ ap (λ j. slice_index_or items j x) (sym e) ∙ same in
      subst (λ (z : TwoPlies). last ≡ Some z.first) here is
  | inr ne ↦ before x k (omega (arith, below, ne)) same
]

pub all_begin_so : (p : Parts) (items : List TwoPlies) (last : Option Move) (seen : List ℕ) (n : ℕ) → n ≡ length items
    → ((x : TwoPlies) → Contains items x ↔ IsAfterTwo p seen x.first x.second)
    → ((x : TwoPlies) (k : ℕ) → k < n → slice_index_or items k x ≡ x → last ≡ Some x.first)
    → IsBegunOtherwise p last seen → ⊥
all_begin_so p items last seen n end lists so b =
    let two : TwoPlies = record { first = b.first; second = b.second } in
    let at = (lists two).1 b.after_two in
    b.otherwise (so two at.0 (rw end at.1) at.2)
