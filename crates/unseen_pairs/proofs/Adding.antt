-- Pairs are listed.
use Rattle.std.proofs.Common.{◌≡◌, ◌↔◌, ◌⊎◌, ℕ, ◌<◌, ◌+◌, inl, inr, List, [], ◌∷◌, ◌++◌, Contains, Option, None, Some, Result, Ok, Err, OnOk, slice_index_or, length, refl, sym, ap, subst, ◌∙◌, arith}
use Rattle.std.proofs.lemmas.Bool.{cases_eq}
use Rattle.std.proofs.lemmas.List.{get_or_default}
use Rattle.std.proofs.lemmas.List.Elements.{Contains-append_left, Contains-push, Contains-push_cases}
use Rattle.chess_rules.specs.declared.pieces.Kind.{Kind}
use Rattle.chess_rules.specs.declared.pieces.Kind.TheVariants.{Pawn, Rook, Knight, Bishop, King, Queen}
use Rattle.chess_rules.specs.declared.chess_move.Move.{Move}
use Rattle.chess_rules.specs.declared.parts.Parts.{Parts}
use Rattle.chess_rules.specs.After.{after}
use Rattle.chess_rules.specs.Legal.{IsOfficer, Legal}
use Rattle.chess_rules.specs.Moves.{ListsLegal}
use Rattle.chess_rules.specs.Valid.{Valid}
use Rattle.chess_rules.proofs.LawLemmas.{moves_stay_valid}
use Rattle.chess_rules.proofs.Tells.{same_move}
use Rattle.settle_core.specs.Settling.{Settles}
use Rattle.unseen_pairs.specs.declared.pair.TwoPlies.{TwoPlies}
use Rattle.unseen_pairs.specs.Pairs.{IsAfterTwo}
use Rattle.unseen_pairs.specs.Inside.Beginning.{AddsMoves, IsBetween, ListsFirst}
use Rattle.unseen_pairs.specs.Inside.Explaining.{AddsPairs, ListsPairs}
use Rattle.unseen_pairs.proofs.Putting.{settles_own}

same_two : (x y : TwoPlies) → x.first ≡ y.first → x.second ≡ y.second → y ≡ x
same_two x y f s =
    let a : y ≡ record y { first = x.first } = ap (λ (q : Move). record y { first = q }) (sym f) in
    let b : record y { first = x.first } ≡ x = ap (λ (q : Move). record x { second = q }) (sym s) in
    a ∙ b

-- one more pair, whose second ply the picture settles
pub adds_one :
    (p : Parts) (seen : List ℕ) (m n : Move) (y : TwoPlies) (old new : List TwoPlies)
    → new ≡ old ++ y ∷ [] → y.first ≡ m → y.second ≡ n → Legal p m → Settles (after p m) seen n → AddsPairs p seen m old new
adds_one p seen m n y old new is f s l settles =
    let In : TwoPlies → List TwoPlies → Type 0 = λ x xs. Contains xs x in
    let two : IsAfterTwo p seen m n = record { first = l; second = settles.legal; shows = settles.shows } in
    let own : IsAfterTwo p seen y.first y.second =
    subst (λ (z : Move). IsAfterTwo p seen z y.second) (sym f) (subst (λ (z : Move). IsAfterTwo p seen m z) (sym s) two) in
    record {
      sound = λ x c.
          elim (Contains-push_cases old y x (subst (In x) is c)) [
            | inl h ↦ inl h
            | inr h ↦ inr (ap (λ (z : TwoPlies). z.first) (sym h) ∙ f, subst (λ (z : TwoPlies). IsAfterTwo p seen z.first z.second) h own)
          ];
      keeps = λ x c. subst (In x) (sym is) (Contains-append_left old (y ∷ []) x c);
      whole = λ x a h.
          let given : IsAfterTwo p seen m x.second = subst (λ (z : Move). IsAfterTwo p seen z x.second) a h in
          let q : y ≡ x = same_two x y (a ∙ sym f) (settles.alone x.second given.second given.shows ∙ sym s) in
          subst (In x) (sym is) (subst (λ (z : TwoPlies). Contains (old ++ y ∷ []) z) q (Contains-push old y));
    }

-- the first moves
pub lists_none : (p : Parts) (seen : List ℕ) (moves : List Move) → ListsPairs p seen moves 0 []
lists_none p seen moves = record {
  sound = λ x c. absurd (let low : c.0 < 0 = c.1 in let n : ⊥ = omega arith in n);
  whole = λ x k low. absurd (let n : ⊥ = omega arith in n);
}

pub lists_more :
    (p : Parts) (seen : List ℕ) (m : Move) (moves : List Move) (i : ℕ) (now new : List TwoPlies)
    → i < length moves
    → m ≡ slice_index_or moves i m
    → ListsPairs p seen moves i now
    → AddsPairs p seen m now new
    → ListsPairs p seen moves (i + 1) new
lists_more p seen m moves i now new low is so add = record {
  sound = λ x c. elim (add.sound x c) [ inl before ↦ so.sound x before | inr h ↦ h.1 ];
  whole = λ x k below at two.
      elim (cases_eq k i) [
        | inr ne ↦ add.keeps x (so.whole x k (omega arith) at two)
        | inl e ↦
            let f : x.first ≡ m = sym at ∙ ap (λ j. slice_index_or moves j x.first) e ∙ get_or_default moves i x.first m low ∙ sym is in
            add.whole x f two
      ];
}

-- a move that is no first ply
pub adds_no_pairs : (p : Parts) (seen : List ℕ) (m : Move) (old : List TwoPlies) → ((n : Move) → ¬ IsAfterTwo p seen m n) → AddsPairs p seen m old old
adds_no_pairs p seen m old never = record {
  sound = λ x c. inl c;
  keeps = λ x c. c;
  whole = λ x f two. absurd (never x.second (subst (λ (z : Move). IsAfterTwo p seen z x.second) f two));
}

-- nor is one whose reply the picture does not settle
pub adds_no_reply :
    (p : Parts) (seen : List ℕ) (m : Move) (old : List TwoPlies)
    → Valid p → Legal p m → ((n : Move) → ¬ Settles (after p m) seen n) → AddsPairs p seen m old old
adds_no_reply p seen m old v l never =
    adds_no_pairs p seen m old
    (λ n two.
    let own = settles_own (after p m) n (moves_stay_valid p m v l) two.second in
    never n (record { legal = two.second; shows = two.shows; alone = λ k a b. own.alone k a (sym two.shows ∙ b) }))

pub lists_all :
    (p : Parts) (seen : List ℕ) (moves : List Move) (i : ℕ) (pairs : List TwoPlies)
    → ListsFirst p seen moves
    → i ≡ length moves
    → ListsPairs p seen moves i pairs
    → (x : TwoPlies) → Contains pairs x ↔ IsAfterTwo p seen x.first x.second
lists_all p seen moves i pairs lists end so = λ x. (
  λ c. so.sound x c,
  λ two. let at : Contains moves x.first = lists.whole x.first x.second two in so.whole x at.0 (rw end at.1) at.2 two,
)

pub legal_at : (p : Parts) (seen : List ℕ) (moves : List Move) (i : ℕ) (m : Move) → ListsFirst p seen moves → i < length moves → m ≡ slice_index_or moves i m → Legal p m
legal_at p seen moves i m lists low is = lists.legal m (i, low, sym is)

-- all legal moves are such a list
pub all_legal : (p : Parts) (seen : List ℕ) (moves : List Move) → ListsLegal p moves → ListsFirst p seen moves
all_legal p seen moves lists = record {
  legal = λ m c. let each = lists.each m in each.0 c;
  whole = λ m n two. let each = lists.each m in each.1 two.first;
}

-- one more move, where it is legal
pub adds_move : (p : Parts) (m : Move) (old new : List Move) → new ≡ old ++ m ∷ [] → Legal p m → AddsMoves p (λ k. k ≡ m) old new
adds_move p m old new is l =
    let In : Move → List Move → Type 0 = λ k xs. Contains xs k in
    record {
      legal = λ k c. elim (Contains-push_cases old m k (subst (In k) is c)) [ inl h ↦ inl h | inr h ↦ inr (subst (λ (z : Move). Legal p z) h l) ];
      keeps = λ k c. subst (In k) (sym is) (Contains-append_left old (m ∷ []) k c);
      whole = λ k e legal. subst (In k) (sym is) (subst (λ (z : Move). Contains (old ++ m ∷ []) z) (sym e) (Contains-push old m));
    }

pub adds_no_move : (p : Parts) (These : Move → Type 0) (old : List Move) → ((m : Move) → These m → ¬ Legal p m) → AddsMoves p These old old
adds_no_move p These old never = record { legal = λ m c. inl c; keeps = λ m c. c; whole = λ m t l. absurd (never m t l) }

-- first some, and then others
pub adds_both : (p : Parts) (These Those All : Move → Type 0) (a b c : List Move) → AddsMoves p These a b → AddsMoves p Those b c
    → ((m : Move) → Legal p m → All m → These m ⊎ Those m) → AddsMoves p All a c
adds_both p These Those All a b c first second each = record {
  legal = λ m k. elim (second.legal m k) [ inl h ↦ first.legal m h | inr l ↦ inr l ];
  keeps = λ m k. second.keeps m (first.keeps m k);
  whole = λ m k l. elim (each m l k) [ inl h ↦ second.keeps m (first.whole m h l) | inr h ↦ second.whole m h l ];
}

pub adds_fewer : (p : Parts) (These Fewer : Move → Type 0) (old new : List Move) → AddsMoves p These old new
    → ((m : Move) → Legal p m → Fewer m → These m) → AddsMoves p Fewer old new
adds_fewer p These Fewer old new adds each = record { legal = adds.legal; keeps = adds.keeps; whole = λ m k l. adds.whole m (each m l k) l }

pub on_ok : {X E : Type 0} (r : Result X E) (P Q : Type 0) → (P → Q) → OnOk r P → OnOk r Q
on_ok (Ok x) P Q f h = f h
on_ok (Err e) P Q f h = tt

-- one more move, between these squares
pub adds_between : (p : Parts) (from to : ℕ) (promotion : Option Kind) (tried added : Move) (old new : List Move) → new ≡ old ++ added ∷ []
    → IsBetween from to promotion tried → IsBetween from to promotion added
    → Legal p tried → AddsMoves p (IsBetween from to promotion) old new
adds_between p from to promotion tried added old new is t a l =
    let same : added ≡ tried = same_move added tried (a.1 ∙ sym t.1) (a.2 ∙ sym t.2) (a.0 ∙ sym t.0) in
    let one = adds_move p added old new is (subst (λ (z : Move). Legal p z) (sym same) l) in
    record {
      legal = one.legal;
      keeps = one.keeps;
      whole = λ m these legal. one.whole m (same_move m added (these.1 ∙ sym a.1) (these.2 ∙ sym a.2) (these.0 ∙ sym a.0)) legal;
    }

officer : (o : Option Kind) → IsOfficer o → (o ≡ Some Queen) ⊎ (o ≡ Some Rook) ⊎ (o ≡ Some Bishop) ⊎ (o ≡ Some Knight)
officer (Some Queen) h = inl refl
officer (Some Rook) h = inr (inl refl)
officer (Some Bishop) h = inr (inr (inl refl))
officer (Some Knight) h = inr (inr (inr refl))
officer (Some Pawn) h = absurd h
officer (Some King) h = absurd h
officer None h = absurd h

abbrev pub Promotes : ℕ → ℕ → Move → Type 0
Promotes from to m = (m.from ≡ from) × (m.to ≡ to) × IsOfficer m.promotion

-- all promotions between two squares
pub adds_promotions : (p : Parts) (from to : ℕ) (a b c d e : List Move)
    → AddsMoves p (IsBetween from to (Some Queen)) a b → AddsMoves p (IsBetween from to (Some Rook)) b c
    → AddsMoves p (IsBetween from to (Some Bishop)) c d → AddsMoves p (IsBetween from to (Some Knight)) d e
    → AddsMoves p (Promotes from to) a e
adds_promotions p from to a b c d e queen rook bishop knight = record {
  legal = λ m k.
      elim (knight.legal m k) [
        | inr l ↦ inr l
        | inl h ↦ elim (bishop.legal m h) [
          | inr l ↦ inr l
          | inl i ↦ elim (rook.legal m i) [ inr l ↦ inr l | inl j ↦ queen.legal m j ]
        ]
      ];
  keeps = λ m k. knight.keeps m (bishop.keeps m (rook.keeps m (queen.keeps m k)));
  whole = λ m these l.
      elim (officer m.promotion these.2) [
        | inl is ↦ knight.keeps m (bishop.keeps m (rook.keeps m (queen.whole m (is, these.0, these.1) l)))
        | inr other ↦ elim other [
          | inl is ↦ knight.keeps m (bishop.keeps m (rook.whole m (is, these.0, these.1) l))
          | inr last ↦ elim last [
            | inl is ↦ knight.keeps m (bishop.whole m (is, these.0, these.1) l)
            | inr is ↦ knight.whole m (is, these.0, these.1) l
          ]
        ]
      ];
}
