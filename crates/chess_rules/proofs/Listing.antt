-- Listing the legal moves in order.
use Rattle.std.proofs.Common.{◌≡◌, ℕ, ◌+◌, ◌<◌, ◌≤◌, inl, inr, List, [], ◌∷◌, ◌++◌, Option, Some, None, Contains, Result, Ok, Err, OnErr, get_or, length, refl, sym, ap, subst, ◌∙◌, arith, length-append}
use Rattle.std.proofs.lemmas.Bool.{cases_eq, cases_lt}
use Rattle.std.proofs.lemmas.List.{get_or_append_left, get_or_push}
use Rattle.std.proofs.lemmas.List.Elements.{Contains-append_left, Contains-push, Contains-push_cases, Contains-get_or}
use Rattle.chess_rules.specs.declared.pieces.Side.{Side}
use Rattle.chess_rules.specs.declared.pieces.Side.TheVariants.{White, Black}
use Rattle.chess_rules.specs.declared.pieces.Kind.{Kind}
use Rattle.chess_rules.specs.declared.pieces.Kind.TheVariants.{Pawn, Rook, Knight, Bishop, King, Queen}
use Rattle.chess_rules.specs.declared.chess_move.Move.{Move}
use Rattle.chess_rules.specs.declared.parts.Parts.{Parts}
use Rattle.chess_rules.specs.Board.{row, last_row}
use Rattle.chess_rules.specs.After.{king_home}
use Rattle.chess_rules.specs.Legal.{Legal, Goes, step, pawn_step, capture, double_step, en_passant, castling, NamesPromotion, IsOfficer}
use Rattle.chess_rules.specs.Moves.{promotion_place, Precedes, ListsLegal}
use Rattle.chess_rules.specs.Inside.Places.{place, ListsBelow, HasNone}
use Rattle.chess_rules.proofs.Shifts.{on_board}
use Rattle.chess_rules.proofs.Tells.{same_move}

-- the promotion at a place
abbrev promotion_at : ℕ → Option Kind
promotion_at n = get_or (None ∷ Some Queen ∷ Some Rook ∷ Some Bishop ∷ Some Knight ∷ Some Pawn ∷ Some King ∷ []) n None

promotion_at-place : (o : Option Kind) → promotion_at (promotion_place o) ≡ o
promotion_at-place None = refl
promotion_at-place (Some Queen) = refl
promotion_at-place (Some Rook) = refl
promotion_at-place (Some Bishop) = refl
promotion_at-place (Some Knight) = refl
promotion_at-place (Some Pawn) = refl
promotion_at-place (Some King) = refl

same_promotion : (o q : Option Kind) → promotion_place o ≡ promotion_place q → o ≡ q
same_promotion o q e = sym (promotion_at-place o) ∙ ap promotion_at e ∙ promotion_at-place q

-- what a legal move can name
named_none : (o : Option Kind) → o ≡ None → promotion_place o < 5
named_none o e = let z : promotion_place o ≡ 0 = ap promotion_place e in omega arith

named_officer : (o : Option Kind) → IsOfficer o → promotion_place o < 5
named_officer (Some Queen) h = omega arith
named_officer (Some Rook) h = omega arith
named_officer (Some Bishop) h = omega arith
named_officer (Some Knight) h = omega arith
named_officer (Some Pawn) h = absurd h
named_officer (Some King) h = absurd h
named_officer None h = absurd h

named : (side : Side) (k : Kind) (m : Move) → NamesPromotion side k m → promotion_place m.promotion < 5
named side Rook m h = named_none m.promotion h
named side Knight m h = named_none m.promotion h
named side Bishop m h = named_none m.promotion h
named side King m h = named_none m.promotion h
named side Queen m h = named_none m.promotion h
named side Pawn m h =
    elim (cases_eq (row m.to) (last_row side)) [
      | inl l ↦ named_officer m.promotion (h.last l)
      | inr l ↦ named_none m.promotion (h.before l)
    ]

home_low : (side : Side) → king_home side < 64
home_low White = omega arith
home_low Black = omega arith

-- a move that goes leaves a square of the board and names a promotion of the first five
pub record HasPlace (m : Move) : Type 0 where
  pub from : m.from < 64
  pub promotion : promotion_place m.promotion < 5

pub has_place : (p : Parts) (m : Move) → length p.board ≡ 64 → Goes p m → HasPlace m
has_place p m n (step s) = record { from = rw (← n) (on_board p.board m.from p.side s.kind s.stands); promotion = named p.side s.kind m s.promotion }
has_place p m n (pawn_step s) = record { from = rw (← n) (on_board p.board m.from p.side Pawn s.stands); promotion = named p.side Pawn m s.promotion }
has_place p m n (capture s) = record { from = rw (← n) (on_board p.board m.from p.side s.kind s.stands); promotion = named p.side s.kind m s.promotion }
has_place p m n (double_step s) = record { from = rw (← n) (on_board p.board m.from p.side Pawn s.stands); promotion = named_none m.promotion s.promotion }
has_place p m n (en_passant s) = record { from = rw (← n) (on_board p.board m.from p.side Pawn s.stands); promotion = named_none m.promotion s.promotion }
has_place p m n (castling wing s) = record { from = rw s.from (home_low p.side); promotion = named_none m.promotion s.promotion }

-- the numbers of a move are in their ranges
pub record IsSmall (m : Move) : Type 0 where
  pub from : m.from < 64
  pub to : m.to < 64
  pub promotion : promotion_place m.promotion < 5

pub is_small : (p : Parts) (m : Move) → length p.board ≡ 64 → Legal p m → IsSmall m
is_small p m n l = let h : HasPlace m = has_place p m n l.goes in record { from = h.from; to = l.on_board; promotion = h.promotion }

-- moves at one place are one move
same_place : (m n : Move) → IsSmall m → IsSmall n → place m ≡ place n → m ≡ n
same_place m n a b e = same_move m n (omega arith) (omega arith) (same_promotion m.promotion n.promotion (omega arith))

-- the places order the moves
precedes : (m n : Move) → IsSmall m → IsSmall n → place m < place n → Precedes m n
precedes m n a b l =
    elim (cases_lt m.from n.from) [
      | inl f ↦ inl f
      | inr f ↦
          inr (
            omega arith,
            elim (cases_lt m.to n.to) [
              | inl t ↦ inl t
              | inr t ↦ inr (omega arith, omega arith)
            ],
          )
    ]

pub lists_none : (p : Parts) → ListsBelow p [] 0
lists_none p = record { sound = λ m h. absurd (omega (arith, h.1)); whole = λ m l h. absurd (omega arith); ordered = λ i j d l h. absurd (omega arith) }

pub lists_at : (p : Parts) (moves : List Move) (n k : ℕ) → n ≡ k → ListsBelow p moves n → ListsBelow p moves k
lists_at p moves n k e h = let B : ℕ → Type 0 = λ x. ListsBelow p moves x in subst B e h

pub lists_skip :
    (p : Parts) (moves : List Move) (m : Move)
    → length p.board ≡ 64
    → IsSmall m
    → ListsBelow p moves (place m)
    → ¬ Legal p m
    → ListsBelow p moves (place m + 1)
lists_skip p moves m e small h nope =
    record {
      sound = λ q c. let s = h.sound q c in (s.0, omega (arith, s.1));
      whole = λ q l low.
          elim (cases_lt (place q) (place m)) [
            | inl below ↦ h.whole q l below
            | inr above ↦
                let L : Move → Type 0 = λ x. Legal p x in
                absurd (nope (subst L (same_place q m (is_small p q e l) small (omega arith)) l))
          ];
      ordered = h.ordered;
    }

pub lists_more :
    (p : Parts) (moves : List Move) (m : Move)
    → length p.board ≡ 64
    → ListsBelow p moves (place m)
    → Legal p m
    → ListsBelow p (moves ++ m ∷ []) (place m + 1)
lists_more p moves m e h l =
    record {
      sound = λ q c.
          elim (Contains-push_cases moves m q c) [
            | inl old ↦ let s = h.sound q old in (s.0, omega (arith, s.1))
            | inr same ↦
                let S : Move → Type 0 = λ x. Legal p x × (place x < place m + 1) in
                subst S same (l, omega arith)
          ];
      whole = λ q l' low.
          elim (cases_lt (place q) (place m)) [
            | inl below ↦ Contains-append_left moves (m ∷ []) q (h.whole q l' below)
            | inr above ↦
                let C : Move → Type 0 = λ x. Contains (moves ++ m ∷ []) x in
                subst C (same_place m q (is_small p m e l) (is_small p q e l') (omega arith)) (Contains-push moves m)
          ];
      ordered = λ i j d i_j j_low.
          let size : length (moves ++ m ∷ []) ≡ length moves + 1 = length-append moves (m ∷ []) in
          let i_low : i < length moves = omega arith in
          let ei : get_or (moves ++ m ∷ []) i d ≡ get_or moves i d = get_or_append_left moves (m ∷ []) d i i_low in
          elim (cases_lt j (length moves)) [
            | inl old ↦
                let ej : get_or (moves ++ m ∷ []) j d ≡ get_or moves j d = get_or_append_left moves (m ∷ []) d j old in
                rw (ei, ej) (h.ordered i j d i_j old)
            | inr last ↦
                let j_is : length moves ≡ j = omega arith in
                let ej : get_or (moves ++ m ∷ []) j d ≡ m = get_or_push moves m d j j_is in
                let s : place (get_or moves i d) < place m = (h.sound (get_or moves i d) (Contains-get_or moves i d i_low)).1 in
                rw (ei, ej) s
          ];
    }

-- places that hold no legal move are passed
pub lists_pass : (p : Parts) (moves : List Move) (n k : ℕ) → n ≤ k → HasNone p n k → ListsBelow p moves n → ListsBelow p moves k
lists_pass p moves n k le none h =
    record {
      sound = λ m c. let s = h.sound m c in (s.0, omega (arith, s.1));
      whole = λ m l low.
          elim (cases_lt (place m) n) [
            | inl below ↦ h.whole m l below
            | inr above ↦ absurd (none m l above low)
          ];
      ordered = h.ordered;
    }

pub lists_all : (p : Parts) (moves : List Move) → length p.board ≡ 64 → ListsBelow p moves 20480 → ListsLegal p moves
lists_all p moves e h =
    record {
      each = λ m. (λ c. (h.sound m c).0, λ l. let s : IsSmall m = is_small p m e l in h.whole m l (omega arith));
      ordered = λ i j d l low.
          let a : Contains moves (get_or moves i d) = Contains-get_or moves i d (omega arith) in
          let b : Contains moves (get_or moves j d) = Contains-get_or moves j d low in
          precedes (get_or moves i d) (get_or moves j d) (is_small p _ e (h.sound _ a).0) (is_small p _ e (h.sound _ b).0) (h.ordered i j d l low);
    }

-- one place after another
pub none_pass : (p : Parts) (n k l : ℕ) → HasNone p n k → HasNone p k l → HasNone p n l
none_pass p n k l a b m legal low high =
    elim (cases_lt (place m) k) [
      | inl below ↦ a m legal low below
      | inr above ↦ b m legal above high
    ]

-- one place
pub none_one : (p : Parts) (m : Move) → length p.board ≡ 64 → IsSmall m → ¬ Legal p m → HasNone p (place m) (place m + 1)
none_one p m e small nope q l low high =
    let L : Move → Type 0 = λ x. Legal p x in
    nope (subst L (same_place q m (is_small p q e l) small (omega arith)) l)

-- all places
pub none_all : (p : Parts) → length p.board ≡ 64 → HasNone p 0 20480 → (m : Move) → ¬ Legal p m
none_all p e none m l = let s : IsSmall m = is_small p m e l in none m l (omega arith) (omega arith)

-- a fact that stands in any case stands at an error
pub on_err : {T E : Type 0} (P : Type 0) (r : Result T E) → P → OnErr r P
on_err P (Ok value) p = tt
on_err P (Err error) p = p
