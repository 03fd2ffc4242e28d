-- One more byte of a value.
use Rattle.std.proofs.Common.{◌≡◌, ℕ, ◌+◌, ◌<◌, ◌≤◌, Bool, true, false, not, eqb, cond, List, [], ◌∷◌, ◌++◌, length, get_or, drop, Option, Some, refl, sym, ap, ◌∙◌, append_assoc, arith, length-append, rules, tests}
use Rattle.std.specs.Prelude.{◌||◌}
use Rattle.std.specs.List.{All}
use Rattle.std.proofs.lemmas.List.Elements.{All-push}
use Rattle.std.proofs.Math.Seq.{get_or-append_seam}
use Rattle.std.proofs.lemmas.List.{drop_more}
use denote.Ref.{Bor}
use Rattle.chess_game.specs.Values.{IsText, IsShort, IsPrintable}
use Rattle.pgn_book.specs.Inside.Parse.{is_plain, value_at, after_value, words, words_behind, is_move, is_comment, time_at, clock_at, turns_at}

pub plain_step : (q : Bool) (b : ℕ) (r : List ℕ) → is_plain q b ≡ true → (value_at q (b ∷ r) ≡ b ∷ value_at false r) × (after_value q (b ∷ r) ≡ after_value false r)
plain_step true b r e = (refl, refl)
plain_step false b r e =
    elim (eqb b 34) as (λ x. not (x || eqb b 92) ≡ true → (cond x [] (cond (eqb b 92) (value_at true r) (b ∷ value_at false r)) ≡ b ∷ value_at false r) × (cond x r (cond (eqb b 92) (after_value true r) (after_value false r)) ≡ after_value false r)) [
      | true ↦ λ h. absurd cc
      | false ↦ λ h. elim (eqb b 92) as (λ y. not y ≡ true → (cond y (value_at true r) (b ∷ value_at false r) ≡ b ∷ value_at false r) × (cond y (after_value true r) (after_value false r) ≡ after_value false r)) [ true ↦ λ k. absurd cc | false ↦ λ k. (refl, refl) ] h
    ] e

-- what is not plain is not behind a backslash, and is a quotation mark or a backslash
pub other_step : (q : Bool) (b : ℕ) → is_plain q b ≡ false → (q ≡ false) × ((eqb b 34 || eqb b 92) ≡ true)
other_step true b e = absurd cc
other_step false b e = (refl, elim (eqb b 34 || eqb b 92) as (λ x. not x ≡ false → x ≡ true) [ true ↦ λ h. refl | false ↦ λ h. absurd cc ] e)

-- a value has no byte that was refused
pub refused_value : (front more : List ℕ) (b : ℕ) → ((31 < b) × (b < 127) × (length front < 100) → ⊥) → IsText (front ++ b ∷ more) × IsShort (front ++ b ∷ more) → ⊥
refused_value front more b bad h =
    let len = length-append front (b ∷ more) in
    let short : length front < 100 = omega (arith, h.1) in
    let at = rw get_or-append_seam at (h.0 (length front) 0 (omega arith)) in
    bad (at.0, at.1, short)

-- ---- a clock behind a word

pub clock_is : (ws : List (List ℕ)) (word : List ℕ) (behind : Option (Bor (List ℕ))) (more : Bor (List ℕ)) (time : List ℕ) (tail : List (List ℕ))
    → ws ≡ word ∷ words_behind behind → behind ≡ Some more → is_comment word ≡ true → words more.now ≡ time ∷ tail → clock_at ws ≡ Some (time_at time)
clock_is ws word behind more time tail e b c w =
    let whole : ws ≡ word ∷ time ∷ tail = e ∙ ap (λ (o : Option (Bor (List ℕ))). word ∷ words_behind o) b ∙ ap (λ (x : List (List ℕ)). word ∷ x) w in
    ap clock_at whole ∙ rw c refl

pub turns_step : (ws : List (List ℕ)) (word : List ℕ) (rest : List (List ℕ)) → ws ≡ word ∷ rest → is_move word ≡ true → turns_at ws ≡ record { san = word; clock = clock_at rest } ∷ turns_at rest
turns_step ws word rest e m = ap turns_at e ∙ rw m refl

-- ---- a loop over a value's bytes

-- i bytes were read, and gave items
pub record IsReadTo (bs items : List ℕ) (q : Bool) (i : ℕ) : Type 0 where
  pub value : value_at false bs ≡ items ++ value_at q (drop i bs)
  pub after : after_value false bs ≡ after_value q (drop i bs)
  pub printable : All IsPrintable items
  pub short : length items ≤ 100

pub kept_more : (bs items : List ℕ) (q : Bool) (i : ℕ) → i < length bs → IsReadTo bs items q i → is_plain q (get_or bs i 0) ≡ true
    → (31 < get_or bs i 0) × (get_or bs i 0 < 127) × (length items < 100) → IsReadTo bs (items ++ get_or bs i 0 ∷ []) false (i + 1)
kept_more bs items q i lt h plain fits =
    let b = get_or bs i 0 in
    let rest = drop (i + 1) bs in
    let cut = drop_more bs i 0 lt in
    let step = plain_step q b rest plain in
    record {
      value = h.value ∙ ap (λ (x : List ℕ). items ++ value_at q x) cut ∙ ap (λ (x : List ℕ). items ++ x) step.0 ∙ sym (append_assoc items (b ∷ []) (value_at false rest));
      after = h.after ∙ ap (after_value q) cut ∙ step.1;
      printable = All-push IsPrintable items b h.printable (fits.0, fits.1);
      short = omega (arith, length-append items (b ∷ []));
    }

not_quote : (b : ℕ) → (b ≡ 34 → ⊥) → eqb b 34 ≡ false
not_quote b h = search (rules, tests, h)

backslash : (x y : Bool) → x ≡ false → (x || y) ≡ true → y ≡ true
backslash true y e h = absurd cc
backslash false y e h = h

pub quoted_more : (bs items : List ℕ) (q : Bool) (i : ℕ) → i < length bs → IsReadTo bs items q i → is_plain q (get_or bs i 0) ≡ false
    → (get_or bs i 0 ≡ 34 → ⊥) → IsReadTo bs items true (i + 1)
quoted_more bs items q i lt h plain other =
    let b = get_or bs i 0 in
    let rest = drop (i + 1) bs in
    let cut = drop_more bs i 0 lt in
    let o = other_step q b plain in
    let no34 = not_quote b other in
    let is92 = backslash (eqb b 34) (eqb b 92) no34 o.1 in
    let value : value_at false (b ∷ rest) ≡ value_at true rest = rw (no34, is92) refl in
    let after : after_value false (b ∷ rest) ≡ after_value true rest = rw (no34, is92) refl in
    record {
      value = h.value ∙ ap (λ (x : List ℕ). items ++ value_at q x) cut ∙ ap (λ (x : Bool). items ++ value_at x (b ∷ rest)) o.0 ∙ ap (λ (x : List ℕ). items ++ x) value;
      after = h.after ∙ ap (after_value q) cut ∙ ap (λ (x : Bool). after_value x (b ∷ rest)) o.0 ∙ after;
      printable = h.printable;
      short = h.short;
    }

-- ---- the same loop over what stands behind a value

pub plain_passed : (bs : List ℕ) (q : Bool) (i : ℕ) → i < length bs → after_value false bs ≡ after_value q (drop i bs) → is_plain q (get_or bs i 0) ≡ true
    → after_value false bs ≡ after_value false (drop (i + 1) bs)
plain_passed bs q i lt h plain = h ∙ ap (after_value q) (drop_more bs i 0 lt) ∙ (plain_step q (get_or bs i 0) (drop (i + 1) bs) plain).1

pub quoted_passed : (bs : List ℕ) (q : Bool) (i : ℕ) → i < length bs → after_value false bs ≡ after_value q (drop i bs) → is_plain q (get_or bs i 0) ≡ false
    → (get_or bs i 0 ≡ 34 → ⊥) → after_value false bs ≡ after_value true (drop (i + 1) bs)
quoted_passed bs q i lt h plain other =
    let b = get_or bs i 0 in
    let rest = drop (i + 1) bs in
    let o = other_step q b plain in
    let no34 = not_quote b other in
    let is92 = backslash (eqb b 34) (eqb b 92) no34 o.1 in
    let after : after_value false (b ∷ rest) ≡ after_value true rest = rw (no34, is92) refl in
    h ∙ ap (after_value q) (drop_more bs i 0 lt) ∙ ap (λ (x : Bool). after_value x (b ∷ rest)) o.0 ∙ after

pub quote_ends : (bs : List ℕ) (q : Bool) (i : ℕ) → i < length bs → after_value false bs ≡ after_value q (drop i bs) → is_plain q (get_or bs i 0) ≡ false
    → get_or bs i 0 ≡ 34 → after_value false bs ≡ drop (i + 1) bs
quote_ends bs q i lt h plain quote =
    let b = get_or bs i 0 in
    let rest = drop (i + 1) bs in
    let o = other_step q b plain in
    let is34 : eqb b 34 ≡ true = ap (λ (x : ℕ). eqb x 34) quote in
    let after : after_value false (b ∷ rest) ≡ rest = rw is34 refl in
    h ∙ ap (after_value q) (drop_more bs i 0 lt) ∙ ap (λ (x : Bool). after_value x (b ∷ rest)) o.0 ∙ after
