-- The fields of a FEN stand between its spaces, and a text reads as one position at most.
use Rattle.std.proofs.Common.{◌≡◌, ◌≢◌, ℕ, ◌+◌, ◌-◌, ◌/◌, ◌%◌, ◌^◌, ◌<◌, Bool, true, false, List, [], ◌∷◌, ◌++◌, length, Option, None, Some, ◌⊎◌, refl, sym, ap, subst, ◌∙◌, arith, rules, tests, inl, inr, length-append, map}
use Rattle.std.specs.Prelude.{decimal}
use Rattle.std.specs.List.{join_with_byte, slice_split, All, AllByRecursion}
use Rattle.std.proofs.lemmas.List.Splits.{slice_split_at, slice_split_none, join_with_byte-slice_split}
use Rattle.std.proofs.lemmas.Bool.{false≢true}
use Rattle.std.proofs.lemmas.List.Elements.{All-from_recursion, recursion_from_All}
use Rattle.std.proofs.lemmas.Fmt.{decimal_by_steps, decimal_digit, decimal_injective}
use Rattle.chess_rules.specs.declared.pieces.Side.{Side}
use Rattle.chess_rules.specs.declared.pieces.Side.TheVariants.{White, Black}
use Rattle.chess_rules.specs.declared.parts.Rights.{Rights}
use Rattle.chess_rules.specs.declared.parts.Parts.{Parts}
use Rattle.chess_rules.specs.declared.parts.Invalid.{Invalid}
use Rattle.chess_rules.specs.declared.parts.Invalid.TheVariants.{Counters, Kings, Pawns, Rights as RightsFail, EnPassant, Check}
use Rattle.chess_rules.specs.Board.{Board, row}
use Rattle.chess_rules.specs.Picture.{code, picture}
use Rattle.chess_rules.specs.Valid.{HasCounters, Valid, FailsFirst, target_row}
use Rattle.chess_rules.proofs.LawLemmas.{boards_of_codes}
use Rattle.chess_text.specs.Placement.{placement}
use Rattle.chess_text.specs.Fen.{side_text, held, or_dash, rights_text, target_text, Fields, six_fields, four_fields, fields_of, fen, short_fen, TellsPosition, whole, short, IsTargetField, IsDigits, AreFields, IsSplit, six, four, HasForm, ReadsCounters, ReadsBoard, ReadsAs, RefusedFirst}
use Rattle.chess_text.specs.declared.fen.FenError.{FenError}
use Rattle.chess_text.specs.declared.fen.FenError.TheVariants as refusal
use Rattle.chess_text.specs.declared.fields.RawFields.{RawFields}
use Rattle.chess_text.specs.Inside.FieldReading.{is_space, split, rights_at, refusal_of, AreRaw, six as raw_six, four as raw_four}
use Rattle.chess_text.proofs.Placements.{one_picture}
use Rattle.chess_text.proofs.PlacementBytes.{placement_bytes, placement_some}
use Rattle.chess_text.proofs.Codes.{board_picture}
use Rattle.chess_text.proofs.Texts.{head_is}

abbrev NoSpace : List ℕ → Type 0
NoSpace bs = All (λ b. is_space b ≡ false) bs

-- fields with no space come back
split_join : (f : List ℕ) (fs : List (List ℕ)) → AllByRecursion NoSpace (f ∷ fs) → slice_split is_space (join_with_byte 32 (f ∷ fs)) ≡ f ∷ fs
split_join f [] h = slice_split_none is_space f h.0
split_join f (g ∷ fs) h = slice_split_at is_space f 32 (join_with_byte 32 (g ∷ fs)) h.0 refl ∙ ap (λ (x : List (List ℕ)). f ∷ x) (split_join g fs h.1)

side_no_space : (side : Side) → AllByRecursion (λ b. is_space b ≡ false) (side_text side)
side_no_space White = (refl, tt)
side_no_space Black = (refl, tt)

castling_no_space : (a b c d : Bool) → AllByRecursion (λ x. is_space x ≡ false) (or_dash (held a 75 ++ (held b 81 ++ (held c 107 ++ held d 113))))
castling_no_space true true true true = (refl, (refl, (refl, (refl, tt))))
castling_no_space true true true false = (refl, (refl, (refl, tt)))
castling_no_space true true false true = (refl, (refl, (refl, tt)))
castling_no_space true true false false = (refl, (refl, tt))
castling_no_space true false true true = (refl, (refl, (refl, tt)))
castling_no_space true false true false = (refl, (refl, tt))
castling_no_space true false false true = (refl, (refl, tt))
castling_no_space true false false false = (refl, tt)
castling_no_space false true true true = (refl, (refl, (refl, tt)))
castling_no_space false true true false = (refl, (refl, tt))
castling_no_space false true false true = (refl, (refl, tt))
castling_no_space false true false false = (refl, tt)
castling_no_space false false true true = (refl, (refl, tt))
castling_no_space false false true false = (refl, tt)
castling_no_space false false false true = (refl, tt)
castling_no_space false false false false = (refl, tt)

no_space : (b : ℕ) → 32 < b → is_space b ≡ false
no_space b h = search (rules, tests, arith)

-- a target lies on the board
pub target_low : (s : ℕ) → IsTargetField (Some s) → s < 64
target_low s (inl e) = omega arith
target_low s (inr e) = omega arith

target_no_space : (t : Option ℕ) → IsTargetField t → AllByRecursion (λ b. is_space b ≡ false) (target_text t)
target_no_space None h = (refl, tt)
target_no_space (Some s) h = (no_space (97 + s % 8) (omega arith), (no_space (56 - s / 8) (omega (arith, target_low s h)), tt))

digits_no_space : (ds : List ℕ) → AllByRecursion (λ b. (47 < b) × (b < 58)) ds → AllByRecursion (λ b. is_space b ≡ false) ds
digits_no_space [] h = tt
digits_no_space (d ∷ ds) h = (no_space d (omega (arith, h.0.0)), digits_no_space ds h.1)

other_no_space : (bs : List ℕ) → AllByRecursion (λ b. b ≢ 32) bs → AllByRecursion (λ b. is_space b ≡ false) bs
other_no_space [] h = tt
other_no_space (b ∷ bs) h = (search (rules, tests, h.0), other_no_space bs h.1)

-- ---- the fields between the spaces

abbrev pub four_of : Fields → List (List ℕ)
four_of f = f.placement ∷ side_text f.side ∷ rights_text f.rights ∷ target_text f.target ∷ []

abbrev pub six_of : Fields → List (List ℕ)
six_of f = f.placement ∷ side_text f.side ∷ rights_text f.rights ∷ target_text f.target ∷ f.halfmove ∷ f.fullmove ∷ []

abbrev Plain : ℕ → Type 0
Plain b = is_space b ≡ false

pub six_back : (f : Fields) → AreFields f → split (six_fields f) ≡ six_of f
six_back f h =
    split_join f.placement (side_text f.side ∷ rights_text f.rights ∷ target_text f.target ∷ f.halfmove ∷ f.fullmove ∷ []) (
      All-from_recursion Plain f.placement (other_no_space f.placement (recursion_from_All (λ b. b ≢ 32) f.placement h.no_space)),
      (
        All-from_recursion Plain (side_text f.side) (side_no_space f.side),
        (
          All-from_recursion Plain (rights_text f.rights) (castling_no_space f.rights.white_king f.rights.white_queen f.rights.black_king f.rights.black_queen),
          (
            All-from_recursion Plain (target_text f.target) (target_no_space f.target h.target),
            (
              All-from_recursion Plain f.halfmove (digits_no_space f.halfmove (recursion_from_All (λ b. (47 < b) × (b < 58)) f.halfmove h.halfmove.1)),
              (All-from_recursion Plain f.fullmove (digits_no_space f.fullmove (recursion_from_All (λ b. (47 < b) × (b < 58)) f.fullmove h.fullmove.1)), tt),
            ),
          ),
        ),
      ),
    )

pub four_back : (f : Fields) → AreFields f → split (four_fields f) ≡ four_of f
four_back f h =
    split_join f.placement (side_text f.side ∷ rights_text f.rights ∷ target_text f.target ∷ []) (
      All-from_recursion Plain f.placement (other_no_space f.placement (recursion_from_All (λ b. b ≢ 32) f.placement h.no_space)),
      (
        All-from_recursion Plain (side_text f.side) (side_no_space f.side),
        (
          All-from_recursion Plain (rights_text f.rights) (castling_no_space f.rights.white_king f.rights.white_queen f.rights.black_king f.rights.black_queen),
          (All-from_recursion Plain (target_text f.target) (target_no_space f.target h.target), tt),
        ),
      ),
    )

-- ---- the fields give the parts back

rights_by : (a b c d : Bool) → rights_at (or_dash (held a 75 ++ (held b 81 ++ (held c 107 ++ held d 113)))) ≡ record { white_king = a; white_queen = b; black_king = c; black_queen = d }
rights_by true true true true = refl
rights_by true true true false = refl
rights_by true true false true = refl
rights_by true true false false = refl
rights_by true false true true = refl
rights_by true false true false = refl
rights_by true false false true = refl
rights_by true false false false = refl
rights_by false true true true = refl
rights_by false true true false = refl
rights_by false true false true = refl
rights_by false true false false = refl
rights_by false false true true = refl
rights_by false false true false = refl
rights_by false false false true = refl
rights_by false false false false = refl

pub rights_back : (r : Rights) → rights_at (rights_text r) ≡ r
rights_back r = rights_by r.white_king r.white_queen r.black_king r.black_queen

side_same : (s t : Side) → side_text s ≡ side_text t → s ≡ t
side_same White White e = refl
side_same White Black e = absurd (omega (arith, (head_is 119 98 [] [] e).0))
side_same Black White e = absurd (omega (arith, (head_is 98 119 [] [] e).0))
side_same Black Black e = refl

field_is : (a b : List ℕ) (xs ys : List (List ℕ)) → a ∷ xs ≡ b ∷ ys → (a ≡ b) × (xs ≡ ys)
field_is a b xs ys e = (cc, cc)

target_same : (s t : Option ℕ) → IsTargetField s → IsTargetField t → target_text s ≡ target_text t → s ≡ t
target_same None None h k e = refl
target_same None (Some t) h k e = absurd (omega (arith, ap length e))
target_same (Some s) None h k e = absurd (omega (arith, ap length e))
target_same (Some s) (Some t) h k e =
    let a = head_is (97 + s % 8) (97 + t % 8) ((56 - s / 8) ∷ []) ((56 - t / 8) ∷ []) e in
    let b = head_is (56 - s / 8) (56 - t / 8) [] [] a.1 in
    let ls = target_low s h in
    let lt = target_low t k in
    let same : s ≡ t = omega (arith, a.0, b.0, ls, lt) in
    ap Some same

-- the fields of a text, as bytes
pub record HasBytes (f : Fields) (a b c d e g : List ℕ) : Type 0 where
  pub placement : a ≡ f.placement
  pub side : b ≡ side_text f.side
  pub castling : c ≡ rights_text f.rights
  pub target : d ≡ target_text f.target
  pub halfmove : e ≡ f.halfmove
  pub fullmove : g ≡ f.fullmove

pub bytes_of_six : (text a b c d e g : List ℕ) (f : Fields) → split text ≡ a ∷ b ∷ c ∷ d ∷ e ∷ g ∷ [] → AreFields f → text ≡ six_fields f → HasBytes f a b c d e g
bytes_of_six text a b c d e g f s h t =
    let f0 = field_is a f.placement _ _ (sym s ∙ ap split t ∙ six_back f h) in
    let f1 = field_is b (side_text f.side) _ _ f0.1 in
    let f2 = field_is c (rights_text f.rights) _ _ f1.1 in
    let f3 = field_is d (target_text f.target) _ _ f2.1 in
    let f4 = field_is e f.halfmove _ _ f3.1 in
    let f5 = field_is g f.fullmove [] [] f4.1 in
    record { placement = f0.0; side = f1.0; castling = f2.0; target = f3.0; halfmove = f4.0; fullmove = f5.0 }

pub bytes_of_four : (text a b c d e g : List ℕ) (f : Fields) → split text ≡ a ∷ b ∷ c ∷ d ∷ [] → e ≡ f.halfmove → g ≡ f.fullmove → AreFields f → text ≡ four_fields f → HasBytes f a b c d e g
bytes_of_four text a b c d e g f s he ge h t =
    let f0 = field_is a f.placement _ _ (sym s ∙ ap split t ∙ four_back f h) in
    let f1 = field_is b (side_text f.side) _ _ f0.1 in
    let f2 = field_is c (rights_text f.rights) _ _ f1.1 in
    let f3 = field_is d (target_text f.target) [] [] f2.1 in
    record { placement = f0.0; side = f1.0; castling = f2.0; target = f3.0; halfmove = he; fullmove = ge }

same_fields : (f g : Fields) → AreFields f → AreFields g → HasBytes g f.placement (side_text f.side) (rights_text f.rights) (target_text f.target) f.halfmove f.fullmove → f ≡ g
same_fields f g h k b =
    let side = side_same f.side g.side b.side in
    let rights : f.rights ≡ g.rights = sym (rights_back f.rights) ∙ ap rights_at b.castling ∙ rights_back g.rights in
    let target = target_same f.target g.target h.target k.target b.target in
    rw (b.placement, side, rights, target, b.halfmove, b.fullmove) refl

six_or_four : (text : List ℕ) (f g : Fields) → AreFields f → AreFields g → text ≡ six_fields f → text ≡ four_fields g → ⊥
six_or_four text f g h k a b = omega (arith, ap length (sym (six_back f h) ∙ ap split (sym a ∙ b) ∙ four_back g k))

one_split : (text : List ℕ) (f g : Fields) → AreFields f → AreFields g → IsSplit text f → IsSplit text g → f ≡ g
one_split text f g h k (six a) (six b) = same_fields f g h k (bytes_of_six text _ _ _ _ _ _ g (ap split a ∙ six_back f h) k b)
one_split text f g h k (four c d a) (four e i b) = same_fields f g h k (bytes_of_four text _ _ _ _ _ _ g (ap split a ∙ four_back f h) (c ∙ sym e) (d ∙ sym i) k b)
one_split text f g h k (six a) (four e i b) = absurd (six_or_four text f g h k a b)
one_split text f g h k (four c d a) (six b) = absurd (six_or_four text g f k h b a)

-- a text has the form with one list of fields at most
pub one_form : (text : List ℕ) (f g : Fields) → HasForm text f → HasForm text g → f ≡ g
one_form text f g h k = one_split text f g h.are_fields k.are_fields h.split k.split

-- ---- the text of a position's parts is of the form

pub All-append : {X : Type 0} (P : X → Type 0) (xs ys : List X) → AllByRecursion P xs → AllByRecursion P ys → AllByRecursion P (xs ++ ys)
All-append P [] ys h k = k
All-append P (x ∷ xs) ys h k = (h.0, All-append P xs ys h.1 k)

abbrev pub IsDigit : ℕ → Type 0
IsDigit b = (47 < b) × (b < 58)

pub digits_of : (n : ℕ) → n < 2 ^ 64 → AllByRecursion IsDigit (decimal n) × (0 < length (decimal n))
digits_of n lt = decimal_by_steps (λ m ds. AllByRecursion IsDigit ds × (0 < length ds))
    (λ m low. (((omega arith, omega arith), tt), omega arith))
    (λ m ds high h. (All-append IsDigit ds ((48 + m % 10) ∷ []) h.0 ((omega arith, omega arith), tt), omega (arith, length-append ds ((48 + m % 10) ∷ []))))
    n lt

pub decimal_digits : (n : ℕ) → n < 2 ^ 64 → IsDigits (decimal n)
decimal_digits n lt = let d = digits_of n lt in (d.1, All-from_recursion IsDigit (decimal n) d.0)

pub parts_fields : (p : Parts) → length p.board ≡ 64 → IsTargetField p.target → HasCounters p → AreFields (fields_of p)
parts_fields p l t h =
    let board = picture p in
    record {
      some = placement_some board;
      no_space = λ k d lt e. let b = (placement_bytes board).bytes k d lt in omega (arith, b.0, e);
      target = t;
      halfmove = decimal_digits p.halfmove (omega (arith, h.halfmove));
      fullmove = decimal_digits p.fullmove (omega (arith, h.fullmove));
    }

tells_split : (text : List ℕ) (p : Parts) → TellsPosition text p → IsSplit text (fields_of p)
unfolding fen short_fen
tells_split text p (whole e) = six e
tells_split text p (short h f e) = four (ap decimal h ∙ decimal_digit 0 (omega arith)) (ap decimal f ∙ decimal_digit 1 (omega arith)) e

pub reads_form : (text : List ℕ) (p : Parts) → ReadsAs text p → HasForm text (fields_of p)
reads_form text p r = record { are_fields = parts_fields p r.squares r.target r.counters; split = tells_split text p r.tells }

pub reads_counters : (p : Parts) → HasCounters p → ReadsCounters (fields_of p)
reads_counters p h = record {
  halfmove = p.halfmove;
  halfmove_text = refl;
  halfmove_fits = omega (arith, h.halfmove);
  fullmove = p.fullmove;
  fullmove_text = refl;
  fullmove_fits = omega (arith, h.fullmove);
  started = h.started;
}

pub reads_board : (p : Parts) → length p.board ≡ 64 → ReadsBoard (fields_of p)
reads_board p l = record { board = p.board; squares = l; text = refl }

-- a text reads as one position's parts at most
pub one_reading : (text : List ℕ) (p q : Parts) → ReadsAs text p → ReadsAs text q → p ≡ q
one_reading text p q h k =
    let f = one_form text (fields_of p) (fields_of q) (reads_form text p h) (reads_form text q k) in
    let picture = one_picture (picture p) (picture q) (board_picture p.board h.squares) (board_picture q.board k.squares) (ap (λ (x : Fields). x.placement) f) in
    let board = boards_of_codes p.board q.board picture in
    let halfmove = decimal_injective p.halfmove q.halfmove (omega (arith, h.counters.halfmove)) (omega (arith, k.counters.halfmove)) (ap (λ (x : Fields). x.halfmove) f) in
    let fullmove = decimal_injective p.fullmove q.fullmove (omega (arith, h.counters.fullmove)) (omega (arith, k.counters.fullmove)) (ap (λ (x : Fields). x.fullmove) f) in
    let side : p.side ≡ q.side = ap (λ (x : Fields). x.side) f in
    let rights : p.rights ≡ q.rights = ap (λ (x : Fields). x.rights) f in
    let target : p.target ≡ q.target = ap (λ (x : Fields). x.target) f in
    rw (board, side, rights, target, halfmove, fullmove) refl

-- ---- valid positions

target_row_is : (side : Side) (s : ℕ) → row s ≡ target_row side → (row s ≡ 2) ⊎ (row s ≡ 5)
target_row_is White s e = inl e
target_row_is Black s e = inr e

target_of : (side : Side) (target : Option ℕ) → ((t : ℕ) → target ≡ Some t → row t ≡ target_row side) → IsTargetField target
target_of side None h = tt
target_of side (Some t) h = target_row_is side t (h t refl)

pub valid_reads : (text : List ℕ) (p : Parts) → Valid p → TellsPosition text p → ReadsAs text p
valid_reads text p v t = record { squares = v.squares; target = target_of p.side p.target (λ s e. (v.target s e).on_row); counters = v.counters; tells = t }

-- a text tells one position at most
pub texts_tell_positions : (p q : Parts) (text : List ℕ) → Valid p → Valid q → TellsPosition text p → TellsPosition text q → p ≡ q
texts_tell_positions p q text v w t u = one_reading text p q (valid_reads text p v t) (valid_reads text q w u)

-- ---- refusals

pub refused_by : (text : List ℕ) (p : Parts) → ReadsAs text p → (i : Invalid) → FailsFirst p i → RefusedFirst text (refusal_of i)
refused_by text p r Counters f = absurd (f r.counters)
refused_by text p r Kings f = (p, r, f)
refused_by text p r Pawns f = (p, r, f)
refused_by text p r RightsFail f = (p, r, f)
refused_by text p r EnPassant f = (p, r, f)
refused_by text p r Check f = (p, r, f)

holds : (p : Parts) (i : Invalid) → Valid p → FailsFirst p i → ⊥
holds p Counters v f = f v.counters
holds p Kings v f = f.1 v.kings
holds p Pawns v f = f.2 v.pawns
holds p RightsFail v f = f.3 v.rights
holds p EnPassant v f = f.4 v.target
holds p Check v f = f.5 v.no_check

fails_not : (text : List ℕ) (p q : Parts) (i : Invalid) → Valid p → TellsPosition text p → ReadsAs text q → FailsFirst q i → ⊥
fails_not text p q i v t r f =
    let e = one_reading text p q (valid_reads text p v t) r in
    holds q i (subst Valid e v) f

-- a text that tells a position is not refused
pub not_refused : (text : List ℕ) (p : Parts) → Valid p → TellsPosition text p → (e : FenError) → RefusedFirst text e → ⊥
not_refused text p v t refusal.Form n = n (fields_of p) (reads_form text p (valid_reads text p v t))
not_refused text p v t refusal.Counters n =
    let e = one_form text (fields_of p) n.0 (reads_form text p (valid_reads text p v t)) n.1 in
    n.2 (subst ReadsCounters e (reads_counters p v.counters))
not_refused text p v t refusal.Placement n =
    let e = one_form text (fields_of p) n.0 (reads_form text p (valid_reads text p v t)) n.1 in
    n.3 (subst ReadsBoard e (reads_board p v.squares))
not_refused text p v t refusal.Kings n = fails_not text p n.0 Kings v t n.1 n.2
not_refused text p v t refusal.Pawns n = fails_not text p n.0 Pawns v t n.1 n.2
not_refused text p v t refusal.Rights n = fails_not text p n.0 RightsFail v t n.1 n.2
not_refused text p v t refusal.EnPassant n = fails_not text p n.0 EnPassant v t n.1 n.2
not_refused text p v t refusal.Check n = fails_not text p n.0 Check v t n.1 n.2

-- ---- for the reader

pub six_is : (text a b c d e g : List ℕ) (f : Fields) → split text ≡ a ∷ b ∷ c ∷ d ∷ e ∷ g ∷ [] → HasBytes f a b c d e g → text ≡ six_fields f
six_is text a b c d e g f s h =
    let all : a ∷ b ∷ c ∷ d ∷ e ∷ g ∷ [] ≡ six_of f = rw (h.placement, h.side, h.castling, h.target, h.halfmove, h.fullmove) refl in
    sym (join_with_byte-slice_split 32 text) ∙ ap (join_with_byte 32) (s ∙ all)

pub four_is : (text a b c d e g : List ℕ) (f : Fields) → split text ≡ a ∷ b ∷ c ∷ d ∷ [] → HasBytes f a b c d e g → text ≡ four_fields f
four_is text a b c d e g f s h =
    let all : a ∷ b ∷ c ∷ d ∷ [] ≡ four_of f = rw (h.placement, h.side, h.castling, h.target) refl in
    sym (join_with_byte-slice_split 32 text) ∙ ap (join_with_byte 32) (s ∙ all)

pub not_spaces : (bs : List ℕ) → All (λ b. is_space b ≡ false) bs → All (λ b. b ≢ 32) bs
not_spaces bs h = λ k d lt e. absurd (false≢true (sym (h k d lt) ∙ rw e refl))

by_split : (text : List ℕ) (raw : RawFields) (f : Fields) → AreRaw text raw → AreFields f → IsSplit text f → HasBytes f raw.placement.now raw.side.now raw.castling.now raw.target.now raw.halfmove.now raw.fullmove.now
by_split text raw f (raw_six s) h (six t) = bytes_of_six text _ _ _ _ _ _ f s h t
by_split text raw f (raw_four s a b) h (four c d t) = bytes_of_four text _ _ _ _ _ _ f s (a ∙ sym c) (b ∙ sym d) h t
by_split text raw f (raw_six s) h (four c d t) = absurd (omega (arith, ap length (sym s ∙ ap split t ∙ four_back f h)))
by_split text raw f (raw_four s a b) h (six t) = absurd (omega (arith, ap length (sym s ∙ ap split t ∙ six_back f h)))

-- the bytes of a text of the form, where it was split
pub bytes_of : (text : List ℕ) (raw : RawFields) (f : Fields) → AreRaw text raw → HasForm text f → HasBytes f raw.placement.now raw.side.now raw.castling.now raw.target.now raw.halfmove.now raw.fullmove.now
bytes_of text raw f s h = by_split text raw f s h.are_fields h.split

pub split_as : (text : List ℕ) (raw : RawFields) (f : Fields) → AreRaw text raw → HasBytes f raw.placement.now raw.side.now raw.castling.now raw.target.now raw.halfmove.now raw.fullmove.now → IsSplit text f
split_as text raw f (raw_six s) b = six (six_is text _ _ _ _ _ _ f s b)
split_as text raw f (raw_four s c d) b = four (sym b.halfmove ∙ c) (sym b.fullmove ∙ d) (four_is text _ _ _ _ _ _ f s b)

-- a text of the form has four fields or six
not_formed : (text : List ℕ) (f : Fields) → AreFields f → IsSplit text f → (length (split text) ≡ 4 → ⊥) → (length (split text) ≡ 6 → ⊥) → ⊥
not_formed text f h (six t) a b = b (ap length (ap split t ∙ six_back f h))
not_formed text f h (four c d t) a b = a (ap length (ap split t ∙ four_back f h))

pub no_form : (text : List ℕ) (f : Fields) → HasForm text f → (length (split text) ≡ 4 → ⊥) → (length (split text) ≡ 6 → ⊥) → ⊥
no_form text f h a b = not_formed text f h.are_fields h.split a b

split_tells : (text : List ℕ) (p : Parts) → HasCounters p → IsSplit text (fields_of p) → TellsPosition text p
unfolding fen short_fen
split_tells text p h (six e) = whole e
split_tells text p h (four a b e) =
    short (decimal_injective p.halfmove 0 (omega (arith, h.halfmove)) (omega arith) (a ∙ sym (decimal_digit 0 (omega arith))))
    (decimal_injective p.fullmove 1 (omega (arith, h.fullmove)) (omega arith) (b ∙ sym (decimal_digit 1 (omega arith)))) e

-- the fields are those of the parts that were read
pub reads_parts :
    (text : List ℕ) (f : Fields) (board : Board) (h n : ℕ)
    → HasForm text f
    → length board ≡ 64
    → f.placement ≡ placement (map code board)
    → (h < 10000) × (f.halfmove ≡ decimal h)
    → (n < 10000) × (f.fullmove ≡ decimal n)
    → 0 < n
    → ReadsAs text (record { board = board; side = f.side; rights = f.rights; target = f.target; halfmove = h; fullmove = n })
reads_parts text f board h n form l e eh en started =
    let p : Parts = record { board = board; side = f.side; rights = f.rights; target = f.target; halfmove = h; fullmove = n } in
    let same : f ≡ fields_of p = rw (e, eh.1, en.1) refl in
    let counters : HasCounters p = record { halfmove = omega (arith, eh.0); fullmove = omega (arith, en.0); started = started } in
    record { squares = l; target = form.are_fields.target; counters = counters; tells = split_tells text p counters (subst (IsSplit text) same form.split) }

pub never_started : (f : Fields) (n : ℕ) → n ≡ 0 → f.fullmove ≡ decimal n → ReadsCounters f → ⊥
never_started f n none e r =
    let same : n ≡ r.fullmove = decimal_injective n r.fullmove (omega arith) (omega (arith, r.fullmove_fits)) (sym e ∙ r.fullmove_text) in
    omega (arith, same, r.started)
