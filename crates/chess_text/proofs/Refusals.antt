-- A text meets one refusal at most.
use Rattle.std.proofs.Common.{◌≡◌, ◌∙◌, ℕ, List, refl, sym, ap, subst}
use Rattle.chess_rules.specs.declared.parts.Parts.{Parts}
use Rattle.chess_rules.specs.declared.parts.Invalid.{Invalid}
use Rattle.chess_rules.specs.declared.parts.Invalid.TheVariants.{Counters, Kings, Pawns, Rights as RightsFail, EnPassant, Check}
use Rattle.chess_rules.specs.Valid.{FailsFirst}
use Rattle.chess_text.specs.Fen.{Fields, fields_of, HasForm, ReadsCounters, ReadsBoard, ReadsAs, RefusedFirst}
use Rattle.chess_text.specs.Inside.FieldReading.{refusal_of}
use Rattle.chess_text.specs.Laws.{OneRefusal}
use Rattle.chess_text.specs.declared.fen.FenError.{FenError}
use Rattle.chess_text.specs.declared.fen.FenError.TheVariants as refusal
use Rattle.chess_text.proofs.FenTexts.{one_form, one_reading, reads_form, reads_counters, reads_board}

-- parts fail one condition first
one_failure : (p : Parts) (i j : Invalid) → FailsFirst p i → FailsFirst p j → i ≡ j
one_failure p Counters Counters a b = refl
one_failure p Counters Kings a b = absurd (a b.0)
one_failure p Counters Pawns a b = absurd (a b.0)
one_failure p Counters RightsFail a b = absurd (a b.0)
one_failure p Counters EnPassant a b = absurd (a b.0)
one_failure p Counters Check a b = absurd (a b.0)
one_failure p Kings Counters a b = absurd (b a.0)
one_failure p Kings Kings a b = refl
one_failure p Kings Pawns a b = absurd (a.1 b.1)
one_failure p Kings RightsFail a b = absurd (a.1 b.1)
one_failure p Kings EnPassant a b = absurd (a.1 b.1)
one_failure p Kings Check a b = absurd (a.1 b.1)
one_failure p Pawns Counters a b = absurd (b a.0)
one_failure p Pawns Kings a b = absurd (b.1 a.1)
one_failure p Pawns Pawns a b = refl
one_failure p Pawns RightsFail a b = absurd (a.2 b.2)
one_failure p Pawns EnPassant a b = absurd (a.2 b.2)
one_failure p Pawns Check a b = absurd (a.2 b.2)
one_failure p RightsFail Counters a b = absurd (b a.0)
one_failure p RightsFail Kings a b = absurd (b.1 a.1)
one_failure p RightsFail Pawns a b = absurd (b.2 a.2)
one_failure p RightsFail RightsFail a b = refl
one_failure p RightsFail EnPassant a b = absurd (a.3 b.3)
one_failure p RightsFail Check a b = absurd (a.3 b.3)
one_failure p EnPassant Counters a b = absurd (b a.0)
one_failure p EnPassant Kings a b = absurd (b.1 a.1)
one_failure p EnPassant Pawns a b = absurd (b.2 a.2)
one_failure p EnPassant RightsFail a b = absurd (b.3 a.3)
one_failure p EnPassant EnPassant a b = refl
one_failure p EnPassant Check a b = absurd (a.4 b.4)
one_failure p Check Counters a b = absurd (b a.0)
one_failure p Check Kings a b = absurd (b.1 a.1)
one_failure p Check Pawns a b = absurd (b.2 a.2)
one_failure p Check RightsFail a b = absurd (b.3 a.3)
one_failure p Check EnPassant a b = absurd (b.4 a.4)
one_failure p Check Check a b = refl

-- how far a text was read
data Stage (text : List ℕ) (e : FenError) : Type 0 where
  form : e ≡ refusal.Form → ((f : Fields) → HasForm text f → ⊥) → Stage text e
  counters : e ≡ refusal.Counters → (f : Fields) → HasForm text f → (ReadsCounters f → ⊥) → Stage text e
  placement : e ≡ refusal.Placement → (f : Fields) → HasForm text f → ReadsCounters f → (ReadsBoard f → ⊥) → Stage text e
  parts : (i : Invalid) → e ≡ refusal_of i → (p : Parts) → ReadsAs text p → FailsFirst p i → Stage text e

stage_of : (text : List ℕ) (e : FenError) → RefusedFirst text e → Stage text e
stage_of text refusal.Form r = form refl r
stage_of text refusal.Counters r = counters refl r.0 r.1 r.2
stage_of text refusal.Placement r = placement refl r.0 r.1 r.2 r.3
stage_of text refusal.Kings r = parts Kings refl r.0 r.1 r.2
stage_of text refusal.Pawns r = parts Pawns refl r.0 r.1 r.2
stage_of text refusal.Rights r = parts RightsFail refl r.0 r.1 r.2
stage_of text refusal.EnPassant r = parts EnPassant refl r.0 r.1 r.2
stage_of text refusal.Check r = parts Check refl r.0 r.1 r.2

no_counters : (text : List ℕ) (f : Fields) (p : Parts) → HasForm text f → ReadsAs text p → (ReadsCounters f → ⊥) → ⊥
no_counters text f p h r none = none (subst ReadsCounters (one_form text (fields_of p) f (reads_form text p r) h) (reads_counters p r.counters))

no_board : (text : List ℕ) (f : Fields) (p : Parts) → HasForm text f → ReadsAs text p → (ReadsBoard f → ⊥) → ⊥
no_board text f p h r none = none (subst ReadsBoard (one_form text (fields_of p) f (reads_form text p r) h) (reads_board p r.squares))

one_stage : (text : List ℕ) (a b : FenError) → Stage text a → Stage text b → a ≡ b
one_stage text a b (form e n) (form d m) = e ∙ sym d
one_stage text a b (form e n) (counters d f h c) = absurd (n f h)
one_stage text a b (form e n) (placement d f h c p) = absurd (n f h)
one_stage text a b (form e n) (parts i d p r fails) = absurd (n (fields_of p) (reads_form text p r))
one_stage text a b (counters e f h c) (form d m) = absurd (m f h)
one_stage text a b (counters e f h c) (counters d g k m) = e ∙ sym d
one_stage text a b (counters e f h c) (placement d g k m p) = absurd (c (subst ReadsCounters (one_form text g f k h) m))
one_stage text a b (counters e f h c) (parts i d p r fails) = absurd (no_counters text f p h r c)
one_stage text a b (placement e f h c p) (form d m) = absurd (m f h)
one_stage text a b (placement e f h c p) (counters d g k m) = absurd (m (subst ReadsCounters (one_form text f g h k) c))
one_stage text a b (placement e f h c p) (placement d g k m q) = e ∙ sym d
one_stage text a b (placement e f h c n) (parts i d p r fails) = absurd (no_board text f p h r n)
one_stage text a b (parts i e p r fails) (form d m) = absurd (m (fields_of p) (reads_form text p r))
one_stage text a b (parts i e p r fails) (counters d g k m) = absurd (no_counters text g p k r m)
one_stage text a b (parts i e p r fails) (placement d g k m n) = absurd (no_board text g p k r n)
one_stage text a b (parts i e p r fails) (parts j d q s fails') =
    let F : Parts → Type 0 = λ x. FailsFirst x j in
    e ∙ ap refusal_of (one_failure p i j fails (subst F (one_reading text q p s r) fails')) ∙ sym d

pub one_refusal : OneRefusal
one_refusal text a b r s = one_stage text a b (stage_of text a r) (stage_of text b s)
