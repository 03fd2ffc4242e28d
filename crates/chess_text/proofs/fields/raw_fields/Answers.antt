use Prim.{search}
use Rattle.std.proofs.Common.{◌≡◌, ◌∙◌, ◌∷◌, ◌+◌, ◌<◌, arith, ap, length, rules, List, ℕ, Option, Some}
use Rattle.std.proofs.lemmas.List.Splits.{length-slice_split}
use denote.Ref.{Bor}
use Rattle.chess_text.specs.Inside.FieldReading.{is_space, split, split_behind}
use Rattle.chess_text.proofs.fields.raw_fields.Goals as goal

step : (bs w : List ℕ) (o : Option (Bor (List ℕ))) (rest : Bor (List ℕ)) → split bs ≡ w ∷ split_behind o → o ≡ Some rest → length (split bs) ≡ 1 + length (split rest.now)
step bs w o rest e s = ap length (e ∙ ap (λ (x : Option (Bor (List ℕ))). w ∷ split_behind x) s) ∙ omega arith

some_field : (bs : List ℕ) → 0 < length (split bs)
some_field bs = omega (arith, length-slice_split is_space bs)

pub returns-in_default-behind_target-clause-some : goal.returns-in_default-behind_target-clause-some
returns-in_default-behind_target-clause-some c = search rules

pub returns-in-Some-end-clause-not_six : goal.returns-in-Some-end-clause-not_six
returns-in-Some-end-clause-not_six c = λ six.
    let s0 = step c.args.text.now c.first_field.result.0.now c.first_field.result.1 c.in-Some.rest c.first_field.ensures.split c.in-Some.is in
    let s1 = step c.in-Some.rest.now c.first_field-2.result.0.now c.first_field-2.result.1 c.in-Some-behind_side.rest c.first_field-2.ensures.split c.in-Some-behind_side.is in
    let s2 = step c.in-Some-behind_side.rest.now c.first_field-3.result.0.now c.first_field-3.result.1 c.in-Some-behind_castling.rest c.first_field-3.ensures.split c.in-Some-behind_castling.is in
    let s3 = step c.in-Some-behind_castling.rest.now c.first_field-4.result.0.now c.first_field-4.result.1 c.in-Some-behind_target.rest c.first_field-4.ensures.split c.in-Some-behind_target.is in
    let s4 = step c.in-Some-behind_target.rest.now c.first_field-5.result.0.now c.first_field-5.result.1 c.in-Some-behind_halfmove.rest c.first_field-5.ensures.split c.in-Some-behind_halfmove.is in
    let s5 = step c.in-Some-behind_halfmove.rest.now c.first_field-6.result.0.now c.first_field-6.result.1 c.in-Some-end._more c.first_field-6.ensures.split c.in-Some-end.is in
    let last = some_field c.in-Some-end._more.now in
    omega (arith, s0, s1, s2, s3, s4, s5, last, six)

pub returns-in_default-behind_halfmove-clause-some : goal.returns-in_default-behind_halfmove-clause-some
returns-in_default-behind_halfmove-clause-some c = tt
