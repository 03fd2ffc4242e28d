use Rattle.std.proofs.Common.{◌≡◌, ◌+◌, ◌++◌, ◌∷◌, ◌∙◌, true, false, sym, ap, arith, rules, tests, refl, List, ℕ, get_or, take, drop, length, ◌<◌}
use Rattle.std.proofs.lemmas.List.{take_rest, take_all, take-append-drop}
use Rattle.std.proofs.lemmas.List.Splits.{slice_split_at, slice_split_none}
use Rattle.std.proofs.lemmas.List.Elements.{All-more}
use Rattle.std.proofs.Common.{add-one, drop-cons}
use Rattle.chess_text.specs.Inside.FieldReading.{is_space, split}
use Rattle.chess_text.proofs.fields.first_field.Goals as goal

cut_at : (bs : List ℕ) (i : ℕ) → i < length bs → bs ≡ take i bs ++ get_or bs i 0 ∷ drop (i + 1) bs
cut_at bs i lt = let cut : drop i bs ≡ get_or bs i 0 ∷ drop (i + 1) bs = rw (add-one, drop-cons bs i 0) refl in sym (take-append-drop i bs) ∙ ap (λ (x : List ℕ). take i bs ++ x) cut

pub returns-then-b-eq32-clause-split : goal.returns-then-b-eq32-clause-split
returns-then-b-eq32-clause-split c =
    let bs = c.args.bytes.now in
    let i = c.loop-i.i in
    let space : is_space (get_or bs i 0) ≡ true = rw c.if-b-eq32.true refl in
    ap split (cut_at bs i (omega arith)) ∙ slice_split_at is_space (take i bs) (get_or bs i 0) (drop (i + 1) bs) c.loop-i.invariant space
    ∙ ap (λ (x : List ℕ). take i bs ∷ split x) (sym (take_rest bs (i + 1)))

pub loop-i-preserved : goal.loop-i-preserved
loop-i-preserved c =
    let bs = c.args.bytes.now in
    let i = c.loop-i.i in
    let other : is_space (get_or bs i 0) ≡ false = search (rules, tests, c.if-b-eq32.false) in
    All-more (λ b. is_space b ≡ false) bs i 0 (omega arith) c.loop-i.invariant other

pub returns-clause-split : goal.returns-clause-split
returns-clause-split c =
    let all = rw (take_all c.loop-i.i c.args.bytes.now (omega arith)) at c.loop-i.invariant in
    slice_split_none is_space c.args.bytes.now all

pub returns-clause-plain : goal.returns-clause-plain
returns-clause-plain c = rw (take_all c.loop-i.i c.args.bytes.now (omega arith)) at c.loop-i.invariant
