use Rattle.std.proofs.Common.{◌≡◌, ◌∷◌, ℕ, slice_index, slice_set, sym, subst}
use Rattle.settle_core.specs.Entries.{Entry, entry_of}
use Rattle.unseen_pairs.specs.declared.pair.SeenOrFound.{SeenOrFound}
use Rattle.unseen_pairs.specs.Recoverer.{HasRecovered, HoldsOf, ReturnsTold, written_after}
use Rattle.recovery.proofs.KeepLemmas.{sees_found}
use Rattle.recovery.proofs.keeper.see_square.Goals as goal

pub returns-in-Ok-Shown-clause-sees : goal.returns-in-Ok-Shown-clause-sees
returns-in-Ok-Shown-clause-sees c = λ start before past written st shown.
    let seen = c.args.picture.now in
    let entry : Entry = entry_of seen c.args.reading in
    let here : seen ≡ slice_set before.picture c.in-Some.square (slice_index seen c.in-Some.square) =
    subst (λ (s : ℕ). seen ≡ slice_set before.picture s (slice_index seen s)) (sym c.in-Some.ensures.number) shown in
    let H : SeenOrFound → Type 0 = λ heard.
    HoldsOf (λ told. HasRecovered c.see_square.new.self start (entry ∷ before ∷ past) (written_after entry told written)) heard c.see_square.new.found
    × HoldsOf (ReturnsTold start (before ∷ past) seen) heard c.see_square.new.found in
    let both = subst H c.in-Ok-Shown.field-0-is
    (c.in-Ok-Shown.ensures.stands start before past written st here, c.in-Ok-Shown.ensures.answer start before past written st here) in
    (c.in-Ok-Shown.field-0-0, both.0, both.1)

pub returns-in-Ok-Recovered-clause-sees : goal.returns-in-Ok-Recovered-clause-sees
returns-in-Ok-Recovered-clause-sees c = λ start before past written st shown.
    let seen = c.args.picture.now in
    let entry : Entry = entry_of seen c.args.reading in
    let here : seen ≡ slice_set before.picture c.in-Some.square (slice_index seen c.in-Some.square) =
    subst (λ (s : ℕ). seen ≡ slice_set before.picture s (slice_index seen s)) (sym c.in-Some.ensures.number) shown in
    let H : SeenOrFound → Type 0 = λ heard.
    HoldsOf (λ told. HasRecovered c.see_square.new.self start (entry ∷ before ∷ past) (written_after entry told written)) heard c.see_square.new.found
    × HoldsOf (ReturnsTold start (before ∷ past) seen) heard c.see_square.new.found in
    let both = subst H c.in-Ok-Recovered.field-0-is
    (c.in-Ok-Recovered.ensures.stands start before past written st here, c.in-Ok-Recovered.ensures.answer start before past written st here) in
    sees_found c.see_square.new.self start (before ∷ past) written entry c.see_square.new.found both.0 both.1
