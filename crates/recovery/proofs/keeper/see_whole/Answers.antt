use Rattle.std.proofs.Common.{◌∷◌, subst}
use Rattle.settle_core.specs.Entries.{Entry, entry_of}
use Rattle.unseen_pairs.specs.declared.pair.SeenOrRecovered.{SeenOrRecovered}
use Rattle.unseen_pairs.specs.Recoverer.{HasRecovered, ReturnsTold, written_after}
use Rattle.recovery.proofs.keeper.see_whole.Goals as goal

pub returns-in-Shown : goal.returns-in-Shown
returns-in-Shown c = λ start past written stands.
    let entry : Entry = entry_of c.args.picture.now c.args.reading in
    let T : SeenOrRecovered → Type 0 = λ told. HasRecovered c.see.new.self start (entry ∷ past) (written_after entry told written)
    × ReturnsTold start past c.args.picture.now told in
    let both = subst T c.in-Shown.is (c.in_ok-see.ensures.stands start past written stands, c.in_ok-see.ensures.answer start past written stands) in
    (c.in-Shown.field-0, both.0, both.1)

pub returns-in-Recovered : goal.returns-in-Recovered
returns-in-Recovered c = λ start past written stands.
    let entry : Entry = entry_of c.args.picture.now c.args.reading in
    let T : SeenOrRecovered → Type 0 = λ told. HasRecovered c.see.new.self start (entry ∷ past) (written_after entry told written)
    × ReturnsTold start past c.args.picture.now told in
    subst T c.in-Recovered.is (c.in_ok-see.ensures.stands start past written stands, c.in_ok-see.ensures.answer start past written stands)
