use Rattle.std.proofs.Common.{◌∷◌, Option, sym, subst, ◌∙◌}
use Rattle.std.proofs.lemmas.Result.{IfOk-weaker}
use Rattle.chess_clock.specs.declared.times.Reading.{Reading}
use Rattle.chess_rules.specs.Valid.{Valid}
use Rattle.settle_core.specs.Entries.{Entry, entry_of}
use Rattle.settle_core.specs.Settler.{HasSettled, ReturnsSeen}
use Rattle.unseen_pairs.specs.declared.pair.SeenOrRecovered.{SeenOrRecovered}
use Rattle.unseen_pairs.specs.Recoverer.{HasRecovered, RecovererState, ReturnsTold, written_after}
use Rattle.unseen_pairs.specs.Inside.Telling.{HasTold, IsWaiting}
use Rattle.unseen_pairs.proofs.Telling.{same_told, shown_told, to_wait}
use Rattle.unseen_pairs.proofs.recoverer.Recoverer.see.Goals as goal

pub returns-in-Waits-clause-stands : goal.returns-in-Waits-clause-stands
returns-in-Waits-clause-stands c = λ start past written st.
    let entry : Entry = entry_of c.args.picture.now c.args.clock in
    let old : RecovererState = record { settler = c.self.inside.settler; candidates = c.self.inside.candidates.items } in
    let stands : HasRecovered old start past written = subst (λ (d : RecovererState). HasRecovered d start past written) (sym c.self.view_is) st in
    let valid : Valid start = subst Valid (c.start.ensures ∙ (stands.settles).start_is) c.parts.ensures.valid in
    let S : Option Reading → Type 0 = λ reading. HasSettled c.see.new.self start (entry_of c.args.picture.now reading ∷ written) in
    let next : HasSettled c.see.new.self start (entry ∷ written) = subst S c.copy.ensures (c.in_ok-seen.ensures.stands start written stands.settles) in
    let answer = c.in_ok-seen.ensures.answer start written stands.settles in
    let w : IsWaiting (record { settler = c.see.new.self; candidates = c.self.inside.candidates.items }) start past written entry =
    to_wait old c.see.new.self start past written entry valid stands next (subst (ReturnsSeen start written c.args.picture.now) c.in-Waits.is answer) in
    IfOk-weaker c.wait.result (HasTold c.wait.new.self start past written entry) (λ (told : SeenOrRecovered). HasRecovered c.wait.new.self start (entry ∷ past) (written_after entry told written))
    (λ told h. h.stands) (c.wait.ensures start past written w)

pub returns-in-Waits-clause-answer : goal.returns-in-Waits-clause-answer
returns-in-Waits-clause-answer c = λ start past written st.
    let entry : Entry = entry_of c.args.picture.now c.args.clock in
    let old : RecovererState = record { settler = c.self.inside.settler; candidates = c.self.inside.candidates.items } in
    let stands : HasRecovered old start past written = subst (λ (d : RecovererState). HasRecovered d start past written) (sym c.self.view_is) st in
    let valid : Valid start = subst Valid (c.start.ensures ∙ (stands.settles).start_is) c.parts.ensures.valid in
    let S : Option Reading → Type 0 = λ reading. HasSettled c.see.new.self start (entry_of c.args.picture.now reading ∷ written) in
    let next : HasSettled c.see.new.self start (entry ∷ written) = subst S c.copy.ensures (c.in_ok-seen.ensures.stands start written stands.settles) in
    let answer = c.in_ok-seen.ensures.answer start written stands.settles in
    let w : IsWaiting (record { settler = c.see.new.self; candidates = c.self.inside.candidates.items }) start past written entry =
    to_wait old c.see.new.self start past written entry valid stands next (subst (ReturnsSeen start written c.args.picture.now) c.in-Waits.is answer) in
    IfOk-weaker c.wait.result (HasTold c.wait.new.self start past written entry) (ReturnsTold start past c.args.picture.now)
    (λ told h. h.answer) (c.wait.ensures start past written w)

pub returns-in_default-clause-stands : goal.returns-in_default-clause-stands
returns-in_default-clause-stands c = λ start past written st.
    let entry : Entry = entry_of c.args.picture.now c.args.clock in
    let old : RecovererState = record { settler = c.self.inside.settler; candidates = c.self.inside.candidates.items } in
    let stands : HasRecovered old start past written = subst (λ (d : RecovererState). HasRecovered d start past written) (sym c.self.view_is) st in
    let valid : Valid start = subst Valid (c.start.ensures ∙ (stands.settles).start_is) c.parts.ensures.valid in
    let S : Option Reading → Type 0 = λ reading. HasSettled c.see.new.self start (entry_of c.args.picture.now reading ∷ written) in
    let next : HasSettled c.see.new.self start (entry ∷ written) = subst S c.copy.ensures (c.in_ok-seen.ensures.stands start written stands.settles) in
    let answer = c.in_ok-seen.ensures.answer start written stands.settles in
    let new : RecovererState = record { settler = c.see.new.self; candidates = c.clear.new.self.items } in
    let told = shown_told old new start past written entry c.in_ok-seen.seen valid stands next c.clear.ensures.items c.in_default.not-Same c.in_default.not-Waits answer in
    told.stands

pub returns-in_default-clause-answer : goal.returns-in_default-clause-answer
returns-in_default-clause-answer c = λ start past written st.
    let entry : Entry = entry_of c.args.picture.now c.args.clock in
    let old : RecovererState = record { settler = c.self.inside.settler; candidates = c.self.inside.candidates.items } in
    let stands : HasRecovered old start past written = subst (λ (d : RecovererState). HasRecovered d start past written) (sym c.self.view_is) st in
    let valid : Valid start = subst Valid (c.start.ensures ∙ (stands.settles).start_is) c.parts.ensures.valid in
    let S : Option Reading → Type 0 = λ reading. HasSettled c.see.new.self start (entry_of c.args.picture.now reading ∷ written) in
    let next : HasSettled c.see.new.self start (entry ∷ written) = subst S c.copy.ensures (c.in_ok-seen.ensures.stands start written stands.settles) in
    let answer = c.in_ok-seen.ensures.answer start written stands.settles in
    let new : RecovererState = record { settler = c.see.new.self; candidates = c.clear.new.self.items } in
    let told = shown_told old new start past written entry c.in_ok-seen.seen valid stands next c.clear.ensures.items c.in_default.not-Same c.in_default.not-Waits answer in
    told.answer

pub returns-in-Same-clause-stands : goal.returns-in-Same-clause-stands
returns-in-Same-clause-stands c = λ start past written st.
    let entry : Entry = entry_of c.args.picture.now c.args.clock in
    let old : RecovererState = record { settler = c.self.inside.settler; candidates = c.self.inside.candidates.items } in
    let stands : HasRecovered old start past written = subst (λ (d : RecovererState). HasRecovered d start past written) (sym c.self.view_is) st in
    let valid : Valid start = subst Valid (c.start.ensures ∙ (stands.settles).start_is) c.parts.ensures.valid in
    let S : Option Reading → Type 0 = λ reading. HasSettled c.see.new.self start (entry_of c.args.picture.now reading ∷ written) in
    let next : HasSettled c.see.new.self start (entry ∷ written) = subst S c.copy.ensures (c.in_ok-seen.ensures.stands start written stands.settles) in
    let answer = c.in_ok-seen.ensures.answer start written stands.settles in
    let told = same_told old c.see.new.self start past written entry valid stands next (subst (ReturnsSeen start written c.args.picture.now) c.in-Same.is answer) in
    told.stands

pub returns-in-Same-clause-answer : goal.returns-in-Same-clause-answer
returns-in-Same-clause-answer c = λ start past written st.
    let entry : Entry = entry_of c.args.picture.now c.args.clock in
    let old : RecovererState = record { settler = c.self.inside.settler; candidates = c.self.inside.candidates.items } in
    let stands : HasRecovered old start past written = subst (λ (d : RecovererState). HasRecovered d start past written) (sym c.self.view_is) st in
    let valid : Valid start = subst Valid (c.start.ensures ∙ (stands.settles).start_is) c.parts.ensures.valid in
    let S : Option Reading → Type 0 = λ reading. HasSettled c.see.new.self start (entry_of c.args.picture.now reading ∷ written) in
    let next : HasSettled c.see.new.self start (entry ∷ written) = subst S c.copy.ensures (c.in_ok-seen.ensures.stands start written stands.settles) in
    let answer = c.in_ok-seen.ensures.answer start written stands.settles in
    let told = same_told old c.see.new.self start past written entry valid stands next (subst (ReturnsSeen start written c.args.picture.now) c.in-Same.is answer) in
    told.answer
