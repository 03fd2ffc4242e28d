use Rattle.std.proofs.Common.{◌≡◌, ◌∷◌, ℕ, Option, slice_index, slice_set, sym, ap, subst, ◌∙◌}
use Rattle.chess_clock.specs.declared.times.Reading.{Reading}
use Rattle.chess_rules.specs.Valid.{Valid}
use Rattle.settle_core.specs.Entries.{Entry, entry_of}
use Rattle.settle_core.specs.Settler.{HasSettled, ReturnsSeen}
use Rattle.unseen_pairs.specs.declared.pair.SeenOrRecovered.{SeenOrRecovered}
use Rattle.unseen_pairs.specs.Recoverer.{HasRecovered, RecovererState, ReturnsTold, written_after}
use Rattle.unseen_pairs.specs.Inside.Telling.{HasTold, IsWaiting}
use Rattle.unseen_pairs.proofs.Telling.{changed_step, map_heard, same_told, shown_told, to_wait}
use Rattle.unseen_pairs.proofs.recoverer.Recoverer.see_square.Goals as goal

pub returns-then-idles-clause-stands : goal.returns-then-idles-clause-stands
returns-then-idles-clause-stands c = λ start before past written st shown.
    let seen = c.args.picture.now in
    let entry : Entry = entry_of seen c.args.clock in
    let old : RecovererState = record { settler = c.self.inside.settler; candidates = c.self.inside.candidates.items } in
    let stands : HasRecovered old start (before ∷ past) written = subst (λ (d : RecovererState). HasRecovered d start (before ∷ past) written) (sym c.self.view_is) st in
    let valid : Valid start = subst Valid (c.start.ensures ∙ (stands.settles).start_is) c.parts.ensures.valid in
    let code = slice_index seen c.number.result in
    let here : seen ≡ slice_set before.picture c.args.square code =
    shown ∙ ap (λ (n : ℕ). slice_set before.picture c.args.square (slice_index seen n)) (sym c.number.ensures.number) in
    let step = changed_step c.self.inside.settler c.see_field.new.self start before past written seen c.args.square code c.copy.result c.in_ok-seen.seen
    (stands.settles) stands.last here (λ w ws s. (c.in_ok-seen.ensures.stands start w ws s, c.in_ok-seen.ensures.answer start w ws s)) in
    let S : Option Reading → Type 0 = λ reading. HasSettled c.see_field.new.self start (entry_of seen reading ∷ written) in
    let next : HasSettled c.see_field.new.self start (entry ∷ written) = subst S c.copy.ensures step.0 in
    let w : IsWaiting (record { settler = c.see_field.new.self; candidates = c.self.inside.candidates.items }) start (before ∷ past) written entry =
    to_wait old c.see_field.new.self start (before ∷ past) written entry valid stands next (subst (ReturnsSeen start written seen) c.in-Waits.is step.1) in
    (c.idles.ensures c.if-idles.true start (before ∷ past) written entry w).stands

pub returns-then-idles-clause-answer : goal.returns-then-idles-clause-answer
returns-then-idles-clause-answer c = λ start before past written st shown.
    let seen = c.args.picture.now in
    let entry : Entry = entry_of seen c.args.clock in
    let old : RecovererState = record { settler = c.self.inside.settler; candidates = c.self.inside.candidates.items } in
    let stands : HasRecovered old start (before ∷ past) written = subst (λ (d : RecovererState). HasRecovered d start (before ∷ past) written) (sym c.self.view_is) st in
    let valid : Valid start = subst Valid (c.start.ensures ∙ (stands.settles).start_is) c.parts.ensures.valid in
    let code = slice_index seen c.number.result in
    let here : seen ≡ slice_set before.picture c.args.square code =
    shown ∙ ap (λ (n : ℕ). slice_set before.picture c.args.square (slice_index seen n)) (sym c.number.ensures.number) in
    let step = changed_step c.self.inside.settler c.see_field.new.self start before past written seen c.args.square code c.copy.result c.in_ok-seen.seen
    (stands.settles) stands.last here (λ w ws s. (c.in_ok-seen.ensures.stands start w ws s, c.in_ok-seen.ensures.answer start w ws s)) in
    let S : Option Reading → Type 0 = λ reading. HasSettled c.see_field.new.self start (entry_of seen reading ∷ written) in
    let next : HasSettled c.see_field.new.self start (entry ∷ written) = subst S c.copy.ensures step.0 in
    let w : IsWaiting (record { settler = c.see_field.new.self; candidates = c.self.inside.candidates.items }) start (before ∷ past) written entry =
    to_wait old c.see_field.new.self start (before ∷ past) written entry valid stands next (subst (ReturnsSeen start written seen) c.in-Waits.is step.1) in
    (c.idles.ensures c.if-idles.true start (before ∷ past) written entry w).answer

pub returns-else-idles-clause-stands : goal.returns-else-idles-clause-stands
returns-else-idles-clause-stands c = λ start before past written st shown.
    let seen = c.args.picture.now in
    let entry : Entry = entry_of seen c.args.clock in
    let old : RecovererState = record { settler = c.self.inside.settler; candidates = c.self.inside.candidates.items } in
    let stands : HasRecovered old start (before ∷ past) written = subst (λ (d : RecovererState). HasRecovered d start (before ∷ past) written) (sym c.self.view_is) st in
    let valid : Valid start = subst Valid (c.start.ensures ∙ (stands.settles).start_is) c.parts.ensures.valid in
    let code = slice_index seen c.number.result in
    let here : seen ≡ slice_set before.picture c.args.square code =
    shown ∙ ap (λ (n : ℕ). slice_set before.picture c.args.square (slice_index seen n)) (sym c.number.ensures.number) in
    let step = changed_step c.self.inside.settler c.see_field.new.self start before past written seen c.args.square code c.copy.result c.in_ok-seen.seen
    (stands.settles) stands.last here (λ w ws s. (c.in_ok-seen.ensures.stands start w ws s, c.in_ok-seen.ensures.answer start w ws s)) in
    let S : Option Reading → Type 0 = λ reading. HasSettled c.see_field.new.self start (entry_of seen reading ∷ written) in
    let next : HasSettled c.see_field.new.self start (entry ∷ written) = subst S c.copy.ensures step.0 in
    let w : IsWaiting (record { settler = c.see_field.new.self; candidates = c.self.inside.candidates.items }) start (before ∷ past) written entry =
    to_wait old c.see_field.new.self start (before ∷ past) written entry valid stands next (subst (ReturnsSeen start written seen) c.in-Waits.is step.1) in
    map_heard (HasTold c.wait_for.new.self start (before ∷ past) written entry)
    (λ (told : SeenOrRecovered). HasRecovered c.wait_for.new.self start (entry ∷ before ∷ past) (written_after entry told written))
    c.wait_for.result c.wait_for.new.found (λ told h. h.stands) (c.wait_for.ensures start (before ∷ past) written w)

pub returns-else-idles-clause-answer : goal.returns-else-idles-clause-answer
returns-else-idles-clause-answer c = λ start before past written st shown.
    let seen = c.args.picture.now in
    let entry : Entry = entry_of seen c.args.clock in
    let old : RecovererState = record { settler = c.self.inside.settler; candidates = c.self.inside.candidates.items } in
    let stands : HasRecovered old start (before ∷ past) written = subst (λ (d : RecovererState). HasRecovered d start (before ∷ past) written) (sym c.self.view_is) st in
    let valid : Valid start = subst Valid (c.start.ensures ∙ (stands.settles).start_is) c.parts.ensures.valid in
    let code = slice_index seen c.number.result in
    let here : seen ≡ slice_set before.picture c.args.square code =
    shown ∙ ap (λ (n : ℕ). slice_set before.picture c.args.square (slice_index seen n)) (sym c.number.ensures.number) in
    let step = changed_step c.self.inside.settler c.see_field.new.self start before past written seen c.args.square code c.copy.result c.in_ok-seen.seen
    (stands.settles) stands.last here (λ w ws s. (c.in_ok-seen.ensures.stands start w ws s, c.in_ok-seen.ensures.answer start w ws s)) in
    let S : Option Reading → Type 0 = λ reading. HasSettled c.see_field.new.self start (entry_of seen reading ∷ written) in
    let next : HasSettled c.see_field.new.self start (entry ∷ written) = subst S c.copy.ensures step.0 in
    let w : IsWaiting (record { settler = c.see_field.new.self; candidates = c.self.inside.candidates.items }) start (before ∷ past) written entry =
    to_wait old c.see_field.new.self start (before ∷ past) written entry valid stands next (subst (ReturnsSeen start written seen) c.in-Waits.is step.1) in
    map_heard (HasTold c.wait_for.new.self start (before ∷ past) written entry) (ReturnsTold start (before ∷ past) seen)
    c.wait_for.result c.wait_for.new.found (λ told h. h.answer) (c.wait_for.ensures start (before ∷ past) written w)

pub returns-in_default-clause-stands : goal.returns-in_default-clause-stands
returns-in_default-clause-stands c = λ start before past written st shown.
    let seen = c.args.picture.now in
    let entry : Entry = entry_of seen c.args.clock in
    let old : RecovererState = record { settler = c.self.inside.settler; candidates = c.self.inside.candidates.items } in
    let stands : HasRecovered old start (before ∷ past) written = subst (λ (d : RecovererState). HasRecovered d start (before ∷ past) written) (sym c.self.view_is) st in
    let valid : Valid start = subst Valid (c.start.ensures ∙ (stands.settles).start_is) c.parts.ensures.valid in
    let code = slice_index seen c.number.result in
    let here : seen ≡ slice_set before.picture c.args.square code =
    shown ∙ ap (λ (n : ℕ). slice_set before.picture c.args.square (slice_index seen n)) (sym c.number.ensures.number) in
    let step = changed_step c.self.inside.settler c.see_field.new.self start before past written seen c.args.square code c.copy.result c.in_ok-seen.seen
    (stands.settles) stands.last here (λ w ws s. (c.in_ok-seen.ensures.stands start w ws s, c.in_ok-seen.ensures.answer start w ws s)) in
    let S : Option Reading → Type 0 = λ reading. HasSettled c.see_field.new.self start (entry_of seen reading ∷ written) in
    let next : HasSettled c.see_field.new.self start (entry ∷ written) = subst S c.copy.ensures step.0 in
    let new : RecovererState = record { settler = c.see_field.new.self; candidates = c.clear.new.self.items } in
    (shown_told old new start (before ∷ past) written entry c.in_ok-seen.seen valid stands next c.clear.ensures.items c.in_default.not-Same c.in_default.not-Waits step.1).stands

pub returns-in_default-clause-answer : goal.returns-in_default-clause-answer
returns-in_default-clause-answer c = λ start before past written st shown.
    let seen = c.args.picture.now in
    let entry : Entry = entry_of seen c.args.clock in
    let old : RecovererState = record { settler = c.self.inside.settler; candidates = c.self.inside.candidates.items } in
    let stands : HasRecovered old start (before ∷ past) written = subst (λ (d : RecovererState). HasRecovered d start (before ∷ past) written) (sym c.self.view_is) st in
    let valid : Valid start = subst Valid (c.start.ensures ∙ (stands.settles).start_is) c.parts.ensures.valid in
    let code = slice_index seen c.number.result in
    let here : seen ≡ slice_set before.picture c.args.square code =
    shown ∙ ap (λ (n : ℕ). slice_set before.picture c.args.square (slice_index seen n)) (sym c.number.ensures.number) in
    let step = changed_step c.self.inside.settler c.see_field.new.self start before past written seen c.args.square code c.copy.result c.in_ok-seen.seen
    (stands.settles) stands.last here (λ w ws s. (c.in_ok-seen.ensures.stands start w ws s, c.in_ok-seen.ensures.answer start w ws s)) in
    let S : Option Reading → Type 0 = λ reading. HasSettled c.see_field.new.self start (entry_of seen reading ∷ written) in
    let next : HasSettled c.see_field.new.self start (entry ∷ written) = subst S c.copy.ensures step.0 in
    let new : RecovererState = record { settler = c.see_field.new.self; candidates = c.clear.new.self.items } in
    (shown_told old new start (before ∷ past) written entry c.in_ok-seen.seen valid stands next c.clear.ensures.items c.in_default.not-Same c.in_default.not-Waits step.1).answer

pub returns-in-Same-clause-stands : goal.returns-in-Same-clause-stands
returns-in-Same-clause-stands c = λ start before past written st shown.
    let seen = c.args.picture.now in
    let entry : Entry = entry_of seen c.args.clock in
    let old : RecovererState = record { settler = c.self.inside.settler; candidates = c.self.inside.candidates.items } in
    let stands : HasRecovered old start (before ∷ past) written = subst (λ (d : RecovererState). HasRecovered d start (before ∷ past) written) (sym c.self.view_is) st in
    let valid : Valid start = subst Valid (c.start.ensures ∙ (stands.settles).start_is) c.parts.ensures.valid in
    let code = slice_index seen c.number.result in
    let here : seen ≡ slice_set before.picture c.args.square code =
    shown ∙ ap (λ (n : ℕ). slice_set before.picture c.args.square (slice_index seen n)) (sym c.number.ensures.number) in
    let step = changed_step c.self.inside.settler c.see_field.new.self start before past written seen c.args.square code c.copy.result c.in_ok-seen.seen
    (stands.settles) stands.last here (λ w ws s. (c.in_ok-seen.ensures.stands start w ws s, c.in_ok-seen.ensures.answer start w ws s)) in
    let S : Option Reading → Type 0 = λ reading. HasSettled c.see_field.new.self start (entry_of seen reading ∷ written) in
    let next : HasSettled c.see_field.new.self start (entry ∷ written) = subst S c.copy.ensures step.0 in
    (same_told old c.see_field.new.self start (before ∷ past) written entry valid stands next (subst (ReturnsSeen start written seen) c.in-Same.is step.1)).stands

pub returns-in-Same-clause-answer : goal.returns-in-Same-clause-answer
returns-in-Same-clause-answer c = λ start before past written st shown.
    let seen = c.args.picture.now in
    let entry : Entry = entry_of seen c.args.clock in
    let old : RecovererState = record { settler = c.self.inside.settler; candidates = c.self.inside.candidates.items } in
    let stands : HasRecovered old start (before ∷ past) written = subst (λ (d : RecovererState). HasRecovered d start (before ∷ past) written) (sym c.self.view_is) st in
    let valid : Valid start = subst Valid (c.start.ensures ∙ (stands.settles).start_is) c.parts.ensures.valid in
    let code = slice_index seen c.number.result in
    let here : seen ≡ slice_set before.picture c.args.square code =
    shown ∙ ap (λ (n : ℕ). slice_set before.picture c.args.square (slice_index seen n)) (sym c.number.ensures.number) in
    let step = changed_step c.self.inside.settler c.see_field.new.self start before past written seen c.args.square code c.copy.result c.in_ok-seen.seen
    (stands.settles) stands.last here (λ w ws s. (c.in_ok-seen.ensures.stands start w ws s, c.in_ok-seen.ensures.answer start w ws s)) in
    let S : Option Reading → Type 0 = λ reading. HasSettled c.see_field.new.self start (entry_of seen reading ∷ written) in
    let next : HasSettled c.see_field.new.self start (entry ∷ written) = subst S c.copy.ensures step.0 in
    (same_told old c.see_field.new.self start (before ∷ past) written entry valid stands next (subst (ReturnsSeen start written seen) c.in-Same.is step.1)).answer
