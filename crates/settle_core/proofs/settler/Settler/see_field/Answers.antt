use Rattle.std.proofs.Common.{◌≡◌, ◌≢◌, ℕ, ◌∷◌, List, Some, true, set, refl, sym, ap, subst, ◌∙◌}
use Rattle.std.proofs.lemmas.Option.{same_Some}
use Rattle.chess_rules.specs.declared.chess_move.Move.{Move}
use Rattle.settle_core.specs.Settling.{Settles}
use Rattle.settle_core.specs.Settler.{SettlerState, has_seen, position_of}
use Rattle.settle_core.proofs.Steps.{fresh, judged, taken_stands, taken_answers, same_stands, same_answers, field_same, field_differs, restored, seen_last, last_is, refused_gives}
use Rattle.settle_core.proofs.settler.Settler.see_field.Goals as goal

pub returns-then-last-code-clause-stands : goal.returns-then-last-code-clause-stands
returns-then-last-code-clause-stands c start before past st =
    let kept : c.self.inside.picture ≡ before.picture = last_is c.self.inside.seen c.self.inside.picture before.picture (ap (λ (s : SettlerState). s.last) c.self.view_is ∙ st.last) in
    let same : set before.picture c.args.square c.args.code ≡ before.picture = field_same c.self.inside.picture before.picture c.number-at.result c.args.square c.args.code kept c.number-at.ensures.number c.if-last-code.true in
    same_stands c.args.self.now start (before ∷ past) (set before.picture c.args.square c.args.code) c.args.clock st (st.last ∙ ap (λ (xs : List ℕ). Some xs) (sym same))

pub returns-then-last-code-clause-answer : goal.returns-then-last-code-clause-answer
returns-then-last-code-clause-answer c start before past st =
    let kept : c.self.inside.picture ≡ before.picture = last_is c.self.inside.seen c.self.inside.picture before.picture (ap (λ (s : SettlerState). s.last) c.self.view_is ∙ st.last) in
    let same : set before.picture c.args.square c.args.code ≡ before.picture = field_same c.self.inside.picture before.picture c.number-at.result c.args.square c.args.code kept c.number-at.ensures.number c.if-last-code.true in
    same_answers c.args.self.now start (before ∷ past) (set before.picture c.args.square c.args.code) st (st.last ∙ ap (λ (xs : List ℕ). Some xs) (sym same))

pub returns-in-Ok-clause-stands : goal.returns-in-Ok-clause-stands
returns-in-Ok-clause-stands c start before past st =
    let now : SettlerState = c.args.self.now in
    let shown : List ℕ = set before.picture c.args.square c.args.code in
    let kept : c.self.inside.picture ≡ before.picture = last_is c.self.inside.seen c.self.inside.picture before.picture (ap (λ (s : SettlerState). s.last) c.self.view_is ∙ st.last) in
    let differs : shown ≢ before.picture = field_differs c.self.inside.picture before.picture c.number-at.result c.args.square c.args.code kept c.number-at.ensures.number c.self.told c.number-at.ensures.in_range c.if-last-code.false in
    let new = fresh now start (before ∷ past) shown st (λ e. differs (same_Some _ _ (sym e ∙ st.last))) in
    let changed : c.change.new.self ≡ record { start = now.start; score = now.score; last = Some shown } =
    c.change.ensures before.picture st.last ∙ ap (λ k. record { start = now.start; score = now.score; last = Some (set before.picture k c.args.code) }) c.number-at.ensures.number in
    let j = judged now c.change.new.self c.judge.new.self shown c.args.clock c.in-Ok.answer changed (c.in-Ok.ensures.ok shown (ap (λ (s : SettlerState). s.last) changed)) in
    taken_stands now c.judge.new.self start (before ∷ past) shown c.args.clock c.in-Ok.answer st new j.0 j.1

pub returns-in-Ok-clause-answer : goal.returns-in-Ok-clause-answer
returns-in-Ok-clause-answer c start before past st =
    let now : SettlerState = c.args.self.now in
    let shown : List ℕ = set before.picture c.args.square c.args.code in
    let kept : c.self.inside.picture ≡ before.picture = last_is c.self.inside.seen c.self.inside.picture before.picture (ap (λ (s : SettlerState). s.last) c.self.view_is ∙ st.last) in
    let differs : shown ≢ before.picture = field_differs c.self.inside.picture before.picture c.number-at.result c.args.square c.args.code kept c.number-at.ensures.number c.self.told c.number-at.ensures.in_range c.if-last-code.false in
    let new = fresh now start (before ∷ past) shown st (λ e. differs (same_Some _ _ (sym e ∙ st.last))) in
    let changed : c.change.new.self ≡ record { start = now.start; score = now.score; last = Some shown } =
    c.change.ensures before.picture st.last ∙ ap (λ k. record { start = now.start; score = now.score; last = Some (set before.picture k c.args.code) }) c.number-at.ensures.number in
    let j = judged now c.change.new.self c.judge.new.self shown c.args.clock c.in-Ok.answer changed (c.in-Ok.ensures.ok shown (ap (λ (s : SettlerState). s.last) changed)) in
    taken_answers now start (before ∷ past) shown c.in-Ok.answer st new j.0

pub returns-in-Ok-clause-seen : goal.returns-in-Ok-clause-seen
returns-in-Ok-clause-seen c =
    let now : SettlerState = c.args.self.now in
    let S : SettlerState → Type 0 = λ s. has_seen s ≡ true in
    let last : now.last ≡ Some c.self.inside.picture =
    sym (ap (λ (s : SettlerState). s.last) c.self.view_is) ∙ seen_last c.self.inside.seen c.self.inside.picture (subst S (sym c.self.view_is) c.requires.seen) in
    let shown : List ℕ = set c.self.inside.picture c.number-at.result c.args.code in
    let changed : c.change.new.self ≡ record { start = now.start; score = now.score; last = Some shown } = c.change.ensures c.self.inside.picture last in
    let j = judged now c.change.new.self c.judge.new.self shown c.args.clock c.in-Ok.answer changed (c.in-Ok.ensures.ok shown (ap (λ (s : SettlerState). s.last) changed)) in
    subst S (sym j.1) refl

pub returns-in-Err-clause-err : goal.returns-in-Err-clause-err
returns-in-Err-clause-err c =
    let now : SettlerState = c.args.self.now in
    let S : SettlerState → Type 0 = λ s. has_seen s ≡ true in
    let last : now.last ≡ Some c.self.inside.picture =
    sym (ap (λ (s : SettlerState). s.last) c.self.view_is) ∙ seen_last c.self.inside.seen c.self.inside.picture (subst S (sym c.self.view_is) c.requires.seen) in
    let shown : List ℕ = set c.self.inside.picture c.number-at.result c.args.code in
    let changed : c.change.new.self ≡ record { start = now.start; score = now.score; last = Some shown } = c.change.ensures c.self.inside.picture last in
    let refused : c.judge.new.self ≡ c.change.new.self = c.in-Err.ensures.err in
    restored now c.change.new.self c.judge.new.self c.change-in-Err.new.self c.self.inside.picture c.number-at.result c.args.code last changed refused
    (c.change-in-Err.ensures shown (ap (λ (s : SettlerState). s.last) (refused ∙ changed)))

pub returns-in-Err-clause-seen : goal.returns-in-Err-clause-seen
returns-in-Err-clause-seen c =
    let S : SettlerState → Type 0 = λ s. has_seen s ≡ true in
    subst S (sym (returns-in-Err-clause-err c)) c.requires.seen

pub returns-in-Err-clause-memory : goal.returns-in-Err-clause-memory
returns-in-Err-clause-memory c start before past st =
    let now : SettlerState = c.args.self.now in
    let shown : List ℕ = set before.picture c.args.square c.args.code in
    let kept : c.self.inside.picture ≡ before.picture = last_is c.self.inside.seen c.self.inside.picture before.picture (ap (λ (s : SettlerState). s.last) c.self.view_is ∙ st.last) in
    let differs : shown ≢ before.picture = field_differs c.self.inside.picture before.picture c.number-at.result c.args.square c.args.code kept c.number-at.ensures.number c.self.told c.number-at.ensures.in_range c.if-last-code.false in
    let new = fresh now start (before ∷ past) shown st (λ e. differs (same_Some _ _ (sym e ∙ st.last))) in
    let changed : c.change.new.self ≡ record { start = now.start; score = now.score; last = Some shown } =
    c.change.ensures before.picture st.last ∙ ap (λ k. record { start = now.start; score = now.score; last = Some (set before.picture k c.args.code) }) c.number-at.ensures.number in
    let gives : (m : Move) × Settles (position_of c.change.new.self) shown m = c.in-Err.ensures.memory shown (ap (λ (s : SettlerState). s.last) changed) in
    let S : SettlerState → Type 0 = λ s. Settles (position_of s) shown gives.0 in
    refused_gives now start (before ∷ past) shown gives.0 st new (subst S changed gives.1)

pub returns-in-Ok-clause-same : goal.returns-in-Ok-clause-same
returns-in-Ok-clause-same c picture last same =
    let kept : c.self.inside.picture ≡ picture = last_is c.self.inside.seen c.self.inside.picture picture (ap (λ (s : SettlerState). s.last) c.self.view_is ∙ last) in
    absurd (field_differs c.self.inside.picture picture c.number-at.result c.args.square c.args.code kept c.number-at.ensures.number c.self.told c.number-at.ensures.in_range c.if-last-code.false same)

pub returns-in-Err-clause-same : goal.returns-in-Err-clause-same
returns-in-Err-clause-same c picture last same =
    let kept : c.self.inside.picture ≡ picture = last_is c.self.inside.seen c.self.inside.picture picture (ap (λ (s : SettlerState). s.last) c.self.view_is ∙ last) in
    absurd (field_differs c.self.inside.picture picture c.number-at.result c.args.square c.args.code kept c.number-at.ensures.number c.self.told c.number-at.ensures.in_range c.if-last-code.false same)
