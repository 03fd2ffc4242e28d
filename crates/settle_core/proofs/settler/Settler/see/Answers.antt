use Prim.{search}
use Rattle.std.proofs.Common.{rules}
use Rattle.std.proofs.Common.{ap, sym, subst, refl, ◌∙◌}
use Rattle.std.proofs.lemmas.Bool.{false≢true}
use Rattle.chess_rules.specs.declared.chess_move.Move.{Move}
use Rattle.settle_core.specs.Settling.{Settles}
use Rattle.settle_core.specs.Settler.{SettlerState, position_of}
use Rattle.settle_core.proofs.Steps.{fresh, judged, refused_gives, same_stands, same_answers, taken_stands, taken_answers}
use Rattle.settle_core.proofs.settler.Settler.see.Goals as goal

pub returns-in-Ok-clause-stands : goal.returns-in-Ok-clause-stands
returns-in-Ok-clause-stands c start past st =
    let last = c.is_last.ensures in
    let new = fresh c.args.self.now start past c.args.picture.now st (λ e. false≢true (sym c.if-is_last.false ∙ last.1 e)) in
    let j = judged c.args.self.now c.keep.new.self c.judge.new.self c.args.picture.now c.args.clock c.in-Ok.answer c.keep.ensures (c.in-Ok.ensures.ok c.args.picture.now (ap (λ (s : SettlerState). s.last) c.keep.ensures)) in
    taken_stands c.args.self.now c.judge.new.self start past c.args.picture.now c.args.clock c.in-Ok.answer st new j.0 j.1

pub returns-in-Ok-clause-answer : goal.returns-in-Ok-clause-answer
returns-in-Ok-clause-answer c start past st =
    let last = c.is_last.ensures in
    let new = fresh c.args.self.now start past c.args.picture.now st (λ e. false≢true (sym c.if-is_last.false ∙ last.1 e)) in
    let j = judged c.args.self.now c.keep.new.self c.judge.new.self c.args.picture.now c.args.clock c.in-Ok.answer c.keep.ensures (c.in-Ok.ensures.ok c.args.picture.now (ap (λ (s : SettlerState). s.last) c.keep.ensures)) in
    taken_answers c.args.self.now start past c.args.picture.now c.in-Ok.answer st new j.0

pub returns-in-Err-clause-seen : goal.returns-in-Err-clause-seen
returns-in-Err-clause-seen c = search rules

pub returns-in-Err-clause-err : goal.returns-in-Err-clause-err
returns-in-Err-clause-err c = search rules

pub returns-then-is_last-clause-stands : goal.returns-then-is_last-clause-stands
returns-then-is_last-clause-stands c start past st = same_stands c.args.self.now start past c.args.picture.now c.args.clock st (c.is_last.ensures.0 c.if-is_last.true)

pub returns-then-is_last-clause-answer : goal.returns-then-is_last-clause-answer
returns-then-is_last-clause-answer c start past st = same_answers c.args.self.now start past c.args.picture.now st (c.is_last.ensures.0 c.if-is_last.true)

pub returns-then-is_last-clause-same : goal.returns-then-is_last-clause-same
returns-then-is_last-clause-same c = λ _. (refl, refl)

pub returns-in-Ok-clause-same : goal.returns-in-Ok-clause-same
returns-in-Ok-clause-same c e = absurd (false≢true (sym c.if-is_last.false ∙ c.is_last.ensures.1 e))

pub returns-in-Err-clause-same : goal.returns-in-Err-clause-same
returns-in-Err-clause-same c e = absurd (false≢true (sym c.if-is_last.false ∙ c.is_last.ensures.1 e))

pub returns-in-Err-clause-memory : goal.returns-in-Err-clause-memory
returns-in-Err-clause-memory c start past st =
    let new = fresh c.args.self.now start past c.args.picture.now st (λ e. false≢true (sym c.if-is_last.false ∙ c.is_last.ensures.1 e)) in
    let gives : (m : Move) × Settles (position_of c.keep.new.self) c.args.picture.now m =
    c.in-Err.ensures.memory c.args.picture.now (ap (λ (s : SettlerState). s.last) c.keep.ensures) in
    let S : SettlerState → Type 0 = λ s. Settles (position_of s) c.args.picture.now gives.0 in
    refused_gives c.args.self.now start past c.args.picture.now gives.0 st new (subst S c.keep.ensures gives.1)
