use Rattle.std.proofs.Common.{◌≡◌, ◌∙◌, ℕ, List, ap, subst, inl, inr, refl}
use Rattle.settle_core.specs.declared.plies.Ply.{Ply}
use Rattle.settle_core.specs.Settler.{plies_of}
use Rattle.board_captures.specs.Reading.{setting_of}
use Rattle.going_back.specs.Back.{Gives, RefusesThese, Replaces}
use Rattle.going_back.proofs.Fronts.{refused_so}
use Rattle.going_back.proofs.going.replace_plies.Goals as goal

pub returns-in_default-clause-refused : goal.returns-in_default-clause-refused
returns-in_default-clause-refused c = λ past stands. inr (inl (refl, c.in_default.ensures.shown (setting_of c.args.method.now) past stands))

pub returns-in-Err-clause-refused : goal.returns-in-Err-clause-refused
returns-in-Err-clause-refused c = λ past stands.
    let setting = setting_of c.args.method.now in
    let recovers = c.args.method.now.recovers in
    let last = c.in-Some.ensures.shown setting past stands in
    let made = c.in-Ok.ensures past stands last in
    let plies-are : c.moves-old.result.now ≡ plies_of c.args.captured.now.session.settler = c.moves-old.ensures.plies ∙ ap plies_of c.settler.ensures.same in
    let R : List Ply → Type 0 = λ old. RefusesThese setting recovers past old c.args.plies.now c.in-Err.error in
    subst R plies-are (refused_so setting recovers past c.moves-old.result.now c.args.plies.now c.in-Ok.bytes.items c.deref.result.now c.in-Err.error
    c.deref.ensures.value made (c.in-Err.ensures.spoils past stands last))

pub returns-in-Ok-compare-clause-made : goal.returns-in-Ok-compare-clause-made
returns-in-Ok-compare-clause-made c = λ past stands.
    let setting = setting_of c.args.method.now in
    let recovers = c.args.method.now.recovers in
    let last = c.in-Some.ensures.shown setting past stands in
    let made = c.in-Ok.ensures past stands last in
    let plies-are : c.moves-old.result.now ≡ plies_of c.args.captured.now.session.settler = c.moves-old.ensures.plies ∙ ap plies_of c.settler.ensures.same in
    let more = c.in-Ok-compare.has_more in
    let G : List Ply → Type 0 = λ old. Replaces setting recovers past old c.args.plies.now more c.in-Ok.bytes.items in
    let B : List ℕ → Type 0 = λ bytes. Gives setting recovers past c.moves-old.result.now c.args.plies.now more bytes in
    subst G plies-are (made, subst B c.deref.ensures.value (c.in-Ok-compare.ensures.gives past stands last))
