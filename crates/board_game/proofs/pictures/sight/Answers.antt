use Rattle.std.proofs.Common.{Bool, subst}
use Rattle.board_alarms.specs.Hearing.{HasMoved}
use Rattle.board_game.specs.declared.pictures.Shown.{Shown}
use Rattle.board_game.specs.Inside.Shown.{IsShown}
use Rattle.board_game.proofs.PlyLemmas.{stays_again, stays_unseen}
use Rattle.board_game.proofs.ShownLemmas.{whole_again, whole_another}
use Rattle.board_game.proofs.pictures.sight.Goals as goal

pub returns-in-Nothing-clause-moved : goal.returns-in-Nothing-clause-moved
returns-in-Nothing-clause-moved c = λ setting past event valid shown.
    let S : Shown → Type 0 = λ s. IsShown setting past event s in
    stays_unseen setting past event valid (subst S c.in-Nothing.is shown)

pub returns-in-Again-clause-whole : goal.returns-in-Again-clause-whole
returns-in-Again-clause-whole c = λ setting past event seen last shown.
    let S : Shown → Type 0 = λ s. IsShown setting past event s in
    whole_again setting past event seen last (subst S c.in-Again.is shown)

pub returns-in-Again-clause-moved : goal.returns-in-Again-clause-moved
returns-in-Again-clause-moved c = λ setting past event valid shown.
    let S : Shown → Type 0 = λ s. IsShown setting past event s in
    let again = subst S c.in-Again.is shown in
    stays_again setting past event valid again.0 again.1

pub returns-then-moves-clause-whole : goal.returns-then-moves-clause-whole
returns-then-moves-clause-whole c = λ setting past event seen last shown.
    let S : Shown → Type 0 = λ s. IsShown setting past event s in
    whole_another setting past event seen _ _ _ last (subst S c.in-Another.is shown)

pub returns-then-moves-clause-moved : goal.returns-then-moves-clause-moved
returns-then-moves-clause-moved c = λ setting past event valid shown.
    let S : Shown → Type 0 = λ s. IsShown setting past event s in
    let M : Bool → Type 0 = λ b. HasMoved setting past event b in
    subst M c.if-moves.true (subst S c.in-Another.is shown).3

pub returns-else-moves-clause-whole : goal.returns-else-moves-clause-whole
returns-else-moves-clause-whole c = λ setting past event seen last shown.
    let S : Shown → Type 0 = λ s. IsShown setting past event s in
    whole_another setting past event seen _ _ _ last (subst S c.in-Another.is shown)

pub returns-else-moves-clause-moved : goal.returns-else-moves-clause-moved
returns-else-moves-clause-moved c = λ setting past event valid shown.
    let S : Shown → Type 0 = λ s. IsShown setting past event s in
    let M : Bool → Type 0 = λ b. HasMoved setting past event b in
    subst M c.if-moves.false (subst S c.in-Another.is shown).3
