use Rattle.std.proofs.Common.{◌≡◌, ◌-◌, ◌∷◌, [], ℕ, List, Option, Some, None, length, reverse, sym, ap, subst, ◌∙◌}
use Rattle.std.proofs.lemmas.Option.{none-some, same_Some}
use Rattle.std.specs.List.{slice_get}
use Rattle.chess_rules.specs.declared.chess_move.Move.{Move}
use Rattle.chess_rules.specs.declared.parts.Parts.{Parts}
use Rattle.chess_rules.specs.Legal.{Legal}
use Rattle.settle_core.specs.declared.compared.Compared.{Compared}
use Rattle.settle_core.specs.declared.plies.Ply.{Ply}
use Rattle.settle_core.specs.Folding.{Replaces, moves_of}
use Rattle.settle_core.specs.Inside.Kept.{CanReplace, IsComparedIn, before_last, position_in}
use Rattle.settle_core.specs.Settler.{SettlerState}
use Rattle.settle_core.specs.Settling.{Settles, reached}
use Rattle.settle_core.proofs.Steps.{replaces_but, last_from, last_is, some_map, none_map}
use Rattle.settle_core.proofs.settler.Settler.instead.Goals as goal

-- where no position stands before the last move, there is no last move
none_replaced :
    (start : Parts) (before : Option Compared) (seen : List ℕ) (turned : List Ply) (m : Move)
    → position_in before ≡ before_last start (moves_of turned) → before ≡ None → ¬ Replaces start (moves_of turned) seen m
none_replaced start before seen [] m s none r = r
none_replaced start before seen (last ∷ earlier) m s none r = none-some _ (sym (ap position_in none) ∙ s)

-- what settles in the position before the last move is legal in its place
replaces_legal :
    (start : Parts) (before : Option Compared) (b : Compared) (seen : List ℕ) (turned : List Ply) (m : Move)
    → position_in before ≡ before_last start (moves_of turned) → before ≡ Some b → Settles b.position seen m → CanReplace start (moves_of turned) m
replaces_legal start before b seen [] m s some st = absurd (none-some _ (sym s ∙ ap position_in some))
replaces_legal start before b seen (last ∷ earlier) m s some st =
    let at : b.position ≡ reached start (moves_of earlier) = same_Some _ _ (sym (ap position_in some) ∙ s) in
    let L : Parts → Type 0 = λ p. Legal p m in
    subst L at st.legal

pub returns-clause-none : goal.returns-clause-none
returns-clause-none c picture seen =
    let V : List Ply → Type 0 = λ xs. Some c.in_ok-last.last.now ≡ slice_get xs (length xs - 1) in
    let value : V c.self.inside.plies.items = subst V c.deref.ensures.value c.in_ok-last.ensures.value in
    let both = replaces_but c.self.inside.start c.self.inside.before c.in-Some.before c.self.inside.picture (reverse c.self.inside.plies.items) c.in_ok-last.last.now
    c.self.invariant.before_is c.in-Some.is (last_from c.self.inside.plies.items c.in_ok-last.last.now value) in
    let shown : c.self.inside.picture ≡ picture = last_is c.self.inside.seen c.self.inside.picture picture (ap (λ (s : SettlerState). s.last) c.self.view_is ∙ seen) in
    none_map c.settled_but.result
    (λ alone m r.
    let R : SettlerState → Type 0 = λ s. Replaces s.start (moves_of s.score.plies) picture m in
    let Q : List ℕ → Type 0 = λ x. Replaces c.self.inside.start (moves_of (reverse c.self.inside.plies.items)) x m in
    both.1 alone m (subst Q (sym shown) (subst R (sym c.self.view_is) r)))
    c.settled_but.ensures.none

pub returns-clause-some : goal.returns-clause-some
returns-clause-some c picture seen =
    let V : List Ply → Type 0 = λ xs. Some c.in_ok-last.last.now ≡ slice_get xs (length xs - 1) in
    let value : V c.self.inside.plies.items = subst V c.deref.ensures.value c.in_ok-last.ensures.value in
    let both = replaces_but c.self.inside.start c.self.inside.before c.in-Some.before c.self.inside.picture (reverse c.self.inside.plies.items) c.in_ok-last.last.now
    c.self.invariant.before_is c.in-Some.is (last_from c.self.inside.plies.items c.in_ok-last.last.now value) in
    let shown : c.self.inside.picture ≡ picture = last_is c.self.inside.seen c.self.inside.picture picture (ap (λ (s : SettlerState). s.last) c.self.view_is ∙ seen) in
    some_map c.settled_but.result
    (λ m t.
    let R : SettlerState → Type 0 = λ s. Replaces s.start (moves_of s.score.plies) picture m in
    let Q : List ℕ → Type 0 = λ x. Replaces c.self.inside.start (moves_of (reverse c.self.inside.plies.items)) x m in
    subst R c.self.view_is (subst Q shown (both.0 m t)))
    c.settled_but.ensures.some

pub returns-clause-legal : goal.returns-clause-legal
returns-clause-legal c =
    some_map c.settled_but.result
    (λ m t.
    let C : SettlerState → Type 0 = λ s. CanReplace s.start (moves_of s.score.plies) m in
    subst C c.self.view_is
    (replaces_legal c.self.inside.start c.self.inside.before c.in-Some.before c.self.inside.picture (reverse c.self.inside.plies.items) m
    c.self.invariant.before_is c.in-Some.is t.0))
    c.settled_but.ensures.some

pub returns-in_default-clause-none : goal.returns-in_default-clause-none
returns-in_default-clause-none c picture seen m r =
    let R : SettlerState → Type 0 = λ s. Replaces s.start (moves_of s.score.plies) picture m in
    none_replaced c.self.inside.start c.self.inside.before picture (reverse c.self.inside.plies.items) m c.self.invariant.before_is c.in_default.is
    (subst R (sym c.self.view_is) r)

pub settled_but-requires-clause-compared : goal.settled_but-requires-clause-compared
settled_but-requires-clause-compared c =
    let B : Option Compared → Type 0 = λ b. IsComparedIn b c.self.inside.picture in
    subst B c.in-Some.is c.self.invariant.before_compared
