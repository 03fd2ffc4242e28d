use Prim.{search}
use Rattle.std.proofs.Common.{◌≡◌, ℕ, List, Some, rules, drop, reverse, refl, sym, ap, subst, ◌∙◌}
use Rattle.chess_rules.specs.declared.chess_move.Move.{Move}
use Rattle.chess_rules.specs.declared.parts.Parts.{Parts}
use Rattle.chess_rules.specs.Legal.{Legal}
use Rattle.chess_rules.specs.Picture.{picture}
use Rattle.settle_core.specs.declared.plies.Outcome.{Outcome}
use Rattle.settle_core.specs.declared.plies.Seen.TheVariants.{Waits}
use Rattle.settle_core.specs.Settling.{Settles, reached}
use Rattle.settle_core.specs.Sign.{IsSign}
use Rattle.settle_core.specs.Folding.{SeenAs, moves_of, played}
use Rattle.settle_core.specs.Inside.Kept.{OnlyLacks}
use Rattle.settle_core.specs.Settler.{SettlerState, position_of}
use Rattle.settle_core.proofs.Steps.{elsewhere, last_is}
use Rattle.settle_core.proofs.Lacking.{waits_lacking}
use Rattle.settle_core.proofs.settler.Settler.judge.Goals as goal

abbrev NoMove : Parts → List ℕ → Type 0
NoMove p seen = (m : Move) → ¬ Settles p seen m

abbrev NoSign : Parts → List ℕ → Type 0
NoSign p seen = (o : Outcome) → ¬ IsSign p seen o

pub returns-in-Some-instead-clause-ok : goal.returns-in-Some-instead-clause-ok
returns-in-Some-instead-clause-ok c picture seen =
    let now : SettlerState = c.args.self.now in
    let at : c.self.inside.here.position ≡ position_of now = c.self.invariant.position ∙ ap position_of c.self.view_is in
    let shown : c.self.inside.picture ≡ picture = last_is c.self.inside.seen c.self.inside.picture picture (ap (λ (s : SettlerState). s.last) c.self.view_is ∙ seen) in
    let same : c.copy-in-Some-instead.result ≡ c.in-Some-instead.m = c.copy-in-Some-instead.ensures in (
      (
        elsewhere NoMove _ _ _ _ at shown c.in_default-settled_by.ensures.none,
        elsewhere NoSign _ _ _ _ at shown c.in_default-sign_of.ensures.none,
        c.in-Some-instead.ensures.some picture seen,
      ),
      c.replace.ensures ∙ ap (λ (m : Move). record { start = now.start; score = played now.start (drop 1 now.score.plies) c.args.clock m; last = now.last }) same,
    )

pub returns-clause-ok : goal.returns-clause-ok
returns-clause-ok c picture seen =
    let now : SettlerState = c.args.self.now in
    let at : c.self.inside.here.position ≡ position_of now = c.self.invariant.position ∙ ap position_of c.self.view_is in
    let shown : c.self.inside.picture ≡ picture = last_is c.self.inside.seen c.self.inside.picture picture (ap (λ (s : SettlerState). s.last) c.self.view_is ∙ seen) in (
      (
        elsewhere NoMove _ _ _ _ at shown c.in_default-settled_by.ensures.none,
        elsewhere NoSign _ _ _ _ at shown c.in_default-sign_of.ensures.none,
        c.in_default-instead.ensures.none picture seen,
      ),
      refl,
    )

pub returns-in_default-clause-ok : goal.returns-in_default-clause-ok
returns-in_default-clause-ok c seen last =
    let shown : c.self.inside.picture ≡ seen = last_is c.self.inside.seen c.self.inside.picture seen (ap (λ (s : SettlerState). s.last) c.self.view_is ∙ last) in
    let moves = moves_of (reverse c.self.inside.plies.items) in
    let P : List ℕ → Type 0 = λ xs. OnlyLacks xs c.self.inside.picture in
    let Q : Parts → Type 0 = λ p. OnlyLacks (picture p) c.self.inside.picture in
    let lacks : OnlyLacks (picture (reached c.self.inside.start moves)) c.self.inside.picture =
    subst Q c.self.invariant.position (subst P (c.self.invariant.here_compared).picture c.in_default.ensures.none) in
    let R : List ℕ → Type 0 = λ xs. SeenAs c.self.inside.start moves xs Waits in
    let S : SettlerState → Type 0 = λ s. SeenAs s.start (moves_of s.score.plies) seen Waits in (
      subst S c.self.view_is (subst R shown (waits_lacking c.self.inside.start moves c.self.inside.picture c.parts.ensures.valid c.self.invariant.played lacks)),
      refl,
    )

pub returns-in-Some-settled_by-clause-ok : goal.returns-in-Some-settled_by-clause-ok
returns-in-Some-settled_by-clause-ok c picture seen =
    let now : SettlerState = c.args.self.now in
    let at : c.self.inside.here.position ≡ position_of now = c.self.invariant.position ∙ ap position_of c.self.view_is in
    let shown : c.self.inside.picture ≡ picture = last_is c.self.inside.seen c.self.inside.picture picture (ap (λ (s : SettlerState). s.last) c.self.view_is ∙ seen) in
    let S : Parts → List ℕ → Type 0 = λ p xs. Settles p xs c.in-Some-settled_by.m in (
      elsewhere S _ _ _ _ at shown c.in-Some-settled_by.ensures.some,
      c.in_ok-add.ensures.ok ∙ ap (λ (m : Move). record { start = now.start; score = played now.start now.score.plies c.args.clock m; last = now.last }) c.copy.ensures,
    )

pub returns-in-Some-sign_of-clause-ok : goal.returns-in-Some-sign_of-clause-ok
returns-in-Some-sign_of-clause-ok c picture seen =
    let now : SettlerState = c.args.self.now in
    let at : c.self.inside.here.position ≡ position_of now = c.self.invariant.position ∙ ap position_of c.self.view_is in
    let shown : c.self.inside.picture ≡ picture = last_is c.self.inside.seen c.self.inside.picture picture (ap (λ (s : SettlerState). s.last) c.self.view_is ∙ seen) in
    let S : Parts → List ℕ → Type 0 = λ p xs. IsSign p xs c.in-Some-sign_of.outcome in (
      elsewhere S _ _ _ _ at shown c.in-Some-sign_of.ensures.some,
      ap (λ (s : SettlerState). record { start = s.start; score = record { plies = s.score.plies; sign = Some c.in-Some-sign_of.outcome }; last = s.last }) c.self.view_is,
    )

pub returns-in_err-add-clause-memory : goal.returns-in_err-add-clause-memory
returns-in_err-add-clause-memory c picture seen =
    let now : SettlerState = c.args.self.now in
    let at : c.self.inside.here.position ≡ position_of now = c.self.invariant.position ∙ ap position_of c.self.view_is in
    let shown : c.self.inside.picture ≡ picture = last_is c.self.inside.seen c.self.inside.picture picture (ap (λ (s : SettlerState). s.last) c.self.view_is ∙ seen) in
    let S : Parts → List ℕ → Type 0 = λ p xs. Settles p xs c.in-Some-settled_by.m in
    let gives : (m : Move) × Settles (position_of now) picture m = (c.in-Some-settled_by.m, elsewhere S _ _ _ _ at shown c.in-Some-settled_by.ensures.some) in
    search rules

pub add-requires : goal.add-requires
add-requires c =
    let at : c.self.inside.here.position ≡ position_of c.args.self.now = c.self.invariant.position ∙ ap position_of c.self.view_is in
    let P : Parts → Type 0 = λ p. Legal p c.in-Some-settled_by.m in
    let M : Move → Type 0 = λ m. Legal (position_of c.args.self.now) m in
    subst M (sym c.copy.ensures) (subst P at (c.in-Some-settled_by.ensures.some).legal)

pub landed-requires-clause-compared : goal.landed-requires-clause-compared
landed-requires-clause-compared c = c.self.invariant.here_compared

pub settled_by-requires-clause-compared : goal.settled_by-requires-clause-compared
settled_by-requires-clause-compared c = c.self.invariant.here_compared
