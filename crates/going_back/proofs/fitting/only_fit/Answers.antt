use Rattle.std.proofs.Common.{◌↔◌, Contains, List, sym, subst}
use Rattle.settle_core.specs.Folding.{moves_of}
use Rattle.going_back.specs.declared.fit.Fit.{Fit}
use Rattle.going_back.specs.Fitting.{Fits, IsOnlyFit}
use Rattle.going_back.specs.Inside.Fitting.{IsOnlyOf}
use Rattle.going_back.proofs.FitListing.{if_none, if_some, only_fits, only_listed}
use Rattle.going_back.proofs.fitting.only_fit.Goals as goal

pub returns-clause-some : goal.returns-clause-some
returns-clause-some c =
    let start = c.args.start.now in
    let moves = moves_of c.args.plies.now in
    let seen = c.args.seen.now in
    let all = c.as_slice.result.now in
    let L : List Fit → Type 0 = λ xs. (x : Fit) → Contains xs x ↔ Fits start moves seen x in
    let each = subst L (sym c.as_slice.ensures.value) c.in_ok-fits.ensures in
    if_some (IsOnlyOf all) (IsOnlyFit start moves seen) c.only_of.result (λ fit only. only_fits start moves seen all fit each only) c.only_of.ensures.some

pub returns-clause-none : goal.returns-clause-none
returns-clause-none c =
    let start = c.args.start.now in
    let moves = moves_of c.args.plies.now in
    let seen = c.args.seen.now in
    let all = c.as_slice.result.now in
    let L : List Fit → Type 0 = λ xs. (x : Fit) → Contains xs x ↔ Fits start moves seen x in
    let each = subst L (sym c.as_slice.ensures.value) c.in_ok-fits.ensures in
    if_none ((fit : Fit) → IsOnlyOf all fit → ⊥) ((fit : Fit) → IsOnlyFit start moves seen fit → ⊥) c.only_of.result
    (λ none fit only. none fit (only_listed start moves seen all fit each only)) c.only_of.ensures.none
