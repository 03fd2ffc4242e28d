use Rattle.std.proofs.Common.{◌-◌, Option, IfSome, length, subst}
use Rattle.settle_core.specs.Folding.{moves_of}
use Rattle.going_back.specs.declared.fit.Fit.{Fit}
use Rattle.going_back.specs.Fitting.{IsOnlyFit}
use Rattle.going_back.proofs.Fronts.{line_front}
use Rattle.going_back.proofs.ProposeLemmas.{leads_behind}
use Rattle.going_back.proofs.proposing.say_fit.Goals as goal

pub typed_text-requires-clause-line : goal.typed_text-requires-clause-line
typed_text-requires-clause-line c = line_front c.args.start.now c.args.plies.now (length c.args.plies.now - c.in-Some.fit.gone) c.requires

pub typed_text-requires-clause-comes : goal.typed_text-requires-clause-comes
typed_text-requires-clause-comes c =
    let start = c.args.start.now in
    let plies = c.args.plies.now in
    let seen = c.args.seen.now in
    let I : Option Fit → Type 0 = λ found. IfSome found (IsOnlyFit start (moves_of plies) seen) in
    let leads = leads_behind start plies seen c.in-Some.fit (subst I c.in-Some.is c.in_ok-fit.ensures.some) in
    leads.legal
