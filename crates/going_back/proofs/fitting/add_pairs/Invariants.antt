use Rattle.going_back.specs.Inside.Fitting.{Adds, IsBelow}
use Rattle.going_back.proofs.fitting.add_pairs.Given as goal

abbrev pub invariant-pairs : goal.invariant-pairs
invariant-pairs l = Adds (IsBelow l.gone l.went l.two-items l.two-index) l.initial.fits.items l.fits.items
