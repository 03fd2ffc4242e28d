use Rattle.std.proofs.Common.{◌≡◌, ◌<◌, ℕ, slice_index_or}
use Rattle.going_back.proofs.fitting.only_of.Given as goal

abbrev pub invariant-fits : goal.invariant-fits
invariant-fits l = (k : ℕ) → k < l.fit-index → slice_index_or l.fits k l.first ≡ l.first
