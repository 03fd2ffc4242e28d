-- What a recoverer makes of an entry. Entries are listed with the latest first.
use Rattle.std.specs.Prelude.{List, ◌∷◌, Option, Some, None}
use Rattle.chess_rules.specs.declared.parts.Parts.{Parts}
use Rattle.settle_core.specs.declared.plies.Seen.{Seen}
use Rattle.settle_core.specs.Entries.{Entry}
use Rattle.unseen_pairs.specs.declared.pair.Recovery.{Recovery}
use Rattle.unseen_pairs.specs.declared.pair.SeenOrRecovered.TheVariants.{Shown, Recovered}
use Rattle.unseen_pairs.specs.Recoverer.{HasRecovered, RecovererState, ReturnsTold, written_after}

-- After these entries it was given this one too, at which this was recovered.
abbrev pub Sees : RecovererState → Parts → List Entry → List Entry → Entry → Option Recovery → Type 0
Sees recoverer start past written entry (Some r) =
    HasRecovered recoverer start (entry ∷ past) (written_after entry (Recovered r) written)
    × ReturnsTold start past entry.picture (Recovered r)
Sees recoverer start past written entry None = (seen : Seen)
    × HasRecovered recoverer start (entry ∷ past) (written_after entry (Shown seen) written)
    × ReturnsTold start past entry.picture (Shown seen)
