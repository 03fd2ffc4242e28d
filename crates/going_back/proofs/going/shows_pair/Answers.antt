use Rattle.std.proofs.Common.{◌≡◌, true, subst, sym}
use Rattle.settle_core.specs.Folding.{moves_of}
use Rattle.settle_core.specs.Settler.{SettlerState}
use Rattle.unseen_pairs.specs.Pairs.{IsExplained}
use Rattle.going_back.proofs.going.shows_pair.Goals as goal

pub returns : goal.returns
returns c =
    let recovers : c.args.method.now.recovers ≡ true = let not = c.if-not-method.false in cc in
    let E : SettlerState → Type 0 = λ s. IsExplained s.start (moves_of s.score.plies) c.args.picture.now in (
      λ t. (recovers, subst E c.settler.ensures.same (c.in_ok-pair.ensures.0 t)),
      λ h. c.in_ok-pair.ensures.1 (subst E (sym c.settler.ensures.same) h.1),
    )
