use Rattle.std.proofs.Common.{◌∙◌, List, sym, subst}
use Rattle.settle_core.specs.declared.plies.Ply.{Ply}
use Rattle.settle_core.specs.Folding.{moves_of}
use Rattle.settle_core.specs.Settling.{Line}
use Rattle.adding.proofs.TrialLemmas.{unclocked_line}
use Rattle.adding.proofs.adding.trial_of_moves.Goals as goal

pub bytes_of_moves-requires : goal.bytes_of_moves-requires
bytes_of_moves-requires c =
    let P : List Ply → Type 0 = λ plies. Line c.args.p.now (moves_of plies) in
    subst P (sym (c.as_slice.ensures.value ∙ c.in_ok-plies.ensures)) (unclocked_line c.args.p.now c.args.moves.now c.requires)
