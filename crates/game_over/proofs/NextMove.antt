-- Another move after a result.
use Rattle.std.proofs.Common.{◌∷◌, ◌++◌, true, false, inl, inr}
use Rattle.game_over.specs.Standing.{NextMoveEnds}
use Rattle.game_over.proofs.Correcting.{ended_so, given_stays}

pub next_move_ends : NextMoveEnds
next_move_ends added move given next later past gives keeps over moves made corrects =
    elim gives.1 [
      | inl ends ↦
          ended_so false false move next (later ++ given ∷ past) (given_stays false added gives.0 given later past ends keeps) over moves made corrects
      | inr declares ↦
          ended_so true false move next (later ++ given ∷ past) (given_stays true added gives.0 given later past declares keeps) over moves made corrects
    ]
