-- Whether a picture is the position.
use Rattle.std.proofs.Common.{◌≡◌, ◌≢◌, ℕ, Bool, true, false, List, Option, Some, None, refl, ap, ◌∙◌}
use Rattle.std.specs.Prelude.{if◌then◌else◌}
use Rattle.std.specs.Str.{bytes_eq}
use Rattle.std.proofs.lemmas.Slice.Eq.{bytes_eq-Decides}
use Rattle.settle_core.specs.declared.plies.Ply.{Ply}
use Rattle.settle_core.proofs.Stages.{differ_false}
use Rattle.chess_rules.specs.declared.parts.Parts.{Parts}
use Rattle.board_alarms.specs.Plies.{position}
use Rattle.game_over.specs.declared.happened.Happening.{Happening}
use Rattle.game_over.specs.declared.happened.Happening.TheVariants.{Agrees, Differs}
use Rattle.game_over.specs.declared.happened.Move.{Move}
use Rattle.board_endings.specs.Meaning.{PositionAgrees}
use Rattle.board_endings.specs.Moves.{TellsMove}
use Rattle.board_endings.specs.Telling.{game_by}

no_move : (start : Parts) (added : Bool) (plies : List Ply) (moved : Option Move) → TellsMove start added plies plies moved → moved ≡ None
no_move start added plies None h = refl
no_move start added plies (Some move) h = absurd (h.0 refl)

pub position_agrees : PositionAgrees
position_agrees start added plies before after seen told h =
    let same : Bool = bytes_eq seen (position start plies) in
    let game : told.game ≡ (if same then Agrees else Differs) =
    h.game ∙ ap (λ (m : Option Move). game_by m same) (no_move start added plies h.moved h.moves) in (
      (λ is. game ∙ ap (λ b. if b then Agrees else Differs) ((bytes_eq-Decides seen (position start plies)).1 is)),
      (λ not. game ∙ ap (λ b. if b then Agrees else Differs) (differ_false seen (position start plies) not)),
    )
