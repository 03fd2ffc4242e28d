use Rattle.std.proofs.Common.{◌≡◌, ◌∙◌, List, inr, sym, ap, subst, take}
use Rattle.chess_rules.specs.declared.parts.Parts.{Parts}
use Rattle.settle_core.specs.declared.plies.Ply.{Ply}
use Rattle.settle_core.specs.Folding.{moves_of}
use Rattle.settle_core.specs.Settler.{SettlerState, plies_of}
use Rattle.settle_core.specs.Settling.{Line}
use Rattle.board_captures.specs.Reading.{setting_of}
use Rattle.going_back.specs.Back.{Refuses}
use Rattle.going_back.proofs.Fronts.{line_front}
use Rattle.going_back.proofs.going.go_back.Goals as goal

pub position_behind-requires : goal.position_behind-requires
position_behind-requires c =
    let S : Parts → Type 0 = λ p. Line p (moves_of (take c.args.stays c.moves.result.now)) in
    subst S (sym c.start.ensures) (line_front c.settler-settler.result.now.start c.moves.result.now c.args.stays c.moves.ensures.line)

pub replace_plies-requires : goal.replace_plies-requires
replace_plies-requires c = record {
  line = (let S : SettlerState → Type 0 = λ s. Line s.start (moves_of (take c.args.stays c.moves.result.now)) in
      subst S c.settler-settler.ensures.same (line_front c.settler-settler.result.now.start c.moves.result.now c.args.stays c.moves.ensures.line));
}

pub returns-in-Err-clause-refused : goal.returns-in-Err-clause-refused
returns-in-Err-clause-refused c = λ past stands.
    let setting = setting_of c.args.method.now in
    let recovers = c.args.method.now.recovers in
    let old = plies_of c.args.captured.now.session.settler in
    let are : c.moves.result.now ≡ old = c.moves.ensures.plies ∙ ap plies_of c.settler-settler.ensures.same in
    let R : List Ply → Type 0 = λ xs. Refuses setting recovers past old (take c.args.stays xs) c.in-Err.error in
    subst R are (inr (c.in-Err.ensures.refused past stands))
