use Rattle.std.proofs.Common.{◌∙◌, List, take, refl, sym, ap, subst}
use Rattle.chess_rules.specs.declared.chess_move.Move.{Move}
use Rattle.chess_rules.specs.declared.parts.Parts.{Parts}
use Rattle.settle_core.specs.Folding.{moves_of}
use Rattle.settle_core.specs.Settler.{SettlerState, plies_of}
use Rattle.settle_core.specs.Settling.{Line, position_after}
use Rattle.typed_lines.specs.Lines.{ReadsLine}
use Rattle.typed_lines.specs.declared.reading.Typed.{Typed}
use Rattle.typed_lines.specs.declared.reading.Typed.TheVariants as typed
use Rattle.board_captures.specs.Reading.{setting_of}
use Rattle.going_back.proofs.ChangeLemmas.{change_from, no_moves, place_in, position_in, said_line_of}
use Rattle.going_back.proofs.Fronts.{if_ok, line_front}
use Rattle.going_back.proofs.replacing.change_of.Goals as goal

pub position_behind-position-requires : goal.position_behind-position-requires
position_behind-position-requires c =
    let S : Parts → Type 0 = λ p. Line p (moves_of (take c.in-Some.stays c.moves-plies.result.now)) in
    subst S (sym c.start-2.ensures) (line_front c.settler-settler.result.now.start c.moves-plies.result.now c.in-Some.stays c.moves-plies.ensures.line)

pub change_by-requires-clause-line : goal.change_by-requires-clause-line
change_by-requires-clause-line c =
    let game : SettlerState = c.args.captured.now.session.settler in
    let same = c.settler-settler.ensures.same in
    let text = c.args.text.now in
    let p = c.position_behind-position.result in
    let moves = c.in-Moves.moves in
    let here = position_in game c.start-2.result.now c.moves-plies.result.now c.in-Some.stays p (c.start-2.ensures ∙ ap (λ (s : SettlerState). s.start) same) (c.moves-plies.ensures.plies ∙ ap plies_of same)
    c.position_behind-position.ensures in
    let R : Typed → Type 0 = λ said. ReadsLine p text said in
    let L : Parts → Type 0 = λ q. Line q moves.items in
    let M : List Move → Type 0 = λ ms. Line (position_after game.start (moves_of (take c.in-Some.stays (plies_of game)))) ms in
    subst M (sym c.as_slice.ensures.value) (subst L here (said_line_of p text (typed.Moves moves) moves.items (subst R c.in-Moves.is c.in_ok-said.ensures) refl))

pub returns-in-Moves : goal.returns-in-Moves
returns-in-Moves c = λ past stands.
    let setting = setting_of c.args.method.now in
    let recovers = c.args.method.now.recovers in
    let game : SettlerState = c.args.captured.now.session.settler in
    let same = c.settler-settler.ensures.same in
    let text = c.args.text.now in
    let p = c.position_behind-position.result in
    let moves = c.in-Moves.moves in
    let start-is = c.start.ensures ∙ ap (λ (s : SettlerState). s.start) same in
    let begins = c.start-2.ensures ∙ ap (λ (s : SettlerState). s.start) same in
    let plies-are = c.moves-plies.ensures.plies ∙ ap plies_of same in
    let place = place_in game text c.start.result.now c.moves-plies.result.now c.in_ok-stays.field-0 c.in-Some.stays start-is plies-are c.in-Some.is c.in_ok-stays.ensures.some in
    let here = position_in game c.start-2.result.now c.moves-plies.result.now c.in-Some.stays p begins plies-are c.position_behind-position.ensures in
    let R : Typed → Type 0 = λ said. ReadsLine p text said in
    let H : Parts → Type 0 = λ q. ReadsLine q text (typed.Moves moves) in
    let reads = subst H here (subst R c.in-Moves.is c.in_ok-said.ensures) in
    if_ok _ _ c.change_by.result (λ answer by. change_from setting recovers past game text c.in-Some.stays (typed.Moves moves) c.as_slice.result.now answer place reads (sym c.as_slice.ensures.value) by)
    (c.change_by.ensures past stands)

pub returns-in_ok-said_line-in_default-2 : goal.returns-in_ok-said_line-in_default-2
returns-in_ok-said_line-in_default-2 c = λ past stands.
    let game : SettlerState = c.args.captured.now.session.settler in
    let same = c.settler-settler.ensures.same in
    let text = c.args.text.now in
    let p = c.position_behind-position.result in
    let start-is = c.start.ensures ∙ ap (λ (s : SettlerState). s.start) same in
    let begins = c.start-2.ensures ∙ ap (λ (s : SettlerState). s.start) same in
    let plies-are = c.moves-plies.ensures.plies ∙ ap plies_of same in
    let place = place_in game text c.start.result.now c.moves-plies.result.now c.in_ok-stays.field-0 c.in-Some.stays start-is plies-are c.in-Some.is c.in_ok-stays.ensures.some in
    let here = position_in game c.start-2.result.now c.moves-plies.result.now c.in-Some.stays p begins plies-are c.position_behind-position.ensures in
    let H : Parts → Type 0 = λ q. ReadsLine q text c.in_ok-said.said in
    (c.in-Some.stays, place, (c.in_ok-said.said, subst H here c.in_ok-said.ensures, no_moves c.in_ok-said.said c.in_default-2.not-Moves, c.in_ok-said_line-in_default-2.ensures))
