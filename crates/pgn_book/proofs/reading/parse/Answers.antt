use Rattle.std.proofs.Common.{◌≡◌, ◌∙◌, sym, subst, ap, codes, List, ℕ, Option, Some}
use Rattle.chess_rules.specs.declared.parts.Parts.{Parts}
use Rattle.settle_core.specs.declared.plies.Outcome.{Outcome}
use Rattle.settle_core.specs.declared.plies.Ply.{Ply}
use Rattle.settle_core.specs.Folding.{moves_of}
use Rattle.settle_core.specs.Settling.{position_after}
use Rattle.settle_core.specs.GameResult.{IsResult}
use Rattle.pgn_book.specs.Inside.Parse.{AreTurns, HasStart, Turn, fen_at, moves_part, next_line, result_at, turns_at, value_part, words}
use Rattle.pgn_book.proofs.OneText.{same_game, own_sign}
use Rattle.pgn_book.proofs.reading.parse.Goals as goal

pub returns-in-Ok-read_plies : goal.returns-in-Ok-read_plies
returns-in-Ok-read_plies c = λ game is p.
    let marker = c.value_of-marker.ensures ∙ ap (value_part (codes "Result")) c.behind_tags.ensures in
    let set_up = c.next_line-set_up.ensures ∙ ap next_line marker in
    let tags = c.in-Ok.ensures game.tags is.tags p.tags in
    let F : List ℕ → Type 0 = λ bytes. HasStart game.start (fen_at bytes) in
    let some : Some c.in-Some.start ≡ Some game.start = c.in-Some.ensures game.start is.start (subst F (sym set_up) p.start) in
    let start : c.in-Some.start ≡ game.start = cc in
    let turns = ap (λ (x : List ℕ). turns_at (words x)) (c.moves_of.ensures ∙ ap moves_part set_up) in
    let S : Parts → Type 0 = λ x. AreTurns x game.plies (turns_at (words c.moves_of.result.now)) in
    let T : List Turn → Type 0 = λ ts. AreTurns game.start game.plies ts in
    let plies = c.in-Ok-read_plies.ensures.only game.plies (subst S (sym start) (subst T (sym turns) p.plies)) in
    let sign = c.read_result.ensures ∙ ap result_at marker ∙ sym p.result in
    let R : Option Outcome → Type 0 = λ o. IsResult (position_after game.start (moves_of game.plies)) o c.new.result.result in
    let P : Parts → Type 0 = λ x. IsResult x c.read_result.result c.new.result.result in
    let last = ap (λ (x : Parts). position_after x (moves_of c.in-Ok-read_plies.plies.items)) start ∙ ap (λ (xs : List Ply). position_after game.start (moves_of xs)) plies in
    let result = own_sign (position_after game.start (moves_of game.plies)) is.sign game.result c.new.result.result is.result (subst R sign (subst P last c.new.ensures.result)) in
    same_game c.new.result game (c.new.ensures.tags ∙ tags) (c.new.ensures.start ∙ start) (c.new.ensures.plies ∙ plies) result
