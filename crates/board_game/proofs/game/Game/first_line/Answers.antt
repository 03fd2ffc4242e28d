use Rattle.std.proofs.Common.{◌≡◌, ◌++◌, [], ℕ, List, ap, ◌∙◌, rules}
use Prim.{search}
use Rattle.std.proofs.lemmas.Result.{on_ok_weaker}
use Rattle.chess_rules.specs.declared.parts.Parts.{Parts}
use Rattle.settle_core.specs.Settler.{SettlerState}
use Rattle.board_listing.specs.WatchLines.{position_words}
use Rattle.watched_streams.specs.Lines.{line}
use Rattle.board_game.proofs.game.Game.first_line.Goals as goal

pub returns : goal.returns
returns c = λ setting recovers past text s.
    let held = c.session.ensures setting recovers past text s in
    let start : c.start-start.result.now ≡ setting.start = c.start-start.ensures ∙ ap (λ (x : SettlerState). x.start) c.settler.ensures.same ∙ held.2.settler.start_is in
    let empty : c.new-space.result.items ≡ [] = search rules in
    on_ok_weaker c.append.result (λ is. is ∙ ap (λ (t : List ℕ). c.args.lines.now.items ++ t)
    (c.as_slice.ensures.value ∙ c.add_first.ensures ∙ ap (λ (xs : List ℕ). xs ++ line 0 (position_words c.start-start.result.now)) empty
    ∙ ap (λ (p : Parts). line 0 (position_words p)) start)) c.append.ensures
