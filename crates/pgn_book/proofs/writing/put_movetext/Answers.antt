use Rattle.std.proofs.Common.{◌++◌, ◌∷◌, [], ℕ, List, true, ap, subst, ◌∙◌}
use Rattle.settle_core.specs.declared.plies.Ply.{Ply}
use Rattle.chess_rules.specs.declared.parts.Parts.{Parts}
use Rattle.watched_streams.specs.Watch.{inner_of, has_failed}
use Rattle.pgn_book.specs.Movetext.{ArePliesShown, tokens_of, result_text}
use Rattle.pgn_book.specs.Inside.Flow.{flow, Adds}
use Rattle.pgn_book.proofs.Standing.{Adds-then, Writes-then, Writes-same}
use Rattle.pgn_book.proofs.writing.put_movetext.Goals as goal

pub returns : goal.returns
returns g c =
    let game = c.args.game.now in
    let moves = c.put_plies.ensures.0 in
    let P : Parts → Type 0 = λ p. ArePliesShown p game.plies moves in
    let Q : List Ply → Type 0 = λ ps. ArePliesShown c.start.result.now ps moves in
    let shown = subst P c.start.ensures.start (subst Q c.plies.ensures.plies c.put_plies.ensures.1) in
    let mark = result_text game.result in
    let ts = tokens_of true moves in
    let last = Writes-same _ _ _ _ c.put_plies.new.at c.put_token.new.at _ (mark ∷ []) (ap (λ (x : List ℕ). x ∷ []) (c.as_bytes.ensures.value ∙ c.result_str.ensures.text ∙ ap result_text c.result.ensures)) c.put_token.ensures in
    let both = Writes-then _ _ _ _ _ _ c.args.at.now c.put_plies.new.at c.put_token.new.at ts (mark ∷ []) c.put_plies.ensures.2 last in
    let A : ℕ → Type 0 = λ n. Adds (g.W.Write.contents (inner_of c.args.out.now)) (g.W.Write.contents (inner_of c.put_token.new.out)) (has_failed c.args.out.now) (has_failed c.put_token.new.out) c.args.at.now c.put_token.new.at (flow n (ts ++ mark ∷ [])) in
    let from_0 = subst A c.requires both.adds in
    (moves, shown, Adds-then _ _ _ _ _ _ c.args.at.now c.put_token.new.at c.add.new.at (flow 0 (ts ++ mark ∷ [])) (10 ∷ 10 ∷ []) from_0 c.add.ensures.adds)
