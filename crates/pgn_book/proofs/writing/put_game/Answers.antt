use Rattle.std.proofs.Common.{◌++◌, ◌∷◌, [], subst}
use Rattle.chess_rules.specs.declared.parts.Parts.{Parts}
use Rattle.pgn_book.specs.Inside.Flow.{flow}
use Rattle.pgn_book.specs.Movetext.{result_text, game_tokens}
use Rattle.pgn_book.specs.Pgn.{IsSetUp, roster}
use Rattle.pgn_book.proofs.Export.{pieces, pieces_are_pgn}
use Rattle.pgn_book.proofs.Standing.{Adds-then}
use Rattle.pgn_book.proofs.writing.put_game.Goals as goal

pub returns : goal.returns
returns g c =
    let game = c.args.game.now in
    let lines = c.put_set_up.ensures.adds.0 in
    let S : Parts → Type 0 = λ p. IsSetUp p lines in
    let up = subst S c.start.ensures.start c.put_set_up.ensures.adds.1 in
    let moves = c.put_movetext.ensures.0 in
    let last = flow 0 (game_tokens moves game.result) ++ 10 ∷ 10 ∷ [] in
    let first = roster game.tags (result_text game.result) in (
      pieces game lines moves,
      pieces_are_pgn c.texts_are_plain.ensures game lines moves c.start.ensures.game up c.put_movetext.ensures.1,
      Adds-then _ _ _ _ _ _ c.args.at.now c.put_roster.new.at c.put_movetext.new.at first (lines ++ (10 ∷ [] ++ last)) c.put_roster.ensures.adds
          (Adds-then _ _ _ _ _ _ c.put_roster.new.at c.put_set_up.new.at c.put_movetext.new.at lines (10 ∷ [] ++ last) c.put_set_up.ensures.adds.2
          (Adds-then _ _ _ _ _ _ c.put_set_up.new.at c.add.new.at c.put_movetext.new.at (10 ∷ []) last c.add.ensures.adds c.put_movetext.ensures.2)),
    )
