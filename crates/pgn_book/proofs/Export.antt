-- The export text is the text that is written.
use Rattle.std.proofs.Common.{◌≡◌, ℕ, List, [], ◌∷◌, ◌++◌, sym, ap, ◌∙◌, append_assoc}
use Rattle.chess_text.specs.Laws.{TextsArePlain}
use Rattle.chess_game.specs.Games.{Content, IsGame}
use Rattle.pgn_book.specs.Movetext.{ShownMove, ArePliesShown, result_text, game_tokens}
use Rattle.pgn_book.specs.Pgn.{Pgn, IsSetUp, roster}
use Rattle.pgn_book.specs.Inside.Flow.{flow}
use Rattle.pgn_book.proofs.Flowing.{movetext_of, movetext_is}
use Rattle.pgn_book.proofs.Tokens.{moves_fit, game_fits}

-- the text in the pieces in which it is written
abbrev pub pieces : Content → List ℕ → List ShownMove → List ℕ
pieces game set_up moves = roster game.tags (result_text game.result) ++ (set_up ++ (10 ∷ [] ++ (flow 0 (game_tokens moves game.result) ++ 10 ∷ 10 ∷ [])))

-- the same pieces, grouped as in the definition
regrouped : (set_up tokens : List ℕ) → set_up ++ 10 ∷ (tokens ++ 10 ∷ []) ++ 10 ∷ [] ≡ set_up ++ (10 ∷ [] ++ (tokens ++ 10 ∷ 10 ∷ []))
regrouped set_up tokens =
    append_assoc set_up (10 ∷ (tokens ++ 10 ∷ [])) (10 ∷ []) ∙ ap (λ (x : List ℕ). set_up ++ 10 ∷ x) (append_assoc tokens (10 ∷ []) (10 ∷ []))

pub pieces_are_pgn : TextsArePlain → (game : Content) (set_up : List ℕ) (moves : List ShownMove) → IsGame game → IsSetUp game.start set_up → ArePliesShown game.start game.plies moves
    → Pgn game (pieces game set_up moves)
pieces_are_pgn plain game set_up moves is up are =
    let fit = game_fits moves game.result (moves_fit plain game.start game.plies moves is.start is.line is.clocks are) in
    record {
      is_game = is;
      set_up = set_up;
      is_set_up = up;
      moves = moves;
      are_moves = are;
      movetext = flow 0 (game_tokens moves game.result) ++ 10 ∷ [];
      is_movetext = movetext_of (game_tokens moves game.result) fit.1 fit.0;
      is_text = ap (λ (x : List ℕ). roster game.tags (result_text game.result) ++ x) (sym (regrouped set_up (flow 0 (game_tokens moves game.result))));
    }

pub pgn_is_pieces : TextsArePlain → (game : Content) (text : List ℕ) (h : Pgn game text) → text ≡ pieces game h.set_up h.moves
pgn_is_pieces plain game text h =
    let fit = game_fits h.moves game.result (moves_fit plain game.start game.plies h.moves h.is_game.start h.is_game.line h.is_game.clocks h.are_moves) in
    h.is_text
    ∙ ap (λ (m : List ℕ). roster game.tags (result_text game.result) ++ (h.set_up ++ 10 ∷ m ++ 10 ∷ [])) (movetext_is (game_tokens h.moves game.result) h.movetext fit.1 fit.0 h.is_movetext)
    ∙ ap (λ (x : List ℕ). roster game.tags (result_text game.result) ++ x) (regrouped h.set_up (flow 0 (game_tokens h.moves game.result)))
