-- A game has one text, and no two games have one text.
use Rattle.std.proofs.Common.{◌≡◌, ℕ, List, [], ◌∷◌, Option, None, Some, refl, sym, ap, subst, ◌∙◌, inl, inr}
use Rattle.std.specs.Prelude.{◌⊎◌}
use Rattle.chess_clock.specs.declared.Hms.{Hms}
use Rattle.chess_rules.specs.declared.chess_move.Move.{Move}
use Rattle.chess_rules.specs.declared.parts.Parts.{Parts}
use Rattle.chess_rules.specs.declared.pieces.Side.{Side}
use Rattle.chess_rules.specs.After.{after}
use Rattle.chess_rules.specs.Valid.{Valid}
use Rattle.chess_rules.proofs.Staying.{valid_after}
use Rattle.chess_text.specs.Fen.{whole}
use Rattle.chess_text.specs.Laws.{TextsArePlain, TextsTellMoves, MovesTellTexts, TextsTellPositions}
use Rattle.settle_core.specs.declared.plies.Outcome.{Outcome}
use Rattle.settle_core.specs.declared.plies.Outcome.TheVariants.{WhiteWins, BlackWins, Drawn}
use Rattle.settle_core.specs.declared.plies.Ply.{Ply}
use Rattle.settle_core.specs.Settling.{Line}
use Rattle.settle_core.specs.Folding.{moves_of}
use Rattle.settle_core.specs.GameResult.{IsResult}
use Rattle.chess_game.specs.Values.{TagValues}
use Rattle.chess_game.specs.Games.{Content, IsGame}
use Rattle.pgn_book.specs.Movetext.{ShownMove, ArePliesShown}
use Rattle.pgn_book.specs.Pgn.{Pgn, IsSetUp, at_initial, elsewhere}
use Rattle.pgn_book.specs.Inside.Parse.{Turn, IsTurn, AreTurns, HasStart, Parses, fen_at, set_up_part, moves_part, words, turns_at}
use Rattle.pgn_book.proofs.Export.{pieces, pgn_is_pieces}
use Rattle.pgn_book.proofs.TagsRead.{one_list}

abbrev make_shown : Side → ℕ → List ℕ → Option Hms → ShownMove
make_shown side number san clock = record { side = side; number = number; san = san; clock = clock }

same_shown : (a b : ShownMove) → a.side ≡ b.side → a.number ≡ b.number → a.san ≡ b.san → a.clock ≡ b.clock → a ≡ b
same_shown a b s n t c =
    ap (λ x. make_shown x a.number a.san a.clock) s ∙ ap (λ x. make_shown b.side x a.san a.clock) n
    ∙ ap (λ x. make_shown b.side b.number x a.clock) t ∙ ap (λ x. make_shown b.side b.number b.san x) c

one_shown : MovesTellTexts → (p : Parts) (plies : List Ply) (xs ys : List ShownMove) → Valid p → Line p (moves_of plies) → ArePliesShown p plies xs → ArePliesShown p plies ys → xs ≡ ys
one_shown tell p [] [] [] v line h k = refl
one_shown tell p [] [] (y ∷ ys) v line h k = absurd k
one_shown tell p [] (x ∷ xs) ys v line h k = absurd h
one_shown tell p (ply ∷ plies) [] ys v line h k = absurd h
one_shown tell p (ply ∷ plies) (x ∷ xs) [] v line h k = absurd k
one_shown tell p (ply ∷ plies) (x ∷ xs) (y ∷ ys) v line h k =
    let first = same_shown x y (h.0.side ∙ sym k.0.side) (h.0.number ∙ sym k.0.number) (tell p ply.mv x.san y.san v line.0 h.0.san k.0.san) (h.0.clock ∙ sym k.0.clock) in
    ap (λ (m : ShownMove). m ∷ xs) first ∙ ap (λ (ms : List ShownMove). y ∷ ms) (one_shown tell (after p ply.mv) plies xs ys (valid_after p ply.mv v line.0) line.1 h.1 k.1)

one_set_up : (start : Parts) (a b : List ℕ) → IsSetUp start a → IsSetUp start b → a ≡ b
one_set_up start a b (at_initial i e) (at_initial j d) = e ∙ sym d
one_set_up start a b (at_initial i e) (elsewhere j d) = absurd (j i)
one_set_up start a b (elsewhere i e) (at_initial j d) = absurd (i j)
one_set_up start a b (elsewhere i e) (elsewhere j d) = e ∙ sym d

pub one_text : TextsArePlain → MovesTellTexts → (game : Content) (a b : List ℕ) → Pgn game a → Pgn game b → a ≡ b
one_text plain tell game a b h k =
    let up = one_set_up game.start h.set_up k.set_up h.is_set_up k.is_set_up in
    let moves = one_shown tell game.start game.plies h.moves k.moves h.is_game.start h.is_game.line h.are_moves k.are_moves in
    pgn_is_pieces plain game a h ∙ ap (λ (x : List ℕ). pieces game x h.moves) up ∙ ap (λ (x : List ShownMove). pieces game k.set_up x) moves ∙ sym (pgn_is_pieces plain game b k)

-- ---- one game

abbrev make_ply : Move → Option Hms → Ply
make_ply mv clock = record { mv = mv; clock = clock }

pub same_ply : (a b : Ply) → a.mv ≡ b.mv → a.clock ≡ b.clock → a ≡ b
same_ply a b m c = ap (λ x. make_ply x a.clock) m ∙ ap (λ x. make_ply b.mv x) c

pub one_turn : TextsTellMoves → (p : Parts) (a b : Ply) (turn : Turn) → Valid p → IsTurn p a turn → IsTurn p b turn → a ≡ b
one_turn tell p a b turn v h k = same_ply a b (tell p a.mv b.mv turn.san v h.legal k.legal h.san k.san) (sym h.clock ∙ k.clock)

one_line : TextsTellMoves → (p : Parts) (xs_ bs : List Ply) (turns : List Turn) → Valid p → AreTurns p xs_ turns → AreTurns p bs turns → xs_ ≡ bs
one_line tell p [] [] [] v h k = refl
one_line tell p [] (b ∷ bs) [] v h k = absurd k
one_line tell p (a ∷ xs_) bs [] v h k = absurd h
one_line tell p [] bs (turn ∷ turns) v h k = absurd h
one_line tell p (a ∷ xs_) [] (turn ∷ turns) v h k = absurd k
one_line tell p (a ∷ xs_) (b ∷ bs) (turn ∷ turns) v h k =
    let first = one_turn tell p a b turn v h.0 k.0 in
    let rest = subst (λ (x : Ply). AreTurns (after p x.mv) bs turns) (sym first) k.1 in
    ap (λ (x : Ply). x ∷ xs_) first ∙ ap (λ (xs : List Ply). b ∷ xs) (one_line tell (after p a.mv) xs_ bs turns (valid_after p a.mv v h.0.legal) h.1 rest)

one_start : TextsTellPositions → (p q : Parts) (set_up : Option (List ℕ)) → Valid p → Valid q → HasStart p set_up → HasStart q set_up → p ≡ q
one_start tell p q None v w h k = h ∙ sym k
one_start tell p q (Some text) v w h k = tell p q text v w (whole h) (whole k)

abbrev make_game : TagValues → Parts → List Ply → Option Outcome → Content
make_game tags start plies result = record { tags = tags; start = start; plies = plies; result = result }

pub same_game : (g h : Content) → g.tags ≡ h.tags → g.start ≡ h.start → g.plies ≡ h.plies → g.result ≡ h.result → g ≡ h
same_game g h t s p r =
    ap (λ x. make_game x g.start g.plies g.result) t ∙ ap (λ x. make_game h.tags x g.plies g.result) s
    ∙ ap (λ x. make_game h.tags h.start x g.result) p ∙ ap (λ x. make_game h.tags h.start h.plies x) r

pub one_parsed : TextsTellMoves → TextsTellPositions → (g h : Content) (text : List ℕ) → IsGame g → IsGame h → Parses g text → Parses h text → g ≡ h
one_parsed moves positions g h text i j p q =
    let start = one_start positions g.start h.start (fen_at (set_up_part text)) i.start j.start p.start q.start in
    let turns = turns_at (words (moves_part (set_up_part text))) in
    let line = subst (λ (x : Parts). AreTurns x h.plies turns) (sym start) q.plies in
    same_game g h (one_list g.tags h.tags text p.tags q.tags) start (one_line moves g.start g.plies h.plies turns i.start p.plies line) (p.result ∙ sym q.result)

-- ---- the result of a game is its own sign

abbrev Same : Option Outcome → Option Outcome → Type 0
Same a b = (a ≡ b) ⊎ (a ≡ b → ⊥)

same_or_not : (a b : Option Outcome) → Same a b
same_or_not None None = inl refl
same_or_not None (Some WhiteWins) = inr (λ e. absurd cc)
same_or_not None (Some BlackWins) = inr (λ e. absurd cc)
same_or_not None (Some Drawn) = inr (λ e. absurd cc)
same_or_not (Some WhiteWins) None = inr (λ e. absurd cc)
same_or_not (Some WhiteWins) (Some WhiteWins) = inl refl
same_or_not (Some WhiteWins) (Some BlackWins) = inr (λ e. absurd cc)
same_or_not (Some WhiteWins) (Some Drawn) = inr (λ e. absurd cc)
same_or_not (Some BlackWins) None = inr (λ e. absurd cc)
same_or_not (Some BlackWins) (Some WhiteWins) = inr (λ e. absurd cc)
same_or_not (Some BlackWins) (Some BlackWins) = inl refl
same_or_not (Some BlackWins) (Some Drawn) = inr (λ e. absurd cc)
same_or_not (Some Drawn) None = inr (λ e. absurd cc)
same_or_not (Some Drawn) (Some WhiteWins) = inr (λ e. absurd cc)
same_or_not (Some Drawn) (Some BlackWins) = inr (λ e. absurd cc)
same_or_not (Some Drawn) (Some Drawn) = inl refl

pub own_sign : (p : Parts) (sign result again : Option Outcome) → IsResult p sign result → IsResult p result again → again ≡ result
own_sign p sign result again h k =
    elim (same_or_not again result) [
      | inl e ↦ e
      | inr differ ↦ k.running (λ m. differ (k.mated m ∙ sym (h.mated m))) (λ s. differ (k.stale s ∙ sym (h.stale s)))
    ]
