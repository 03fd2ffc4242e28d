-- The text of a game parses as that game.
use Rattle.std.proofs.Common.{◌≡◌, ℕ, Bool, true, false, eqb, cond, List, [], ◌∷◌, ◌++◌, drop, length, map, Option, None, Some, refl, sym, ap, subst, ◌∙◌, ◌+◌, append_assoc, length-append, arith}
use Rattle.std.specs.Prelude.{codes, ◌||◌}
use Rattle.std.specs.List.{AllByRecursion}
use Rattle.std.proofs.lemmas.List.{drop_at}
use Rattle.std.proofs.lemmas.List.Elements.{recursion_from_All}
use Rattle.chess_rules.specs.declared.parts.Parts.{Parts}
use Rattle.chess_rules.specs.Initial.{initial}
use Rattle.chess_rules.specs.After.{after}
use Rattle.chess_text.specs.Fen.{fen}
use Rattle.chess_text.specs.Laws.{TextsArePlain, TextsTellMoves, TextsTellPositions}
use Rattle.settle_core.specs.declared.plies.Outcome.{Outcome}
use Rattle.settle_core.specs.declared.plies.Outcome.TheVariants.{WhiteWins, BlackWins, Drawn}
use Rattle.settle_core.specs.declared.plies.Ply.{Ply}
use Rattle.settle_core.specs.Settling.{Line}
use Rattle.settle_core.specs.Folding.{moves_of}
use Rattle.chess_game.specs.declared.values.Tag.{Tag}
use Rattle.chess_game.specs.TagNames.{all_tags, tag_name}
use Rattle.chess_game.specs.Values.{TagValues, value_of}
use Rattle.chess_game.specs.Games.{Content, IsTimed}
use Rattle.pgn_book.specs.Movetext.{ShownMove, ArePliesShown, result_text, game_tokens}
use Rattle.pgn_book.specs.Pgn.{Pgn, IsSetUp, at_initial, elsewhere, escape, escaped, tag_line, tag_lines, roster}
use Rattle.pgn_book.specs.Inside.Flow.{flow}
use Rattle.pgn_book.specs.Inside.Parse.{Turn, AreTurns, HasStart, Parses, words, turns_at, value_at, after_value, result_at, HaveValues, behind_lines, value_part, next_part, next_line, result_part, set_up_part, has_fen, fen_part, fen_at, moves_part}
use Rattle.pgn_book.proofs.Export.{pgn_is_pieces}
use Rattle.pgn_book.proofs.Tokens.{moves_fit, game_fits}
use Rattle.pgn_book.proofs.WordLemmas.{turn_of, movetext_back}
use Rattle.pgn_book.proofs.OneText.{one_parsed}

-- an escaped value, up to its quotation mark
abbrev special : ℕ → Bool
special b = eqb b 34 || eqb b 92

plain_no_quote : (b : ℕ) → special b ≡ false → (eqb b 34 ≡ false) × (eqb b 92 ≡ false)
plain_no_quote b e = elim (eqb b 34) as (λ q. (q || eqb b 92) ≡ false → (q ≡ false) × (eqb b 92 ≡ false)) [ true ↦ λ h. absurd cc | false ↦ λ h. (refl, h) ] e

value_step : (b : ℕ) (more : List ℕ) → (value_at false (escape b ++ more) ≡ b ∷ value_at false more) × (after_value false (escape b ++ more) ≡ after_value false more)
value_step b more =
    elim (special b) as (λ s. special b ≡ s → (value_at false (cond s (92 ∷ b ∷ []) (b ∷ []) ++ more) ≡ b ∷ value_at false more) × (after_value false (cond s (92 ∷ b ∷ []) (b ∷ []) ++ more) ≡ after_value false more)) [
      | true ↦ λ e. (refl, refl)
      | false ↦ λ e. let p = plain_no_quote b e in (rw (p.0, p.1) refl, rw (p.0, p.1) refl)
    ] refl

value_back : (v rest : List ℕ) → (value_at false (escaped v ++ 34 ∷ rest) ≡ v) × (after_value false (escaped v ++ 34 ∷ rest) ≡ rest)
value_back [] rest = (refl, refl)
value_back (b ∷ v) rest =
    let ih = value_back v rest in
    let s = value_step b (escaped v ++ 34 ∷ rest) in
    let g = append_assoc (escape b) (escaped v) (34 ∷ rest) in
    (ap (value_at false) g ∙ s.0 ∙ ap (λ (x : List ℕ). b ∷ x) ih.0, ap (after_value false) g ∙ s.1 ∙ ih.1)

-- what is left of a tag's line behind its value, and the text after it
abbrev behind : List ℕ → List ℕ
behind more = 93 ∷ 10 ∷ more

line_regroup : (name value more : List ℕ) → tag_line name value ++ more ≡ codes "[" ++ (name ++ (codes " \"" ++ (escaped value ++ 34 ∷ behind more)))
line_regroup name value more =
    append_assoc (codes "[") (name ++ (codes " \"" ++ (escaped value ++ codes "\"]\n"))) more
    ∙ ap (λ (x : List ℕ). codes "[" ++ x) (append_assoc name (codes " \"" ++ (escaped value ++ codes "\"]\n")) more)
    ∙ ap (λ (x : List ℕ). codes "[" ++ (name ++ x)) (append_assoc (codes " \"") (escaped value ++ codes "\"]\n") more)
    ∙ ap (λ (x : List ℕ). codes "[" ++ (name ++ (codes " \"" ++ x))) (append_assoc (escaped value) (codes "\"]\n") more)

-- behind this value, n bytes further
next_behind : (n : ℕ) (bytes value more : List ℕ) → bytes ≡ escaped value ++ 34 ∷ more → next_part n bytes ≡ drop n more
unfolding next_part
next_behind n bytes value more e = ap (λ (x : List ℕ). drop n (after_value false x)) e ∙ ap (drop n) (value_back value more).1

value_there : (bytes value more : List ℕ) → bytes ≡ escaped value ++ 34 ∷ more → value_at false bytes ≡ value
value_there bytes value more e = ap (value_at false) e ∙ (value_back value more).0

result_back : (result : Option Outcome) (more : List ℕ) → result_at (escaped (result_text result) ++ 34 ∷ more) ≡ result
result_back (Some WhiteWins) more = refl
result_back (Some BlackWins) more = refl
result_back (Some Drawn) more = refl
result_back None more = refl

-- where the value of a line begins
value_begins : (name more : List ℕ) → value_part name (codes "[" ++ (name ++ (codes " \"" ++ more))) ≡ more
unfolding value_part
value_begins name more =
    let front = codes "[" ++ (name ++ codes " \"") in
    ap (drop (length name + 3)) (ap (λ (x : List ℕ). codes "[" ++ x) (sym (append_assoc name (codes " \"") more)))
    ∙ drop_at front more (length name + 3) (omega (arith, length-append name (codes " \"")))

-- the lines of tags, one after another
record HasLines (text : List ℕ) (tags : List Tag) (values : TagValues) (more : List ℕ) : Type 0 where
  have : HaveValues tags values text
  rest : behind_lines tags text ≡ more

lines_back : (tags : List Tag) (values : TagValues) (more text : List ℕ) → text ≡ tag_lines values tags ++ more → HasLines text tags values more
lines_back [] values more text e = record { have = tt; rest = e }
lines_back (tag ∷ tags) values more text e =
    let value = value_of tag values in
    let after = tag_lines values tags ++ more in
    let begins : value_part (tag_name tag) text ≡ escaped value ++ 34 ∷ behind after =
    ap (value_part (tag_name tag)) (e ∙ append_assoc (tag_line (tag_name tag) value) (tag_lines values tags) more ∙ line_regroup (tag_name tag) value after)
    ∙ value_begins (tag_name tag) (escaped value ++ 34 ∷ behind after) in
    let next = lines_back tags values more (next_line (value_part (tag_name tag) text)) (next_behind 2 (value_part (tag_name tag) text) value (behind after) begins) in
    record { have = (sym (value_there (value_part (tag_name tag) text) value (behind after) begins), next.have); rest = next.rest }

-- what the roster's parts hold
record HasRoster (text : List ℕ) (values : TagValues) (result : Option Outcome) (more : List ℕ) : Type 0 where
  have : HaveValues all_tags values text
  has_result : result ≡ result_at (result_part text)
  rest : set_up_part text ≡ more

roster_back : (values : TagValues) (result : Option Outcome) (more text : List ℕ) → text ≡ roster values (result_text result) ++ more → HasRoster text values result more
unfolding roster
roster_back values result more text e =
    let mark = result_text result in
    let last = tag_line (codes "Result") mark in
    let lines = lines_back all_tags values (last ++ more) text (e ∙ append_assoc (tag_lines values all_tags) last more) in
    let begins : result_part text ≡ escaped mark ++ 34 ∷ behind more =
    ap (value_part (codes "Result")) (lines.rest ∙ line_regroup (codes "Result") mark more) ∙ value_begins (codes "Result") (escaped mark ++ 34 ∷ behind more) in
    record {
      have = lines.have;
      has_result = sym (ap result_at begins ∙ result_back result (behind more));
      rest = next_behind 2 (result_part text) mark (behind more) begins;
    }

-- what the set-up part holds
record HasSetUp (bytes : List ℕ) (start : Parts) (moves : List ℕ) : Type 0 where
  starts : HasStart start (fen_at bytes)
  has_moves : moves_part bytes ≡ moves

starts_with : (bytes : List ℕ) (start : Parts) (e : has_fen bytes ≡ true) → fen start ≡ value_at false (fen_part bytes) → HasStart start (fen_at bytes)
starts_with bytes start e h = rw e (sym h)

starts_without : (bytes : List ℕ) (start : Parts) (e : has_fen bytes ≡ false) → start ≡ initial → HasStart start (fen_at bytes)
starts_without bytes start e h = rw e h

set_up_back : (start : Parts) (set_up moves bytes : List ℕ) → IsSetUp start set_up → bytes ≡ set_up ++ (10 ∷ [] ++ moves) → HasSetUp bytes start moves
unfolding has_fen fen_part
set_up_back start set_up moves bytes (at_initial i none) e =
    let here : bytes ≡ 10 ∷ moves = e ∙ ap (λ (x : List ℕ). x ++ (10 ∷ [] ++ moves)) none in
    let without : has_fen bytes ≡ false = ap has_fen here in
    record { starts = starts_without bytes start without i; has_moves = rw without (ap (drop 1) here) }
set_up_back start set_up moves bytes (elsewhere i lines) e =
    let last = tag_line (codes "SetUp") (codes "1") ++ (10 ∷ [] ++ moves) in
    let here : bytes ≡ codes "[FEN \"" ++ (escaped (fen start) ++ 34 ∷ behind last) =
    e ∙ ap (λ (x : List ℕ). x ++ (10 ∷ [] ++ moves)) lines ∙ append_assoc (tag_line (codes "FEN") (fen start)) (tag_line (codes "SetUp") (codes "1")) (10 ∷ [] ++ moves) ∙ line_regroup (codes "FEN") (fen start) last in
    let with_fen : has_fen bytes ≡ true = ap has_fen here in
    let at_fen : fen_part bytes ≡ escaped (fen start) ++ 34 ∷ behind last = ap fen_part here in
    record {
      starts = starts_with bytes start with_fen (sym (value_there (fen_part bytes) (fen start) (behind last) at_fen));
      has_moves = rw with_fen (next_behind 15 (fen_part bytes) (fen start) (behind last) at_fen);
    }

turns_are : (p : Parts) (plies : List Ply) (moves : List ShownMove) → Line p (moves_of plies) → AllByRecursion IsTimed plies → ArePliesShown p plies moves → AreTurns p plies (map turn_of moves)
turns_are p [] [] line timed are = tt
turns_are p [] (shown ∷ moves) line timed are = absurd are
turns_are p (ply ∷ plies) [] line timed are = absurd are
turns_are p (ply ∷ plies) (shown ∷ moves) line timed are =
    (record { legal = line.0; san = are.0.san; clock = are.0.clock; timed = timed.0 }, turns_are (after p ply.mv) plies moves line.1 timed.1 are.1)

pub pgn_parses : TextsArePlain → (game : Content) (text : List ℕ) → Pgn game text → Parses game text
pgn_parses plain game text h =
    let g = h.is_game in
    let moves = flow 0 (game_tokens h.moves game.result) ++ 10 ∷ 10 ∷ [] in
    let more = h.set_up ++ (10 ∷ [] ++ moves) in
    let r = roster_back game.tags game.result more text (pgn_is_pieces plain game text h) in
    let s = set_up_back game.start h.set_up moves (set_up_part text) h.is_set_up r.rest in
    let fits = moves_fit plain game.start game.plies h.moves g.start g.line g.clocks h.are_moves in
    let tokens = game_fits h.moves game.result fits in
    let turns : turns_at (words (moves_part (set_up_part text))) ≡ map turn_of h.moves =
    ap (λ (x : List ℕ). turns_at (words x)) s.has_moves ∙ movetext_back h.moves game.result fits tokens.0 in
    record {
      tags = r.have;
      start = s.starts;
      plies = subst (λ (ts : List Turn). AreTurns game.start game.plies ts) (sym turns)
          (turns_are game.start game.plies h.moves g.line (recursion_from_All IsTimed game.plies g.clocks) h.are_moves);
      result = r.has_result;
    }

pub one_game : TextsArePlain → TextsTellMoves → TextsTellPositions → (g h : Content) (text : List ℕ) → Pgn g text → Pgn h text → g ≡ h
one_game plain moves positions g h text p q = one_parsed moves positions g h text p.is_game q.is_game (pgn_parses plain g text p) (pgn_parses plain h text q)
