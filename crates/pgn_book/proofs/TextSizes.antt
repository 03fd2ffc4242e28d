-- How long the text of a game may be.
use Rattle.std.proofs.Common.{◌≡◌, ◌∙◌, ℕ, ◌+◌, ◌*◌, ◌<◌, ◌≤◌, Bool, true, false, List, [], ◌∷◌, ◌++◌, length, Option, None, Some, is_some, ap, arith, length-append}
use Rattle.std.specs.Prelude.{decimal, codes, nat_eq, nat_le, ◌==◌, ◌||◌, if◌then◌else◌}
use Rattle.std.specs.List.{AllByRecursion}
use Rattle.std.proofs.lemmas.Fmt.{length-decimal-le}
use Rattle.chess_clock.specs.declared.Hms.{Hms}
use Rattle.chess_rules.specs.declared.parts.Parts.{Parts}
use Rattle.chess_rules.specs.declared.pieces.Side.{Side}
use Rattle.chess_rules.specs.declared.pieces.Side.TheVariants.{White, Black}
use Rattle.chess_rules.specs.After.{after}
use Rattle.chess_rules.specs.Valid.{Valid}
use Rattle.chess_text.specs.Fen.{fen}
use Rattle.chess_text.specs.Laws.{FensArePlain, TextsArePlain}
use Rattle.settle_core.specs.declared.plies.Outcome.{Outcome}
use Rattle.settle_core.specs.declared.plies.Outcome.TheVariants.{WhiteWins, BlackWins, Drawn}
use Rattle.settle_core.specs.declared.plies.Ply.{Ply}
use Rattle.chess_game.specs.declared.values.Tag.{Tag}
use Rattle.chess_game.specs.declared.values.Tag.TheVariants.{Event, Site, Date, Round, White as WhiteTag, Black as BlackTag}
use Rattle.pgn_book.specs.Inside.Flow.{piece, column, flow}
use Rattle.pgn_book.specs.Laws.{TextsAreShort}
use Rattle.pgn_book.specs.Movetext.{ShownMove, ArePliesShown, number_tokens, clock_tokens, move_tokens, tokens_of, result_text, game_tokens}
use Rattle.pgn_book.specs.Pgn.{IsSetUp, at_initial, elsewhere, escape, escaped, roster, tag_line, tag_lines}
use Rattle.chess_game.specs.TagNames.{all_tags, tag_name}
use Rattle.chess_game.specs.Values.{AreValues, TagValues, value_of}
use Rattle.pgn_book.proofs.Export.{pgn_is_pieces}
use Rattle.pgn_book.proofs.Tokens.{Fits, moves_fit}

-- ---- the movetext

-- what tokens take, each with the byte before it
abbrev weight : List (List ℕ) → ℕ
weight [] = 0
weight (t ∷ ts) = 1 + length t + weight ts

weight-append : (ts us : List (List ℕ)) → weight (ts ++ us) ≡ weight ts + weight us
weight-append [] us = omega arith
weight-append (t ∷ ts) us = omega (arith, weight-append ts us)

piece_cases : (first fits : Bool) (t : List ℕ) → length (if first then t else if fits then 32 ∷ t else 10 ∷ t) ≤ 1 + length t
piece_cases true fits t = omega arith
piece_cases false true t = omega arith
piece_cases false false t = omega arith

piece_short : (col : ℕ) (t : List ℕ) → length (piece col t) ≤ 1 + length t
piece_short col t = piece_cases (nat_eq col 0) (nat_le (col + 1 + length t) 79) t

flow_short : (col : ℕ) (ts : List (List ℕ)) → length (flow col ts) ≤ weight ts
flow_short col [] = omega arith
flow_short col (t ∷ ts) = omega (arith, length-append (piece col t) (flow (column col t) ts), piece_short col t, flow_short (column col t) ts)

number_short : (side : Side) (n : ℕ) (wanted : Bool) → n < 10000 → weight (number_tokens side n wanted) ≤ 8
number_short White n wanted lt = omega (arith, length-append (decimal n) (codes "."), length-decimal-le 4 n (omega arith) lt (omega arith))
number_short Black n true lt = omega (arith, length-append (decimal n) (codes "..."), length-decimal-le 4 n (omega arith) lt (omega arith))
number_short Black n false lt = omega arith

clock_short : (clock : Option Hms) → weight (clock_tokens clock) ≤ 17
clock_short None = omega arith
clock_short (Some time) = omega arith

moves_short : (wanted : Bool) (moves : List ShownMove) → AllByRecursion Fits moves → weight (tokens_of wanted moves) ≤ 33 * length moves
moves_short wanted [] h = omega arith
moves_short wanted (shown ∷ moves) h =
    omega (
      arith,
      weight-append (move_tokens wanted shown) (tokens_of (is_some shown.clock) moves),
      weight-append (number_tokens shown.side shown.number wanted) (shown.san ∷ clock_tokens shown.clock),
      number_short shown.side shown.number wanted (h.0).number,
      (h.0).plain.high,
      clock_short shown.clock,
      moves_short (is_some shown.clock) moves h.1,
    )

result_short : (result : Option Outcome) → length (result_text result) ≤ 7
result_short (Some WhiteWins) = omega arith
result_short (Some BlackWins) = omega arith
result_short (Some Drawn) = omega arith
result_short None = omega arith

shown_length : (p : Parts) (plies : List Ply) (moves : List ShownMove) → ArePliesShown p plies moves → length moves ≡ length plies
shown_length p [] [] are = omega arith
shown_length p [] (shown ∷ moves) are = absurd are
shown_length p (ply ∷ plies) [] are = absurd are
shown_length p (ply ∷ plies) (shown ∷ moves) are = omega (arith, shown_length (after p ply.mv) plies moves are.1)

-- ---- the tags

escape_cases : (special : Bool) (b : ℕ) → length (if special then 92 ∷ b ∷ [] else b ∷ []) ≤ 2
escape_cases true b = omega arith
escape_cases false b = omega arith

escaped_short : (value : List ℕ) → length (escaped value) ≤ 2 * length value
escaped_short [] = omega arith
escaped_short (b ∷ value) = omega (arith, length-append (escape b) (escaped value), escape_cases (b == 34 || b == 92) b, escaped_short value)

line_short : (name value : List ℕ) → length (tag_line name value) ≤ 6 + length name + 2 * length value
line_short name value =
    omega (
      arith,
      length-append name (codes " \"" ++ (escaped value ++ codes "\"]\n")),
      length-append (escaped value) (codes "\"]\n"),
      escaped_short value,
    )

name_short : (tag : Tag) → length (tag_name tag) ≤ 5
name_short Event = omega arith
name_short Site = omega arith
name_short Date = omega arith
name_short Round = omega arith
name_short WhiteTag = omega arith
name_short BlackTag = omega arith

lines_short : (values : TagValues) (tags : List Tag) → AreValues values → length (tag_lines values tags) ≤ 211 * length tags
lines_short values [] all = omega arith
lines_short values (tag ∷ tags) all =
    omega (
      arith,
      length-append (tag_line (tag_name tag) (value_of tag values)) (tag_lines values tags),
      line_short (tag_name tag) (value_of tag values),
      name_short tag,
      (all tag).short,
      lines_short values tags all,
    )

roster_short : (values : TagValues) (result : List ℕ) → AreValues values → length result ≤ 7 → length (roster values result) ≤ 211 * length all_tags + 26
unfolding roster
roster_short values result all short =
    omega (arith, length-append (tag_lines values all_tags) (tag_line (codes "Result") result), lines_short values all_tags all, line_short (codes "Result") result)

set_up_short : FensArePlain → (start : Parts) (lines : List ℕ) → Valid start → IsSetUp start lines → length lines ≤ 204
set_up_short plain start lines valid (at_initial is none) = omega (arith, ap length none)
set_up_short plain start lines valid (elsewhere is two) =
    omega (
      arith,
      ap length two,
      length-append (tag_line (codes "FEN") (fen start)) (tag_line (codes "SetUp") (codes "1")),
      line_short (codes "FEN") (fen start),
      (plain start valid).short,
      line_short (codes "SetUp") (codes "1"),
    )

-- ---- the whole

pieces_length : (a b f : List ℕ) → length (a ++ (b ++ (10 ∷ [] ++ (f ++ 10 ∷ 10 ∷ [])))) ≡ length a + length b + length f + 3
pieces_length a b f =
    omega (
      arith,
      length-append a (b ++ (10 ∷ [] ++ (f ++ 10 ∷ 10 ∷ []))),
      length-append b (10 ∷ [] ++ (f ++ 10 ∷ 10 ∷ [])),
      length-append (10 ∷ []) (f ++ 10 ∷ 10 ∷ []),
      length-append f (10 ∷ 10 ∷ []),
    )

pub texts_are_short : TextsArePlain → FensArePlain → TextsAreShort
texts_are_short plain fens game text h =
    let fit = moves_fit plain game.start game.plies h.moves h.is_game.start h.is_game.line h.is_game.clocks h.are_moves in
    let all : length text ≡ length (roster game.tags (result_text game.result)) + length h.set_up + length (flow 0 (game_tokens h.moves game.result)) + 3 =
    ap length (pgn_is_pieces plain game text h) ∙ pieces_length (roster game.tags (result_text game.result)) h.set_up (flow 0 (game_tokens h.moves game.result)) in
    let total : weight (game_tokens h.moves game.result) ≡ weight (tokens_of true h.moves) + weight (result_text game.result ∷ []) = weight-append (tokens_of true h.moves) (result_text game.result ∷ []) in
    let last : weight (result_text game.result ∷ []) ≤ 8 = omega (arith, result_short game.result) in
    omega (
      arith,
      all,
      roster_short game.tags (result_text game.result) h.is_game.tags (result_short game.result),
      set_up_short fens game.start h.set_up h.is_game.start h.is_set_up,
      flow_short 0 (game_tokens h.moves game.result),
      total,
      last,
      moves_short true h.moves fit,
      shown_length game.start game.plies h.moves h.are_moves,
    )
