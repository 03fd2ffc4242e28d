-- What a text would be the text of. It is no test: the text that is written of the result is compared with the text.
use Rattle.std.specs.Prelude.{◌≡◌, ℕ, ◌+◌, ◌-◌, ◌*◌, List, [], ◌∷◌, ◌++◌, drop, Option, Some, None, Bool, true, false, not, ◌==◌, ◌||◌, ◌&&◌, nat_lt, slice_index, length, codes, if◌then◌else◌}
use Rattle.std.specs.List.{slice_split}
use denote.Ref.{Bor}
use Rattle.chess_clock.specs.declared.Hms.{Hms}
use Rattle.chess_rules.specs.declared.parts.Parts.{Parts}
use Rattle.chess_rules.specs.Initial.{initial}
use Rattle.chess_rules.specs.After.{after}
use Rattle.chess_rules.specs.Legal.{Legal}
use Rattle.chess_text.specs.San.{San}
use Rattle.chess_text.specs.Fen.{fen}
use Rattle.settle_core.specs.declared.plies.Outcome.{Outcome}
use Rattle.settle_core.specs.declared.plies.Outcome.TheVariants.{WhiteWins, BlackWins, Drawn}
use Rattle.settle_core.specs.declared.plies.Ply.{Ply}
use Rattle.chess_game.specs.declared.values.Tag.{Tag}
use Rattle.chess_game.specs.TagNames.{all_tags, tag_name}
use Rattle.chess_game.specs.Values.{TagValues, value_of}
use Rattle.chess_game.specs.Games.{Content, IsTimed}

-- ---- the movetext, cut at spaces and ends of lines

abbrev pub is_break : ℕ → Bool
is_break b = b == 32 || b == 10

abbrev pub words : List ℕ → List (List ℕ)
words bytes = slice_split is_break bytes

-- the words behind a break, if there is one
abbrev pub words_behind : Option (Bor (List ℕ)) → List (List ℕ)
words_behind None = []
words_behind (Some rest) = words rest.now

-- only a SAN begins with a letter
abbrev pub is_move : List ℕ → Bool
is_move [] = false
is_move (b ∷ bs) = nat_lt 64 b && nat_lt b 123

-- only a clock comment begins with a brace
abbrev pub is_comment : List ℕ → Bool
is_comment [] = false
is_comment (b ∷ bs) = b == 123

abbrev pub digit_at : List ℕ → ℕ → ℕ
digit_at bytes i = slice_index bytes i - 48

-- of `h:mm:ss`
abbrev pub time_at : List ℕ → Hms
time_at bytes = record {
  hours = digit_at bytes 0;
  minutes = digit_at bytes 2 * 10 + digit_at bytes 3;
  seconds = digit_at bytes 5 * 10 + digit_at bytes 6;
}

abbrev pub clock_at : List (List ℕ) → Option Hms
clock_at [] = None
clock_at (word ∷ []) = None
clock_at (word ∷ next ∷ more) = if is_comment word then Some (time_at next) else None

-- a move as words show it
pub record Turn : Type 0 where
  pub san : List ℕ
  pub clock : Option Hms

abbrev pub turns_at : List (List ℕ) → List Turn
turns_at [] = []
turns_at (word ∷ more) = if is_move word then record { san = word; clock = clock_at more } ∷ turns_at more else turns_at more

-- ---- the tags

-- a byte that stands for itself
abbrev pub is_plain : Bool → ℕ → Bool
is_plain quoted b = quoted || not (b == 34 || b == 92)

-- a value up to its quotation mark, and what stands behind that; `quoted` after a backslash
abbrev pub value_at : Bool → List ℕ → List ℕ
value_at quoted [] = []
value_at true (b ∷ bs) = b ∷ value_at false bs
value_at false (b ∷ bs) = if b == 34 then [] else if b == 92 then value_at true bs else b ∷ value_at false bs

abbrev pub after_value : Bool → List ℕ → List ℕ
after_value quoted [] = []
after_value true (b ∷ bs) = after_value false bs
after_value false (b ∷ bs) = if b == 34 then bs else if b == 92 then after_value true bs else after_value false bs

-- `1-0`, `0-1`, `1/2-1/2` or `*`, at the front
abbrev pub result_at : List ℕ → Option Outcome
result_at bytes = if slice_index bytes 0 == 48 then Some BlackWins else if slice_index bytes 0 == 42 then None
    else if slice_index bytes 1 == 45 then Some WhiteWins else Some Drawn

-- where the value of a line begins: behind `[`, the tag's name, a space and a quotation mark
unfoldable pub value_part : List ℕ → List ℕ → List ℕ
value_part name line = drop (length name + 3) line

-- n bytes behind a value and its quotation mark
unfoldable pub next_part : ℕ → List ℕ → List ℕ
next_part n bytes = drop n (after_value false bytes)

-- the next line, behind `]` and LF
abbrev pub next_line : List ℕ → List ℕ
next_line value = next_part 2 value

-- what stands behind the lines of these tags
abbrev pub behind_lines : List Tag → List ℕ → List ℕ
behind_lines [] text = text
behind_lines (tag ∷ tags) text = behind_lines tags (next_line (value_part (tag_name tag) text))

-- The lines of these tags, the first of which begins here, have these values.
abbrev pub HaveValues : List Tag → TagValues → List ℕ → Type 0
HaveValues [] values text = Unit {0}
HaveValues (tag ∷ tags) values text = (value_of tag values ≡ value_at false (value_part (tag_name tag) text))
    × HaveValues tags values (next_line (value_part (tag_name tag) text))

-- where the result begins, behind the tags that a user sets
abbrev pub result_part : List ℕ → List ℕ
result_part text = value_part (codes "Result") (behind_lines all_tags text)

-- what stands behind the line of the result
abbrev pub set_up_part : List ℕ → List ℕ
set_up_part text = next_line (result_part text)

-- whether it begins with `[`
unfoldable pub has_fen : List ℕ → Bool
has_fen bytes = slice_index bytes 0 == 91

-- behind `[FEN "`
unfoldable pub fen_part : List ℕ → List ℕ
fen_part bytes = drop 6 bytes

-- the start's FEN, where it stands
abbrev pub fen_at : List ℕ → Option (List ℕ)
fen_at bytes = if has_fen bytes then Some (value_at false (fen_part bytes)) else None

-- behind `]`, LF, `[SetUp "1"]` and two LF, or behind one LF
abbrev pub moves_part : List ℕ → List ℕ
moves_part bytes = if has_fen bytes then next_part 15 (fen_part bytes) else drop 1 bytes

-- ---- the game

-- These are the plies of these turns.
pub record IsTurn (p : Parts) (ply : Ply) (turn : Turn) : Type 0 where
  pub legal : Legal p ply.mv
  pub san : San p ply.mv turn.san
  pub clock : turn.clock ≡ ply.clock
  pub timed : IsTimed ply

abbrev pub AreTurns : Parts → List Ply → List Turn → Type 0
AreTurns p [] [] = Unit {0}
AreTurns p [] (turn ∷ turns) = ⊥
AreTurns p (ply ∷ plies) [] = ⊥
AreTurns p (ply ∷ plies) (turn ∷ turns) = IsTurn p ply turn × AreTurns (after p ply.mv) plies turns

-- One more ply was read: no other has this turn.
pub record TakesTurn (p next : Parts) (old new : List Ply) (turn : Turn) : Type 0 where
  pub ply : Ply
  pub added : new ≡ old ++ ply ∷ []
  pub legal : Legal p ply.mv
  pub position : next ≡ after p ply.mv
  pub only : (other : Ply) → IsTurn p other turn → other ≡ ply

-- The start of this FEN, or the initial position.
abbrev pub HasStart : Parts → Option (List ℕ) → Type 0
HasStart start None = start ≡ initial
HasStart start (Some text) = text ≡ fen start

-- The text would be that of this game.
pub record Parses (game : Content) (text : List ℕ) : Type 0 where
  pub tags : HaveValues all_tags game.tags text
  pub start : HasStart game.start (fen_at (set_up_part text))
  pub plies : AreTurns game.start game.plies (turns_at (words (moves_part (set_up_part text))))
  pub result : game.result ≡ result_at (result_part text)
