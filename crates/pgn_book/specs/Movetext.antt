-- The tokens of a movetext. A token is its list of bytes.
use Rattle.std.specs.Prelude.{◌≡◌, ℕ, ◌+◌, ◌/◌, ◌%◌, Bool, true, false, List, [], ◌∷◌, ◌++◌, codes, decimal, Option, Some, None, is_some}
use Rattle.chess_clock.specs.declared.Hms.{Hms}
use Rattle.chess_rules.specs.declared.pieces.Side.{Side}
use Rattle.chess_rules.specs.declared.pieces.Side.TheVariants.{White, Black}
use Rattle.chess_rules.specs.declared.parts.Parts.{Parts}
use Rattle.chess_rules.specs.After.{after}
use Rattle.settle_core.specs.declared.plies.Outcome.{Outcome}
use Rattle.settle_core.specs.declared.plies.Outcome.TheVariants.{WhiteWins, BlackWins, Drawn}
use Rattle.settle_core.specs.declared.plies.Ply.{Ply}
use Rattle.chess_text.specs.San.{San}

-- A move as the movetext shows it: whose it is, the fullmove number before it, its SAN, and the clock's time, if any.
pub record ShownMove : Type 0 where
  pub side : Side
  pub number : ℕ
  pub san : List ℕ
  pub clock : Option Hms

-- the move of this ply in this position
pub record IsPlyShown (p : Parts) (ply : Ply) (shown : ShownMove) : Type 0 where
  pub side : shown.side ≡ p.side
  pub number : shown.number ≡ p.fullmove
  pub san : San p ply.mv shown.san
  pub clock : shown.clock ≡ ply.clock

-- The moves of these plies from a position on.
abbrev pub ArePliesShown : Parts → List Ply → List ShownMove → Type 0
ArePliesShown p [] [] = Unit {0}
ArePliesShown p [] (shown ∷ moves) = ⊥
ArePliesShown p (ply ∷ plies) [] = ⊥
ArePliesShown p (ply ∷ plies) (shown ∷ moves) = IsPlyShown p ply shown × ArePliesShown (after p ply.mv) plies moves

-- the number and one period before White's move, three before Black's
abbrev pub number_token : Side → ℕ → List ℕ
number_token White n = decimal n ++ codes "."
number_token Black n = decimal n ++ codes "..."

-- before Black's move the number stands only where it is wanted
abbrev pub number_tokens : Side → ℕ → Bool → List (List ℕ)
number_tokens White n wanted = number_token White n ∷ []
number_tokens Black n true = number_token Black n ∷ []
number_tokens Black n false = []

abbrev pub two_digits : ℕ → List ℕ
two_digits n = (48 + n / 10) ∷ (48 + n % 10) ∷ []

-- `{[%clk h:mm:ss]}`, one token with a space in it
abbrev pub clock_text : Hms → List ℕ
clock_text time = codes "{[%clk " ++ ((48 + time.hours) ∷ 58 ∷ [] ++
    (two_digits time.minutes ++ (58 ∷ two_digits time.seconds ++ codes "]}")))

-- one comment behind a move whose clock's time is known, else none
abbrev pub clock_tokens : Option Hms → List (List ℕ)
clock_tokens None = []
clock_tokens (Some time) = clock_text time ∷ []

-- the number where it stands, the SAN, and the clock comment where there is one
abbrev pub move_tokens : Bool → ShownMove → List (List ℕ)
move_tokens wanted shown = number_tokens shown.side shown.number wanted ++ shown.san ∷ clock_tokens shown.clock

-- A number before Black's move is wanted at the game's first move and after a clock comment.
abbrev pub tokens_of : Bool → List ShownMove → List (List ℕ)
tokens_of wanted [] = []
tokens_of wanted (shown ∷ moves) = move_tokens wanted shown ++ tokens_of (is_some shown.clock) moves

-- `1-0`, `0-1`, `1/2-1/2` or `*`
abbrev pub result_text : Option Outcome → List ℕ
result_text (Some WhiteWins) = codes "1-0"
result_text (Some BlackWins) = codes "0-1"
result_text (Some Drawn) = codes "1/2-1/2"
result_text None = codes "*"

-- the tokens of a game: those of its moves, and the termination marker
abbrev pub game_tokens : List ShownMove → Option Outcome → List (List ℕ)
game_tokens moves result = tokens_of true moves ++ result_text result ∷ []
