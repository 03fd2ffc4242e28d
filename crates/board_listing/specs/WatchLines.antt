-- The lines of `watch` that `follow` doesn't have, each as a text, and how a line's first word tells its kind.
use Rattle.std.specs.Prelude.{ℕ, Bool, true, false, ◌==◌, ◌||◌, not, if◌then◌else◌, List, [], ◌∷◌, ◌++◌, codes, Option, Some, None}
use Rattle.chess_clock.specs.declared.Reading.{Reading}
use Rattle.chess_rules.specs.declared.parts.Parts.{Parts}
use Rattle.chess_text.specs.Fen.{fen}
use Rattle.chess_text.specs.Placement.{placement}
use Rattle.board_listing.specs.GameLines.{time_text}

-- a picture: its placement
abbrev pub picture_words : List ℕ → List ℕ
picture_words picture = codes "picture " ++ placement picture

-- a position: its FEN
abbrev pub position_words : Parts → List ℕ
position_words p = codes "position " ++ fen p

-- the times of both clocks, White's first
abbrev pub both_times : Option Reading → List ℕ
both_times None = codes "--:--:-- --:--:--"
both_times (Some reading) = time_text reading.white ++ codes " " ++ time_text reading.black

-- what the clocks show
abbrev pub reading_words : Option Reading → List ℕ
reading_words reading = codes "clock " ++ both_times reading

-- whether words begin with this text
abbrev pub begins_with : List ℕ → List ℕ → Bool
begins_with [] words = true
begins_with (byte ∷ bytes) [] = false
begins_with (byte ∷ bytes) (first ∷ words) = if first == byte then begins_with bytes words else false

-- whether they tell a picture
abbrev pub tells_picture : List ℕ → Bool
tells_picture words = begins_with (codes "picture ") words

-- whether they tell a position
abbrev pub tells_position : List ℕ → Bool
tells_position words = begins_with (codes "position ") words

-- whether they tell what the clocks show
abbrev pub tells_reading : List ℕ → Bool
tells_reading words = begins_with (codes "clock ") words

-- whether they are words of `follow`: none of these
abbrev pub tells_game : List ℕ → Bool
tells_game words = not (tells_picture words || (tells_position words || tells_reading words))

-- whether they tell a move, a correction or a result
abbrev pub tells_change : List ℕ → Bool
tells_change words = begins_with (codes "move ") words || (begins_with (codes "correction ") words || begins_with (codes "result ") words)
