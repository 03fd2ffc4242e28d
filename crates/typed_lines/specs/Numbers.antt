-- The move numbers in a typed line. Words stand in their order.
use Rattle.std.specs.Prelude.{ℕ, ◌==◌, ◌||◌, ◌&&◌, ◌+◌, ◌-◌, ◌*◌, ◌/◌, ◌%◌, suc, nat_lt, not, Bool, false, List, [], ◌∷◌, decimal, filter, length, take, Option, None, Some, if◌then◌else◌}
use Rattle.std.specs.List.{slice_split}
use Rattle.std.specs.Str.{bytes_eq}
use Rattle.chess_rules.specs.declared.parts.Parts.{Parts}
use Rattle.chess_rules.specs.declared.pieces.Side.{Side}
use Rattle.chess_rules.specs.declared.pieces.Side.TheVariants.{White, Black}
use Rattle.typed_lines.specs.Words.{after_digits, after_dots, is_blank, is_filled, without_number}

-- what stands between the blanks
abbrev pub line_words : List ℕ → List (List ℕ)
line_words text = filter is_filled (slice_split is_blank text)

-- the digits with which a word begins
abbrev pub digits_of : List ℕ → List ℕ
digits_of word = take (length word - length (after_digits word)) word

-- how many dots stand behind them
abbrev pub dots_of : List ℕ → ℕ
dots_of word = length (after_digits word) - length (after_dots (after_digits word))

-- the half-moves up to the one to be made: twice its number, and one more where Black is to move
abbrev pub half_of : Side → ℕ → ℕ
half_of White number = 2 * number
half_of Black number = 2 * number + 1

-- behind the number one dot where White is to move, more where Black is (PGN standard, section 8.2.2.2)
abbrev pub are_dots_of : ℕ → ℕ → Bool
are_dots_of half dots = if half % 2 == 0 then dots == 1 else nat_lt 1 dots

-- The word begins with no move number, or with that of this half-move.
abbrev pub has_its_number : ℕ → List ℕ → Bool
has_its_number half word = length (digits_of word) == 0 || dots_of word == 0
    || (bytes_eq (digits_of word) (decimal (half / 2)) && are_dots_of half (dots_of word))

-- The first word whose number isn't that of the half-move to be made there, and how many moves stand before it; so many
-- of them stand before these words.
abbrev pub misnumbered : Parts → ℕ → List (List ℕ) → Option (List ℕ × ℕ)
misnumbered p made [] = None
misnumbered p made (word ∷ words) = if has_its_number (half_of p.side p.fullmove + made) word
    then misnumbered p (if is_filled (without_number word) then suc made else made) words
    else Some (word, made)

-- The line begins with the number of the move to be made in this position, with its dots.
abbrev pub begins_with_number : ℕ → List (List ℕ) → Bool
begins_with_number half [] = false
begins_with_number half (word ∷ words) = not (length (digits_of word) == 0) && not (dots_of word == 0) && has_its_number half word

abbrev pub begins_at : Parts → List ℕ → Bool
begins_at p text = begins_with_number (half_of p.side p.fullmove) (line_words text)
