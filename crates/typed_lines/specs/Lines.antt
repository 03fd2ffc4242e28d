-- What a typed line says. Words and moves stand in their order.
use Rattle.std.specs.Prelude.{◌≡◌, ◌≢◌, ℕ, ◌-◌, ◌==◌, ◌||◌, ◌&&◌, nat_le, Bool, List, [], ◌∷◌, ◌++◌, codes, length, slice_index, None, Some, is_some, false, true, ⊤}
use Rattle.std.specs.List.{list_all, list_any}
use Rattle.std.specs.Str.{bytes_eq}
use Rattle.chess_rules.specs.declared.chess_move.Move.{Move}
use Rattle.chess_rules.specs.declared.parts.Parts.{Parts}
use Rattle.chess_rules.specs.After.{after}
use Rattle.chess_text.specs.San.{San}
use Rattle.settle_core.specs.Settling.{position_after}
use Rattle.typed_lines.specs.Letters.{in_english, is_from, letters}
use Rattle.typed_lines.specs.Words.{typed_words, without_number}
use Rattle.typed_lines.specs.Numbers.{line_words, misnumbered}
use Rattle.typed_lines.specs.Results.{result_of}
use Rattle.typed_lines.specs.Spelling.{IsOnly}
use Rattle.typed_lines.specs.declared.spelling.Manner.{Manner}
use Rattle.typed_lines.specs.declared.spelling.Manner.TheVariants.{Written as Written_in, Meant as Meant_in}
use Rattle.typed_lines.specs.declared.reading.Word.{Word}
use Rattle.typed_lines.specs.declared.reading.Word.TheVariants.{Written, Meant, Illegal, Unknown}
use Rattle.typed_lines.specs.declared.reading.Typed.{Typed}
use Rattle.typed_lines.specs.declared.reading.Typed.TheVariants as typed

-- K, N, O, Q or R
abbrev pub is_other_letter : ℕ → Bool
is_other_letter b = b == 75 || b == 78 || b == 79 || b == 81 || b == 82

-- a letter that a move's text may have, in capitals: a file, a rank, a piece, or the O of castling
abbrev pub is_move_letter : ℕ → Bool
is_move_letter b = is_from 65 72 b || is_from 49 56 b || is_other_letter b

-- the last two of the first n letters are a file and a rank
abbrev pub has_square_at : List ℕ → ℕ → Bool
has_square_at heard n = nat_le 2 n && is_from 65 72 (slice_index heard (n - 2)) && is_from 49 56 (slice_index heard (n - 1))

-- Q, R, B or N
abbrev pub is_officer : ℕ → Bool
is_officer b = b == 81 || b == 82 || b == 66 || b == 78

-- a square, and the letter of what a pawn becomes
abbrev pub ends_promoting : List ℕ → Bool
ends_promoting heard = nat_le 1 (length heard) && is_officer (slice_index heard (length heard - 1)) && has_square_at heard (length heard - 1)

-- letters that end as a move's text does: with a square, with a square and a promotion, or with castling
abbrev pub ends_as_move : List ℕ → Bool
ends_as_move heard = has_square_at heard (length heard) || ends_promoting heard
    || bytes_eq heard (codes "OO") || bytes_eq heard (codes "OOO")

abbrev pub has_form : List ℕ → Bool
has_form heard = list_all is_move_letter heard && ends_as_move heard

-- The word has the form of a move, its letters read as those of PGN or of another language.
abbrev pub has_move_form : List ℕ → Bool
has_move_form word = has_form (letters word) || has_form (letters (in_english word))

-- In neither manner the word is read as one legal move.
abbrev pub NamesNone : Parts → List ℕ → Type 0
NamesNone p word = (manner : Manner) (m : Move) → ¬ IsOnly manner p word m

-- What a word says in a position: the move that it is; else the one that it may be meant as; else nothing.
abbrev pub WordSays : Parts → List ℕ → Word → Type 0
WordSays p word (Written m) = IsOnly Written_in p word m
WordSays p word (Meant m) = ((n : Move) → ¬ IsOnly Written_in p word n) × IsOnly Meant_in p word m
WordSays p word Illegal = NamesNone p word × (has_move_form word ≡ true)
WordSays p word Unknown = NamesNone p word × (has_move_form word ≡ false)

-- Each word is the move in its place, and that is legal in the position after those before it.
abbrev pub AreMoves : Parts → List (List ℕ) → List Move → Type 0
AreMoves p [] [] = ⊤
AreMoves p (word ∷ more) (m ∷ moves) = IsOnly Written_in p (without_number word) m × AreMoves (after p m) more moves
AreMoves p found moves = ⊥

-- This word is the first that is no move; so many are before it.
pub record StopsAt (p : Parts) (words : List (List ℕ)) (word : List ℕ) (number : ℕ) (says : Word) : Type 0 where
  pub before : List (List ℕ)
  pub behind : List (List ℕ)
  pub moves : List Move
  pub split : words ≡ before ++ word ∷ behind
  pub named : AreMoves p before moves
  pub count : number ≡ length moves
  pub here : WordSays (position_after p moves) (without_number word) says

-- a word that is a line of its own: a result, or `*`
abbrev pub stands_alone : List ℕ → Bool
stands_alone word = is_some (result_of word) || bytes_eq word (codes "*")

-- `*` alone
abbrev pub is_star : List (List ℕ) → Bool
is_star [] = false
is_star (word ∷ []) = bytes_eq word (codes "*")
is_star (word ∷ other ∷ more) = false

-- The line has words, and each of them is more than a number; it is neither a result nor `*`.
pub record HasMoveWords (text : List ℕ) : Type 0 where
  pub no_result : result_of text ≡ None
  pub some : typed_words text ≢ []
  pub no_other : list_any stands_alone (typed_words text) ≡ false

-- what words say that are read as moves
abbrev pub ReadsWords : Parts → List (List ℕ) → Typed → Type 0
ReadsWords p found (typed.Moves moves) = AreMoves p found moves.items
ReadsWords p found (typed.Meant word number san) =
    (m : Move) × (stops : StopsAt p found word.now number (Meant m)) × San (position_after p stops.moves) m san.bytes
ReadsWords p found (typed.Illegal word number) = StopsAt p found word.now number Illegal
ReadsWords p found (typed.Unknown word number) = StopsAt p found word.now number Unknown
ReadsWords p found other = ⊥

-- what a line says in a position
abbrev pub ReadsLine : Parts → List ℕ → Typed → Type 0
ReadsLine p text (typed.Result outcome) = result_of text ≡ Some outcome
ReadsLine p text typed.Reopens = (result_of text ≡ None) × (is_star (typed_words text) ≡ true)
ReadsLine p text typed.Nothing = (result_of text ≡ None) × (typed_words text ≡ [])
ReadsLine p text typed.Mixed = (result_of text ≡ None) × (is_star (typed_words text) ≡ false) × (list_any stands_alone (typed_words text) ≡ true)
ReadsLine p text (typed.Moves moves) = HasMoveWords text × AreMoves p (typed_words text) moves.items
    × (misnumbered p 0 (line_words text) ≡ None)
ReadsLine p text (typed.Misnumbered word number) = HasMoveWords text × ((moves : List Move) × AreMoves p (typed_words text) moves)
    × (misnumbered p 0 (line_words text) ≡ Some (word.now, number))
ReadsLine p text (typed.Meant word number san) = HasMoveWords text × ReadsWords p (typed_words text) (typed.Meant word number san)
ReadsLine p text (typed.Illegal word number) = HasMoveWords text × ReadsWords p (typed_words text) (typed.Illegal word number)
ReadsLine p text (typed.Unknown word number) = HasMoveWords text × ReadsWords p (typed_words text) (typed.Unknown word number)
