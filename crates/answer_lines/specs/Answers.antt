-- The lines of an answer.
use Rattle.std.specs.Prelude.{ℕ, zero, suc, ◌+◌, ◌-◌, ◌/◌, ◌%◌, ◌==◌, Bool, true, false, List, [], ◌∷◌, ◌++◌, Option, Some, None, codes, decimal, if◌then◌else◌}
use Rattle.std.specs.Int.{bit_at}
use Rattle.board_cable.specs.declared.line.Request.{Request}
use Rattle.board_cable.specs.declared.whose.Handling.{Handling}
use Rattle.board_cable.specs.declared.whose.Handling.TheVariants.{Keep, Hold, Other}
use Rattle.board_cable.specs.Line.{bytes_of}
use Rattle.board_standing.specs.declared.state.Hint.{Hint}
use Rattle.board_standing.specs.declared.state.Hint.TheVariants.{TurnedRound, OtherBoard}
use Rattle.board_standing.specs.declared.state.Kind.{Kind}
use Rattle.board_standing.specs.declared.state.Kind.TheVariants.{Waits, Agrees, Ended, InHand, Wrong, NoStart, SettingUp, Silent, Unplugged}
use Rattle.board_standing.specs.declared.state.State.{State}
use Rattle.answer_lines.specs.declared.said.Said.{Said}

-- what is done with what the board has sent; another board is named by its serial number
abbrev pub handling_words : Handling → List ℕ
handling_words Keep = codes "keep"
handling_words Hold = codes "hold"
handling_words (Other number) = codes "other " ++ number

abbrev pub handling_line : Option Handling → List ℕ
handling_line None = []
handling_line (Some handling) = handling_words handling ++ codes "\n"

-- the serial number of the game's board, if it is news
abbrev pub number_words : List ℕ → List ℕ
number_words number = codes "number " ++ number

abbrev pub number_line : Option (List ℕ) → List ℕ
number_line None = []
number_line (Some number) = number_words number ++ codes "\n"

-- the bytes that are sent to the board
abbrev pub request_words : Request → List ℕ
request_words request = codes "ask " ++ bytes_of request

abbrev pub request_line : Option Request → List ℕ
request_line None = []
request_line (Some request) = request_words request ++ codes "\n"

-- The capture has no room for all bytes.
abbrev pub room_line : Bool → List ℕ
room_line true = []
room_line false = codes "full\n"

-- whether the clock is stopped, if it is to be said
abbrev pub clock_words : Bool → List ℕ
clock_words true = codes "clock stopped"
clock_words false = codes "clock runs"

abbrev pub clock_line : Option Bool → List ℕ
clock_line None = []
clock_line (Some stopped) = clock_words stopped ++ codes "\n"

-- the word of what an arbiter reads first
abbrev pub kind_word : Kind → List ℕ
kind_word Waits = codes "WAITS"
kind_word Agrees = codes "AGREES"
kind_word Ended = codes "RESULT"
kind_word InHand = codes "IN-HAND"
kind_word Wrong = codes "WRONG"
kind_word NoStart = codes "NO-START"
kind_word SettingUp = codes "SETTING-UP"
kind_word Silent = codes "SILENT"
kind_word Unplugged = codes "UNPLUGGED"

-- a time, or a dash if there is none
abbrev pub time_text : Option ℕ → List ℕ
time_text None = codes "-"
time_text (Some time) = decimal time

-- a blank and the name of a square: 0 is a8, 63 is h1
abbrev pub square_text : ℕ → List ℕ
square_text s = 32 ∷ (97 + s % 8) ∷ (56 - s / 8) ∷ []

-- the squares of a mask, of the first so many
unfoldable pub squares_below : ℕ → ℕ → List ℕ
squares_below zero mask = []
squares_below (suc n) mask = squares_below n mask ++ (if bit_at mask n == 1 then square_text n else [])

-- a blank and what may be wrong
abbrev pub hint_text : Option Hint → List ℕ
hint_text None = []
hint_text (Some TurnedRound) = codes " TURNED-ROUND"
hint_text (Some OtherBoard) = codes " OTHER-BOARD"

-- what an arbiter reads; since when; on which squares; what may be wrong
abbrev pub state_words : State → List ℕ
state_words state = codes "state " ++ kind_word state.kind ++ codes " " ++ time_text state.since ++ squares_below 64 state.squares ++ hint_text state.hint

abbrev pub state_line : Option State → List ℕ
state_line None = []
state_line (Some state) = state_words state ++ codes "\n"

-- All is said; and when to wake.
abbrev pub done_words : Option ℕ → List ℕ
done_words due = codes "done " ++ time_text due

abbrev pub done_line : Option ℕ → List ℕ
done_line due = done_words due ++ codes "\n"

-- an answer
abbrev pub answer_text : Said → List ℕ
answer_text said = handling_line said.handling ++ number_line said.number ++ request_line said.request ++ room_line said.is_whole ++ clock_line said.is_clock_stopped
    ++ state_line said.state ++ done_line said.due
