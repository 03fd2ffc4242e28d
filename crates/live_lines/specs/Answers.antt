-- What a recorder answers to an entry: the bytes that the capture gets, the new lines of the report, what explains the board, the text
-- of the game, how it ends, alarms, and then what is said.
use Rattle.std.specs.Prelude.{◌-◌, ℕ, true, List, [], ◌∷◌, ◌++◌, codes, decimal, length, Option, Some, None}
use Rattle.answer_lines.specs.declared.said.Said.{Said}
use Rattle.answer_lines.specs.Answers.{answer_text as said_text}
use Rattle.answer_lines.specs.Ends.{end_text}
use Rattle.answer_lines.specs.Looks.{looks_text}
use Rattle.board_endings.specs.declared.news.End.{End}
use Rattle.board_endings.specs.Saying.{no_end}
use Rattle.board_live.specs.declared.live.Answer.{Answer}
use Rattle.board_alarms.specs.declared.look.Look.{Look}
use Rattle.board_standing.specs.declared.state.State.{State}

-- bytes, if there are any, behind a line with a word that says how many
abbrev pub counted : List ℕ → List ℕ → List ℕ
counted word [] = []
counted word (byte ∷ bytes) = word ++ decimal (length (byte ∷ bytes)) ++ codes "\n" ++ (byte ∷ bytes)

-- the bytes that the capture gets
abbrev pub kept_text : List ℕ → List ℕ
kept_text bytes = counted (codes "kept ") bytes

-- what is typed for the change that alone explains the board
abbrev pub fits_text : List ℕ → List ℕ
fits_text typed = counted (codes "fits ") typed

-- the text of the game, if the entry asks for it
abbrev pub game_text : List ℕ → List ℕ
game_text bytes = counted (codes "game ") bytes

-- these bytes, these lines of the report, what explains the board, this text of the game, how it ends, these alarms, and what is said
abbrev pub whole_text : List ℕ → List ℕ → List ℕ → List ℕ → End → List Look → Said → List ℕ
whole_text kept lines fits game end looks said = kept_text kept ++ lines ++ fits_text fits ++ game_text game ++ end_text end ++ looks_text looks ++ said_text said

-- for how long it has been so since a time, and in how long a time comes
abbrev pub lasting : ℕ → Option ℕ → Option ℕ
lasting now None = None
lasting now (Some since) = Some (now - since)

abbrev pub wake_in : ℕ → Option ℕ → Option ℕ
wake_in now None = None
wake_in now (Some due) = Some (due - now)

-- how the board stands, and for how long it has been so
abbrev pub state_for : ℕ → Option State → Option State
state_for now None = None
state_for now (Some state) = Some (record state { since = lasting now state.since })

-- What is said: times are spans from now, so that a host needs no clock but its own.
abbrev pub said_of : ℕ → Answer → Option ℕ → Said
said_of now answer due =
    record {
      handling = Some answer.handling;
      number = answer.number;
      request = answer.request;
      is_whole = answer.is_whole;
      is_clock_stopped = answer.is_clock_stopped;
      state = state_for now answer.state;
      due = wake_in now due;
    }

abbrev pub answer_text : ℕ → Answer → List ℕ → List ℕ → List ℕ → List ℕ → List Look → Option ℕ → List ℕ
answer_text now answer kept lines fits game looks due = whole_text kept lines fits game answer.end looks (said_of now answer due)

-- A capture of the calls before is answered by its report alone.
abbrev pub nothing_said : Said
nothing_said = record { handling = None; number = None; request = None; is_whole = true; is_clock_stopped = None; state = None; due = None }

abbrev pub capture_text : List ℕ → List ℕ
capture_text lines = whole_text [] lines [] [] no_end [] nothing_said
