-- How far a recorder has come with what it reads.
use Rattle.std.specs.Prelude.{◌≡◌, ◌≢◌, ℕ, Bool, true, false, List, [], ◌++◌, Option}
use Rattle.std.specs.Io.KnownBytes.{Appends, Consumes, IsAtEnd, Keeps}
use Rattle.board_events.specs.declared.setup.Setup.{Setup}
use Rattle.watched_streams.specs.Output.{AppendsPart}
use Rattle.live_lines.specs.declared.recorder.Recorder.{Recorder}
use Rattle.live_lines.specs.declared.stream.AttendError.{AttendError}
use Rattle.live_lines.specs.declared.stream.AttendError.TheVariants.{Read, Write, NoEntry, TooLong, Memory}
use Rattle.live_lines.specs.Heard.{Heard}
use Rattle.live_lines.specs.Next.{IsUnfinished, IsWrong}
use Rattle.live_lines.specs.Recorder.{StandsFor}
use Rattle.live_lines.specs.Streams.{AreTold, Attends, AttendsAll, Writes, told_text}

-- It has taken all entries of a text, and this is written of them.
pub record HasAttended (recorder : Recorder) (setup : Setup) (recovers : Bool) (text said : List ℕ) : Type 0 where
  pub past : List Heard
  pub report : List ℕ
  pub stands : StandsFor recorder setup recovers past report
  pub entries : text ≡ told_text past
  pub told : AreTold past
  pub writes : Writes setup recovers past report said

-- It has taken the first entries of a text too, and the answers to them were written; this is left of the text.
abbrev pub GoesOn : Recorder → Setup → Bool → List ℕ → List ℕ → List ℕ → List ℕ → Option (List ℕ) → Option (List ℕ) → Type 0
GoesOn recorder setup recovers before said text rest written written' = (first more : List ℕ) × (text ≡ first ++ rest)
    × HasAttended recorder setup recovers (before ++ first) (said ++ more) × Appends written written' more

-- The first entries of a text were answered.
abbrev pub Answered : Setup → Bool → List ℕ → List ℕ → List ℕ → List ℕ → Option (List ℕ) → Option (List ℕ) → Type 0
Answered setup recovers before said text rest written written' = (first more : List ℕ) × (text ≡ first ++ rest)
    × Attends setup recovers (before ++ first) (said ++ more) × Appends written written' more

-- So it breaks off within a text.
abbrev pub BreaksOff : AttendError → Setup → Bool → List ℕ → List ℕ → List ℕ → Option (List ℕ) → Option (List ℕ) → Type 0
BreaksOff Memory setup recovers before said text written written' = (rest : List ℕ) × Answered setup recovers before said text rest written written'
BreaksOff NoEntry setup recovers before said text written written' = (rest : List ℕ) × (rest ≢ []) × IsWrong rest
    × Answered setup recovers before said text rest written written'
BreaksOff Write setup recovers before said text written written' = (first rest more : List ℕ) × (text ≡ first ++ rest)
    × Attends setup recovers (before ++ first) (said ++ more) × AppendsPart written written' more
BreaksOff Read setup recovers before said text written written' = ⊥
BreaksOff TooLong setup recovers before said text written written' = ⊥

-- It has come so far with its input: these entries were answered, and this waits.
pub record HasCome (recorder : Recorder) (setup : Setup) (recovers : Bool) (text : List ℕ) (input input' written written' : Option (List ℕ)) : Type 0 where
  pub first : List ℕ
  pub said : List ℕ
  pub attended : HasAttended recorder setup recovers first said
  pub waits : IsUnfinished text
  pub reads : Consumes input input' (first ++ text)
  pub writes : Appends written written' said

-- There was more, or all of the input was answered.
abbrev pub ComesOn : Bool → Recorder → Setup → Bool → List ℕ → Option (List ℕ) → Option (List ℕ) → Option (List ℕ) → Option (List ℕ) → Type 0
ComesOn true recorder setup recovers text input input' written written' = HasCome recorder setup recovers text input input' written written'
ComesOn false recorder setup recovers text input input' written written' = AttendsAll setup recovers input written written'

-- Bytes were read and stand behind a text; or there is no more.
abbrev pub ReadsOn : Bool → List ℕ → List ℕ → Option (List ℕ) → Option (List ℕ) → Type 0
ReadsOn true before text input input' = (bytes : List ℕ) × (text ≡ before ++ bytes) × Consumes input input' bytes
ReadsOn false before text input input' = (text ≡ before) × Consumes input input' [] × IsAtEnd input'

-- A read failed; or there was no memory for what it gave.
abbrev pub FailsToRead : AttendError → Option (List ℕ) → Option (List ℕ) → Type 0
FailsToRead Read input input' = Keeps input input'
FailsToRead Memory input input' = (bytes : List ℕ) × Consumes input input' bytes
FailsToRead Write input input' = ⊥
FailsToRead NoEntry input input' = ⊥
FailsToRead TooLong input input' = ⊥
