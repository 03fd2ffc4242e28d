-- What is read of a host, and what is written for it. Bytes are in the order in which they stand, entries with the latest first.
use Rattle.std.specs.Prelude.{◌≡◌, ◌≢◌, ℕ, Bool, List, [], ◌∷◌, ◌++◌, Option, IfSome, ⊤}
use Rattle.std.specs.Io.KnownBytes.{Appends, Consumes}
use Rattle.board_events.specs.declared.setup.Setup.{Setup}
use Rattle.board_events.specs.Settings.{setting_of}
use Rattle.board_game.specs.Report.{first_line}
use Rattle.watched_streams.specs.Output.{AppendsPart}
use Rattle.live_lines.specs.declared.entries.Entry.{Entry}
use Rattle.live_lines.specs.declared.stream.AttendError.{AttendError}
use Rattle.live_lines.specs.declared.stream.AttendError.TheVariants.{Read, Write, NoEntry, TooLong, Memory}
use Rattle.live_lines.specs.Entries.{IsWhole, entry_text}
use Rattle.live_lines.specs.Heard.{Heard, IsHeard}
use Rattle.live_lines.specs.Next.{IsUnfinished}
use Rattle.live_lines.specs.Recorder.{IsAnswered, Reports}

-- the text of entries that a host has told
abbrev pub told_text : List Heard → List ℕ
told_text [] = []
told_text (heard ∷ past) = told_text past ++ entry_text heard.entry heard.bytes

abbrev pub AreTold : List Heard → Type 0
AreTold [] = ⊤
AreTold (heard ∷ past) = AreTold past × IsWhole heard.entry heard.bytes × IsHeard heard past

-- What is written for entries: the first line of the report, and then the answer to each. Beside it stands the report up to there:
-- each answer has those of its lines that are new.
abbrev pub Writes : Setup → Bool → List Heard → List ℕ → List ℕ → Type 0
Writes setup recovers [] report said = (report ≡ first_line (setting_of setup)) × (said ≡ first_line (setting_of setup))
Writes setup recovers (heard ∷ past) report said = (before earlier more last : List ℕ) × Writes setup recovers past before earlier
    × IsAnswered setup recovers heard past more last × (report ≡ before ++ more) × (said ≡ earlier ++ last) × Reports setup recovers (heard ∷ past) report

-- This was read and is entries, one behind the other; and this is written of them.
pub record Attends (setup : Setup) (recovers : Bool) (text said : List ℕ) : Type 0 where
  pub past : List Heard
  pub report : List ℕ
  pub entries : text ≡ told_text past
  pub told : AreTold past
  pub writes : Writes setup recovers past report said

-- No entry begins the text.
abbrev pub BeginsNoEntry : List ℕ → Type 0
BeginsNoEntry text = (entry : Entry) (bytes more : List ℕ) → IsWhole entry bytes → text ≡ entry_text entry bytes ++ more → ⊥

-- The input is entries, and all of them were answered.
abbrev pub AttendsAll : Setup → Bool → Option (List ℕ) → Option (List ℕ) → Option (List ℕ) → Type 0
AttendsAll setup recovers input written written' = IfSome input (λ bytes. (said : List ℕ) × Attends setup recovers bytes said
    × Appends written written' said)

-- Its first entries were answered, and what follows them begins with none.
abbrev pub AttendsFirst : Setup → Bool → Option (List ℕ) → Option (List ℕ) → Option (List ℕ) → Type 0
AttendsFirst setup recovers input written written' = IfSome input (λ bytes. (first rest said : List ℕ) × (bytes ≡ first ++ rest)
    × (rest ≢ []) × BeginsNoEntry rest × Attends setup recovers first said × Appends written written' said)

-- All entries that were read were answered: what is left of the bytes that were read begins with no whole one.
abbrev pub AttendsRead : Setup → Bool → Option (List ℕ) → Option (List ℕ) → Option (List ℕ) → Option (List ℕ) → Type 0
AttendsRead setup recovers input input' written written' = (first rest said : List ℕ) × Consumes input input' (first ++ rest) × IsUnfinished rest
    × Attends setup recovers first said × Appends written written' said

-- Some first entries of what was read were answered.
abbrev pub AttendsSome : Setup → Bool → Option (List ℕ) → Option (List ℕ) → Option (List ℕ) → Option (List ℕ) → Type 0
AttendsSome setup recovers input input' written written' = (first rest said : List ℕ) × Consumes input input' (first ++ rest)
    × Attends setup recovers first said × Appends written written' said

-- A first part of the answers to some first entries was written, and no other byte.
abbrev pub AttendsFront : Setup → Bool → Option (List ℕ) → Option (List ℕ) → Option (List ℕ) → Option (List ℕ) → Type 0
AttendsFront setup recovers input input' written written' = (first rest said : List ℕ) × Consumes input input' (first ++ rest)
    × Attends setup recovers first said × AppendsPart written written' said

-- What is there where a recorder gave up, by its reason.
abbrev pub EndsBy : AttendError → Setup → Bool → Option (List ℕ) → Option (List ℕ) → Option (List ℕ) → Option (List ℕ) → Type 0
EndsBy Read setup recovers input input' written written' = AttendsRead setup recovers input input' written written'
EndsBy Write setup recovers input input' written written' = AttendsFront setup recovers input input' written written'
EndsBy NoEntry setup recovers input input' written written' = AttendsFirst setup recovers input written written'
EndsBy TooLong setup recovers input input' written written' = AttendsSome setup recovers input input' written written'
EndsBy Memory setup recovers input input' written written' = AttendsSome setup recovers input input' written written'
