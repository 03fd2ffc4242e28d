-- What stands while a stream is given on.
use Rattle.std.specs.Prelude.{◌≡◌, ◌<◌, ◌⊎◌, ℕ, List, [], ◌++◌, length, Option, ⊤}
use Rattle.std.specs.Io.KnownBytes.{Appends, Consumes, Keeps}
use Rattle.dgt_frame.specs.declared.decode.Decoder.{Decoder}
use Rattle.watched_streams.specs.Output.{AppendsPart}
use Rattle.board_events.specs.Settings.{Setting}
use Rattle.recovery.specs.declared.keeper.Keeper.{Keeper}
use Rattle.recovery.specs.declared.refusal.RecoverError.{RecoverError}
use Rattle.recovery.specs.declared.refusal.RecoverError.TheVariants.{Read, Write, Lines, TooLong, Memory}
use Rattle.recovery.specs.Inside.Passing.{StandsForStream}
use Rattle.recovery.specs.Streams.{BeginsPairLine, IsPairLine, RefusesNext}
use Rattle.recovery.specs.Weaving.{Recovers}

-- What stands for the bytes that were given so far is what they show.
abbrev pub Concludes : Decoder → Keeper → Type 0
Concludes decoder keeper = (setting : Setting) (bytes woven text : List ℕ) → StandsForStream decoder keeper setting bytes woven text
    → Recovers setting bytes woven text

-- So many bytes were given.
abbrev pub HasBegun : Decoder → Keeper → ℕ → Type 0
HasBegun decoder keeper count = (setting : Setting) × (bytes woven text : List ℕ) × (length bytes ≡ count)
    × StandsForStream decoder keeper setting bytes woven text

-- Where that stood, memory ran out at the next event, which is among these bytes.
abbrev pub RefusesAmong : Decoder → Keeper → List ℕ → Type 0
RefusesAmong decoder keeper more = (setting : Setting) (bytes woven text : List ℕ) → StandsForStream decoder keeper setting bytes woven text
    → RefusesNext setting bytes more

-- What was put in at an event: nothing, or frames with their line.
abbrev pub IsPutIn : List ℕ → List ℕ → Type 0
IsPutIn frames line = ((frames ≡ []) × (line ≡ [])) ⊎ ((0 < length line) × IsPairLine line)

-- Where that stood, these bytes were given too, the first of which has this offset: they were written with what was put
-- in, but for those that wait, and the lines were said.
abbrev pub PassesOn : Decoder → Keeper → ℕ → List ℕ → Decoder → Keeper → List ℕ → Option (List ℕ) → Option (List ℕ) → Option (List ℕ)
    → Option (List ℕ) → Type 0
PassesOn old keeper start chunk new keeper' waiting written written' said said' = (setting : Setting) (bytes woven text : List ℕ)
    → length bytes ≡ start
    → StandsForStream old keeper setting bytes woven text
    → (more lines : List ℕ) × StandsForStream new keeper' setting (bytes ++ chunk) (woven ++ more ++ waiting) (text ++ lines)
    × Appends written written' more × Appends said said' lines

-- What stands of these bytes and lines after a refusal.
abbrev pub StopsAfter : RecoverError → List ℕ → List ℕ → Option (List ℕ) → Option (List ℕ) → Option (List ℕ) → Option (List ℕ) → Type 0
StopsAfter Memory more lines written written' said said' = Appends written written' more × Appends said said' lines
StopsAfter Write more lines written written' said said' = AppendsPart written written' more × Appends said said' lines
StopsAfter Lines more lines written written' said said' = AppendsPart written written' more
    × ((part : List ℕ) × BeginsPairLine part × Appends said said' (lines ++ part))
StopsAfter Read more lines written written' said said' = ⊥
StopsAfter TooLong more lines written written' said said' = ⊥

-- Where memory ran out, it did so at the next event behind these bytes.
abbrev pub StopsBefore : RecoverError → Setting → List ℕ → List ℕ → Type 0
StopsBefore Memory setting bytes behind = RefusesNext setting bytes behind
StopsBefore error setting bytes behind = ⊤

-- Where that stood, a part of these bytes was given too, and this refusal came.
abbrev pub BreaksOff : RecoverError → Decoder → Keeper → ℕ → List ℕ → Option (List ℕ) → Option (List ℕ) → Option (List ℕ)
    → Option (List ℕ) → Type 0
BreaksOff error old keeper start chunk written written' said said' = (setting : Setting) (bytes woven text : List ℕ) → length bytes ≡ start
    → StandsForStream old keeper setting bytes woven text
    → (taken after more lines : List ℕ) × (chunk ≡ taken ++ after)
    × Recovers setting (bytes ++ taken) (woven ++ more) (text ++ lines) × StopsAfter error more lines written written' said said'
    × StopsBefore error setting (bytes ++ taken) after

-- What a pair leaves that could not be put in: a part of its line, or the line and a part of the bytes.
abbrev pub PutsPart : RecoverError → List ℕ → List ℕ → Option (List ℕ) → Option (List ℕ) → Option (List ℕ) → Option (List ℕ) → Type 0
PutsPart Lines bytes line written written' said said' = Keeps written written' × AppendsPart said said' line
PutsPart Write bytes line written written' said said' = AppendsPart written written' bytes × Appends said said' line
PutsPart error bytes line written written' said said' = ⊥

-- So many bytes were read, and given on.
abbrev pub HasGiven : Decoder → Keeper → Setting → ℕ → Option (List ℕ) → Option (List ℕ) → Option (List ℕ) → Option (List ℕ)
    → Option (List ℕ) → Option (List ℕ) → Type 0
HasGiven decoder keeper setting count input input' written written' said said' = (bytes woven text : List ℕ)
    × (length bytes ≡ count) × Consumes input input' bytes × StandsForStream decoder keeper setting bytes woven text
    × Appends written written' woven × Appends said said' text
