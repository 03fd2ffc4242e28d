-- What is left of a stream that is given on, with what is put in. Its streams are `input`, of which bytes are left,
-- `written`, what the output holds, and `said`, what the stream of the lines holds; a prime marks what they are
-- afterwards.
use Rattle.std.specs.Prelude.{◌≡◌, ◌+◌, ◌<◌, ◌≤◌, ◌⊎◌, ℕ, List, [], ◌∷◌, ◌++◌, length, Option, IfSome, Bool, true}
use Rattle.std.specs.Io.KnownBytes.{Appends, Consumes}
use Rattle.dgt_frame.specs.Streams.{Shows, Timed}
use Rattle.unseen_pairs.specs.declared.pair.Recovery.{Recovery}
use Rattle.board_events.specs.Commands.{past_of}
use Rattle.board_events.specs.Limits.{limit}
use Rattle.watched_streams.specs.Output.{AppendsPart}
use Rattle.board_events.specs.Settings.{Setting}
use Rattle.recovery.specs.Keeping.{ShowsAnother}
use Rattle.recovery.specs.Weaving.{Recovers, TellsRecovered}

-- All of the input was read, which is within the limit: its bytes were written, with what was put in, and the lines
-- said.
abbrev pub RecoversAll : Setting → Option (List ℕ) → Option (List ℕ) → Option (List ℕ) → Option (List ℕ) → Option (List ℕ) → Type 0
RecoversAll setting input written written' said said' = IfSome input (λ bytes. (woven text : List ℕ) × (length bytes ≤ limit)
    × Recovers setting bytes woven text × Appends written written' woven × Appends said said' text)

-- The input is longer than the limit, and that was done of its first bytes, so many.
abbrev pub RecoversFirst : Setting → Option (List ℕ) → Option (List ℕ) → Option (List ℕ) → Option (List ℕ) → Option (List ℕ) → Type 0
RecoversFirst setting input written written' said said' = IfSome input (λ bytes. (first more woven text : List ℕ)
    × (bytes ≡ first ++ more) × (length first ≡ limit) × (0 < length more)
    × Recovers setting first woven text × Appends written written' woven × Appends said said' text)

-- These bytes were read, and that was done of them.
abbrev pub RecoversRead : Setting → Option (List ℕ) → Option (List ℕ) → Option (List ℕ) → Option (List ℕ) → Option (List ℕ)
    → Option (List ℕ) → Type 0
RecoversRead setting input input' written written' said said' = (bytes woven text : List ℕ)
    × Consumes input input' bytes × Recovers setting bytes woven text × Appends written written' woven × Appends said said' text

-- Memory ran out at the next event behind these bytes. They show all events before it; the next of those behind them
-- complete it, and no other. It comes at the last of these, and shows another picture than the one before it, or the
-- first.
pub record RefusesNext (setting : Setting) (bytes behind : List ℕ) : Type 0 where
  pub events : List Timed
  pub rest : ℕ
  pub next : List ℕ
  pub later : List ℕ
  pub refused : Timed
  pub rest_then : ℕ
  pub shown : Shows bytes events rest
  pub parts : behind ≡ next ++ later
  pub one_more : Shows (bytes ++ next) (events ++ refused ∷ []) rest_then
  pub at_last : refused.offset + 1 ≡ length (bytes ++ next)
  pub another : ShowsAnother setting (past_of events) refused.event

-- That was done of first bytes that show all events before the one at which memory ran out, and not that one.
abbrev pub RecoversSome : Setting → Option (List ℕ) → Option (List ℕ) → Option (List ℕ) → Option (List ℕ) → Option (List ℕ)
    → Option (List ℕ) → Type 0
RecoversSome setting input input' written written' said said' = (bytes behind woven text : List ℕ)
    × Consumes input input' (bytes ++ behind) × RefusesNext setting bytes behind
    × Recovers setting bytes woven text × Appends written written' woven × Appends said said' text

-- a line that tells of a pair, or the first bytes of one
abbrev pub IsPairLine : List ℕ → Type 0
IsPairLine text = (offset : ℕ) × (r : Recovery) × TellsRecovered offset r text

abbrev pub BeginsPairLine : List ℕ → Type 0
BeginsPairLine part = (text rest : List ℕ) × IsPairLine text × (text ≡ part ++ rest)

-- A front was written of what the first of the bytes that were read give, and no other byte; all of its lines were
-- said, and of the next one at most a part, where their stream has failed. So no frame was put in whose line was not
-- said.
pub record RecoversFront (setting : Setting) (input input' written written' said said' : Option (List ℕ))
    (lines_failed : Bool) : Type 0 where
  pub bytes : List ℕ
  pub after : List ℕ
  pub woven : List ℕ
  pub text : List ℕ
  pub part : List ℕ
  pub consumes : Consumes input input' (bytes ++ after)
  pub recovers : Recovers setting bytes woven text
  pub writes : AppendsPart written written' woven
  pub says : Appends said said' (text ++ part)
  pub unfinished : (part ≡ []) ⊎ ((lines_failed ≡ true) × BeginsPairLine part)
