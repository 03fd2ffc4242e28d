-- What `times` prints of a file of times.
use Rattle.std.specs.Prelude.{◌≡◌, ℕ, ◌<◌, ◌≤◌, ◌⊎◌, List, codes, length, Option, IfSome, true}
use Rattle.std.specs.Io.KnownBytes.{Appends, Keeps}
use Rattle.watched_streams.specs.Input.{ReadsWithin}
use Rattle.watched_streams.specs.Output.{AppendsPart}
use Rattle.board_times.specs.declared.reading.Found.{Found}
use Rattle.board_times.specs.declared.reading.Found.TheVariants.{Missing, Unreadable, Newer, Times}
use Rattle.board_times.specs.declared.reading.Kept.{Kept}
use Rattle.board_times.specs.Listing.{listing_of}
use Rattle.board_times.specs.Times.{IsFound}
use Rattle.text_subcommands.specs.Messages.{IsTooLong, Tells}
use Rattle.text_subcommands.specs.Streams.{Streams}

-- the most bytes of a file of times
abbrev pub times_limit : ℕ
times_limit = 67108864

-- The input is a file of times, within the limit, and its lines were written.
abbrev pub ListsTimes : Option (List ℕ) → Option (List ℕ) → Option (List ℕ) → Type 0
ListsTimes input written written' = IfSome input (λ bytes. (kept : Kept) × IsFound bytes (Times kept) × (length bytes ≤ times_limit)
    × Appends written written' (listing_of kept))

-- A first part of those lines was written, or nothing.
abbrev pub ListsPart : Option (List ℕ) → Option (List ℕ) → Option (List ℕ) → Type 0
ListsPart input written written' = Keeps written written' ⊎ IfSome input (λ bytes. (kept : Kept) × IsFound bytes (Times kept) × (length bytes ≤ times_limit)
    × AppendsPart written written' (listing_of kept))

-- the message about what is no file of times; there is none about one
abbrev pub IsTimesMessage : Found → List ℕ → Type 0
IsTimesMessage Missing message = message ≡ codes "times: empty\n"
IsTimesMessage Unreadable message = message ≡ codes "times: no heading\n"
IsTimesMessage (Newer version) message = message ≡ codes "times: another version\n"
IsTimesMessage (Times kept) message = ⊥

-- The message about a refused text: it is longer than a file of times may be; or what was found in it.
abbrev pub RefusesTimes : Option (List ℕ) → List ℕ → Type 0
RefusesTimes input message = (IfSome input (λ bytes. times_limit < length bytes) × IsTooLong message)
    ⊎ ((found : Found) × IfSome input (λ bytes. IsFound bytes found × (length bytes ≤ times_limit)) × IsTimesMessage found message)

-- The input is a file of times, and was listed, or why not was said.
pub record TellsTimes (status : ℕ) (s : Streams) : Type 0 where
  pub done : status ≡ 0 → ListsTimes s.input s.written s.written'
  pub tells : Tells status (RefusesTimes s.input) s.said s.said' s.reader_failed s.out_failed s.err_failed
  -- at most one byte past the limit was read
  pub bounded : ReadsWithin times_limit s.input s.input'
  -- a stream has failed: a first part of the lines stands, and nothing where it is the reader
  pub fault : status ≡ 3 → ListsPart s.input s.written s.written'
  pub unread : s.reader_failed ≡ true → Keeps s.written s.written'
  pub read : s.reader_failed ≡ true → status ≡ 3
  -- nothing was written of a text that is refused, or where memory ran out
  pub silent : (status ≡ 1) ⊎ (status ≡ 4) → Keeps s.written s.written'
