-- What each subcommand does with the streams, by its status.
use Rattle.std.specs.Prelude.{◌≡◌, ◌⊎◌, ◌∷◌, [], ℕ, Bool, Contains, List, Option, codes, false, true}
use Rattle.dgt_frame.specs.Streams.{Timed}
use Rattle.board_events.specs.Limits.{limit}
use Rattle.board_events.specs.Settings.{Setting}
use Rattle.board_events.specs.declared.setup.Setup.{Setup}
use Rattle.board_session.specs.declared.refusal.RecordError.TheVariants.{Memory, TooLong}
use Rattle.watched_streams.specs.Input.{ReadsWithin}
use Rattle.live_lines.specs.Streams.{AttendsAll, AttendsFirst, AttendsFront, AttendsRead, AttendsSome}
use Rattle.board_listing.specs.Listings.{ListingEnds}
use Rattle.board_listing.specs.OneText.{TextEnds}
use Rattle.board_listing.specs.declared.listing.Listing.{Listing}
use Rattle.recovery.specs.Streams.{RecoversAll, RecoversFirst, RecoversFront, RecoversRead, RecoversSome}
use Rattle.std.specs.Io.KnownBytes.{Keeps}
use Rattle.text_subcommands.specs.Messages.{IsTooLong, Says, Tells}
use Rattle.dgt_replay.specs.Recorded.{EndsFor, Fails, RecordsAndTells}
use Rattle.text_subcommands.specs.Refusals.{Untouched}
use Rattle.text_subcommands.specs.Streams.{Streams}

-- The lines of a stream's events were written, and what ended that was said: that the stream is past its limit, which
-- stream has failed, or that memory ran out.
pub record WritesText (lines : List Timed → List ℕ) (last : ℕ → List ℕ) (status : ℕ) (s : Streams) : Type 0 where
  pub ends : TextEnds lines last status s.input s.input' s.written s.written' s.reader_failed s.out_failed
  pub tells : Tells status IsTooLong s.said s.said' s.reader_failed s.out_failed s.err_failed

-- The same of what any listing has.
pub record Lists (listing : Listing) (status : ℕ) (s : Streams) : Type 0 where
  pub ends : ListingEnds listing status s.input s.input' s.written s.written' s.reader_failed s.out_failed
  pub tells : Tells status IsTooLong s.said s.said' s.reader_failed s.out_failed s.err_failed

-- A game was recorded that is set up so.
pub record Records (setup : Setup) (status : ℕ) (s : Streams) : Type 0 where
  -- the whole of it
  pub done : status ≡ 0 → RecordsAndTells setup s
  -- the stream is past its limit, and the game of what is within it stands
  pub long : status ≡ 1 → EndsFor TooLong setup s
  -- a stream has failed, and what stands is what a recording leaves then
  pub fails : status ≡ 3 → Fails setup s
  -- memory ran out, at a ply, or before anything was read, or written to the output
  pub memory : status ≡ 4 → EndsFor Memory setup s ⊎ (Untouched s × Says s.said s.said' s.err_failed (codes "memory\n"))

-- That stood once this had been told, and then this message was said.
abbrev pub TellsAfter : (Option (List ℕ) → Type 0) → Streams → List ℕ → Type 0
TellsAfter Stood s message = (told : Option (List ℕ)) × Stood told × Says told s.said' s.err_failed message

-- A stream was given on, with the pairs put in that no picture showed, and their lines were told; what ended it is said
-- after them.
pub record RecoversPairs (setting : Setting) (status : ℕ) (s : Streams) : Type 0 where
  -- the whole of it
  pub done : status ≡ 0 → RecoversAll setting s.input s.written s.written' s.said s.said'
  -- the stream is past its limit, and what is within it was given on
  pub long : status ≡ 1 → TellsAfter (λ told. RecoversFirst setting s.input s.written s.written' s.said told) s (codes "input: too long\n")
  -- a stream has failed: the reader, and all bytes before were given on; or the output or standard error, and a front
  -- stands
  pub fault : status ≡ 3 → ((s.reader_failed ≡ true) × TellsAfter (λ told. RecoversRead setting s.input s.input' s.written s.written' s.said told) s (codes "read fault\n"))
      ⊎ (((s.out_failed ≡ true) × TellsAfter (λ told. RecoversFront setting s.input s.input' s.written s.written' s.said told false) s (codes "write fault\n"))
      ⊎ ((s.err_failed ≡ true) × RecoversFront setting s.input s.input' s.written s.written' s.said s.said' true))
  -- memory ran out amid the stream, or before anything was read, or written to the output
  pub memory : status ≡ 4 → TellsAfter (λ told. RecoversSome setting s.input s.input' s.written s.written' s.said told) s (codes "memory\n")
      ⊎ (Untouched s × Says s.said s.said' s.err_failed (codes "memory\n"))
  pub known : Contains (0 ∷ 1 ∷ 3 ∷ 4 ∷ []) status
  pub bounded : ReadsWithin limit s.input s.input'
  -- where a read has failed, all bytes before it were given on before it began
  pub read : s.reader_failed ≡ true → (status ≡ 3) × ((told : Option (List ℕ)) × RecoversRead setting s.input s.input' s.written s.written' s.said told)

-- A board was attended: what a host tells of it was answered, and what ended that is said.
pub record AttendsBoard (setup : Setup) (recovers : Bool) (status : ℕ) (s : Streams) : Type 0 where
  -- all of it was answered
  pub done : status ≡ 0 → AttendsAll setup recovers s.input s.written s.written' × Keeps s.said s.said'
  -- what follows the entries that were answered is no entry; or there was more to read than can be counted
  pub refused : status ≡ 1 → (AttendsFirst setup recovers s.input s.written s.written' × Says s.said s.said' s.err_failed (codes "input: no entry\n"))
      ⊎ (AttendsSome setup recovers s.input s.input' s.written s.written' × Says s.said s.said' s.err_failed (codes "input: too long\n"))
  -- the reader alone has failed, and all entries before were answered; or the output alone, and a first part of the answers stands
  pub fault : status ≡ 3 → ((s.reader_failed ≡ true) × (s.out_failed ≡ false) × AttendsRead setup recovers s.input s.input' s.written s.written' × Says s.said s.said' s.err_failed (codes "read fault\n"))
      ⊎ ((s.reader_failed ≡ false) × (s.out_failed ≡ true) × AttendsFront setup recovers s.input s.input' s.written s.written' × Says s.said s.said' s.err_failed (codes "write fault\n"))
  -- memory ran out at an entry, and those before were answered; or before anything was read, or written to the output
  pub memory : status ≡ 4 → (AttendsSome setup recovers s.input s.input' s.written s.written' ⊎ Untouched s) × Says s.said s.said' s.err_failed (codes "memory\n")
  pub known : Contains (0 ∷ 1 ∷ 3 ∷ 4 ∷ []) status
