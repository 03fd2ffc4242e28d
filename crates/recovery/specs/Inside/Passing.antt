-- What stands while a stream is given on. Timed events stand in their order.
use Rattle.std.specs.Prelude.{◌≡◌, ◌+◌, ℕ, List, [], ◌∷◌, ◌++◌, length, reverse, Option, Some, None, ⊤}
use Rattle.dgt_frame.specs.declared.decode.Decoder.{Decoder}
use Rattle.dgt_frame.specs.declared.events.Event.{Event}
use Rattle.dgt_frame.specs.declared.events.Event.TheVariants.{Message as MessageEvent, Fault}
use Rattle.dgt_frame.specs.Decoder.{Decoded}
use Rattle.dgt_frame.specs.Restarts.{moved_on}
use Rattle.dgt_frame.specs.Streams.{Shows, Timed}
use Rattle.unseen_pairs.specs.declared.pair.Recovery.{Recovery}
use Rattle.board_events.specs.Commands.{past_of}
use Rattle.board_events.specs.Entries.{entry_at}
use Rattle.board_events.specs.History.{is_trusted, picture_of, reading_at}
use Rattle.board_events.specs.Settings.{Setting}
use Rattle.board_events.specs.Session.{entries_in}
use Rattle.pair_frames.specs.PutIn.{ShowsWhole, put_in}
use Rattle.recovery.specs.declared.keeper.Keeper.{Keeper}
use Rattle.recovery.specs.Keeping.{RecoversAt}
use Rattle.recovery.specs.Inside.Keeping.{Keeps}
use Rattle.recovery.specs.Weaving.{Put, PutsAll, TellsPuts, TellsRecovered, Weaves}

-- Whatever these bytes and more of them show, the woven ones and the same show too: what was written, and then that
-- which is still to come, so many bytes later as were put in.
pub record Follows (bytes : List ℕ) (events : List Timed) (woven : List ℕ) (written : List Timed) : Type 0 where
  pub ahead : ℕ
  pub longer : length woven ≡ ahead + length bytes
  pub shows : (more : List ℕ) (later : List Timed) (rest : ℕ) → Shows (bytes ++ more) (events ++ later) rest
      → Shows (woven ++ more) (written ++ moved_on ahead later) rest

abbrev pub IsMessage : Event → Type 0
IsMessage (MessageEvent message) = ⊤
IsMessage (Fault kind) = ⊥

-- The last of the events is a message, at the byte before this offset.
abbrev pub EndsAt : List Timed → ℕ → Type 0
EndsAt [] end = ⊥
EndsAt (x ∷ []) end = IsMessage x.event × (x.offset + 1 ≡ end)
EndsAt (x ∷ y ∷ more) end = EndsAt (y ∷ more) end

-- The first events, and the second ones, after which a board is trusted, shows the same picture and has the same
-- reading.
pub record Alike (setting : Setting) (past written : List Event) : Type 0 where
  pub trust : is_trusted written ≡ is_trusted past
  pub picture : picture_of setting.rotated written ≡ picture_of setting.rotated past
  pub reading : reading_at setting.first written ≡ reading_at setting.first past

-- The keeper was given the first events, and the second ones are those with what was put in.
pub record KeepsWithPutIn (keeper : Keeper) (setting : Setting) (past written : List Event) : Type 0 where
  pub keeps : Keeps keeper setting past (entries_in setting written)
  pub alike : Alike setting past written

-- What was put in at the last of these events: nothing, or the frames of the pair that was recovered there, with its
-- line.
abbrev pub Adds : Setting → List Event → ℕ → Option Recovery → List ℕ → List ℕ → Type 0
Adds setting past offset None frames text = (frames ≡ []) × (text ≡ [])
Adds setting past offset (Some r) frames text = ShowsWhole frames
    (put_in setting.first setting.rotated (entry_at setting.first setting.rotated past) r)
    × TellsRecovered offset r text

-- the last of these events, and what was put in behind it
abbrev pub added : Setting → List Event → Event → Option Recovery → List Event → List Event
added setting past event None written = event ∷ written
added setting past event (Some r) written =
    reverse (put_in setting.first setting.rotated (entry_at setting.first setting.rotated (event ∷ past)) r) ++ event ∷ written

-- After these events, and those with what was put in, the keeper was given one more, and this is put in there.
pub record TakesEvent (keeper : Keeper) (setting : Setting) (past written : List Event) (offset : ℕ) (event : Event)
    (frames text : List ℕ) : Type 0 where
  pub found : Option Recovery
  pub finds : RecoversAt setting past event found
  pub carries : KeepsWithPutIn keeper setting (event ∷ past) (added setting past event found written)
  pub adds : Adds setting (event ∷ past) offset found frames text

-- The decoder and the keeper were given these bytes, which with what was put in are the woven ones, and this text tells
-- of it.
pub record StandsForStream (decoder : Decoder) (keeper : Keeper) (setting : Setting) (bytes woven text : List ℕ) : Type 0 where
  pub events : List Timed
  pub written : List Timed
  pub puts : List Put
  pub decoded : Decoded decoder bytes events
  pub carries : KeepsWithPutIn keeper setting (past_of events) (past_of written)
  pub follows : Follows bytes events woven written
  pub puts_are : PutsAll setting (reverse events) puts
  pub weaves : Weaves bytes puts woven
  pub told : TellsPuts puts text

-- Where that stood, these bytes were given too, the first of which has this offset, and this was put in behind them.
abbrev pub PassesBytes : Decoder → Keeper → ℕ → List ℕ → Decoder → Keeper → List ℕ → List ℕ → Type 0
PassesBytes old keeper start more new keeper' frames line = (setting : Setting) (bytes woven text : List ℕ) → length bytes ≡ start
    → StandsForStream old keeper setting bytes woven text → StandsForStream new keeper' setting (bytes ++ more) (woven ++ more ++ frames) (text ++ line)
