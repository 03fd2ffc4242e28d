-- What stands while events are told. Lists have the latest first, but what is put in.
use Rattle.std.specs.Prelude.{◌≡◌, ℕ, Bool, true, false, List, ◌∷◌, ◌++◌, map, reverse, Option, Some, None}
use Rattle.dgt_frame.specs.declared.decode.Decoder.{Decoder}
use Rattle.dgt_frame.specs.declared.events.Event.{Event}
use Rattle.dgt_frame.specs.Decoder.{Decoded}
use Rattle.dgt_frame.specs.Streams.{Timed}
use Rattle.unseen_pairs.specs.declared.pair.Recovery.{Recovery}
use Rattle.board_events.specs.Commands.{past_of}
use Rattle.board_events.specs.Settings.{Setting}
use Rattle.board_alarms.specs.Keeping.{StandsFor as AlarmsStand}
use Rattle.board_endings.specs.Keeping.{StandsFor as EndingsStand}
use Rattle.board_listing.specs.Inside.Watchers.{HasWatched}
use Rattle.board_standing.specs.declared.heard.Event.{Event as Told}
use Rattle.board_standing.specs.Keeping.{StandsFor as StandingStands}
use Rattle.recovery.specs.declared.keeper.Keeper.{Keeper}
use Rattle.recovery.specs.Inside.Passing.{Adds as AddsPair, KeepsWithPutIn, added}
use Rattle.board_alarms.specs.declared.chunk.Chunk.{Chunk}
use Rattle.board_game.specs.declared.following.Following.{Following}
use Rattle.board_game.specs.declared.telling.Teller.{Teller}
use Rattle.board_game.specs.Alarming.{alarm_items}
use Rattle.board_game.specs.Ending.{end_items}
use Rattle.board_game.specs.Hearing.{Hears}
use Rattle.board_game.specs.History.{Adds, AreShown, Came, Finds, Item, Makes, bytes_of, events_of}
use Rattle.board_game.specs.Inside.Shown.{HasSeen}
use Rattle.board_game.specs.Report.{Reports}

-- These items were told, and this text reports them.
pub record HasTold (teller : Teller) (setting : Setting) (items : List Item) (text : List ℕ) : Type 0 where
  pub watched : HasWatched teller.watcher setting (events_of items)
  pub seen : HasSeen teller.pictures setting (events_of items)
  pub heard : List Told
  pub hears : Hears setting items heard
  pub standing : StandingStands teller.standing heard
  pub alarms : AlarmsStand teller.alarms setting (alarm_items items)
  pub endings : EndingsStand teller.endings setting (end_items items)
  pub reports : Reports setting items text

-- Where pairs are recovered, the keeper was given the first events, and the second ones are those with what was put in;
-- else they are the same.
abbrev pub HasKept : Option Keeper → Setting → Bool → List Event → List Event → Type 0
HasKept None setting recovers past written = (recovers ≡ false) × (written ≡ past)
HasKept (Some keeper) setting recovers past written = (recovers ≡ true) × KeepsWithPutIn keeper setting past written

-- After these events, and those with what was put in, one more was given, and this is put in there.
pub record KeepsEvent (keeper : Option Keeper) (setting : Setting) (recovers : Bool) (past written : List Event) (offset : ℕ) (event : Event)
    (frames text : List ℕ) : Type 0 where
  pub found : Option Recovery
  pub finds : Finds setting recovers past event found
  pub keeps : HasKept keeper setting recovers (event ∷ past) (added setting past event found written)
  pub adds : AddsPair setting (event ∷ past) offset found frames text

-- The board sent these events, and these items were told.
pub record HasFollowed (following : Following) (setting : Setting) (recovers : Bool) (past : List Event) (items : List Item) (text : List ℕ) : Type 0 where
  pub keeps : HasKept following.keeper setting recovers past (events_of items)
  pub told : HasTold following.teller setting items text

-- Behind what came before, these bytes of a chunk came, and the second lines are the first ones with what was told of them.
pub record IsWithin (decoder : Decoder) (following : Following) (setting : Setting) (recovers : Bool) (past : List Came) (before text : List ℕ) (chunk : Chunk)
    (bytes lines lines' : List ℕ) : Type 0 where
  pub events : List Timed
  pub later : List Timed
  pub earlier : List Item
  pub items : List Item
  pub more : List ℕ
  pub decoded : Decoded decoder (bytes_of past ++ bytes) (events ++ reverse later)
  pub shown : AreShown (bytes_of past) events
  pub makes : Makes setting recovers past earlier
  pub adds : Adds setting recovers chunk (past_of events) later earlier items
  pub follows : HasFollowed following setting recovers (map (λ t. t.event) later ++ past_of events) items text
  pub text_is : text ≡ before ++ more
  pub lines_are : lines' ≡ lines ++ more
