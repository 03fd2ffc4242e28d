-- What a stream shows in which pairs of plies are recovered. Events are listed with the latest first.
use Rattle.std.specs.Prelude.{◌≡◌, ℕ, List, [], ◌∷◌, ◌++◌, reverse, Option, Some, None}
use Rattle.dgt_frame.specs.declared.events.Event.{Event}
use Rattle.dgt_frame.specs.Streams.{Shows, Timed}
use Rattle.unseen_pairs.specs.declared.pair.Recovery.{Recovery}
use Rattle.board_events.specs.Commands.{past_of}
use Rattle.board_events.specs.Entries.{entry_at}
use Rattle.board_events.specs.Settings.{Setting}
use Rattle.pair_frames.specs.PutIn.{put_in}
use Rattle.recovery.specs.Keeping.{RecoversAt}
use Rattle.recovery.specs.Weaving.{Recovers}

-- what is put in behind the last of these events, if this is recovered there
abbrev pub put_behind : Setting → List Event → Option Recovery → List Event
put_behind setting past None = []
put_behind setting past (Some r) = put_in setting.first setting.rotated (entry_at setting.first setting.rotated past) r

-- The second events are the first ones, each with what is put in behind it.
abbrev pub HavePutIn : Setting → List Event → List Event → Type 0
HavePutIn setting [] woven = woven ≡ []
HavePutIn setting (event ∷ past) woven = (before : List Event) × (found : Option Recovery) × HavePutIn setting past before
    × RecoversAt setting past event found × (woven ≡ reverse (put_behind setting (event ∷ past) found) ++ event ∷ before)

-- The woven bytes show the events of the bytes with those that are put in, and nothing else.
abbrev pub ShowsPutIn : Type 0
ShowsPutIn = (setting : Setting) (bytes woven text : List ℕ) (events written : List Timed) (rest last : ℕ) → Recovers setting bytes woven text
    → Shows bytes events rest → Shows woven written last → HavePutIn setting (past_of events) (past_of written)
