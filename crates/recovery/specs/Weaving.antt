-- A stream of bytes in which pairs of plies are recovered. Events and what is put in are listed with the latest first.
use Rattle.std.specs.Prelude.{◌≡◌, ◌+◌, ℕ, List, [], ◌∷◌, ◌++◌, length, map, reverse, codes, Option, Some, None}
use Rattle.dgt_frame.specs.declared.events.Event.{Event}
use Rattle.dgt_frame.specs.Streams.{Shows, Timed}
use Rattle.chess_rules.specs.declared.parts.Parts.{Parts}
use Rattle.chess_text.specs.San.{San}
use Rattle.pgn_book.specs.Movetext.{number_token}
use Rattle.settle_core.specs.Entries.{Entry, deduplicated}
use Rattle.settle_core.specs.Folding.{Folds, Score}
use Rattle.unseen_pairs.specs.declared.pair.Recovery.{Recovery}
use Rattle.unseen_pairs.specs.Recovering.{FoldsRecovering}
use Rattle.board_events.specs.Commands.{past_of}
use Rattle.board_events.specs.Entries.{entry_at}
use Rattle.board_events.specs.Settings.{Setting}
use Rattle.board_events.specs.Session.{entries_in}
use Rattle.watched_streams.specs.Lines.{line}
use Rattle.pair_frames.specs.PutIn.{ShowsWhole, put_in}
use Rattle.recovery.specs.Keeping.{RecoversAt}

-- A pair that was recovered, the offset of the byte at which its entry came, and the frames that were put in for it.
pub record Put : Type 0 where
  pub offset : ℕ
  pub recovery : Recovery
  pub frames : List ℕ

-- These are the frames for this pair, which was recovered at the last of these events.
pub record IsPut (setting : Setting) (past : List Event) (offset : ℕ) (r : Recovery) (put : Put) : Type 0 where
  pub offset_is : put.offset ≡ offset
  pub recovery_is : put.recovery ≡ r
  pub frames_are : ShowsWhole put.frames (put_in setting.first setting.rotated (entry_at setting.first setting.rotated past) r)

-- What is put in once this was recovered at the last of these events: that too.
abbrev pub Puts : Setting → List Event → ℕ → Option Recovery → List Put → List Put → Type 0
Puts setting past offset None before puts = puts ≡ before
Puts setting past offset (Some r) before puts = (put : Put) × IsPut setting past offset r put × (puts ≡ put ∷ before)

-- What is put in at these events: for each pair that is recovered at one of them, its frames.
abbrev pub PutsAll : Setting → List Timed → List Put → Type 0
PutsAll setting [] puts = puts ≡ []
PutsAll setting (x ∷ past) puts = (before : List Put) × (found : Option Recovery) × PutsAll setting past before
    × RecoversAt setting (map (λ t. t.event) past) x.event found
    × Puts setting (map (λ t. t.event) (x ∷ past)) x.offset found before puts

-- The bytes with what was put in: the last of it behind the byte at its offset, the others before that.
abbrev pub Weaves : List ℕ → List Put → List ℕ → Type 0
Weaves bytes [] woven = woven ≡ bytes
Weaves bytes (put ∷ earlier) woven = (front back before : List ℕ) × (bytes ≡ front ++ back) × (length front ≡ put.offset + 1)
    × Weaves front earlier before × (woven ≡ before ++ put.frames ++ back)

-- the numbers and the SAN of both plies
abbrev pub recovered_words : Parts → List ℕ → Parts → List ℕ → List ℕ
recovered_words p san q reply = codes "recovered " ++ number_token p.side p.fullmove ++ codes " " ++ san ++ codes " "
    ++ number_token q.side q.fullmove ++ codes " " ++ reply

-- The line of a pair that was recovered at this offset.
abbrev pub TellsRecovered : ℕ → Recovery → List ℕ → Type 0
TellsRecovered offset r text = (san reply : List ℕ) × San r.before r.pair.first san × San r.middle r.pair.second reply
    × (text ≡ line offset (recovered_words r.before san r.middle reply))

-- The lines of all that was put in, in its order.
abbrev pub TellsPuts : List Put → List ℕ → Type 0
TellsPuts [] text = text ≡ []
TellsPuts (put ∷ earlier) text = (before more : List ℕ) × TellsPuts earlier before × TellsRecovered put.offset put.recovery more
    × (text ≡ before ++ more)

-- The bytes of a stream, with what was put in, are the woven ones: for each pair that is recovered at one of their
-- events, its frames, behind the byte at which its entry came, and nothing else; the text has its lines. The game of
-- the woven bytes is that of the bytes where unseen pairs are recovered.
pub record Recovers (setting : Setting) (bytes woven text : List ℕ) : Type 0 where
  pub events : List Timed
  pub rest : ℕ
  pub puts : List Put
  pub written : List Timed
  pub score : Score
  pub waiting : List Entry
  pub shows : Shows bytes events rest
  pub puts_are : PutsAll setting (reverse events) puts
  pub weaves : Weaves bytes puts woven
  pub told : TellsPuts puts text
  pub shown : Shows woven written rest
  pub recovers : FoldsRecovering setting.start (deduplicated (entries_in setting (past_of events))) score waiting
  pub game : Folds setting.start (deduplicated (entries_in setting (past_of written))) score
