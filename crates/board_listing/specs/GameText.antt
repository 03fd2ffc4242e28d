-- What each event makes of the game. Events and entries are listed with the latest first, and plies too.
use Rattle.std.specs.Prelude.{◌≡◌, ◌≢◌, ◌⊎◌, ℕ, true, false, List, [], ◌∷◌, ◌++◌, codes, map, Option}
use Rattle.chess_rules.specs.declared.parts.Parts.{Parts}
use Rattle.chess_rules.specs.Picture.{picture}
use Rattle.chess_text.specs.San.{San}
use Rattle.dgt_frame.specs.declared.events.Event.{Event}
use Rattle.dgt_frame.specs.Streams.{Timed}
use Rattle.settle_core.specs.declared.plies.Outcome.{Outcome}
use Rattle.settle_core.specs.declared.plies.Ply.{Ply}
use Rattle.settle_core.specs.declared.plies.Seen.{Seen}
use Rattle.settle_core.specs.declared.plies.Seen.TheVariants.{Same, Moved, Sign, Replaced, Waits}
use Rattle.settle_core.specs.GameResult.{IsResult}
use Rattle.settle_core.specs.Entries.{Entry, repeats, deduplicated}
use Rattle.settle_core.specs.Folding.{Folds, Score, SeenAs, moves_of, score_after}
use Rattle.settle_core.specs.Settling.{reached}
use Rattle.board_events.specs.Entries.{entry_at, is_entry}
use Rattle.board_events.specs.History.{is_fault}
use Rattle.board_events.specs.Settings.{Setting}
use Rattle.board_events.specs.Session.{entries_in}
use Rattle.watched_streams.specs.Lines.{line}
use Rattle.board_listing.specs.GameLines.{move_words, result_words, squares_text, waiting_words}
use Rattle.board_listing.specs.EventLines.{line_of}

-- the position that a score has reached
abbrev pub reached_by : Parts → Score → Parts
reached_by start score = reached start (moves_of score.plies)

-- The text is the line of the latest ply, with this word before it: its number, its SAN and its clock.
abbrev pub TellsPly : ℕ → List ℕ → Parts → List Ply → List ℕ → Type 0
TellsPly offset word start [] text = ⊥
TellsPly offset word start (ply ∷ earlier) text = (san : List ℕ) × San (reached start (moves_of earlier)) ply.mv san
    × (text ≡ line offset (move_words word (reached start (moves_of earlier)) san ply.clock))

-- The text is what is said of what a picture shows, where this score now stands: a move or a correction; nothing of a
-- sign; of a picture that waits, the squares on which it differs from the position.
abbrev pub TellsSeen : ℕ → Parts → Score → List ℕ → Seen → List ℕ → Type 0
TellsSeen offset start score shown (Moved m) text = TellsPly offset (codes "move") start score.plies text
TellsSeen offset start score shown (Replaced m) text = TellsPly offset (codes "correction") start score.plies text
TellsSeen offset start score shown (Sign outcome) text = text ≡ []
TellsSeen offset start score shown Waits text = text ≡ line offset (waiting_words (squares_text (picture (reached_by start score)) shown))
TellsSeen offset start score shown Same text = ⊥

-- The game of this score has this result so far.
abbrev pub HasResult : Parts → Score → Option Outcome → Type 0
HasResult start score result = IsResult (reached_by start score) score.sign result

-- The text tells the result where it has become another one.
abbrev pub TellsResult : ℕ → Option Outcome → Option Outcome → List ℕ → Type 0
TellsResult offset old new text = ((new ≡ old) × (text ≡ [])) ⊎ ((new ≢ old) × (text ≡ line offset (result_words new)))

-- The text is the lines of an entry after these, whose picture differs from that of the one before: first what the
-- picture shows, then the result. The scores are those to which the entries fold, before it and with it.
pub record TellsEntry (offset : ℕ) (start : Parts) (past : List Entry) (entry : Entry) (text : List ℕ) : Type 0 where
  pub before : Score
  pub seen : Seen
  pub old : Option Outcome
  pub new : Option Outcome
  pub first : List ℕ
  pub second : List ℕ
  pub folds : Folds start (deduplicated past) before
  pub shows : SeenAs start (moves_of before.plies) entry.picture seen
  pub old_is : HasResult start before old
  pub new_is : HasResult start (score_after start before entry.reading seen) new
  pub first_is : TellsSeen offset start (score_after start before entry.reading seen) entry.picture seen first
  pub second_is : TellsResult offset old new second
  pub text_is : text ≡ first ++ second

-- The text is the lines of an event after these.
pub record TellsEvent (setting : Setting) (past : List Event) (x : Timed) (text : List ℕ) : Type 0 where
  -- a fault, as `show` has it
  pub fault : is_fault x.event ≡ true → text ≡ line_of x
  -- a picture that equals the one before says nothing, and another one what it makes of the game
  pub repeated : is_entry x.event past ≡ true → repeats (entry_at setting.first setting.rotated (x.event ∷ past)).picture (entries_in setting past) ≡ true → text ≡ []
  pub entry : is_entry x.event past ≡ true → repeats (entry_at setting.first setting.rotated (x.event ∷ past)).picture (entries_in setting past) ≡ false
      → TellsEntry x.offset setting.start (entries_in setting past) (entry_at setting.first setting.rotated (x.event ∷ past)) text
  -- any other event says nothing
  pub other : is_fault x.event ≡ false → is_entry x.event past ≡ false → text ≡ []

-- The text is the lines of these events, one event after the other.
abbrev pub TellsEvents : Setting → List Timed → List ℕ → Type 0
TellsEvents setting [] text = text ≡ []
TellsEvents setting (x ∷ past) text = (before more : List ℕ) × TellsEvents setting past before
    × TellsEvent setting (map (λ t. t.event) past) x more × (text ≡ before ++ more)
