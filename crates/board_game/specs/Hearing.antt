-- What is heard of a board by its events, for how it stands. Lists have the latest first.
use Rattle.std.specs.Prelude.{◌≡◌, ◌≢◌, ◌<◌, ◌^◌, ℕ, Bool, true, false, List, [], ◌∷◌, reverse, Option, Some, None, is_some}
use Rattle.chess_rules.specs.Picture.{picture}
use Rattle.dgt_frame.specs.declared.events.Event.{Event}
use Rattle.settle_core.specs.declared.plies.Outcome.{Outcome}
use Rattle.settle_core.specs.Entries.{deduplicated, last_picture, repeats}
use Rattle.settle_core.specs.Folding.{Folds, Score}
use Rattle.settle_core.specs.Masks.{IsDiff}
use Rattle.board_events.specs.Entries.{is_entry}
use Rattle.board_events.specs.History.{picture_of}
use Rattle.board_events.specs.Session.{entries_in}
use Rattle.board_events.specs.Settings.{Setting}
use Rattle.board_listing.specs.GameText.{HasResult, reached_by}
use Rattle.board_standing.specs.declared.heard.Event.{Event as Told}
use Rattle.board_standing.specs.declared.heard.Heard.{Heard}
use Rattle.board_standing.specs.declared.heard.Heard.TheVariants.{Shows, Repeats, Moves, Ends, Reopens}
use Rattle.board_standing.specs.declared.heard.Picture.{Picture}
use Rattle.board_game.specs.declared.note.Note.{Note}
use Rattle.board_game.specs.declared.note.Note.TheVariants.{Line, Looked, PutsBack, Reopens as IsReopened, Passes, Resumes, Suspects}
use Rattle.board_game.specs.History.{Came, Item, Sent, Pair, Noted, Makes, events_of}

-- The mask has exactly the squares on which two pictures differ.
pub record IsMask (squares : ℕ) (one other : List ℕ) : Type 0 where
  pub fits : squares < 2 ^ 64
  pub differ : IsDiff squares one other

-- The mask has the squares on which the picture differs from the one before it; of the first picture it has none.
abbrev pub Changes : Option (List ℕ) → List ℕ → ℕ → Type 0
Changes None shown squares = squares ≡ 0
Changes (Some before) shown squares = IsMask squares before shown

-- Where the picture that an event shows differs: from the position that the plies of this score lead to, from the picture
-- before it, and from the start seen from the other side.
pub record Compares (setting : Setting) (past : List Event) (event : Event) (score : Score) (p : Picture) : Type 0 where
  pub differs : IsMask p.differs (picture (reached_by setting.start score)) (picture_of setting.rotated (event ∷ past))
  pub changed : Changes (last_picture (entries_in setting past)) (picture_of setting.rotated (event ∷ past)) p.changed
  pub turned : IsMask p.turned (reverse (picture setting.start)) (picture_of setting.rotated (event ∷ past))

-- An event after these shows another picture than the one before it, or the first.
pub record IsNew (setting : Setting) (past : List Event) (event : Event) : Type 0 where
  pub entry : is_entry event past ≡ true
  pub another : repeats (picture_of setting.rotated (event ∷ past)) (entries_in setting past) ≡ false

-- What is heard of the picture that an event shows, if it shows one: that it is the last one again; that it is another one,
-- with which the plies have become others, or not. The scores are those before it and with it.
abbrev pub HearsPicture : Setting → List Event → Event → Score → Score → Option Heard → Type 0
HearsPicture setting past event old new None = is_entry event past ≡ false
HearsPicture setting past event old new (Some Repeats) = (is_entry event past ≡ true)
    × (repeats (picture_of setting.rotated (event ∷ past)) (entries_in setting past) ≡ true)
HearsPicture setting past event old new (Some Moves) = IsNew setting past event × (new.plies ≢ old.plies)
HearsPicture setting past event old new (Some (Shows p)) = IsNew setting past event × (new.plies ≡ old.plies) × Compares setting past event new p
HearsPicture setting past event old new (Some other) = ⊥

-- What is heard of the result of the game, where it has become another one: that there is one, or that there is none.
abbrev pub HearsResult : Option Outcome → Option Outcome → Option Heard → Type 0
HearsResult old new None = new ≡ old
HearsResult old new (Some Ends) = (new ≢ old) × (is_some new ≡ true)
HearsResult old new (Some Reopens) = (new ≢ old) × (new ≡ None)
HearsResult old new (Some other) = ⊥

-- What is heard of an event after these: of its picture, and then of the result.
pub record HearsEvent (setting : Setting) (past : List Event) (event : Event) (shown ended : Option Heard) : Type 0 where
  pub before : Score
  pub after : Score
  pub old : Option Outcome
  pub new : Option Outcome
  pub folds_before : Folds setting.start (deduplicated (entries_in setting past)) before
  pub folds : Folds setting.start (deduplicated (entries_in setting (event ∷ past))) after
  pub old_is : HasResult setting.start before old
  pub new_is : HasResult setting.start after new
  pub shown_is : HearsPicture setting past event before after shown
  pub ended_is : HearsResult old new ended

-- with what is heard at this time, if anything
abbrev pub with_heard : ℕ → Option Heard → List Told → List Told
with_heard time None before = before
with_heard time (Some what) before = record { at = time; what = what } ∷ before

-- what it tells of the line
abbrev pub heard_of : Note → Option Heard
heard_of (Line heard) = Some heard
heard_of Looked = None
heard_of PutsBack = None
heard_of IsReopened = None
heard_of Passes = None
heard_of Resumes = None
heard_of (Suspects n) = None

-- This is heard of these items. A pair is heard by the events that are put in for it.
abbrev pub Hears : Setting → List Item → List Told → Type 0
Hears setting [] heard = heard ≡ []
Hears setting (Sent chunk x ∷ items) heard = (earlier : List Told) × (shown ended : Option Heard) × Hears setting items earlier
    × HearsEvent setting (events_of items) x.event shown ended × (heard ≡ with_heard chunk.when.at ended (with_heard chunk.when.at shown earlier))
Hears setting (Pair chunk offset r ∷ items) heard = Hears setting items heard
Hears setting (Noted time note ∷ items) heard = (earlier : List Told) × Hears setting items earlier × (heard ≡ with_heard time (heard_of note) earlier)

-- This is heard of what came.
abbrev pub IsHeard : Setting → Bool → List Came → List Told → Type 0
IsHeard setting recovers past heard = (items : List Item) × Makes setting recovers past items × Hears setting items heard
