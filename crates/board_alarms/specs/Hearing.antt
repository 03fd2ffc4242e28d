-- What is heard of a game, as an alarm is told of it. Lists have the latest first.
use Rattle.std.specs.Prelude.{◌≡◌, ◌≢◌, ◌<◌, ◌^◌, ◌⊎◌, ℕ, Bool, true, false, List, [], ◌∷◌, length, Option, Some, None, is_some, if◌then◌else◌}
use Rattle.std.specs.Str.{bytes_eq}
use Rattle.chess_rules.specs.declared.parts.Parts.{Parts}
use Rattle.dgt_frame.specs.declared.events.Event.{Event}
use Rattle.settle_core.specs.declared.plies.Outcome.{Outcome}
use Rattle.settle_core.specs.declared.plies.Ply.{Ply}
use Rattle.settle_core.specs.Entries.{deduplicated, last_picture, repeats}
use Rattle.settle_core.specs.Folding.{Folds, Score, moves_of}
use Rattle.settle_core.specs.GameResult.{IsResult}
use Rattle.settle_core.specs.Settling.{reached}
use Rattle.board_events.specs.Entries.{is_entry}
use Rattle.board_events.specs.History.{picture_of, reading_at}
use Rattle.board_events.specs.Session.{entries_in}
use Rattle.board_events.specs.Settings.{Setting}
use Rattle.board_doubts.specs.declared.heard.Heard.{Heard}
use Rattle.board_doubts.specs.declared.heard.Heard.TheVariants.{Shows, Ends, Reopens, PutsIn as PutsPairIn, PutsBack as MustPutBack, Away, Looked as HasLooked}
use Rattle.board_doubts.specs.declared.heard.Gap.{Gap}
use Rattle.board_doubts.specs.declared.heard.Seen.{Seen}
use Rattle.board_doubts.specs.Elsewhere.{Sees}
use Rattle.board_alarms.specs.declared.look.Look.{Look}
use Rattle.board_alarms.specs.declared.look.Told.{Told}
use Rattle.board_alarms.specs.declared.look.Told.TheVariants.{Hears, Suspects as IsSuspected}
use Rattle.board_doubts.specs.Clock.{has_stopped}
use Rattle.board_alarms.specs.Looks.{alarms, heard}
use Rattle.board_alarms.specs.declared.chunk.Chunk.{Chunk}
use Rattle.board_alarms.specs.declared.news.News.{News}
use Rattle.board_alarms.specs.declared.news.News.TheVariants.{Gone, Begins, PutsIn, Looked, PutsBack, Suspects}
use Rattle.board_alarms.specs.declared.news.Sight.{Sight}
use Rattle.board_alarms.specs.declared.news.Sight.TheVariants.{Nothing as SeesNone, Again as SeesAgain, Another as SeesAnother, Moves as SeesMoves}
use Rattle.board_alarms.specs.Clock.{clock_of, counts_said, lever_at, lever_said, presses_of, runs_said}
use Rattle.board_alarms.specs.Gaps.{gap_before}
use Rattle.board_alarms.specs.Items.{Item, Sent, Noted, events_of}
use Rattle.board_alarms.specs.Plies.{HearsPlies, before, black_moves, position}

-- ---- an event

-- What an event shows: no picture, the last one again, or another one.
pub data Shown : Type 0 where
  Nothing : Shown
  Again : List ℕ → Shown
  Another : List ℕ → Shown

-- the same by a picture, which was shown last
abbrev pub shown_at : Sight → List ℕ → Shown
shown_at SeesNone picture = Nothing
shown_at SeesAgain picture = Again picture
shown_at SeesAnother picture = Another picture
shown_at SeesMoves picture = Another picture

-- It is another picture.
abbrev pub is_another : Sight → Bool
is_another SeesAnother = true
is_another SeesMoves = true
is_another other = false

-- The plies have become others.
abbrev pub moves : Sight → Bool
moves SeesMoves = true
moves other = false

-- The second plies are others than the first ones, or the same.
abbrev pub AreMoved : Bool → List Ply → List Ply → Type 0
AreMoved true old new = new ≢ old
AreMoved false old new = new ≡ old

-- The plies become others with an event after these, or stay.
abbrev pub HasMoved : Setting → List Event → Event → Bool → Type 0
HasMoved setting past event moved = (old new : Score) → Folds setting.start (deduplicated (entries_in setting past)) old
    → Folds setting.start (deduplicated (entries_in setting (event ∷ past))) new → AreMoved moved old.plies new.plies

-- This is shown by an event after these.
abbrev pub IsShown : Setting → List Event → Event → Shown → Type 0
IsShown setting past event Nothing = is_entry event past ≡ false
IsShown setting past event (Again seen) = (is_entry event past ≡ true) × (seen ≡ picture_of setting.rotated (event ∷ past))
    × (repeats seen (entries_in setting past) ≡ true)
IsShown setting past event (Another seen) = (is_entry event past ≡ true) × (seen ≡ picture_of setting.rotated (event ∷ past))
    × (repeats seen (entries_in setting past) ≡ false)

-- The board shows the position that these plies lead to.
abbrev pub agrees : Parts → List Ply → Shown → Bool
agrees start plies Nothing = false
agrees start plies (Again seen) = bytes_eq seen (position start plies)
agrees start plies (Another seen) = bytes_eq seen (position start plies)

-- the last picture, once an event has shown this
abbrev pub last_shown : Shown → Option (List ℕ) → Option (List ℕ)
last_shown Nothing last = last
last_shown (Again seen) last = Some seen
last_shown (Another seen) last = Some seen

-- What another picture shows apart from the positions that these plies lead to, with the last ones and without.
pub record SeesApart (start : Parts) (plies : List Ply) (picture : List ℕ) (heard : Option Heard) : Type 0 where
  pub seen : Seen
  pub sees : Sees seen (black_moves start plies) (position start (before 2 plies)) (position start (before 1 plies)) (position start plies) picture
  pub own_fits : seen.own < 2 ^ 64
  pub others_fit : seen.others < 2 ^ 64
  pub astray_fit : seen.astray < 2 ^ 64
  pub heard_is : heard ≡ Some (Shows seen)

-- What is heard of a picture, where these were the plies before it: nothing if it is the last one again.
abbrev pub HearsPicture : Parts → List Ply → Shown → Option Heard → Type 0
HearsPicture start plies Nothing heard = heard ≡ None
HearsPicture start plies (Again seen) heard = heard ≡ None
HearsPicture start plies (Another seen) heard = SeesApart start plies seen heard

-- What is heard of the result, where it has become another one.
abbrev pub HearsResult : Option Outcome → Option Outcome → Option Heard → Type 0
HearsResult old new heard = ((new ≡ old) × (heard ≡ None)) ⊎ ((new ≢ old) × (heard ≡ Some (if is_some new then Ends else Reopens)))

-- the result of a score
abbrev pub HasResult : Parts → Score → Option Outcome → Type 0
HasResult start score result = IsResult (reached start (moves_of score.plies)) score.sign result

abbrev pub away_of : Option Gap → Option Heard
away_of None = None
away_of (Some gap) = Some (Away gap)

-- What is heard of one event: a time in which the board wasn't heard before it; the picture that it shows; the news of the game, and the
-- ply of a move or correction; a result that has become another one; a time of the clock that goes down, a press, and whether the clock runs.
pub record EventHeard : Type 0 where
  pub away : Option Heard
  pub shows : Option Heard
  pub news : Option Heard
  pub ply : Option Heard
  pub ended : Option Heard
  pub counts : Option Heard
  pub presses : Option Heard
  pub clock : Option Heard

-- What is heard of an event that these bytes bring after these items, where the game has the first score before it and the second one
-- with it.
pub record HearsEvent (setting : Setting) (items : List Item) (chunk : Chunk) (event : Event) (old new : Score) (heard : EventHeard) : Type 0 where
  pub shown : Shown
  pub old_result : Option Outcome
  pub new_result : Option Outcome
  pub old_folds : Folds setting.start (deduplicated (entries_in setting (events_of items))) old
  pub new_folds : Folds setting.start (deduplicated (entries_in setting (event ∷ events_of items))) new
  pub is_shown : IsShown setting (events_of items) event shown
  pub old_result_is : HasResult setting.start old old_result
  pub new_result_is : HasResult setting.start new new_result
  pub away : heard.away ≡ away_of (gap_before chunk items)
  pub shows : HearsPicture setting.start old.plies shown heard.shows
  pub plies : HearsPlies setting.start (agrees setting.start new.plies shown) old.plies new.plies heard.news heard.ply
  pub ended : HearsResult old_result new_result heard.ended
  pub counts : heard.counts ≡ counts_said chunk (reading_at setting.first (events_of items)) (reading_at setting.first (event ∷ events_of items))
  pub presses : heard.presses ≡ presses_of (lever_said chunk event) (lever_at items)
  pub clock : heard.clock ≡ clock_of (runs_said chunk event)

-- ---- what is told of it

-- with what is heard at this time, if anything; then the game has so many plies
abbrev pub with_heard : ℕ → Bool → ℕ → Option Heard → List Told → List Told
with_heard at added plies None told = told
with_heard at added plies (Some what) told = Hears (record { at = at; is_added = added; what = what }) plies ∷ told

-- One thing after the other: what is heard of the line and of the picture, before the event counts; then of the game, and of
-- the clock.
abbrev pub with_event : ℕ → Bool → ℕ → ℕ → EventHeard → List Told → List Told
with_event at added old new heard told = with_heard at added new heard.clock (with_heard at added new heard.presses
    (with_heard at added new heard.counts (with_heard at added new heard.ended (with_heard at added new heard.ply
    (with_heard at added new heard.news (with_heard at added old heard.shows (with_heard at added old heard.away told)))))))

-- The board shows the position that these plies lead to, by its last picture.
abbrev pub stands : Parts → List Ply → Option (List ℕ) → Bool
stands start plies None = false
stands start plies (Some seen) = bytes_eq seen (position start plies)

-- with news; the game has so many plies, and the board shows their position, or not
abbrev pub with_news : ℕ → ℕ → Bool → News → List Told → List Told
with_news at plies stood Gone told = told
with_news at plies stood Begins told = told
with_news at plies stood PutsIn told = with_heard at false plies (Some PutsPairIn) told
with_news at plies stood Looked told = with_heard at false plies (Some HasLooked) told
with_news at plies stood PutsBack told = with_heard at false plies (if stood then None else Some MustPutBack) told
with_news at plies stood (Suspects n) told = IsSuspected n ∷ told

-- This is told of these items.
abbrev pub Tells : Setting → List Item → List Told → Type 0
Tells setting [] told = told ≡ []
Tells setting (Sent chunk event ∷ items) told = (earlier : List Told) × (old new : Score) × (heard : EventHeard) × Tells setting items earlier
    × HearsEvent setting items chunk event old new heard × (told ≡ with_event chunk.when.at chunk.when.is_added (length old.plies) (length new.plies) heard earlier)
Tells setting (Noted at news ∷ items) told = (earlier : List Told) × (score : Score) × Tells setting items earlier
    × Folds setting.start (deduplicated (entries_in setting (events_of items))) score
    × (told ≡ with_news at (length score.plies) (stands setting.start score.plies (last_picture (entries_in setting (events_of items)))) news earlier)

-- The clock has run, and stood when it spoke last, or not.
abbrev pub ClockIsStopped : Setting → List Item → Bool → Type 0
ClockIsStopped setting items stopped = (told : List Told) × Tells setting items told × (stopped ≡ has_stopped (heard told))

-- These alarms are open.
abbrev pub AreOpen : Setting → List Item → List Look → Type 0
AreOpen setting items looks = (told : List Told) × Tells setting items told × (looks ≡ alarms told)
