-- What is told of a game to `board_alarms`. Lists have the latest first.
use Rattle.std.specs.Prelude.{ℕ, Bool, List, [], ◌∷◌, Option, Some, None}
use Rattle.board_events.specs.Settings.{Setting}
use Rattle.board_alarms.specs.declared.look.Look.{Look}
use Rattle.board_standing.specs.declared.heard.Heard.{Heard}
use Rattle.board_standing.specs.declared.heard.Heard.TheVariants.{Unplugs, Begins as RecorderBegins}
use Rattle.board_alarms.specs.declared.news.News.{News}
use Rattle.board_alarms.specs.declared.news.News.TheVariants.{Gone, Begins, PutsIn, Looked as HasLooked, PutsBack as MustPutBack, Suspects as IsSuspected}
use Rattle.board_alarms.specs.Hearing.{AreOpen, ClockIsStopped as IsStopped}
use Rattle.board_alarms.specs.Items.{Item as AlarmItem, Sent as Comes, Noted as Notes}
use Rattle.board_game.specs.declared.note.Note.{Note}
use Rattle.board_game.specs.declared.note.Note.TheVariants.{Line, Looked, PutsBack, Reopens, Passes, Resumes, Suspects}
use Rattle.board_game.specs.History.{Came, Item, Makes, Noted, Pair, Sent}

-- what news of the line are to alarms: that it is gone, or that a recorder begins
abbrev pub of_line : Heard → Option News
of_line Unplugs = Some Gone
of_line RecorderBegins = Some Begins
of_line other = None

abbrev pub news_of : Note → Option News
news_of (Line heard) = of_line heard
news_of Looked = Some HasLooked
news_of PutsBack = Some MustPutBack
news_of Reopens = None
news_of Passes = None
news_of Resumes = None
news_of (Suspects n) = Some (IsSuspected n)

abbrev pub with_news : ℕ → Option News → List AlarmItem → List AlarmItem
with_news at None items = items
with_news at (Some news) items = Notes at news ∷ items

-- What alarms are told of these items. Where a pair is recovered, plies are put in, whose events follow.
abbrev pub alarm_items : List Item → List AlarmItem
alarm_items [] = []
alarm_items (Sent chunk x ∷ items) = Comes chunk x.event ∷ alarm_items items
alarm_items (Pair chunk offset r ∷ items) = Notes chunk.when.at PutsIn ∷ alarm_items items
alarm_items (Noted at note ∷ items) = with_news at (news_of note) (alarm_items items)

-- By what came the clock has run, and stood when it spoke last, or not.
abbrev pub ClockIsStopped : Setting → Bool → List Came → Bool → Type 0
ClockIsStopped setting recovers past stopped = (items : List Item) × Makes setting recovers past items × IsStopped setting (alarm_items items) stopped

-- These alarms are open, by what came.
abbrev pub AlarmsAre : Setting → Bool → List Came → List Look → Type 0
AlarmsAre setting recovers past looks = (items : List Item) × Makes setting recovers past items × AreOpen setting (alarm_items items) looks
