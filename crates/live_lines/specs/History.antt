-- What was kept of the calls before, by their capture and its file of times. Events stand in their order, moments with the latest
-- first.
use Rattle.std.specs.Prelude.{◌-◌, ℕ, Bool, true, false, List, [], ◌∷◌, ◌++◌, Option, Some, None, drop, take}
use Rattle.board_live.specs.Laws.{with_kept, with_told}
use Rattle.board_live.specs.Moments.{Moment, stopped}
use Rattle.board_game.specs.declared.note.Note.{Note}
use Rattle.board_game.specs.declared.note.Note.TheVariants.{Line, Looked as HasLooked, PutsBack as MustPutBack, Reopens as IsReopened, Passes, Suspects as IsSuspected}
use Rattle.board_standing.specs.declared.heard.Heard.TheVariants.{Begins as RecorderBegins, Plugs, Unplugs}
use Rattle.board_times.specs.declared.events.Event.{Event}
use Rattle.board_times.specs.declared.events.What.{What as Happening}
use Rattle.board_times.specs.declared.events.What.TheVariants.{Begins, Opens, Goes, Hears, Adds, Brings, Stops, Ends, Looks, PutsBack, Reopens, Suspects}
use Rattle.board_times.specs.Fitting.{covered_after}
use Rattle.live_lines.specs.declared.clock.Clock.{Clock}
use Rattle.live_lines.specs.Clock.{clock_at}

-- What an event tells beside bytes: news of the line, what concerns alarms, and what an arbiter says of the end. If time alone had
-- ended the game when it was written that it is over, it stays so.
abbrev pub news_of : Happening → Option Note
news_of (Begins n) = Some (Line RecorderBegins)
news_of Opens = Some (Line Plugs)
news_of Goes = Some (Line Unplugs)
news_of Looks = Some HasLooked
news_of PutsBack = Some MustPutBack
news_of Reopens = Some IsReopened
news_of (Ends n) = Some Passes
news_of (Stops time) = stopped time
news_of (Suspects n) = Some (IsSuspected n)
news_of _ = None

-- Its bytes were added by hand.
abbrev pub is_added : Happening → Bool
is_added (Adds n) = true
is_added _ = false

-- How many bytes come with an event, if so many have come. Bytes without a time came when the next call began.
abbrev pub coming : Happening → ℕ → ℕ
coming (Begins size) covered = size - covered
coming (Hears n) covered = n
coming (Adds n) covered = n
coming (Brings n) covered = n
coming _ covered = 0

-- What these events tell, behind what was told before: their bytes are the next ones of the capture. What is left of the capture
-- came last.
abbrev pub merged : Clock → ℕ → List ℕ → List Event → List Moment → List Moment
merged clock covered rest [] past = with_kept clock.last false rest past
merged clock covered rest (event ∷ events) past = merged (clock_at event clock) (covered_after event.what covered)
    (drop (coming event.what covered) rest) events
    (with_told (clock_at event clock).last (news_of event.what)
    (with_kept (clock_at event clock).last (is_added event.what) (take (coming event.what covered) rest) past))

-- the history of a capture, by the events of its file of times, behind what was told before
abbrev pub history_of : Clock → List Event → List ℕ → List Moment → List Moment
history_of clock events capture past = merged clock 0 capture events past

-- all bytes of these moments, in the order in which they came
abbrev pub bytes_in : List Moment → List ℕ
bytes_in [] = []
bytes_in (moment ∷ past) = bytes_in past ++ moment.bytes
