-- What is told of a game to `board_endings`. Lists have the latest first.
use Rattle.std.specs.Prelude.{◌+◌, ℕ, Bool, List, [], ◌∷◌, Option, Some, None, if◌then◌else◌}
use Rattle.board_events.specs.Settings.{Setting}
use Rattle.board_endings.specs.declared.news.End.{End}
use Rattle.board_endings.specs.declared.news.News.{News}
use Rattle.board_endings.specs.declared.news.News.TheVariants.{Begins, GoesBack, Reopens, Passes}
use Rattle.board_endings.specs.Items.{Item as EndItem, Sent as Comes, Noted as Notes}
use Rattle.board_endings.specs.Saying.{IsDueAt, IsEndAt}
use Rattle.board_standing.specs.declared.heard.Heard.{Heard}
use Rattle.board_standing.specs.declared.heard.Heard.TheVariants.{Begins as RecorderBegins}
use Rattle.board_alarms.specs.declared.chunk.Chunk.{Chunk}
use Rattle.board_game.specs.declared.note.Note.{Note}
use Rattle.board_game.specs.declared.note.Note.TheVariants.{Line, Looked, PutsBack, Reopens as IsReopened, Passes as HasPassed, Resumes, Suspects}
use Rattle.board_game.specs.History.{Came, Item, Makes, Noted, Pair, Sent}

-- what news of the line are to the end of a game: that a recorder begins
abbrev pub end_of_line : Heard → Option News
end_of_line RecorderBegins = Some Begins
end_of_line other = None

-- What came before plies are taken off, or a game is taken up, was written for that. If nobody listened for a time, that is as if a
-- recorder began.
abbrev pub end_news : Note → Option News
end_news (Line heard) = end_of_line heard
end_news Looked = None
end_news PutsBack = Some GoesBack
end_news IsReopened = Some Reopens
end_news HasPassed = Some Passes
end_news Resumes = Some Begins
end_news (Suspects n) = None

abbrev pub with_end_news : ℕ → Option News → List EndItem → List EndItem
with_end_news at None items = items
with_end_news at (Some news) items = Notes at news ∷ items

-- How many bytes the capture has with an event at this offset: what was added by hand is there as a whole, with all that was added with
-- it; of what the board has sent it has the bytes up to the event's last one.
abbrev pub bytes_with : Chunk → ℕ → ℕ
bytes_with chunk offset = if chunk.when.is_added then chunk.end else offset + 1

-- What is told of these items.
abbrev pub end_items : List Item → List EndItem
end_items [] = []
end_items (Sent chunk x ∷ items) = Comes chunk.when.at chunk.when.is_added (bytes_with chunk x.offset) x.event ∷ end_items items
end_items (Pair chunk offset r ∷ items) = end_items items
end_items (Noted at note ∷ items) = with_end_news at (end_news note) (end_items items)

-- By what came, the game stands so with its end at this time.
abbrev pub IsEndOf : Setting → Bool → List Came → ℕ → End → Type 0
IsEndOf setting recovers past now end = (items : List Item) × Makes setting recovers past items × IsEndAt setting (end_items items) now end

-- From now on, time alone has ended it if it has by now, or once this time has come; if it has, no time is named.
abbrev pub IsEndDueOf : Setting → Bool → List Came → ℕ → Option ℕ → Type 0
IsEndDueOf setting recovers past now due = (items : List Item) × Makes setting recovers past items × IsDueAt setting (end_items items) now due
