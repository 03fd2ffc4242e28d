-- What an entry is to a board that is recorded. Entries are listed with the latest first.
use Rattle.std.specs.Prelude.{ℕ, Bool, true, false, List, [], ◌∷◌, if◌then◌else◌}
use Rattle.board_cable.specs.Serial.{is_serial}
use Rattle.board_cable.specs.declared.happened.What.TheVariants.{Begins as CallBegins, Opens as LineOpens, Answers as ServerAnswers, Closes, HangsUp, Hears as BoardSends, Takes as BoardTaken, Owns as HasNumber, Lends as IsLent, Wakes as TimeCame}
use Rattle.board_live.specs.declared.happened.What.{What as ToBoard}
use Rattle.board_live.specs.declared.happened.What.TheVariants.{Cable, Adds as AddsBytes, Brings as BringsBytes, Stops as NobodyListened, Notes}
use Rattle.board_game.specs.declared.note.Note.TheVariants.{Looked as HasLooked, PutsBack as MustPutBack, Reopens as IsReopened, Passes, Suspects as IsSuspected}
use Rattle.board_live.specs.Moments.{Moment}
use Rattle.board_times.specs.declared.events.What.{What as Happening}
use Rattle.board_times.specs.declared.events.What.TheVariants.{Begins, Opens, Answers, Goes, Calls, Hears, Adds, Brings, Stops, Takes, Ends, Looks, PutsBack, Reopens, Suspects}
use Rattle.live_lines.specs.declared.entries.What.{What}
use Rattle.live_lines.specs.declared.entries.What.TheVariants.{Happens, Lends, Owns}
use Rattle.live_lines.specs.Clock.{clock_after, next_clock}
use Rattle.live_lines.specs.Entries.{brings_capture}
use Rattle.live_lines.specs.Heard.{Heard}
use Rattle.live_lines.specs.History.{history_of}

-- If nobody listened for a while, an answer that comes may be old, and frames are read anew. Two lines only name a time: that nobody
-- was there before a call, and what was asked. So does a file of times, which belongs to the next capture. Where it says that the game
-- is over, and time alone has ended it by then, it stays so.
abbrev pub happening_of : Happening → ToBoard
happening_of (Begins n) = Cable CallBegins
happening_of Opens = Cable LineOpens
happening_of Answers = Cable ServerAnswers
happening_of Goes = Cable Closes
happening_of Calls = Cable HangsUp
happening_of (Hears n) = Cable BoardSends
happening_of (Adds n) = AddsBytes
happening_of (Brings n) = BringsBytes
happening_of (Stops n) = NobodyListened n
happening_of Takes = Cable BoardTaken
happening_of Looks = Notes HasLooked
happening_of PutsBack = Notes MustPutBack
happening_of Reopens = Notes IsReopened
happening_of (Ends n) = Notes Passes
happening_of (Suspects n) = Notes (IsSuspected n)
happening_of _ = Cable TimeCame

-- the number of the game's board, if these bytes are one
abbrev pub owned : List ℕ → ToBoard
owned bytes = if is_serial 145 bytes then Cable (HasNumber bytes) else Cable TimeCame

abbrev pub meaning_of : What → List ℕ → ToBoard
meaning_of (Happens what) bytes = happening_of what
meaning_of Lends bytes = Cable IsLent
meaning_of (Owns n) bytes = owned bytes
meaning_of _ bytes = Cable TimeCame

-- what happened at the board, on the clock of all calls
abbrev pub moment_by : ℕ → Heard → Moment
moment_by at heard = record { at = at; what = meaning_of heard.entry.what heard.bytes; bytes = heard.bytes }

abbrev pub time_of : Heard → List Heard → ℕ
time_of heard past = (next_clock heard.entry (clock_after past)).last

abbrev pub moment_of : Heard → List Heard → Moment
moment_of heard past = moment_by (time_of heard past) heard

-- A capture tells all that is kept of the calls before.
abbrev pub moments_by : Bool → Heard → List Heard → List Moment → List Moment
moments_by true heard past before = history_of (clock_after past) heard.events heard.bytes before
moments_by false heard past before = moment_of heard past ∷ before

abbrev pub moments : List Heard → List Moment
moments [] = []
moments (heard ∷ past) = moments_by (brings_capture heard.entry.what) heard past (moments past)
