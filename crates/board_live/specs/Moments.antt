-- What happens at a board that is recorded. Lists have the latest first; bytes are in the order in which they came.
use Rattle.std.specs.Prelude.{ℕ, Bool, true, false, nat_lt, if◌then◌else◌, List, [], ◌∷◌, Option, Some, None}
use Rattle.board_cable.specs.declared.happened.What.{What as AtCable}
use Rattle.board_cable.specs.declared.happened.What.TheVariants.{Begins, Opens, Closes, Interrupts, Wakes}
use Rattle.board_cable.specs.Moments.{Moment as CableMoment}
use Rattle.board_standing.specs.declared.heard.Heard.TheVariants.{Begins as RecorderBegins, Plugs, Unplugs}
use Rattle.board_game.specs.declared.note.Note.{Note}
use Rattle.board_game.specs.declared.note.Note.TheVariants.{Line, Resumes}
use Rattle.board_live.specs.declared.happened.Happened.{Happened}
use Rattle.board_live.specs.declared.happened.What.{What}
use Rattle.board_live.specs.declared.happened.What.TheVariants.{Cable, Adds, Brings, Stops, Keeps, KeepsAdded, Tells, Notes}

-- what happens at a time, with its bytes
pub record Moment : Type 0 where
  pub at : ℕ
  pub what : What
  pub bytes : List ℕ

abbrev pub moment_of : Happened → List ℕ → Moment
moment_of happened bytes = record { at = happened.at; what = happened.what; bytes = bytes }

-- What it is at the cable: bytes that were added, or came over another cable, may have cut a frame, and so may those that came while
-- nobody listened; what was kept of a call before happens elsewhere.
abbrev pub at_cable : What → AtCable
at_cable (Cable what) = what
at_cable Adds = Interrupts
at_cable Brings = Interrupts
at_cable (Stops time) = Interrupts
at_cable Keeps = Wakes
at_cable KeepsAdded = Wakes
at_cable (Tells heard) = Wakes
at_cable (Notes note) = Wakes

abbrev pub cable_moment : Moment → CableMoment
cable_moment moment = record { at = moment.at; what = at_cable moment.what; bytes = moment.bytes }

abbrev pub cabled : List Moment → List CableMoment
cabled [] = []
cabled (moment ∷ past) = cable_moment moment ∷ cabled past

-- the bytes that the capture has already
abbrev pub already : What → List ℕ → List ℕ
already Adds bytes = bytes
already Brings bytes = bytes
already Keeps bytes = bytes
already KeepsAdded bytes = bytes
already _ bytes = []

-- They were added by hand.
abbrev pub is_added : What → Bool
is_added Adds = true
is_added KeepsAdded = true
is_added _ = false

-- in this time a result may be taken back, in milliseconds
abbrev pub unheeded : ℕ
unheeded = 10000

-- Nobody listened for so long: a result may have been taken back meanwhile.
abbrev pub stopped : ℕ → Option Note
stopped time = if nat_lt time unheeded then None else Some Resumes

-- What comes of the game beside its bytes, as news of the line. A serial server that is called again tells nothing: its line is opened anew.
abbrev pub news_of : What → Option Note
news_of (Cable Begins) = Some (Line RecorderBegins)
news_of (Cable Opens) = Some (Line Plugs)
news_of (Cable Closes) = Some (Line Unplugs)
news_of (Stops time) = stopped time
news_of (Tells heard) = Some (Line heard)
news_of (Notes note) = Some note
news_of _ = None

-- A call begins.
abbrev pub begins : What → Bool
begins (Cable Begins) = true
begins _ = false
