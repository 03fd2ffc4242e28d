-- Which alarms are open. What was told is listed with the latest first, alarms in the order in which they came.
use Rattle.std.specs.Prelude.{ℕ, ◌-◌, Bool, true, false, List, [], ◌∷◌, ◌++◌, Option, Some, None, if◌then◌else◌}
use Rattle.board_doubts.specs.declared.heard.Doubt.{Doubt}
use Rattle.board_doubts.specs.declared.heard.Event.{Event}
use Rattle.board_doubts.specs.declared.heard.Heard.{Heard}
use Rattle.board_doubts.specs.declared.heard.Heard.TheVariants.{Looked}
use Rattle.board_doubts.specs.declared.stopped_clock.Tried.{Tried}
use Rattle.board_doubts.specs.Clock.{tries_of}
use Rattle.board_doubts.specs.Doubts.{doubt_of}
use Rattle.board_doubts.specs.Unplayed.{unplayed_of}
use Rattle.board_alarms.specs.declared.look.Look.{Look}
use Rattle.board_alarms.specs.declared.look.Look.TheVariants.{Doubtful, Stopped, Unplayed, Suspected}
use Rattle.board_alarms.specs.declared.look.Told.{Told}
use Rattle.board_alarms.specs.declared.look.Told.TheVariants.{Hears, Suspects}

-- what was heard of the game
abbrev pub heard : List Told → List Event
heard [] = []
heard (Hears event plies ∷ past) = event ∷ heard past
heard (Suspects n ∷ past) = heard past

-- the alarm of a doubt, where the game has so many plies
abbrev pub doubtful : ℕ → Option Doubt → Option Look
doubtful plies None = None
doubtful plies (Some doubt) = Some (Doubtful plies doubt)

-- the alarm of moves that were made while the clock was stopped: it names the last ply before them
abbrev pub stopped : ℕ → Option Tried → Option Look
stopped plies None = None
stopped plies (Some tried) = Some (Stopped (plies - tried.plies) tried.moves)

-- the alarm of moves that nobody may have played before the result: it names the last ply before them
abbrev pub unplayed : ℕ → Option Tried → Option Look
unplayed plies None = None
unplayed plies (Some moves) = Some (Unplayed (plies - moves.plies) moves.moves)

abbrev pub listed : Option Look → List Look
listed None = []
listed (Some look) = look ∷ []

-- the alarms that something raises, which is told after the past
abbrev pub raised : Told → List Told → List Look
raised (Hears event plies) past = listed (doubtful plies (doubt_of event (heard past))) ++ (listed (stopped plies (tries_of event (heard past)))
    ++ listed (unplayed plies (unplayed_of event (heard past))))
raised (Suspects n) past = Suspected n ∷ []

-- Somebody has looked.
abbrev pub is_looked : Heard → Bool
is_looked Looked = true
is_looked other = false

abbrev pub ends : Told → Bool
ends (Hears event plies) = is_looked event.what
ends (Suspects n) = false

-- the alarms that are open
abbrev pub alarms : List Told → List Look
alarms [] = []
alarms (told ∷ past) = (if ends told then [] else alarms past) ++ raised told past
