-- What is told of a board's line as things happen, one turn for each. Lists have the latest first.
use Rattle.std.specs.Prelude.{◌≡◌, ℕ, Bool, true, false, List, [], ◌∷◌, Option, Some, None, ⊤}
use Rattle.board_cable.specs.declared.line.Event.{Event}
use Rattle.board_cable.specs.declared.line.Request.{Request}
use Rattle.board_cable.specs.declared.line.Happening.{Happening}
use Rattle.board_cable.specs.declared.line.Happening.TheVariants.{Begins as LineBegins, Opens as LineOpens, Answers as LineAnswers, Closes as LineCloses, HangsUp as LineHangsUp, Interrupts as LineInterrupts, Owns as LineOwns}
use Rattle.board_cable.specs.declared.whose.Handling.{Handling}
use Rattle.board_cable.specs.Asking.{request_at, with_request}
use Rattle.board_cable.specs.Whose.{handling_at, shown_number}
use Rattle.board_cable.specs.declared.happened.What.{What}
use Rattle.board_cable.specs.declared.happened.What.TheVariants.{Begins, Opens, Answers, Closes, HangsUp, Hears, Interrupts, Takes, Owns, Lends, Wakes}
use Rattle.board_cable.specs.Moments.{Moment, is_heard, stream}
use Rattle.board_cable.specs.Frames.{TellsRead, with_happening}

-- The number of the board on the cable is the game's from now on, if it has sent one.
abbrev pub taken : Option (List ℕ) → Option Happening
taken None = None
taken (Some number) = Some (LineOwns number)

-- what is told at once if no bytes come; the board on the cable has shown this number
abbrev pub told_by : What → Option (List ℕ) → Option Happening
told_by Begins shown = Some LineBegins
told_by Opens shown = Some LineOpens
told_by Answers shown = Some LineAnswers
told_by Closes shown = Some LineCloses
told_by HangsUp shown = Some LineHangsUp
told_by Interrupts shown = Some LineInterrupts
told_by (Owns number) shown = Some (LineOwns number)
told_by Takes shown = taken shown
told_by Hears shown = None
told_by Lends shown = None
told_by Wakes shown = None

-- By whether the board has sent bytes: after the stream and what was told before, this is told now.
abbrev pub TellsAs : Bool → Moment → List ℕ → List Event → List Event → Type 0
TellsAs true moment stream before now = TellsRead moment.at stream moment.bytes before now
TellsAs false moment stream before now = now ≡ with_happening moment.at (told_by moment.what (shown_number before)) before

abbrev pub Tells : Moment → List ℕ → List Event → List Event → Type 0
Tells moment stream before now = TellsAs (is_heard moment.what) moment stream before now

-- what happened, and all that is told of the line then, before the board is asked
pub record Turn : Type 0 where
  pub moment : Moment
  pub now : List Event

-- the request that is sent at its end
abbrev pub request_of : Turn → Option Request
request_of turn = request_at turn.moment.at turn.now

-- what is done with what the board has sent
abbrev pub handling_of : Turn → Handling
handling_of turn = handling_at turn.moment.at turn.now

-- all that was told, with the request that was sent
abbrev pub told : List Turn → List Event
told [] = []
told (turn ∷ turns) = with_request turn.moment.at (request_of turn) turn.now

-- If this happened, these are the turns.
abbrev pub Told : List Moment → List Turn → Type 0
Told [] [] = ⊤
Told [] (turn ∷ turns) = ⊥
Told (moment ∷ past) [] = ⊥
Told (moment ∷ past) (turn ∷ turns) = Told past turns × (turn.moment ≡ moment) × Tells moment (stream past) (told turns) turn.now
