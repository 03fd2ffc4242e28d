-- What comes to the game. Lists have the latest first; bytes are in the order in which they came.
use Rattle.std.specs.Prelude.{◌≤◌, ◌||◌, ℕ, Bool, true, false, if◌then◌else◌, List, [], ◌∷◌, Option, Some, None, length, take}
use Rattle.board_cable.specs.Silence.{is_silent}
use Rattle.board_cable.specs.Keeping.{kept}
use Rattle.board_cable.specs.Turns.{Turn, told}
use Rattle.board_standing.specs.declared.heard.Heard.{Heard}
use Rattle.board_standing.specs.declared.heard.Heard.TheVariants.{Stops, Answers}
use Rattle.board_alarms.specs.declared.chunk.When.{When}
use Rattle.board_game.specs.declared.note.Note.{Note}
use Rattle.board_game.specs.declared.note.Note.TheVariants.{Line}
use Rattle.board_game.specs.History.{Came, Bytes, News, room_of}
use Rattle.board_live.specs.declared.happened.What.{What}
use Rattle.board_live.specs.Moments.{Moment, already, begins, is_added, news_of}

-- bytes, as far as the capture has room for them; no bytes are nothing
abbrev pub with_bytes : When → List ℕ → List Came → List Came
with_bytes at [] before = before
with_bytes at (byte ∷ bytes) before = Bytes at (take (room_of before) (byte ∷ bytes)) ∷ before

-- what isn't in the bytes, if there is anything
abbrev pub with_news : ℕ → Option Note → List Came → List Came
with_news at None before = before
with_news at (Some note) before = News at note ∷ before

abbrev pub lined : Option Heard → Option Note
lined None = None
lined (Some heard) = Some (Line heard)

-- the time of bytes that were added by hand, or of those that the board has sent
abbrev pub when : ℕ → Bool → When
when at added = record { at = at; is_added = added }

-- While the board is silent, whatever happens says so; when it answers again, that is said. When a call begins this isn't known: the
-- board counts as answering.
abbrev pub silence : What → Bool → Bool → Option Heard
silence what before true = Some Stops
silence what before false = if before || begins what then Some Answers else None

-- One thing after the other: what isn't in the bytes; the bytes that the capture has already, which were added by hand or not; those
-- that it gets now; and the silence.
abbrev pub came_with : ℕ → Option Note → Bool → List ℕ → List ℕ → Option Heard → List Came → List Came
came_with at news added already kept silence before =
    with_news at (lined silence) (with_bytes (when at false) kept (with_bytes (when at added) already (with_news at news before)))

-- What has come to the game, if these are the turns of the cable.
abbrev pub came : List Moment → List Turn → List Came
came [] turns = []
came (moment ∷ past) [] = []
came (moment ∷ past) (turn ∷ turns) = came_with moment.at (news_of moment.what) (is_added moment.what) (already moment.what moment.bytes) (kept (turn ∷ turns))
    (silence moment.what (is_silent (told turns)) (is_silent (told (turn ∷ turns)))) (came past turns)

-- The capture has room for the bytes.
abbrev pub HasRoom : ℕ → Option Note → Bool → List ℕ → List ℕ → List Came → Type 0
HasRoom at news added already kept before = (length already ≤ room_of (with_news at news before))
    × (length kept ≤ room_of (with_bytes (when at added) already (with_news at news before)))
