-- What a game knows of what came. What came is listed with the latest first.
use Rattle.std.specs.Prelude.{◌≡◌, ◌≤◌, ℕ, Bool, List, length, Option}
use Rattle.dgt_frame.specs.Decoder.{Decoded}
use Rattle.dgt_frame.specs.Streams.{Timed}
use Rattle.board_events.specs.Commands.{past_of}
use Rattle.board_events.specs.Limits.{limit}
use Rattle.board_events.specs.Settings.{Setting}
use Rattle.board_standing.specs.declared.heard.Event.{Event as Told}
use Rattle.board_standing.specs.declared.state.State.{State}
use Rattle.board_standing.specs.States.{due_at, hint_at, kind_at, names_at, since_at}
use Rattle.square_runs.specs.Squares.{Marks}
use Rattle.board_game.specs.declared.game.Game.{Game}
use Rattle.board_game.specs.Hearing.{IsHeard}
use Rattle.board_game.specs.History.{AreShown, Came, Item, Makes, bytes_of}
use Rattle.board_game.specs.Inside.Telling.{HasFollowed}

-- This came, and the text reports it. A reader needs none of this: the contracts hold for whatever it says.
pub record StandsFor (game : Game) (setting : Setting) (recovers : Bool) (past : List Came) (text : List ℕ) : Type 0 where
  pub events : List Timed
  pub items : List Item
  pub decoded : Decoded game.decoder (bytes_of past) events
  pub shown : AreShown (bytes_of past) events
  pub counted : game.count ≡ length (bytes_of past)
  pub within : length (bytes_of past) ≤ limit
  pub makes : Makes setting recovers past items
  pub follows : HasFollowed game.following setting recovers (past_of events) items text

-- Something came, or nothing yet: bytes may be taken.
abbrev pub HasBegun : Game → Type 0
HasBegun game = (setting : Setting) × (recovers : Bool) × (past : List Came) × (text : List ℕ) × StandsFor game setting recovers past text

-- The state at this time is that of what is heard of what came.
pub record IsStateOf (setting : Setting) (recovers : Bool) (past : List Came) (now : ℕ) (state : State) : Type 0 where
  pub heard : List Told
  pub is_heard : IsHeard setting recovers past heard
  pub kind : state.kind ≡ kind_at now heard
  pub since : state.since ≡ since_at now heard
  pub squares : Marks state.squares (names_at now heard)
  pub hint : state.hint ≡ hint_at now heard

-- So is the time until which it stays.
abbrev pub IsDueOf : Setting → Bool → List Came → ℕ → Option ℕ → Type 0
IsDueOf setting recovers past now due = (heard : List Told) × IsHeard setting recovers past heard × (due ≡ due_at now heard)
