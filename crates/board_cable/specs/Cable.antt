-- What a cable stands for, and what it answers.
use Rattle.std.specs.Prelude.{◌≡◌, List}
use Rattle.board_cable.specs.Asking.{StandsFor as AskingStandsFor}
use Rattle.board_cable.specs.declared.cable.Answer.{Answer}
use Rattle.board_cable.specs.declared.cable.Cable.{Cable}
use Rattle.board_cable.specs.Frames.{HasFrames}
use Rattle.board_cable.specs.Keeping.{HasBack}
use Rattle.board_cable.specs.Moments.{Moment, stream}
use Rattle.board_cable.specs.Turns.{Told, Turn, handling_of, request_of, told}

-- This happened, the latest first.
pub record StandsFor (cable : Cable) (past : List Moment) : Type 0 where
  pub turns : List Turn
  pub happened : Told past turns
  pub frames : HasFrames cable.frames (stream past)
  pub asking : AskingStandsFor cable.asking (told turns)
  pub back : HasBack cable.back turns

-- This is the answer at the turn.
pub record Answers (turn : Turn) (answer : Answer) : Type 0 where
  pub request : answer.request ≡ request_of turn
  pub handling : answer.handling ≡ handling_of turn
