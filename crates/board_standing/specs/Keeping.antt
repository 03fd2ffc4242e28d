-- What the machine's parts stand for. A reader needs none of it: the contracts hold for whatever this says.
use Rattle.std.specs.Prelude.{◌≡◌, List, count_ones}
use Rattle.square_runs.specs.Keeping.{StandsFor as RunsStandFor}
use Rattle.square_runs.specs.Shown.{Shown, since_when}
use Rattle.board_standing.specs.declared.heard.Event.{Event}
use Rattle.board_standing.specs.declared.seen.Seen.{Seen}
use Rattle.board_standing.specs.declared.standing.Standing.{Standing}
use Rattle.board_standing.specs.Hints.{is_opened, is_other, lies_turned}
use Rattle.board_standing.specs.Line.{ended_since, has_played, pictures, silent_since, unplugged_since, waits}
use Rattle.board_standing.specs.Pictures.{differs, fewest, is_no_nearer, is_set_up, last_squares, last_time, since_set_up}

-- What is kept of these pictures.
pub record Keeps (kept : Seen) (past : List Shown) : Type 0 where
  pub last : kept.last ≡ last_time past
  pub squares : kept.squares ≡ last_squares past
  pub count : kept.count ≡ count_ones (last_squares past)
  pub runs : RunsStandFor kept.runs (since_set_up past)
  pub differs_since : kept.differs_since ≡ since_when differs past
  pub no_nearer_since : kept.no_nearer_since ≡ since_when is_no_nearer past
  pub fewest_is : kept.fewest ≡ fewest past
  pub set_up : kept.is_set_up ≡ is_set_up past

-- This was heard, the latest first.
pub record StandsFor (standing : Standing) (past : List Event) : Type 0 where
  pub seen : Keeps standing.seen (pictures past)
  pub unplugged : standing.unplugged_since ≡ unplugged_since past
  pub silent : standing.silent_since ≡ silent_since past
  pub ended : standing.ended_since ≡ ended_since past
  pub played : standing.has_played ≡ has_played past
  pub waiting : standing.waits ≡ waits past
  pub opened : standing.is_opened ≡ is_opened past
  pub other : standing.is_other ≡ is_other past
  pub turned : standing.lies_turned ≡ lies_turned past
