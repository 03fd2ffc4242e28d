-- On whose time players think. Events are listed with the latest first.
use Rattle.std.specs.Prelude.{ℕ, ◌&&◌, ◌||◌, not, Bool, false, nat_le, List, [], ◌∷◌, count_by, Option, Some, None, take, if◌then◌else◌}
use Rattle.board_doubts.specs.declared.heard.Event.{Event}
use Rattle.board_doubts.specs.declared.heard.Heard.{Heard}
use Rattle.board_doubts.specs.declared.heard.Heard.TheVariants.{Clock, Plays, Presses, Counts}
use Rattle.board_doubts.specs.Pace.{last_within, pace_of}
use Rattle.board_doubts.specs.Unheard.{is_unheard}
use Rattle.board_doubts.specs.Waiting.{ply_times}

-- whether it is Black's time that runs. That isn't known after a press, until a time goes down
abbrev pub counting_by : Heard → Option Bool → Option Bool
counting_by (Counts black) before = Some black
counting_by Presses before = None
counting_by (Clock runs) before = if runs then before else None
counting_by other before = before

abbrev pub counting : List Event → Option Bool
counting [] = None
counting (event ∷ past) = counting_by event.what (counting past)

-- The clock speaks once a second, and a press may come late. So at a ply that took no longer than this, in milliseconds, it may not yet
-- have told of the press before it.
abbrev pub told_late : ℕ
told_late = 2000

-- On whose time the last ply was thought about isn't known: it was quick, or the board wasn't heard for a time, and its clock has said
-- nothing since.
abbrev pub is_unknown : List Event → Bool
is_unknown past = is_unheard past || last_within told_late (ply_times past)

abbrev pub known_counting : List Event → Option Bool
known_counting past = if is_unknown past then None else counting past

abbrev pub is_other : Bool → Bool → Bool
is_other one other = if one then not other else other

-- of each ply whether it was thought about on the other side's time, as far as that is known and it wasn't added, the latest first
abbrev pub lent_by : Heard → Bool → Option Bool → List Bool → List Bool
lent_by (Plays ply) added (Some black) before = if not added then is_other black ply.black ∷ before else before
lent_by other added counts before = before

abbrev pub lent : List Event → List Bool
lent [] = []
lent (event ∷ past) = lent_by event.what event.is_added (known_counting past) (lent past)

-- Of the last eight plies seven or more were thought about on the other side's time.
abbrev pub are_most_lent : List Bool → Bool
are_most_lent plies = nat_le 7 (count_by (λ one. one) (take pace_of plies))

-- With this ply they are, and before it they weren't.
abbrev pub is_exchanged : Heard → List Event → Bool
is_exchanged what past = are_most_lent (lent_by what false (known_counting past) (lent past)) && not (are_most_lent (lent past))
