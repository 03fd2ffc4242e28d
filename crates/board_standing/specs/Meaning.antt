-- What it means that a state is read. Events are listed with the latest first, times are milliseconds.
use Rattle.std.specs.Prelude.{◌≡◌, ◌⊎◌, ◌<◌, ◌+◌, ◌↔◌, ◌==◌, ◌&&◌, nat_le, nat_lt, ℕ, IsTrue, not, Bool, true, false, List, [], ◌∷◌, Some, count_ones, if◌then◌else◌}
use Rattle.std.specs.Int.{bit_at}
use Rattle.square_runs.specs.Laws.{HoldsThroughout, InOrder}
use Rattle.square_runs.specs.Shown.{Shown, has}
use Rattle.board_standing.specs.declared.heard.Event.{Event}
use Rattle.board_standing.specs.declared.heard.Heard.{Heard}
use Rattle.board_standing.specs.declared.heard.Heard.TheVariants.{Shows, Repeats, Moves, Ends, Reopens, Stops, Answers, Unplugs, Plugs, Begins}
use Rattle.board_standing.specs.declared.state.Kind.TheVariants.{Agrees, Wrong, NoStart, SettingUp, Silent, Unplugged}
use Rattle.board_standing.specs.declared.state.Hint.TheVariants.{TurnedRound}
use Rattle.board_standing.specs.Line.{pictures}
use Rattle.board_standing.specs.Pictures.{is_no_nearer, is_set_up, last_squares, since_set_up}
use Rattle.board_standing.specs.States.{hint_at, kind_at, names_at}

-- One of these was heard, and since the last of them none of those.
abbrev pub stands_by : Bool → Bool → Bool → Bool
stands_by true undone before = true
stands_by false true before = false
stands_by false false before = before

abbrev pub stands : (Heard → Bool) → (Heard → Bool) → List Event → Bool
stands does undoes [] = false
stands does undoes (event ∷ past) = stands_by (does event.what) (undoes event.what) (stands does undoes past)

abbrev pub goes : Heard → Bool
goes Unplugs = true
goes other = false

abbrev pub opens : Heard → Bool
opens Plugs = true
opens other = false

abbrev pub stops : Heard → Bool
stops Stops = true
stops other = false

-- The board answers again, or the line is another one now.
abbrev pub answers : Heard → Bool
answers Answers = true
answers Unplugs = true
answers Plugs = true
answers other = false

abbrev pub begins : Heard → Bool
begins Begins = true
begins other = false

-- The board shows its pieces.
abbrev pub shows : Heard → Bool
shows (Shows picture) = true
shows Repeats = true
shows Moves = true
shows Ends = true
shows Reopens = true
shows other = false

abbrev pub ends : Heard → Bool
ends Ends = true
ends other = false

abbrev pub reopens : Heard → Bool
reopens Reopens = true
reopens other = false

-- The board shows the position of its game; or another one.
abbrev pub shows_position : Heard → Bool
shows_position (Shows picture) = count_ones picture.differs == 0
shows_position Moves = true
shows_position Ends = true
shows_position Reopens = true
shows_position other = false

abbrev pub shows_other : Heard → Bool
shows_other (Shows picture) = not (count_ones picture.differs == 0)
shows_other other = false

-- The line is there, the board answers, it has shown its pieces since the recorder began, and its game has no result.
pub record IsPlayed (past : List Event) : Type 0 where
  pub line : stands goes opens past ≡ false
  pub answers : stands stops answers past ≡ false
  pub shown : stands begins shows past ≡ false
  pub result : stands ends reopens past ≡ false

-- AGREES is read exactly if that is so, and the last picture that the board has shown is the position of its game.
abbrev pub AgreesExactly : Type 0
AgreesExactly = (now : ℕ) (past : List Event) → (kind_at now past ≡ Agrees) ↔ (IsPlayed past × (stands shows_position shows_other past ≡ true))

-- UNPLUGGED exactly if the line went, and wasn't opened since.
abbrev pub UnpluggedExactly : Type 0
UnpluggedExactly = (now : ℕ) (past : List Event) → (kind_at now past ≡ Unplugged) ↔ (stands goes opens past ≡ true)

-- SILENT exactly if the line is there, the board has stopped to answer, and hasn't answered since.
abbrev pub SilentExactly : Type 0
SilentExactly = (now : ℕ) (past : List Event) → (kind_at now past ≡ Silent) ↔ ((stands goes opens past ≡ false) × (stands stops answers past ≡ true))

-- Just these squares are named.
abbrev pub Names : ℕ → List Event → (ℕ → Type 0) → Type 0
Names now past Meets = (s : ℕ) → s < 64 → IsTrue (names_at now past s) ↔ Meets s

-- The square has differed in each picture for ten seconds, since a set-up left few.
abbrev pub HasDiffered : ℕ → List Event → ℕ → Type 0
HasDiffered now past s = HoldsThroughout (has s) 10000 now (since_set_up (pictures past))

-- Where WRONG is read it names exactly the squares that have differed for ten seconds; or there are none, the board has come no nearer
-- to its game for 15 seconds, and all are named on which it differs.
abbrev pub WrongNamesExactly : Type 0
WrongNamesExactly = (now : ℕ) (past : List Event) → InOrder now (pictures past) → kind_at now past ≡ Wrong
    → Names now past (HasDiffered now past)
    ⊎ (((s : ℕ) → s < 64 → HasDiffered now past s → ⊥) × HoldsThroughout is_no_nearer 15000 now (pictures past)
    × Names now past (λ s. IsTrue (bit_at (last_squares (pictures past)) s == 1)))

-- If a square has differed for ten seconds, and the pieces aren't set up, WRONG is read, or that the start is not there.
abbrev pub WrongIsSaid : Type 0
WrongIsSaid = (now s : ℕ) (past : List Event) → InOrder now (pictures past) → IsPlayed past → is_set_up (pictures past) ≡ false → s < 64
    → HasDiffered now past s → (kind_at now past ≡ Wrong) ⊎ (kind_at now past ≡ NoStart)

-- A move is played.
abbrev pub plays : Heard → Bool
plays Moves = true
plays other = false

abbrev pub never : Heard → Bool
never what = false

-- If for 15 seconds the board has come no nearer to its game, WRONG is read, or that the start is not there: the latter exactly if the
-- position of the game was never shown.
abbrev pub OverdueIsSaid : Type 0
OverdueIsSaid = (now : ℕ) (past : List Event) → InOrder now (pictures past) → IsPlayed past → HoldsThroughout is_no_nearer 15000 now (pictures past)
    → kind_at now past ≡ (if stands shows_position never past then Wrong else NoStart)

-- That the start is not there is read in no other case.
abbrev pub NoStartExactly : Type 0
NoStartExactly = (now : ℕ) (past : List Event) → InOrder now (pictures past)
    → (kind_at now past ≡ NoStart) ↔ (IsPlayed past × HoldsThroughout is_no_nearer 15000 now (pictures past) × (stands shows_position never past ≡ false))

-- The picture differs on more than six squares, which no move does.
abbrev pub shows_many : Heard → Bool
shows_many (Shows picture) = nat_lt 6 (count_ones picture.differs)
shows_many other = false

-- A picture was shown within ten seconds; or the last one differs on more than six squares, and no move was played.
abbrev pub GoesOn : ℕ → Bool → List Shown → Type 0
GoesOn now played [] = ⊥
GoesOn now played (picture ∷ before) = (now < picture.time + 10000) ⊎ ((6 < count_ones picture.squares) × (played ≡ false))

-- The pieces are set up: more than six squares have differed since the board agreed last, that goes on, and it comes nearer.
pub record IsSettingUp (now : ℕ) (past : List Event) : Type 0 where
  pub played : IsPlayed past
  pub many : stands shows_many shows_position past ≡ true
  pub goes_on : GoesOn now (stands plays never past) (pictures past)
  pub nearer : HoldsThroughout is_no_nearer 15000 now (pictures past) → ⊥

-- That is read exactly then.
abbrev pub SettingUpExactly : Type 0
SettingUpExactly = (now : ℕ) (past : List Event) → InOrder now (pictures past) → (kind_at now past ≡ SettingUp) ↔ IsSettingUp now past

-- The picture is the start on a board that is turned round, but for four squares; or it isn't right on more squares so.
abbrev pub shows_turned : Heard → Bool
shows_turned (Shows picture) = nat_le (count_ones picture.turned) 4 && nat_le 16 (count_ones picture.differs)
shows_turned other = false

abbrev pub shows_straight : Heard → Bool
shows_straight (Shows picture) = not (nat_lt (count_ones picture.turned) (count_ones picture.differs))
shows_straight Moves = true
shows_straight Ends = true
shows_straight Reopens = true
shows_straight other = false

-- The line is there, the board answers, and it has shown its pieces since the recorder began.
pub record IsSeen (past : List Event) : Type 0 where
  pub line : stands goes opens past ≡ false
  pub answers : stands stops answers past ≡ false
  pub shown : stands begins shows past ≡ false

-- It is hinted that the board is turned round exactly if it was so since its pieces were set up, and no move was played.
abbrev pub TurnedRoundExactly : Type 0
TurnedRoundExactly = (now : ℕ) (past : List Event) → (hint_at now past ≡ Some TurnedRound)
    ↔ (IsSeen past × (stands shows_turned shows_straight past ≡ true) × (stands plays never past ≡ false))
