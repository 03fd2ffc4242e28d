-- What a recorder says that begins again. Lists have the latest first, but the bytes.
use Rattle.std.specs.Prelude.{◌≡◌, ◌⊎◌, ◌<◌, ◌≤◌, ◌^◌, ℕ, Bool, false, List, [], ◌∷◌, ◌++◌, Option, drop, ⊤}
use Rattle.chess_rules.specs.Valid.{Valid}
use Rattle.board_cable.specs.Lasting.{IsBefore}
use Rattle.board_cable.specs.Whose.{own_number}
use Rattle.board_cable.specs.declared.happened.What.TheVariants.{Begins, Interrupts, Wakes}
use Rattle.board_cable.specs.Keeping.{kept}
use Rattle.board_cable.specs.Turns.{Told, Turn, told}
use Rattle.board_events.specs.Settings.{Setting}
use Rattle.board_game.specs.Alarming.{AlarmsAre}
use Rattle.board_alarms.specs.declared.look.Look.{Look}
use Rattle.board_live.specs.declared.happened.What.TheVariants.{Cable}
use Rattle.board_live.specs.declared.live.Answer.{Answer}
use Rattle.board_live.specs.Coming.{came}
use Rattle.board_live.specs.Due.{IsDue}
use Rattle.board_live.specs.Ending.{last_at}
use Rattle.board_live.specs.Laws.{as_kept, with_kept, with_number, with_told}
use Rattle.board_live.specs.Live.{Answers}
use Rattle.board_live.specs.Moments.{Moment, already, at_cable, cabled, is_added, news_of}

-- This is said at the last of these moments: the answer, and with it those of the open alarms that are to be said.
abbrev pub IsAnswered : Setting → Bool → List Moment → List Turn → Answer → List Look → Type 0
IsAnswered setting recovers (moment ∷ past) (turn ∷ turns) answer looks = Answers setting recovers moment past turn turns answer
    × ((all : List Look) × AlarmsAre setting recovers (came (moment ∷ past) (turn ∷ turns)) all × (looks ≡ drop answer.unsaid all))
IsAnswered setting recovers moments turns answer looks = ⊥

-- This time is named at the last of these moments: then the recorder is to be woken, if nothing happens before.
abbrev pub WakesAt : Setting → Bool → List Moment → List Turn → Option ℕ → Type 0
WakesAt setting recovers past turns due = IsDue setting recovers (came past turns) (told turns) (last_at past) due

-- The same is said at the last moment of both: the same answer, with the same alarms, and the same time is named.
abbrev pub SayTheSame : Setting → Bool → List Moment → List Turn → List Moment → List Turn → Type 0
SayTheSame setting recovers past turns second others =
    ((answer other : Answer) (looks alarms : List Look) → IsAnswered setting recovers past turns answer looks → IsAnswered setting recovers second others other alarms
    → (answer ≡ other) × (looks ≡ alarms))
    × ((due time : Option ℕ) → WakesAt setting recovers past turns due → WakesAt setting recovers second others time → due ≡ time)

-- From when it begins, a recorder that was told what was kept says what one says that has lived through it.
abbrev pub RestartsSayTheSame : Type 0
RestartsSayTheSame = (setting : Setting) (recovers : Bool) (call past : List Moment) (begins : Moment) (before turns others : List Turn)
    → Valid setting.start → begins.what ≡ Cable Begins → Told (cabled past) before
    → let kept : List Moment = with_number begins.at (own_number (told before)) (as_kept past before) in
    Told (cabled (call ++ begins ∷ past)) turns → Told (cabled (call ++ begins ∷ kept)) others
    → SayTheSame setting recovers (call ++ begins ∷ past) turns (call ++ begins ∷ kept) others

-- When it begins, it says all alarms that were open before: those that were raised, and that nobody has answered.
abbrev pub SaysOpenAlarms : Type 0
SaysOpenAlarms = (setting : Setting) (recovers : Bool) (past : List Moment) (begins : Moment) (turn : Turn) (turns : List Turn) (answer : Answer)
    (looks before : List Look) → Valid setting.start → begins.what ≡ Cable Begins → Told (cabled (begins ∷ past)) (turn ∷ turns)
    → IsAnswered setting recovers (begins ∷ past) (turn ∷ turns) answer looks → AlarmsAre setting recovers (came past turns) before → looks ≡ before

-- What a host's two files have of what happened: all that was kept, but the board's silence.
abbrev pub as_filed : List Moment → List Turn → List Moment
as_filed [] turns = []
as_filed (moment ∷ past) [] = []
as_filed (moment ∷ past) (turn ∷ turns) = with_kept moment.at false (kept (turn ∷ turns)) (with_kept moment.at (is_added moment.what) (already moment.what moment.bytes)
    (with_told moment.at (news_of moment.what) (as_filed past turns)))

-- A recorder that is told what the files have, and the number, says the same too.
abbrev pub FilesSayTheSame : Type 0
FilesSayTheSame = (setting : Setting) (recovers : Bool) (call past : List Moment) (begins : Moment) (before turns others : List Turn)
    → Valid setting.start → begins.what ≡ Cable Begins → Told (cabled past) before
    → let filed : List Moment = with_number begins.at (own_number (told before)) (as_filed past before) in
    Told (cabled (call ++ begins ∷ past)) turns → Told (cabled (call ++ begins ∷ filed)) others
    → SayTheSame setting recovers (call ++ begins ∷ past) turns (call ++ begins ∷ filed) others

-- Nothing is told of the line; at most, bytes were added by hand or came over another cable, which may have cut a frame.
abbrev pub IsOffLine : Moment → Type 0
IsOffLine moment = (at_cable moment.what ≡ Wakes) ⊎ (at_cable moment.what ≡ Interrupts)

abbrev pub AreOffLine : List Moment → Type 0
AreOffLine [] = ⊤
AreOffLine (moment ∷ past) = AreOffLine past × IsOffLine moment

-- The number may be told at this time: when something happened last, or later, if one that has lived through it all isn't to be woken by
-- then.
abbrev pub MayBeTold : Setting → Bool → List Moment → ℕ → Type 0
MayBeTold setting recovers lived at = (at ≡ last_at lived) ⊎ ((last_at lived ≤ at) × (at < 2 ^ 64) × (turns : List Turn) × (due : Option ℕ)
    × Told (cabled lived) turns × WakesAt setting recovers lived turns due × IsBefore at due)

-- It may also be told once the call has begun, before anything is told of the line: from then on the same is said.
abbrev pub NumberMayFollow : Type 0
NumberMayFollow = (setting : Setting) (recovers : Bool) (last : Moment) (call first past : List Moment) (begins : Moment) (at : ℕ) (before turns others : List Turn)
    → Valid setting.start → begins.what ≡ Cable Begins → AreOffLine first → Told (cabled past) before
    → let lived : List Moment = first ++ begins ∷ past in
    let begun : List Moment = first ++ begins ∷ as_filed past before in
    let filed : List Moment = with_number at (own_number (told before)) begun in
    MayBeTold setting recovers lived at → Told (cabled (last ∷ (call ++ lived))) turns → Told (cabled (last ∷ (call ++ filed))) others
    → SayTheSame setting recovers (last ∷ (call ++ lived)) turns (last ∷ (call ++ filed)) others
