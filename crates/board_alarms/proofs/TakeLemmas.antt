-- What stands once an event is taken.
use Rattle.std.proofs.Common.{◌≡◌, ℕ, Bool, true, false, if◌then◌else◌, List, ◌∷◌, Option, Some, None, refl, sym, ap, ◌∙◌, arith}
use Rattle.std.proofs.lemmas.Bool.{le-ltb}
use Rattle.chess_clock.specs.Clock.{Clock}
use Rattle.chess_clock.specs.declared.times.Reading.{Reading}
use Rattle.dgt_frame.specs.declared.events.Event.{Event}
use Rattle.dgt_frame.specs.declared.events.Event.TheVariants.{Message as MessageEvent, Fault}
use Rattle.dgt_frame.specs.declared.events.Message.TheVariants.{Dump, Update, Time, Other}
use Rattle.dgt_frame.specs.declared.First.{First}
use Rattle.settle_core.specs.Entries.{Entry, last_picture}
use Rattle.board_events.specs.Entries.{entry_at, is_entry}
use Rattle.board_events.specs.History.{reading_at}
use Rattle.board_events.specs.Session.{entries_in}
use Rattle.board_events.specs.Settings.{Setting}
use Rattle.board_doubts.specs.declared.heard.Heard.{Heard}
use Rattle.board_alarms.specs.declared.look.Told.{Told}
use Rattle.board_alarms.specs.declared.chunk.Chunk.{Chunk}
use Rattle.board_alarms.specs.Clock.{clock_of, counts_by, counts_of, counts_said, goes_down, later, lever_at, lever_in, lever_said, presses_of, running_in, runs_said, seconds_of}
use Rattle.board_alarms.specs.Hearing.{Again, Another, IsShown, Nothing, Shown, last_shown, with_heard}
use Rattle.board_alarms.specs.Inside.{is_time, with_clock}
use Rattle.board_alarms.specs.Items.{Item, Sent, events_of, is_sent}

entry_if : (given : Bool) (entry : Entry) (past : List Entry) → given ≡ true → last_picture (if given then entry ∷ past else past) ≡ Some entry.picture
entry_if true entry past h = refl
entry_if false entry past h = absurd cc

past_if : (given : Bool) (entry : Entry) (past : List Entry) → given ≡ false → last_picture (if given then entry ∷ past else past) ≡ last_picture past
past_if true entry past h = absurd cc
past_if false entry past h = refl

-- the last picture
pub shown_is : (setting : Setting) (past : List Event) (event : Event) (shown : Shown) (last : Option (List ℕ)) → IsShown setting past event shown
    → last ≡ last_picture (entries_in setting past) → last_shown shown last ≡ last_picture (entries_in setting (event ∷ past))
shown_is setting past event Nothing last is h =
    h ∙ sym (past_if (is_entry event past) (entry_at setting.first setting.rotated (event ∷ past)) (entries_in setting past) is)
shown_is setting past event (Again seen) last is h =
    ap (λ (p : List ℕ). Some p) is.1 ∙ sym (entry_if (is_entry event past) (entry_at setting.first setting.rotated (event ∷ past)) (entries_in setting past) is.0)
shown_is setting past event (Another seen) last is h =
    ap (λ (p : List ℕ). Some p) is.1 ∙ sym (entry_if (is_entry event past) (entry_at setting.first setting.rotated (event ∷ past)) (entries_in setting past) is.0)

-- ---- an event that is no time message

if_none : {A : Type 0} (b : Bool) (x : Option A) → x ≡ None → (if b then x else None) ≡ None
if_none true x h = h
if_none false x h = refl

lever_of_none : (event : Event) → is_time event ≡ false → lever_in event ≡ None
lever_of_none (MessageEvent (Time bytes)) none = absurd cc
lever_of_none (MessageEvent (Dump codes)) none = refl
lever_of_none (MessageEvent (Update field code)) none = refl
lever_of_none (MessageEvent (Other id size)) none = refl
lever_of_none (Fault kind) none = refl

running_of_none : (event : Event) → is_time event ≡ false → running_in event ≡ None
running_of_none (MessageEvent (Time bytes)) none = absurd cc
running_of_none (MessageEvent (Dump codes)) none = refl
running_of_none (MessageEvent (Update field code)) none = refl
running_of_none (MessageEvent (Other id size)) none = refl
running_of_none (Fault kind) none = refl

no_lever : (chunk : Chunk) (event : Event) → is_time event ≡ false → lever_said chunk event ≡ None
no_lever chunk event none = if_none (is_sent chunk) _ (lever_of_none event none)

no_running : (chunk : Chunk) (event : Event) → is_time event ≡ false → runs_said chunk event ≡ None
no_running chunk event none = if_none (is_sent chunk) _ (running_of_none event none)

pub reading_stays : (first : First) (event : Event) (past : List Event) → is_time event ≡ false → reading_at first (event ∷ past) ≡ reading_at first past
reading_stays first (MessageEvent (Time bytes)) past none = absurd cc
reading_stays first (MessageEvent (Dump codes)) past none = refl
reading_stays first (MessageEvent (Update field code)) past none = refl
reading_stays first (MessageEvent (Other id size)) past none = refl
reading_stays first (Fault kind) past none = refl

abbrev told_with : Chunk → ℕ → Option Heard → Option Heard → Option Heard → List Told → List Told
told_with chunk plies counts presses clock told = with_heard chunk.when.at chunk.when.is_added plies clock
    (with_heard chunk.when.at chunk.when.is_added plies presses (with_heard chunk.when.at chunk.when.is_added plies counts told))

same_told : (chunk : Chunk) (plies : ℕ) (counts presses clock : Option Heard) (told : List Told) → counts ≡ None → presses ≡ None → clock ≡ None
    → told_with chunk plies counts presses clock told ≡ told
same_told chunk plies counts presses clock told c p k = ap (λ (x : Option Heard). told_with chunk plies x presses clock told) c
    ∙ ap (λ (x : Option Heard). told_with chunk plies None x clock told) p ∙ ap (λ (x : Option Heard). told_with chunk plies None None x told) k

same_time : (time : Clock) → goes_down time time ≡ false
same_time time = le-ltb (seconds_of time) (seconds_of time) (omega arith)

same_reading : (reading : Option Reading) → counts_of reading reading ≡ None
same_reading None = refl
same_reading (Some reading) =
    ap (λ (b : Bool). counts_by b (goes_down reading.black reading.black)) (same_time reading.white) ∙ ap (λ (b : Bool). counts_by false b) (same_time reading.black)

said_nothing : (chunk : Chunk) (reading : Option Reading) → counts_said chunk reading reading ≡ None
said_nothing chunk reading = if_none (is_sent chunk) _ (same_reading reading)

-- The clock says nothing.
pub nothing_said : (chunk : Chunk) (plies : ℕ) (first : First) (event : Event) (items : List Item) (told : List Told) → is_time event ≡ false
    → with_clock chunk plies first event items told ≡ told
nothing_said chunk plies first event items told none =
    same_told chunk plies _ _ _ told (ap (λ (r : Option Reading). counts_said chunk (reading_at first (events_of items)) r) (reading_stays first event (events_of items) none) ∙ said_nothing chunk (reading_at first (events_of items)))
    (ap (λ (o : Option Bool). presses_of o (lever_at items)) (no_lever chunk event none)) (ap clock_of (no_running chunk event none))

pub lever_stays : (chunk : Chunk) (event : Event) (items : List Item) → is_time event ≡ false → lever_at (Sent chunk event ∷ items) ≡ lever_at items
lever_stays chunk event items none = ap (λ (o : Option Bool). later o (lever_at items)) (no_lever chunk event none)
