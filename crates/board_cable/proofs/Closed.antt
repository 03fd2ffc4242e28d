-- A call that hasn't opened the line asks nothing.
use Rattle.std.proofs.Common.{◌≡◌, ◌+◌, ◌&&◌, ◌==◌, ℕ, not, Bool, true, false, List, [], ◌∷◌, ◌++◌, take, Option, Some, None, refl, sym, ap, subst}
use Rattle.std.specs.Prelude.{if◌then◌else◌}
use Rattle.std.specs.List.{list_all}
use Rattle.std.proofs.lemmas.Bool.{and_parts}
use Rattle.dgt_frame.specs.declared.events.Event.{Event as Shown}
use Rattle.dgt_frame.specs.declared.events.Event.TheVariants.{Message as MessageEvent, Fault}
use Rattle.dgt_frame.specs.declared.events.Message.TheVariants.{Dump, Update, Time, Other as OtherMessage}
use Rattle.dgt_frame.specs.Streams.{Timed}
use Rattle.board_cable.specs.declared.line.Event.{Event}
use Rattle.board_cable.specs.declared.line.Request.{Request}
use Rattle.board_cable.specs.declared.line.Happening.TheVariants.{Numbers}
use Rattle.board_cable.specs.Asking.{next_request, with_request}
use Rattle.board_cable.specs.Line.{is_open}
use Rattle.board_cable.specs.Pace.{may_ask, would_help}
use Rattle.board_cable.specs.Serial.{is_serial}
use Rattle.board_cable.specs.Whose.{shown_number}
use Rattle.board_cable.specs.declared.happened.What.{What}
use Rattle.board_cable.specs.declared.happened.What.TheVariants.{Begins, Opens, Takes, Closes, HangsUp}
use Rattle.board_cable.specs.Frames.{last_five, told_of, with_happening, with_shown}
use Rattle.board_cable.specs.Laws.{HistoryAsksNothing, opens}
use Rattle.board_cable.specs.Moments.{Moment, is_heard, stream}
use Rattle.board_cable.specs.Turns.{TellsAs, Told, Turn, request_of, told, told_by}

closed_asked : (at : ℕ) (request : Option Request) (past : List Event) → is_open past ≡ false → is_open (with_request at request past) ≡ false
closed_asked at None past h = h
closed_asked at (Some request) past h = h

closed_number : (at : ℕ) (found : Bool) (characters : List ℕ) (before : List Event) → is_open before ≡ false
    → is_open (with_happening at (if found then Some (Numbers characters) else None) before) ≡ false
closed_number at true characters before h = h
closed_number at false characters before h = h

closed_of : (at : ℕ) (event : Shown) (bytes : List ℕ) (before : List Event) → is_open before ≡ false → is_open (with_happening at (told_of event bytes) before) ≡ false
closed_of at (Fault kind) bytes before h = h
closed_of at (MessageEvent (Dump picture)) bytes before h = h
closed_of at (MessageEvent (Update field code)) bytes before h = h
closed_of at (MessageEvent (Time times)) bytes before h = h
closed_of at (MessageEvent (OtherMessage id size)) bytes before h =
    closed_number at ((size == 8) && is_serial id (last_five bytes)) (last_five bytes) before h

closed_shown : (at : ℕ) (bytes : List ℕ) (shown : List Timed) (before : List Event) → is_open before ≡ false → is_open (with_shown at bytes shown before) ≡ false
closed_shown at bytes [] before h = h
closed_shown at bytes (one ∷ shown) before h =
    let some = take (one.offset + 1) bytes in
    closed_shown at bytes shown (with_happening at (told_of one.event some) before) (closed_of at one.event some before h)

closed_by : (at : ℕ) (what : What) (shown : Option (List ℕ)) (before : List Event) → not (opens what) ≡ true → is_open before ≡ false
    → is_open (with_happening at (told_by what shown) before) ≡ false
closed_by at Opens shown before stays h = absurd (let never : false ≡ true = stays in cc)
closed_by at Begins shown before stays h = refl
closed_by at Closes shown before stays h = refl
closed_by at HangsUp shown before stays h = refl
closed_by at Takes None before stays h = h
closed_by at Takes (Some number) before stays h = h
closed_by at _ shown before stays h = h

closed_told : (heard : Bool) (m : Moment) (stream : List ℕ) (before now : List Event) → TellsAs heard m stream before now
    → not (opens m.what) ≡ true → is_open before ≡ false → is_open now ≡ false
closed_told true m stream before now tells stays h =
    subst (λ events. is_open events ≡ false) (sym tells.6) (closed_shown m.at (stream ++ m.bytes) tells.1 before h)
closed_told false m stream before now tells stays h =
    subst (λ events. is_open events ≡ false) (sym tells) (closed_by m.at m.what (shown_number before) before stays h)

-- A call that begins finds the line closed.
begun : (what : What) (m : Moment) (stream : List ℕ) (before now : List Event) → what ≡ Begins → TellsAs (is_heard what) (record { at = m.at; what = what; bytes = m.bytes }) stream before now
    → is_open now ≡ false
begun what m stream before now is tells =
    let T : What → Type 0 = λ w. TellsAs (is_heard w) (record { at = m.at; what = w; bytes = m.bytes }) stream before now in
    let h : T Begins = subst T is tells in
    ap is_open h

some_told : (call past : List Moment) (begins : Moment) → Told (call ++ begins ∷ past) [] → ⊥
some_told [] past begins h = h
some_told (m ∷ call) past begins h = h

closed : (call past : List Moment) (begins : Moment) (turn : Turn) (turns : List Turn) → begins.what ≡ Begins
    → list_all (λ one. not (opens one.what)) call ≡ true → Told (call ++ begins ∷ past) (turn ∷ turns) → is_open turn.now ≡ false
closed [] past begins turn turns is stays h = begun begins.what begins (stream past) (told turns) turn.now is h.2
closed (m ∷ call) past begins turn [] is stays h = absurd (some_told call past begins h.0)
closed (m ∷ call) past begins turn (last ∷ turns) is stays h =
    let both = and_parts (not (opens m.what)) (list_all (λ one. not (opens one.what)) call) stays in
    let before : is_open last.now ≡ false = closed call past begins last turns is both.1 h.0 in
    closed_told (is_heard m.what) m (stream (call ++ begins ∷ past)) (told (last ∷ turns)) turn.now h.2 both.0
    (closed_asked last.moment.at (request_of last) last.now before)

pub asks_nothing : HistoryAsksNothing
asks_nothing call past begins turn turns is stays h =
    let at = turn.moment.at in
    ap (λ b. if b && (may_ask at turn.now && would_help at turn.now) then Some (next_request turn.now) else None)
    (closed call past begins turn turns is stays h)
