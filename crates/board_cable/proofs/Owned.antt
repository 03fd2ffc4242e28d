-- The number of the game's board, as things happen.
use Rattle.std.proofs.Common.{◌≡◌, ◌+◌, ◌&&◌, ◌==◌, ℕ, not, Bool, true, false, List, [], ◌∷◌, ◌++◌, take, Option, Some, None, is_some, refl, sym, ap, subst}
use Rattle.std.specs.Prelude.{if◌then◌else◌}
use Rattle.dgt_frame.specs.declared.events.Event.{Event as Shown}
use Rattle.dgt_frame.specs.declared.events.Event.TheVariants.{Message as MessageEvent, Fault}
use Rattle.dgt_frame.specs.declared.events.Message.TheVariants.{Dump, Update, Time, Other as OtherMessage}
use Rattle.dgt_frame.specs.Streams.{Timed}
use Rattle.board_cable.specs.declared.line.Event.{Event}
use Rattle.board_cable.specs.declared.line.Request.{Request}
use Rattle.board_cable.specs.declared.line.Happening.{Happening}
use Rattle.board_cable.specs.declared.line.Happening.TheVariants.{Numbers, Owns as LineOwns}
use Rattle.board_cable.specs.Asking.{with_request}
use Rattle.board_cable.specs.Serial.{is_serial}
use Rattle.board_cable.specs.Whose.{own_by, own_number, shown_number}
use Rattle.board_cable.specs.declared.happened.What.{What}
use Rattle.board_cable.specs.declared.happened.What.TheVariants.{Takes, Owns}
use Rattle.board_cable.specs.Frames.{last_five, told_of, with_happening, with_shown}
use Rattle.board_cable.specs.Laws.{owns}
use Rattle.board_cable.specs.Moments.{Moment}
use Rattle.board_cable.specs.Turns.{TellsAs, told_by}

-- A request changes no number.
pub own_asked : (at : ℕ) (request : Option Request) (past : List Event) → own_number (with_request at request past) ≡ own_number past
own_asked at None past = refl
own_asked at (Some request) past = refl

-- A number that is known stays known.

owned_by : (what : Happening) (before : Option (List ℕ)) → is_some before ≡ true → is_some (own_by what before) ≡ true
owned_by (LineOwns number) before h = refl
owned_by (Numbers number) None h = refl
owned_by (Numbers number) (Some own) h = refl
owned_by _ before h = h

owned_with : (at : ℕ) (told : Option Happening) (before : List Event) → is_some (own_number before) ≡ true → is_some (own_number (with_happening at told before)) ≡ true
owned_with at None before h = h
owned_with at (Some what) before h = owned_by what (own_number before) h

owned_shown : (at : ℕ) (bytes : List ℕ) (shown : List Timed) (before : List Event) → is_some (own_number before) ≡ true
    → is_some (own_number (with_shown at bytes shown before)) ≡ true
owned_shown at bytes [] before h = h
owned_shown at bytes (one ∷ shown) before h =
    let told = told_of one.event (take (one.offset + 1) bytes) in
    owned_shown at bytes shown (with_happening at told before) (owned_with at told before h)

pub owned_told : (heard : Bool) (m : Moment) (stream : List ℕ) (before now : List Event) → TellsAs heard m stream before now
    → is_some (own_number before) ≡ true → is_some (own_number now) ≡ true
owned_told true m stream before now tells h =
    subst (λ events. is_some (own_number events) ≡ true) (sym tells.6) (owned_shown m.at (stream ++ m.bytes) tells.1 before h)
owned_told false m stream before now tells h =
    subst (λ events. is_some (own_number events) ≡ true) (sym tells) (owned_with m.at (told_by m.what (shown_number before)) before h)

-- It stays the same, unless the arbiter takes another board or its number was known before.

same_number : (at size : ℕ) (found : Bool) (characters own : List ℕ) (before : List Event) → own_number before ≡ Some own
    → own_number (with_happening at (if found then Some (Numbers characters) else None) before) ≡ Some own
same_number at size true characters own before h = ap (own_by (Numbers characters)) h
same_number at size false characters own before h = h

same_of : (at : ℕ) (event : Shown) (bytes own : List ℕ) (before : List Event) → own_number before ≡ Some own
    → own_number (with_happening at (told_of event bytes) before) ≡ Some own
same_of at (Fault kind) bytes own before h = h
same_of at (MessageEvent (Dump picture)) bytes own before h = h
same_of at (MessageEvent (Update field code)) bytes own before h = h
same_of at (MessageEvent (Time times)) bytes own before h = h
same_of at (MessageEvent (OtherMessage id size)) bytes own before h =
    same_number at size ((size == 8) && is_serial id (last_five bytes)) (last_five bytes) own before h

same_shown : (at : ℕ) (bytes : List ℕ) (shown : List Timed) (own : List ℕ) (before : List Event) → own_number before ≡ Some own
    → own_number (with_shown at bytes shown before) ≡ Some own
same_shown at bytes [] own before h = h
same_shown at bytes (one ∷ shown) own before h =
    let some = take (one.offset + 1) bytes in
    same_shown at bytes shown own (with_happening at (told_of one.event some) before) (same_of at one.event some own before h)

same_by : (at : ℕ) (what : What) (shown : Option (List ℕ)) (own : List ℕ) (before : List Event) → not (owns what) ≡ true → own_number before ≡ Some own
    → own_number (with_happening at (told_by what shown) before) ≡ Some own
same_by at Takes shown own before stays h = absurd (let never : false ≡ true = stays in cc)
same_by at (Owns number) shown own before stays h = absurd (let never : false ≡ true = stays in cc)
same_by at _ shown own before stays h = h

pub same_told : (heard : Bool) (m : Moment) (stream own : List ℕ) (before now : List Event) → TellsAs heard m stream before now
    → not (owns m.what) ≡ true → own_number before ≡ Some own → own_number now ≡ Some own
same_told true m stream own before now tells stays h =
    subst (λ events. own_number events ≡ Some own) (sym tells.6) (same_shown m.at (stream ++ m.bytes) tells.1 own before h)
same_told false m stream own before now tells stays h =
    subst (λ events. own_number events ≡ Some own) (sym tells) (same_by m.at m.what (shown_number before) own before stays h)
