-- When a board is asked, by what has happened and still counts.
use Rattle.std.proofs.Common.{◌≡◌, ◌≢◌, ◌+◌, ◌≤◌, ◌&&◌, ◌||◌, ℕ, Bool, true, false, List, [], ◌∷◌, Option, Some, None, refl, sym, ap, subst, ◌∙◌, arith}
use Rattle.std.specs.Prelude.{◌↔◌, if◌then◌else◌}
use Rattle.std.proofs.lemmas.Bool.{and_from, and_parts, le-leb, leb-true, or_left, true≢false}
use Rattle.std.proofs.lemmas.Option.{none-some, same_Some}
use Rattle.board_cable.specs.declared.line.Event.{Event}
use Rattle.board_cable.specs.declared.line.Request.{Request}
use Rattle.board_cable.specs.declared.line.Request.TheVariants.{Dump, Numbered, Start}
use Rattle.board_cable.specs.declared.line.Happening.{Happening}
use Rattle.board_cable.specs.declared.line.Happening.TheVariants.{Begins, Opens, Closes, HangsUp, Faults, Dumps, Interrupts, Asks}
use Rattle.board_cable.specs.Asking.{next_request, request_at}
use Rattle.board_cable.specs.Lasting.{has_lasted, is_past}
use Rattle.board_cable.specs.Line.{asked_at, asked_by, dumped_at, is_open, is_unanswered, is_wanted, open_by, unanswered_by, unfinished_at, updated_at, wanted_by}
use Rattle.board_cable.specs.Pace.{asks as asks_now, may_ask, would_help}
use Rattle.board_cable.specs.Requests.{FaultsAreAsked, MayAsk, OneIsUnanswered, RequestsAreApart, ShutLinesAreLeft}
use Rattle.board_cable.specs.Starting.{is_start}
use Rattle.board_cable.specs.Still.{answers, asks, last_by, last_of, opens, restarts, serves, shuts, stands, stands_by, wants}
use Rattle.board_cable.specs.Whose.{is_number_asked}

-- What is kept of the line is what stands.
open_as : (what : Happening) (b : Bool) → open_by what b ≡ stands_by (opens what) (shuts what) b
open_as Opens b = refl
open_as Begins b = refl
open_as Closes b = refl
open_as HangsUp b = refl
open_as _ b = refl

open_is : (past : List Event) → is_open past ≡ stands opens shuts past
open_is [] = refl
open_is (event ∷ past) = open_as event.what (is_open past) ∙ ap (stands_by (opens event.what) (shuts event.what)) (open_is past)

wanted_as : (what : Happening) (b : Bool) → wanted_by what b ≡ stands_by (wants what) (serves what) b
wanted_as Opens b = refl
wanted_as Faults b = refl
wanted_as Interrupts b = refl
wanted_as Begins b = refl
wanted_as (Dumps picture) b = refl
wanted_as _ b = refl

wanted_is : (past : List Event) → is_wanted past ≡ stands wants serves past
wanted_is [] = refl
wanted_is (event ∷ past) = wanted_as event.what (is_wanted past) ∙ ap (stands_by (wants event.what) (serves event.what)) (wanted_is past)

unanswered_as : (what : Happening) (b : Bool) → unanswered_by what b ≡ stands_by (asks what) (answers what) b
unanswered_as (Asks request) b = refl
unanswered_as Begins b = refl
unanswered_as Opens b = refl
unanswered_as (Dumps picture) b = refl
unanswered_as Interrupts b = refl
unanswered_as _ b = refl

pub unanswered_is : (past : List Event) → is_unanswered past ≡ stands asks answers past
unanswered_is [] = refl
unanswered_is (event ∷ past) = unanswered_as event.what (is_unanswered past) ∙ ap (stands_by (asks event.what) (answers event.what)) (unanswered_is past)

asked_as : (what : Happening) (at : ℕ) (before : Option ℕ) → asked_by what at before ≡ last_by (asks what) (restarts what) at before
asked_as (Asks request) at before = refl
asked_as Begins at before = refl
asked_as Opens at before = refl
asked_as _ at before = refl

asked_is : (past : List Event) → asked_at past ≡ last_of asks restarts past
asked_is [] = refl
asked_is (event ∷ past) = asked_as event.what event.at (asked_at past) ∙ ap (last_by (asks event.what) (restarts event.what) event.at) (asked_is past)

-- The times between requests.
abbrev May : ℕ → Bool → Option ℕ → Type 0
May now unanswered asked = (last : ℕ) → asked ≡ Some last → (last + 200 ≤ now) × (unanswered ≡ true → last + 1000 ≤ now)

apart : (now : ℕ) (unanswered : Bool) (asked : Option ℕ) → (is_past (if unanswered then 1000 else 200) now asked ≡ true) ↔ May now unanswered asked
apart now u None = (λ h last is. absurd (none-some last is), λ h. refl)
apart now true (Some a) = (
  λ h last is. let e : a ≡ last = same_Some a last is in let late = leb-true (a + 1000) now h in (omega arith, λ u. omega arith),
  λ h. le-leb (a + 1000) now ((h a refl).1 refl),
)
apart now false (Some a) = (
  λ h last is. let e : a ≡ last = same_Some a last is in let late = leb-true (a + 200) now h in (omega arith, λ u. absurd (true≢false (sym u))),
  λ h. le-leb (a + 200) now (h a refl).0,
)

may_is : (now : ℕ) (past : List Event) → (may_ask now past ≡ true) ↔ MayAsk now past
may_is now past =
    let P : Bool → Option ℕ → Type 0 = λ u a. (may_ask now past ≡ true) ↔ May now u a in
    subst (λ a. P (stands asks answers past) a) (asked_is past) (subst (λ u. P u (asked_at past)) (unanswered_is past) (apart now (is_unanswered past) (asked_at past)))

-- A board is asked if its line is open, it may be asked, and that would help.
sent_if : (b : Bool) (request : Request) → (if b then Some request else None) ≢ None → b ≡ true
sent_if true request h = refl
sent_if false request h = absurd (h refl)

sent_then : (b : Bool) (request : Request) → b ≡ true → (if b then Some request else None) ≡ Some request
sent_then true request h = refl
sent_then false request h = absurd (true≢false (sym h))

some_sent : (o : Option Request) (request : Request) → o ≡ Some request → o ≢ None
some_sent o request is none = none-some request (sym none ∙ is)

may_if_asked : (now : ℕ) (past : List Event) → request_at now past ≢ None → may_ask now past ≡ true
may_if_asked now past h =
    let both = and_parts (is_open past) (may_ask now past && would_help now past) (sent_if (asks_now now past) (next_request past) h) in
    (and_parts (may_ask now past) (would_help now past) both.1).0

pub requests_are_apart : RequestsAreApart
requests_are_apart now past h = (may_is now past).0 (may_if_asked now past h)

pub one_is_unanswered : OneIsUnanswered
one_is_unanswered past h =
    ap (λ b. if b || is_start past then Start else (if is_number_asked past then Numbered else Dump)) (unanswered_is past ∙ h)

pub faults_are_asked : FaultsAreAsked
faults_are_asked now past opened wanted = (
  λ sent. (may_is now past).0 (may_if_asked now past (some_sent (request_at now past) (next_request past) sent)),
  λ may. sent_then (asks_now now past) (next_request past) (and_from (is_open past) (may_ask now past && would_help now past) (open_is past ∙ opened)
      (and_from (may_ask now past) (would_help now past) ((may_is now past).1 may) (or_left (is_wanted past)
      (has_lasted 200 now (unfinished_at past) || ((has_lasted 1000 now (dumped_at past) && is_past 500 now (updated_at past)) || has_lasted 4000 now (dumped_at past)))
      (wanted_is past ∙ wanted)))),
)

pub shut_lines_are_left : ShutLinesAreLeft
shut_lines_are_left now past shut =
    ap (λ b. if b && (may_ask now past && would_help now past) then Some (next_request past) else None) (open_is past ∙ shut)
