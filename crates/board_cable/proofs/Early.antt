-- Who wakes before the time that was named changes nothing.
use Rattle.std.proofs.Common.{◌≡◌, ◌+◌, ◌&&◌, ℕ, nat_lt, not, Bool, true, false, List, [], ◌∷◌, ◌++◌, Option, Some, None, refl, sym, ap, ap₂, subst, ◌∙◌, arith}
use Rattle.std.specs.Prelude.{if◌then◌else◌}
use Rattle.std.proofs.lemmas.Bool.{lt-leb}
use Rattle.board_cable.specs.declared.line.Event.{Event}
use Rattle.board_cable.specs.declared.line.Request.{Request}
use Rattle.board_cable.specs.declared.line.Request.TheVariants.{Dump, Numbered, Start}
use Rattle.board_cable.specs.declared.line.Happening.TheVariants.{Asks}
use Rattle.board_cable.specs.declared.whose.Handling.{Handling}
use Rattle.board_cable.specs.declared.whose.Handling.TheVariants.{Hold, Keep, Other}
use Rattle.board_cable.specs.Asking.{next_request, request_at, with_request}
use Rattle.board_cable.specs.Line.{is_open}
use Rattle.board_cable.specs.Pace.{asks, would_help}
use Rattle.board_cable.specs.Whose.{awaited_at, awaited_by, dumps_by, dumps_since, handling_at, handling_by, is_awaited, own_number, shown_number}
use Rattle.board_cable.specs.declared.happened.What.{What}
use Rattle.board_cable.specs.declared.happened.What.TheVariants.{Wakes}
use Rattle.board_cable.specs.Keeping.{are_same, aside, aside_by, ends_aside, ends_held, held, held_by, kept, kept_by, owner, released_by}
use Rattle.board_cable.specs.Laws.{EarlyWakesChangeNothing}
use Rattle.board_cable.specs.Moments.{Moment, is_heard, sent, stream}
use Rattle.board_cable.specs.Turns.{Tells, TellsAs, Turn, handling_of, request_of, told}

-- Right after it was asked the board isn't asked again.

shut : (a c : Bool) → (a && (false && c)) ≡ false
shut true c = refl
shut false c = refl

asked_once : (at : ℕ) (request : Request) (past : List Event) → asks at (record { at = at; what = Asks request } ∷ past) ≡ false
asked_once at request past =
    let now : List Event = record { at = at; what = Asks request } ∷ past in
    ap (λ b. is_open now && (b && would_help at now)) (lt-leb (at + 1000) at (omega arith)) ∙ shut (is_open now) (would_help at now)

asked_if : (b : Bool) (at : ℕ) (past : List Event) → asks at past ≡ b
    → asks at (with_request at (if b then Some (next_request past) else None) past) ≡ false
asked_if true at past e = asked_once at (next_request past) past
asked_if false at past e = e

asked_out : (at : ℕ) (past : List Event) → asks at (with_request at (request_at at past) past) ≡ false
asked_out at past = asked_if (asks at past) at past refl

-- If bytes are kept after a request, they were kept before it.

awaits : (at : ℕ) → is_awaited at (Some at) 0 ≡ true
awaits at = ap (λ b. not b && nat_lt 0 3) (lt-leb (at + 5000) at (omega arith))

kept_if : (own shown : Option (List ℕ)) → handling_by true own shown ≡ Keep → handling_by false own shown ≡ Keep
kept_if None shown h = refl
kept_if (Some own) shown h = absurd (let never : Hold ≡ Keep = h in cc)

kept_start : (at dumps : ℕ) (awaited : Option ℕ) (own shown : Option (List ℕ))
    → handling_by (is_awaited at (awaited_by (Asks Start) at awaited) (dumps_by (Asks Start) awaited dumps)) own shown ≡ Keep
    → handling_by (is_awaited at awaited dumps) own shown ≡ Keep
kept_start at dumps None own shown h = kept_if own shown (ap (λ b. handling_by b own shown) (sym (awaits at)) ∙ h)
kept_start at dumps (Some since) own shown h = h

kept_before : (at : ℕ) (request : Option Request) (past : List Event) → handling_at at (with_request at request past) ≡ Keep → handling_at at past ≡ Keep
kept_before at None past h = h
kept_before at (Some Dump) past h = h
kept_before at (Some Numbered) past h = h
kept_before at (Some Start) past h = kept_start at (dumps_since past) (awaited_at past) (own_number past) (shown_number past) h

-- So nothing was kept back that could be the game's now.

given : (b : Bool) (xs : List ℕ) → xs ≡ [] → (if b then xs else []) ≡ []
given true xs e = e
given false xs e = refl

nothing : (handling : Handling) (own before : Option (List ℕ)) (a h : List ℕ) → (handling ≡ Keep → (a ≡ []) × (h ≡ []))
    → kept_by handling (released_by handling own before a h) [] ≡ []
nothing Keep own before a h empty =
    ap₂ (λ x y. (x ++ y) ++ []) (given (are_same before own) a (empty refl).0) (empty refl).1
nothing Hold own before a h empty = refl
nothing (Other number) own before a h empty = refl

wakes_alone : (m : Moment) (stream : List ℕ) (before now : List Event) → m.what ≡ Wakes → Tells m stream before now → now ≡ before
wakes_alone m stream before now is tells =
    let T : What → Type 0 = λ w. TellsAs (is_heard w) (record { at = m.at; what = w; bytes = m.bytes }) stream before now in
    let h : T Wakes = subst T is tells in
    h

kept_none : (wake turn : Turn) (turns : List Turn) → wake.moment.what ≡ Wakes → (handling_of wake ≡ Keep → handling_of turn ≡ Keep)
    → kept (wake ∷ turn ∷ turns) ≡ []
kept_none wake turn turns is stays =
    let a = aside (turn ∷ turns) in
    let h = held (turn ∷ turns) in
    let come = (if ends_held turn.moment.what then [] else held turns) ++ sent turn.moment in
    let handling = handling_of wake in
    let own = own_number wake.now in
    let before = owner (turn ∷ turns) in
    let K : What → List ℕ = λ w. kept_by handling (released_by handling own before (if ends_aside w then [] else a) (if ends_held w then [] else h))
    (if is_heard w then wake.moment.bytes else []) in
    let empty : handling ≡ Keep → (a ≡ []) × (h ≡ []) = λ keep. (
      ap (λ one. aside_by one (owner turns) (if ends_aside turn.moment.what then [] else aside turns) come) (stays keep),
      ap (λ one. held_by one come) (stays keep),
    ) in
    ap K is ∙ nothing handling own before a h empty

pub changes_nothing : EarlyWakesChangeNothing
changes_nothing [] wake turn turns due h is fits later early alike handled = absurd h
changes_nothing (m ∷ past) wake turn turns due h is fits later early alike handled =
    let all = told (turn ∷ turns) in
    let at = turn.moment.at in
    let what : m.what ≡ Wakes = ap (λ (one : Moment). one.what) (sym h.1) ∙ is in
    let same : wake.now ≡ all = wakes_alone m (stream past) all wake.now what h.2 in
    let quiet : asks wake.moment.at wake.now ≡ false =
    ap (asks wake.moment.at) same ∙ alike wake.moment.at fits later early ∙ asked_out at turn.now in
    let keeps : handling_of wake ≡ Keep → handling_of turn ≡ Keep = λ keep.
    kept_before at (request_of turn) turn.now (sym (handled wake.moment.at fits later early) ∙ ap (handling_at wake.moment.at) (sym same) ∙ keep) in (
      ap (λ b. if b then Some (next_request wake.now) else None) quiet,
      kept_none wake turn turns is keeps,
    )
