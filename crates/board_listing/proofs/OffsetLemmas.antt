-- Each event of a stream has the offset of one of its bytes.
use Rattle.std.proofs.Common.{ℕ, ◌+◌, ◌<◌, ◌≤◌, List, [], ◌∷◌, ◌++◌, length, reverse, sym, ap, subst, length-append, arith}
use Rattle.std.specs.List.{AllByRecursion}
use Rattle.std.proofs.lemmas.List.{reverse-append}
use Rattle.dgt_frame.specs.declared.events.Event.{Event}
use Rattle.dgt_frame.specs.declared.events.Event.TheVariants.{Message, Fault}
use Rattle.dgt_frame.specs.declared.events.FaultKind.TheVariants.{Cut, Stray, Size, Data}
use Rattle.dgt_frame.specs.Streams.{Opens, Shows, ShowsFrom, Timed}
use Rattle.board_events.specs.Limits.{limit}
use Rattle.chess_text.proofs.FenTexts.{All-append}

pub reversed : {X : Type 0} (P : X → Type 0) (xs : List X) → AllByRecursion P xs → AllByRecursion P (reverse xs)
reversed P [] h = tt
reversed P (x ∷ xs) h =
    subst (λ ys. AllByRecursion P ys) (sym (reverse-append (x ∷ []) xs)) (All-append P (reverse xs) (x ∷ []) (reversed P xs h.1) (h.0, tt))

opens_inside : (event : Event) (front more : List ℕ) (index : ℕ) → Opens event front more index → index < length (front ++ more)
opens_inside (Message message) front more index h = let last = h.1 in omega (arith, last, length-append front more)
opens_inside (Fault Stray) front more index h =
    let long = ap length h.1.1 in
    let first = h.2 in
    omega (arith, long, first, length-append front more)
opens_inside (Fault Cut) front more index h =
    let long = ap length h.2 in
    let next = h.6 in
    omega (arith, long, next, length-append front more)
opens_inside (Fault Size) front more index h =
    let long = ap length h.4.1 in
    let at = h.5 in
    omega (arith, long, at, length-append front more, length-append h.0 (h.1 ∷ h.4.0))
opens_inside (Fault Data) front more index h =
    let long = ap length h.4.1 in
    let at = h.5 in
    omega (arith, long, at, length-append front more, length-append h.0 (h.1 ∷ h.4.0))

shows_inside : (start : ℕ) (bytes : List ℕ) (events : List Timed) (rest end : ℕ) → start + length bytes ≤ end → ShowsFrom start bytes events rest
    → AllByRecursion (λ x. x.offset < end) events
shows_inside start bytes [] rest end within h = tt
shows_inside start bytes (first ∷ events) rest end within h =
    let front = h.0 in
    let more = h.1 in
    let long = ap length h.3 in
    let at = h.5 in
    let inside = opens_inside first.event front more h.2 h.4 in (
      omega (arith, within, long, at, inside),
      shows_inside (start + length front) more events rest end (omega (arith, within, long, length-append front more)) h.6,
    )

pub offsets_inside : (bytes : List ℕ) (events : List Timed) (rest : ℕ) → length bytes ≤ limit → Shows bytes events rest → AllByRecursion (λ x. x.offset < limit) events
offsets_inside bytes events rest within shows = shows_inside 0 bytes events rest limit (omega (arith, within)) shows
