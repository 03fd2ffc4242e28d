-- Streams one behind the other.
use Rattle.std.proofs.Common.{◌≡◌, ℕ, ◌+◌, ◌≤◌, List, [], ◌∷◌, ◌++◌, map, length, refl, sym, ◌∙◌, ap, subst, append_assoc, append-nil, length-append, arith, inl}
use Rattle.std.specs.Prelude.{⊤}
use mathlib.Core.List.{reverse_aux}
use Rattle.dgt_frame.specs.declared.events.Message.{Message}
use Rattle.dgt_frame.specs.declared.events.Message.TheVariants.{Dump, Update, Time, Other}
use Rattle.dgt_frame.specs.declared.events.Event.{Event}
use Rattle.dgt_frame.specs.declared.events.Event.TheVariants.{Message as MessageEvent, Fault}
use Rattle.dgt_frame.specs.declared.events.FaultKind.TheVariants.{Cut, Stray, Size, Data}
use Rattle.dgt_frame.specs.Frames.{Frame}
use Rattle.dgt_frame.specs.Restarts.{RestartsAreShown, moved_on}
use Rattle.dgt_frame.specs.Streams.{Opens, Shows, ShowsFrom, Skips, Timed}
use Rattle.dgt_frame.proofs.RestartLemmas.{moved}
use Rattle.dgt_frame.proofs.OnceLemmas.{frame_some}
use Rattle.pair_frames.specs.Laws.{EndsWhole, FramesArePutIn, StreamsAreJoined}
use Rattle.pair_frames.specs.PutIn.{ShowsWhole}

-- the last event, where events stand in their order
abbrev Last : List Timed → Type 0
Last [] = ⊤
Last (one ∷ []) = EndsWhole (one.event ∷ [])
Last (one ∷ (two ∷ events)) = Last (two ∷ events)

skips_more : (part : List ℕ) (b : ℕ) (front : List ℕ) (x : ℕ) (more back : List ℕ) → Skips part b front (x ∷ more) → Skips part b front (x ∷ (more ++ back))
skips_more part b front x more back h = (h.0, h.1, h.2, h.3, h.4)

-- an event that has a byte behind it is shown as before where more follow
opens_more : (event : Event) (front : List ℕ) (x : ℕ) (more back : List ℕ) (index : ℕ) → Opens event front (x ∷ more) index → Opens event front (x ∷ (more ++ back)) index
opens_more (MessageEvent m) front x more back index h = h
opens_more (Fault Stray) front x more back index h = (h.0, skips_more [] h.0 front x more back h.1, h.2)
opens_more (Fault Cut) front x more back index h = (h.0, h.1 ++ back, ap (λ xs. xs ++ back) h.2, h.3, h.4, h.5, h.6)
opens_more (Fault Size) front x more back index h = (h.0, h.1, h.2, h.3, skips_more h.0 h.1 front x more back h.4, h.5, h.6)
opens_more (Fault Data) front x more back index h = (h.0, h.1, h.2, h.3, skips_more h.0 h.1 front x more back h.4, h.5, h.6)

never_empty : {A : Type 0} (xs : List A) (x : A) (ys : List A) → [] ≡ xs ++ (x ∷ ys) → ⊥
never_empty [] x ys h = let never : ⊥ = cc in never
never_empty (y ∷ xs) x ys h = let never : ⊥ = cc in never

-- and they open nothing
no_event : (event : Event) (more : List ℕ) (index : ℕ) → Opens event [] more index → ⊥
no_event (MessageEvent m) more index h = frame_some m h.0
no_event (Fault Stray) more index h = never_empty [] h.0 h.1.0 h.1.1
no_event (Fault Cut) more index h = h.4.3 refl
no_event (Fault Size) more index h = never_empty h.0 h.1 h.4.0 h.4.1
no_event (Fault Data) more index h = never_empty h.0 h.1 h.4.0 h.4.1

empty_front : (front more : List ℕ) → [] ≡ front ++ more → front ≡ []
empty_front [] more h = refl
empty_front (x ∷ front) more h = absurd (let never : ⊥ = cc in never)

none_shown : (start : ℕ) (one : Timed) (events : List Timed) (rest : ℕ) → ShowsFrom start [] (one ∷ events) rest → ⊥
none_shown start one events rest h =
    let E : List ℕ → Type 0 = λ front. Opens one.event front h.1 h.2 in
    no_event one.event h.1 h.2 (subst E (empty_front h.0 h.1 h.3) h.4)

-- what opens the first stream, where more follow; at its end it is a message
opens_on : (event : Event) (front more back : List ℕ) (index start : ℕ) (events : List Timed) → Last (record { offset = start; event = event } ∷ events)
    → ShowsFrom start more events 0 → Opens event front more index → Opens event front (more ++ back) index
opens_on event front (x ∷ more) back index start events last shows h = opens_more event front x more back index h
opens_on event front [] back index start (one ∷ events) last shows h = absurd (none_shown start one events 0 shows)
opens_on (MessageEvent m) front [] back index start [] last shows h = h
opens_on (Fault kind) front [] back index start [] last shows h = absurd last

later_last : (one : Timed) (events : List Timed) → Last (one ∷ events) → Last events
later_last one [] h = tt
later_last one (two ∷ events) h = h

same_last : (one : Timed) (offset : ℕ) (events : List Timed) → Last (one ∷ events) → Last (record { offset = offset; event = one.event } ∷ events)
same_last one offset [] h = h
same_last one offset (two ∷ events) h = h

no_bytes : (bytes : List ℕ) → 0 ≡ length bytes → bytes ≡ []
no_bytes [] h = refl
no_bytes (x ∷ bytes) h = absurd (omega arith)

joined : (start : ℕ) (front back : List ℕ) (events others : List Timed) (rest : ℕ) → Last events → ShowsFrom start front events 0
    → ShowsFrom (start + length front) back others rest → ShowsFrom start (front ++ back) (events ++ others) rest
joined start front back [] others rest last h k =
    let none : front ≡ [] = no_bytes front h.1 in
    let P : List ℕ → Type 0 = λ xs. ShowsFrom start (xs ++ back) others rest in
    let N : ℕ → Type 0 = λ n. ShowsFrom n back others rest in
    let at : start + length front ≡ start = omega (arith, ap length none) in
    subst P (sym none) (subst N at k)
joined start front back (one ∷ events) others rest last h k =
    let sizes : start + length front ≡ (start + length h.0) + length h.1 = omega (arith, ap length h.3, length-append h.0 h.1) in
    let N : ℕ → Type 0 = λ n. ShowsFrom n back others rest in (
      h.0,
      h.1 ++ back,
      h.2,
      ap (λ xs. xs ++ back) h.3 ∙ append_assoc h.0 h.1 back,
      opens_on one.event h.0 h.1 back h.2 (start + length h.0) events (same_last one (start + length h.0) events last) h.6 h.4,
      h.5,
      joined (start + length h.0) h.1 back events others rest (later_last one events last) h.6 (subst N sizes k),
    )

ends_so : (event : Event) (past : List Event) → EndsWhole (event ∷ past) → EndsWhole (event ∷ [])
ends_so (MessageEvent message) past h = h
ends_so (Fault kind) past h = h

ends_last : (events : List Timed) (past : List Event) → EndsWhole (reverse_aux (map (λ (t : Timed). t.event) events) past) → Last events
ends_last [] past h = tt
ends_last (one ∷ []) past h = ends_so one.event past h
ends_last (one ∷ (two ∷ events)) past h = ends_last (two ∷ events) (one.event ∷ past) h

pub streams_are_joined : StreamsAreJoined
streams_are_joined front back events others rest ends h k =
    let N : ℕ → Type 0 = λ n. ShowsFrom n back (moved_on (length front) others) rest in
    let at : length front + 0 ≡ 0 + length front = omega arith in
    joined 0 front back events (moved_on (length front) others) rest (ends_last events [] ends) h (subst N at (moved (length front) 0 back others rest k))

moved_append : (by : ℕ) (xs ys : List Timed) → moved_on by (xs ++ ys) ≡ moved_on by xs ++ moved_on by ys
moved_append by [] ys = refl
moved_append by (x ∷ xs) ys = ap (λ (ts : List Timed). record { offset = by + x.offset; event = x.event } ∷ ts) (moved_append by xs ys)

abbrev timed_of : ℕ → Event → Timed
timed_of offset event = record { offset = offset; event = event }

pub moved_twice : (a b : ℕ) (xs : List Timed) → moved_on a (moved_on b xs) ≡ moved_on (a + b) xs
moved_twice a b [] = refl
moved_twice a b (x ∷ xs) =
    let e : a + (b + x.offset) ≡ (a + b) + x.offset = omega arith in
    ap (λ (n : ℕ). record { offset = n; event = x.event } ∷ moved_on a (moved_on b xs)) e
    ∙ ap (λ (ts : List Timed). record { offset = (a + b) + x.offset; event = x.event } ∷ ts) (moved_twice a b xs)

pub frames_are_put_in : FramesArePutIn
frames_are_put_in front frames back events middle others rest ends h ends' m k =
    let S : List Timed → Type 0 = λ ts. Shows (front ++ (frames ++ back)) ts rest in
    let B : List ℕ → Type 0 = λ bs. Shows bs ((events ++ moved_on (length front) middle) ++ moved_on (length front + length frames) others) rest in
    let all = streams_are_joined front (frames ++ back) events (middle ++ moved_on (length frames) others) rest ends h
    (streams_are_joined frames back middle others rest ends' m k) in
    let e : moved_on (length front) (middle ++ moved_on (length frames) others) ≡ moved_on (length front) middle ++ moved_on (length front + length frames) others =
    moved_append (length front) middle (moved_on (length frames) others)
    ∙ ap (λ (ts : List Timed). moved_on (length front) middle ++ ts) (moved_twice (length front) (length frames) others) in
    subst B (sym (append_assoc front frames back)) (subst S (ap (λ (ts : List Timed). events ++ ts) e
    ∙ sym (append_assoc events (moved_on (length front) middle) (moved_on (length front + length frames) others))) all)

begins_high : (message : Message) (frame : List ℕ) → Frame message frame → (byte : ℕ) × (again : List ℕ) × (frame ≡ byte ∷ again) × (128 ≤ byte)
begins_high (Dump codes) frame h = (0x86, 0x00 ∷ 0x43 ∷ codes, h.0, omega arith)
begins_high (Update field code) frame h = (0x8E, 0x00 ∷ 0x05 ∷ field ∷ code ∷ [], h.0, omega arith)
begins_high (Time times) frame h = (0x8D, 0x00 ∷ 0x0A ∷ times, h.0, omega arith)
begins_high (Other id size) frame h = (id, h.0 ∷ h.1 ∷ h.2, h.3, h.4.0)

-- a frame alone
one_shown : (message : Message) (byte : ℕ) (again : List ℕ) → Frame message (byte ∷ again)
    → Shows (byte ∷ again) (timed_of (length again) (MessageEvent message) ∷ []) 0
one_shown message byte again h = (byte ∷ again, [], length again, sym (append-nil (byte ∷ again)), (h, omega arith), omega arith, (inl refl, refl))

events_append : (xs ys : List Timed) → map (λ (t : Timed). t.event) (xs ++ ys) ≡ map (λ (t : Timed). t.event) xs ++ map (λ (t : Timed). t.event) ys
events_append [] ys = refl
events_append (x ∷ xs) ys = ap (λ (es : List Event). x.event ∷ es) (events_append xs ys)

-- one more frame, which begins with this byte
added_at : RestartsAreShown → (bytes again : List ℕ) (byte : ℕ) (message : Message) (timed : List Timed) → 128 ≤ byte → Frame message (byte ∷ again) → Shows bytes timed 0
    → Shows (bytes ++ byte ∷ again) (timed ++ moved_on (length bytes) (timed_of (length again) (MessageEvent message) ∷ [])) 0
added_at restarts bytes again byte message timed high h shown =
    let one : List Timed = moved_on (length bytes) (timed_of (length again) (MessageEvent message) ∷ []) in
    let S : List Timed → Type 0 = λ ts. Shows (bytes ++ byte ∷ again) (ts ++ one) 0 in
    subst S (append-nil timed) (restarts bytes again byte timed (timed_of (length again) (MessageEvent message) ∷ []) 0 0 high shown (one_shown message byte again h))

pub frame_added : RestartsAreShown → (bytes frame : List ℕ) (message : Message) (events : List Event) → Frame message frame → ShowsWhole bytes events
    → ShowsWhole (bytes ++ frame) (events ++ MessageEvent message ∷ [])
frame_added restarts bytes frame message events h (timed, shown, same) =
    let (byte, again, is, high) = begins_high message frame h in
    let F : List ℕ → Type 0 = λ xs. Frame message xs in
    let one : List Timed = moved_on (length bytes) (timed_of (length again) (MessageEvent message) ∷ []) in
    let S : List ℕ → Type 0 = λ xs. Shows (bytes ++ xs) (timed ++ one) 0 in (
      timed ++ one,
      subst S (sym is) (added_at restarts bytes again byte message timed high (subst F is h) shown),
      events_append timed one ∙ ap (λ (es : List Event). es ++ MessageEvent message ∷ []) same,
    )

-- no bytes
pub nothing_shown : ShowsWhole [] []
nothing_shown = ([], (inl refl, refl), refl)
