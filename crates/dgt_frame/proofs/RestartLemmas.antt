-- Two streams, one after the other.
use Rattle.std.proofs.Common.{◌≡◌, ◌≢◌, ℕ, ◌+◌, ◌<◌, ◌≤◌, List, [], ◌∷◌, ◌++◌, length, refl, sym, ◌∙◌, ap, subst, append_assoc, length-append, arith, inl, inr}
use Rattle.std.specs.List.{AllByRecursion}
use Rattle.dgt_frame.specs.declared.events.Message.{Message}
use Rattle.dgt_frame.specs.declared.events.Event.{Event}
use Rattle.dgt_frame.specs.declared.events.Event.TheVariants.{Message as MessageEvent, Fault}
use Rattle.dgt_frame.specs.declared.events.FaultKind.TheVariants.{Cut, Stray, Size, Data}
use Rattle.dgt_frame.specs.Frames.{Begun, Frame, IsLow}
use Rattle.dgt_frame.specs.Restarts.{RestartsAreShown, cut_at, moved_on}
use Rattle.dgt_frame.specs.Streams.{Breaks, Opens, ShowsFrom, Skips, StartsHigh, Timed}
use Rattle.dgt_frame.proofs.FrameLemmas.{later_low}

pub low_at : (front : List ℕ) (byte : ℕ) (back : List ℕ) → AllByRecursion IsLow (front ++ byte ∷ back) → byte < 128
low_at [] byte back h = h.0
low_at (x ∷ front) byte back h = low_at front byte back h.1

-- No frame goes on with a byte with its top bit set.
pub never_within : (part : List ℕ) (byte : ℕ) (back : List ℕ) (message : Message) → part ≢ [] → 128 ≤ byte → Frame message (part ++ byte ∷ back) → ⊥
never_within [] byte back message some high h = some refl
never_within (x ∷ front) byte back message some high h =
    let low : byte < 128 = low_at front byte back (later_low message x (front ++ byte ∷ back) h) in
    omega arith

breaks : (part : List ℕ) (byte : ℕ) → Begun part → 128 ≤ byte → Breaks part byte
breaks part byte begun high = (
  λ b.
      let F : List ℕ → Type 0 = λ xs. Frame b.0 xs in
      never_within part byte b.1 b.0 begun.3 high (subst F (append_assoc part (byte ∷ []) b.1) b.2),
  λ message h. never_within part byte [] message begun.3 high h,
)

high_on : (bytes : List ℕ) (byte : ℕ) (again : List ℕ) → 128 ≤ byte → StartsHigh bytes → StartsHigh (bytes ++ byte ∷ again)
high_on [] byte again high h = high
high_on (x ∷ bytes) byte again high h = h

skips_on : (part : List ℕ) (b : ℕ) (front more : List ℕ) (byte : ℕ) (again : List ℕ) → 128 ≤ byte → Skips part b front more → Skips part b front (more ++ byte ∷ again)
skips_on part b front more byte again high h = (h.0, h.1, h.2, h.3, high_on more byte again high h.4)

-- an event is shown as before where bytes follow of which the first has its top bit set
opens_on : (event : Event) (front more : List ℕ) (index byte : ℕ) (again : List ℕ) → 128 ≤ byte
    → Opens event front more index → Opens event front (more ++ byte ∷ again) index
opens_on (MessageEvent m) front more index byte again high h = h
opens_on (Fault Stray) front more index byte again high h = (h.0, skips_on [] h.0 front more byte again high h.1, h.2)
opens_on (Fault Cut) front more index byte again high h =
    (h.0, h.1 ++ byte ∷ again, ap (λ xs. xs ++ byte ∷ again) h.2, h.3, h.4, h.5, h.6)
opens_on (Fault Size) front more index byte again high h =
    (h.0, h.1, h.2, h.3, skips_on h.0 h.1 front more byte again high h.4, h.5, h.6)
opens_on (Fault Data) front more index byte again high h =
    (h.0, h.1, h.2, h.3, skips_on h.0 h.1 front more byte again high h.4, h.5, h.6)

-- the end of the first stream
last_part : (start : ℕ) (part again : List ℕ) (byte : ℕ) (others : List Timed) (last : ℕ)
    → 128 ≤ byte → Begun part → ShowsFrom (start + length part) (byte ∷ again) others last
    → ShowsFrom start (part ++ byte ∷ again) (cut_at (start + length part) (length part) ++ others) last
last_part start [] again byte others last high begun k = absurd (begun.3 refl)
last_part start (x ∷ part) again byte others last high begun k =
    (x ∷ part, byte ∷ again, length (x ∷ part), refl, (byte, again, refl, high, begun, breaks (x ∷ part) byte begun high, refl), refl, k)

both_shown : (start : ℕ) (first again : List ℕ) (byte : ℕ) (events others : List Timed) (rest last : ℕ)
    → 128 ≤ byte → ShowsFrom start first events rest → ShowsFrom (start + length first) (byte ∷ again) others last
    → ShowsFrom start (first ++ byte ∷ again) (events ++ cut_at (start + length first) rest ++ others) last
both_shown start first again byte [] others rest last high h k =
    elim h.0 [
      | inl none ↦
          let P : List ℕ → Type 0 = λ xs. ShowsFrom start (xs ++ byte ∷ again) (cut_at (start + length xs) (length xs) ++ others) last in
          let N : ℕ → Type 0 = λ n. ShowsFrom n (byte ∷ again) others last in
          let at : start + length first ≡ start = omega (arith, ap length none) in
          let R : ℕ → Type 0 = λ n. ShowsFrom start (first ++ byte ∷ again) (cut_at (start + length first) n ++ others) last in
          subst R (sym h.1) (subst P (sym none) (subst N at k))
      | inr begun ↦
          let R : ℕ → Type 0 = λ n. ShowsFrom start (first ++ byte ∷ again) (cut_at (start + length first) n ++ others) last in
          subst R (sym h.1) (last_part start first again byte others last high begun k)
    ]
both_shown start first again byte (one ∷ events) others rest last high h k =
    let sizes : start + length first ≡ (start + length h.0) + length h.1 = omega (arith, ap length h.3, length-append h.0 h.1) in
    let N : ℕ → Type 0 = λ n. ShowsFrom n (byte ∷ again) others last in
    let C : ℕ → Type 0 = λ n. ShowsFrom (start + length h.0) (h.1 ++ byte ∷ again) (events ++ cut_at n rest ++ others) last in
    let tail : ShowsFrom (start + length h.0) (h.1 ++ byte ∷ again) (events ++ cut_at ((start + length h.0) + length h.1) rest ++ others) last =
    both_shown (start + length h.0) h.1 again byte events others rest last high h.6 (subst N sizes k) in (
      h.0,
      h.1 ++ byte ∷ again,
      h.2,
      ap (λ xs. xs ++ byte ∷ again) h.3 ∙ append_assoc h.0 h.1 (byte ∷ again),
      opens_on one.event h.0 h.1 h.2 byte again high h.4,
      h.5,
      subst C (sym sizes) tail,
    )

-- the same bytes at another offset
pub moved : (by start : ℕ) (bytes : List ℕ) (events : List Timed) (rest : ℕ) → ShowsFrom start bytes events rest → ShowsFrom (by + start) bytes (moved_on by events) rest
moved by start bytes [] rest h = h
moved by start bytes (one ∷ events) rest h =
    let N : ℕ → Type 0 = λ n. ShowsFrom n h.1 (moved_on by events) rest in
    let at : by + (start + length h.0) ≡ (by + start) + length h.0 = omega arith in
    let offset : by + one.offset ≡ (by + start) + h.2 = omega (arith, h.5) in
    (h.0, h.1, h.2, h.3, h.4, offset, subst N at (moved by (start + length h.0) h.1 events rest h.6))

pub restarts_are_shown : RestartsAreShown
restarts_are_shown first again byte events others rest last high h k =
    let N : ℕ → Type 0 = λ n. ShowsFrom n (byte ∷ again) (moved_on (length first) others) last in
    let begins : length first + 0 ≡ 0 + length first = omega arith in
    let at : 0 + length first ≡ length first = omega arith in
    let S : ℕ → Type 0 = λ n. ShowsFrom 0 (first ++ byte ∷ again) (events ++ cut_at n rest ++ moved_on (length first) others) last in
    subst S at (both_shown 0 first again byte events (moved_on (length first) others) rest last high h
    (subst N begins (moved (length first) 0 (byte ∷ again) others last k)))
