-- The first bytes of a stream show the first of its events.
use Rattle.std.proofs.Common.{◌≡◌, ℕ, ◌+◌, List, [], ◌∷◌, ◌++◌, length, refl, sym, ◌∙◌, ap, ap₂, subst, append_assoc, append-nil, inl, inr, ◌⊎◌, Bool, true, false, nat_lt}
use Rattle.std.proofs.lemmas.Bool.{ltb-true, ltb-false}
use Rattle.std.specs.List.{AllByRecursion}
use Rattle.dgt_frame.specs.declared.events.Event.{Event}
use Rattle.dgt_frame.specs.declared.events.Event.TheVariants.{Message as MessageEvent, Fault}
use Rattle.dgt_frame.specs.declared.events.FaultKind.TheVariants.{Cut, Stray, Size, Data}
use Rattle.dgt_frame.specs.Frames.{IsLow}
use Rattle.dgt_frame.specs.Streams.{Timed, StartsHigh, Skips, Opens, ShowsFrom}
use Rattle.dgt_frame.proofs.OnceLemmas.{ends_alone, point_of, point_once, more_once}

-- the bytes with their top bit clear that come first, and what comes after them
record Parted (bytes : List ℕ) : Type 0 where
  run : List ℕ
  more : List ℕ
  is : bytes ≡ run ++ more
  low : AllByRecursion IsLow run
  high : StartsHigh more

with_first : (b : ℕ) (bytes : List ℕ) → Parted bytes → (low : Bool) → nat_lt b 128 ≡ low → Parted (b ∷ bytes)
with_first b bytes rest true e =
    record { run = b ∷ rest.run; more = rest.more; is = ap (λ bs. b ∷ bs) rest.is; low = (ltb-true b 128 e, rest.low); high = rest.high }
with_first b bytes rest false e = record { run = []; more = b ∷ bytes; is = refl; low = tt; high = ltb-false b 128 e }

parted : (bytes : List ℕ) → Parted bytes
parted [] = record { run = []; more = []; is = refl; low = tt; high = tt }
parted (b ∷ bytes) = with_first b bytes (parted bytes) (nat_lt b 128) refl

pub all_low : (run more : List ℕ) → AllByRecursion IsLow run → AllByRecursion IsLow more → AllByRecursion IsLow (run ++ more)
all_low [] more a b = b
all_low (x ∷ run) more a b = (a.0, all_low run more a.1 b)

-- With more bytes behind it the event is shown at the same byte; its front grows only where it had all bytes.
record StillOpens (event : Event) (front rest more : List ℕ) (index : ℕ) : Type 0 where
  front' : List ℕ
  rest' : List ℕ
  is : (front ++ rest) ++ more ≡ front' ++ rest'
  opens : Opens event front' rest' index
  same : (rest ≡ []) ⊎ ((front' ≡ front) × (rest' ≡ rest ++ more))

skips_on : (part : List ℕ) (b : ℕ) (front rest more : List ℕ) → Skips part b front rest
    → (front' rest' : List ℕ) × ((front ++ rest) ++ more ≡ front' ++ rest') × Skips part b front' rest'
    × ((rest ≡ []) ⊎ ((front' ≡ front) × (rest' ≡ rest ++ more)))
skips_on part b front [] more h =
    let p : Parted more = parted more in
    let run : List ℕ = h.0 ++ p.run in (
      part ++ b ∷ run,
      p.more,
      ap (λ xs. xs ++ more) (append-nil front ∙ h.1) ∙ append_assoc part (b ∷ h.0) more
          ∙ ap (λ xs. part ++ b ∷ (h.0 ++ xs)) p.is ∙ ap (λ xs. part ++ b ∷ xs) (sym (append_assoc h.0 p.run p.more))
          ∙ sym (append_assoc part (b ∷ run) p.more),
      (run, refl, h.2, all_low h.0 p.run h.3 p.low, p.high),
      inl refl,
    )
skips_on part b front (x ∷ rest) more h =
    (front, (x ∷ rest) ++ more, append_assoc front (x ∷ rest) more, (h.0, h.1, h.2, h.3, h.4), inr (refl, refl))

opens_on : (event : Event) (front rest more : List ℕ) (index : ℕ) → Opens event front rest index → StillOpens event front rest more index
opens_on (MessageEvent m) front rest more index h =
    record { front' = front; rest' = rest ++ more; is = append_assoc front rest more; opens = h; same = inr (refl, refl) }
opens_on (Fault Stray) front rest more index h =
    let s = skips_on [] h.0 front rest more h.1 in
    record { front' = s.0; rest' = s.1; is = s.2; opens = (h.0, s.3, h.2); same = s.4 }
opens_on (Fault Cut) front rest more index h =
    record {
      front' = front;
      rest' = rest ++ more;
      is = append_assoc front rest more;
      opens = (h.0, h.1 ++ more, ap (λ xs. xs ++ more) h.2, h.3, h.4, h.5, h.6);
      same = inr (refl, refl);
    }
opens_on (Fault Size) front rest more index h =
    let s = skips_on h.0 h.1 front rest more h.4 in
    record { front' = s.0; rest' = s.1; is = s.2; opens = (h.0, h.1, h.2, h.3, s.3, h.5, h.6); same = s.4 }
opens_on (Fault Data) front rest more index h =
    let s = skips_on h.0 h.1 front rest more h.4 in
    record { front' = s.0; rest' = s.1; is = s.2; opens = (h.0, h.1, h.2, h.3, s.3, h.5, h.6); same = s.4 }

-- no event is shown where no byte is
none_shown : (start : ℕ) (events : List Timed) (rest : ℕ) → ShowsFrom start [] events rest → events ≡ []
none_shown start [] rest h = refl
none_shown start (first ∷ events) rest h =
    absurd (ends_alone [] first.event h.2 (length h.0) (inl refl) (point_of [] h.0 h.1 first.event h.2 h.3 h.4))

pub shows_fronts : (start : ℕ) (bytes more : List ℕ) (events all : List Timed) (rest last : ℕ)
    → ShowsFrom start bytes events rest → ShowsFrom start (bytes ++ more) all last → (later : List Timed) × (all ≡ events ++ later)
shows_fronts start bytes more [] all rest last h k = (all, refl)
shows_fronts start bytes more (first ∷ events) [] rest last h k =
    let s = opens_on first.event h.0 h.1 more h.2 h.4 in
    absurd (ends_alone (bytes ++ more) first.event h.2 (length s.front') k.0
    (point_of (bytes ++ more) s.front' s.rest' first.event h.2 (ap (λ xs. xs ++ more) h.3 ∙ s.is) s.opens))
shows_fronts start bytes more (first ∷ events) (one ∷ all) rest last h k =
    let s = opens_on first.event h.0 h.1 more h.2 h.4 in
    let here : bytes ++ more ≡ s.front' ++ s.rest' = ap (λ xs. xs ++ more) h.3 ∙ s.is in
    let same = point_once (bytes ++ more) first.event one.event h.2 k.2 (length s.front') (length k.0)
    (point_of (bytes ++ more) s.front' s.rest' first.event h.2 here s.opens) (point_of (bytes ++ more) k.0 k.1 one.event k.2 k.3 k.4) in
    let offset : first.offset ≡ one.offset = h.5 ∙ ap (λ n. start + n) same.1 ∙ sym k.5 in
    let first_is : first ≡ one = ap₂ (λ n (e : Event). let t : Timed = record { offset = n; event = e } in t) offset same.0 in
    elim s.same [
      | inl none ↦
          let R : List ℕ → Type 0 = λ xs. ShowsFrom (start + length h.0) xs events rest in
          let empty : events ≡ [] = none_shown (start + length h.0) events rest (subst R none h.6) in
          (all, ap₂ (λ (t : Timed) (ts : List Timed). t ∷ (ts ++ all)) (sym first_is) (sym empty))
      | inr is ↦
          let rest_is : k.1 ≡ h.1 ++ more = sym (more_once s.front' s.rest' k.0 k.1 (sym here ∙ k.3) same.2) ∙ is.1 in
          let start_is : start + length k.0 ≡ start + length h.0 = ap (λ n. start + n) (sym same.2 ∙ ap length is.0) in
          let B : List ℕ → Type 0 = λ xs. ShowsFrom (start + length k.0) xs all last in
          let S : ℕ → Type 0 = λ n. ShowsFrom n (h.1 ++ more) all last in
          let tail = shows_fronts (start + length h.0) h.1 more events all rest last h.6 (subst S start_is (subst B rest_is k.6)) in
          (tail.0, ap₂ (λ (t : Timed) (ts : List Timed). t ∷ ts) (sym first_is) tail.1)
    ]
