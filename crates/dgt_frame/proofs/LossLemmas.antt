-- A stream of which a few bytes were lost.
use Rattle.std.proofs.Common.{◌≡◌, ◌≢◌, ◌⊎◌, inl, inr, ℕ, ◌+◌, ◌<◌, ◌≤◌, List, [], ◌∷◌, ◌++◌, length, refl, sym, ◌∙◌, ap, subst, append_assoc, append-nil, length-append, arith}
use Rattle.std.proofs.lemmas.List.{nil_from_length}
use Rattle.std.specs.List.{AllByRecursion}
use Rattle.dgt_frame.specs.declared.events.Message.{Message}
use Rattle.dgt_frame.specs.declared.events.Message.TheVariants.{Dump, Update, Time, Other}
use Rattle.dgt_frame.specs.declared.events.Event.{Event}
use Rattle.dgt_frame.specs.declared.events.Event.TheVariants.{Message as MessageEvent, Fault}
use Rattle.dgt_frame.specs.Frames.{Frame, IsLow}
use Rattle.dgt_frame.specs.Layout.{fixed_size}
use Rattle.dgt_frame.specs.Losses.{HasFault, IsBoardFrame, IsFault, SmallLossesShow, in_a_row}
use Rattle.dgt_frame.specs.Streams.{Opens, ShowsFrom, Timed}
use Rattle.dgt_frame.proofs.FrameLemmas.{Parts, later_low, parts_of}
use Rattle.dgt_frame.proofs.OnceLemmas.{size_once}
use Rattle.dgt_frame.proofs.RestartLemmas.{low_at, never_within}
use Rattle.dgt_frame.proofs.FrontLemmas.{all_low}

-- two ways to part a list
abbrev Split : List ℕ → List ℕ → List ℕ → List ℕ → Type 0
Split xs ys us vs = ((zs : List ℕ) × (us ≡ xs ++ zs) × (ys ≡ zs ++ vs)) ⊎ ((z : ℕ) × (zs : List ℕ) × (xs ≡ us ++ z ∷ zs) × ((z ∷ zs) ++ ys ≡ vs))

split : (xs ys us vs : List ℕ) → xs ++ ys ≡ us ++ vs → Split xs ys us vs
split [] ys us vs e = inl (us, refl, e)
split (x ∷ xs) ys [] vs e = inr (x, xs, refl, e)
split (x ∷ xs) ys (u ∷ us) vs e =
    let head : x ≡ u = cc in
    let tail : xs ++ ys ≡ us ++ vs = cc in
    elim (split xs ys us vs tail) [
      | inl a ↦ inl (a.0, ap (λ (l : List ℕ). u ∷ l) a.1 ∙ ap (λ (n : ℕ). n ∷ (xs ++ a.0)) (sym head), a.2)
      | inr b ↦ inr (b.0, b.1, ap (λ (l : List ℕ). x ∷ l) b.2 ∙ ap (λ (n : ℕ). n ∷ (us ++ b.0 ∷ b.1)) head, b.3)
    ]

-- the first byte of a frame, and its size where the identifier gives it
record Headed (frame : List ℕ) : Type 0 where
  id : ℕ
  later : List ℕ
  is : frame ≡ id ∷ later
  high : 128 ≤ id
  low : AllByRecursion IsLow later
  sized : 0 < fixed_size id → length frame ≡ fixed_size id

headed : (message : Message) (frame : List ℕ) → Frame message frame → Headed frame
headed message frame h =
    let p : Parts frame = parts_of message frame h in
    let F : List ℕ → Type 0 = λ xs. Frame message xs in
    record {
      id = p.id;
      later = p.high ∷ p.low ∷ p.body;
      is = p.bytes;
      high = (p.header.0).0;
      low = later_low message p.id (p.high ∷ p.low ∷ p.body) (subst F p.bytes h);
      sized = λ some. omega (arith, ap length p.bytes, p.whole, (p.header.4).1 some);
    }

-- a board's frame
record OfBoard (frame : List ℕ) : Type 0 where
  id : ℕ
  later : List ℕ
  is : frame ≡ id ∷ later
  high : 128 ≤ id
  low : AllByRecursion IsLow later
  fixed : 0 < fixed_size id
  sized : length frame ≡ fixed_size id
  long : 5 ≤ length frame

of_board : (frame : List ℕ) → IsBoardFrame frame → OfBoard frame
of_board frame (Dump codes, h, k) = record {
  id = 0x86;
  later = 0x00 ∷ 0x43 ∷ codes;
  is = h.0;
  high = omega arith;
  fixed = omega arith;
  low = (let F : List ℕ → Type 0 = λ xs. Frame (Dump codes) xs in later_low (Dump codes) 0x86 (0x00 ∷ 0x43 ∷ codes) (subst F h.0 h));
  sized = omega (arith, ap length h.0, h.1);
  long = omega (arith, ap length h.0, h.1);
}
of_board frame (Update field code, h, k) = record {
  id = 0x8E;
  later = 0x00 ∷ 0x05 ∷ field ∷ code ∷ [];
  is = h.0;
  high = omega arith;
  fixed = omega arith;
  low = (let F : List ℕ → Type 0 = λ xs. Frame (Update field code) xs in later_low (Update field code) 0x8E (0x00 ∷ 0x05 ∷ field ∷ code ∷ []) (subst F h.0 h));
  sized = omega (arith, ap length h.0);
  long = omega (arith, ap length h.0);
}
of_board frame (Time times, h, k) = record {
  id = 0x8D;
  later = 0x00 ∷ 0x0A ∷ times;
  is = h.0;
  high = omega arith;
  fixed = omega arith;
  low = (let F : List ℕ → Type 0 = λ xs. Frame (Time times) xs in later_low (Time times) 0x8D (0x00 ∷ 0x0A ∷ times) (subst F h.0 h));
  sized = omega (arith, ap length h.0, h.1);
  long = omega (arith, ap length h.0, h.1);
}
of_board frame (Other id size, h, k) = absurd k

-- ---- a byte with its top bit clear where a frame should begin

low_opens : (event : Event) (front more : List ℕ) (index byte : ℕ) (bytes : List ℕ) → byte < 128 → byte ∷ bytes ≡ front ++ more
    → Opens event front more index → IsFault event
low_opens (Fault kind) front more index byte bytes low e h = tt
low_opens (MessageEvent m) front more index byte bytes low e h =
    let f : Headed front = headed m front h.0 in
    let both : byte ∷ bytes ≡ f.id ∷ (f.later ++ more) = e ∙ ap (λ (xs : List ℕ). xs ++ more) f.is in
    let head : byte ≡ f.id = cc in
    absurd (omega (arith, f.high, low, head))

low_first : (start byte : ℕ) (more : List ℕ) (events : List Timed) (rest : ℕ) → byte < 128 → ShowsFrom start (byte ∷ more) events rest → HasFault events
low_first start byte more [] rest low h =
    absurd (elim h.0 [
      | inl none ↦ let never : ⊥ = cc in never
      | inr begun ↦
          let f : Headed (byte ∷ (more ++ begun.1)) = headed begun.0 (byte ∷ (more ++ begun.1)) begun.2 in
          let both : byte ∷ (more ++ begun.1) ≡ f.id ∷ f.later = f.is in
          let head : byte ≡ f.id = cc in
          omega (arith, f.high, low, head)
    ])
low_first start byte more (t ∷ events) rest low h = inl (low_opens t.event h.0 h.1 h.2 byte more low h.3 h.4)

-- ---- a run of bytes of a wrong size

abbrev GoesOnLow : List ℕ → Type 0
GoesOnLow more = (byte : ℕ) × (later : List ℕ) × (byte < 128) × (more ≡ byte ∷ later)

run_message : (m : Message) (front more : List ℕ) (id : ℕ) (lows : List ℕ) (byte : ℕ) (after : List ℕ)
    → AllByRecursion IsLow lows → 0 < fixed_size id → length (id ∷ lows) ≢ fixed_size id → 128 ≤ byte
    → Frame m front → Split front more (id ∷ lows) (byte ∷ after) → GoesOnLow more
run_message m front more id lows byte after low fixed wrong high h (inl a) = part a.0 a.1 a.2
  where
    f : Headed front
    f = headed m front h

    part : (zs : List ℕ) → id ∷ lows ≡ front ++ zs → more ≡ zs ++ byte ∷ after → GoesOnLow more
    part [] e k =
        let both : id ∷ lows ≡ f.id ∷ (f.later ++ []) = e ∙ ap (λ (xs : List ℕ). xs ++ []) f.is in
        let head : id ≡ f.id = cc in
        let S : ℕ → Type 0 = λ n. 0 < fixed_size n → length front ≡ fixed_size n in
        let size : length front ≡ fixed_size id = (subst S (sym head) f.sized) fixed in
        absurd (wrong (ap length (e ∙ append-nil front) ∙ size))
    part (z ∷ zs) e k =
        let both : id ∷ lows ≡ f.id ∷ (f.later ++ z ∷ zs) = e ∙ ap (λ (xs : List ℕ). xs ++ z ∷ zs) f.is in
        let tail : lows ≡ f.later ++ z ∷ zs = cc in
        let L : List ℕ → Type 0 = λ xs. AllByRecursion IsLow xs in
        (z, zs ++ byte ∷ after, low_at f.later z zs (subst L tail low), k)
run_message m front more id lows byte after low fixed wrong high h (inr b) =
    let head : b.0 ≡ byte = cc in
    let F : List ℕ → Type 0 = λ xs. Frame m xs in
    absurd (never_within (id ∷ lows) b.0 b.1 m (λ e. let never : ⊥ = cc in never) (omega (arith, high, head)) (subst F b.2 h))

run_opens : (event : Event) (front more : List ℕ) (index id : ℕ) (lows : List ℕ) (byte : ℕ) (after : List ℕ)
    → AllByRecursion IsLow lows → 0 < fixed_size id → length (id ∷ lows) ≢ fixed_size id → 128 ≤ byte
    → (id ∷ lows) ++ byte ∷ after ≡ front ++ more → Opens event front more index → IsFault event ⊎ GoesOnLow more
run_opens (Fault kind) front more index id lows byte after low fixed wrong high e h = inl tt
run_opens (MessageEvent m) front more index id lows byte after low fixed wrong high e h =
    inr (run_message m front more id lows byte after low fixed wrong high h.0 (split front more (id ∷ lows) (byte ∷ after) (sym e)))

wrong_run : (start id : ℕ) (lows : List ℕ) (byte : ℕ) (after : List ℕ) (events : List Timed) (rest : ℕ)
    → AllByRecursion IsLow lows → 0 < fixed_size id → length (id ∷ lows) ≢ fixed_size id → 128 ≤ byte
    → ShowsFrom start ((id ∷ lows) ++ byte ∷ after) events rest → HasFault events
wrong_run start id lows byte after [] rest low fixed wrong high h =
    absurd (elim h.0 [
      | inl none ↦ let never : ⊥ = cc in never
      | inr begun ↦
          let F : List ℕ → Type 0 = λ xs. Frame begun.0 xs in
          never_within (id ∷ lows) byte (after ++ begun.1) begun.0 (λ e. let never : ⊥ = cc in never) high
          (subst F (append_assoc (id ∷ lows) (byte ∷ after) begun.1) begun.2)
    ])
wrong_run start id lows byte after (t ∷ events) rest low fixed wrong high h =
    elim (run_opens t.event h.0 h.1 h.2 id lows byte after low fixed wrong high h.3 h.4) [
      | inl fault ↦ inl fault
      | inr on ↦
          let S : List ℕ → Type 0 = λ xs. ShowsFrom (start + length h.0) xs events rest in
          inr (low_first (start + length h.0) on.0 on.1 events rest on.2 (subst S on.3 h.6))
    ]

-- ---- whole frames

whole_message : (m n : Message) (frame bytes front more : List ℕ) → Frame m frame → Frame n front → Split frame bytes front more → more ≡ bytes
whole_message m n frame bytes front more h k (inl a) =
    let P : List ℕ → Type 0 = λ xs. Parts xs in
    let size = size_once frame a.0 (parts_of m frame h) (subst P a.1 (parts_of n front k)) in
    let none : a.0 ≡ [] = nil_from_length a.0 (omega (arith, size, length-append frame a.0)) in
    sym (a.2 ∙ ap (λ (xs : List ℕ). xs ++ more) none)
whole_message m n frame bytes front more h k (inr b) =
    let P : List ℕ → Type 0 = λ xs. Parts xs in
    let size = size_once front (b.0 ∷ b.1) (parts_of n front k) (subst P b.2 (parts_of m frame h)) in
    absurd (omega (arith, size, length-append front (b.0 ∷ b.1)))

whole_opens : (event : Event) (m : Message) (frame bytes front more : List ℕ) (index : ℕ) → Frame m frame → frame ++ bytes ≡ front ++ more
    → Opens event front more index → IsFault event ⊎ (more ≡ bytes)
whole_opens (Fault kind) m frame bytes front more index h e o = inl tt
whole_opens (MessageEvent n) m frame bytes front more index h e o = inr (whole_message m n frame bytes front more h o.0 (split frame bytes front more e))

after_whole : (start : ℕ) (m : Message) (frame bytes : List ℕ) (events : List Timed) (rest : ℕ) → Frame m frame → ShowsFrom start (frame ++ bytes) events rest
    → ((later : ℕ) (others : List Timed) → ShowsFrom later bytes others rest → HasFault others) → HasFault events
after_whole start m frame bytes [] rest h s further =
    let f : Headed frame = headed m frame h in
    absurd (elim s.0 [
      | inl none ↦ omega (arith, ap length none, length-append frame bytes, ap length f.is)
      | inr begun ↦
          let P : List ℕ → Type 0 = λ xs. Parts xs in
          let size = size_once frame (bytes ++ begun.1) (parts_of m frame h)
          (subst P (append_assoc frame bytes begun.1) (parts_of begun.0 ((frame ++ bytes) ++ begun.1) begun.2)) in
          begun.4 (nil_from_length begun.1 (omega (arith, size, length-append frame (bytes ++ begun.1), length-append bytes begun.1)))
    ])
after_whole start m frame bytes (t ∷ events) rest h s further =
    elim (whole_opens t.event m frame bytes s.0 s.1 s.2 h s.3 s.4) [
      | inl fault ↦ inl fault
      | inr is ↦
          let S : List ℕ → Type 0 = λ xs. ShowsFrom (start + length s.0) xs events rest in
          inr (further (start + length s.0) events (subst S is s.6))
    ]

-- ---- the loss

record StartsHighly (bytes : List ℕ) : Type 0 where
  byte : ℕ
  more : List ℕ
  high : 128 ≤ byte
  is : bytes ≡ byte ∷ more

next_high : (frames : List (List ℕ)) (next after : List ℕ) → AllByRecursion IsBoardFrame frames → IsBoardFrame next
    → StartsHighly (in_a_row frames ++ (next ++ after))
next_high [] next after all n =
    let f : OfBoard next = of_board next n in
    record { byte = f.id; more = f.later ++ after; high = f.high; is = ap (λ (xs : List ℕ). xs ++ after) f.is }
next_high (frame ∷ frames) next after all n =
    let f : OfBoard frame = of_board frame all.0 in
    record {
      byte = f.id;
      more = (f.later ++ in_a_row frames) ++ (next ++ after);
      high = f.high;
      is = ap (λ (xs : List ℕ). (xs ++ in_a_row frames) ++ (next ++ after)) f.is;
    }

-- what is left of a frame, and bytes of this or the next one that come on it, have a wrong size
joins : (start id : ℕ) (kept come : List ℕ) (frames : List (List ℕ)) (next after back : List ℕ) (events : List Timed) (rest : ℕ)
    → AllByRecursion IsLow (kept ++ come) → 0 < fixed_size id → length (id ∷ (kept ++ come)) ≢ fixed_size id
    → AllByRecursion IsBoardFrame frames → IsBoardFrame next → back ≡ come ++ in_a_row frames
    → ShowsFrom start ((id ∷ kept) ++ (back ++ (next ++ after))) events rest → HasFault events
joins start id kept come frames next after back events rest low fixed wrong all n is h =
    let high : StartsHighly (in_a_row frames ++ (next ++ after)) = next_high frames next after all n in
    let S : List ℕ → Type 0 = λ xs. ShowsFrom start (id ∷ xs) events rest in
    let order : kept ++ (back ++ (next ++ after)) ≡ (kept ++ come) ++ high.byte ∷ high.more =
    ap (λ (xs : List ℕ). kept ++ (xs ++ (next ++ after))) is ∙ ap (λ (xs : List ℕ). kept ++ xs) (append_assoc come (in_a_row frames) (next ++ after))
    ∙ sym (append_assoc kept come (in_a_row frames ++ (next ++ after))) ∙ ap (λ (xs : List ℕ). (kept ++ come) ++ xs) high.is in
    wrong_run start id (kept ++ come) high.byte high.more events rest low fixed wrong high.high (subst S order h)

low_back : (front back : List ℕ) → AllByRecursion IsLow (front ++ back) → AllByRecursion IsLow back
low_back [] back h = h
low_back (x ∷ front) back h = low_back front back h.1

low_front : (front back : List ℕ) → AllByRecursion IsLow (front ++ back) → AllByRecursion IsLow front
low_front [] back h = tt
low_front (x ∷ front) back h = (h.0, low_front front back h.1)

-- of the frame in which the loss begins the front is kept, and this part isn't
within : (start : ℕ) (frame : List ℕ) (frames : List (List ℕ)) (next after front part lost come back : List ℕ) (events : List Timed) (rest : ℕ)
    → IsBoardFrame frame → AllByRecursion IsBoardFrame frames → IsBoardFrame next
    → frame ≡ front ++ part → part ≡ lost ++ come → back ≡ come ++ in_a_row frames
    → 1 ≤ length lost → length lost ≤ 4
    → ShowsFrom start (front ++ (back ++ (next ++ after))) events rest → HasFault events
within start frame frames next after [] part lost [] back events rest f all n is parts are some few h =
    let g : OfBoard frame = of_board frame f in
    absurd (omega (arith, g.long, ap length is, ap length parts, length-append lost [], few))
within start frame frames next after [] part lost (byte ∷ come) back events rest f all n is parts are some few h =
    let g : OfBoard frame = of_board frame f in
    low_where lost parts some
  where
    low_where : (gone : List ℕ) → part ≡ gone ++ byte ∷ come → 1 ≤ length gone → HasFault events
    low_where [] e k = absurd (omega (arith, k))
    low_where (x ∷ gone) e k =
        let g : OfBoard frame = of_board frame f in
        let both : g.id ∷ g.later ≡ x ∷ (gone ++ byte ∷ come) = sym g.is ∙ is ∙ e in
        let tail : g.later ≡ gone ++ byte ∷ come = cc in
        let L : List ℕ → Type 0 = λ xs. AllByRecursion IsLow xs in
        let S : List ℕ → Type 0 = λ xs. ShowsFrom start (xs ++ (next ++ after)) events rest in
        low_first start byte ((come ++ in_a_row frames) ++ (next ++ after)) events rest (low_at gone byte come (subst L tail g.low)) (subst S are h)
within start frame frames next after (x ∷ kept) part lost come back events rest f all n is parts are some few h =
    let g : OfBoard frame = of_board frame f in
    let both : g.id ∷ g.later ≡ x ∷ (kept ++ part) = sym g.is ∙ is in
    let head : g.id ≡ x = cc in
    let tail : g.later ≡ kept ++ part = cc in
    let L : List ℕ → Type 0 = λ xs. AllByRecursion IsLow xs in
    let low : AllByRecursion IsLow (kept ++ part) = subst L tail g.low in
    let low_come : AllByRecursion IsLow come = low_back lost come (subst L parts (low_back kept part low)) in
    let Z : ℕ → Type 0 = λ i. 0 < fixed_size i in
    let Y : ℕ → Type 0 = λ i. length frame ≡ fixed_size i in
    joins start x kept come frames next after back events rest (all_low kept come (low_front kept part low) low_come) (subst Z head g.fixed)
    (λ e. omega (arith, e, subst Y head g.sized, ap length is, length-append kept part, ap length parts, length-append lost come, length-append kept come, some))
    all n are h

-- the loss goes on into the next frame
across : (start : ℕ) (frame other : List ℕ) (frames : List (List ℕ)) (next after front part gone come back : List ℕ) (events : List Timed) (rest : ℕ)
    → IsBoardFrame frame → IsBoardFrame other → AllByRecursion IsBoardFrame frames → IsBoardFrame next
    → frame ≡ front ++ part → other ≡ gone ++ come → back ≡ come ++ in_a_row frames
    → 1 ≤ length part → 1 ≤ length gone → length part + length gone ≤ 4
    → ShowsFrom start (front ++ (back ++ (next ++ after))) events rest → HasFault events
across start frame other frames next after [] part gone come back events rest f o all n is parts are some more few h =
    let g : OfBoard frame = of_board frame f in
    absurd (omega (arith, g.long, ap length is, few))
across start frame other frames next after (x ∷ kept) part gone come back events rest f o all n is parts are some more few h =
    let g : OfBoard frame = of_board frame f in
    let k : OfBoard other = of_board other o in
    let both : g.id ∷ g.later ≡ x ∷ (kept ++ part) = sym g.is ∙ is in
    let head : g.id ≡ x = cc in
    let tail : g.later ≡ kept ++ part = cc in
    let L : List ℕ → Type 0 = λ xs. AllByRecursion IsLow xs in
    let low : AllByRecursion IsLow (kept ++ part) = subst L tail g.low in
    let low_come : AllByRecursion IsLow come = come_low gone parts more in
    let Z : ℕ → Type 0 = λ i. 0 < fixed_size i in
    let Y : ℕ → Type 0 = λ i. length frame ≡ fixed_size i in
    joins start x kept come frames next after back events rest (all_low kept come (low_front kept part low) low_come) (subst Z head g.fixed)
    (λ e. omega (arith, e, subst Y head g.sized, ap length is, length-append kept part, ap length parts, length-append gone come, length-append kept come, k.long, few))
    all n are h
  where
    come_low : (head : List ℕ) → other ≡ head ++ come → 1 ≤ length head → AllByRecursion IsLow come
    come_low [] e i = absurd (omega (arith, i))
    come_low (y ∷ head) e i =
        let k : OfBoard other = of_board other o in
        let both : k.id ∷ k.later ≡ y ∷ (head ++ come) = sym k.is ∙ e in
        let tail : k.later ≡ head ++ come = cc in
        let L : List ℕ → Type 0 = λ xs. AllByRecursion IsLow xs in
        low_back head come (subst L tail k.low)

-- the next frame, where the loss goes on into it
next_frame : (start : ℕ) (frame : List ℕ) (frames : List (List ℕ)) (next after front part gone back : List ℕ) (events : List Timed) (rest : ℕ)
    → IsBoardFrame frame → AllByRecursion IsBoardFrame frames → IsBoardFrame next
    → frame ≡ front ++ part → in_a_row frames ≡ gone ++ back
    → 1 ≤ length part → 1 ≤ length gone → length part + length gone ≤ 4
    → ShowsFrom start (front ++ (back ++ (next ++ after))) events rest → HasFault events
next_frame start frame [] next after front part gone back events rest f all n is row some more few h =
    absurd (omega (arith, ap length row, length-append gone back, more))
next_frame start frame (other ∷ frames) next after front part gone back events rest f all n is row some more few h =
    let k : OfBoard other = of_board other all.0 in
    elim (split other (in_a_row frames) gone back row) [
      | inl a ↦ absurd (omega (arith, k.long, ap length a.1, length-append other a.0, few))
      | inr b ↦
          across start frame other frames next after front part gone (b.0 ∷ b.1) back events rest f all.0 all.1 n is b.2 (sym b.3) some more few h
    ]

loss : (start : ℕ) (frames : List (List ℕ)) (next after front lost back : List ℕ) (events : List Timed) (rest : ℕ)
    → AllByRecursion IsBoardFrame frames → IsBoardFrame next
    → in_a_row frames ≡ front ++ (lost ++ back)
    → 1 ≤ length lost → length lost ≤ 4
    → ShowsFrom start (front ++ (back ++ (next ++ after))) events rest
    → HasFault events
loss start [] next after front lost back events rest all n row some few h =
    absurd (omega (arith, ap length row, length-append front (lost ++ back), length-append lost back, some))
loss start (frame ∷ frames) next after front lost back events rest all n row some few h =
    elim (split frame (in_a_row frames) front (lost ++ back) row) [
      | inl a ↦
          let S : List ℕ → Type 0 = λ xs. ShowsFrom start xs events rest in
          let order : front ++ (back ++ (next ++ after)) ≡ frame ++ (a.0 ++ (back ++ (next ++ after))) =
          ap (λ (xs : List ℕ). xs ++ (back ++ (next ++ after))) a.1 ∙ append_assoc frame a.0 (back ++ (next ++ after)) in
          after_whole start (all.0).0 frame (a.0 ++ (back ++ (next ++ after))) events rest (all.0).1 (subst S order h)
          (λ later others k. loss later frames next after a.0 lost back others rest all.1 n a.2 some few k)
      | inr b ↦
          elim (split (b.0 ∷ b.1) (in_a_row frames) lost back b.3) [
            | inl c ↦ over b.0 b.1 c.0 b.2 c.1 c.2
            | inr d ↦
                within start frame frames next after front (b.0 ∷ b.1) lost (d.0 ∷ d.1) back events rest all.0 all.1 n b.2 d.2 (sym d.3) some few h
          ]
    ]
  where
    over : (z : ℕ) (zs gone : List ℕ) → frame ≡ front ++ z ∷ zs → lost ≡ (z ∷ zs) ++ gone → in_a_row frames ≡ gone ++ back → HasFault events
    over z zs [] is parts later =
        within start frame frames next after front (z ∷ zs) lost [] back events rest all.0 all.1 n is
        (sym (append-nil (z ∷ zs)) ∙ sym parts ∙ sym (append-nil lost)) (sym later) some few h
    over z zs (g ∷ gone) is parts later =
        next_frame start frame frames next after front (z ∷ zs) (g ∷ gone) back events rest all.0 all.1 n is later (omega arith) (omega arith)
        (omega (arith, ap length parts, length-append (z ∷ zs) (g ∷ gone), few)) h

pub small_losses_show : SmallLossesShow
small_losses_show frames next after front lost back events rest all n row some few h =
    loss 0 frames next after front lost back events rest all n row some few h
