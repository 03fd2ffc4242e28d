-- The bytes of a frame, whatever its kind.
use Rattle.std.proofs.Common.{◌≡◌, ◌≢◌, ℕ, ◌+◌, ◌-◌, ◌*◌, ◌<◌, ◌≤◌, List, [], ◌∷◌, ◌++◌, length, replicate, zero, suc, refl, ap, append_assoc, length-append, arith, inl, inr}
use Rattle.std.specs.List.{AllByRecursion}
use Rattle.std.proofs.lemmas.Bool.{cases_eq, ne_eqb}
use Rattle.std.proofs.lemmas.List.{length-replicate}
use Rattle.dgt_frame.specs.declared.events.Message.{Message}
use Rattle.dgt_frame.specs.declared.events.Message.TheVariants.{Dump, Update, Time, Other}
use Rattle.dgt_frame.specs.Frames.{Begun, Frame, IsLow, IsCode, IsOtherId}
use Rattle.dgt_frame.specs.Layout.{fixed_size, byte_limit, IsIdentifier, FitsHigh, FitsSize, FitsData, IsHeader}
use Rattle.dgt_frame.specs.Streams.{Breaks}

pub other_size : (id : ℕ) → IsOtherId id → fixed_size id ≡ 0
other_size id h = rw (ne_eqb id 0x86 h.2, ne_eqb id 0x8E h.3, ne_eqb id 0x8D h.4) refl

pub other_limit : (id index : ℕ) → IsOtherId id → byte_limit id index ≡ 128
other_limit id index h = rw (ne_eqb id 0x86 h.2, ne_eqb id 0x8E h.3) refl

fits_codes : (index : ℕ) (codes : List ℕ) → AllByRecursion IsCode codes → FitsData 0x86 index codes
fits_codes index [] h = tt
fits_codes index (x ∷ xs) h = (h.0, fits_codes (index + 1) xs h.1)

fits_times : (index : ℕ) (times : List ℕ) → AllByRecursion IsLow times → FitsData 0x8D index times
fits_times index [] h = tt
fits_times index (x ∷ xs) h = (h.0, fits_times (index + 1) xs h.1)

fits_other : (id index : ℕ) (bytes : List ℕ) → IsOtherId id → AllByRecursion IsLow bytes → FitsData id index bytes
fits_other id index [] i h = tt
fits_other id index (x ∷ xs) i h = (rw (other_limit id index i) h.0, fits_other id (index + 1) xs i h.1)

codes_fit : (index : ℕ) (codes : List ℕ) → FitsData 0x86 index codes → AllByRecursion IsCode codes
codes_fit index [] h = tt
codes_fit index (x ∷ xs) h = (h.0, codes_fit (index + 1) xs h.1)

limit_low : (id index : ℕ) → byte_limit id index ≤ 128
limit_low id index = grind arith

data_low : (id index : ℕ) (bytes : List ℕ) → FitsData id index bytes → AllByRecursion IsLow bytes
data_low id index [] h = tt
data_low id index (x ∷ xs) h = (let l : byte_limit id index ≤ 128 = limit_low id index in omega (arith, h.0), data_low id (index + 1) xs h.1)

-- a frame in its parts, whatever its kind
pub record Parts (frame : List ℕ) : Type 0 where
  pub id : ℕ
  pub high : ℕ
  pub low : ℕ
  pub size : ℕ
  pub body : List ℕ
  pub bytes : frame ≡ id ∷ high ∷ low ∷ body
  pub header : IsHeader id high low size
  pub fits : FitsData id 0 body
  pub whole : length body + 3 ≡ size

pub parts_of : (message : Message) (frame : List ℕ) → Frame message frame → Parts frame
parts_of (Dump codes) frame h = record {
  id = 0x86;
  high = 0;
  low = 0x43;
  size = 67;
  body = codes;
  bytes = h.0;
  header = ((omega arith, omega arith), (omega arith, λ _. refl), omega arith, refl, (omega arith, λ _. refl));
  fits = fits_codes 0 codes h.2;
  whole = omega (arith, h.1);
}
parts_of (Update field code) frame h = record {
  id = 0x8E;
  high = 0;
  low = 5;
  size = 5;
  body = field ∷ code ∷ [];
  bytes = h.0;
  header = ((omega arith, omega arith), (omega arith, λ _. refl), omega arith, refl, (omega arith, λ _. refl));
  fits = (h.1, (h.2, tt));
  whole = refl;
}
parts_of (Time times) frame h = record {
  id = 0x8D;
  high = 0;
  low = 10;
  size = 10;
  body = times;
  bytes = h.0;
  header = ((omega arith, omega arith), (omega arith, λ _. refl), omega arith, refl, (omega arith, λ _. refl));
  fits = fits_times 0 times h.2;
  whole = omega (arith, h.1);
}
parts_of (Other id size) frame h = record {
  id = id;
  high = h.0;
  low = h.1;
  size = size;
  body = h.2;
  bytes = h.3;
  header =
      let none : fixed_size id ≡ 0 = other_size id h.4 in
      ((h.4.0, h.4.1), (h.5, λ some. absurd (omega arith)), h.6, h.8, (omega (arith, h.9, ap length h.3), λ some. absurd (omega arith)));
  fits = fits_other id 0 h.2 h.4 h.7;
  whole = omega (arith, h.9, ap length h.3);
}

-- every byte of a frame but the first has its top bit clear
pub later_low : (message : Message) (x : ℕ) (rest : List ℕ) → Frame message (x ∷ rest) → AllByRecursion IsLow rest
later_low message x rest h =
    let p : Parts (x ∷ rest) = parts_of message (x ∷ rest) h in
    let bytes : x ∷ rest ≡ p.id ∷ p.high ∷ p.low ∷ p.body = p.bytes in
    let e : rest ≡ p.high ∷ p.low ∷ p.body = cc in
    rw e (p.header.1.0, (p.header.2, data_low p.id 0 p.body p.fits))

pub whole_dump : (high low size : ℕ) (body : List ℕ) → IsHeader 0x86 high low size → FitsData 0x86 0 body → length body + 3 ≡ size
    → Frame (Dump body) (0x86 ∷ high ∷ low ∷ body)
whole_dump high low size body header fits whole =
    let high_is : high ≡ 0 = header.1.1 (omega arith) in
    let size_is : size ≡ 67 = header.4.1 (omega arith) in
    let sum_is : size ≡ 128 * high + low = header.3 in
    let low_is : low ≡ 67 = omega arith in
    (rw (high_is, low_is) refl, omega arith, codes_fit 0 body fits)

pub whole_time : (high low size : ℕ) (body : List ℕ) → IsHeader 0x8D high low size → FitsData 0x8D 0 body → length body + 3 ≡ size
    → Frame (Time body) (0x8D ∷ high ∷ low ∷ body)
whole_time high low size body header fits whole =
    let high_is : high ≡ 0 = header.1.1 (omega arith) in
    let size_is : size ≡ 10 = header.4.1 (omega arith) in
    let sum_is : size ≡ 128 * high + low = header.3 in
    let low_is : low ≡ 10 = omega arith in
    (rw (high_is, low_is) refl, omega arith, data_low 0x8D 0 body fits)

pub whole_update : (high low size : ℕ) (body : List ℕ) → IsHeader 0x8E high low size → FitsData 0x8E 0 body → length body + 3 ≡ size
    → (message : Message) × Frame message (0x8E ∷ high ∷ low ∷ body)
whole_update high low size [] header fits whole = let size_is : size ≡ 5 = header.4.1 (omega arith) in absurd (omega arith)
whole_update high low size (field ∷ []) header fits whole = let size_is : size ≡ 5 = header.4.1 (omega arith) in absurd (omega arith)
whole_update high low size (field ∷ code ∷ []) header fits whole =
    let high_is : high ≡ 0 = header.1.1 (omega arith) in
    let size_is : size ≡ 5 = header.4.1 (omega arith) in
    let sum_is : size ≡ 128 * high + low = header.3 in
    let low_is : low ≡ 5 = omega arith in
    (Update field code, (rw (high_is, low_is) refl, fits.0, fits.1.0))
whole_update high low size (field ∷ code ∷ x ∷ xs) header fits whole = let size_is : size ≡ 5 = header.4.1 (omega arith) in absurd (omega arith)

pub whole_other : (id high low size : ℕ) (body : List ℕ) → id ≢ 0x86 → id ≢ 0x8E → id ≢ 0x8D → IsHeader id high low size → FitsData id 0 body → length body + 3 ≡ size
    → Frame (Other id size) (id ∷ high ∷ low ∷ body)
whole_other id high low size body no_dump no_update no_time header fits whole =
    (high, low, body, refl, (header.0.0, header.0.1, no_dump, no_update, no_time), header.1.0, header.2, data_low id 0 body fits, header.3, omega arith)

-- bytes that fit, as many as the size says, are a frame
pub whole_frame : (id high low size : ℕ) (body : List ℕ) → IsHeader id high low size → FitsData id 0 body → length body + 3 ≡ size
    → (message : Message) × Frame message (id ∷ high ∷ low ∷ body)
whole_frame id high low size body header fits whole = elim (cases_eq id 0x86) [
  | inl e ↦ (Dump body, rw e (whole_dump high low size body (rw e at header) (rw e at fits) whole))
  | inr no_dump ↦ elim (cases_eq id 0x8E) [
    | inl e ↦ rw e (whole_update high low size body (rw e at header) (rw e at fits) whole)
    | inr no_update ↦ elim (cases_eq id 0x8D) [
      | inl e ↦ (Time body, rw e (whole_time high low size body (rw e at header) (rw e at fits) whole))
      | inr no_time ↦ (Other id size, whole_other id high low size body no_dump no_update no_time header fits whole)
    ]
  ]
]

some_limit : (id index : ℕ) → 0 < byte_limit id index
some_limit id index = grind arith

fits_zeros : (id index n : ℕ) → FitsData id index (replicate n 0)
fits_zeros id index zero = tt
fits_zeros id index (suc n) = (some_limit id index, fits_zeros id (index + 1) n)

fits_filled : (id index n : ℕ) (body : List ℕ) → FitsData id index body → FitsData id index (body ++ replicate n 0)
fits_filled id index n [] h = fits_zeros id index n
fits_filled id index n (x ∷ xs) h = (h.0, fits_filled id (index + 1) n xs h.1)

-- bytes that fit, fewer than the size says, begin one
pub begun_data : (id high low size : ℕ) (body : List ℕ) → IsHeader id high low size → FitsData id 0 body → length body + 3 < size
    → Begun (id ∷ high ∷ low ∷ body)
begun_data id high low size body header fits short =
    let n : ℕ = size - (length body + 3) in
    let filled = whole_frame id high low size (body ++ replicate n 0) header (fits_filled id 0 n body fits)
    (omega (arith, length-append body (replicate n 0), length-replicate {A = ℕ} n 0)) in
    (filled.0, replicate n 0, filled.1, (λ e. cc), (λ e. omega (arith, ap length e, length-replicate {A = ℕ} n 0)))

fixed_bounds : (id : ℕ) → (fixed_size id < 128) × (0 < fixed_size id → 3 ≤ fixed_size id)
fixed_bounds id = grind arith

begun_by : (id high low size : ℕ) → IsHeader id high low size → Begun (id ∷ high ∷ [])
begun_by id high low size header =
    let long : 3 ≤ size = header.4.0 in
    let filled = whole_frame id high low size (replicate (size - 3) 0) header (fits_zeros id 0 (size - 3))
    (omega (arith, length-replicate {A = ℕ} (size - 3) 0)) in
    (filled.0, low ∷ replicate (size - 3) 0, filled.1, (λ e. cc), (λ e. cc))

pub begun_high : (id high : ℕ) → IsIdentifier id → FitsHigh id high → Begun (id ∷ high ∷ [])
begun_high id high i h =
    let bounds = fixed_bounds id in
    let low_high : high < 128 = h.0 in
    elim (cases_eq (fixed_size id) 0) [
      | inl none ↦ elim (cases_eq high 0) [
        | inl e ↦ begun_by id high 3 (128 * high + 3) (i, h, omega arith, refl, (omega arith, λ some. absurd (omega arith)))
        | inr e ↦ begun_by id high 0 (128 * high + 0) (i, h, omega arith, refl, (omega arith, λ some. absurd (omega arith)))
      ]
      | inr some ↦
          let high_is : high ≡ 0 = h.1 (omega arith) in
          begun_by id high (fixed_size id) (fixed_size id) (i, h, bounds.0, omega arith, (bounds.1 (omega arith), λ _. refl))
    ]

pub begun_id : (id : ℕ) → IsIdentifier id → Begun (id ∷ [])
begun_id id i =
    let begun = begun_high id 0 i (omega arith, λ _. refl) in
    (begun.0, 0 ∷ begun.1, begun.2, (λ e. cc), (λ e. cc))

-- if no frame goes on so, the byte breaks the part
pub breaks_if : (part : List ℕ) (b : ℕ) → ((message : Message) (tail : List ℕ) → Frame message (part ++ b ∷ tail) → ⊥) → Breaks part b
breaks_if part b none = (
  λ begun. none begun.0 begun.1 (rw (← append_assoc part (b ∷ []) begun.1) begun.2),
  λ message whole. none message [] whole,
)

low_at : (xs tail : List ℕ) (b : ℕ) → AllByRecursion IsLow (xs ++ b ∷ tail) → b < 128
low_at [] tail b h = h.0
low_at (x ∷ xs) tail b h = low_at xs tail b h.1

pub breaks_high : (part : List ℕ) (b : ℕ) → Begun part → 128 ≤ b → Breaks part b
breaks_high [] b begun high = absurd (begun.3 refl)
breaks_high (x ∷ xs) b begun high = breaks_if (x ∷ xs) b (λ message tail whole.
    let low : b < 128 = low_at xs tail b (later_low message x (xs ++ b ∷ tail) whole) in omega arith)

high_fits : (id b : ℕ) (tail : List ℕ) → Parts (id ∷ b ∷ tail) → FitsHigh id b
high_fits id b tail p =
    let bytes : id ∷ b ∷ tail ≡ p.id ∷ p.high ∷ p.low ∷ p.body = p.bytes in
    let id_is : id ≡ p.id = cc in
    let high_is : b ≡ p.high = cc in
    rw (id_is, high_is) p.header.1

pub breaks_id : (id b : ℕ) → (FitsHigh id b → ⊥) → Breaks (id ∷ []) b
breaks_id id b none = breaks_if (id ∷ []) b (λ message tail whole. none (high_fits id b tail (parts_of message (id ∷ b ∷ tail) whole)))

size_fits : (id high b : ℕ) (tail : List ℕ) → Parts (id ∷ high ∷ b ∷ tail) → FitsSize id (128 * high + b)
size_fits id high b tail p =
    let bytes : id ∷ high ∷ b ∷ tail ≡ p.id ∷ p.high ∷ p.low ∷ p.body = p.bytes in
    let id_is : id ≡ p.id = cc in
    let high_is : high ≡ p.high = cc in
    let low_is : b ≡ p.low = cc in
    let size_is : p.size ≡ 128 * p.high + p.low = p.header.3 in
    let sum_is : 128 * high + b ≡ p.size = omega arith in
    rw (id_is, sum_is) p.header.4

pub breaks_size : (id high b : ℕ) → (FitsSize id (128 * high + b) → ⊥) → Breaks (id ∷ high ∷ []) b
breaks_size id high b none = breaks_if (id ∷ high ∷ []) b (λ message tail whole.
    none (size_fits id high b tail (parts_of message (id ∷ high ∷ b ∷ tail) whole)))

fits_at : (id index at b : ℕ) (body tail : List ℕ) → at ≡ index + length body → FitsData id index (body ++ b ∷ tail) → b < byte_limit id at
fits_at id index at b [] tail e h = let same : at ≡ index = omega arith in rw same h.0
fits_at id index at b (x ∷ xs) tail e h = fits_at id (index + 1) at b xs tail (omega arith) h.1

data_fits : (id high low : ℕ) (body : List ℕ) → Parts (id ∷ high ∷ low ∷ body) → FitsData id 0 body
data_fits id high low body p =
    let bytes : id ∷ high ∷ low ∷ body ≡ p.id ∷ p.high ∷ p.low ∷ p.body = p.bytes in
    let id_is : id ≡ p.id = cc in
    let body_is : body ≡ p.body = cc in
    rw (id_is, body_is) p.fits

pub breaks_data : (id high low b : ℕ) (body : List ℕ) → byte_limit id (length body) ≤ b → Breaks (id ∷ high ∷ low ∷ body) b
breaks_data id high low b body over = breaks_if (id ∷ high ∷ low ∷ body) b (λ message tail whole.
    let below : b < byte_limit id (length body) = fits_at id 0 (length body) b body tail (omega arith)
    (data_fits id high low (body ++ b ∷ tail) (parts_of message (id ∷ high ∷ low ∷ body ++ b ∷ tail) whole)) in
    omega arith)
