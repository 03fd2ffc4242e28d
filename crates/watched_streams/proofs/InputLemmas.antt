-- A read that may pass a limit.
use Rattle.std.proofs.Common.{◌≡◌, ℕ, ◌+◌, ◌-◌, ◌<◌, ◌≤◌, List, ◌++◌, length, take, drop, Option, nat_lt, sym, subst, ◌∙◌, ap, append_assoc, arith, take-add, length-drop, length-append}
use Rattle.std.proofs.lemmas.Bool.{ltb-false, ltb-true}
use Rattle.std.proofs.lemmas.List.{length-take-le, take-append-le}
use Rattle.std.specs.Io.KnownBytes.{Consumes}
use Rattle.watched_streams.specs.Input.{GivesChunk}

-- what was read is its bytes within the limit and then the one past it
parted : (buffer rest : List ℕ) (within n : ℕ) → within ≤ n → n ≤ length buffer → take n buffer ≡ take within (buffer ++ rest) ++ take (n - within) (drop within buffer)
parted buffer rest within n inside fits =
    let sum : n ≡ within + (n - within) = omega arith in
    ap (λ k. take k buffer) sum ∙ take-add within (n - within) buffer ∙ ap (λ bs. bs ++ take (n - within) (drop within buffer)) (sym (take-append-le within buffer rest (omega arith)))

pub gives_chunk : (left within n : ℕ) (buffer rest : List ℕ) (input input' : Option (List ℕ)) → within ≤ n → within ≤ left → (within < n → within ≡ left) → 0 < n → n ≤ left + 1 → n ≤ length buffer
    → Consumes input input' (take n buffer) → GivesChunk left (buffer ++ rest) (record { within = within; past = nat_lt within n }) input input'
gives_chunk left within n buffer rest input input' inside few reached some most fits read =
    let beyond = take (n - within) (drop within buffer) in
    let long : length beyond ≡ n - within = length-take-le (n - within) (drop within buffer) (omega (arith, length-drop within buffer)) in
    let read_is = parted buffer rest within n inside fits in
    let P : List ℕ → Type 0 = λ bs. Consumes input input' bs in
    record {
      beyond = beyond;
      consumes = subst P read_is read;
      fits = omega (arith, length-append buffer rest);
      bounded = omega (arith, ap length read_is, length-take-le n buffer fits);
      none_past = λ is.
          let all : n ≤ within = ltb-false within n is in
          let same : n ≡ within = omega arith in
          let Q : ℕ → Type 0 = λ k. Consumes input input' (take k buffer) in
          (omega arith, few, subst P (sym (take-append-le within buffer rest (omega arith))) (subst Q same read));
      one_past = λ is.
          let past : within < n = ltb-true within n is in
          (reached past, omega (arith, long, reached past));
    }

-- bytes and a chunk behind them, of which a part was taken
pub cut_bytes : (bytes chunk taken unread dropped : List ℕ) → chunk ≡ taken ++ unread → bytes ++ (chunk ++ dropped) ≡ (bytes ++ taken) ++ (unread ++ dropped)
cut_bytes bytes chunk taken unread dropped is = ap (λ bs. bytes ++ (bs ++ dropped)) is ∙ ap (λ bs. bytes ++ bs) (append_assoc taken unread dropped) ∙ sym (append_assoc bytes taken (unread ++ dropped))
