-- A chunk that is given on, by how much of it was taken and sent.
use Rattle.std.proofs.Common.{◌≡◌, ◌≢◌, ◌<◌, ◌≤◌, ◌+◌, ◌-◌, ℕ, List, [], ◌++◌, inl, inr, refl, length, take, drop, Option, Result, Ok, Err, OnErr, IfErr, sym, ap, subst, arith, ◌∙◌, append-nil, take-add, take_all, length-drop}
use Rattle.std.proofs.lemmas.List.{drop-drop, length-take-le, take-append-drop}
use Rattle.std.specs.Io.KnownBytes.{Appends}
use Rattle.dgt_frame.specs.declared.decode.Decoder.{Decoder}
use Rattle.watched_streams.specs.Output.{AppendsPart}
use Rattle.recovery.specs.declared.keeper.Keeper.{Keeper}
use Rattle.recovery.specs.declared.refusal.RecoverError.{RecoverError}
use Rattle.recovery.specs.declared.refusal.RecoverError.TheVariants.{Read, Write, Lines, TooLong, Memory}
use Rattle.recovery.specs.Inside.Passing.{PassesBytes}
use Rattle.recovery.specs.Inside.Progress.{BreaksOff, Concludes, PassesOn, IsPutIn, PutsPart, RefusesAmong}
use Rattle.recovery.proofs.GiveLemmas.{breaks_memory, breaks_pair, breaks_write, gives_more, gives_pair, gives_sent}

-- the bytes of the chunk that were taken and not sent
abbrev pub waiting : ℕ → ℕ → List ℕ → List ℕ
waiting sent taken chunk = take (taken - sent) (drop sent chunk)

waiting_more : (sent taken more : ℕ) (chunk : List ℕ) → sent ≤ taken → waiting sent (taken + more) chunk ≡ waiting sent taken chunk ++ take more (drop taken chunk)
waiting_more sent taken more chunk low =
    let size : (taken + more) - sent ≡ (taken - sent) + more = omega arith in
    let at : sent + (taken - sent) ≡ taken = omega arith in
    ap (λ n. take n (drop sent chunk)) size ∙ take-add (taken - sent) more (drop sent chunk)
    ∙ ap (λ xs. waiting sent taken chunk ++ take more xs) (drop-drop (taken - sent) sent chunk ∙ ap (λ n. drop n chunk) at)

none_waits : (taken : ℕ) (chunk : List ℕ) → waiting taken taken chunk ≡ []
none_waits taken chunk = let none : taken - taken ≡ 0 = omega arith in ap (λ n. take n (drop taken chunk)) none

none_put_in : (frames line : List ℕ) → IsPutIn frames line → length line ≡ 0 → (frames ≡ []) × (line ≡ [])
none_put_in frames line (inl none) empty = none
none_put_in frames line (inr is) empty = absurd (let some : 0 < length line = is.0 in omega (arith, some, empty))

offset_of : (start taken : ℕ) (chunk : List ℕ) → taken ≤ length chunk → start + taken ≡ start + length (take taken chunk)
offset_of start taken chunk inside = ap (λ n. start + n) (sym (length-take-le taken chunk inside))

-- an event came, and nothing was put in
pub event_passed : (old now new : Decoder) (keeper k k' : Keeper) (start taken more sent : ℕ) (chunk frames line : List ℕ) (written written' said said' : Option (List ℕ))
    → sent ≤ taken → taken ≤ length chunk → length line ≡ 0 → IsPutIn frames line → PassesBytes now k (start + taken) (take more (drop taken chunk)) new k' frames line
    → PassesOn old keeper start (take taken chunk) now k (waiting sent taken chunk) written written' said said'
    → PassesOn old keeper start (take (taken + more) chunk) new k' (waiting sent (taken + more) chunk) written written' said said'
event_passed old now new keeper k k' start taken more sent chunk frames line written written' said said' low inside empty put passes part =
    let none = none_put_in frames line put empty in
    let P : List ℕ → List ℕ → Type 0 = λ fs l. PassesBytes now k (start + taken) (take more (drop taken chunk)) new k' fs l in
    let passes' : P [] [] = subst (P []) none.1 (subst (λ fs. P fs line) none.0 passes) in
    let G : List ℕ → List ℕ → Type 0 = λ bs ws. PassesOn old keeper start bs new k' ws written written' said said' in
    let here = gives_more old now new keeper k k' start (start + taken) (take taken chunk) (take more (drop taken chunk)) (waiting sent taken chunk) written written' said said'
    (offset_of start taken chunk inside) passes' part in
    subst (λ bs. G bs (waiting sent (taken + more) chunk)) (sym (take-add taken more chunk)) (subst (G (take taken chunk ++ take more (drop taken chunk))) (sym (waiting_more sent taken more chunk low)) here)

-- an event came, and a pair was put in
pub event_put : (old now new : Decoder) (keeper k k' : Keeper) (start taken more sent : ℕ) (chunk frames line : List ℕ) (written written' after said said' told : Option (List ℕ))
    → sent ≤ taken → taken ≤ length chunk → PassesBytes now k (start + taken) (take more (drop taken chunk)) new k' frames line
    → Appends written' after (waiting sent (taken + more) chunk ++ frames) → Appends said' told line
    → PassesOn old keeper start (take taken chunk) now k (waiting sent taken chunk) written written' said said'
    → PassesOn old keeper start (take (taken + more) chunk) new k' (waiting (taken + more) (taken + more) chunk) written after said told
event_put old now new keeper k k' start taken more sent chunk frames line written written' after said said' told low inside passes sends tells part =
    let sends' : Appends written' after ((waiting sent taken chunk ++ take more (drop taken chunk)) ++ frames) =
    subst (λ ws. Appends written' after (ws ++ frames)) (waiting_more sent taken more chunk low) sends in
    let G : List ℕ → List ℕ → Type 0 = λ bs ws. PassesOn old keeper start bs new k' ws written after said told in
    let here = gives_pair old now new keeper k k' start (start + taken) (take taken chunk) (take more (drop taken chunk)) (waiting sent taken chunk) frames line written written' after said said' told
    (offset_of start taken chunk inside) passes sends' tells part in
    subst (λ bs. G bs (waiting (taken + more) (taken + more) chunk)) (sym (take-add taken more chunk)) (subst (G (take taken chunk ++ take more (drop taken chunk))) (sym (none_waits (taken + more) chunk)) here)

-- no event came any more
whole_waits : (old now new : Decoder) (keeper k k' : Keeper) (start taken sent : ℕ) (chunk : List ℕ) (written written' said said' : Option (List ℕ))
    → sent ≤ taken → taken ≤ length chunk → PassesBytes now k (start + taken) (drop taken chunk) new k' [] []
    → PassesOn old keeper start (take taken chunk) now k (waiting sent taken chunk) written written' said said'
    → PassesOn old keeper start chunk new k' (drop sent chunk) written written' said said'
whole_waits old now new keeper k k' start taken sent chunk written written' said said' low inside passes part =
    let all : take (length chunk - taken) (drop taken chunk) ≡ drop taken chunk = take_all (length chunk - taken) (drop taken chunk) (omega (arith, length-drop taken chunk)) in
    let sum : taken + (length chunk - taken) ≡ length chunk = omega arith in
    let rest : waiting sent taken chunk ++ drop taken chunk ≡ drop sent chunk =
    ap (λ xs. waiting sent taken chunk ++ xs) (sym all) ∙ sym (waiting_more sent taken (length chunk - taken) chunk low) ∙ ap (λ n. take (n - sent) (drop sent chunk)) sum
    ∙ take_all (length chunk - sent) (drop sent chunk) (omega (arith, length-drop sent chunk)) in
    let G : List ℕ → List ℕ → Type 0 = λ bs ws. PassesOn old keeper start bs new k' ws written written' said said' in
    let here = gives_more old now new keeper k k' start (start + taken) (take taken chunk) (drop taken chunk) (waiting sent taken chunk) written written' said said'
    (offset_of start taken chunk inside) passes part in
    subst (λ bs. G bs (drop sent chunk)) (take-append-drop taken chunk) (subst (G (take taken chunk ++ drop taken chunk)) rest here)

pub chunk_sent : (old now new : Decoder) (keeper k k' : Keeper) (start taken sent : ℕ) (chunk : List ℕ) (written written' after said said' : Option (List ℕ))
    → sent ≤ taken → taken ≤ length chunk → PassesBytes now k (start + taken) (drop taken chunk) new k' [] [] → Appends written' after (drop sent chunk)
    → PassesOn old keeper start (take taken chunk) now k (waiting sent taken chunk) written written' said said'
    → PassesOn old keeper start chunk new k' [] written after said said'
chunk_sent old now new keeper k k' start taken sent chunk written written' after said said' low inside passes sends part =
    gives_sent old new keeper k' start chunk (drop sent chunk) written written' after said said' sends
    (whole_waits old now new keeper k k' start taken sent chunk written written' said said' low inside passes part)

pub chunk_broken : (old now new : Decoder) (keeper k k' : Keeper) (start taken sent : ℕ) (chunk : List ℕ) (written written' after said said' : Option (List ℕ))
    → sent ≤ taken → taken ≤ length chunk → PassesBytes now k (start + taken) (drop taken chunk) new k' [] [] → Concludes new k' → AppendsPart written' after (drop sent chunk)
    → PassesOn old keeper start (take taken chunk) now k (waiting sent taken chunk) written written' said said'
    → BreaksOff Write old keeper start chunk written after said said'
chunk_broken old now new keeper k k' start taken sent chunk written written' after said said' low inside passes concludes part_sent part =
    breaks_write old new keeper k' start chunk chunk [] (drop sent chunk) written written' after said said' (sym (append-nil chunk)) concludes part_sent
    (whole_waits old now new keeper k k' start taken sent chunk written written' said said' low inside passes part)

-- Memory ran out at the next event.
pub memory_broken : (old now : Decoder) (keeper k : Keeper) (start taken sent : ℕ) (chunk : List ℕ) (written written' after said said' : Option (List ℕ))
    → Concludes now k → RefusesAmong now k (drop taken chunk) → Appends written' after (waiting sent taken chunk) → PassesOn old keeper start (take taken chunk) now k (waiting sent taken chunk) written written' said said'
    → BreaksOff Memory old keeper start chunk written after said said'
memory_broken old now keeper k start taken sent chunk written written' after said said' concludes refuses sends part =
    breaks_memory old now keeper k start chunk (take taken chunk) (drop taken chunk) (waiting sent taken chunk) written written' after said said' (sym (take-append-drop taken chunk)) concludes refuses sends part

pub both_broken : (old now : Decoder) (keeper k : Keeper) (start taken sent : ℕ) (chunk : List ℕ) (written written' after said said' : Option (List ℕ))
    → Concludes now k → AppendsPart written' after (waiting sent taken chunk) → PassesOn old keeper start (take taken chunk) now k (waiting sent taken chunk) written written' said said'
    → BreaksOff Write old keeper start chunk written after said said'
both_broken old now keeper k start taken sent chunk written written' after said said' concludes sends part =
    breaks_write old now keeper k start chunk (take taken chunk) (drop taken chunk) (waiting sent taken chunk) written written' after said said' (sym (take-append-drop taken chunk)) concludes sends part

-- A pair could not be put in.
pub pair_broken : (error : RecoverError) (old now new : Decoder) (keeper k k' : Keeper) (start taken more sent : ℕ) (chunk frames line : List ℕ) (written written' after said said' told : Option (List ℕ))
    → sent ≤ taken → taken ≤ length chunk → 0 < length line → IsPutIn frames line → Concludes now k → Concludes new k' → PassesBytes now k (start + taken) (take more (drop taken chunk)) new k' frames line
    → PutsPart error (waiting sent (taken + more) chunk ++ frames) line written' after said' told
    → PassesOn old keeper start (take taken chunk) now k (waiting sent taken chunk) written written' said said'
    → BreaksOff error old keeper start chunk written after said told
pair_broken error old now new keeper k k' start taken more sent chunk frames line written written' after said said' told low inside some put concluded concludes passes puts part =
    let parts : chunk ≡ (take taken chunk ++ take more (drop taken chunk)) ++ drop (taken + more) chunk =
    sym (take-append-drop (taken + more) chunk) ∙ ap (λ bs. bs ++ drop (taken + more) chunk) (take-add taken more chunk) in
    let puts' : PutsPart error ((waiting sent taken chunk ++ take more (drop taken chunk)) ++ frames) line written' after said' told =
    subst (λ ws. PutsPart error (ws ++ frames) line written' after said' told) (waiting_more sent taken more chunk low) puts in
    breaks_pair error old now new keeper k k' start (start + taken) chunk (take taken chunk) (take more (drop taken chunk)) (drop (taken + more) chunk) (waiting sent taken chunk) frames line
    written written' after said said' told parts (offset_of start taken chunk inside) some put concluded concludes passes puts' part

-- What a write that failed leaves.
pub write_broken : {T : Type 0} (F : RecoverError → Type 0) (P : Type 0) (r : Result T RecoverError) → OnErr r P → IfErr r (λ error. error ≡ Write) → (P → F Write) → IfErr r F
write_broken F P (Ok v) p is k = tt
write_broken F P (Err error) p is k = subst F (sym is) (k p)

-- A pair that could not be put in though its line was told.
pub pair_unwritten : (error : RecoverError) (bytes line : List ℕ) (written written' said said' : Option (List ℕ)) → PutsPart error bytes line written written' said said' → error ≢ Lines → error ≡ Write
pair_unwritten Read bytes line written written' said said' puts told = absurd puts
pair_unwritten Write bytes line written written' said said' puts told = refl
pair_unwritten Lines bytes line written written' said said' puts told = absurd (told refl)
pair_unwritten TooLong bytes line written written' said said' puts told = absurd puts
pair_unwritten Memory bytes line written written' said said' puts told = absurd puts
