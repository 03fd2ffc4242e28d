use Rattle.std.proofs.Common.{◌≡◌, ℕ, ◌+◌, ◌-◌, ◌≤◌, List, ◌++◌, length, length-drop, length-take-le, take, take_all, drop, arith, append-nil, sym, ap, ◌∙◌}
use Rattle.std.proofs.lemmas.List.{take_more}
use Rattle.board_cable.proofs.Fives.{five_step, last_more}
use Rattle.board_cable.proofs.frames.last_five.Goals as goal

pub loop-byte-init : goal.loop-byte-init
loop-byte-init c = sym (append-nil c.args.last)

pub loop-byte-preserved : goal.loop-byte-preserved
loop-byte-preserved c =
    let from = c.saturating_sub-from.result in
    let bytes = c.args.bytes.now in
    let tail : List ℕ = take (length bytes - from) (drop from bytes) in
    let i : ℕ = c.loop-byte.byte-index in
    c.push.ensures
    ∙ five_step c.args.last (take i tail) (take (i + 1) tail) c.loop-byte.five i _ (omega arith) (length-take-le i tail (omega arith)) c.loop-byte.invariant
    (take_more tail i 0 c.loop-byte-test.true)

pub returns : goal.returns
returns c before last =
    let from = c.saturating_sub-from.result in
    let bytes = c.args.bytes.now in
    let rest : List ℕ = drop from bytes in
    let tail : List ℕ = take (length bytes - from) rest in
    let i : ℕ = c.loop-byte.byte-index in
    let all : tail ≡ rest = take_all (length bytes - from) rest (omega (arith, length-drop from bytes)) in
    let whole : length tail ≤ i = c.loop-byte-test.false in
    let within : i ≤ length tail = c.loop-byte.auto.byte-index-end in
    let n : i ≡ length rest = omega (arith, whole, within, ap length all) in
    c.loop-byte.invariant
    ∙ ap (λ xs. drop i (c.args.last ++ xs)) (take_all i tail whole ∙ all)
    ∙ ap (λ k. drop k (c.args.last ++ rest)) n
    ∙ ap (λ xs. drop (length rest) (xs ++ rest)) last
    ∙ last_more before bytes from c.saturating_sub-from.ensures
