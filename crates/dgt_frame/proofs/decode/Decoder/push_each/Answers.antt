use Prim.{search}
use Rattle.std.proofs.Common.{◌≡◌, ℕ, ◌+◌, ◌-◌, ◌<◌, List, ◌++◌, ◌∷◌, [], length, take, get_or, Some, sym, ap, subst, ◌∙◌, append_assoc, append-nil, length-append, arith, rules}
use Rattle.std.proofs.lemmas.List.{length-take-le, take_more}
use Rattle.dgt_frame.specs.declared.decode.Decoder.{Decoder}
use Rattle.dgt_frame.specs.declared.decode.Progress.{Progress}
use Rattle.dgt_frame.specs.declared.decode.Progress.TheVariants.{Waits}
use Rattle.dgt_frame.specs.declared.events.Event.{Event}
use Rattle.dgt_frame.specs.declared.events.Event.TheVariants.{Message as MessageEvent, Fault}
use Rattle.dgt_frame.specs.Decoder.{Decoded, timed}
use Rattle.dgt_frame.specs.Streams.{Timed}
use Rattle.dgt_frame.specs.Inside.Stored.{message_stored}
use Rattle.dgt_frame.specs.Inside.Steps.{event_at_byte}
use Rattle.dgt_frame.proofs.StateLemmas.{answer_has_frame}
use Rattle.dgt_frame.proofs.decode.Decoder.push_each.Goals as goal

one_more : (before xs : List ℕ) (i : ℕ) → i < length xs → (before ++ take i xs) ++ get_or xs i 0 ∷ [] ≡ before ++ take (i + 1) xs
one_more before xs i low = append_assoc before (take i xs) (get_or xs i 0 ∷ []) ∙ ap (λ t. before ++ t) (sym (take_more xs i 0 low))

-- the event at the last byte that was taken
shown_at :
    (new : Decoder) (before xs : List ℕ) (events : List Timed) (i : ℕ) (event : Event)
    → i < length xs
    → Decoded new ((before ++ take i xs) ++ get_or xs i 0 ∷ []) (events ++ record { offset = length (before ++ take i xs); event = event } ∷ [])
    → Decoded new (before ++ take (i + 1) xs) (events ++ record { offset = length before + (i + 1 - 1); event = event } ∷ [])
shown_at new before xs events i event low d =
    let offset : length (before ++ take i xs) ≡ length before + (i + 1 - 1) = omega (arith, length-append before (take i xs), length-take-le i xs (omega arith)) in
    let E : ℕ → Type 0 = λ n. Decoded new (before ++ take (i + 1) xs) (events ++ record { offset = n; event = event } ∷ []) in
    let B : List ℕ → Type 0 = λ t. Decoded new t (events ++ record { offset = length (before ++ take i xs); event = event } ∷ []) in
    subst E offset (subst B (one_more before xs i low) d)

pub returns-in-Fails-clause-some : goal.returns-in-Fails-clause-some
returns-in-Fails-clause-some c before events d =
    shown_at c.step.new.self before c.args.bytes.now events c.loop-i.i (Fault c.in-Fails.kind) (omega arith)
    (c.in-Fails.ensures (before ++ take c.loop-i.i c.args.bytes.now) events (c.loop-i.invariant before events d))

pub returns-in-Ends-clause-some : goal.returns-in-Ends-clause-some
returns-in-Ends-clause-some c before events d =
    rw c.message.ensures (shown_at c.step.new.self before c.args.bytes.now events c.loop-i.i
    (MessageEvent (message_stored c.in-Ends.id c.in-Ends.size c.step.new.self.stored)) (omega arith)
    (c.in-Ends.ensures (before ++ take c.loop-i.i c.args.bytes.now) events (c.loop-i.invariant before events d)))

pub returns-in-Ends-clause-frame : goal.returns-in-Ends-clause-frame
returns-in-Ends-clause-frame c before events d =
    let front = before ++ take c.loop-i.i c.args.bytes.now in
    rw c.message.ensures (answer_has_frame c.step.new.self (front ++ get_or c.args.bytes.now c.loop-i.i 0 ∷ []) events (length front)
    (Some (MessageEvent (message_stored c.in-Ends.id c.in-Ends.size c.step.new.self.stored))) (c.in-Ends.ensures front events (c.loop-i.invariant before events d)))

pub loop-i-preserved : goal.loop-i-preserved
loop-i-preserved c before events d =
    let front = before ++ take c.loop-i.i c.args.bytes.now in
    let byte : List ℕ = get_or c.args.bytes.now c.loop-i.i 0 ∷ [] in
    let waits : c.step.result ≡ Waits = search rules in
    let P : Progress → Type 0 = λ p. Decoded c.step.new.self (front ++ byte) (events ++ timed (length front) (event_at_byte p c.step.new.self.stored)) in
    let E : List Timed → Type 0 = λ t. Decoded c.step.new.self (front ++ byte) t in
    let B : List ℕ → Type 0 = λ t. Decoded c.step.new.self t events in
    subst B (one_more before c.args.bytes.now c.loop-i.i (omega arith))
    (subst E (append-nil events) (subst P waits (c.step.ensures front events (c.loop-i.invariant before events d))))
