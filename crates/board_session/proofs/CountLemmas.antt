-- A game has no more moves than there were events.
use Rattle.std.proofs.Common.{◌≡◌, ℕ, suc, ◌+◌, ◌≤◌, Bool, true, false, not, cond, List, [], ◌∷◌, length, refl, arith}
use Rattle.std.proofs.lemmas.List.{length-reverse, length-map}
use Rattle.std.proofs.lemmas.List.Sums.{sum_by-cons}
use Rattle.dgt_frame.specs.Streams.{Timed}
use Rattle.board_session.specs.declared.recorder.Recorder.{Recorder}
use Rattle.board_events.specs.Settings.{Setting}
use Rattle.board_events.specs.History.{is_fault}
use Rattle.board_events.specs.Commands.{faults_in, messages_in, past_of}
use Rattle.board_session.specs.Inside.Recorder.{Kept, event_count}

one_counted : (b : Bool) (m f n : ℕ) → m + f ≡ n → (cond (not b) 1 0 + m) + (cond b 1 0 + f) ≡ suc n
one_counted true m f n h = omega arith
one_counted false m f n h = omega arith

all_counted : (taken : List Timed) → messages_in taken + faults_in taken ≡ length taken
all_counted [] = refl
all_counted (t ∷ taken) =
    let messages : messages_in (t ∷ taken) ≡ cond (not (is_fault t.event)) 1 0 + messages_in taken = sum_by-cons (λ (x : Timed). cond (not (is_fault x.event)) 1 0) t taken in
    let faults : faults_in (t ∷ taken) ≡ cond (is_fault t.event) 1 0 + faults_in taken = sum_by-cons (λ (x : Timed). cond (is_fault x.event) 1 0) t taken in
    rw (messages, faults) (one_counted (is_fault t.event) (messages_in taken) (faults_in taken) (length taken) (all_counted taken))

length-past_of : (taken : List Timed) → length (past_of taken) ≡ length taken
length-past_of taken = simp (length-reverse, length-map)

-- no more than the bytes within the limit
pub few_moves : (recorder : Recorder) (setting : Setting) (taken : List Timed) (moves : ℕ) → Kept recorder setting taken
    → event_count recorder ≤ 67108864 → moves ≤ length (past_of taken) → moves ≤ 67108864
few_moves recorder setting taken moves kept count few = omega (arith, few, length-past_of taken, all_counted taken, kept.messages, kept.faults, count)
