-- How a recording ends that was given up.
use Rattle.std.proofs.Common.{◌≡◌, ◌≢◌, ◌≤◌, ℕ, Bool, true, false, refl, inl, inr, arith, sym, ◌∙◌}
use Rattle.board_events.specs.declared.setup.Setup.{Setup}
use Rattle.board_session.specs.declared.refusal.RecordError.{RecordError}
use Rattle.board_session.specs.declared.refusal.RecordError.TheVariants.{Memory, Read, Board, Write, TooLong}
use Rattle.text_subcommands.specs.Streams.{Streams}
use Rattle.dgt_replay.specs.Recorded.{EndsFor, Fails}
use Rattle.dgt_replay.specs.Inside.Refused.{status_of}

pub status_known : (error : RecordError) (status : ℕ) → status ≡ status_of error → (status ≢ 0) × (status ≢ 2) × (status ≤ 4)
status_known Memory status is = (λ e. absurd (omega arith), λ e. absurd (omega arith), omega arith)
status_known Read status is = (λ e. absurd (omega arith), λ e. absurd (omega arith), omega arith)
status_known Board status is = (λ e. absurd (omega arith), λ e. absurd (omega arith), omega arith)
status_known Write status is = (λ e. absurd (omega arith), λ e. absurd (omega arith), omega arith)
status_known TooLong status is = (λ e. absurd (omega arith), λ e. absurd (omega arith), omega arith)

-- What each status says of it.
pub given_up_long : (error : RecordError) (status : ℕ) (setup : Setup) (s : Streams) → status ≡ status_of error → EndsFor error setup s → status ≡ 1 → EndsFor TooLong setup s
given_up_long Memory status setup s is ends one = absurd (omega arith)
given_up_long Read status setup s is ends one = absurd (omega arith)
given_up_long Board status setup s is ends one = absurd (omega arith)
given_up_long Write status setup s is ends one = absurd (omega arith)
given_up_long TooLong status setup s is ends one = ends

pub given_up_for_memory : (error : RecordError) (status : ℕ) (setup : Setup) (s : Streams) → status ≡ status_of error → EndsFor error setup s → status ≡ 4 → EndsFor Memory setup s
given_up_for_memory Memory status setup s is ends four = ends
given_up_for_memory Read status setup s is ends four = absurd (omega arith)
given_up_for_memory Board status setup s is ends four = absurd (omega arith)
given_up_for_memory Write status setup s is ends four = absurd (omega arith)
given_up_for_memory TooLong status setup s is ends four = absurd (omega arith)

pub given_up_for_fault : (error : RecordError) (status : ℕ) (setup : Setup) (s : Streams) → status ≡ status_of error → EndsFor error setup s
    → (error ≡ Read → s.reader_failed ≡ true) → (error ≡ Board → s.err_failed ≡ true) → (error ≡ Write → s.out_failed ≡ true) → status ≡ 3 → Fails setup s
given_up_for_fault Memory status setup s is ends read board write three = absurd (omega arith)
given_up_for_fault Read status setup s is ends read board write three = inl (read refl, ends)
given_up_for_fault Board status setup s is ends read board write three = inr (inr (board refl, inl ends))
given_up_for_fault Write status setup s is ends read board write three = inr (inl (write refl, ends))
given_up_for_fault TooLong status setup s is ends read board write three = absurd (omega arith)

-- Where the output has failed, the status tells of it.
pub out_failed_three : (error : RecordError) (status : ℕ) (failed : Bool) → status ≡ status_of error → (error ≢ Write → failed ≡ false) → failed ≡ true → status ≡ 3
out_failed_three Memory status failed is working broken = absurd (let bad : true ≡ false = sym broken ∙ working (λ e. (cc)) in cc)
out_failed_three Read status failed is working broken = is
out_failed_three Board status failed is working broken = is
out_failed_three Write status failed is working broken = is
out_failed_three TooLong status failed is working broken = absurd (let bad : true ≡ false = sym broken ∙ working (λ e. (cc)) in cc)
