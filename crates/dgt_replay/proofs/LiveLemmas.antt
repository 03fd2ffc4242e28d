-- How `live` ends.
use Rattle.std.proofs.Common.{◌≡◌, ℕ, List, Bool, inl, inr, refl, subst, sym, arith}
use Rattle.std.specs.Io.KnownBytes.{Keeps}
use Rattle.board_events.specs.declared.setup.Setup.{Setup}
use Rattle.chess_text.specs.Start.{HasNoStart, given}
use Rattle.live_lines.specs.Status.{is_read, is_write, message_of, status_of}
use Rattle.live_lines.specs.Streams.{AttendsAll, EndsBy}
use Rattle.live_lines.specs.declared.stream.AttendError.{AttendError}
use Rattle.live_lines.specs.declared.stream.AttendError.TheVariants.{Read, Write, NoEntry, TooLong, Memory}
use Rattle.replay_arguments.specs.declared.arguments.RecordArguments.{RecordArguments}
use Rattle.replay_arguments.specs.declared.setup.Refusal.{Refusal}
use Rattle.replay_arguments.specs.declared.setup.Refusal.TheVariants.{Fen, Tag as OfTag}
use Rattle.replay_arguments.specs.Setups.{ForMemory, IsFirst}
use Rattle.text_subcommands.specs.Messages.{Says}
use Rattle.text_subcommands.specs.Streams.{Streams}
use Rattle.dgt_replay.specs.Does.{AttendsBoard}

pub attend_done : (setup : Setup) (recovers : Bool) (s : Streams) → AttendsAll setup recovers s.input s.written s.written' → Keeps s.said s.said' → AttendsBoard setup recovers 0 s
attend_done setup recovers s all kept = record {
  done = λ e. (all, kept);
  refused = λ e. absurd (omega arith);
  fault = λ e. absurd (omega arith);
  memory = λ e. absurd (omega arith);
  known = (0, omega arith, refl);
}

-- How each refusal ends.
pub attend_refused : (error : AttendError) (setup : Setup) (recovers : Bool) (status : ℕ) (s : Streams) (message : List ℕ) → status ≡ status_of error → message ≡ message_of error
    → Says s.said s.said' s.err_failed message → EndsBy error setup recovers s.input s.input' s.written s.written' → s.reader_failed ≡ is_read error → s.out_failed ≡ is_write error
    → AttendsBoard setup recovers status s
attend_refused Read setup recovers status s message is are says ends read wrote = record {
  done = λ e. absurd (omega arith);
  refused = λ e. absurd (omega arith);
  fault = λ e. inl (read, wrote, ends, subst (Says s.said s.said' s.err_failed) are says);
  memory = λ e. absurd (omega arith);
  known = (2, omega arith, sym is);
}
attend_refused Write setup recovers status s message is are says ends read wrote = record {
  done = λ e. absurd (omega arith);
  refused = λ e. absurd (omega arith);
  fault = λ e. inr (read, wrote, ends, subst (Says s.said s.said' s.err_failed) are says);
  memory = λ e. absurd (omega arith);
  known = (2, omega arith, sym is);
}
attend_refused NoEntry setup recovers status s message is are says ends read wrote = record {
  done = λ e. absurd (omega arith);
  refused = λ e. inl (ends, subst (Says s.said s.said' s.err_failed) are says);
  fault = λ e. absurd (omega arith);
  memory = λ e. absurd (omega arith);
  known = (1, omega arith, sym is);
}
attend_refused TooLong setup recovers status s message is are says ends read wrote = record {
  done = λ e. absurd (omega arith);
  refused = λ e. inr (ends, subst (Says s.said s.said' s.err_failed) are says);
  fault = λ e. absurd (omega arith);
  memory = λ e. absurd (omega arith);
  known = (1, omega arith, sym is);
}
attend_refused Memory setup recovers status s message is are says ends read wrote = record {
  done = λ e. absurd (omega arith);
  refused = λ e. absurd (omega arith);
  fault = λ e. absurd (omega arith);
  memory = λ e. (inl ends, subst (Says s.said s.said' s.err_failed) are says);
  known = (3, omega arith, sym is);
}

-- No refusal ends with status 0.
pub refused_not_done : {A : Type 0} (error : AttendError) (status : ℕ) → status ≡ status_of error → status ≡ 0 → A
refused_not_done Read status is zero = absurd (omega arith)
refused_not_done Write status is zero = absurd (omega arith)
refused_not_done NoEntry status is zero = absurd (omega arith)
refused_not_done TooLong status is zero = absurd (omega arith)
refused_not_done Memory status is zero = absurd (omega arith)

-- Where no position has the FEN, that is the reason.
pub not_for_memory : (options : RecordArguments) (refusal : Refusal) → IsFirst options refusal → HasNoStart (given options.board.fen) → ForMemory refusal → ⊥
not_for_memory options (Fen error) first none memory = memory
not_for_memory options (OfTag tag error) first none memory = none first.0.0 first.0.1
