-- What becomes of a capture that is answered.
use Rattle.std.proofs.Common.{◌≡◌, ◌⊎◌, ◌<◌, ℕ, Bool, true, false, List, Option, Some, None, codes, length, inl, inr, refl, sym, subst, arith}
use Rattle.std.specs.Prelude.{IfSome}
use Rattle.std.specs.Io.KnownBytes.{Keeps}
use Rattle.board_captures.specs.Reading.{IsTooLong}
use Rattle.board_events.specs.Settings.{Setting}
use Rattle.text_subcommands.specs.Messages.{Says}
use Rattle.dgt_replay.specs.Edit.{IsAnswered, Puts}
use Rattle.dgt_replay.specs.Inside.Editing.{PutsAnswer}

pub puts_memory : (Answers : List ℕ → Option (List ℕ) → List ℕ → Type 0) (IsLong : List ℕ → Type 0) (input : Option (List ℕ)) (status : ℕ) (written written' said said' : Option (List ℕ)) (out_failed err_failed : Bool) → Keeps written written'
    → ((status ≡ 4) × Says said said' err_failed (codes "memory\n")) ⊎ ((status ≡ 3) × (out_failed ≡ true) × Says said said' err_failed (codes "write fault\n"))
    → Puts Answers IsLong input status written written' said said' out_failed err_failed
puts_memory Answers IsLong input status written written' said said' out_failed err_failed kept (inl (four, says)) = record {
  done = λ e. absurd (omega arith);
  refused = λ e. absurd (omega arith);
  fault = λ e. absurd (omega arith);
  memory = λ e. (kept, says);
  known = (3, omega arith, sym four);
}
puts_memory Answers IsLong input status written written' said said' out_failed err_failed kept (inr (three, failed, says)) = record {
  done = λ e. absurd (omega arith);
  refused = λ e. absurd (omega arith);
  fault = λ e. inl (failed, says);
  memory = λ e. absurd (omega arith);
  known = (2, omega arith, sym three);
}

pub puts_long : (Answers : List ℕ → Option (List ℕ) → List ℕ → Type 0) (IsLong : List ℕ → Type 0) (input : Option (List ℕ)) (status : ℕ) (written written' said said' : Option (List ℕ)) (out_failed err_failed : Bool) → Keeps written written'
    → IfSome input IsLong
    → ((status ≡ 1) × Says said said' err_failed (codes "input: too long\n")) ⊎ ((status ≡ 3) × (out_failed ≡ true) × Says said said' err_failed (codes "write fault\n"))
    → Puts Answers IsLong input status written written' said said' out_failed err_failed
puts_long Answers IsLong input status written written' said said' out_failed err_failed kept long (inl (one, says)) = record {
  done = λ e. absurd (omega arith);
  refused = λ e. inr (long, kept, says);
  fault = λ e. absurd (omega arith);
  memory = λ e. absurd (omega arith);
  known = (1, omega arith, sym one);
}
puts_long Answers IsLong input status written written' said said' out_failed err_failed kept long (inr (three, failed, says)) = record {
  done = λ e. absurd (omega arith);
  refused = λ e. absurd (omega arith);
  fault = λ e. inl (failed, says);
  memory = λ e. absurd (omega arith);
  known = (2, omega arith, sym three);
}

past_limit : (setting : Setting) (recovers : Bool) (bytes : List ℕ) → 67108864 < length bytes → IsTooLong setting recovers bytes
past_limit setting false bytes long = long
past_limit setting true bytes long = inl long

pub input_long : (setting : Setting) (recovers : Bool) (input : Option (List ℕ)) → IfSome input (λ bytes. 67108864 < length bytes) → IfSome input (λ bytes. IsTooLong setting recovers bytes)
input_long setting recovers None long = tt
input_long setting recovers (Some bytes) long = past_limit setting recovers bytes long

answer_at : (Answers : List ℕ → Option (List ℕ) → List ℕ → Type 0) (text : List ℕ) (made : Option (List ℕ)) (line : List ℕ) → IsAnswered Answers (Some text) made line
    → IsAnswered Answers None made line
answer_at Answers text made line is = (is.0, tt, is.2)

-- The input is the text that was read.
pub puts_at : (Answers : List ℕ → Option (List ℕ) → List ℕ → Type 0) (IsLong : List ℕ → Type 0) (text : List ℕ) (input : Option (List ℕ)) (status : ℕ) (written written' said said' : Option (List ℕ)) (out_failed err_failed : Bool)
    → IfSome input (λ bytes. text ≡ bytes) → Puts Answers IsLong (Some text) status written written' said said' out_failed err_failed
    → Puts Answers IsLong input status written written' said said' out_failed err_failed
puts_at Answers IsLong text (Some bytes) status written written' said said' out_failed err_failed whole puts =
    let P : List ℕ → Type 0 = λ bs. Puts Answers IsLong (Some bs) status written written' said said' out_failed err_failed in
    subst P whole puts
puts_at Answers IsLong text None status written written' said said' out_failed err_failed whole puts = record {
  done = λ e. (let d = puts.done e in (d.0, d.1, answer_at Answers text d.0 d.1 d.2, d.3, d.4));
  refused = λ e. elim (puts.refused e) [
    | inl d ↦ inl (d.0, d.1, answer_at Answers text d.0 d.1 d.2, d.3, d.4)
    | inr d ↦ inr (tt, d.1, d.2)
  ];
  fault = λ e. elim (puts.fault e) [
    | inl d ↦ inl d
    | inr d ↦ inr (d.0, (d.1.0, d.1.1, answer_at Answers text d.1.0 d.1.1 d.1.2, d.1.3, d.1.4))
  ];
  memory = puts.memory;
  known = puts.known;
}

pub read_ends : (status : ℕ) (written written' said said' : Option (List ℕ)) (out_failed err_failed : Bool) → Keeps written written'
    → ((status ≡ 3) × Says said said' err_failed (codes "read fault\n")) ⊎ ((status ≡ 3) × (out_failed ≡ true) × Says said said' err_failed (codes "write fault\n"))
    → (status ≡ 3) × Keeps written written' × (Says said said' err_failed (codes "read fault\n") ⊎ ((out_failed ≡ true) × Says said said' err_failed (codes "write fault\n")))
read_ends status written written' said said' out_failed err_failed kept (inl (three, says)) = (three, kept, inl says)
read_ends status written written' said said' out_failed err_failed kept (inr (three, failed, says)) = (three, kept, inr (failed, says))

-- An answer that is put is that of its capture.
pub puts_of : (Answers : List ℕ → Option (List ℕ) → List ℕ → Type 0) (IsLong : List ℕ → Type 0) (capture : List ℕ) (made : Option (List ℕ)) (line : List ℕ) (status : ℕ) (written written' said said' : Option (List ℕ)) (out_failed err_failed : Bool)
    → Answers capture made line → PutsAnswer made line status written written' said said' out_failed err_failed
    → Puts Answers IsLong (Some capture) status written written' said said' out_failed err_failed
puts_of Answers IsLong capture made line status written written' said said' out_failed err_failed answers puts = record {
  done = λ e. (let d = puts.done e in (made, line, (capture, refl, answers), d.0, d.1));
  refused = λ e. (let d = puts.refused e in inl (made, line, (capture, refl, answers), d.0, d.1));
  fault = λ e. elim (puts.fault e) [
    | inl h ↦ inl h
    | inr h ↦ inr (h.0, (made, line, (capture, refl, answers), h.1, h.2))
  ];
  memory = puts.memory;
  known = puts.known;
}
