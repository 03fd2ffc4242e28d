-- What is said on standard error.
use Rattle.std.proofs.Common.{inl, inr, ◌≡◌, ◌⊎◌, ℕ, ◌<◌, List, [], length, take, drop, codes, Option, Some, None, Result, Ok, Err, OnErr, OnOk, IfErr, Bool, true, false, refl, sym, ◌∙◌, append-nil, arith}
use Rattle.std.proofs.lemmas.List.{take-append-drop}
use Rattle.std.proofs.KnownBytes.{Keeps-refl}
use Rattle.std.specs.Io.KnownBytes.{Appends}
use Rattle.watched_streams.specs.declared.putting.WriteFault.{WriteFault}
use Rattle.watched_streams.specs.Output.{AppendsPart}
use Rattle.text_subcommands.specs.Messages.{Says, Tells}
use Rattle.text_subcommands.specs.declared.input.TextError.{TextError}
use Rattle.text_subcommands.specs.declared.input.TextError.TheVariants.{Memory, Read, TooLong}

-- What a write says: all, or the first bytes where the stream has failed.
pub part_put : {T : Type 0} (r : Result T WriteFault) (said said' : Option (List ℕ)) (message : List ℕ) → OnOk r (Appends said said' message)
    → IfErr r (λ fault. (fault.written < length message) × Appends said said' (take fault.written message)) → AppendsPart said said' message
part_put (Ok done) said said' message all part = (message, [], sym (append-nil message), all)
part_put (Err fault) said said' message all part = (take fault.written message, drop fault.written message, sym (take-append-drop fault.written message), part.1)

pub says_put : {T : Type 0} (r : Result T WriteFault) (said said' : Option (List ℕ)) (failed : Bool) (message : List ℕ) → OnOk r (Appends said said' message)
    → IfErr r (λ fault. (fault.written < length message) × Appends said said' (take fault.written message)) → OnErr r (failed ≡ true) → Says said said' failed message
says_put {T} (Ok done) said said' failed message all part broken = (part_put {T = T} (Ok done) said said' message all part, λ e. all)
says_put {T} (Err fault) said said' failed message all part broken =
    (part_put {T = T} (Err fault) said said' message all part, λ e. let bad : true ≡ false = sym broken ∙ e in cc)

same_bytes : (said : Option (List ℕ)) → Appends said said []
same_bytes None = tt
same_bytes (Some bytes) = sym (append-nil bytes)

-- Where the stream has failed before, nothing more is said.
pub says_nothing : (said : Option (List ℕ)) (failed : Bool) (message : List ℕ) → failed ≡ true → Says said said failed message
says_nothing said failed message broken = (([], message, refl, same_bytes said), λ e. let bad : true ≡ false = sym broken ∙ e in cc)

-- What is said at each status.
pub tells_done : (status : ℕ) (May : List ℕ → Type 0) (said : Option (List ℕ)) (reader_failed out_failed err_failed : Bool) → status ≡ 0
    → Tells status May said said reader_failed out_failed err_failed
tells_done status May said reader_failed out_failed err_failed zero = record {
  done = λ e. Keeps-refl said;
  refused = λ e. absurd (omega arith);
  fault = λ e. absurd (omega arith);
  memory = λ e. absurd (omega arith);
}

pub tells_refused : (status : ℕ) (May : List ℕ → Type 0) (said said' : Option (List ℕ)) (reader_failed out_failed err_failed : Bool) (message : List ℕ) → status ≡ 1
    → May message → Says said said' err_failed message → Tells status May said said' reader_failed out_failed err_failed
tells_refused status May said said' reader_failed out_failed err_failed message one may says = record {
  done = λ e. absurd (omega arith);
  refused = λ e. (message, may, says);
  fault = λ e. absurd (omega arith);
  memory = λ e. absurd (omega arith);
}

pub tells_fault : (status : ℕ) (May : List ℕ → Type 0) (said said' : Option (List ℕ)) (reader_failed out_failed err_failed : Bool) → status ≡ 3
    → ((reader_failed ≡ true) × Says said said' err_failed (codes "read fault\n")) ⊎ ((out_failed ≡ true) × Says said said' err_failed (codes "write fault\n"))
    → Tells status May said said' reader_failed out_failed err_failed
tells_fault status May said said' reader_failed out_failed err_failed three which = record {
  done = λ e. absurd (omega arith);
  refused = λ e. absurd (omega arith);
  fault = λ e. which;
  memory = λ e. absurd (omega arith);
}

pub tells_memory : (status : ℕ) (May : List ℕ → Type 0) (said said' : Option (List ℕ)) (reader_failed out_failed err_failed : Bool) → status ≡ 4
    → Says said said' err_failed (codes "memory\n") → Tells status May said said' reader_failed out_failed err_failed
tells_memory status May said said' reader_failed out_failed err_failed four says = record {
  done = λ e. absurd (omega arith);
  refused = λ e. absurd (omega arith);
  fault = λ e. absurd (omega arith);
  memory = λ e. says;
}

-- What is said where the output is flushed first.
pub tells_or_fault : (status wanted : ℕ) (May : List ℕ → Type 0) (said said' : Option (List ℕ)) (reader_failed out_failed err_failed : Bool) (message : List ℕ)
    → ((status ≡ wanted) × Says said said' err_failed message) ⊎ ((status ≡ 3) × (out_failed ≡ true) × Says said said' err_failed (codes "write fault\n"))
    → (status ≡ wanted → Says said said' err_failed message → Tells status May said said' reader_failed out_failed err_failed)
    → Tells status May said said' reader_failed out_failed err_failed
tells_or_fault status wanted May said said' reader_failed out_failed err_failed message (inl (is, says)) tells = tells is says
tells_or_fault status wanted May said said' reader_failed out_failed err_failed message (inr (three, failed, says)) tells =
    tells_fault status May said said' reader_failed out_failed err_failed three (inr (failed, says))

-- The same with another message that may be written.
pub tells_alike : (status : ℕ) (May Might : List ℕ → Type 0) (said said' : Option (List ℕ)) (reader_failed out_failed err_failed : Bool) → ((message : List ℕ) → May message → Might message)
    → Tells status May said said' reader_failed out_failed err_failed → Tells status Might said said' reader_failed out_failed err_failed
tells_alike status May Might said said' reader_failed out_failed err_failed alike tells = record {
  done = tells.done;
  refused = λ e. (let told = tells.refused e in (told.0, alike told.0 told.1, told.2));
  fault = tells.fault;
  memory = tells.memory;
}

-- Why a text could not be read is one thing.
pub memory_no_read : {A B : Type 0} (read : Result B TextError) → read ≡ Err Memory → read ≡ Err Read → A
memory_no_read read one other = absurd (let bad = sym one ∙ other in cc)

pub long_no_read : {A B : Type 0} (read : Result B TextError) → read ≡ Err TooLong → read ≡ Err Read → A
long_no_read read one other = absurd (let bad = sym one ∙ other in cc)

-- A read that has failed ends with this status, whatever became of the message.
pub ends_three : (status : ℕ) (said said' : Option (List ℕ)) (out_failed err_failed : Bool) (message : List ℕ)
    → ((status ≡ 3) × Says said said' err_failed message) ⊎ ((status ≡ 3) × (out_failed ≡ true) × Says said said' err_failed (codes "write fault\n")) → status ≡ 3
ends_three status said said' out_failed err_failed message (inl (three, says)) = three
ends_three status said said' out_failed err_failed message (inr (three, failed, says)) = three

pub never_done : {A : Type 0} (status wanted : ℕ) (said said' : Option (List ℕ)) (out_failed err_failed : Bool) (message : List ℕ) → 0 < wanted
    → ((status ≡ wanted) × Says said said' err_failed message) ⊎ ((status ≡ 3) × (out_failed ≡ true) × Says said said' err_failed (codes "write fault\n")) → status ≡ 0 → A
never_done status wanted said said' out_failed err_failed message some (inl (is, says)) zero = absurd (omega arith)
never_done status wanted said said' out_failed err_failed message some (inr (three, failed, says)) zero = absurd (omega arith)
