-- How what was heard grows by a byte and by a chunk.
use Rattle.std.proofs.Common.{arith, zero-add, Bool, true, false, not, cond, count_by, if◌then◌else◌, ◌≡◌, ℕ, ◌+◌, List, [], ◌∷◌, ◌++◌, take, drop, take-add, Option, Result, Ok, Err, IfErr, OnOk, OnErr, MatchResult, refl, sym, ◌∙◌, ap, append_assoc}
use Rattle.std.proofs.lemmas.List.{append-nil, take-append-drop}
use Rattle.std.proofs.lemmas.List.Sums.{sum_by-append}
use Rattle.std.specs.Prelude.{⊤}
use Rattle.std.proofs.KnownBytes.{Appends-kept, Appends-trans}
use Rattle.std.specs.Io.KnownBytes.{Appends}
use Rattle.dgt_frame.specs.declared.events.Event.{Event}
use Rattle.dgt_frame.specs.Decoder.{Decoded}
use Rattle.dgt_frame.specs.Streams.{Timed}
use Rattle.board_session.specs.declared.refusal.RecordError.{RecordError}
use Rattle.board_session.specs.declared.refusal.RecordError.TheVariants.{Memory, Read, Board, Write, TooLong}
use Rattle.board_session.specs.declared.recorder.Recorder.{Recorder}
use Rattle.board_events.specs.Settings.{Setting}
use Rattle.board_events.specs.Commands.{asked, commands, faults_in, messages_in, past_of}
use Rattle.board_events.specs.History.{is_fault}
use Rattle.board_events.specs.Session.{HasTakenEvents}
use Rattle.watched_streams.specs.Output.{AppendsPart}
use Rattle.watched_streams.proofs.OutputLemmas.{part_behind}
use Rattle.board_events.proofs.CommandLemmas.{at, past_more, commands_more}
use Rattle.board_session.specs.Inside.Recorder.{Kept, Live, Stopped, TakesEvent}

-- one more event was counted
counted_more : (p : Event → Bool) (taken : List Timed) (offset : ℕ) (event : Event)
    → count_by (λ (t : Timed). p t.event) (taken ++ at offset event ∷ []) ≡ count_by (λ (t : Timed). p t.event) taken + cond (p event) 1 0
counted_more p taken offset event = sum_by-append (λ (t : Timed). cond (p t.event) 1 0) taken (at offset event ∷ [])
    ∙ ap (λ (n : ℕ). count_by (λ (t : Timed). p t.event) taken + n) (zero-add (cond (p event) 1 0))

counted_fault : (b : Bool) (n : ℕ) → n + cond b 1 0 ≡ (if b then n + 1 else n)
counted_fault true n = refl
counted_fault false n = omega arith

counted_message : (b : Bool) (n : ℕ) → n + cond (not b) 1 0 ≡ (if b then n else n + 1)
counted_message true n = omega arith
counted_message false n = refl

pub kept_more : (old new : Recorder) (setting : Setting) (taken : List Timed) (offset : ℕ) (event : Event) → Kept old setting taken
    → HasTakenEvents new.session setting (event ∷ past_of taken)
    → new.messages ≡ (if is_fault event then old.messages else old.messages + 1)
    → new.faults ≡ (if is_fault event then old.faults + 1 else old.faults)
    → Kept new setting (taken ++ at offset event ∷ [])
kept_more old new setting taken offset event kept stands messages faults = record {
  session = rw (past_more taken offset event) stands;
  messages = messages ∙ ap (λ (n : ℕ). if is_fault event then n else n + 1) kept.messages ∙ sym (counted_message (is_fault event) (messages_in taken))
      ∙ sym (counted_more (λ (e : Event). not (is_fault e)) taken offset event);
  faults = faults ∙ ap (λ (n : ℕ). if is_fault event then n + 1 else n) kept.faults ∙ sym (counted_fault (is_fault event) (faults_in taken))
      ∙ sym (counted_more is_fault taken offset event);
}

-- At a fault a dump is asked for.
pub fault_taken : (recorder : Recorder) (setting : Setting) (taken : List Timed) (offset : ℕ) (event : Event) (sent sent' : Option (List ℕ))
    (result : Result ⊤ RecordError) → Kept recorder setting (taken ++ at offset event ∷ []) → is_fault event ≡ true → IfErr result (λ error. error ≡ Board)
    → OnOk result (Appends sent sent' (0x42 ∷ [])) → OnErr result (AppendsPart sent sent' (0x42 ∷ []))
    → TakesEvent recorder setting taken offset event result sent sent'
fault_taken recorder setting taken offset event sent sent' (Ok done) kept fault cause sends part = (kept, rw fault sends)
fault_taken recorder setting taken offset event sent sent' (Err error) kept fault cause sends part = rw cause (kept, rw fault part, fault)

pub event_heard : (recorder : Recorder) (setting : Setting) (before sent sent' : Option (List ℕ)) (read : List ℕ) (offset : ℕ) (taken : List Timed) (event : Event)
    (result : Result ⊤ RecordError) → Decoded recorder.decoder read (taken ++ at offset event ∷ []) → Appends before sent (commands taken)
    → TakesEvent recorder setting taken offset event result sent sent' → MatchResult result
    (λ done. (later : List Timed) × Live recorder setting before sent' read (taken ++ later))
    (λ error. Stopped error recorder setting before sent' read)
event_heard recorder setting before sent sent' read offset taken event (Ok done) decoded sends takes = (
  at offset event ∷ [],
  record { decoded = decoded; kept = takes.0; sends = rw (commands_more taken offset event) (Appends-trans before sent sent' (commands taken) (asked event) sends takes.1) },
)
event_heard recorder setting before sent sent' read offset taken event (Err Memory) decoded sends takes = record {
  front = read;
  back = [];
  taken = taken;
  extra = at offset event ∷ [];
  parts = sym (append-nil read);
  decoded = decoded;
  kept = takes.0;
  stops = (at offset event, refl, takes.2);
  sends = Appends-kept before sent sent' (commands taken) sends takes.1;
}
event_heard recorder setting before sent sent' read offset taken event (Err Board) decoded sends takes = record {
  front = read;
  back = [];
  taken = taken ++ at offset event ∷ [];
  extra = [];
  parts = sym (append-nil read);
  decoded = rw (append-nil (taken ++ at offset event ∷ [])) decoded;
  kept = takes.0;
  stops = (rw (past_more taken offset event) takes.2, refl);
  sends = rw (commands_more taken offset event) (part_behind before sent sent' (commands taken) (asked event) sends takes.1);
}
event_heard recorder setting before sent sent' read offset taken event (Err Read) decoded sends takes = absurd takes
event_heard recorder setting before sent sent' read offset taken event (Err Write) decoded sends takes = absurd takes
event_heard recorder setting before sent sent' read offset taken event (Err TooLong) decoded sends takes = absurd takes

-- What stopped within some bytes has stopped within more.
pub stopped_more : (error : RecordError) (recorder : Recorder) (setting : Setting) (before sent : Option (List ℕ)) (read more : List ℕ)
    → Stopped error recorder setting before sent read → Stopped error recorder setting before sent (read ++ more)
stopped_more error recorder setting before sent read more h = record {
  front = h.front;
  back = h.back ++ more;
  taken = h.taken;
  extra = h.extra;
  parts = ap (λ (bytes : List ℕ). bytes ++ more) h.parts ∙ append_assoc h.front h.back more;
  decoded = h.decoded;
  kept = h.kept;
  stops = h.stops;
  sends = h.sends;
}

-- a chunk, part by part
pub chunk_more : (bytes chunk : List ℕ) (i n : ℕ) → (bytes ++ take i chunk) ++ take n (drop i chunk) ≡ bytes ++ take (i + n) chunk
chunk_more bytes chunk i n = append_assoc bytes (take i chunk) (take n (drop i chunk)) ∙ ap (λ (xs : List ℕ). bytes ++ xs) (sym (take-add i n chunk))

pub chunk_whole : (bytes chunk : List ℕ) (i : ℕ) → (bytes ++ take i chunk) ++ drop i chunk ≡ bytes ++ chunk
chunk_whole bytes chunk i = append_assoc bytes (take i chunk) (drop i chunk) ∙ ap (λ (xs : List ℕ). bytes ++ xs) (take-append-drop i chunk)

pub live_at : (recorder : Recorder) (setting : Setting) (before sent : Option (List ℕ)) (bytes bytes' : List ℕ) (taken taken' : List Timed)
    → bytes ≡ bytes' → taken ≡ taken' → Live recorder setting before sent bytes taken → Live recorder setting before sent bytes' taken'
live_at recorder setting before sent bytes bytes' taken taken' e f h = rw (← e, ← f) h
