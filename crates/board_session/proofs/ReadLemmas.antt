-- How reading goes on and ends.
use Rattle.std.proofs.Common.{◌≡◌, ℕ, ◌+◌, ◌≤◌, List, [], ◌∷◌, ◌++◌, length, length-append, take, Option, Ok, Err, true, false, refl, sym, subst, ◌∙◌, append_assoc, arith}
use Rattle.std.proofs.lemmas.List.{append-nil, length-take-le}
use Rattle.std.proofs.KnownBytes.{Consumes-kept, Consumes-trans}
use Rattle.std.specs.Io.KnownBytes.{Consumes, IsAtEnd, Keeps}
use Rattle.dgt_frame.specs.declared.events.Event.{Event}
use Rattle.watched_streams.specs.declared.ReadChunk.{ReadChunk}
use Rattle.watched_streams.specs.Input.{GivesChunk}
use Rattle.dgt_frame.specs.Streams.{Timed}
use Rattle.board_session.specs.declared.refusal.RecordError.{RecordError}
use Rattle.board_session.specs.declared.refusal.RecordError.TheVariants.{Memory, Read, Board, Write, TooLong}
use Rattle.board_session.specs.declared.recorder.Recorder.{Recorder}
use Rattle.board_events.specs.Settings.{Setting}
use Rattle.board_events.specs.Commands.{past_of}
use Rattle.board_session.specs.Recording.{Ends, FailsAsking}
use Rattle.board_session.specs.Inside.Recorder.{EndsAtFault, Listened, Live, Stopped, Stops}
use Rattle.board_session.proofs.HearLemmas.{stopped_more}

pub read_failed : (recorder : Recorder) (setting : Setting) (input input' input'' before sent : Option (List ℕ)) (bytes : List ℕ) (taken : List Timed)
    → Consumes input input' bytes → Keeps input' input'' → length bytes ≤ 67108865 → Live recorder setting before sent bytes taken
    → Listened (Err Read) recorder setting input input'' before sent
read_failed recorder setting input input' input'' before sent bytes taken consumes keeps fits live = record {
  read = bytes;
  front = bytes;
  back = [];
  taken = taken;
  extra = [];
  consumes = Consumes-kept input input' input'' bytes consumes keeps;
  bounded = fits;
  parts = sym (append-nil bytes);
  decoded = rw (append-nil taken) live.decoded;
  kept = live.kept;
  ends = (refl, refl);
  sends = live.sends;
}

pub read_ended : (recorder : Recorder) (setting : Setting) (input input' input'' before sent : Option (List ℕ)) (bytes : List ℕ) (taken : List Timed)
    → Consumes input input' bytes → Consumes input' input'' [] → IsAtEnd input'' → length bytes ≤ 67108864 → Live recorder setting before sent bytes taken
    → Listened (Ok tt) recorder setting input input'' before sent
read_ended recorder setting input input' input'' before sent bytes taken consumes none end fits live = record {
  read = bytes;
  front = bytes;
  back = [];
  taken = taken;
  extra = [];
  consumes = subst (λ (bs : List ℕ). Consumes input input'' bs) (append-nil bytes) (Consumes-trans input input' input'' bytes [] consumes none);
  bounded = omega arith;
  parts = sym (append-nil bytes);
  decoded = rw (append-nil taken) live.decoded;
  kept = live.kept;
  ends = (end, fits, refl, refl);
  sends = live.sends;
}

fails_asking : (read : List ℕ) (past : List Event) → EndsAtFault past → FailsAsking read past
fails_asking read [] h = absurd h
fails_asking read (event ∷ past) h = h

ends_so : (error : RecordError) (setting : Setting) (input : Option (List ℕ)) (front back : List ℕ) (taken extra : List Timed)
    → Stops setting error taken extra → Ends setting (Err error) input front back taken extra
ends_so Memory setting input front back taken extra h = h
ends_so Read setting input front back taken extra h = absurd h
ends_so Board setting input front back taken extra h = (fails_asking (front ++ back) (past_of taken) h.0, h.1)
ends_so Write setting input front back taken extra h = absurd h
ends_so TooLong setting input front back taken extra h = absurd h

-- The recorder has stopped within a chunk.
pub stopped_in_chunk : (error : RecordError) (recorder : Recorder) (setting : Setting) (input input' input'' before sent : Option (List ℕ)) (bytes buffer : List ℕ) (left : ℕ) (chunk : ReadChunk)
    → Consumes input input' bytes → GivesChunk left buffer chunk input' input'' → length bytes + left ≡ 67108864
    → Stopped error recorder setting before sent (bytes ++ take chunk.within buffer)
    → Listened (Err error) recorder setting input input'' before sent
stopped_in_chunk error recorder setting input input' input'' before sent bytes buffer left chunk consumes gives room stopped =
    let heard = take chunk.within buffer in
    let whole = stopped_more error recorder setting before sent (bytes ++ heard) gives.beyond stopped in
    record {
      read = bytes ++ (heard ++ gives.beyond);
      front = whole.front;
      back = whole.back;
      taken = whole.taken;
      extra = whole.extra;
      consumes = Consumes-trans input input' input'' bytes (heard ++ gives.beyond) consumes gives.consumes;
      bounded = omega (arith, length-append bytes (heard ++ gives.beyond), gives.bounded, room);
      parts = sym (append_assoc bytes heard gives.beyond) ∙ whole.parts;
      decoded = whole.decoded;
      kept = whole.kept;
      ends = ends_so error setting input'' whole.front whole.back whole.taken whole.extra whole.stops;
      sends = whole.sends;
    }

-- A byte past the limit was read.
pub too_long : (recorder : Recorder) (setting : Setting) (input input' input'' before sent : Option (List ℕ)) (bytes buffer : List ℕ) (left : ℕ) (chunk : ReadChunk) (taken : List Timed)
    → Consumes input input' bytes → GivesChunk left buffer chunk input' input'' → length bytes + left ≡ 67108864 → chunk.past ≡ true
    → Live recorder setting before sent (bytes ++ take chunk.within buffer) taken
    → Listened (Err TooLong) recorder setting input input'' before sent
too_long recorder setting input input' input'' before sent bytes buffer left chunk taken consumes gives room past live =
    let heard = take chunk.within buffer in record {
      read = bytes ++ (heard ++ gives.beyond);
      front = bytes ++ heard;
      back = gives.beyond;
      taken = taken;
      extra = [];
      consumes = Consumes-trans input input' input'' bytes (heard ++ gives.beyond) consumes gives.consumes;
      bounded = omega (arith, length-append bytes (heard ++ gives.beyond), gives.bounded, room);
      parts = sym (append_assoc bytes heard gives.beyond);
      decoded = rw (append-nil taken) live.decoded;
      kept = live.kept;
      ends = (
        omega (arith, length-append bytes heard, length-take-le chunk.within buffer gives.fits, (gives.one_past past).0, room),
        (gives.one_past past).1,
        refl,
      );
      sends = live.sends;
    }

-- The whole chunk lies within the limit.
pub goes_on : (recorder : Recorder) (setting : Setting) (input input' input'' before sent : Option (List ℕ)) (bytes buffer : List ℕ) (left : ℕ) (chunk : ReadChunk) (count : ℕ) (taken : List Timed)
    → Consumes input input' bytes → GivesChunk left buffer chunk input' input'' → chunk.past ≡ false → length bytes ≡ count
    → Live recorder setting before sent (bytes ++ take chunk.within buffer) taken
    → (bytes' : List ℕ) × (taken' : List Timed) × (length bytes' ≡ count + chunk.within) × Consumes input input'' bytes' × Live recorder setting before sent bytes' taken'
goes_on recorder setting input input' input'' before sent bytes buffer left chunk count taken consumes gives within size live =
    let heard = take chunk.within buffer in (
      bytes ++ heard,
      taken,
      omega (arith, length-append bytes heard, length-take-le chunk.within buffer gives.fits, size),
      Consumes-trans input input' input'' bytes heard consumes (gives.none_past within).2,
      live,
    )
