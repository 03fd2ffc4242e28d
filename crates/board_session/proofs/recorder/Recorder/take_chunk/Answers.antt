use Rattle.std.proofs.Common.{◌≡◌, ℕ, ◌+◌, ◌-◌, ◌<◌, ◌≤◌, List, [], ◌++◌, length, length-drop, take, take_all, drop, arith, append-nil, append_assoc, subst, sym, IfSome, IfNone, Ok, Err}
use Rattle.std.proofs.lemmas.Result.{err_from_is_err_and}
use Rattle.dgt_frame.specs.Decoder.{TakesAll, TakesUpTo}
use Rattle.watched_streams.specs.Watch.{inner_of}
use Rattle.board_session.specs.Inside.Recorder.{Kept, Stopped}
use Rattle.board_session.proofs.HearLemmas.{event_heard, live_at, chunk_more, chunk_whole, stopped_more}
use Rattle.board_session.proofs.recorder.Recorder.take_chunk.Goals as goal

pub events-init : goal.events-init
events-init g c = record {
  inside = omega arith;
  fed = c.requires.fed;
  working = c.requires.working;
  flushed = λ was. was;
  count = omega arith;
  hears = λ setting before bytes taken live. (
    [],
    live_at c.args.self.now setting before (g.B.Write.contents (inner_of c.args.board.now)) bytes (bytes ++ []) taken (taken ++ [])
        (sym (append-nil bytes)) (sym (append-nil taken)) live,
  );
}

pub events-preserved : goal.events-preserved
events-preserved g c =
    let chunk = c.args.chunk.now in
    let at = c.events.at in
    let n = c.in-Some.taken in
    let event = c.push_into.new.event in
    let more = drop at chunk in
    let all : take (length chunk - at) more ≡ more = take_all (length chunk - at) more (omega (arith, length-drop at chunk)) in
    let some : TakesUpTo c.events.self.decoder (take (length chunk - at) more) n event c.push_into.new.self =
    subst (λ found. IfSome found (λ size. TakesUpTo c.events.self.decoder (take (length chunk - at) more) size event c.push_into.new.self)) c.in-Some.is c.push_into.ensures.some in
    let takes : TakesUpTo c.events.self.decoder more n event c.push_into.new.self = rw all at some in
    let counts : (0 < n) × (n ≤ length (take (length chunk - at) more)) =
    subst (λ found. IfSome found (λ size. (0 < size) × (size ≤ length (take (length chunk - at) more)))) c.in-Some.is c.push_into.ensures.taken in
    let inside : n ≤ length more = rw all at counts.1 in
    let any : 0 < n = counts.0 in
    let fed = c.events.invariant.fed in
    record {
      inside = omega (arith, inside, length-drop at chunk);
      fed = (_, _, rw (← c.take_event.ensures.decoder) at (takes fed.0 fed.1 fed.2));
      working = c.in_ok-take_event.ensures.working;
      flushed = λ was. c.take_event.ensures.flushed (c.events.invariant.flushed was);
      count = omega (arith, c.take_event.ensures.count, c.events.invariant.count, any);
      hears = λ setting before bytes taken h.
          let live = c.events.invariant.hears setting before bytes taken h in
          let read = bytes ++ take at chunk in
          let offset = length read + (n - 1) in
          let kept : Kept (record c.events.self { decoder = c.push_into.new.self }) setting (taken ++ live.0) =
          record { session = live.1.kept.session; messages = live.1.kept.messages; faults = live.1.kept.faults } in
          let heard = event_heard c.take_event.new.self setting before (g.B.Write.contents (inner_of c.events.board)) (g.B.Write.contents (inner_of c.take_event.new.board))
          (read ++ take n more) offset (taken ++ live.0) event (Ok tt) (rw c.take_event.ensures.decoder (takes read (taken ++ live.0) live.1.decoded)) live.1.sends
          (c.in_ok-take_event.ensures.taken setting (taken ++ live.0) offset kept) in (
            live.0 ++ heard.0,
            live_at c.take_event.new.self setting before (g.B.Write.contents (inner_of c.take_event.new.board))
                (read ++ take n more) (bytes ++ take (at + n) chunk) ((taken ++ live.0) ++ heard.0) (taken ++ (live.0 ++ heard.0))
                (chunk_more bytes chunk at n) (append_assoc taken live.0 heard.0) heard.1,
          );
    }

pub returns-in_err-take_event-clause-hears : goal.returns-in_err-take_event-clause-hears
returns-in_err-take_event-clause-hears g c = let p = err_from_is_err_and c.from_residual.result c.from_residual.ensures.1 in rw (p.1, p.2) (λ setting before bytes taken h.
    let error = c.in_err-take_event.field-0.0 in
    let chunk = c.args.chunk.now in
    let at = c.events.at in
    let n = c.in-Some.taken in
    let event = c.push_into.new.event in
    let more = drop at chunk in
    let sent = g.B.Write.contents (inner_of c.take_event.new.board) in
    let all : take (length chunk - at) more ≡ more = take_all (length chunk - at) more (omega (arith, length-drop at chunk)) in
    let some : TakesUpTo c.events.self.decoder (take (length chunk - at) more) n event c.push_into.new.self =
    subst (λ found. IfSome found (λ size. TakesUpTo c.events.self.decoder (take (length chunk - at) more) size event c.push_into.new.self)) c.in-Some.is c.push_into.ensures.some in
    let takes : TakesUpTo c.events.self.decoder more n event c.push_into.new.self = rw all at some in
    let live = c.events.invariant.hears setting before bytes taken h in
    let read = bytes ++ take at chunk in
    let offset = length read + (n - 1) in
    let kept : Kept (record c.events.self { decoder = c.push_into.new.self }) setting (taken ++ live.0) =
    record { session = live.1.kept.session; messages = live.1.kept.messages; faults = live.1.kept.faults } in
    let stopped : Stopped error c.take_event.new.self setting before sent (read ++ take n more) =
    event_heard c.take_event.new.self setting before (g.B.Write.contents (inner_of c.events.board)) sent
    (read ++ take n more) offset (taken ++ live.0) event (Err error) (rw c.take_event.ensures.decoder (takes read (taken ++ live.0) live.1.decoded)) live.1.sends
    (c.in_err-take_event.ensures.taken setting (taken ++ live.0) offset kept) in
    subst (λ (bs : List ℕ). Stopped error c.take_event.new.self setting before sent bs) (chunk_whole bytes chunk (at + n))
    (stopped_more error c.take_event.new.self setting before sent (bytes ++ take (at + n) chunk) (drop (at + n) chunk)
    (subst (λ (bs : List ℕ). Stopped error c.take_event.new.self setting before sent bs) (chunk_more bytes chunk at n) stopped)))

pub returns-clause-hears : goal.returns-clause-hears
returns-clause-hears g c = λ setting before bytes taken h.
    let chunk = c.args.chunk.now in
    let at = c.events.at in
    let more = drop at chunk in
    let all : take (length chunk - at) more ≡ more = take_all (length chunk - at) more (omega (arith, length-drop at chunk)) in
    let none : TakesAll c.events.self.decoder (take (length chunk - at) more) c.push_into.new.self =
    subst (λ found. IfNone found (TakesAll c.events.self.decoder (take (length chunk - at) more) c.push_into.new.self)) c.in_default.is c.push_into.ensures.none in
    let takes : TakesAll c.events.self.decoder more c.push_into.new.self = rw all at none in
    let live = c.events.invariant.hears setting before bytes taken h in (
      live.0,
      record {
        decoded = rw (← (chunk_whole bytes chunk at)) (takes (bytes ++ take at chunk) (taken ++ live.0) live.1.decoded);
        kept = record { session = live.1.kept.session; messages = live.1.kept.messages; faults = live.1.kept.faults };
        sends = live.1.sends;
      },
    )
