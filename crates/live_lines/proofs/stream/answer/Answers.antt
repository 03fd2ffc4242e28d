use Rattle.std.proofs.Common.{◌≡◌, ◌∷◌, [], ◌++◌, ℕ, List, ap, ◌∙◌, subst, sym, append-nil}
use Rattle.std.specs.Io.KnownBytes.{Appends}
use Rattle.watched_streams.specs.Output.{AppendsPart}
use Rattle.watched_streams.specs.Watch.{inner_of}
use Rattle.live_lines.specs.declared.stream.AttendError.{AttendError}
use Rattle.live_lines.specs.Entries.{entry_text}
use Rattle.live_lines.specs.Inside.Progress.{BreaksOff}
use Rattle.live_lines.proofs.StreamLemmas.{answered_nothing, attended_on, attends_of}
use Rattle.live_lines.proofs.stream.answer.Goals as goal

pub returns-in_default-clause-broken : goal.returns-in_default-clause-broken
returns-in_default-clause-broken g c = λ setup recovers before said a. (
  entry_text c.args.entry c.args.bytes.now,
  answered_nothing c.args.recorder.now setup recovers before said (entry_text c.args.entry c.args.bytes.now) (g.O.Write.contents (inner_of c.args.out.now)) a,
)

pub returns-clause-ok : goal.returns-clause-ok
returns-clause-ok g c = λ setup recovers before said a.
    let written = g.O.Write.contents (inner_of c.args.out.now) in
    let later = g.O.Write.contents (inner_of c.send.new.out) in
    let bytes : List ℕ = c.args.bytes.now in
    let t = c.in-Ok.ensures.stands setup recovers a.past a.report a.stands in
    let last : List ℕ = t.2 in
    let is : c.as_slice.result.now ≡ last = c.as_slice.ensures.value ∙ t.6 ∙ ap (λ x. x ++ last) c.clear.ensures.items in
    let P : List ℕ → Type 0 = λ x. Appends written later x in (
      entry_text c.args.entry bytes,
      last,
      sym (append-nil (entry_text c.args.entry bytes)),
      attended_on c.args.recorder.now c.take.new.self setup recovers before said c.args.entry bytes t.0 t.1 last a c.requires.whole t.3 t.4 t.5 t.7 t.8
          (c.conclude.ensures setup recovers (t.0 ∷ a.past) (a.report ++ t.1) t.8),
      subst P is c.in_default-send.ensures.ok,
    )

pub returns-in-Err-clause-broken : goal.returns-in-Err-clause-broken
returns-in-Err-clause-broken g c = λ setup recovers before said a.
    let written = g.O.Write.contents (inner_of c.args.out.now) in
    let later = g.O.Write.contents (inner_of c.send.new.out) in
    let bytes : List ℕ = c.args.bytes.now in
    let text : List ℕ = entry_text c.args.entry bytes in
    let t = c.in-Ok.ensures.stands setup recovers a.past a.report a.stands in
    let last : List ℕ = t.2 in
    let is : c.as_slice.result.now ≡ last = c.as_slice.ensures.value ∙ t.6 ∙ ap (λ x. x ++ last) c.clear.ensures.items in
    let P : List ℕ → Type 0 = λ x. AppendsPart written later x in
    let F : AttendError → Type 0 = λ error. BreaksOff error setup recovers before said text written later in
    subst F (sym c.in-Err.ensures.cause) (
      text,
      [],
      last,
      sym (append-nil text),
      attends_of c.take.new.self setup recovers (before ++ text) (said ++ last)
          (attended_on c.args.recorder.now c.take.new.self setup recovers before said c.args.entry bytes t.0 t.1 last a c.requires.whole t.3 t.4 t.5 t.7 t.8
          (c.conclude.ensures setup recovers (t.0 ∷ a.past) (a.report ++ t.1) t.8)),
      subst P is c.in-Err.ensures.part,
    )
