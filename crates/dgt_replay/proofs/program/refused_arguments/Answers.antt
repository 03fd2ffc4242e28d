use Rattle.std.proofs.Common.{◌≡◌, ◌≢◌, ◌⊎◌, ℕ, List, [], Bool, true, Option, arith, codes, inl, inr, refl, rules}
use Rattle.std.proofs.KnownBytes.{Keeps-refl}
use Rattle.std.specs.Io.KnownBytes.{Appends, Keeps}
use Rattle.text_subcommands.specs.Messages.{Says}
use Rattle.watched_streams.specs.Watch.{has_failed, inner_of}
use Rattle.dgt_replay.specs.Messages.{GivesText}
use Rattle.dgt_replay.proofs.program.refused_arguments.Goals as goal

pub returns-then-use_stderr-clause-refuses : goal.returns-then-use_stderr-clause-refuses
returns-then-use_stderr-clause-refuses g c not_help not_version =
    (refl, inl (c.refused-then-use_stderr.ensures.status, (c.or_where_help_is-text.result.now, c.or_where_help_is-text.ensures.not_empty, c.refused-then-use_stderr.ensures.says)))

pub returns-then-use_stderr-clause-help : goal.returns-then-use_stderr-clause-help
returns-then-use_stderr-clause-help g c = search rules

pub returns-then-use_stderr-clause-works : goal.returns-then-use_stderr-clause-works
returns-then-use_stderr-clause-works g c zero = let two = c.refused-then-use_stderr.ensures.status in absurd (omega (arith, two))

text_put : (status : ℕ) (text : List ℕ) (written written' said said' : Option (List ℕ)) (out_failed err_failed : Bool) → text ≢ [] → (status ≡ 0 → Appends written written' text)
    → (status ≡ 0 → Keeps said said') → (status ≡ 3 → (out_failed ≡ true) × Says said said' err_failed (codes "write fault\n")) → (status ≡ 0) ⊎ (status ≡ 3)
    → GivesText status written written' said said' out_failed err_failed
text_put status text written written' said said' out_failed err_failed some appends keeps fault known = record {
  done = λ zero. ((text, some, appends zero), keeps zero);
  fault = fault;
  memory = λ four. elim known [
    | inl zero ↦ absurd (omega (arith, zero, four))
    | inr three ↦ absurd (omega (arith, three, four))
  ];
  known = elim known [
    | inl zero ↦ inl zero
    | inr three ↦ inr (inl three)
  ];
}

pub returns-clause-help : goal.returns-clause-help
returns-clause-help g c help =
    let put = c.put_answer.ensures in
    text_put c.put_answer.result c.or_where_help_is-text.result.now
    (g.O.Write.contents (inner_of c.args.out.now)) (g.O.Write.contents (inner_of c.put_answer.new.out)) (g.E.Write.contents (inner_of c.args.err.now)) (g.E.Write.contents (inner_of c.put_answer.new.err))
    (has_failed c.put_answer.new.out) (has_failed c.put_answer.new.err) c.or_where_help_is-text.ensures.not_empty (λ zero. (put.done zero).0)
    (λ zero. rw (put.done zero).2 (Keeps-refl (g.E.Write.contents (inner_of c.args.err.now)))) (λ three. ((put.fault three).1, (put.fault three).2)) put.known

pub returns-clause-version : goal.returns-clause-version
returns-clause-version g c version =
    let put = c.put_answer.ensures in
    text_put c.put_answer.result c.or_where_help_is-text.result.now
    (g.O.Write.contents (inner_of c.args.out.now)) (g.O.Write.contents (inner_of c.put_answer.new.out)) (g.E.Write.contents (inner_of c.args.err.now)) (g.E.Write.contents (inner_of c.put_answer.new.err))
    (has_failed c.put_answer.new.out) (has_failed c.put_answer.new.err) c.or_where_help_is-text.ensures.not_empty (λ zero. (put.done zero).0)
    (λ zero. rw (put.done zero).2 (Keeps-refl (g.E.Write.contents (inner_of c.args.err.now)))) (λ three. ((put.fault three).1, (put.fault three).2)) put.known
