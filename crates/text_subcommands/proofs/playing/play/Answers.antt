use Rattle.std.proofs.Common.{◌≡◌, ◌∙◌, ◌<◌, length, Bool, Some, true, false, arith, codes, inl, refl, rules, subst, sym}
use Rattle.std.specs.Prelude.{IfSome}
use Rattle.watched_streams.specs.Watch.{inner_of, has_failed}
use Rattle.text_subcommands.specs.Messages.{Tells}
use Rattle.text_subcommands.specs.Played.{RefusesMoves}
use Rattle.text_subcommands.proofs.MessageLemmas.{ends_three, long_no_read, memory_no_read, never_done, tells_alike, tells_fault, tells_memory, tells_or_fault, tells_refused}
use Rattle.text_subcommands.proofs.PlayedLemmas.{all_at, part_at, plays_nothing, refuses_at}
use Rattle.text_subcommands.proofs.playing.play.Goals as goal

pub returns-in-Ok-clause-plays : goal.returns-in-Ok-clause-plays
returns-in-Ok-clause-plays g c =
    let start = c.args.start in
    let input = g.R.Read.remaining (inner_of c.args.reader.now) in
    let text = c.as_slice.result.now in
    let written = g.O.Write.contents (inner_of c.args.out.now) in
    let after = g.O.Write.contents (inner_of c.play_text.new.out) in
    let whole : IfSome input (λ bytes. text ≡ bytes) = rw c.as_slice.ensures.value c.in-Ok.ensures.whole in
    let works : has_failed c.read_text.new.reader ≡ false = c.in-Ok.ensures.works in
    let P : Bool → Type 0 = λ failed. Tells c.play_text.result (RefusesMoves start input written after) (g.E.Write.contents (inner_of c.args.err.now)) (g.E.Write.contents (inner_of c.play_text.new.err))
    failed (has_failed c.play_text.new.out) (has_failed c.play_text.new.err) in
    record {
      done = λ e. all_at start input written after text whole (c.play_text.ensures.done e);
      tells = subst P (sym works) (tells_alike c.play_text.result (RefusesMoves start (Some text) written after) (RefusesMoves start input written after) _ _ _ _ _
          (λ message refuses. refuses_at start input written after text whole message refuses) c.play_text.ensures.tells);
      fault = λ e. part_at start input written after text whole (c.play_text.ensures.fault e);
      unread = λ e. (let bad : true ≡ false = sym e ∙ works in cc);
      read = λ e. (let bad : true ≡ false = sym e ∙ works in cc);
      memory = c.play_text.ensures.memory;
      bounded = c.in-Ok.ensures.bounded;
    }

pub returns-in-Err-Memory-clause-plays : goal.returns-in-Err-Memory-clause-plays
returns-in-Err-Memory-clause-plays g c =
    let ended = c.refused_run.ensures.ended in
    let input = g.R.Read.remaining (inner_of c.args.reader.now) in
    let May = RefusesMoves c.args.start input (g.O.Write.contents (inner_of c.args.out.now)) (g.O.Write.contents (inner_of c.refused_run.new.out)) in
    plays_nothing c.args.start c.refused_run.result _ c.refused_run.ensures.kept c.read_text.ensures.bounded (λ zero. never_done c.refused_run.result 4 _ _ _ _ _ (omega arith) ended zero)
    (λ e. memory_no_read c.read_text.result (search rules) (c.read_text.ensures.blamed e))
    (tells_or_fault c.refused_run.result 4 May _ _ _ _ _ _ ended (λ four says. tells_memory c.refused_run.result May _ _ _ _ _ four says))

pub returns-in-Err-Read-clause-plays : goal.returns-in-Err-Read-clause-plays
returns-in-Err-Read-clause-plays g c =
    let ended = c.refused_run-in-Err-Read.ensures.ended in
    let input = g.R.Read.remaining (inner_of c.args.reader.now) in
    let failed : has_failed c.read_text.new.reader ≡ true = search rules in
    let May = RefusesMoves c.args.start input (g.O.Write.contents (inner_of c.args.out.now)) (g.O.Write.contents (inner_of c.refused_run-in-Err-Read.new.out)) in
    plays_nothing c.args.start c.refused_run-in-Err-Read.result _ c.refused_run-in-Err-Read.ensures.kept c.read_text.ensures.bounded
    (λ zero. never_done c.refused_run-in-Err-Read.result 3 _ _ _ _ _ (omega arith) ended zero)
    (λ e. ends_three c.refused_run-in-Err-Read.result _ _ _ _ _ ended)
    (tells_or_fault c.refused_run-in-Err-Read.result 3 May _ _ _ _ _ _ ended (λ three says. tells_fault c.refused_run-in-Err-Read.result May _ _ _ _ _ three (inl (failed, says))))

pub returns-in-Err-TooLong-clause-plays : goal.returns-in-Err-TooLong-clause-plays
returns-in-Err-TooLong-clause-plays g c =
    let ended = c.refused_run-in-Err-TooLong.ensures.ended in
    let kept = c.refused_run-in-Err-TooLong.ensures.kept in
    let input = g.R.Read.remaining (inner_of c.args.reader.now) in
    let long : IfSome input (λ bytes. 1048576 < length bytes) = search rules in
    let May = RefusesMoves c.args.start input (g.O.Write.contents (inner_of c.args.out.now)) (g.O.Write.contents (inner_of c.refused_run-in-Err-TooLong.new.out)) in
    plays_nothing c.args.start c.refused_run-in-Err-TooLong.result _ kept c.read_text.ensures.bounded
    (λ zero. never_done c.refused_run-in-Err-TooLong.result 1 _ _ _ _ _ (omega arith) ended zero)
    (λ e. long_no_read c.read_text.result (search rules) (c.read_text.ensures.blamed e))
    (tells_or_fault c.refused_run-in-Err-TooLong.result 1 May _ _ _ _ _ _ ended
    (λ one says. tells_refused c.refused_run-in-Err-TooLong.result May _ _ _ _ _ (codes "input: too long\n") one (inl (long, kept, refl)) says))
