use Rattle.std.proofs.Common.{◌≡◌, ◌∙◌, true, false, sym, rules}
use Rattle.std.proofs.lemmas.Bool.{false≢true}
use Rattle.std.specs.Prelude.{IfSome}
use Rattle.watched_streams.specs.Watch.{inner_of, has_failed}
use Rattle.board_captures.specs.Reading.{IsTooLong, setting_of}
use Rattle.text_subcommands.proofs.MessageLemmas.{long_no_read, memory_no_read}
use Rattle.dgt_replay.specs.Inside.Editing.{AnswersOf}
use Rattle.dgt_replay.proofs.EditLemmas.{input_long, puts_at, puts_long, puts_memory, read_ends}
use Rattle.dgt_replay.proofs.edit.edit_from.Goals as goal

pub returns-in-Ok-clause-edits : goal.returns-in-Ok-clause-edits
returns-in-Ok-clause-edits g c =
    let input = g.R.Read.remaining (inner_of c.args.reader.now) in
    let whole : IfSome input (λ bytes. c.as_slice.result.now ≡ bytes) = rw c.as_slice.ensures.value c.in-Ok.ensures.whole in
    let works : has_failed c.read_text.new.reader ≡ false = c.in-Ok.ensures.works in
    record {
      puts = λ e. puts_at (AnswersOf c.args.kind (setting_of c.args.method.now) c.args.method.now.recovers c.args.text.now) (IsTooLong (setting_of c.args.method.now) c.args.method.now.recovers) c.as_slice.result.now input _ _ _ _ _ _ _ whole c.edit_to.ensures.puts;
      unread = λ e. absurd (false≢true (sym works ∙ e));
      bounded = c.in-Ok.ensures.bounded;
    }

pub returns-in-Err-Memory-clause-edits : goal.returns-in-Err-Memory-clause-edits
returns-in-Err-Memory-clause-edits g c = record {
  puts = λ e. puts_memory (AnswersOf c.args.kind (setting_of c.args.method.now) c.args.method.now.recovers c.args.text.now) (IsTooLong (setting_of c.args.method.now) c.args.method.now.recovers) (g.R.Read.remaining (inner_of c.args.reader.now)) _ _ _ _ _ _ _
      c.refused_run.ensures.kept c.refused_run.ensures.ended;
  unread = λ e. memory_no_read c.read_text.result (search rules) (c.read_text.ensures.blamed e);
  bounded = c.read_text.ensures.bounded;
}

pub returns-in-Err-Read-clause-edits : goal.returns-in-Err-Read-clause-edits
returns-in-Err-Read-clause-edits g c =
    let failed : has_failed c.read_text.new.reader ≡ true = search rules in
    record {
      puts = λ e. absurd (false≢true (sym e ∙ failed));
      unread = λ e. read_ends _ _ _ _ _ _ _ c.refused_run-in-Err-Read.ensures.kept c.refused_run-in-Err-Read.ensures.ended;
      bounded = c.read_text.ensures.bounded;
    }

pub returns-in-Err-TooLong-clause-edits : goal.returns-in-Err-TooLong-clause-edits
returns-in-Err-TooLong-clause-edits g c =
    let input = g.R.Read.remaining (inner_of c.args.reader.now) in
    record {
      puts = λ e. puts_long (AnswersOf c.args.kind (setting_of c.args.method.now) c.args.method.now.recovers c.args.text.now) (IsTooLong (setting_of c.args.method.now) c.args.method.now.recovers) input _ _ _ _ _ _ _ c.refused_run-in-Err-TooLong.ensures.kept
          (input_long (setting_of c.args.method.now) c.args.method.now.recovers input (search rules)) c.refused_run-in-Err-TooLong.ensures.ended;
      unread = λ e. long_no_read c.read_text.result (search rules) (c.read_text.ensures.blamed e);
      bounded = c.read_text.ensures.bounded;
    }
