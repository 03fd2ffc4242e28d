use Rattle.std.proofs.Common.{sym}
use Rattle.board_times.proofs.LineLemmas.{no_tail_number, no_tail_word, tail_alone, tail_numbered}
use Rattle.board_times.proofs.lines.read_tail.Goals as goal

pub returns-in_default-word_of-clause-none : goal.returns-in_default-word_of-clause-none
returns-in_default-word_of-clause-none c tail fits e =
    no_tail_word c.args.text.now c.in-Some.word.now c.in-Some.number.now tail c.in-Some.ensures.some.0 c.in-Some.ensures.some.1
    (sym c.in_default-word_of.ensures) e

pub returns-in-None-number_of-clause-none : goal.returns-in-None-number_of-clause-none
returns-in-None-number_of-clause-none c tail fits e =
    no_tail_number c.args.text.now c.in-Some.word.now c.in-Some.number.now tail c.in-Some.ensures.some.0 c.in-Some.ensures.some.1 fits
    c.in-None-number_of.ensures.none e

pub returns-in-Some-word_of-clause-some : goal.returns-in-Some-word_of-clause-some
returns-in-Some-word_of-clause-some c = (tt, tail_alone c.args.text.now c.in-Some-word_of.word (sym c.in-Some-word_of.ensures))

pub returns-in-Some-number_of-clause-some : goal.returns-in-Some-number_of-clause-some
returns-in-Some-number_of-clause-some c = (
  c.in-Some-number_of.ensures.some.0,
  tail_numbered c.args.text.now c.in-Some.word.now c.in-Some.number.now c.in-Some-word_of-2.word c.in-Some-number_of.number c.in-Some.ensures.some.0
      (sym c.in-Some-word_of-2.ensures) c.in-Some-number_of.ensures.some.1,
)
