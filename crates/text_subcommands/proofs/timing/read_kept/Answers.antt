use Rattle.std.proofs.Common.{inr, refl}
use Rattle.watched_streams.specs.Watch.{inner_of}
use Rattle.board_times.specs.declared.reading.Found.TheVariants.{Unreadable}
use Rattle.text_subcommands.proofs.TimesLemmas.{found_in}
use Rattle.text_subcommands.proofs.timing.read_kept.Goals as goal

pub returns-in-Ok-Unreadable-clause-refused : goal.returns-in-Ok-Unreadable-clause-refused
returns-in-Ok-Unreadable-clause-refused g c = λ one. inr (
  Unreadable,
  found_in (g.R.Read.remaining (inner_of c.args.reader.now)) c.in-Ok.text.items c.as_slice.result.now c.in-Ok-Unreadable.field-0 Unreadable c.in-Ok.ensures.whole c.as_slice.ensures.value
      c.in-Ok-Unreadable.field-0-is c.in-Ok-Unreadable.ensures c.in-Ok.ensures.within,
  refl,
)
