use Rattle.std.proofs.Common.{◌≡◌}
use Rattle.std.proofs.KnownBytes.{Keeps-refl}
use Rattle.watched_streams.specs.Watch.{inner_of}
use Rattle.dgt_replay.proofs.DoesLemmas.{attends_memory}
use Rattle.dgt_replay.proofs.LiveLemmas.{not_for_memory}
use Rattle.dgt_replay.proofs.RefusalLemmas.{refusal_status, says_memory, tells_refusal}
use Rattle.dgt_replay.proofs.SetupLemmas.{met_by_none, one_setup, only_for_memory}
use Rattle.dgt_replay.proofs.live.live.Goals as goal

pub returns-in-Ok-clause-attends : goal.returns-in-Ok-clause-attends
returns-in-Ok-clause-attends g c setup meets =
    let same : c.in-Ok.setup ≡ setup = one_setup c.texts_tell_positions.ensures c.args.options.now.game c.in-Ok.setup setup c.in-Ok.ensures.meets meets in
    rw (← same) c.live_from.ensures.attends

pub returns-in-Ok-clause-refuses : goal.returns-in-Ok-clause-refuses
returns-in-Ok-clause-refuses g c nothing = met_by_none c.args.options.now.game c.in-Ok.setup c.in-Ok.ensures.meets nothing

pub returns-in-Ok-clause-refused : goal.returns-in-Ok-clause-refused
returns-in-Ok-clause-refused g c none = absurd (none c.in-Ok.setup.start c.in-Ok.ensures.meets.board.start)

pub returns-in-Err-clause-attends : goal.returns-in-Err-clause-attends
returns-in-Err-clause-attends g c setup meets =
    let memory = only_for_memory c.args.options.now.game setup c.in-Err.refusal meets c.in-Err.ensures.meets in
    attends_memory setup c.args.options.now.recovers _ _ (record {
      four = c.refused_setup.ensures.memory memory;
      untouched = (Keeps-refl (g.R.Read.remaining (inner_of c.args.reader.now)), Keeps-refl (g.O.Write.contents (inner_of c.args.out.now)));
      says = says_memory c.in-Err.refusal _ _ _ memory c.refused_setup.ensures.says;
      reading = c.requires.reading;
    })

pub returns-in-Err-clause-refuses : goal.returns-in-Err-clause-refuses
returns-in-Err-clause-refuses g c nothing = record {
  known = refusal_status c.in-Err.refusal c.refused_setup.result c.refused_setup.ensures.memory c.refused_setup.ensures.refused;
  untouched = (Keeps-refl (g.R.Read.remaining (inner_of c.args.reader.now)), Keeps-refl (g.O.Write.contents (inner_of c.args.out.now)));
  tells = tells_refusal c.args.options.now.game c.in-Err.refusal c.refused_setup.result _ _ _ c.in-Err.ensures.first c.refused_setup.ensures.memory c.refused_setup.ensures.refused c.refused_setup.ensures.says;
}

pub returns-in-Err-clause-refused : goal.returns-in-Err-clause-refused
returns-in-Err-clause-refused g c none =
    c.refused_setup.ensures.refused (not_for_memory c.args.options.now.game c.in-Err.refusal c.in-Err.ensures.first none)
