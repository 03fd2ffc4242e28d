use Rattle.std.proofs.Common.{◌≡◌, inl}
use Rattle.std.proofs.KnownBytes.{Keeps-refl}
use Rattle.watched_streams.specs.Watch.{inner_of}
use Rattle.dgt_replay.proofs.DoesLemmas.{records_memory}
use Rattle.dgt_replay.proofs.RefusalLemmas.{refusal_status, says_memory, tells_refusal}
use Rattle.dgt_replay.proofs.SetupLemmas.{met_by_none, one_setup, only_for_memory}
use Rattle.dgt_replay.proofs.record.record_game.Goals as goal

pub returns-in-Ok-clause-records : goal.returns-in-Ok-clause-records
returns-in-Ok-clause-records g c setup meets =
    let same : c.in-Ok.setup ≡ setup = one_setup c.texts_tell_positions.ensures c.args.options.now c.in-Ok.setup setup c.in-Ok.ensures.meets meets in
    let ends = c.record_as.ensures in
    rw (← same) (record { done = ends.all; long = ends.long; fails = ends.fails; memory = λ four. inl (ends.memory four) })

pub returns-in-Ok-clause-refuses : goal.returns-in-Ok-clause-refuses
returns-in-Ok-clause-refuses g c nothing = met_by_none c.args.options.now c.in-Ok.setup c.in-Ok.ensures.meets nothing

pub returns-in-Err-clause-records : goal.returns-in-Err-clause-records
returns-in-Err-clause-records g c setup meets =
    let memory = only_for_memory c.args.options.now setup c.in-Err.refusal meets c.in-Err.ensures.meets in
    records_memory setup _ _ (record {
      four = c.refused_setup.ensures.memory memory;
      untouched = (Keeps-refl (g.R.Read.remaining (inner_of c.args.reader.now)), Keeps-refl (g.O.Write.contents (inner_of c.args.out.now)));
      says = says_memory c.in-Err.refusal _ _ _ memory c.refused_setup.ensures.says;
      reading = c.requires.reading;
    })

pub returns-in-Err-clause-refuses : goal.returns-in-Err-clause-refuses
returns-in-Err-clause-refuses g c nothing = record {
  known = refusal_status c.in-Err.refusal c.refused_setup.result c.refused_setup.ensures.memory c.refused_setup.ensures.refused;
  untouched = (Keeps-refl (g.R.Read.remaining (inner_of c.args.reader.now)), Keeps-refl (g.O.Write.contents (inner_of c.args.out.now)));
  tells = tells_refusal c.args.options.now c.in-Err.refusal c.refused_setup.result _ _ _ c.in-Err.ensures.first c.refused_setup.ensures.memory c.refused_setup.ensures.refused c.refused_setup.ensures.says;
}
