use Rattle.std.proofs.Common.{◌≡◌, ◌∙◌, Some, refl}
use Rattle.std.proofs.KnownBytes.{Keeps-refl}
use Rattle.watched_streams.specs.Watch.{inner_of}
use Rattle.text_subcommands.specs.Played.{fen_lines}
use Rattle.text_subcommands.proofs.PlayedLemmas.{part_none, tells_played}
use Rattle.text_subcommands.proofs.playing.play_text.Goals as goal

pub returns-in-Ok-clause-tells : goal.returns-in-Ok-clause-tells
returns-in-Ok-clause-tells g c =
    let played = c.in-Ok.ensures in
    let put = c.put_positions.ensures in
    let lines_are : c.as_slice.result.now ≡ fen_lines c.args.start played.0 = c.as_slice.ensures.value ∙ played.1 ∙ rw c.new-lines.ensures.items refl in
    tells_played c.args.start c.args.text.now c.as_slice.result.now c.in-Ok.stopped c.put_positions.result _ _ _ _ _ _ c.requires.within (played.0, lines_are, played.2)
    (λ e. rw (put.done e).3 (Keeps-refl (g.E.Write.contents (inner_of c.args.err.now)))) put.refused (λ e. (let f = put.fault e in (f.1, f.2))) put.known

pub returns-clause-fault : goal.returns-clause-fault
returns-clause-fault g c three = part_none c.args.start (Some c.args.text.now) _ _ c.refused_run.ensures.kept
