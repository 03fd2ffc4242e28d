use Rattle.std.proofs.Common.{◌∙◌, List, ℕ, inl, subst, sym}
use Rattle.board_events.specs.Settings.{Setting}
use Rattle.text_subcommands.specs.Streams.{streams}
use Rattle.board_captures.specs.Reading.{IsTooLong}
use Rattle.dgt_replay.specs.Edit.{Edits, text_in}
use Rattle.dgt_replay.specs.Inside.Editing.{AnswersOf}
use Rattle.std.proofs.KnownBytes.{Keeps-refl}
use Rattle.watched_streams.specs.Watch.{inner_of}
use Rattle.chess_text.specs.Start.{given}
use Rattle.text_subcommands.specs.Refusals.{RefusesStart}
use Rattle.text_subcommands.specs.Messages.{fen_message}
use Rattle.text_subcommands.proofs.MessageLemmas.{tells_refused}
use Rattle.text_subcommands.proofs.RefusalLemmas.{start_refused}
use Rattle.watched_streams.proofs.ResultLemmas.{ok_same}
use Rattle.dgt_replay.proofs.SetupLemmas.{same_setting}
use Rattle.dgt_replay.proofs.edit.edit.Goals as goal

pub returns-in-Ok-clause-edits : goal.returns-in-Ok-clause-edits
returns-in-Ok-clause-edits g c setting meets =
    let same = ok_same c.start_of.result c.in-Ok.start setting.start c.in-Ok.is ((c.start_of.ensures.start setting.start).1 meets.start) in
    let s = streams g.R.Read.remaining g.O.Write.contents g.E.Write.contents c.args.reader.now c.edit_from.new.reader c.args.out.now c.edit_from.new.out c.args.err.now c.edit_from.new.err in
    let here : Setting = record { start = c.in-Ok.start; first = c.args.options.now.board.first; rotated = c.args.options.now.board.rotated } in
    let L : List ℕ → Type 0 = λ text. Edits (AnswersOf c.args.kind here c.args.options.now.recovers text) (IsTooLong here c.args.options.now.recovers) c.edit_from.result s in
    let S : Setting → Type 0 = λ x. Edits (AnswersOf c.args.kind x c.args.options.now.recovers (text_in (given c.args.options.now.text))) (IsTooLong x c.args.options.now.recovers) c.edit_from.result s in
    subst S (same_setting c.args.options.now.board setting c.in-Ok.start meets same) (subst L c.text_in.ensures c.edit_from.ensures.edits)

pub returns-in-Ok-clause-refuses : goal.returns-in-Ok-clause-refuses
returns-in-Ok-clause-refuses g c none = absurd (none c.in-Ok.start ((c.start_of.ensures.start c.in-Ok.start).0 c.in-Ok.is))

pub returns-in-Ok-clause-refused : goal.returns-in-Ok-clause-refused
returns-in-Ok-clause-refused g c none = absurd (none c.in-Ok.start ((c.start_of.ensures.start c.in-Ok.start).0 c.in-Ok.is))

pub returns-in-Err-clause-edits : goal.returns-in-Err-clause-edits
returns-in-Err-clause-edits g c setting meets = absurd (let bad = sym c.in-Err.is ∙ (c.start_of.ensures.start setting.start).1 meets.start in cc)

pub returns-in-Err-clause-refuses : goal.returns-in-Err-clause-refuses
returns-in-Err-clause-refuses g c none = record {
  known = inl c.refused_fen.ensures.status;
  untouched = (Keeps-refl (g.R.Read.remaining (inner_of c.args.reader.now)), Keeps-refl (g.O.Write.contents (inner_of c.args.out.now)));
  tells = tells_refused c.refused_fen.result (RefusesStart (given c.args.options.now.board.fen)) _ _ _ _ _ (fen_message c.in-Err.error) c.refused_fen.ensures.status
      (start_refused (given c.args.options.now.board.fen) c.in-Err.error c.in-Err.ensures.refusal (λ start starts. let bad = sym c.in-Err.is ∙ (c.start_of.ensures.start start).1 starts in cc)) c.refused_fen.ensures.says;
}
