use Rattle.std.proofs.Common.{List, get_or, inl, sym, ◌∙◌, subst}
use Rattle.std.specs.List.{Contains}
use Rattle.std.proofs.lemmas.List.Elements.{Contains-get_or}
use Rattle.chess_rules.specs.declared.chess_move.Move.{Move}
use Rattle.chess_text.specs.Start.{given}
use Rattle.text_subcommands.specs.Refusals.{RefusesStart}
use Rattle.text_subcommands.specs.Messages.{fen_message}
use Rattle.text_subcommands.proofs.MessageLemmas.{tells_refused}
use Rattle.watched_streams.specs.Watch.{inner_of}
use Rattle.watched_streams.proofs.ResultLemmas.{ok_same}
use Rattle.text_subcommands.proofs.RefusalLemmas.{start_refused}
use Rattle.text_subcommands.proofs.MoveLemmas.{prints_part}
use Rattle.text_subcommands.proofs.printing.moves.Goals as goal

pub print_moves-requires-clause-legal : goal.print_moves-requires-clause-legal
print_moves-requires-clause-legal g c k d inside =
    let P : List Move → Type 0 = λ moves. Contains moves (get_or c.as_slice.result.now k d) in
    let listed = c.in-Ok-legal_moves.ensures.listed.each (get_or c.as_slice.result.now k d) in
    listed.0 (subst P c.as_slice.ensures.value (Contains-get_or c.as_slice.result.now k d inside))

pub returns-in_default-clause-refuses : goal.returns-in_default-clause-refuses
returns-in_default-clause-refuses g c none = absurd (none c.in-Ok.position ((c.start_of.ensures.start c.in-Ok.position).0 c.in-Ok.is))

pub returns-clause-refuses : goal.returns-clause-refuses
returns-clause-refuses g c none = absurd (none c.in-Ok.position ((c.start_of.ensures.start c.in-Ok.position).0 c.in-Ok.is))

pub returns-in-Err-clause-tells : goal.returns-in-Err-clause-tells
returns-in-Err-clause-tells g c =
    tells_refused c.refused_fen.result (RefusesStart (given c.args.fen)) _ _ _ _ _ (fen_message c.in-Err.error) c.refused_fen.ensures.status
    (start_refused (given c.args.fen) c.in-Err.error c.in-Err.ensures.refusal (λ start starts. let bad = sym c.in-Err.is ∙ (c.start_of.ensures.start start).1 starts in cc)) c.refused_fen.ensures.says

pub returns-in_default-clause-part : goal.returns-in_default-clause-part
returns-in_default-clause-part g c start starts three = inl c.refused_run.ensures.kept

pub returns-clause-part : goal.returns-clause-part
returns-clause-part g c start starts three =
    let position = c.in-Ok.position in
    let part = (c.print_moves.ensures.fault three).0 in
    let same = ok_same c.start_of.result position start c.in-Ok.is ((c.start_of.ensures.start start).1 starts) in
    prints_part position start c.in-Ok-legal_moves.moves.items c.as_slice.result.now part.0 part.1 part.2 (g.O.Write.contents (inner_of c.args.out.now)) (g.O.Write.contents (inner_of c.print_moves.new.out)) same
    c.in-Ok-legal_moves.ensures.listed c.as_slice.ensures.value part.3 part.4 part.5
