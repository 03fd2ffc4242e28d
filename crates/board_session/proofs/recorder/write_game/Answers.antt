use Prim.{search}
use Rattle.std.proofs.Common.{rules, sym, ◌∙◌}
use Rattle.board_session.proofs.StreamLemmas.{text_flushed, text_put}
use Rattle.board_session.proofs.recorder.write_game.Goals as goal

pub returns-then-is_err-clause-text : goal.returns-then-is_err-clause-text
returns-then-is_err-clause-text g c = text_put c.args.game.now _ _ c.write_pgn.result (sym c.is_err.ensures.value ∙ c.if-is_err.true) c.write_pgn.ensures.fault

pub returns-then-is_err-2-clause-text : goal.returns-then-is_err-2-clause-text
returns-then-is_err-2-clause-text g c =
    text_flushed c.args.game.now _ _ _ c.write_pgn.result (sym c.is_err.ensures.value ∙ c.if-is_err.false) c.write_pgn.ensures.ok c.flush.ensures.bytes

pub returns-clause-text : goal.returns-clause-text
returns-clause-text g c = search rules

pub returns-clause-working : goal.returns-clause-working
returns-clause-working g c = search rules

pub returns-clause-flushed : goal.returns-clause-flushed
returns-clause-flushed g c = search rules
