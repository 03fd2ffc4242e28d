use Prim.{search}
use Rattle.std.proofs.Common.{◌≤◌, length, arith, rules}
use Rattle.std.proofs.lemmas.Result.{err_from_is_err_and}
use Rattle.board_events.specs.Commands.{past_of}
use Rattle.board_session.proofs.CountLemmas.{few_moves}
use Rattle.board_session.proofs.RecordLemmas.{ended, unwritten}
use Rattle.board_session.proofs.recorder.Recorder.finish.Goals as goal

pub overflow_cast-moves : goal.overflow_cast-moves
overflow_cast-moves g c = let few : length c.into_game-game.result.plies ≤ 67108864 = few_moves c.args.self c.requires.kept.0 c.requires.kept.1 _
    c.requires.kept.2 c.requires.count (c.into_game-game.ensures.count c.requires.kept.0 _ c.requires.kept.2.session) in
    rw c.plies.ensures.plies (omega (arith, few))

pub returns-in_err-write_game-clause-finished : goal.returns-in_err-write_game-clause-finished
returns-in_err-write_game-clause-finished g c = let p = err_from_is_err_and c.from_residual.result c.from_residual.ensures.1 in
    rw (p.1, p.2) (λ setting front events taken decoded kept.
    unwritten c.in_err-write_game.field-0.0 c.args.ending setting c.args.tags front events taken _ _ c.pending-rest.result c.into_game-game.result
    c.in_err-write_game.ensures.cause (c.pending-rest.ensures front events decoded) (c.into_game-game.ensures.game setting (past_of taken) kept.session)
    c.in_err-write_game.ensures.text)

pub returns-in_err-ending-clause-finished : goal.returns-in_err-ending-clause-finished
returns-in_err-ending-clause-finished g c = let p = err_from_is_err_and c.from_residual-in_err-ending.result c.from_residual-in_err-ending.ensures.1 in
    rw (p.1, p.2) (λ setting front events taken decoded kept.
    ended c.in_err-ending.field-0.0 c.args.ending setting c.args.tags front events taken _ _ c.pending-rest.result c.into_game-game.result
    c.in_err-ending.was (c.pending-rest.ensures front events decoded) (c.into_game-game.ensures.game setting (past_of taken) kept.session)
    c.in_ok-write_game.ensures.text)

pub returns-in_err-ending-clause-flushed : goal.returns-in_err-ending-clause-flushed
returns-in_err-ending-clause-flushed g c = search rules
