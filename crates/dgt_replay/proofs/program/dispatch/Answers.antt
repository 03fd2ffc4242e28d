use Rattle.std.proofs.Common.{inl, inr, refl, rules}
use Rattle.dgt_replay.proofs.TextLemmas.{events_end, pictures_end}
use Rattle.dgt_replay.proofs.program.dispatch.Goals as goal

pub returns-in-Show-clause-does : goal.returns-in-Show-clause-does
returns-in-Show-clause-does g c = rw c.in-Show.is (record { ends = events_end _ _ _ _ _ _ _ c.list.ensures.lists.ends; tells = c.list.ensures.lists.tells })

pub returns-in-Pictures-clause-does : goal.returns-in-Pictures-clause-does
returns-in-Pictures-clause-does g c = rw c.in-Pictures.is (record { ends = pictures_end _ _ _ _ _ _ _ _ c.list-in-Pictures.ensures.lists.ends; tells = c.list-in-Pictures.ensures.lists.tells })

pub returns-in-Record-clause-does : goal.returns-in-Record-clause-does
returns-in-Record-clause-does g c = rw c.in-Record.is (c.record_game.ensures.records, c.record_game.ensures.refuses)

pub returns-in-Follow-clause-does : goal.returns-in-Follow-clause-does
returns-in-Follow-clause-does g c = rw c.in-Follow.is (c.follow.ensures.lists, c.follow.ensures.refuses)

pub returns-in-Watch-clause-does : goal.returns-in-Watch-clause-does
returns-in-Watch-clause-does g c = rw c.in-Watch.is (c.follow-in-Watch.ensures.lists, c.follow-in-Watch.ensures.refuses)

pub returns-in-Recover-clause-does : goal.returns-in-Recover-clause-does
returns-in-Recover-clause-does g c = rw c.in-Recover.is (c.recover.ensures.recovers, c.recover.ensures.refuses)

pub returns-in-Add-clause-does : goal.returns-in-Add-clause-does
returns-in-Add-clause-does g c = rw c.in-Add.is (c.edit.ensures.edits, c.edit.ensures.refuses)

pub returns-in-Back-clause-does : goal.returns-in-Back-clause-does
returns-in-Back-clause-does g c = rw c.in-Back.is (c.edit-in-Back.ensures.edits, c.edit-in-Back.ensures.refuses)

pub returns-in-Instead-clause-does : goal.returns-in-Instead-clause-does
returns-in-Instead-clause-does g c = rw c.in-Instead.is (c.edit-in-Instead.ensures.edits, c.edit-in-Instead.ensures.refuses)

pub returns-in-Live-clause-does : goal.returns-in-Live-clause-does
returns-in-Live-clause-does g c = rw c.in-Live.is (c.live.ensures.attends, c.live.ensures.refuses)

pub returns-in-Check-clause-does : goal.returns-in-Check-clause-does
returns-in-Check-clause-does g c =
    let ends = c.check.ensures in
    rw c.in-Check.is (record { done = ends.passes; tells = ends.tells; bounded = ends.bounded; fault = ends.fault; unread = ends.unread; read = ends.blamed; silent = ends.silent })

pub returns-in-Times-clause-does : goal.returns-in-Times-clause-does
returns-in-Times-clause-does g c =
    let ends = c.times.ensures in
    rw c.in-Times.is (record { done = ends.passes; tells = ends.tells; bounded = ends.bounded; fault = ends.fault; unread = ends.unread; read = ends.blamed; silent = ends.silent })

pub returns-in-Moves-clause-does : goal.returns-in-Moves-clause-does
returns-in-Moves-clause-does g c =
    let ends = c.moves.ensures in
    rw c.in-Moves.is (record {
      done = ends.prints;
      refuses = λ none. inl (ends.refuses none).0;
      refused = λ one start starts. ends.accepts start starts one;
      fault = ends.part;
      silent = λ e. elim e [
        | inl one ↦ (ends.refuses (λ start starts. ends.accepts start starts one)).1
        | inr four ↦ ends.silent four
      ];
      tells = ends.tells;
    })

pub returns-in-Positions-clause-does : goal.returns-in-Positions-clause-does
returns-in-Positions-clause-does g c = rw c.in-Positions.is (c.positions.ensures.plays, c.positions.ensures.refuses)

pub returns-in-Moves-clause-moves_unread : goal.returns-in-Moves-clause-moves_unread
returns-in-Moves-clause-moves_unread g c fen is = refl

pub returns-in-Moves-clause-works : goal.returns-in-Moves-clause-works
returns-in-Moves-clause-works g c zero = (c.requires.reading, search rules)
