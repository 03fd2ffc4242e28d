use Rattle.board_cable.proofs.asking.Asking.due.Goals as goal

pub returns-clause-asks : goal.returns-clause-asks
returns-clause-asks c past stands later fits from before =
    c.due.ensures.waits past stands.pace later fits from (c.sooner.ensures.before later before).0

pub returns-clause-handling : goal.returns-clause-handling
returns-clause-handling c past stands later fits from before =
    c.due-2.ensures.waits past stands.whose later fits from (c.sooner.ensures.before later before).1
