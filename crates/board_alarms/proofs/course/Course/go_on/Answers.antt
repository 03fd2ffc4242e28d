use Rattle.board_alarms.proofs.course.Course.go_on.Goals as goal

pub returns-clause-heard : goal.returns-clause-heard
returns-clause-heard c = λ start agrees old keeps same grows other.
    c.plies_heard-heard.ensures start agrees old keeps same (c.after-next.ensures start old keeps same grows) grows other
