use Rattle.std.proofs.Common.{rules, [], sym}
use Rattle.std.proofs.lemmas.List.{append-nil}
use Rattle.live_lines.proofs.HistoryLemmas.{none_told, some_told, stands_by, stays_so}
use Rattle.live_lines.proofs.history.tell.Goals as goal

pub returns-in_default-clause-told : goal.returns-in_default-clause-told
returns-in_default-clause-told c = λ setting recovers past text s. (
  [],
  sym (append-nil c.args.lines.now.items),
  stays_so c.args.live.now setting recovers past _ text (none_told c.args.at c.args.news past c.in_default.not-Some) s,
)

pub returns-clause-told : goal.returns-clause-told
returns-clause-told c = λ setting recovers past text s.
    let took = c.in_ok-take.ensures.stands setting recovers past text s in (
      took.0,
      took.1,
      stands_by c.take.new.self setting recovers _ _ _ (some_told c.args.at c.args.news c.in-Some.note past c.told_as-what.result c.told_as-what.ensures (search rules)) took.2,
    )
