use Rattle.std.proofs.Common.{rules, [], sym}
use Rattle.std.proofs.lemmas.List.{append-nil}
use Rattle.live_lines.proofs.HistoryLemmas.{none_kept, some_kept, stands_by, stays_so}
use Rattle.live_lines.proofs.history.keep.Goals as goal

pub returns-then-is_nothing-clause-told : goal.returns-then-is_nothing-clause-told
returns-then-is_nothing-clause-told c = λ setting recovers past text s. (
  [],
  sym (append-nil c.args.lines.now.items),
  stays_so c.args.live.now setting recovers past _ text (none_kept c.args.at c.args.added c.args.bytes.now past (c.is_nothing.ensures.0 (search rules))) s,
)

pub returns-clause-told : goal.returns-clause-told
returns-clause-told c = λ setting recovers past text s.
    let took = c.in_ok-take.ensures.stands setting recovers past text s in (
      took.0,
      took.1,
      stands_by c.take.new.self setting recovers _ _ _ (some_kept c.args.at c.args.added c.args.bytes.now past c.kept_as-what.result c.kept_as-what.ensures (search rules)) took.2,
    )
