use Rattle.std.proofs.Common.{◌++◌}
use Rattle.board_live.specs.Coming.{with_bytes}
use Rattle.board_live.proofs.hearing.give_and_tell.Goals as goal

pub returns-clause-told : goal.returns-clause-told
returns-clause-told c = λ setting recovers past text s.
    let more = c.in_ok-is_whole.ensures.told setting recovers past text s in
    (more.0, more.1, c.in_ok-tell.ensures.told setting recovers (with_bytes c.args.when c.args.bytes.now past) (text ++ more.0) more.2)
