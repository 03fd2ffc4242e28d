use Rattle.std.proofs.Common.{codes, decimal}
use Rattle.answer_lines.proofs.LookLemmas.{joined}
use Rattle.answer_lines.proofs.looks.add_suspected.Goals as goal

pub returns : goal.returns
returns c =
    joined c.add_number.result c.args.out.now.items c.extend_from_slice.new.self.items c.add_number.new.out.items (codes "look SUSPECT ") (decimal c.args.n)
    c.in_ok-extend_from_slice.ensures.items c.add_number.ensures
