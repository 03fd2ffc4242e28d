use Rattle.unseen_pairs.proofs.Adding.{adds_between}
use Rattle.unseen_pairs.proofs.beginning.push_move.Goals as goal

pub returns-in_ok-push : goal.returns-in_ok-push
returns-in_ok-push c =
    adds_between c.args.p.now c.args.from c.args.to c.args.promotion c.move_between.result c.move_between-then-is_legal.result c.args.moves.now.items c.push.new.self.items
    c.in_ok-push.ensures.items c.move_between.ensures c.move_between-then-is_legal.ensures (c.is_legal.ensures.0 c.if-is_legal.true)
