use Rattle.std.proofs.Common.{Some}
use Rattle.chess_rules.specs.declared.pieces.Kind.TheVariants.{Knight}
use Rattle.unseen_pairs.specs.Inside.Beginning.{AddsMoves, IsBetween}
use Rattle.unseen_pairs.proofs.Adding.{Promotes, adds_promotions, on_ok}
use Rattle.unseen_pairs.proofs.beginning.push_promotions.Goals as goal

pub returns : goal.returns
returns c =
    let p = c.args.p.now in
    let from = c.args.from in
    let to = c.args.to in
    on_ok c.push_between-4.result (AddsMoves p (IsBetween from to (Some Knight)) c.push_between-3.new.moves.items c.push_between-4.new.moves.items)
    (AddsMoves p (Promotes from to) c.args.moves.now.items c.push_between-4.new.moves.items)
    (adds_promotions p from to c.args.moves.now.items c.push_between.new.moves.items c.push_between-2.new.moves.items c.push_between-3.new.moves.items
    c.push_between-4.new.moves.items c.in_ok-push_between.ensures c.in_ok-push_between-2.ensures c.in_ok-push_between-3.ensures)
    c.push_between-4.ensures
