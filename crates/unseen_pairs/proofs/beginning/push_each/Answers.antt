use Rattle.std.proofs.Common.{◌≡◌}
use Rattle.unseen_pairs.specs.Inside.Beginning.{AddsMoves}
use Rattle.unseen_pairs.proofs.Adding.{Promotes, on_ok}
use Rattle.unseen_pairs.proofs.Landing.{adds_near}
use Rattle.unseen_pairs.proofs.beginning.push_each.Goals as goal

pub returns-then-to-lt8 : goal.returns-then-to-lt8
returns-then-to-lt8 c =
    let p = c.args.p.now in
    let from = c.args.from in
    let to = c.args.to in
    on_ok c.push_promotions.result (AddsMoves p (Promotes from to) c.push_between.new.moves.items c.push_promotions.new.moves.items)
    (AddsMoves p (λ m. (m.from ≡ from) × (m.to ≡ to)) c.args.moves.now.items c.push_promotions.new.moves.items)
    (adds_near p from to c.args.moves.now.items c.push_between.new.moves.items c.push_promotions.new.moves.items c.parts.ensures.valid c.in_ok-push_between.ensures)
    c.push_promotions.ensures
