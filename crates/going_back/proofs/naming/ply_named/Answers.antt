use Rattle.std.proofs.Common.{◌≡◌, ◌+◌, ℕ, suc, refl, subst, arith}
use Rattle.std.proofs.lemmas.Bool.{iff_false}
use Rattle.chess_game.proofs.Plies.{line_at}
use Rattle.going_back.specs.Naming.{NamesPly}
use Rattle.going_back.proofs.NameLemmas.{found_here, found_first, found_next, sought_first, sought_next}
use Rattle.going_back.proofs.naming.ply_named.Goals as goal

pub loop-ply-init : goal.loop-ply-init
loop-ply-init c = record {
  line = c.requires;
  count = refl;
  found = found_first c.args.start.now c.args.plies.now c.args.text.now;
  sought = sought_first c.args.start.now c.args.plies.now c.args.text.now;
}

pub returns-then-is_name_of-clause-some : goal.returns-then-is_name_of-clause-some
returns-then-is_name_of-clause-some c =
    let l = c.loop-ply in
    let start = c.args.start.now in
    let plies = c.args.plies.now in
    let text = c.args.text.now in
    let here = found_here start plies l.position text l.ply-index c.ply-item.result (omega arith) c.ply-item.is l.invariant.found (c.is_name_of.ensures.0 c.if-is_name_of.true) in
    let N : ℕ → Type 0 = λ n. NamesPly start plies text n in
    let count = l.invariant.count in
    let same : suc l.ply-index ≡ l.number + 1 = omega (arith, count) in
    (omega (arith, count), subst N same here)

pub loop-ply-preserved : goal.loop-ply-preserved
loop-ply-preserved c =
    let l = c.loop-ply in
    let start = c.args.start.now in
    let plies = c.args.plies.now in
    let text = c.args.text.now in
    let ply = c.ply-item.result in
    let here = line_at l.position plies l.ply-index ply (omega arith) c.ply-item.is l.invariant.line in
    let after-is = c.play-position.ensures.after in
    record {
      line = rw after-is here.1;
      count = omega (arith, l.invariant.count);
      found = rw after-is (found_next start plies l.position text l.ply-index ply (omega arith) c.ply-item.is l.invariant.found);
      sought = rw after-is (sought_next start plies l.position text l.ply-index ply (omega arith) c.ply-item.is
          (λ named. iff_false c.is_name_of.ensures c.if-is_name_of.false named) l.invariant.sought);
    }
