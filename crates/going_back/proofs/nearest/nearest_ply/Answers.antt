use Rattle.std.proofs.Common.{◌≡◌, ◌+◌, ◌∙◌, ℕ, length, refl, sym, subst, arith}
use Rattle.chess_game.proofs.Plies.{line_at}
use Rattle.going_back.specs.declared.nearest.Candidate.{Candidate}
use Rattle.going_back.specs.Nearest.{IsSoFar}
use Rattle.going_back.proofs.NearLemmas.{far_first, far_here, far_next, first_far, nearer_of, none_next, number_within, some_plies}
use Rattle.going_back.proofs.nearest.nearest_ply.Goals as goal

pub loop-ply-init : goal.loop-ply-init
loop-ply-init c =
    let start = c.args.start.now in
    let plies = c.args.plies.now in
    let text = c.args.text.now in
    let some = some_plies plies (sym c.is_empty.ensures ∙ c.if-is_empty.false) in
    record {
      line = c.requires;
      count = refl;
      within = omega (arith, some);
      found = far_first text start plies;
      best = first_far text start plies c.far_from.result some (c.far_from.ensures text c.asked_half-asked.ensures);
      none = λ n within rest. rest;
    }

pub loop-ply-preserved : goal.loop-ply-preserved
loop-ply-preserved c =
    let start = c.args.start.now in
    let plies = c.args.plies.now in
    let text = c.args.text.now in
    let l = c.loop-ply in
    let i = l.ply-index in
    let ply = c.ply-item.result in
    let far = c.far_from-in-loop-ply.result in
    let count = l.invariant.count in
    let far-is = c.far_from-in-loop-ply.ensures text c.asked_half-asked.ensures in
    let line = line_at l.position plies i ply (omega arith) c.ply-item.is l.invariant.line in
    let one : Candidate = l.nearest in
    let other : Candidate = record { number = l.number + 1; far = far } in
    let N : ℕ → Type 0 = λ m. IsSoFar text start plies m far in
    let same : i + 1 ≡ l.number + 1 = omega (arith, count) in
    let here = subst N same (far_here text start plies l.position i far ply (omega arith) c.ply-item.is l.invariant.found far-is) in
    let nearest = nearer_of text start plies one other c.nearer-nearest.result c.nearer-nearest.ensures l.invariant.best here in
    let after-is = c.play-position.ensures.after in
    record {
      line = rw after-is line.1;
      count = omega (arith, count);
      within = number_within (length plies) one other c.nearer-nearest.result c.nearer-nearest.ensures l.invariant.within (omega (arith, count));
      found = rw after-is (far_next text start plies l.position i ply (omega arith) c.ply-item.is l.invariant.found);
      best = nearest.0;
      none = rw after-is (none_next text start plies l.position i l.nearest.far far c.nearer-nearest.result.far ply (omega arith) c.ply-item.is far-is nearest.1 nearest.2 l.invariant.none);
    }
