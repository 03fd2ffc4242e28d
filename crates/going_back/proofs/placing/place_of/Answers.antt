use Rattle.std.proofs.Common.{◌∙◌, ◌≤◌, drop, length, refl, sym, arith}
use Rattle.std.proofs.lemmas.List.{drop_all}
use Rattle.chess_game.proofs.Plies.{line_at}
use Rattle.going_back.proofs.PlaceLemmas.{place_first, place_here, place_next, place_none, place_sought, sought_on}
use Rattle.going_back.proofs.placing.place_of.Goals as goal

pub loop-ply-init : goal.loop-ply-init
loop-ply-init c = record {
  line = c.requires;
  count = refl;
  found = place_first c.args.start.now c.args.plies.now c.args.text.now;
  sought = place_sought c.args.start.now c.args.plies.now c.args.text.now;
}

pub loop-ply-preserved : goal.loop-ply-preserved
loop-ply-preserved c =
    let l = c.loop-ply in
    let start = c.args.start.now in
    let plies = c.args.plies.now in
    let text = c.args.text.now in
    let ply = c.ply-item.result in
    let here = line_at l.position plies l.ply-index ply (omega arith) c.ply-item.is l.invariant.line in
    let other = sym c.in_ok-begins_at.ensures ∙ c.if-branch.false in
    let after-is = c.play-position.ensures.after in
    record {
      line = rw after-is here.1;
      count = omega (arith, l.invariant.count);
      found = rw after-is (place_next start plies l.position text l.ply-index ply (omega arith) c.ply-item.is other l.invariant.found);
      sought = rw after-is (sought_on start plies l.position text l.ply-index ply (omega arith) c.ply-item.is other l.invariant.sought);
    }

pub returns-then-branch-clause-some : goal.returns-then-branch-clause-some
returns-then-branch-clause-some c =
    let l = c.loop-ply in
    let count = l.invariant.count in
    let within : l.number ≤ length c.args.plies.now = omega (arith, count) in (
      within,
      place_here c.args.start.now c.args.plies.now l.position (drop l.ply-index c.args.plies.now) c.args.text.now l.ply-index l.number count
          (sym c.in_ok-begins_at.ensures ∙ c.if-branch.true) l.invariant.found,
    )

pub returns-then-branch-2-clause-some : goal.returns-then-branch-2-clause-some
returns-then-branch-2-clause-some c =
    let l = c.loop-ply in
    let count = l.invariant.count in
    let within : l.number ≤ length c.args.plies.now = omega (arith, count) in (
      within,
      place_here c.args.start.now c.args.plies.now l.position (drop l.ply-index c.args.plies.now) c.args.text.now l.ply-index l.number count
          (sym c.in_ok-begins_at-2.ensures ∙ c.if-branch-2.true) l.invariant.found,
    )

pub returns-clause-none : goal.returns-clause-none
returns-clause-none c =
    let l = c.loop-ply in
    let end : length c.args.plies.now ≤ l.ply-index = omega arith in
    place_none c.args.start.now c.args.plies.now l.position (drop l.ply-index c.args.plies.now) c.args.text.now l.ply-index (drop_all l.ply-index c.args.plies.now end)
    (sym c.in_ok-begins_at-2.ensures ∙ c.if-branch-2.false) l.invariant.sought
