use Rattle.std.proofs.Common.{refl}
use Rattle.typed_lines.specs.declared.spelling.Way.TheVariants.{WithRank, WithSquare, Squares}
use Rattle.typed_lines.specs.Spelling.{Spells, SpellsBy}
use Rattle.typed_lines.proofs.LineLemmas.{if_ok_iff, last_way}
use Rattle.typed_lines.proofs.spelling.spells.Goals as goal

pub returns-then-branch-3 : goal.returns-then-branch-3
returns-then-branch-3 c = (λ _. (WithRank, c.in_ok-spells_by-3.ensures.0 c.if-branch-3.true), λ _. refl)

pub returns-then-branch-4 : goal.returns-then-branch-4
returns-then-branch-4 c = (λ _. (WithSquare, c.in_ok-spells_by-4.ensures.0 c.if-branch-4.true), λ _. refl)

pub returns : goal.returns
returns c =
    let kind = c.args.kind in
    let m = c.args.m.now in
    let heard = c.args.heard.now in
    if_ok_iff c.spells_by-5.result (SpellsBy Squares kind m heard) (Spells kind m heard) c.spells_by-5.ensures (λ by. (Squares, by))
    (λ spells. last_way kind m heard _ _ _ _ c.if-branch.false c.in_ok-spells_by.ensures c.if-branch-2.false c.in_ok-spells_by-2.ensures c.if-branch-3.false c.in_ok-spells_by-3.ensures
    c.if-branch-4.false c.in_ok-spells_by-4.ensures spells.0 spells.1)
