use Rattle.std.proofs.Common.{refl, subst}
use Rattle.chess_rules.specs.declared.parts.Parts.{Parts}
use Rattle.settle_core.specs.Folding.{moves_of}
use Rattle.settle_core.specs.Settling.{reached}
use Rattle.unseen_pairs.specs.Inside.Explaining.{IsBegunOtherwise}
use Rattle.std.proofs.Common.{None, sym}
use Rattle.unseen_pairs.proofs.SomePair.{explained_at_last, explained_by_none, explained_next}
use Rattle.unseen_pairs.proofs.explained.is_explained.Goals as goal

pub returns-then-branch : goal.returns-then-branch
returns-then-branch c =
    let settler = c.args.settler.now in
    let B : Parts → Type 0 = λ p. IsBegunOtherwise p None c.args.seen.now in (
      λ t. explained_next settler.start (moves_of settler.score.plies) c.args.seen.now
          (subst B c.position.ensures.reached (c.in_ok-is_begun_otherwise.ensures.0 c.if-branch.true)),
      λ h. refl,
    )

pub returns-in_default : goal.returns-in_default
returns-in_default c =
    let settler = c.args.settler.now in
    let B : Parts → Type 0 = λ p. IsBegunOtherwise p None c.args.seen.now in
    let next : IsBegunOtherwise (reached settler.start (moves_of settler.score.plies)) None c.args.seen.now → ⊥ = λ b. let found = c.in_ok-is_begun_otherwise.ensures.1 (subst B (sym c.position.ensures.reached) b) in
    let not = c.if-branch.false in let n : ⊥ = cc in n in (
      λ t. absurd cc,
      λ h. absurd (explained_by_none settler.start settler.score.plies c.args.seen.now c.last_ply.result c.in_default.is c.last_ply.ensures.last next h),
    )

pub returns : goal.returns
returns c =
    let settler = c.args.settler.now in
    let B : Parts → Type 0 = λ p. IsBegunOtherwise p None c.args.seen.now in
    let next : IsBegunOtherwise (reached settler.start (moves_of settler.score.plies)) None c.args.seen.now → ⊥ = λ b. let found = c.in_ok-is_begun_otherwise.ensures.1 (subst B (sym c.position.ensures.reached) b) in
    let not = c.if-branch.false in let n : ⊥ = cc in n in
    explained_at_last settler.start settler.score.plies c.args.seen.now c.last_ply.result c.in-Some.last.0 c.in-Some.last.1 c.in_ok-instead.instead
    c.in-Some.is c.last_ply.ensures.last c.last_ply.ensures.none next c.in_ok-instead.ensures
