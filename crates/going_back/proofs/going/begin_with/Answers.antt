use Rattle.std.proofs.Common.{◌≡◌, ◌∙◌, ℕ, length, take, get_or, refl, subst, arith}
use Rattle.std.proofs.lemmas.Bool.{iff_false}
use Rattle.std.proofs.lemmas.List.{take_all}
use Rattle.going_back.proofs.Fronts.{front_more, more_same, take_same}
use Rattle.going_back.proofs.going.begin_with.Goals as goal

pub loop-ply-preserved : goal.loop-ply-preserved
loop-ply-preserved c =
    let plies = c.args.plies.now in
    let front = c.args.front.now in
    let l = c.loop-ply in
    let count = l.invariant.count in
    let x = c.ply_at.result.now in
    let G : ℕ → Type 0 = λ n. x ≡ get_or plies n x in
    let here : x ≡ get_or plies l.ply-index x = subst G count c.ply_at.ensures in
    let same : x ≡ c.ply-item.result = c.is_same.ensures.0 c.if-not-is_same.false in
    record {
      count = omega (arith, count);
      same = take_same plies front l.ply-index x c.ply-item.result (omega arith) (omega arith) here c.ply-item.is same l.invariant.same;
    }

pub returns-then-not-is_same : goal.returns-then-not-is_same
returns-then-not-is_same c =
    let plies = c.args.plies.now in
    let front = c.args.front.now in
    let l = c.loop-ply in
    let count = l.invariant.count in
    let x = c.ply_at.result.now in
    let G : ℕ → Type 0 = λ n. x ≡ get_or plies n x in
    let here : x ≡ get_or plies l.ply-index x = subst G count c.ply_at.ensures in (
      λ t. absurd cc,
      λ h. absurd (iff_false c.is_same.ensures c.if-not-is_same.true (more_same plies front h.0 l.ply-index x c.ply-item.result (omega arith) here c.ply-item.is h.1)),
    )

pub returns : goal.returns
returns c =
    let plies = c.args.plies.now in
    let front = c.args.front.now in
    let l = c.loop-ply in
    let S : ℕ → Type 0 = λ n. take n plies ≡ take n front in
    let end : l.ply-index ≡ length front = omega arith in
    (λ t. front_more plies front (subst S end l.invariant.same ∙ take_all (length front) front (omega arith)), λ h. refl)
