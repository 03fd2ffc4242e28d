use Rattle.std.proofs.Common.{◌≡◌, ◌++◌, ◌∷◌, ◌+◌, ◌*◌, ◌-◌, [], ℕ, List, take, drop, arith, sym, ap, ◌∙◌, append_assoc, length, length-append}
use Rattle.std.proofs.lemmas.List.{append-nil}
use Rattle.chess_text.specs.Placement.{rank_text, ranks_text}
use Rattle.chess_text.proofs.Placements.{ranks_next, ranks_end}
use Rattle.chess_text.proofs.placement.write_placement.Goals as goal

pub loop-r-preserved : goal.loop-r-preserved
loop-r-preserved c =
    let b = c.args.picture.now in
    let r = c.loop-r.r in
    let next = ranks_next r b (omega arith) in
    let text = c.put_rank-in-loop-r.ensures.text in
    let push = c.push.ensures.ascii (omega arith) in
    let out = c.loop-r.out.bytes in
    let row = rank_text 0 (take 8 (drop (8 * r) b)) in
    let more = ranks_text (8 - (r + 1)) (drop (8 * (r + 1)) b) in
    let eight : 8 * r + 8 - 8 * r ≡ 8 = omega arith in
    let wrote : c.put_rank-in-loop-r.new.out.bytes ≡ (out ++ 47 ∷ []) ++ row = text ∙ ap (λ (x : List ℕ). x ++ rank_text 0 (take (8 * r + 8 - 8 * r) (drop (8 * r) b))) push ∙ ap (λ (n : ℕ). (out ++ 47 ∷ []) ++ rank_text 0 (take n (drop (8 * r) b))) eight in (
      c.loop-r.invariant.0 ∙ ap (λ (x : List ℕ). out ++ x) next ∙ sym (append_assoc out (47 ∷ row) more) ∙ ap (λ (x : List ℕ). x ++ more) (sym (wrote ∙ append_assoc out (47 ∷ []) row)),
      omega (arith, c.put_rank-in-loop-r.ensures.length, ap length push, length-append out (47 ∷ []), c.loop-r.invariant.1),
    )

pub returns-clause-text : goal.returns-clause-text
returns-clause-text c =
    let b = c.args.picture.now in
    let e : 8 - c.loop-r.r ≡ 0 = omega arith in
    sym (c.loop-r.invariant.0 ∙ ap (λ (n : ℕ). c.loop-r.out.bytes ++ ranks_text n (drop (8 * c.loop-r.r) b)) e ∙ ap (λ (x : List ℕ). c.loop-r.out.bytes ++ x) (ranks_end (drop (8 * c.loop-r.r) b)) ∙ append-nil c.loop-r.out.bytes)
