use Rattle.std.proofs.Common.{◌≡◌, ℕ, ◌+◌, ◌<◌, List, ◌++◌, ◌∷◌, [], length, take, get_or, sym, ap, ◌∙◌, append-nil, arith}
use Rattle.std.proofs.lemmas.List.{take_more}
use Rattle.std.proofs.lemmas.List.Concat.{flat_map-append}
use Rattle.chess_text.specs.Placement.{squares, squares_at}
use Rattle.chess_text.proofs.Placements.{too_long}
use Rattle.chess_text.proofs.placement.squares_of.Goals as goal

one_more :
    (text old new : List ℕ) (i : ℕ)
    → i < length text → old ≡ squares (take i text) → new ≡ old ++ squares_at (get_or text i 0) → new ≡ squares (take (i + 1) text)
one_more text old new i low same more =
    let b : ℕ = get_or text i 0 in
    let next : squares (take (i + 1) text) ≡ squares (take i text) ++ squares_at b =
    ap squares (take_more text i 0 low) ∙ flat_map-append squares_at (take i text) (b ∷ []) ∙ ap (λ xs. squares (take i text) ++ xs) (append-nil (squares_at b)) in
    more ∙ ap (λ xs. xs ++ squares_at b) same ∙ sym next

pub loop-b-preserved : goal.loop-b-preserved
loop-b-preserved c = one_more c.args.text.now c.loop-b.out.items c.put_squares.new.out.items c.loop-b.b-index (omega arith) c.loop-b.invariant c.if-not-put_squares.ensures.fits

pub returns-then-not-put_squares-clause-none : goal.returns-then-not-put_squares-clause-none
returns-then-not-put_squares-clause-none c = too_long c.args.text.now c.loop-b.out.items c.loop-b.b-index (omega arith) c.loop-b.invariant c.if-not-put_squares.ensures.full
