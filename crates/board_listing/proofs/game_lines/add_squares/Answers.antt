use Rattle.std.proofs.Common.{◌≡◌, ◌++◌, sym, ◌∙◌, ap, append-nil, arith}
use Rattle.board_listing.specs.GameLines.{differing}
use Rattle.board_listing.proofs.SquareLemmas.{all_squares, differs_there, more_added, skipped_to}
use Rattle.board_listing.proofs.game_lines.add_squares.Goals as goal

pub squares-init : goal.squares-init
squares-init c = record {
  inside = omega arith;
  len = omega arith;
  items = λ stands seen diff. sym (append-nil c.args.lines.now.items);
}

pub squares-preserved-then-square-lt64 : goal.squares-preserved-then-square-lt64
squares-preserved-then-square-lt64 c = record {
  inside = omega (arith, c.if-square-lt64.true);
  len = omega (arith, c.squares.invariant.len, c.next_square-square.ensures.from, c.add.ensures.len);
  items = λ stands seen diff.
      let set = c.next_square-square.ensures.set c.if-square-lt64.true in
      let before = c.squares.invariant.items stands seen diff
      ∙ ap (λ text. c.args.lines.now.items ++ text)
      (skipped_to c.args.mask c.squares.square c.next_square-square.result stands seen c.next_square-square.ensures.from c.next_square-square.ensures.range diff c.next_square-square.ensures.clear) in
      more_added _ _ _ _ _ before c.add.ensures.items
      ∙ ap (λ text. c.args.lines.now.items ++ text) (sym (differs_there c.args.mask c.next_square-square.result stands seen c.if-square-lt64.true diff set));
}

pub squares-preserved : goal.squares-preserved
squares-preserved c = record {
  inside = c.next_square-square.ensures.range;
  len = omega (arith, c.squares.invariant.len, c.next_square-square.ensures.from);
  items = λ stands seen diff. c.squares.invariant.items stands seen diff
      ∙ ap (λ text. c.args.lines.now.items ++ text)
      (skipped_to c.args.mask c.squares.square c.next_square-square.result stands seen c.next_square-square.ensures.from c.next_square-square.ensures.range diff c.next_square-square.ensures.clear);
}

pub returns-clause-items : goal.returns-clause-items
returns-clause-items c stands seen diff =
    let at : c.squares.square ≡ 64 = omega (arith, c.squares.invariant.inside, c.squares-test.false) in
    c.squares.invariant.items stands seen diff ∙ ap (λ n. c.args.lines.now.items ++ differing n stands seen) at ∙ ap (λ text. c.args.lines.now.items ++ text) (all_squares stands seen)
