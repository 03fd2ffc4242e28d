use Rattle.std.proofs.Common.{◌≡◌, ◌≤◌, List, ℕ, Bor, drop, map}
use Rattle.typed_lines.specs.Numbers.{misnumbered}
use Rattle.typed_lines.proofs.numbers.misnumbered.Given as goal

abbrev pub invariant-loop-word : goal.invariant-loop-word
invariant-loop-word l = record {
  few : l.made ≤ l.word-index;
  rest : misnumbered l.fn.p 0 (map (λ (word : Bor (List ℕ)). word.now) l.words) ≡ misnumbered l.fn.p l.made (map (λ (word : Bor (List ℕ)). word.now) (drop l.word-index l.words));
}
