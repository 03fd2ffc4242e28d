use Rattle.std.proofs.Common.{◌≡◌, List, ℕ, Bor, false, map, take}
use Rattle.std.specs.List.{list_any}
use Rattle.typed_lines.specs.Lines.{stands_alone}
use Rattle.typed_lines.proofs.reading.is_mixed.Given as goal

abbrev pub invariant-loop-word : goal.invariant-loop-word
invariant-loop-word l = list_any stands_alone (map (λ (word : Bor (List ℕ)). word.now) (take l.word-index l.words)) ≡ false
