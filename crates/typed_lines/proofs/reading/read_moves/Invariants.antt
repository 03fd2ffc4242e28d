use Rattle.std.proofs.Common.{List, ℕ, Bor, map, take}
use Rattle.typed_lines.proofs.LineLemmas.{ReadSoFar}
use Rattle.typed_lines.proofs.reading.read_moves.Given as goal

abbrev pub invariant-loop-word : goal.invariant-loop-word
invariant-loop-word l = ReadSoFar l.fn.start (map (λ (word : Bor (List ℕ)). word.now) (take l.word-index l.words)) l.position l.moves.items
