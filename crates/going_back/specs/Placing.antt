-- Where a line of moves comes in, by the number with which it begins. Plies stand in their order.
use Rattle.std.specs.Prelude.{◌≡◌, ℕ, zero, suc, false, true, List, [], ◌∷◌}
use Rattle.chess_rules.specs.declared.parts.Parts.{Parts}
use Rattle.chess_rules.specs.After.{after}
use Rattle.settle_core.specs.declared.plies.Ply.{Ply}
use Rattle.typed_lines.specs.Numbers.{begins_at}

-- Behind so many plies, and not before, the next move has the number with which the text begins.
abbrev pub IsPlace : Parts → List Ply → List ℕ → ℕ → Type 0
IsPlace p plies text zero = begins_at p text ≡ true
IsPlace p [] text (suc k) = ⊥
IsPlace p (ply ∷ plies) text (suc k) = (begins_at p text ≡ false) × IsPlace (after p ply.mv) plies text k
