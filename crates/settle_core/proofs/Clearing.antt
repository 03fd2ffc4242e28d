-- A mask of which one square is taken away after another.
use Rattle.std.proofs.Common.{◌≡◌, ◌≢◌, ℕ, ◌<◌, inl, inr, subst, sym, ap, ◌∙◌}
use Rattle.std.specs.Int.{bit_at}
use Rattle.std.proofs.lemmas.Bool.{cases_eq}
use Rattle.std.proofs.lemmas.Nat.Bits.{bit_at-zero}

-- What holds of the squares that were taken away holds of one more.
pub still_cleared :
    (P : ℕ → Type 0) (old new square : ℕ)
    → ((s : ℕ) → s < 64 → s ≢ square → bit_at new s ≡ bit_at old s)
    → P square
    → ((k : ℕ) → k < 64 → bit_at old k ≡ 0 → P k)
    → (k : ℕ) → k < 64 → bit_at new k ≡ 0 → P k
still_cleared P old new square others here below k low unset =
    elim (cases_eq k square) [
      | inl e ↦ subst P (sym e) here
      | inr ne ↦ below k low (sym (others k low ne) ∙ unset)
    ]

-- Once no square is left, it holds of each.
pub all_cleared : (P : ℕ → Type 0) (rest : ℕ) → rest ≡ 0 → ((k : ℕ) → k < 64 → bit_at rest k ≡ 0 → P k) → (k : ℕ) → k < 64 → P k
all_cleared P rest none below k low = below k low (ap (λ n. bit_at n k) none ∙ bit_at-zero k)
