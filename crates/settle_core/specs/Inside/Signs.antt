-- How a picture without kings is compared with a position.
use Rattle.std.specs.Prelude.{◌≡◌, ◌≢◌, ◌⊎◌, ℕ}

-- what a code outside the centre becomes
abbrev pub IsAs : ℕ → ℕ → Type 0
IsAs stands shown = (((stands ≡ 5) ⊎ (stands ≡ 11)) → shown ≡ 0) × ((stands ≢ 5) × (stands ≢ 11) → shown ≡ stands)
