-- What the bits of a time message say.
use Rattle.std.proofs.Common.{◌≡◌, ◌/◌, ◌%◌, ◌==◌, ◌||◌, ℕ, Bool, Some, None, ap, ◌∙◌, arith}
use Rattle.std.specs.Prelude.{if◌then◌else◌, slice_index}
use Rattle.std.specs.Int.{bit_at}
use Rattle.std.proofs.lemmas.Bool.{eq-eqb, ne_eqb}
use Rattle.std.proofs.Math.Bool.{or-true}
use Rattle.board_doubts.specs.Clock.{running}
use Rattle.board_doubts.specs.Meaning.{BitSaysRunning}

zero_one : (n : ℕ) → n ≡ 0 → n ≡ 1 → ⊥
zero_one n zero one = omega (arith, zero, one)

low : (n : ℕ) → n % 2 ≡ bit_at n 0
low n = omega arith

pub bit_says_running : BitSaysRunning
bit_says_running bytes =
    let first : Bool = slice_index bytes 0 % 16 == 10 in
    let fourth : Bool = slice_index bytes 3 % 16 == 10 in
    let away : Bool = slice_index bytes 6 / 32 % 2 == 1 in
    let says : Bool = slice_index bytes 6 % 2 == 1 in (
      (λ one four clock.
          let told : running bytes ≡ Some says =
          ap (λ b. if (b || fourth) || away then None else Some says) (ne_eqb (slice_index bytes 0 % 16) 10 one)
          ∙ ap (λ b. if b || away then None else Some says) (ne_eqb (slice_index bytes 3 % 16) 10 four)
          ∙ ap (λ b. if b then None else Some says) (ne_eqb (slice_index bytes 6 / 32 % 2) 1 (λ e. zero_one (slice_index bytes 6 / 32 % 2) clock e)) in (
            (λ runs. told ∙ ap (λ b. Some b) (eq-eqb (slice_index bytes 6 % 2) 1 (low (slice_index bytes 6) ∙ runs))),
            (λ stands. told ∙ ap (λ b. Some b) (ne_eqb (slice_index bytes 6 % 2) 1 (λ e. zero_one (slice_index bytes 6 % 2) (low (slice_index bytes 6) ∙ stands) e))),
          )),
      (λ none. ap (λ b. if (first || fourth) || b then None else Some says) (eq-eqb (slice_index bytes 6 / 32 % 2) 1 none) ∙ ap (λ b. if b then None else Some says) (or-true (first || fourth))),
      (λ one. ap (λ b. if (b || fourth) || away then None else Some says) (eq-eqb (slice_index bytes 0 % 16) 10 one)),
      (λ four. ap (λ b. if (first || b) || away then None else Some says) (eq-eqb (slice_index bytes 3 % 16) 10 four) ∙ ap (λ b. if b || away then None else Some says) (or-true first)),
    )
