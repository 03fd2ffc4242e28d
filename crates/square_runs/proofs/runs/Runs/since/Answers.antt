use Rattle.std.proofs.Common.{◌==◌, ◌&&◌, bit_and, ℕ, Bool, true, false, Some, None, slice_index, refl, ap, ◌≡◌, ◌∙◌}
use Rattle.std.specs.Prelude.{if◌then◌else◌}
use Rattle.std.specs.Int.{bit_at}
use Rattle.square_runs.specs.Keeping.{time_of}
use Rattle.square_runs.specs.Shown.{has, since_when}
use Rattle.square_runs.proofs.Due.{first_same}
use Rattle.square_runs.proofs.Squares.{both}
use Rattle.square_runs.proofs.runs.Runs.since.Goals as goal

if_both : (a b : Bool) (time : ℕ) → (if a && b then Some time else None) ≡ (if b then (if a then Some time else None) else None)
if_both false false time = refl
if_both false true time = refl
if_both true false time = refl
if_both true true time = refl

pub returns : goal.returns
returns c past test stands marks =
    let last : ℕ = c.args.self.now.last in
    let since = c.args.self.now.since in
    c.first_since.ensures
    ∙ first_same 64 (time_of (bit_and last c.args.squares) since)
    (λ s. if test s then since_when (has s) past else None)
    (λ s low. ap (λ b. if b then Some (slice_index since s) else None) (both last c.args.squares s)
    ∙ if_both (bit_at last s == 1) (bit_at c.args.squares s == 1) (slice_index since s)
    ∙ ap (λ time. if bit_at c.args.squares s == 1 then time else None) (stands s low)
    ∙ ap (λ b. if b then since_when (has s) past else None) (marks s low))
