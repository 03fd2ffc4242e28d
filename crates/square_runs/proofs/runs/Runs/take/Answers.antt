use Rattle.std.proofs.Common.{◌==◌, ℕ, Some, None, slice_index, ap, ◌∙◌}
use Rattle.std.specs.Prelude.{if◌then◌else◌}
use Rattle.std.specs.Int.{bit_at}
use Rattle.square_runs.specs.Lasting.{carry}
use Rattle.square_runs.proofs.Walking.{carried_at}
use Rattle.square_runs.proofs.runs.Runs.take.Goals as goal

pub returns : goal.returns
returns c past stands s low =
    let last : ℕ = c.args.self.now.last in
    let since : ℕ = slice_index c.args.self.now.since s in
    let squares : ℕ = c.args.squares in
    ap (λ n. if bit_at squares s == 1 then Some n else None) (c.give_time.ensures s low)
    ∙ ap (λ b. if bit_at squares s == 1 then Some (if b then c.args.at else since) else None) (c.lacking.ensures s low)
    ∙ carried_at (bit_at squares s == 1) (bit_at last s == 1) c.args.at since
    ∙ ap (carry (bit_at squares s == 1) c.args.at) (stands s low)
