use Rattle.std.proofs.Common.{◌&&◌, not, false, Bool, List, Option, None, ap, ◌∙◌}
use Rattle.std.specs.Prelude.{if◌then◌else◌}
use Rattle.board_doubts.specs.Thinking.{are_most_lent, counting, known_counting, lent, lent_by}
use Rattle.board_doubts.specs.Keeping.{filled}
use Rattle.board_doubts.specs.Pace.{pace_of}
use Rattle.board_doubts.proofs.thinking.Thinking.is_exchanged.Goals as goal

pub returns : goal.returns
returns c past unknown keeps =
    let counts : Option Bool = if c.args.is_unknown then None else c.args.self.now.counting in
    let with_it : List Bool = lent_by c.args.what false counts (lent past) in
    c.both.ensures
    ∙ ap (λ b. b && not c.are_most-were.result) (
    c.are_most-are.ensures with_it (c.lent_after-lent.ensures (lent past) keeps.lent_is
    ∙ ap (λ k. filled pace_of (lent_by c.args.what false k (lent past))) c.known-counting.ensures)
    ∙ ap (λ k. are_most_lent (lent_by c.args.what false (if c.args.is_unknown then None else k) (lent past))) keeps.counting_is
    ∙ ap (λ b. are_most_lent (lent_by c.args.what false (if b then None else counting past) (lent past))) unknown)
    ∙ ap (λ b. are_most_lent (lent_by c.args.what false (known_counting past) (lent past)) && not b) (c.are_most-were.ensures (lent past) keeps.lent_is)
