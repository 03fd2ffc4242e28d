use Rattle.std.proofs.Common.{List, [], ℕ, sym, subst}
use Rattle.pair_frames.specs.PutIn.{ShowsWhole}
use Rattle.pair_frames.proofs.Joining.{nothing_shown}
use Rattle.adding.proofs.making.bytes_of_moves.Goals as goal

pub returns : goal.returns
returns c = λ past stands.
    let W : List ℕ → Type 0 = λ xs. ShowsWhole xs [] in
    c.in_ok-add_again.ensures past _ stands (c.in_ok-add_plies.ensures.shows [] (subst W (sym c.new-bytes.ensures.items) nothing_shown))
