use Rattle.std.proofs.Common.{◌++◌, codes, decimal}
use Rattle.board_times.proofs.ListingLemmas.{joined}
use Rattle.board_times.proofs.listing.add_heading.Goals as goal

pub returns : goal.returns
returns c =
    joined c.add_line_with.result c.args.out.now.items c.add_with_decimal.new.out.items c.add_line_with.new.out.items
    (codes "generation " ++ decimal c.args.heading.now.generation) (codes ", bytes when it began: " ++ decimal c.args.heading.now.size ++ codes "\n")
    c.in_ok-add_with_decimal.ensures c.add_line_with.ensures
