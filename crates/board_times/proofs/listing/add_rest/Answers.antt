use Rattle.std.proofs.lemmas.Bool.{ne_eqb}
use Rattle.board_times.proofs.ListingLemmas.{rest_added}
use Rattle.board_times.proofs.listing.add_rest.Goals as goal

pub returns : goal.returns
returns c = rest_added c.add_line_with.result c.args.out.now.items c.add_line_with.new.out.items c.args.rest (ne_eqb c.args.rest 0 c.if-rest-eq0.false) c.add_line_with.ensures
