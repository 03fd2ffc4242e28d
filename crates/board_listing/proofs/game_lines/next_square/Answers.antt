use Rattle.std.proofs.Common.{◌/◌, ◌^◌, ◌<◌, arith}
use Rattle.board_listing.proofs.SquareLemmas.{clear_rest, lowest_from}
use Rattle.board_listing.proofs.game_lines.next_square.Goals as goal

pub returns-then-rest-eq0-clause-clear : goal.returns-then-rest-eq0-clause-clear
returns-then-rest-eq0-clause-clear c = λ s from below. clear_rest c.args.mask c.args.square c.if-rest-eq0.true s from

pub returns-clause-range : goal.returns-clause-range
returns-clause-range c =
    let some : 0 < c.args.mask / 2 ^ c.args.square = omega (arith, c.if-rest-eq0.false) in
    let lowest = lowest_from c.args.mask c.args.square c.ranges.mask.fits some in
    let inside = lowest.0 in
    omega (arith, inside)

pub returns-clause-clear : goal.returns-clause-clear
returns-clause-clear c =
    let some : 0 < c.args.mask / 2 ^ c.args.square = omega (arith, c.if-rest-eq0.false) in
    let lowest = lowest_from c.args.mask c.args.square c.ranges.mask.fits some in
    lowest.1.1

pub returns-clause-set : goal.returns-clause-set
returns-clause-set c =
    let some : 0 < c.args.mask / 2 ^ c.args.square = omega (arith, c.if-rest-eq0.false) in
    let lowest = lowest_from c.args.mask c.args.square c.ranges.mask.fits some in
    λ within. lowest.1.0
