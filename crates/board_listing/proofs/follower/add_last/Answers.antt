use Rattle.board_listing.proofs.FollowLemmas.{last_found, last_legal, last_told}
use Rattle.board_listing.proofs.follower.add_last.Goals as goal

pub add_ply-requires-clause-legal : goal.add_ply-requires-clause-legal
add_ply-requires-clause-legal c = last_legal c.args.settler.now.start c.args.settler.now.score.plies c.last_ply.result _ _ c.requires.last c.last_ply.ensures.last c.in-Some.is

pub returns-clause-told : goal.returns-clause-told
returns-clause-told c = last_told c.args.offset c.args.word.now c.args.lines.now.items c.add_ply.new.lines.items c.args.settler.now.start c.args.settler.now.score.plies c.last_ply.result _ _
    c.requires.last c.last_ply.ensures.last c.in-Some.is c.add_ply.ensures.told

pub unreachable-requires : goal.unreachable-requires
unreachable-requires c = last_found c.args.settler.now.start c.args.settler.now.score.plies c.last_ply.result c.requires.last c.last_ply.ensures.last c.in_default.is
