use Rattle.unseen_pairs.proofs.Sequels.{new_meets}
use Rattle.unseen_pairs.proofs.evidence.shows_new.Goals as goal

pub returns : goal.returns
returns c =
    let m = new_meets c.args.now.now c.picture.result c.args.seen.now c.diff_mask.result c.shown_in.result c.picture.ensures.shown c.diff_mask.ensures c.shown_in.ensures in
    (λ t. m.0 (c.meets.ensures.0 t), λ h. c.meets.ensures.1 (m.1 h))
