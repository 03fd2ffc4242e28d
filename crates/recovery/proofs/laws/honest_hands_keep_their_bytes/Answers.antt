use Rattle.recovery.proofs.LawLemmas.{hands_keep_bytes}
use Rattle.recovery.proofs.laws.honest_hands_keep_their_bytes.Goals as goal

pub returns : goal.returns
returns c = hands_keep_bytes c.shows_once.ensures c.hands_at_rest_are_left_alone.ensures.confirms
