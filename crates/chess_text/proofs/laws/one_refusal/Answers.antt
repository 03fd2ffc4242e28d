use Rattle.chess_text.proofs.Refusals.{one_refusal}
use Rattle.chess_text.proofs.laws.one_refusal.Goals as goal

pub returns : goal.returns
returns c = one_refusal
