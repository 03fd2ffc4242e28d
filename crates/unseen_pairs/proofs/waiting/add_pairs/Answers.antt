use Rattle.std.proofs.Common.{inl}
use Rattle.unseen_pairs.proofs.waiting.add_pairs.Goals as goal

pub returns-then-not-may_be_explained : goal.returns-then-not-may_be_explained
returns-then-not-may_be_explained c = record {
  sound = λ x old. inl old;
  keeps = λ x old. old;
  whole = λ x two. absurd (let may = c.may_be_explained.ensures x.first x.second two in let no = c.if-not-may_be_explained.true in cc);
}
