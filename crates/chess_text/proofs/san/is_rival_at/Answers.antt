use Prim.{search}
use Rattle.std.proofs.Common.{rules, ℕ, subst}
use Rattle.chess_rules.specs.Legal.{Legal}
use Rattle.chess_text.specs.Inside.Rivals.{from_square}
use Rattle.chess_text.proofs.san.is_rival_at.Goals as goal

pub returns : goal.returns
returns c = (
  λ t. record {
    other = search rules;
    kind = search rules;
    shares = search rules;
    legal = let L : ℕ → Type 0 = λ s. Legal c.args.p.now (from_square c.args.m.now s) in subst L c.square_at.ensures (c.is_legal.ensures.0 t);
  },
  λ r. search rules,
)
