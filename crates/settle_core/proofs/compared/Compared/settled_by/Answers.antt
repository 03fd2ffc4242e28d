use Rattle.std.proofs.Common.{◌≡◌, sym, subst, ◌∙◌}
use Rattle.std.proofs.lemmas.Bool.{false≢true}
use Rattle.std.proofs.lemmas.Option.{same_Some}
use Rattle.chess_rules.specs.declared.chess_move.Move.{Move}
use Rattle.settle_core.specs.Settling.{Settles}
use Rattle.settle_core.proofs.compared.Compared.settled_by.Goals as goal

pub returns-then-is_reply-clause-none : goal.returns-then-is_reply-clause-none
returns-then-is_reply-clause-none c m st = absurd (c.is_reply.ensures c.if-is_reply.true m st)

pub returns-then-settles-clause-some : goal.returns-then-settles-clause-some
returns-then-settles-clause-some c = c.settles.ensures.0 c.if-settles.true

pub returns-else-settles-clause-none : goal.returns-else-settles-clause-none
returns-else-settles-clause-none c m st =
    let same : c.in_ok-m.m ≡ m = same_Some _ _ (c.in_ok-m.ensures m st) in
    let S : Move → Type 0 = λ n. Settles c.args.self.now.position c.args.seen.now n in
    absurd (false≢true (sym c.if-settles.false ∙ c.settles.ensures.1 (subst S (sym same) st)))
