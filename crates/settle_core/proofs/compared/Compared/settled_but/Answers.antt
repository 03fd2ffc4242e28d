use Rattle.std.proofs.Common.{◌≡◌, sym, subst, ◌∙◌}
use Rattle.std.proofs.lemmas.Bool.{false≢true}
use Rattle.std.proofs.lemmas.Option.{same_Some}
use Rattle.chess_rules.specs.declared.chess_move.Move.{Move}
use Rattle.settle_core.specs.Settling.{Settles}
use Rattle.settle_core.proofs.Replying.{lacks_settle_none}
use Rattle.settle_core.proofs.compared.Compared.settled_but.Goals as goal
use Rattle.settle_core.proofs.compared.Compared.settled_but.Goals.{else-not-same_move-via-then-not-same_move+else-settles, else-not-same_move-via-else-not-same_move}

pub returns-in_default-clause-none : goal.returns-in_default-clause-none
returns-in_default-clause-none c m st = absurd (lacks_settle_none c.args.self.now.position m c.args.self.now.picture c.args.seen.now c.parts.ensures.valid c.requires.compared.picture c.in_default.ensures.none st)

pub returns-then-is_reply-clause-none : goal.returns-then-is_reply-clause-none
returns-then-is_reply-clause-none c m st = absurd (c.is_reply.ensures c.if-is_reply.true m st)

pub returns-then-settles-clause-some : goal.returns-then-settles-clause-some
returns-then-settles-clause-some c = (c.settles.ensures.0 c.if-settles.true, λ e. false≢true (sym c.if-not-same_move.true ∙ c.same_move.ensures.1 e))

pub returns-else-not-same_move-clause-none : goal.returns-else-not-same_move-clause-none
returns-else-not-same_move-clause-none c m st =
    let same : c.in_ok-m.m ≡ m = same_Some _ _ (c.in_ok-m.ensures m st) in
    elim c.else-not-same_move.branch [
      | else-not-same_move-via-then-not-same_move+else-settles w ↦
          let S : Move → Type 0 = λ n. Settles c.args.self.now.position c.args.seen.now n in
          absurd (false≢true (sym w.if-settles.false ∙ w.settles.ensures.1 (subst S (sym same) st)))
      | else-not-same_move-via-else-not-same_move w ↦ sym same ∙ c.same_move.ensures.0 w.if-not-same_move.false
    ]
