use Rattle.std.proofs.Common.{◌≡◌, Bool, IsTrue, true, false, not, get_or, refl, sym, ap, ◌∙◌}
use Rattle.chess_rules.specs.declared.parts.Parts.{Parts}
use Rattle.settle_core.specs.Candidate.{is_owned_code}
use Rattle.settle_core.proofs.Replying.{replies_settle_none}
use Rattle.settle_core.proofs.compared.Compared.is_reply.Goals as goal

not_owned : (b : Bool) → IsTrue (not b) → b ≡ false
not_owned false t = refl
not_owned true t = absurd (let never : ⊥ = cc in never)

pub returns : goal.returns
returns c t m st =
    replies_settle_none c.args.self.now.position m c.args.self.now.picture c.args.seen.now c.args.landed c.parts.ensures.valid c.requires.compared.picture
    (c.requires.landed).0 (c.requires.landed).1
    (ap (λ (p : Parts). is_owned_code p.side (get_or c.args.seen.now c.args.landed 0)) (sym c.parts.ensures.same) ∙ sym c.is_owned.ensures ∙ not_owned c.is_owned.result t) st
