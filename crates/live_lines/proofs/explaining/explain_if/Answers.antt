use Rattle.live_lines.specs.Explaining.{Explains, ExplainsSaid}
use Rattle.live_lines.proofs.ExplainLemmas.{said_wrong}
use Rattle.live_lines.proofs.TextLemmas.{map_ok}
use Rattle.live_lines.proofs.explaining.explain_if.Goals as goal

pub returns-in-Wrong : goal.returns-in-Wrong
returns-in-Wrong c = λ setting recovers past report s.
    map_ok c.explain.result (λ line. Explains setting recovers past line.items) (λ line. ExplainsSaid c.args.said setting recovers past line.items)
    (c.explain.ensures setting recovers past report s)
    (λ line h. said_wrong c.args.said c.in-Some.state setting recovers past line.items c.in-Some.is c.in-Wrong.is h)
