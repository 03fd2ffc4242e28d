use Rattle.std.proofs.Common.{◌∙◌, ◌++◌, List, ℕ, ap, codes, subst}
use Rattle.chess_rules.specs.declared.parts.Parts.{Parts}
use Rattle.going_back.specs.Proposing.{IsReplyWritten}
use Rattle.going_back.proofs.Fronts.{if_ok}
use Rattle.going_back.proofs.proposing.two_text.Goals as goal

pub returns : goal.returns
returns c =
    let two = c.args.two.now in
    let first = c.in_ok-first.first.items in
    let second = c.in_ok-second.second.items in
    let R : Parts → Type 0 = λ q. IsReplyWritten q.side q two.second second in
    let reply = subst R c.play.ensures.after c.in_ok-second.ensures in
    let shown = ap (λ (text : List ℕ). text ++ (codes " " ++ c.as_slice-2.result.now)) c.as_slice.ensures.value
    ∙ ap (λ (text : List ℕ). first ++ (codes " " ++ text)) c.as_slice-2.ensures.value in
    if_ok _ _ c.joined.result (λ line is. (first, second, c.in_ok-first.ensures, reply, is ∙ shown)) c.joined.ensures
