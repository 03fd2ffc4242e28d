use Rattle.std.proofs.Common.{◌∙◌, ◌++◌, List, [], ℕ, ap, append-nil, subst}
use Rattle.chess_rules.specs.declared.parts.Parts.{Parts}
use Rattle.going_back.specs.Proposing.{AreWritten, front}
use Rattle.going_back.proofs.Fronts.{if_ok}
use Rattle.going_back.proofs.ProposeLemmas.{moves_typed}
use Rattle.going_back.proofs.proposing.typed_text.Goals as goal

pub returns : goal.returns
returns c =
    let coming = c.args.coming.now in
    let moves = c.in_ok-moves.moves.items in
    let W : Parts → Type 0 = λ q. AreWritten q coming moves in
    let written = subst W c.position_behind.ensures c.in_ok-moves.ensures in
    let shown = ap (λ (text : List ℕ). text ++ (c.as_slice-2.result.now ++ [])) c.front.ensures
    ∙ ap (λ (text : List ℕ). front c.args.gone ++ text) (append-nil c.as_slice-2.result.now ∙ c.as_slice-2.ensures.value) in
    if_ok _ _ c.joined-2.result (λ typed is. moves_typed c.args.start.now c.args.stay.now c.args.gone coming moves typed.items c.in_default.not-Nothing written (is ∙ shown))
    c.joined-2.ensures
