use Rattle.std.proofs.Common.{◌∙◌, ◌++◌, List, ℕ, ap, codes, subst}
use Rattle.std.specs.Prelude.{decimal}
use Rattle.chess_rules.specs.declared.parts.Parts.{Parts}
use Rattle.going_back.specs.Telling.{IsWrittenSo}
use Rattle.going_back.proofs.Fronts.{if_ok, line_front}
use Rattle.going_back.proofs.lines.moved_line.Goals as goal

pub position_behind-position-requires : goal.position_behind-position-requires
position_behind-position-requires c = line_front c.args.start.now c.args.plies.now c.args.stays c.requires.line

pub returns : goal.returns
returns c =
    let name = c.write_name.new.name.items in
    let W : Parts → Type 0 = λ p. IsWrittenSo p c.args.mv name in
    let written = subst W c.position_behind-position.ensures c.write_name.ensures in
    let shown = ap (λ (text : List ℕ). codes " " ++ (text ++ codes "\n")) c.as_slice.ensures.value in
    let rest = c.as_slice-2.ensures.value ∙ c.in_ok-rest.ensures ∙ shown in
    if_ok _ _ c.count_line.result (λ line is. (name, written, is ∙ ap (λ (text : List ℕ). c.args.front.now ++ (codes "moved " ++ (decimal c.args.stays ++ text))) rest)) c.count_line.ensures
