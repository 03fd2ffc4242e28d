use Rattle.std.proofs.Common.{◌∙◌, ◌++◌, ◌-◌, List, ℕ, ap, append-nil, codes}
use Rattle.going_back.proofs.Fronts.{if_ok, line_front}
use Rattle.going_back.proofs.TellLemmas.{legal_at, ply_written}
use Rattle.going_back.proofs.lines.nearest_line.Goals as goal

pub position_behind-position-requires : goal.position_behind-position-requires
position_behind-position-requires c = line_front c.args.start.now c.args.plies.now (c.args.number - 1) c.requires.line

pub write_name-requires : goal.write_name-requires
write_name-requires c = legal_at c.args.start.now c.position_behind-position.result c.args.plies.now c.args.number c.ply_at.result.now c.requires.first c.requires.within c.ply_at.ensures
    c.position_behind-position.ensures c.requires.line

pub returns : goal.returns
returns c =
    let name = c.write_name.new.name.items in
    let written = ply_written c.args.start.now c.position_behind-position.result c.args.plies.now c.args.number c.ply_at.result.now name c.requires.first c.requires.within c.ply_at.ensures
    c.position_behind-position.ensures c.write_name.ensures in
    let shown = ap (λ (text : List ℕ). codes "nearest " ++ (text ++ codes "\n")) c.as_slice.ensures.value in
    let rest = append-nil c.as_slice-2.result.now ∙ c.as_slice-2.ensures.value ∙ c.in_ok-rest.ensures ∙ shown in
    if_ok _ _ c.joined-2.result (λ line is. (name, written, is ∙ ap (λ (text : List ℕ). c.args.front.now ++ text) rest)) c.joined-2.ensures
