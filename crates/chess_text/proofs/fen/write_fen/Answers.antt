use Rattle.std.proofs.Common.{◌≡◌, ◌++◌, ◌∷◌, [], ap, ◌∙◌, append_assoc, arith}
use Rattle.std.specs.Prelude.{decimal}
use Rattle.chess_rules.specs.declared.parts.Parts.{Parts}
use Rattle.chess_rules.specs.Picture.{picture}
use Rattle.chess_text.specs.Placement.{placement}
use Rattle.chess_text.specs.Fen.{fen, side_text, rights_text, target_text}
use Rattle.chess_text.proofs.fen.write_fen.Goals as goal

pub write_placement-out-requires : goal.write_placement-out-requires
write_placement-out-requires c = λ k d lt. let known = c.picture.ensures.known k d lt in omega arith

pub returns : goal.returns
unfolding fen
returns c =
    let p = c.args.p.now in
    let same = c.parts-parts.ensures.same in
    let board = ap placement c.picture.ensures.shown in
    let side = ap (λ (q : Parts). side_text q.side) same in
    let castling = ap (λ (q : Parts). rights_text q.rights) same in
    let target = ap (λ (q : Parts). target_text q.target) same in
    let halfmove = ap (λ (q : Parts). decimal q.halfmove) same in
    let fullmove = ap (λ (q : Parts). decimal q.fullmove) same in
    let wrote : c.push_number-2.new.out.bytes ≡ (((((((((placement (picture p) ++ 32 ∷ []) ++ side_text p.side) ++ 32 ∷ []) ++ rights_text p.rights) ++ 32 ∷ []) ++ target_text p.target) ++ 32 ∷ []) ++ decimal p.halfmove) ++ 32 ∷ []) ++ decimal p.fullmove =
    cc (board, side, castling, target, halfmove, fullmove) in
    wrote ∙ simp append_assoc
