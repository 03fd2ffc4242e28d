use Rattle.std.proofs.Common.{◌∙◌, sym, ap, arith, length, subst}
use Rattle.std.proofs.lemmas.Bool.{false≢true}
use Rattle.chess_text.specs.Placement.{placement}
use Rattle.chess_text.specs.Placement.{IsBoardPicture}
use Rattle.chess_text.proofs.Placements.{squares_is}
use Rattle.chess_text.proofs.placement.read_picture.Goals as goal
use Rattle.chess_text.proofs.placement.read_picture.Goals.{else-is_board_picture-via-then-is_board_picture+else-same_bytes, else-is_board_picture-via-else-is_board_picture}

pub returns-in_default-clause-none : goal.returns-in_default-clause-none
returns-in_default-clause-none c = λ b h e.
    let s = squares_is c.args.text.now b h e in
    absurd (omega (arith, ap length s, h.squares, c.in_default.ensures.none))

pub returns-in_default-into_inner-clause-none : goal.returns-in_default-into_inner-clause-none
returns-in_default-into_inner-clause-none c = λ b h e.
    let s = squares_is c.args.text.now b h e in
    let f = c.in-Some.ensures.some in
    absurd (false≢true (c.in_default-into_inner.ensures.variant.1 (ap length f ∙ ap length s ∙ h.squares)))

pub returns-clause-none : goal.returns-clause-none
returns-clause-none c = λ b h e.
    let s = squares_is c.args.text.now b h e in
    let f = c.in-Some.ensures.some in
    let k = c.in-Ok.ensures.ok in
    elim c.else-is_board_picture.branch [
      | else-is_board_picture-via-then-is_board_picture+else-same_bytes w ↦ false≢true (sym w.if-same_bytes.false ∙ w.same_bytes.ensures.1 (w.as_bytes.ensures.value ∙ w.as_str.ensures.value ∙ w.write_placement.ensures.text ∙ ap placement (k ∙ f ∙ s) ∙ sym e))
      | else-is_board_picture-via-else-is_board_picture w ↦ false≢true (sym w.if-is_board_picture.false ∙ c.is_board_picture.ensures.1 (subst IsBoardPicture (sym (k ∙ f ∙ s)) h))
    ]

pub returns-then-same_bytes-clause-some : goal.returns-then-same_bytes-clause-some
returns-then-same_bytes-clause-some c = (
  c.is_board_picture.ensures.0 c.if-is_board_picture.true,
  sym (c.same_bytes.ensures.0 c.if-same_bytes.true) ∙ c.as_bytes.ensures.value ∙ c.as_str.ensures.value ∙ c.write_placement.ensures.text,
)
