use Rattle.std.proofs.Common.{◌≡◌, ℕ, sym, subst, ◌∙◌}
use Rattle.std.proofs.lemmas.Bool.{false≢true}
use Rattle.chess_rules.specs.declared.chess_move.Move.{Move}
use Rattle.chess_rules.specs.declared.parts.Parts.{Parts}
use Rattle.chess_rules.specs.Board.{on, piece_of}
use Rattle.chess_rules.specs.Legal.{Legal}
use Rattle.chess_text.specs.San.{San}
use Rattle.chess_text.specs.Inside.Aim.{aimed_from}
use Rattle.chess_text.proofs.Facts.{same_kind}
use Rattle.chess_text.proofs.san_reading.named_from.Goals as goal
use Rattle.chess_text.proofs.san_reading.named_from.Goals.{else-is_legal-via-then-is_legal+else-is_text_of, else-is_legal-via-else-is_legal}

pub returns-then-not-is-clause-none : goal.returns-then-not-is-clause-none
returns-then-not-is-clause-none c stands legal named =
    let P : Parts → Type 0 = λ p. on p.board c.args.square ≡ piece_of p.side c.in_ok-kind.kind in
    let here : P c.args.p.now = subst P c.parts-parts.ensures.same c.in_ok-kind.ensures.some in
    false≢true (sym c.if-not-is.true ∙ c.is.ensures.1 (same_kind c.args.p.now c.args.square c.in_ok-kind.kind c.args.aim.now.kind here stands))

pub returns-else-is_legal-clause-none : goal.returns-else-is_legal-clause-none
returns-else-is_legal-clause-none c stands legal named =
    let L : ℕ → Type 0 = λ n. Legal c.args.p.now (aimed_from c.args.aim.now n) in
    let S : ℕ → Type 0 = λ n. San c.args.p.now (aimed_from c.args.aim.now n) c.args.text.now in
    elim c.else-is_legal.branch [
      | else-is_legal-via-then-is_legal+else-is_text_of w ↦
          false≢true (sym w.if-is_text_of.false ∙ w.is_text_of.ensures.1 (subst S (sym c.in_ok-new.ensures.number) named))
      | else-is_legal-via-else-is_legal w ↦
          false≢true (sym w.if-is_legal.false ∙ c.is_legal.ensures.1 (subst L (sym c.in_ok-new.ensures.number) legal))
    ]
