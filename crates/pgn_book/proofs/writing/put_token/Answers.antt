use Prim.{search}
use Rattle.std.proofs.Common.{[], ◌∷◌, arith, sym, ◌∙◌, rules}
use Rattle.std.proofs.lemmas.List.{append-nil}
use Rattle.pgn_book.specs.Inside.Flow.{piece}
use Rattle.pgn_book.proofs.Flowing.{piece-fits, piece-over}
use Rattle.pgn_book.proofs.Standing.{Adds-then, Adds-same}
use Rattle.pgn_book.proofs.writing.put_token.Goals as goal

pub returns-then-column-token-le-LINE : goal.returns-then-column-token-le-LINE
returns-then-column-token-le-LINE g c =
    let token = c.args.token.now in
    let at = c.args.at.now in
    let p = piece-fits at.column token (omega arith) (omega arith) in
    record {
      adds = Adds-same _ _ _ _ at c.add-then-column-token-le-LINE-2.new.at (32 ∷ token) _ (sym (append-nil (piece at.column token) ∙ p.0))
          (Adds-then _ _ _ _ _ _ at c.add-then-column-token-le-LINE.new.at c.add-then-column-token-le-LINE-2.new.at (32 ∷ []) token c.add-then-column-token-le-LINE.ensures.adds c.add-then-column-token-le-LINE-2.ensures.adds);
      column = sym p.1;
    }

pub returns-else-column-token-le-LINE : goal.returns-else-column-token-le-LINE
returns-else-column-token-le-LINE g c =
    let token = c.args.token.now in
    let at = c.args.at.now in
    let p = piece-over at.column token (omega arith) (omega arith) in
    record {
      adds = Adds-same _ _ _ _ at c.add-else-column-token-le-LINE-2.new.at (10 ∷ token) _ (sym (append-nil (piece at.column token) ∙ p.0))
          (Adds-then _ _ _ _ _ _ at c.add-else-column-token-le-LINE.new.at c.add-else-column-token-le-LINE-2.new.at (10 ∷ []) token c.add-else-column-token-le-LINE.ensures.adds c.add-else-column-token-le-LINE-2.ensures.adds);
      column = sym p.1;
    }

pub invariant_of-at-then-column-token-le-LINE : goal.invariant_of-at-then-column-token-le-LINE
invariant_of-at-then-column-token-le-LINE c = search rules
