use Rattle.std.proofs.Common.{◌≡◌, ◌∷◌, [], List, ℕ, ap, sym, ◌∙◌}
use Rattle.pgn_book.specs.Movetext.{clock_tokens}
use Rattle.pgn_book.proofs.Standing.{Writes-same}
use Rattle.pgn_book.proofs.writing.put_clock.Goals as goal

pub returns-in-Some : goal.returns-in-Some
returns-in-Some g c =
    let e : clock_tokens c.args.clock ≡ c.clock_bytes-token.result ∷ [] = ap clock_tokens c.in-Some.is ∙ ap (λ (x : List ℕ). x ∷ []) (sym c.clock_bytes-token.ensures) in
    Writes-same _ _ _ _ c.args.at.now c.put_token.new.at _ _ (sym e) c.put_token.ensures
