use Rattle.std.proofs.Common.{◌∷◌, [], ℕ, List, ap, refl, ◌∙◌}
use Rattle.chess_rules.specs.declared.parts.Parts.{Parts}
use Rattle.pgn_book.specs.Movetext.{ShownMove, number_tokens, clock_tokens}
use Rattle.pgn_book.proofs.Standing.{Writes-same, Writes-then}
use Rattle.pgn_book.proofs.writing.put_ply.Goals as goal

pub returns : goal.returns
returns g c =
    let parts = c.parts-parts.result.now in
    let same = c.parts-parts.ensures.same in
    let ply = c.args.ply.now in
    let san = c.write_san-san.result.bytes in
    let clock = clock_tokens ply.clock in
    let shown : ShownMove = record { side = parts.side; number = parts.fullmove; san = san; clock = ply.clock } in
    let numbers = number_tokens parts.side parts.fullmove c.args.wanted in
    let token = Writes-same _ _ _ _ c.put_number.new.at c.put_token.new.at _ (san ∷ []) (ap (λ (x : List ℕ). x ∷ []) (c.as_bytes.ensures.value ∙ c.as_str.ensures.value)) c.put_token.ensures in (
      shown,
      record { side = ap (λ (x : Parts). x.side) same; number = ap (λ (x : Parts). x.fullmove) same; san = c.write_san-san.ensures.san; clock = refl },
      Writes-then _ _ _ _ _ _ c.args.at.now c.put_number.new.at c.put_clock.new.at numbers (san ∷ clock) c.put_number.ensures
          (Writes-then _ _ _ _ _ _ c.put_number.new.at c.put_token.new.at c.put_clock.new.at (san ∷ []) clock token c.put_clock.ensures),
    )
