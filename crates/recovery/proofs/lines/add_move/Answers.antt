use Rattle.std.proofs.Common.{◌≡◌, ◌++◌, codes, decimal, ap, ◌∙◌, rules}
use Rattle.chess_rules.specs.declared.pieces.Side.TheVariants.{White, Black}
use Rattle.pgn_book.specs.Movetext.{number_token}
use Rattle.recovery.proofs.WordLemmas.{dot_added, dots_added}
use Rattle.recovery.proofs.lines.add_move.Goals.{in-White, in-Black}
use Rattle.recovery.proofs.lines.add_move.Goals as goal

pub returns-clause-told : goal.returns-clause-told
returns-clause-told c =
    let p = c.args.position.now in
    let old = c.args.lines.now.items in
    let number : c.add_number.new.lines.items ≡ old ++ decimal p.fullmove = search rules in
    let token : c.match-parts.lines.items ≡ old ++ number_token p.side p.fullmove =
    elim c.match-parts.branch [
      | in-White w ↦
          let added : c.match-parts.lines.items ≡ c.add_number.new.lines.items ++ codes "." = search rules in
          let side : p.side ≡ White = search rules in
          dot_added old c.add_number.new.lines.items c.match-parts.lines.items p.side p.fullmove number added side
      | in-Black w ↦
          let added : c.match-parts.lines.items ≡ c.add_number.new.lines.items ++ codes "..." = search rules in
          let side : p.side ≡ Black = search rules in
          dots_added old c.add_number.new.lines.items c.match-parts.lines.items p.side p.fullmove number added side
    ] in
    let space : c.add-2.new.lines.items ≡ c.match-parts.lines.items ++ codes " " = search rules in
    let san : c.add-3.new.lines.items ≡ c.add-2.new.lines.items ++ c.write_san.result.bytes = search rules in (
      c.write_san.result.bytes,
      c.write_san.ensures.san,
      san ∙ ap (λ t. t ++ c.write_san.result.bytes) (space ∙ ap (λ t. t ++ codes " ") token),
    )
