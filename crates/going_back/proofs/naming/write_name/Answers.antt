use Rattle.std.proofs.Common.{◌∙◌, ◌++◌, List, ℕ, ap, codes}
use Rattle.pgn_book.specs.Movetext.{number_token}
use Rattle.going_back.proofs.NameLemmas.{name_made}
use Rattle.going_back.proofs.naming.write_name.Goals as goal

pub returns : goal.returns
returns c =
    let p = c.args.position.now in (
      c.write_san.result.bytes,
      c.write_san.ensures.san,
      name_made (number_token p.side p.fullmove) (codes " ") c.write_san.result.bytes c.write_number.new.name.items c.add.new.lines.items c.add-2.new.lines.items
          c.write_number.ensures.text c.add.ensures.items
          (c.add-2.ensures.items ∙ ap (λ (xs : List ℕ). c.add.new.lines.items ++ xs) (c.as_bytes.ensures.value ∙ c.as_str.ensures.value)),
    )
