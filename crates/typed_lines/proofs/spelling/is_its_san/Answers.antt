use Rattle.std.proofs.Common.{◌≡◌, ◌∙◌, sym, rules}
use Rattle.typed_lines.specs.Letters.{bare}
use Rattle.typed_lines.proofs.LineLemmas.{written_iff}
use Rattle.typed_lines.proofs.spelling.is_its_san.Goals as goal

pub returns : goal.returns
returns c =
    let own : c.as_slice-2.result.now ≡ bare c.write_san-san.result.bytes = search rules in
    let other : c.as_slice.result.now ≡ bare c.args.word.now = search rules in
    written_iff c.args.p.now c.args.m.now c.copy.result c.args.word.now c.write_san-san.result.bytes c.is_same.result c.copy.ensures c.write_san-san.ensures.san c.write_san-san.ensures.one
    (λ t. sym other ∙ c.is_same.ensures.0 t ∙ own, λ e. c.is_same.ensures.1 (other ∙ e ∙ sym own))
