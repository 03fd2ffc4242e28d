use Rattle.std.proofs.Common.{◌<◌, ◌∙◌, ℕ, Some, ap, arith, length, set, subst, sym}
use Rattle.std.specs.String.{string_bytes}
use Rattle.chess_game.specs.TagNames.{tag_index}
use Rattle.chess_game.specs.TagFields.{values_in}
use Rattle.chess_game.specs.Values.{AreValues, values_by}
use Rattle.chess_game.proofs.TagValues.{fit_with, index_below, same_fit, stored, stored_with}
use Rattle.chess_game.proofs.tags.Tags.store.Goals as goal

pub invariant_of-self : goal.invariant_of-self
invariant_of-self c =
    let tag = c.args.tag in
    let text = c.in-Ok.text in
    let texts = c.self.inside.values in
    let lt : tag_index tag < length texts = omega (arith, index_below tag) in
    let same = ap (λ (k : ℕ). values_by (stored (set texts k (Some text)))) c.index.ensures.place ∙ stored_with texts tag text lt in
    subst AreValues (sym same) (fit_with tag (string_bytes text) (values_in c.self.inside) c.self.invariant (same_fit tag c.args.value.now (string_bytes text) c.in-Ok.ensures.ok c.requires))
