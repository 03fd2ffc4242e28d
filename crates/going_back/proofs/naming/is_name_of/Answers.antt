use Rattle.std.proofs.Common.{◌≡◌, ◌∙◌, ◌++◌, List, ℕ, codes, sym, ap, inr}
use Rattle.std.proofs.lemmas.Bool.{iff_false}
use Rattle.pgn_book.specs.Movetext.{number_token}
use Rattle.going_back.specs.Naming.{unmarked}
use Rattle.going_back.proofs.NameLemmas.{name_made, named_or}
use Rattle.going_back.proofs.naming.is_name_of.Goals as goal

pub returns : goal.returns
returns c =
    let p = c.args.position.now in
    let text = c.args.text.now in
    let number = number_token p.side p.fullmove in
    let san = c.write_san.result.bytes in
    let name : c.add-2.new.lines.items ≡ number ++ codes " " ++ san =
    name_made number (codes " ") san c.write_number.new.name.items c.add.new.lines.items c.add-2.new.lines.items c.write_number.ensures.text c.add.ensures.items
    (c.add-2.ensures.items ∙ ap (λ (xs : List ℕ). c.add.new.lines.items ++ xs) (c.as_bytes.ensures.value ∙ c.as_str.ensures.value)) in
    let left : c.unmarked.result.now ≡ unmarked text = c.unmarked.ensures in
    let right : c.unmarked-2.result.now ≡ unmarked (number ++ codes " " ++ san) = c.unmarked-2.ensures ∙ ap unmarked (c.as_slice-2.ensures.value ∙ name) in (
      λ t. inr (san, c.write_san.ensures.san, sym left ∙ c.are_same-2.ensures.0 t ∙ right),
      λ named. named_or p c.args.mv text (λ e. iff_false c.are_same.ensures c.if-are_same.false (e ∙ sym (c.as_slice.ensures.value ∙ c.write_number.ensures.text)))
          (λ other h e. c.are_same-2.ensures.1 (left ∙ e ∙ ap (λ (xs : List ℕ). unmarked (number ++ codes " " ++ xs)) (c.write_san.ensures.one other h) ∙ sym right)) named,
    )
