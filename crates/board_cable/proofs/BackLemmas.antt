-- What is kept back, one turn later.
use Rattle.std.proofs.Common.{◌≡◌, ℕ, List, [], ◌∷◌, ◌++◌, Option, ap, subst, ◌∙◌}
use Rattle.std.specs.Prelude.{if◌then◌else◌}
use Rattle.board_cable.specs.declared.whose.Handling.{Handling}
use Rattle.board_cable.specs.Whose.{own_number}
use Rattle.board_cable.specs.declared.back.Back.{Back}
use Rattle.board_cable.specs.declared.happened.What.{What}
use Rattle.board_cable.specs.Keeping.{HasBack, aside, aside_by, ends_aside, ends_held, held_by, owner, owner_by, released_by}
use Rattle.board_cable.specs.Moments.{sent}
use Rattle.board_cable.specs.Turns.{Turn, handling_of}

-- what is held, and what is kept aside, with what comes
abbrev held_with : Handling → What → List ℕ → List ℕ → List ℕ
held_with handling what before bytes = held_by handling ((if ends_held what then [] else before) ++ bytes)

abbrev aside_with : Handling → What → Option (List ℕ) → List ℕ → List ℕ → List ℕ → List ℕ
aside_with handling what whose before held bytes =
    aside_by handling whose (if ends_aside what then [] else before) ((if ends_held what then [] else held) ++ bytes)

abbrev released_with : Handling → What → Option (List ℕ) → Option (List ℕ) → List ℕ → List ℕ → List ℕ
released_with handling what own whose before held =
    released_by handling own whose (if ends_aside what then [] else before) (if ends_held what then [] else held)

abbrev pub Takes : Back → Back → What → Handling → Option (List ℕ) → List ℕ → Type 0
Takes old new what handling own bytes = (new.held.items ≡ held_with handling what old.held.items bytes)
    × (new.aside.items ≡ aside_with handling what old.owner old.aside.items old.held.items bytes)
    × (new.owner ≡ owner_by handling old.owner)
    × (new.released.items ≡ released_with handling what own old.owner old.aside.items old.held.items)

pub back_more : (old new : Back) (turn : Turn) (turns : List Turn) (handling : Handling) (own : Option (List ℕ)) (bytes : List ℕ) → HasBack old turns
    → handling ≡ handling_of turn → own ≡ own_number turn.now → bytes ≡ sent turn.moment → Takes old new turn.moment.what handling own bytes
    → HasBack new (turn ∷ turns)
back_more old new turn turns handling own bytes has handled owned came takes =
    let what = turn.moment.what in
    let h = handling_of turn in
    let o = own_number turn.now in
    let s = sent turn.moment in
    let one : Takes old new what h own bytes = subst (λ x. Takes old new what x own bytes) handled takes in
    let two : Takes old new what h o bytes = subst (λ x. Takes old new what h x bytes) owned one in
    let all : Takes old new what h o s = subst (λ x. Takes old new what h o x) came two in
    record {
      held_is = all.0 ∙ ap (λ xs. held_with h what xs s) has.held_is;
      aside_is = all.1
          ∙ ap (λ x. aside_with h what x old.aside.items old.held.items s) has.owner_is
          ∙ ap (λ xs. aside_with h what (owner turns) xs old.held.items s) has.aside_is
          ∙ ap (λ xs. aside_with h what (owner turns) (aside turns) xs s) has.held_is;
      owner_is = all.2 ∙ ap (owner_by h) has.owner_is;
      released_is = all.3
          ∙ ap (λ x. released_with h what o x old.aside.items old.held.items) has.owner_is
          ∙ ap (λ xs. released_with h what o (owner turns) xs old.held.items) has.aside_is
          ∙ ap (λ xs. released_with h what o (owner turns) (aside turns) xs) has.held_is;
    }
