-- The moves of a line, as they are written one after another.
use Rattle.std.proofs.Common.{◌≡◌, ℕ, ◌+◌, ◌<◌, ◌≤◌, Bool, true, List, [], ◌∷◌, ◌++◌, length, get_or, drop, is_some, refl, sym, ap, subst, ◌∙◌, append_assoc}
use Rattle.std.proofs.lemmas.List.{append-nil, drop_all}
use Rattle.chess_rules.specs.declared.parts.Parts.{Parts}
use Rattle.chess_rules.specs.After.{after}
use Rattle.settle_core.specs.declared.plies.Ply.{Ply}
use Rattle.pgn_book.specs.Movetext.{ShownMove, IsPlyShown, ArePliesShown, move_tokens, tokens_of}
use Rattle.chess_game.proofs.Plies.{cut_at}

-- Whatever moves the rest has, the line's moves have these tokens and then those of the rest.
abbrev pub Continues : Parts → List Ply → Parts → List Ply → Bool → List (List ℕ) → Type 0
Continues start plies p more wanted done =
    (rest : List ShownMove) → ArePliesShown p more rest → (moves : List ShownMove) × ArePliesShown start plies moves × (tokens_of true moves ≡ done ++ tokens_of wanted rest)

pub continues_at_start : (start : Parts) (plies : List Ply) → Continues start plies start plies true []
continues_at_start start plies = λ rest h. (rest, h, refl)

pub continues_more : (start : Parts) (plies : List Ply) (p : Parts) (i : ℕ) (wanted : Bool) (done : List (List ℕ)) (ply : Ply) (shown : ShownMove)
    → i < length plies → ply ≡ get_or plies i ply → IsPlyShown p ply shown → Continues start plies p (drop i plies) wanted done
    → Continues start plies (after p ply.mv) (drop (i + 1) plies) (is_some ply.clock) (done ++ move_tokens wanted shown)
continues_more start plies p i wanted done ply shown lt e is h = λ rest more.
    let both : ArePliesShown p (ply ∷ drop (i + 1) plies) (shown ∷ rest) = (is, more) in
    let all = h (shown ∷ rest) (subst (λ (xs : List Ply). ArePliesShown p xs (shown ∷ rest)) (sym (cut_at plies i ply lt e)) both) in (
      all.0,
      all.1,
      all.2 ∙ ap (λ o. done ++ (move_tokens wanted shown ++ tokens_of (is_some o) rest)) is.clock ∙ sym (append_assoc done (move_tokens wanted shown) (tokens_of (is_some ply.clock) rest)),
    )

pub continues_to_end : (start : Parts) (plies : List Ply) (p : Parts) (i : ℕ) (wanted : Bool) (done : List (List ℕ)) → length plies ≤ i
    → Continues start plies p (drop i plies) wanted done → (moves : List ShownMove) × ArePliesShown start plies moves × (tokens_of true moves ≡ done)
continues_to_end start plies p i wanted done le h =
    let none : ArePliesShown p (drop i plies) [] = subst (λ (xs : List Ply). ArePliesShown p xs []) (sym (drop_all i plies le)) tt in
    let all = h [] none in
    (all.0, all.1, all.2 ∙ append-nil done)
