-- Honest play with its end, and its first entries.
use Rattle.std.proofs.Common.{◌≡◌, ◌⊎◌, inl, inr, List, [], ◌∷◌, ◌++◌, Option, None, Some, reverse, sym, ap, subst, ◌∙◌}
use mathlib.Core.List.{reverse_aux}
use Rattle.std.proofs.lemmas.List.{append-nil}
use Rattle.chess_rules.specs.declared.parts.Parts.{Parts}
use Rattle.settle_core.specs.declared.plies.Outcome.{Outcome}
use Rattle.settle_core.specs.declared.plies.Ply.{Ply}
use Rattle.settle_core.specs.Endings.{HonestPlayEnds, HonestPlayStopsAnywhere, IsEnd}
use Rattle.settle_core.specs.Entries.{Entry, deduplicated}
use Rattle.settle_core.specs.Folding.{Folds, moves_of}
use Rattle.settle_core.specs.HonestPlay.{AllShowNoMoreOrLackKing, shown_plies}
use Rattle.settle_core.specs.Laws.{GivesScore, joined}
use Rattle.settle_core.specs.Settling.{position_after, reached}
use Rattle.settle_core.proofs.Fronts.{align, honest_fronts, reached_shown}
use Rattle.settle_core.proofs.Lines.{MakesMove, line_ends, reverse_aux-append}
use Rattle.settle_core.proofs.Stages.{Gives}
use Rattle.settle_core.proofs.Waiting.{kings_end, rest_all, with_sign}

pub honest_play_ends : HonestPlayEnds
honest_play_ends start moves lists end None score v l h a f =
    let plies : List Ply = reverse (shown_plies start moves lists) in
    let made : MakesMove start plies (joined lists) [] = line_ends start moves lists v l h in
    let at : position_after start moves ≡ reached start (moves_of plies) = sym (reached_shown start moves lists h) in
    let A : Parts → Type 0 = λ x. AllShowNoMoreOrLackKing x end in
    let still : Gives start (with_sign plies None) (reverse_aux end (reverse_aux (joined lists) [])) =
    rest_all start plies None end (reverse_aux (joined lists) []) made.sound (subst A at a) (made.ends).score in
    let F : List Entry → Type 0 = λ es. Folds start (deduplicated es) score in
    still score (subst F (reverse_aux-append (joined lists) end []) f)
honest_play_ends start moves lists end (Some outcome) score v l h a f =
    let G : List Entry → Type 0 = λ es. GivesScore start (joined lists ++ es) score in
    kings_end start moves lists a.clearing a.later a.kings outcome score v l h a.clears a.is_sign a.rests (subst G a.are f)

-- the first of pictures that rest
first_rest : (p : Parts) (first rest : List Entry) → AllShowNoMoreOrLackKing p (first ++ rest) → AllShowNoMoreOrLackKing p first
first_rest p [] rest a = tt
first_rest p (entry ∷ first) rest a = (a.0, first_rest p first rest a.1)

-- the first entries of an end are an end, without the sign or with it
first_end : (p : Parts) (sign : Option Outcome) (end first rest : List Entry) → IsEnd p sign end → end ≡ first ++ rest → IsEnd p None first ⊎ IsEnd p sign first
first_end p None end first rest a e = let A : List Entry → Type 0 = λ es. AllShowNoMoreOrLackKing p es in inl (first_rest p first rest (subst A e a))
first_end p (Some outcome) end first rest a e =
    elim (align a.clearing (a.kings ∷ a.later) first rest (sym a.are ∙ e)) [
      | inl on ↦ from_kings on.0 on.1 on.2
      | inr within ↦ let A : List Entry → Type 0 = λ es. AllShowNoMoreOrLackKing p es in inl (first_rest p first (within.0 ∷ within.1) (subst A within.2 a.clears))
    ]
  where
    from_kings : (zs : List Entry) → first ≡ a.clearing ++ zs → a.kings ∷ a.later ≡ zs ++ rest → IsEnd p None first ⊎ IsEnd p (Some outcome) first
    from_kings [] is more =
        let A : List Entry → Type 0 = λ es. AllShowNoMoreOrLackKing p es in
        inl (subst A (sym (is ∙ append-nil a.clearing)) a.clears)
    from_kings (z ∷ zs) is more =
        let king : a.kings ≡ z = cc in
        let tail : a.later ≡ zs ++ rest = cc in
        let A : List Entry → Type 0 = λ es. AllShowNoMoreOrLackKing p es in
        inr (record {
          clearing = a.clearing;
          kings = a.kings;
          later = zs;
          are = is ∙ ap (λ (x : Entry). a.clearing ++ x ∷ zs) (sym king);
          clears = a.clears;
          is_sign = a.is_sign;
          rests = first_rest p zs rest (subst A tail a.rests);
        })

pub honest_play_stops_anywhere : HonestPlayStopsAnywhere
honest_play_stops_anywhere start moves lists end sign first rest score v l h a e f =
    elim (align (joined lists) end first rest e) [
      | inl on ↦
          let G : List Entry → Type 0 = λ es. GivesScore start es score in
          let g : GivesScore start (joined lists ++ on.0) score = subst G on.1 f in
          elim (first_end (position_after start moves) sign end on.0 rest a on.2) [
            | inl none ↦ inr (inl (honest_play_ends start moves lists on.0 None score v l h none g))
            | inr signed ↦ inr (inr (honest_play_ends start moves lists on.0 sign score v l h signed g))
          ]
      | inr within ↦ inl (honest_fronts start moves lists first (within.0 ∷ within.1) score v l h within.2 f)
    ]
