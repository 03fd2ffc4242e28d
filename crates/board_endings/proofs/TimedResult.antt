-- Time ends a game that has a result.
use Rattle.std.proofs.Common.{◌≡◌, ◌<◌, ◌≤◌, ◌+◌, ◌⊎◌, ℕ, inl, inr, Bool, true, false, List, ◌∷◌, ◌++◌, Option, Some, None, refl, sym, ap, subst, ◌∙◌, arith}
use Rattle.std.specs.Prelude.{if◌then◌else◌, is_some}
use Rattle.game_over.specs.declared.happened.Event.{Event}
use Rattle.game_over.specs.declared.said.Why.{Why}
use Rattle.game_over.specs.Over.{ended_by, passes}
use Rattle.game_over.proofs.Standing.{ends_unheard}
use Rattle.board_endings.specs.declared.news.End.{End}
use Rattle.board_endings.specs.Items.{bytes_of}
use Rattle.board_endings.specs.Meaning.{IsStoodFrom, TimeEndsResult}
use Rattle.board_endings.specs.Saying.{IsEnd}
use Rattle.board_endings.specs.Telling.{timed}
use Rattle.board_endings.proofs.OnceLemmas.{tells_once}
use Rattle.board_endings.proofs.StoodLemmas.{by_time, not_over, stands}
use Rattle.board_endings.proofs.TakeLemmas.{timed_more, timed_none}

pub time_ends_result : TimeEndsResult
time_ends_result added given later past setting items now end valid tells gives all over h =
    let told : List Event = later ++ given ∷ past in
    let bytes : ℕ = bytes_of items in
    let from : ℕ = given.at + (if added then 10000 else 17000) in
    let T : List Event → Type 0 = λ events. IsEnd (timed now bytes events) end in
    let E : List Event → Type 0 = λ events. IsEnd events end in
    let here : IsEnd (timed now bytes told) end = subst T (tells_once setting items h.0 told valid h.1 tells) h.2 in
    elim (by_time from (passes now bytes) told (ends_unheard added given (passes now bytes) later past gives all over refl)) [
      | inl ends ↦
          let late : from ≤ now = ends.0 in
          let some : is_some (ended_by (passes now bytes) told) ≡ true = ap (λ (w : Option Why). is_some w) ends.1 in (
            (λ _. stands (passes now bytes) told end ends.1 (subst E (timed_more now bytes told some) here)),
            (λ low. absurd (let never : ⊥ = omega (arith, late, low) in never)),
          )
      | inr not ↦
          let early : now < from = not.0 in
          let none : is_some (ended_by (passes now bytes) told) ≡ false = ap (λ (w : Option Why). is_some w) not.1 in (
            (λ late. absurd (let never : ⊥ = omega (arith, late, early) in never)),
            (λ _. not_over told end over (subst E (timed_none now bytes told none) here)),
          )
    ]
