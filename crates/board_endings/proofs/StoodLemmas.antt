-- What a result makes of a game that has stood.
use Rattle.std.proofs.Common.{◌≡◌, ◌<◌, ◌≤◌, ◌⊎◌, inl, inr, ℕ, Bool, true, false, List, ◌∷◌, Option, Some, None, refl, sym, ap, subst, ◌∙◌}
use Rattle.std.specs.Prelude.{is_some}
use Rattle.std.proofs.lemmas.Bool.{cases_lt}
use Rattle.game_over.specs.declared.happened.Event.{Event}
use Rattle.game_over.specs.declared.result.Given.{Given}
use Rattle.game_over.specs.declared.said.Over.{Over}
use Rattle.game_over.specs.declared.said.Said.{Said}
use Rattle.game_over.specs.declared.said.Said.TheVariants.{IsOver}
use Rattle.game_over.specs.declared.said.Why.{Why}
use Rattle.game_over.specs.declared.said.Why.TheVariants.{Stood}
use Rattle.game_over.specs.Over.{ended_by, front, is_over}
use Rattle.game_over.specs.Result.{last_given}
use Rattle.game_over.specs.Standing.{EndsFrom}
use Rattle.game_over.specs.Said.{IsSaidFor, ended_with, is_sure_by, with_result}
use Rattle.board_endings.specs.declared.news.End.{End}
use Rattle.board_endings.specs.Meaning.{IsStood}
use Rattle.board_endings.specs.Saying.{IsEnd, end_by}
use Rattle.board_endings.proofs.StayLemmas.{is_over_by}

why_is : (why : Why) (sure : Bool) (given : Option Given) (bytes : ℕ) → (with_result why sure given bytes).why ≡ why
why_is why sure None bytes = refl
why_is why sure (Some given) bytes = refl

-- This ends the game since its result has stood.
pub stands : (event : Event) (past : List Event) (end : End) → ended_by event past ≡ Some Stood → IsEnd (event ∷ past) end → IsStood end
stands event past end ended h =
    let W : Option Why → Type 0 = λ why. IsSaidFor why h.1 event past in
    let over : Over = ended_with Stood event.what past in
    let said : h.1 ≡ IsOver over = subst W ended h.3 in (
      over,
      ap (λ (e : End). e.over) h.4 ∙ ap (λ (s : Said). (end_by s event h.0).over) said,
      why_is Stood (is_sure_by Stood event.what (last_given past)) (last_given past) (front past),
    )

none_if : (over : Option Over) → (is_some over ≡ true → ⊥) → over ≡ None
none_if None never = refl
none_if (Some over) never = absurd (never refl)

-- A game that isn't over isn't said to be.
pub not_over : (past : List Event) (end : End) → is_over past ≡ false → IsEnd past end → end.over ≡ None
not_over past end not h = none_if end.over (λ is. let never : true ≡ false = sym (is_over_by past end h is) ∙ not in absurd cc)

-- What ends a game from a time on has ended it, or not.
pub by_time : (from : ℕ) (event : Event) (past : List Event) → EndsFrom from event past
    → ((from ≤ event.at) × (ended_by event past ≡ Some Stood)) ⊎ ((event.at < from) × (ended_by event past ≡ None))
by_time from event past ends = elim (cases_lt event.at from) [ inl low ↦ inr (low, ends.1 low) | inr le ↦ inl (le, ends.0 le) ]
