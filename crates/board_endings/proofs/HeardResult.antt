-- A result ends the game when the board is heard.
use Rattle.std.proofs.Common.{◌≡◌, ◌<◌, ◌≤◌, ◌+◌, ℕ, inl, inr, Bool, true, false, List, ◌∷◌, ◌++◌, Option, Some, None, refl, sym, ap, subst, ◌∙◌, arith}
use Rattle.std.specs.Prelude.{if◌then◌else◌, is_some}
use Rattle.game_over.specs.declared.happened.Event.{Event}
use Rattle.game_over.specs.declared.happened.Happening.TheVariants.{Hears, Passes}
use Rattle.game_over.specs.declared.said.Why.{Why}
use Rattle.game_over.specs.declared.said.Why.TheVariants.{Stood}
use Rattle.game_over.specs.Over.{ended_by, hears, is_over, over_by, passes, why_by, why_over}
use Rattle.game_over.proofs.Standing.{ends_after_ten_seconds, ends_unheard}
use Rattle.board_endings.specs.declared.news.End.{End}
use Rattle.board_endings.specs.Meaning.{HeardResultEnds, IsStood, IsStoodFrom}
use Rattle.board_endings.specs.Saying.{IsEnd}
use Rattle.board_endings.specs.Telling.{heard, listened, timed}
use Rattle.board_endings.proofs.StoodLemmas.{by_time, not_over, stands}
use Rattle.board_endings.proofs.TakeLemmas.{heard_more, heard_none, timed_more, timed_none}

over_by_now : (over why : Option Why) → is_some over ≡ false → (if is_some over then None else why) ≡ Some Stood → is_some (over_by false over why) ≡ true
over_by_now None why not ended = ap (λ (w : Option Why). is_some w) ended
over_by_now (Some one) why not ended = absurd cc

unless : (over : Bool) (why : Option Why) → over ≡ true → is_some (if over then None else why) ≡ false
unless true why h = refl
unless false why h = absurd cc

-- Once time has ended a game, no hearing does.
not_heard : (at bytes : ℕ) (past : List Event) → is_over past ≡ false → ended_by (passes at bytes) past ≡ Some Stood
    → is_some (ended_by (hears at bytes) (passes at bytes ∷ past)) ≡ false
not_heard at bytes past not ended =
    let all : List Event = passes at bytes ∷ past in
    unless (is_over all) (why_by Hears at all) (over_by_now (why_over past) (why_by Passes at past) not ended)

at_least : (added : Bool) (given at : ℕ) → given + (if added then 10000 else 17000) ≤ at → given + 10000 ≤ at
at_least true given at h = h
at_least false given at h = omega (arith, h)

pub heard_result_ends : HeardResultEnds
heard_result_ends added given later past at bytes end gives all over h =
    let told : List Event = later ++ given ∷ past in
    let E : List Event → Type 0 = λ events. IsEnd events end in
    let H : List Event → Type 0 = λ events. IsEnd (heard at bytes events) end in
    let from : ℕ = given.at + (if added then 10000 else 17000) in
    elim (by_time from (passes at bytes) told (ends_unheard added given (passes at bytes) later past gives all over refl)) [
      | inl ends ↦
          let late : given.at + 10000 ≤ at = at_least added given.at at ends.0 in
          let some : is_some (ended_by (passes at bytes) told) ≡ true = ap (λ (w : Option Why). is_some w) ends.1 in
          let here : IsEnd (passes at bytes ∷ told) end =
          subst E (heard_none at bytes (passes at bytes ∷ told) (not_heard at bytes told over ends.1)) (subst H (timed_more at bytes told some) h) in
          ((λ _. stands (passes at bytes) told end ends.1 here), (λ low. absurd (let never : ⊥ = omega (arith, late, low) in never)))
      | inr not ↦
          let none : is_some (ended_by (passes at bytes) told) ≡ false = ap (λ (w : Option Why). is_some w) not.1 in
          let now : IsEnd (heard at bytes told) end = subst H (timed_none at bytes told none) h in
          elim (by_time (given.at + 10000) (hears at bytes) told (ends_after_ten_seconds added given (hears at bytes) later past gives all over refl)) [
            | inl ends ↦
                let late : given.at + 10000 ≤ at = ends.0 in
                let some : is_some (ended_by (hears at bytes) told) ≡ true = ap (λ (w : Option Why). is_some w) ends.1 in (
                  (λ _. stands (hears at bytes) told end ends.1 (subst E (heard_more at bytes told some) now)),
                  (λ low. absurd (let never : ⊥ = omega (arith, late, low) in never)),
                )
            | inr never ↦
                let early : at < given.at + 10000 = never.0 in
                let none_heard : is_some (ended_by (hears at bytes) told) ≡ false = ap (λ (w : Option Why). is_some w) never.1 in (
                  (λ late. absurd (let no : ⊥ = omega (arith, late, early) in no)),
                  (λ _. not_over told end over (subst E (heard_none at bytes told none_heard) now)),
                )
          ]
    ]
