-- What stays when nothing is said to an event.
use Rattle.std.proofs.Common.{◌≡◌, ◌&&◌, ◌||◌, ℕ, Bool, true, false, List, [], ◌∷◌, Option, Some, None, refl, ap, ◌∙◌}
use Rattle.std.specs.Prelude.{if◌then◌else◌, is_some}
use Rattle.std.proofs.Math.Bool.{or-false}
use Rattle.game_over.specs.declared.happened.Event.{Event}
use Rattle.game_over.specs.declared.said.Why.{Why}
use Rattle.game_over.specs.Over.{has_played, has_result, is_another, is_over, over_by, played, played_by, reopens, shows_start, stays_out, why_by, why_over}

over_stays : (over : Option Why) → over_by false over None ≡ over
over_stays None = refl
over_stays (Some why) = refl

-- It ends nothing, reopens nothing, shows no start, and is no move.
pub record IsQuiet (event : Event) (past : List Event) : Type 0 where
  pub ends : why_by event.what event.at past ≡ None
  pub reopened : reopens event.what ≡ false
  pub start : shows_start event.what ≡ false
  pub counted : played_by event.what (played past) ≡ played past
  pub out : stays_out event.what ≡ false

pub over_quiet : (event : Event) (past : List Event) → IsQuiet event past → why_over (event ∷ past) ≡ why_over past
over_quiet event past h =
    ap (λ b. over_by b (why_over past) (why_by event.what event.at past)) h.reopened ∙ ap (over_by false (why_over past)) h.ends ∙ over_stays (why_over past)

twice : (b : Bool) (n : ℕ) → (if b then (if b then n else 0) else 0) ≡ (if b then n else 0)
twice true n = refl
twice false n = refl

played_stays : (past : List Event) → (if is_over past then played past else 0) ≡ played past
played_stays [] = refl
played_stays (event ∷ past) = twice (is_over (event ∷ past)) (played_by event.what (played past))

pub played_quiet : (event : Event) (past : List Event) → IsQuiet event past → played (event ∷ past) ≡ played past
played_quiet event past h =
    ap (λ (o : Option Why). if is_some o then played_by event.what (played past) else 0) (over_quiet event past h)
    ∙ ap (λ n. if is_over past then n else 0) h.counted ∙ played_stays past

and_again : (b also : Bool) → (b && (b && also)) ≡ (b && also)
and_again true also = refl
and_again false also = refl

has_played_stays : (past : List Event) → (is_over past && has_played past) ≡ has_played past
has_played_stays [] = refl
has_played_stays (event ∷ past) = and_again (is_over (event ∷ past)) (has_played past || stays_out event.what)

pub has_played_quiet : (event : Event) (past : List Event) → IsQuiet event past → has_played (event ∷ past) ≡ has_played past
has_played_quiet event past h =
    ap (λ (o : Option Why). is_some o && (has_played past || stays_out event.what)) (over_quiet event past h)
    ∙ ap (λ b. is_over past && (has_played past || b)) h.out ∙ ap (λ b. is_over past && b) (or-false (has_played past)) ∙ has_played_stays past

another_stays : (past : List Event) → (has_result (why_over past) && is_another past) ≡ is_another past
another_stays [] = refl
another_stays (event ∷ past) = and_again (has_result (why_over (event ∷ past))) (is_another past || shows_start event.what)

pub another_quiet : (event : Event) (past : List Event) → IsQuiet event past → is_another (event ∷ past) ≡ is_another past
another_quiet event past h =
    ap (λ (o : Option Why). has_result o && (is_another past || shows_start event.what)) (over_quiet event past h)
    ∙ ap (λ b. has_result (why_over past) && (is_another past || b)) h.start ∙ ap (λ b. has_result (why_over past) && b) (or-false (is_another past))
    ∙ another_stays past
