-- When a result that stands ends the game.
use Rattle.std.proofs.Common.{◌≡◌, ◌+◌, ◌≤◌, ◌<◌, ◌⊎◌, inl, inr, ℕ, Bool, true, false, List, [], ◌∷◌, ◌++◌, Option, Some, None, refl, sym, ap, ◌∙◌, arith}
use Rattle.std.specs.Prelude.{if◌then◌else◌, nat_le}
use Rattle.std.specs.List.{list_all}
use Rattle.std.proofs.lemmas.Bool.{and_parts, le-leb, lt-leb, true≢false}
use Rattle.game_over.specs.declared.happened.Event.{Event}
use Rattle.game_over.specs.declared.happened.Happening.{Happening}
use Rattle.game_over.specs.declared.happened.Happening.TheVariants.{Moves, Ends, Declares, Reopens, Resumes}
use Rattle.game_over.specs.declared.result.Given.{Given}
use Rattle.game_over.specs.declared.said.Why.TheVariants.{Stood}
use Rattle.game_over.specs.Over.{ended_by, is_over, why_by}
use Rattle.game_over.specs.Result.{given_by, has_passed, has_stood, last_given, new_given, waits}
use Rattle.game_over.specs.Standing.{EndsAfterTenSeconds, EndsFrom, EndsUnheard, GivesIt, leaves_it, leaves_what}

left : (what : Happening) (at bytes : ℕ) (before : Option Given) → leaves_what what ≡ true → given_by what at bytes before ≡ before
left (Moves move) at bytes before h = absurd (true≢false (sym h))
left (Ends outcome added) at bytes before h = absurd (true≢false (sym h))
left (Declares outcome added) at bytes before h = absurd (true≢false (sym h))
left Reopens at bytes before h = absurd (true≢false (sym h))
left Resumes at bytes before h = absurd (true≢false (sym h))
left other at bytes before h = refl

-- This result stands since then.
record StandsSince (added : Bool) (at : ℕ) (result : Option Given) : Type 0 where
  given : Given
  is : result ≡ Some given
  since : given.at ≡ at
  by : given.is_added ≡ added

given_now : (added : Bool) (what : Happening) (at bytes : ℕ) (before : Option Given) → GivesIt added what → StandsSince added at (given_by what at bytes before)
given_now added what at bytes before h =
    elim h.1 [
      | inl ends ↦ record { given = new_given h.0 false added at bytes; is = ap (λ w. given_by w at bytes before) ends; since = refl; by = refl }
      | inr declares ↦ record { given = new_given h.0 true added at bytes; is = ap (λ w. given_by w at bytes before) declares; since = refl; by = refl }
    ]

still_stands : (added : Bool) (given : Event) (later past : List Event) → GivesIt added given.what → list_all leaves_it later ≡ true
    → StandsSince added given.at (last_given (later ++ given ∷ past))
still_stands added given [] past gives all = given_now added given.what given.at given.bytes (last_given past) gives
still_stands added given (event ∷ later) past gives all =
    let both = and_parts (leaves_it event) (list_all leaves_it later) all in
    let before = still_stands added given later past gives both.1 in
    record {
      given = before.given;
      is = left event.what event.at event.bytes (last_given (later ++ given ∷ past)) both.0 ∙ before.is;
      since = before.since;
      by = before.by;
    }

-- What ends a game that isn't over if it has stood so long ends it from then on.
ends_from : (from : ℕ) (event : Event) (past : List Event) (stood : Bool) → is_over past ≡ false
    → why_by event.what event.at past ≡ (if stood then Some Stood else None) → stood ≡ nat_le from event.at → EndsFrom from event past
ends_from from event past stood over why is =
    let by : ended_by event past ≡ (if nat_le from event.at then Some Stood else None) =
    ap (λ b. if b then None else why_by event.what event.at past) over ∙ why ∙ ap (λ b. if b then Some Stood else None) is in (
      λ le. by ∙ ap (λ b. if b then Some Stood else None) (le-leb from event.at le),
      λ low. by ∙ ap (λ b. if b then Some Stood else None) (lt-leb from event.at low),
    )

pub ends_after_ten_seconds : EndsAfterTenSeconds
ends_after_ten_seconds added given heard later past gives all over hears =
    let before : List Event = later ++ given ∷ past in
    let stands = still_stands added given later past gives all in
    ends_from (given.at + 10000) heard before (has_stood heard.at (last_given before)) over (ap (λ w. why_by w heard.at before) hears)
    (ap (has_stood heard.at) stands.is ∙ ap (λ t. nat_le (t + 10000) heard.at) stands.since)

pub ends_unheard : EndsUnheard
ends_unheard added given time later past gives all over passes =
    let before : List Event = later ++ given ∷ past in
    let stands = still_stands added given later past gives all in
    ends_from (given.at + (if added then 10000 else 17000)) time before (has_passed time.at (last_given before)) over (ap (λ w. why_by w time.at before) passes)
    (ap (has_passed time.at) stands.is ∙ ap (λ t. nat_le (t + waits stands.given) time.at) stands.since
    ∙ ap (λ b. nat_le (given.at + (if b then 10000 else 17000)) time.at) stands.by)
