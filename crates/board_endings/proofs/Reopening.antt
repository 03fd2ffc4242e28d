-- A game that is reopened.
use Rattle.std.proofs.Common.{◌≡◌, ◌&&◌, not, ℕ, Bool, true, false, List, ◌∷◌, Option, Some, None, refl, sym, ap, subst, ◌∙◌}
use Rattle.std.specs.Prelude.{if◌then◌else◌, is_some}
use Rattle.game_over.specs.declared.happened.Event.{Event}
use Rattle.game_over.specs.declared.happened.Happening.TheVariants.{Reopens as IsReopened}
use Rattle.game_over.specs.declared.said.Over.{Over}
use Rattle.game_over.specs.declared.said.Said.{Said}
use Rattle.game_over.specs.declared.said.Said.TheVariants.{Nothing}
use Rattle.game_over.specs.declared.said.Why.{Why}
use Rattle.game_over.specs.Over.{is_over}
use Rattle.game_over.specs.Said.{IsSaid, IsSaidFor}
use Rattle.board_endings.specs.declared.news.End.{End}
use Rattle.board_endings.specs.Items.{bytes_of}
use Rattle.board_endings.specs.Meaning.{ReopenedGameIsOn}
use Rattle.board_endings.specs.Saying.{IsEnd, end_by}
use Rattle.board_endings.specs.Telling.{happens, timed}
use Rattle.board_endings.proofs.StayLemmas.{no_why, none_by}
use Rattle.board_endings.proofs.TakeLemmas.{timed_none}

nothing_said : (at bytes : ℕ) (past : List Event) (said : Said) → IsSaid said (happens at bytes IsReopened) past → said ≡ Nothing
nothing_said at bytes past said h =
    let W : Option Why → Type 0 = λ why. IsSaidFor why said (happens at bytes IsReopened) past in
    subst W (no_why (is_over past)) h ∙ none_by (is_over past)

is_on : (at bytes : ℕ) (past : List Event) (end : End) → IsEnd (happens at bytes IsReopened ∷ past) end → (end.over ≡ None) × (end.goes_on ≡ None)
is_on at bytes past end h =
    let same : end ≡ end_by Nothing (happens at bytes IsReopened) h.0 =
    h.4 ∙ ap (λ (s : Said). end_by s (happens at bytes IsReopened) h.0) (nothing_said at bytes past h.1 h.3) in
    (ap (λ (e : End). e.over) same, ap (λ (e : End). e.goes_on) same)

pub reopened_game_is_on : ReopenedGameIsOn
reopened_game_is_on setting items at now end h =
    let bytes : ℕ = bytes_of items in
    let all : List Event = happens at bytes IsReopened ∷ (h.1).0 in
    let told : h.0 ≡ all = (h.1).2 in
    let E : List Event → Type 0 = λ events. IsEnd (timed now bytes events) end in
    let F : List Event → Type 0 = λ events. IsEnd events end in
    is_on at bytes (h.1).0 end (subst F (timed_none now bytes all refl) (subst E told h.2))
