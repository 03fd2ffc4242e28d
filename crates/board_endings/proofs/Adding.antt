-- What is told of an event that was added by hand.
use Rattle.std.proofs.Common.{◌≡◌, ◌≢◌, ◌⊎◌, inl, inr, ℕ, Bool, true, false, List, [], ◌∷◌, ◌++◌, Option, Some, None, refl, sym, ap, ◌∙◌}
use Rattle.std.specs.Prelude.{if◌then◌else◌, is_some}
use Rattle.dgt_frame.specs.declared.events.Event.{Event as BoardEvent}
use Rattle.settle_core.specs.declared.plies.Outcome.{Outcome as Result}
use Rattle.board_events.specs.Settings.{Setting}
use Rattle.game_over.specs.declared.happened.Event.{Event}
use Rattle.game_over.specs.declared.happened.Happening.{Happening}
use Rattle.game_over.specs.declared.happened.Happening.TheVariants.{Hears, Passes, Shows}
use Rattle.game_over.specs.declared.happened.Move.{Move}
use Rattle.game_over.specs.Over.{ended_by, passes}
use Rattle.board_endings.specs.declared.picture.Told.{Told}
use Rattle.board_endings.specs.Meaning.{AddedIsNotHeard, NotHeard}
use Rattle.board_endings.specs.Telling.{TellsResult, declares, ends, game_by, happens, timed, with_ended, with_picture}

passed : (b : Bool) (at bytes : ℕ) (past : List Event) → (more : List Event) × ((if b then passes at bytes ∷ past else past) ≡ more ++ past) × NotHeard more
passed true at bytes past = (passes at bytes ∷ [], refl, ((λ e. absurd cc), tt))
passed false at bytes past = ([], refl, tt)

-- What a picture tells is a move, or that the board agrees or differs, a result, and the picture.
game_not : (moved : Option Move) (agrees : Bool) → game_by moved agrees ≢ Hears
game_not (Some move) agrees e = absurd cc
game_not None true e = absurd cc
game_not None false e = absurd cc

ends_not : (added : Bool) (result : Option Result) → ends added result ≢ Some Hears
ends_not added None e = absurd cc
ends_not added (Some result) e = absurd cc

declares_not : (added : Bool) (result : Option Result) → declares added result ≢ Some Hears
declares_not added None e = absurd cc
declares_not added (Some result) e = absurd cc

result_not : (added : Bool) (moved : Option Move) (before after : Option Result) (told : Option Happening) → TellsResult added moved before after told
    → told ≢ Some Hears
result_not added (Some move) before after told h e = ends_not added after (sym h ∙ e)
result_not added None before after told (inl h) e = let never : None ≡ Some Hears = sym h.1 ∙ e in absurd cc
result_not added None before after told (inr h) e = declares_not added after (sym h.1 ∙ e)

with_result : (at bytes : ℕ) (told : Option Happening) (more past : List Event) → told ≢ Some Hears → NotHeard more
    → (all : List Event) × (with_ended at bytes told (more ++ past) ≡ all ++ past) × NotHeard all
with_result at bytes None more past not h = (more, refl, h)
with_result at bytes (Some what) more past not h = (happens at bytes what ∷ more, refl, ((λ e. not (ap (λ (w : Happening). Some w) e)), h))

pictured : (at bytes : ℕ) (told : Told) (more past : List Event) → told.game ≢ Hears → told.ended ≢ Some Hears → NotHeard more
    → (all : List Event) × (with_picture at bytes told (more ++ past) ≡ all ++ past) × NotHeard all
pictured at bytes told more past game result h =
    let ended = with_result at bytes told.ended (happens at bytes told.game ∷ more) past result (game, h) in (
      happens at bytes (Shows told.shown) ∷ ended.0,
      ap (λ (l : List Event). happens at bytes (Shows told.shown) ∷ l) ended.1,
      ((λ e. absurd cc), ended.2),
    )

pub added_is_not_heard : AddedIsNotHeard
added_is_not_heard false setting past at bytes event earlier told h =
    let time = passed (is_some (ended_by (passes at bytes) earlier)) at bytes earlier in (time.0, h ∙ time.1, time.2)
added_is_not_heard true setting past at bytes event earlier told h =
    let time = passed (is_some (ended_by (passes at bytes) earlier)) at bytes earlier in
    let tells = (h.1).tells in
    let game : (h.0).game ≢ Hears = λ e. game_not tells.moved _ (sym tells.game ∙ e) in
    let all = pictured at bytes h.0 time.0 earlier game (result_not true tells.moved _ _ (h.0).ended tells.ended) time.2 in
    (all.0, h.2 ∙ ap (λ (l : List Event). with_picture at bytes h.0 l) time.1 ∙ all.1, all.2)
