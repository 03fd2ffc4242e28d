-- Plies that are taken back without a clock.
use Rattle.std.proofs.Common.{◌≡◌, ◌&&◌, ◌||◌, not, ℕ, Bool, true, false, List, ◌∷◌, Option, Some, None, refl, sym, ap, ◌∙◌}
use Rattle.std.specs.Prelude.{if◌then◌else◌}
use Rattle.std.proofs.lemmas.Bool.{true≢false}
use Rattle.std.proofs.Math.Bool.{and-true}
use Rattle.board_doubts.specs.declared.heard.Event.{Event}
use Rattle.board_doubts.specs.declared.heard.Heard.{Heard}
use Rattle.board_doubts.specs.declared.heard.Heard.TheVariants.{Plays}
use Rattle.board_doubts.specs.declared.heard.Place.TheVariants.{AtLast}
use Rattle.board_doubts.specs.declared.heard.Ply.{Ply}
use Rattle.board_doubts.specs.declared.heard.Why.{Why}
use Rattle.board_doubts.specs.declared.heard.Why.TheVariants.{TakenBack, Unpressed, OtherTime}
use Rattle.board_doubts.specs.Doubts.{doubt_by, doubted, is_odd, is_on, is_unhurried, takes_back, why_played}
use Rattle.board_doubts.specs.Meaning.{TakenBackAtOnce}
use Rattle.board_doubts.specs.Pace.{last_within}
use Rattle.board_doubts.specs.Plies.{both_back, ends_pair, played, played_by}
use Rattle.board_doubts.specs.Presses.{counts_now, is_left_by, is_used, unpressed}
use Rattle.board_doubts.specs.Thinking.{is_exchanged}
use Rattle.board_doubts.specs.Waiting.{ply_times}
use Rattle.board_doubts.proofs.Reasons.{decides, not_taken_back}

goes_back : (what : Heard) (past : List Event) → ends_pair past ≡ false → both_back (played_by what (played past)) ≡ true → is_used past ≡ false
    → is_unhurried past ≡ true → takes_back what past ≡ last_within 2000 (ply_times past)
goes_back what past pair back used unhurried =
    let quick : Bool = last_within 2000 (ply_times past) in
    ap (λ b. b && (ends_pair past || (quick && (is_unhurried past && not (is_used past))))) back
    ∙ ap (λ b. b || (quick && (is_unhurried past && not (is_used past)))) pair
    ∙ ap (λ b. quick && (b && not (is_used past))) unhurried ∙ ap (λ b. quick && not b) used ∙ and-true quick

no_message : (event : Event) (ply : Ply) → event.what ≡ Plays ply → decides event.what ≡ false
no_message event ply plays = ap decides plays

pub taken_back_at_once : TakenBackAtOnce
taken_back_at_once event ply past on plays own pair back used unhurried =
    let is = goes_back event.what past pair back used unhurried in (
      (λ quick. (
        AtLast,
        ap (λ b. if b then None else doubt_by event.what event.at past) own ∙ ap (λ what. doubt_by what event.at past) plays
            ∙ ap (λ b. doubted AtLast (if b then why_played (Plays ply) past else None)) on
            ∙ ap (λ b. doubted AtLast (if b then Some TakenBack
            else if is_left_by (Plays ply) (counts_now past) (unpressed past) then Some Unpressed
            else if is_exchanged (Plays ply) past then Some OtherTime
            else None)) (sym (ap (λ what. takes_back what past) plays) ∙ is ∙ quick),
      )),
      (λ late. not_taken_back event past (is ∙ late) (λ decides. absurd (true≢false (sym decides ∙ no_message event ply plays)))),
    )
