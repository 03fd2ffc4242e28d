-- What a move makes of a game that has a result.
use Rattle.std.proofs.Common.{◌≡◌, not, ℕ, Bool, true, false, List, [], ◌∷◌, ◌++◌, Option, Some, None, refl, sym, ap, ◌∙◌}
use Rattle.std.specs.Prelude.{if◌then◌else◌}
use Rattle.std.specs.List.{list_all}
use Rattle.std.proofs.lemmas.Bool.{and_parts, true≢false}
use Rattle.game_over.specs.declared.happened.Event.{Event}
use Rattle.game_over.specs.declared.happened.Happening.{Happening}
use Rattle.game_over.specs.declared.happened.Happening.TheVariants.{Moves, Ends, Declares, Reopens, Resumes}
use Rattle.game_over.specs.declared.happened.Move.{Move}
use Rattle.game_over.specs.declared.happened.Outcome.{Outcome}
use Rattle.game_over.specs.declared.result.Given.{Given}
use Rattle.game_over.specs.declared.said.Why.TheVariants.{PlaysOn, Corrected}
use Rattle.game_over.specs.Over.{ended_by, is_over, why_by, why_moves}
use Rattle.game_over.specs.Result.{given_by, last_given}
use Rattle.game_over.specs.Standing.{CorrectionEnds, keeps_it, keeps_what}

-- The game has a result; the kings or an arbiter gave it, or not.
pub HasGiven : Bool → Option Given → Type 0
HasGiven declared None = ⊥
HasGiven declared (Some given) = given.is_declared ≡ declared

kept : (declared : Bool) (what : Happening) (at bytes : ℕ) (before : Option Given) → keeps_what what ≡ true → HasGiven declared before
    → HasGiven declared (given_by what at bytes before)
unfolding HasGiven
kept declared (Moves move) at bytes before keeps h = absurd (true≢false (sym keeps))
kept declared (Ends outcome added) at bytes before keeps h = absurd (true≢false (sym keeps))
kept declared (Declares outcome added) at bytes before keeps h = absurd (true≢false (sym keeps))
kept declared Reopens at bytes before keeps h = absurd (true≢false (sym keeps))
kept declared Resumes at bytes None keeps h = h
kept declared Resumes at bytes (Some given) keeps h = h
kept declared _ at bytes before keeps h = h

kept_all : (declared : Bool) (later base : List Event) → list_all keeps_it later ≡ true → HasGiven declared (last_given base)
    → HasGiven declared (last_given (later ++ base))
kept_all declared [] base keeps h = h
kept_all declared (event ∷ later) base keeps h =
    let both = and_parts (keeps_it event) (list_all keeps_it later) keeps in
    kept declared event.what event.at event.bytes (last_given (later ++ base)) both.0 (kept_all declared later base both.1 h)

pub given_stays : (declared added : Bool) (outcome : Outcome) (given : Event) (later past : List Event)
    → given.what ≡ (if declared then Declares outcome added else Ends outcome added) → list_all keeps_it later ≡ true
    → HasGiven declared (last_given (later ++ given ∷ past))
unfolding HasGiven
given_stays true added outcome given later past gives keeps =
    kept_all true later (given ∷ past) keeps (rw gives refl)
given_stays false added outcome given later past gives keeps =
    kept_all false later (given ∷ past) keeps (rw gives refl)

by_move : (declared added corrects : Bool) (move : Move) (given : Option Given) → HasGiven declared given → move.is_added ≡ added → move.corrects ≡ corrects
    → why_moves move given ≡ (if added then None else if not corrects then Some PlaysOn else if declared then Some Corrected else None)
unfolding HasGiven
by_move declared added corrects move None h a c = absurd h
by_move declared added corrects move (Some given) h a c =
    ap (λ b. if b then None else if not move.corrects then Some PlaysOn else if given.is_declared then Some Corrected else None) a
    ∙ ap (λ b. if added then None else if not b then Some PlaysOn else if given.is_declared then Some Corrected else None) c
    ∙ ap (λ b. if added then None else if not corrects then Some PlaysOn else if b then Some Corrected else None) h

-- A move on the board after a result ends the game so.
pub ended_so : (declared corrects : Bool) (move : Move) (next : Event) (past : List Event) → HasGiven declared (last_given past) → is_over past ≡ false
    → next.what ≡ Moves move → move.is_added ≡ false → move.corrects ≡ corrects
    → ended_by next past ≡ (if not corrects then Some PlaysOn else if declared then Some Corrected else None)
ended_so declared corrects move next past h over moves made c =
    ap (λ b. if b then None else why_by next.what next.at past) over ∙ ap (λ what. why_by what next.at past) moves
    ∙ by_move declared false corrects move (last_given past) h made c

pub correction_ends : CorrectionEnds
correction_ends added outcome move given correction later past keeps over moves made corrects = (
  (λ declares. ended_so true true move correction (later ++ given ∷ past) (given_stays true added outcome given later past declares keeps) over moves made corrects),
  (λ ends. ended_so false true move correction (later ++ given ∷ past) (given_stays false added outcome given later past ends keeps) over moves made corrects),
)
