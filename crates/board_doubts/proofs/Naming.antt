-- What nobody may have played, when the result is given.
use Rattle.std.proofs.Common.{◌≡◌, ◌≢◌, ◌≤◌, ◌-◌, ℕ, Bool, true, false, nat_lt, List, ◌∷◌, ◌++◌, Option, Some, None, refl, ap, ◌∙◌, arith}
use Rattle.std.specs.Prelude.{if◌then◌else◌, is_some}
use Rattle.board_doubts.specs.declared.heard.Event.{Event}
use Rattle.board_doubts.specs.declared.heard.Heard.{Heard}
use Rattle.board_doubts.specs.declared.heard.Heard.TheVariants.{Ends}
use Rattle.board_doubts.specs.declared.stopped_clock.Tried.{Tried}
use Rattle.board_doubts.specs.Clock.{ago, tried}
use Rattle.board_doubts.specs.Laws.{PressedEndPasses, StoppedMoveIsNamed}
use Rattle.board_doubts.specs.Presses.{is_used, unpressed}
use Rattle.board_doubts.specs.Unplayed.{odd, or_else, tried_of, unplayed, unplayed_by, unpressed_last}
use Rattle.board_doubts.proofs.Stops.{moved_while_stopped}

some_moves : (n plies : ℕ) → n ≢ 0 → is_some (tried_of n plies) ≡ true
some_moves n plies more =
    let above : nat_lt 0 n ≡ true = grind (arith, more) in
    let some : Option Tried = Some (record { moves = n; plies = plies }) in
    ap (λ b. is_some (if b then some else None)) above

some_first : (one other : Option Tried) → is_some one ≡ true → is_some (or_else one other) ≡ true
some_first None other h = absurd cc
some_first (Some tried) other h = refl

pub stopped_move_is_named : StoppedMoveIsNamed
stopped_move_is_named result first stop repeats past between later run says quiet still moves made ends =
    let all : List Event = later ++ first ∷ (between ++ stop ∷ past) in
    ap (λ what. is_some (unplayed_by what all)) ends
    ∙ some_first (tried_of (tried all) (ago all)) _
    (some_moves (tried all) (ago all) (moved_while_stopped first stop repeats past between later run says quiet still moves made))

none_of : (n plies : ℕ) → n ≡ 0 → tried_of n plies ≡ None
none_of n plies none = ap (λ m. if nat_lt 0 m then Some (record { moves = m; plies = plies }) else None) none

few : (used : Bool) (n : ℕ) → n ≤ 1 → (if used then n - 1 else 0) ≡ 0
few true n le = omega (arith, le)
few false n le = refl

by_what : (what : Heard) (past : List Event) → unplayed past ≡ None → unplayed_by what past ≡ None
by_what Ends past h = h
by_what _ past h = refl

pub pressed_end_passes : PressedEndPasses
pressed_end_passes result past none right pressed =
    by_what result.what past
    (ap (λ one. or_else one (or_else (tried_of (odd past) (odd past)) (tried_of (unpressed_last past) (unpressed_last past)))) (none_of (tried past) (ago past) none)
    ∙ ap (λ one. or_else one (tried_of (unpressed_last past) (unpressed_last past))) (none_of (odd past) (odd past) right)
    ∙ none_of (unpressed_last past) (unpressed_last past) (few (is_used past) (unpressed past) pressed))
