-- What isn't doubted after a press of the clock.
use Rattle.std.proofs.Common.{◌≡◌, ◌≤◌, ◌+◌, ◌&&◌, not, ℕ, Bool, true, false, List, [], ◌∷◌, ◌++◌, Option, Some, None, refl, ap, ◌∙◌, arith}
use Rattle.std.specs.Prelude.{if◌then◌else◌, nat_lt}
use Rattle.std.proofs.lemmas.Bool.{lt-ltb, ne_eqb}
use Rattle.std.proofs.Math.Bool.{and-false}
use Rattle.board_doubts.specs.declared.heard.Event.{Event}
use Rattle.board_doubts.specs.declared.heard.Heard.{Heard}
use Rattle.board_doubts.specs.declared.heard.Heard.TheVariants.{Plays, Presses}
use Rattle.board_doubts.specs.declared.heard.Why.{Why}
use Rattle.board_doubts.specs.declared.heard.Why.TheVariants.{Returned}
use Rattle.board_doubts.specs.Meaning.{PressPasses, plies_in, ply_of}
use Rattle.board_doubts.specs.Presses.{counts_now, is_early, is_left_by, is_press, pressed_at, presses, quiet, quiet_by, unpressed, unpressed_by}
use Rattle.board_doubts.specs.Silent.{needed, pending, silent_by}
use Rattle.board_doubts.specs.Thinking.{counting}
use Rattle.board_doubts.specs.Unheard.{is_unheard}
use Rattle.board_doubts.proofs.Reasons.{chosen, is_moved_on, is_returned, meets, not_moved_on, not_returned, not_unpressed, silent_few}

quiet_one : (what : Heard) (press pressed unheard : Bool) (before n : ℕ) → before ≤ n → quiet_by what press pressed unheard before ≤ ply_of what + n
quiet_one (Plays ply) press true unheard before n h = omega arith
quiet_one (Plays ply) press false true before n h = omega arith
quiet_one (Plays ply) press false false before n h = omega (arith, h)
quiet_one _ true pressed unheard before n h = omega arith
quiet_one _ false pressed unheard before n h = omega (arith, h)

quiet_in : (press : Event) (past later : List Event) → press.what ≡ Presses → quiet (later ++ press ∷ past) ≤ plies_in later
quiet_in press past [] is =
    let none : quiet (press ∷ past) ≡ 0 =
    ap (λ what. quiet_by what (is_press what (counting past)) (is_early press.at (pressed_at past)) (is_unheard past) (quiet past)) is in
    omega (arith, none)
quiet_in press past (event ∷ later) is =
    let all : List Event = later ++ press ∷ past in
    quiet_one event.what (presses event.what all) (is_early event.at (pressed_at all)) (is_unheard all) (quiet all) (plies_in later) (quiet_in press past later is)

unpressed_one : (what : Heard) (press counts : Bool) (before n : ℕ) → before ≤ n → unpressed_by what press counts before ≤ ply_of what + n
unpressed_one (Plays ply) press true before n h = omega (arith, h)
unpressed_one (Plays ply) press false before n h = omega (arith, h)
unpressed_one _ true counts before n h = omega arith
unpressed_one _ false counts before n h = omega (arith, h)

unpressed_in : (press : Event) (past later : List Event) → press.what ≡ Presses → unpressed (later ++ press ∷ past) ≤ plies_in later
unpressed_in press past [] is =
    let none : unpressed (press ∷ past) ≡ 0 =
    ap (λ what. unpressed_by what (is_press what (counting past)) (counts_now past && not press.is_added) (unpressed past)) is in
    omega (arith, none)
unpressed_in press past (event ∷ later) is =
    let all : List Event = later ++ press ∷ past in
    unpressed_one event.what (presses event.what all) (counts_now all && not event.is_added) (unpressed all) (plies_in later) (unpressed_in press past later is)

not_left : (what : Heard) (counts : Bool) (count : ℕ) → count ≤ 4 → is_left_by what counts count ≡ false
not_left (Plays ply) counts count low =
    ap (λ b. counts && b) (ne_eqb (count + 1) 6 (λ e. let never : ⊥ = omega (arith, e, low) in never)) ∙ and-false counts
not_left _ counts count low = refl

few_return : (count : ℕ) (waits : Option Why) → count ≤ 3 → meets is_returned (silent_by count waits) ≡ false
few_return count None low = refl
few_return count (Some Returned) low = ap (λ b. meets is_returned (if b then None else Some Returned)) (lt-ltb count 4 (omega (arith, low)))
few_return count (Some why) low = chosen is_returned (nat_lt count (needed why)) None (Some why) refl refl

pub press_passes : PressPasses
press_passes event press past later is =
    let all : List Event = later ++ press ∷ past in
    let most : quiet all ≤ plies_in later = quiet_in press past later is in
    let left : unpressed all ≤ plies_in later = unpressed_in press past later is in (
      (λ low. not_unpressed event all (not_left event.what (counts_now all) (unpressed all) (omega (arith, left, low)))),
      (λ low. not_returned event all (λ decides count few. few_return count (pending all) (omega (arith, most, low, few)))),
      (λ low. not_moved_on event all (λ decides count few. silent_few is_moved_on count (pending all) (omega (arith, most, low, few)))),
    )
