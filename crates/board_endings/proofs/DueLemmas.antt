-- When time alone ends a game.
use Rattle.std.proofs.Common.{◌≡◌, ◌<◌, ◌≤◌, ◌^◌, ◌||◌, ℕ, nat_le, Bool, true, false, if◌then◌else◌, List, ◌∷◌, IfSome, Option, Some, None, refl, sym, ap, subst, ◌∙◌, arith, le-leb, leb-false, leb-true}
use Rattle.std.proofs.Math.Bool.{or-false}
use Rattle.std.proofs.Math.Nat.{le_antisymm, le_refl}
use Rattle.std.specs.Prelude.{is_some}
use Rattle.square_runs.specs.Lasting.{IsBefore}
use Rattle.game_over.specs.declared.happened.Event.{Event}
use Rattle.game_over.specs.declared.happened.Happening.TheVariants.{Passes}
use Rattle.game_over.specs.declared.said.Said.{Said}
use Rattle.game_over.specs.declared.said.Said.TheVariants.{IsOver}
use Rattle.game_over.specs.declared.said.Why.{Why}
use Rattle.game_over.specs.declared.said.Why.TheVariants.{Stood}
use Rattle.game_over.specs.Over.{ended_by, is_over, passes}
use Rattle.game_over.specs.Result.{has_come, has_passed, last_given}
use Rattle.game_over.specs.Said.{IsSaidFor, ended_with}
use Rattle.board_endings.specs.declared.news.End.{End}
use Rattle.board_endings.specs.Items.{bytes_of}
use Rattle.board_endings.specs.Laws.{DueOnce, SameUntilDue}
use Rattle.board_endings.specs.Saying.{IsEnd, IsToCome, end_by}
use Rattle.board_endings.proofs.OnceLemmas.{tells_once}

-- What has come by now has come later.
come_later : (now time : ℕ) (due : Option ℕ) → now ≤ time → has_come now due ≡ true → has_come time due ≡ true
come_later now time None le h = absurd cc
come_later now time (Some d) le h = grind (arith, le, h)

-- It has ended the game by now.
pub ended_now : (now time : ℕ) (due : Option ℕ) (one other : Bool) → now ≤ time → has_come now due ≡ true → has_come now due ≡ one → has_come time due ≡ other
    → other ≡ (one || false)
ended_now now time due one other le h e f =
    let was : one ≡ true = sym e ∙ h in
    let is : other ≡ true = sym f ∙ come_later now time due le h in
    is ∙ sym (ap (λ (b : Bool). b || false) was)

-- It hasn't.
pub ends_later : (now time : ℕ) (due : Option ℕ) (one other : Bool) → has_come now due ≡ false → has_come now due ≡ one → has_come time due ≡ other
    → other ≡ (one || has_come time due)
ends_later now time due one other h e f =
    let was : one ≡ false = sym e ∙ h in
    sym f ∙ sym (ap (λ (b : Bool). b || has_come time due) was)

-- What hasn't come by now is still to come.
pub still_to_come : (now : ℕ) (due : Option ℕ) (ended : Bool) → IfSome due (λ d. d < 2 ^ 64) → has_come now due ≡ false → has_come now due ≡ ended → IsToCome ended now due
still_to_come now None ended fits h e = tt
still_to_come now (Some d) ended fits h e = (sym e ∙ h, leb-false d now h, fits)

before_due : (time : ℕ) (due : Option ℕ) → IsBefore time due → has_come time due ≡ false
before_due time None h = refl
before_due time (Some d) h = grind (arith, h)

stood_by : (over stood : Bool) → is_some (if over then None else (if stood then Some Stood else None)) ≡ true
    → (if over then None else (if stood then Some Stood else None)) ≡ Some Stood
stood_by true stood h = absurd cc
stood_by false true h = refl
stood_by false false h = absurd cc

stood_at : (time bytes : ℕ) (past : List Event) → is_some (ended_by (passes time bytes) past) ≡ true → ended_by (passes time bytes) past ≡ Some Stood
stood_at time bytes past h = stood_by (is_over past) (has_passed time (last_given past)) h

passed : (now later bytes : ℕ) (past : List Event) (end : End) → is_some (ended_by (passes now bytes) past) ≡ true → is_some (ended_by (passes later bytes) past) ≡ true
    → IsEnd (passes now bytes ∷ past) end → IsEnd (passes later bytes ∷ past) end
passed now later bytes past end g h e =
    let W : Option Why → Type 0 = λ why. IsSaidFor why e.1 (passes now bytes) past in
    let said : e.1 ≡ IsOver (ended_with Stood Passes past) = subst W (stood_at now bytes past g) e.3 in
    let V : Option Why → Type 0 = λ why. IsSaidFor why e.1 (passes later bytes) past in (
      e.0,
      e.1,
      e.2,
      subst V (sym (stood_at later bytes past h)) said,
      e.4 ∙ ap (λ (s : Said). end_by s (passes now bytes) e.0) said ∙ sym (ap (λ (s : Said). end_by s (passes later bytes) e.0) said),
    )

alike_by : (x y : Bool) (one other : Event) (past : List Event) (end : End) → y ≡ x → (x ≡ true → y ≡ true → IsEnd (one ∷ past) end → IsEnd (other ∷ past) end)
    → IsEnd (if x then one ∷ past else past) end → IsEnd (if y then other ∷ past else past) end
alike_by true true one other past end e f h = f refl refl h
alike_by true false one other past end e f h = absurd cc
alike_by false true one other past end e f h = absurd cc
alike_by false false one other past end e f h = h

pub same_until_due : SameUntilDue
same_until_due setting items now later due end valid le fits before d e =
    let told = tells_once setting items d.0 e.0 valid d.1 e.1 in
    let bytes = bytes_of items in
    let was = is_some (ended_by (passes now bytes) e.0) in
    let is = is_some (ended_by (passes later bytes) e.0) in
    let D : List Event → Type 0 = λ t. is_some (ended_by (passes later bytes) t) ≡ (is_some (ended_by (passes now bytes) t) || has_come later due) in
    let same : is ≡ was = subst D told (d.2 later le fits) ∙ ap (λ (b : Bool). was || b) (before_due later due before) ∙ or-false was in
    (e.0, e.1, alike_by was is (passes now bytes) (passes later bytes) e.0 end same (passed now later bytes e.0 end) e.2)

-- ---- one time

-- From now on, it has ended if it has by now, or once this time has come.
abbrev EndsAt : (ℕ → Bool) → ℕ → Option ℕ → Type 0
EndsAt ended now due = (time : ℕ) → now ≤ time → time < 2 ^ 64 → ended time ≡ (ended now || has_come time due)

same_or : (ended a b : Bool) → ended ≡ false → (ended || a) ≡ (ended || b) → a ≡ b
same_or true a b e h = absurd cc
same_or false a b e h = h

-- At a time that is still to come, the other one has come too.
come_too : (ended : ℕ → Bool) (now x : ℕ) (other : Option ℕ) → IsToCome (ended now) now (Some x) → EndsAt ended now (Some x) → EndsAt ended now other → has_come x other ≡ true
come_too ended now x other ahead g h =
    let le : now ≤ x = omega (arith, ahead.1) in
    sym (same_or (ended now) (nat_le x x) (has_come x other) ahead.0 (sym (g x le ahead.2) ∙ h x le ahead.2)) ∙ le-leb x x (le_refl x)

one_time : (ended : ℕ → Bool) (now : ℕ) (a b : Option ℕ) → EndsAt ended now a → EndsAt ended now b → IsToCome (ended now) now a → IsToCome (ended now) now b → a ≡ b
one_time ended now None None g h p q = refl
one_time ended now None (Some y) g h p q = let never : false ≡ true = come_too ended now y None q h g in absurd cc
one_time ended now (Some x) None g h p q = let never : false ≡ true = come_too ended now x None p g h in absurd cc
one_time ended now (Some x) (Some y) g h p q =
    ap (λ (n : ℕ). Some n) (le_antisymm (leb-true x y (come_too ended now y (Some x) q h g)) (leb-true y x (come_too ended now x (Some y) p g h)))

pub due_once : DueOnce
due_once setting items now a b valid g h =
    let bytes = bytes_of items in
    let told = tells_once setting items g.0 h.0 valid g.1 h.1 in
    let E : List Event → Type 0 = λ t. EndsAt (λ time. is_some (ended_by (passes time bytes) t)) now a in
    let A : List Event → Type 0 = λ t. IsToCome (is_some (ended_by (passes now bytes) t)) now a in
    one_time (λ time. is_some (ended_by (passes time bytes) h.0)) now a b (subst E told g.2) h.2 (subst A told g.3) h.3
