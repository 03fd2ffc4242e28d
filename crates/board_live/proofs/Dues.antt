-- When a recorder is woken.
use Rattle.std.proofs.Common.{◌≡◌, ◌<◌, ◌≤◌, ◌^◌, inl, inr, ℕ, nat_le, Bool, true, false, List, Option, Some, None, IfSome, refl, sym, ap, subst, ◌∙◌, arith, leb-false, leb-true}
use Rattle.std.proofs.Math.Nat.{le_antisymm}
use Rattle.chess_rules.specs.Valid.{Valid}
use Rattle.square_runs.specs.Lasting.{earlier}
use Rattle.board_cable.specs.declared.line.Event.{Event}
use Rattle.board_cable.specs.Asking.{Changes}
use Rattle.board_cable.specs.Lasting.{IsBefore}
use Rattle.board_cable.specs.Pace.{AsksAlike, asks}
use Rattle.board_cable.specs.Whose.{HandledAlike, handling_at}
use Rattle.board_cable.specs.Turns.{told}
use Rattle.board_events.specs.Settings.{Setting}
use Rattle.board_game.specs.Ending.{IsEndDueOf}
use Rattle.board_game.specs.Games.{IsDueOf}
use Rattle.board_game.specs.History.{Came}
use Rattle.board_game.specs.Laws.{EndDueOnce, HearsOnce}
use Rattle.board_standing.specs.declared.heard.Event.{Event as Heard}
use Rattle.board_standing.specs.States.{due_at}
use Rattle.board_live.specs.Coming.{came}
use Rattle.board_live.specs.Due.{IsCableDue, IsDue}
use Rattle.board_live.specs.Laws.{WakesOnce}

-- ---- the cable's time

-- What changes at a time that is still to come doesn't stay until a later one.
not_before : (told : List Event) (now x : ℕ) (other : Option ℕ) → (now < x) × (x < 2 ^ 64) → Changes now told x → AsksAlike now told other
    → HandledAlike now told other → IsBefore x other → ⊥
not_before told now x other ahead (inl change) asked handled before = change (asked x ahead.1 (omega (arith, ahead.0)) before)
not_before told now x other ahead (inr change) asked handled before = change (handled x ahead.1 (omega (arith, ahead.0)) before)

at_most : (b : Bool) (x y : ℕ) → nat_le y x ≡ b → (x < y → ⊥) → y ≤ x
at_most true x y e h = leb-true y x e
at_most false x y e h = absurd (h (leb-false y x e))

cable_once : (told : List Event) (now : ℕ) (a b : Option ℕ) → IsCableDue told now a → IsCableDue told now b → a ≡ b
cable_once told now None None g h = refl
cable_once told now None (Some y) g h = absurd (not_before told now y None h.ahead h.changes g.asks g.handling tt)
cable_once told now (Some x) None g h = absurd (not_before told now x None g.ahead g.changes h.asks h.handling tt)
cable_once told now (Some x) (Some y) g h =
    let one : y ≤ x = at_most (nat_le y x) x y refl (λ less. not_before told now x (Some y) g.ahead g.changes h.asks h.handling less) in
    let other : x ≤ y = at_most (nat_le x y) y x refl (λ less. not_before told now y (Some x) h.ahead h.changes g.asks g.handling less) in
    ap (λ (n : ℕ). Some n) (le_antisymm other one)

-- What both have alike, at any time.
abbrev AskedAlike : List Event → List Event → Type 0
AskedAlike one other = (at : ℕ) → asks at one ≡ asks at other

abbrev KeptAlike : List Event → List Event → Type 0
KeptAlike one other = (at : ℕ) → handling_at at one ≡ handling_at at other

changes_alike : (one other : List Event) (now : ℕ) (due : Option ℕ) → AskedAlike one other → KeptAlike one other → IfSome due (λ d. Changes now one d)
    → IfSome due (λ d. Changes now other d)
changes_alike one other now None asked handled h = tt
changes_alike one other now (Some d) asked handled (inl h) = inl (λ e. h (asked d ∙ e ∙ sym (asked now)))
changes_alike one other now (Some d) asked handled (inr h) = inr (λ e. h (handled d ∙ e ∙ sym (handled now)))

cable_alike : (one other : List Event) (now : ℕ) (due : Option ℕ) → AskedAlike one other → KeptAlike one other → IsCableDue one now due → IsCableDue other now due
cable_alike one other now due asked handled h = record {
  ahead = h.ahead;
  asks = λ later fits from before. sym (asked later) ∙ h.asks later fits from before ∙ asked now;
  handling = λ later fits from before. sym (handled later) ∙ h.handling later fits from before ∙ handled now;
  changes = changes_alike one other now due asked handled h.changes;
}

-- ---- the earliest of the three

pub due_by : (setting : Setting) (recovers : Bool) (past other : List Came) (one two : List Event) (now : ℕ) (a b : Option ℕ) → AskedAlike one two → KeptAlike one two
    → ((x y : Option ℕ) → IsDueOf setting recovers past now x → IsDueOf setting recovers other now y → x ≡ y)
    → ((x y : Option ℕ) → IsEndDueOf setting recovers past now x → IsEndDueOf setting recovers other now y → x ≡ y)
    → IsDue setting recovers past one now a → IsDue setting recovers other two now b → a ≡ b
due_by setting recovers past other one two now a b asked handled states ends g h =
    let cables : g.cable ≡ h.cable = cable_once two now g.cable h.cable (cable_alike one two now g.cable asked handled g.cable_is) h.cable_is in
    g.due_is ∙ ap (λ x. earlier (earlier x g.state) g.end) cables ∙ ap (λ x. earlier (earlier h.cable x) g.end) (states g.state h.state g.state_is h.state_is)
    ∙ ap (λ x. earlier (earlier h.cable h.state) x) (ends g.end h.end g.end_is h.end_is) ∙ sym h.due_is

state_due_once : HearsOnce → (setting : Setting) (recovers : Bool) (past : List Came) (now : ℕ) (x y : Option ℕ) → Valid setting.start
    → IsDueOf setting recovers past now x → IsDueOf setting recovers past now y → x ≡ y
state_due_once hears setting recovers past now x y valid g h =
    g.2 ∙ ap (λ (heard : List Heard). due_at now heard) (hears setting recovers past g.0 h.0 valid g.1 h.1) ∙ sym h.2

-- If the same came to the game, and both are asked alike, the same time is named.
pub due_same : HearsOnce → EndDueOnce → (setting : Setting) (recovers : Bool) (past other : List Came) (one two : List Event) (now : ℕ) (a b : Option ℕ) → Valid setting.start
    → past ≡ other → AskedAlike one two → KeptAlike one two → IsDue setting recovers past one now a → IsDue setting recovers other two now b → a ≡ b
due_same hears ends setting recovers past other one two now a b valid same asked handled g h =
    let D : List Came → Type 0 = λ c. IsDue setting recovers c one now a in
    due_by setting recovers other other one two now a b asked handled (λ x y p q. state_due_once hears setting recovers other now x y valid p q)
    (λ x y p q. ends setting recovers other now x y valid p q) (subst D same g) h

pub wakes_once : HearsOnce → EndDueOnce → WakesOnce
wakes_once hears ends setting recovers past turns now a b valid g h =
    let has = came past turns in
    due_same hears ends setting recovers has has (told turns) (told turns) now a b valid refl (λ at. refl) (λ at. refl) g h
