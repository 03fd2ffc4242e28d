-- When somebody is called to a board, and when a state is reported.
use Rattle.std.specs.Prelude.{◌≡◌, ◌≢◌, ◌⊎◌, ◌↔◌, true, None}
use Rattle.board_standing.specs.declared.state.Kind.TheVariants.{Ended, Wrong, NoStart, Silent, Unplugged}
use Rattle.board_standing.specs.declared.state.State.{State}
use Rattle.board_standing.specs.States.{IsNews, is_alarm}

-- Somebody is called exactly if WRONG, SILENT or UNPLUGGED is read, or that the start is not there; or if there is a hint.
abbrev pub AlarmsExactly : Type 0
AlarmsExactly = (state : State) → (is_alarm state ≡ true)
    ↔ ((state.hint ≢ None) ⊎ ((state.kind ≡ Wrong) ⊎ ((state.kind ≡ NoStart) ⊎ ((state.kind ≡ Silent) ⊎ (state.kind ≡ Unplugged)))))

-- Another kind is reported, another hint, and other squares of WRONG.
abbrev pub OtherIsNews : Type 0
OtherIsNews = (before state : State) → (state.kind ≢ before.kind) ⊎ ((state.hint ≢ before.hint) ⊎ ((state.kind ≡ Wrong) × (state.squares ≢ before.squares)))
    → IsNews before state

-- A state that only lasts isn't reported again. A result that is given once more is.
abbrev pub LastingIsNoNews : Type 0
LastingIsNoNews = (before state : State) → state.kind ≡ before.kind → state.hint ≡ before.hint → (state.kind ≡ Wrong → state.squares ≡ before.squares)
    → (state.kind ≡ Ended → state.since ≡ before.since) → IsNews before state → ⊥
