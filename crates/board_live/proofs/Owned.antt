-- When it is said that another board may be on the cable.
use Rattle.std.proofs.Common.{◌≡◌, ◌≢◌, ◌⊎◌, inl, inr, ℕ, Bool, true, false, List, [], ◌∷◌, ◌++◌, Option, Some, None, refl, sym, ap, ◌∙◌}
use Rattle.std.proofs.lemmas.Slice.Eq.{bytes_eq-Decides}
use Rattle.board_cable.specs.declared.line.Event.{Event}
use Rattle.board_cable.specs.declared.line.Happening.TheVariants.{Opens}
use Rattle.board_cable.specs.Numbers.{OwnSendsKnownNumber}
use Rattle.board_cable.specs.Whose.{is_own, own_number, sends_own, shown_number}
use Rattle.board_cable.specs.Turns.{Turn, told}
use Rattle.board_events.specs.Settings.{Setting}
use Rattle.board_standing.specs.declared.state.Hint.{Hint}
use Rattle.board_standing.specs.declared.state.Hint.TheVariants.{TurnedRound, OtherBoard}
use Rattle.board_standing.specs.declared.state.State.{State}
use Rattle.board_live.specs.Laws.{NothingElseIsLeftOut, OwnBoardIsNoOther}
use Rattle.board_live.specs.Moments.{Moment}
use Rattle.board_live.specs.Saying.{IsRead, IsSaid, Says, SaysAfter, but_other, is_live, said_before}

-- ---- the game's own board

abbrev the_state : State → Option State → State
the_state state None = state
the_state state (Some said) = said

after_is : (before : Option State) (state said : State) → SaysAfter before state (Some said) → said ≡ state
after_is None state said h = ap (λ (o : Option State). the_state said o) h
after_is (Some before) state said h = h.1

said_is : (live : Bool) (before : Option State) (state said : State) → Says live before state (Some said) → said ≡ state
said_is true before state said h = after_is before state said h
said_is false before state said h = absurd (let never : Some said ≡ None = h in cc)

never_other : (hint : Option Hint) → but_other true hint ≢ Some OtherBoard
never_other None h = absurd (let never : None ≡ Some OtherBoard = h in cc)
never_other (Some TurnedRound) h = absurd (let never : Some TurnedRound ≡ Some OtherBoard = h in cc)
never_other (Some OtherBoard) h = absurd (let never : None ≡ Some OtherBoard = h in cc)

own_read : (setting : Setting) (recovers : Bool) (past : List Moment) (turns : List Turn) (now : ℕ) (state : State) → is_own (told turns) ≡ true
    → IsRead setting recovers past turns now state → state.hint ≢ Some OtherBoard
own_read setting recovers past turns now state own h other =
    never_other h.0.hint (sym (ap (λ (s : State). s.hint) h.2 ∙ ap (λ b. but_other b h.0.hint) own) ∙ other)

own_said : (setting : Setting) (recovers : Bool) (past : List Moment) (turns : List Turn) (state : State) (last : Option State) → is_own (told turns) ≡ true
    → IsSaid setting recovers past turns (Some state) last → state.hint ≢ Some OtherBoard
own_said setting recovers [] turns state last own h other = absurd (let never : Some state ≡ None = h.0 in cc)
own_said setting recovers (m ∷ past) [] state last own h other = absurd h
own_said setting recovers (m ∷ past) (turn ∷ turns) state last own h other =
    let is = said_is (is_live (m ∷ past)) (said_before m.what h.2) h.0 state h.6 in
    own_read setting recovers (m ∷ past) (turn ∷ turns) m.at h.0 own h.4 (sym (ap (λ (s : State). s.hint) is) ∙ other)

pub own_board_is_no_other : OwnSendsKnownNumber → OwnBoardIsNoOther
own_board_is_no_other sends setting recovers past turns state last opened number since before are known still shown h =
    let now : List Event = since ++ record { at = opened; what = Opens } ∷ before in
    let same : is_own (told turns) ≡ true = ap is_own are ∙ sends opened since before still ∙ ap (λ x. sends_own x (own_number before)) (sym (ap shown_number are) ∙ shown)
    ∙ ap (λ x. sends_own (Some number) x) known ∙ (bytes_eq-Decides number number).1 refl in
    own_said setting recovers past turns state last same h

-- ---- each other board, and each other hint

left_hint : (own : Bool) (hint : Option Hint) → (hint ≢ Some OtherBoard) ⊎ (own ≡ false) → hint ≡ but_other own hint
left_hint true None h = refl
left_hint true (Some TurnedRound) h = refl
left_hint true (Some OtherBoard) (inl h) = absurd (h refl)
left_hint true (Some OtherBoard) (inr h) = absurd (let never : true ≡ false = h in cc)
left_hint false hint h = refl

pub nothing_else_is_left_out : NothingElseIsLeftOut
nothing_else_is_left_out setting recovers past turns now state is h =
    (state, is, ap (λ (hint : Option Hint). record state { hint = hint }) (left_hint (is_own (told turns)) state.hint h))
