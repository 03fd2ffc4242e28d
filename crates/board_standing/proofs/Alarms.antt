-- When somebody is called, and when a state is reported.
use Rattle.std.proofs.Common.{◌≡◌, ◌≢◌, ◌⊎◌, inl, inr, Bool, true, false, Option, Some, None, refl, sym, ap}
use Rattle.std.specs.Prelude.{is_some}
use Rattle.std.proofs.lemmas.Bool.{or_cases, or_left, or_right, true≢false}
use Rattle.std.proofs.lemmas.Option.{none-some}
use Rattle.board_standing.specs.declared.state.Hint.{Hint}
use Rattle.board_standing.specs.declared.state.Kind.{Kind}
use Rattle.board_standing.specs.declared.state.Kind.TheVariants.{Wrong, NoStart, Silent, Unplugged}
use Rattle.board_standing.specs.Alarms.{AlarmsExactly, LastingIsNoNews, OtherIsNews}
use Rattle.board_standing.specs.States.{is_alarming}

some_if : (hint : Option Hint) → is_some hint ≡ true → hint ≢ None
some_if None h is = true≢false (sym h)
some_if (Some hint) h is = none-some hint (sym is)

some_then : (hint : Option Hint) → hint ≢ None → is_some hint ≡ true
some_then None h = absurd (h refl)
some_then (Some hint) h = refl

abbrev Alarming : Kind → Type 0
Alarming kind = (kind ≡ Wrong) ⊎ ((kind ≡ NoStart) ⊎ ((kind ≡ Silent) ⊎ (kind ≡ Unplugged)))

alarming_if : (kind : Kind) → is_alarming kind ≡ true → Alarming kind
alarming_if Wrong h = inl refl
alarming_if NoStart h = inr (inl refl)
alarming_if Silent h = inr (inr (inl refl))
alarming_if Unplugged h = inr (inr (inr refl))
alarming_if other h = absurd (true≢false (sym h))

alarming_then : (kind : Kind) → Alarming kind → is_alarming kind ≡ true
alarming_then kind (inl is) = ap is_alarming is
alarming_then kind (inr (inl is)) = ap is_alarming is
alarming_then kind (inr (inr (inl is))) = ap is_alarming is
alarming_then kind (inr (inr (inr is))) = ap is_alarming is

pub alarms_exactly : AlarmsExactly
alarms_exactly state =
    let alarming : Bool = is_alarming state.kind in
    let hinted : Bool = is_some state.hint in (
      λ h. elim (or_cases alarming hinted h) [ inl kind ↦ inr (alarming_if state.kind kind) | inr hint ↦ inl (some_if state.hint hint) ],
      λ h. elim h [ inl hint ↦ or_right alarming hinted (some_then state.hint hint) | inr kind ↦ or_left alarming hinted (alarming_then state.kind kind) ],
    )

pub other_is_news : OtherIsNews
other_is_news before state (inl kind) = inl kind
other_is_news before state (inr (inl hint)) = inr (inl hint)
other_is_news before state (inr (inr squares)) = inr (inr (inl squares))

pub lasting_is_no_news : LastingIsNoNews
lasting_is_no_news before state kind hint squares since (inl other) = other kind
lasting_is_no_news before state kind hint squares since (inr (inl other)) = other hint
lasting_is_no_news before state kind hint squares since (inr (inr (inl wrong))) = wrong.1 (squares wrong.0)
lasting_is_no_news before state kind hint squares since (inr (inr (inr ended))) = ended.1 (since ended.0)
