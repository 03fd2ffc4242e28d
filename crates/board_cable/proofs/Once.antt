-- One history has one list of turns.
use Rattle.std.proofs.Common.{◌≡◌, ℕ, nat_lt, Bool, true, false, List, [], ◌∷◌, ◌++◌, refl, sym, ap, ap₂, subst, ◌∙◌}
use Rattle.std.proofs.lemmas.List.{append_cancel_left}
use Rattle.dgt_frame.proofs.OnceLemmas.{shows_once}
use Rattle.board_cable.specs.declared.line.Event.{Event}
use Rattle.board_cable.specs.declared.line.Happening.TheVariants.{Comes}
use Rattle.board_cable.specs.Asking.{StandsFor as AskingStandsFor}
use Rattle.board_cable.specs.declared.cable.Cable.{Cable}
use Rattle.board_cable.specs.Cable.{StandsFor}
use Rattle.board_cable.specs.Frames.{TellsRead, with_shown}
use Rattle.board_cable.specs.Keeping.{HasBack}
use Rattle.board_cable.specs.Laws.{IsToldOnce}
use Rattle.board_cable.specs.Moments.{Moment, is_heard, stream}
use Rattle.board_cable.specs.Turns.{Tells, TellsAs, Told, Turn, told}

abbrev comes : ℕ → ℕ → Event
comes at last = record { at = at; what = Comes (nat_lt 0 last) }

read_once : (at : ℕ) (stream bytes : List ℕ) (before a b : List Event) → TellsRead at stream bytes before a → TellsRead at stream bytes before b → a ≡ b
read_once at stream bytes before a b g h =
    let old = shows_once 0 stream g.0 h.0 g.2 h.2 g.4 h.4 in
    let all = shows_once 0 (stream ++ bytes) (g.0 ++ g.1) (h.0 ++ h.1) g.3 h.3 g.5 h.5 in
    let new : g.1 ≡ h.1 = append_cancel_left g.0 g.1 h.1 (all.0 ∙ ap (λ x. x ++ h.1) (sym old.0)) in
    g.6
    ∙ ap (λ n. comes at n ∷ with_shown at (stream ++ bytes) g.1 before) all.1
    ∙ ap (λ shown. comes at h.3 ∷ with_shown at (stream ++ bytes) shown before) new
    ∙ sym h.6

tells_as_once : (heard : Bool) (m : Moment) (stream : List ℕ) (before a b : List Event) → TellsAs heard m stream before a → TellsAs heard m stream before b → a ≡ b
tells_as_once true m stream before a b g h = read_once m.at stream m.bytes before a b g h
tells_as_once false m stream before a b g h = g ∙ sym h

pub tells_once : (m : Moment) (stream : List ℕ) (before a b : List Event) → Tells m stream before a → Tells m stream before b → a ≡ b
tells_once m stream before a b g h = tells_as_once (is_heard m.what) m stream before a b g h

abbrev turn_of : Moment → List Event → Turn
turn_of moment now = record { moment = moment; now = now }

pub turns_once : IsToldOnce
turns_once [] [] [] g h = refl
turns_once [] [] (u ∷ us) g h = absurd h
turns_once [] (t ∷ ts) others g h = absurd g
turns_once (m ∷ past) [] others g h = absurd g
turns_once (m ∷ past) (t ∷ ts) [] g h = absurd h
turns_once (m ∷ past) (t ∷ ts) (u ∷ us) g h =
    let before : ts ≡ us = turns_once past ts us g.0 h.0 in
    let T : List Turn → Type 0 = λ turns. Tells m (stream past) (told turns) t.now in
    let now : t.now ≡ u.now = tells_as_once (is_heard m.what) m (stream past) (told us) t.now u.now (subst T before g.2) h.2 in
    let first : t ≡ u = ap₂ turn_of (g.1 ∙ sym h.1) now in
    ap₂ (λ turn turns. turn ∷ turns) first before

-- So what a cable stands for is so after the turns of its history.
pub asking_after : (cable : Cable) (past : List Moment) (turns : List Turn) → StandsFor cable past → Told past turns → AskingStandsFor cable.asking (told turns)
asking_after cable past turns stands h = subst (λ some. AskingStandsFor cable.asking (told some)) (turns_once past stands.turns turns stands.happened h) stands.asking

pub back_after : (cable : Cable) (past : List Moment) (turns : List Turn) → StandsFor cable past → Told past turns → HasBack cable.back turns
back_after cable past turns stands h = subst (λ some. HasBack cable.back some) (turns_once past stands.turns turns stands.happened h) stands.back
