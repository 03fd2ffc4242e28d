-- Which alarms are open.
use Rattle.std.proofs.Common.{◌≡◌, ◌≢◌, ◌⊎◌, ◌&&◌, not, ℕ, inl, inr, Bool, true, false, List, [], ◌∷◌, ◌++◌, Some, None, refl, sym, ap, ◌∙◌, append_assoc, append-nil}
use Rattle.std.specs.Prelude.{if◌then◌else◌}
use Rattle.std.proofs.lemmas.Bool.{cases_Bool, true≢false}
use Rattle.board_doubts.specs.declared.heard.Event.{Event}
use Rattle.board_doubts.specs.declared.heard.Heard.{Heard}
use Rattle.board_doubts.specs.declared.heard.Heard.TheVariants.{Shows, Moves, Corrects, Agrees, Ends, Reopens, PutsBack, PutsIn, Away, Clock, Plays, Replaces, Presses, Counts, Looked}
use Rattle.board_doubts.specs.Clock.{ago, is_after, is_stopped, tried, tries_by, tries_of}
use Rattle.board_doubts.specs.Doubts.{doubt_by}
use Rattle.board_doubts.specs.Unplayed.{unplayed_by, unplayed_of}
use Rattle.board_alarms.specs.declared.look.Look.{Look}
use Rattle.board_alarms.specs.declared.look.Told.{Told}
use Rattle.board_alarms.specs.declared.look.Told.TheVariants.{Hears, Suspects}
use Rattle.board_alarms.specs.Looking.{AddedRaisesNone, Has, IsLook, IsOpenExactly, IsRaised, LookedEndsAll, ResultAsksForLast, StaysOpen}
use Rattle.board_alarms.specs.Looks.{alarms, doubtful, ends, heard, is_looked, listed, raised, stopped, unplayed}

in_either : (look : Look) (one other : List Look) → Has look (one ++ other) → Has look one ⊎ Has look other
in_either look [] other h = inr h
in_either look (first ∷ one) other (inl same) = inl (inl same)
in_either look (first ∷ one) other (inr h) = elim (in_either look one other h) [ inl g ↦ inl (inr g) | inr g ↦ inr g ]

pub in_first : (look : Look) (one other : List Look) → Has look one → Has look (one ++ other)
in_first look [] other h = absurd h
in_first look (first ∷ one) other (inl same) = inl same
in_first look (first ∷ one) other (inr h) = inr (in_first look one other h)

pub in_second : (look : Look) (one other : List Look) → Has look other → Has look (one ++ other)
in_second look [] other h = h
in_second look (first ∷ one) other h = inr (in_second look one other h)

-- Who has looked ends all alarms, and nobody else.
looked : (what : Heard) → is_looked what ≡ true → what ≡ Looked
looked Looked h = refl
looked _ h = absurd (true≢false (sym h))

not_ended : (told : Told) → (IsLook told → ⊥) → ends told ≡ false
not_ended (Hears event plies) never = elim (cases_Bool (is_looked event.what)) [ inl is ↦ absurd (never (looked event.what is)) | inr not ↦ not ]
not_ended (Suspects n) never = refl

not_look : (told : Told) → ends told ≡ false → IsLook told → ⊥
not_look (Hears event plies) none is = true≢false (sym (ap is_looked is) ∙ none)
not_look (Suspects n) none is = is

still : (ended : Bool) (look : Look) (before : List Look) → Has look (if ended then [] else before) → (ended ≡ false) × Has look before
still true look before h = absurd h
still false look before h = (refl, h)

stays : (ended : Bool) (look : Look) (before : List Look) → ended ≡ false → Has look before → Has look (if ended then [] else before)
stays true look before none h = absurd cc
stays false look before none h = h

raised_by : (look : Look) (told : Told) (past : List Told) → (Has look (alarms past) → IsRaised look past)
    → Has look (if ends told then [] else alarms past) ⊎ Has look (raised told past) → IsRaised look (told ∷ past)
raised_by look told past before (inl h) = let g = still (ends told) look (alarms past) h in inr (not_look told g.0, before g.1)
raised_by look told past before (inr h) = inl h

is_raised : (look : Look) (past : List Told) → Has look (alarms past) → IsRaised look past
is_raised look [] h = h
is_raised look (told ∷ past) h =
    raised_by look told past (is_raised look past) (in_either look (if ends told then [] else alarms past) (raised told past) h)

pub is_open : (look : Look) (past : List Told) → IsRaised look past → Has look (alarms past)
is_open look [] h = h
is_open look (told ∷ past) (inl h) = in_second look (if ends told then [] else alarms past) (raised told past) h
is_open look (told ∷ past) (inr h) =
    in_first look (if ends told then [] else alarms past) (raised told past) (stays (ends told) look (alarms past) (not_ended told h.0) (is_open look past h.1))

pub open_exactly : IsOpenExactly
open_exactly look past = (is_raised look past, is_open look past)

pub stays_open : StaysOpen
stays_open past [] nobody = ([], sym (append-nil (alarms past)))
stays_open past (told ∷ later) nobody =
    let before = stays_open past later nobody.1 in (
      before.0 ++ raised told (later ++ past),
      ap (λ b. (if b then [] else alarms (later ++ past)) ++ raised told (later ++ past)) (not_ended told nobody.0)
          ∙ ap (λ (looks : List Look). looks ++ raised told (later ++ past)) before.1 ∙ append_assoc (alarms past) before.0 (raised told (later ++ past)),
    )

-- When somebody looks, nothing is raised.
none_raised : (at plies : ℕ) (added : Bool) (past : List Told) → raised (Hears (record { at = at; is_added = added; what = Looked }) plies) past ≡ []
none_raised at plies true past = refl
none_raised at plies false past = refl

pub looked_ends_all : LookedEndsAll
looked_ends_all (Suspects n) past h = absurd h
looked_ends_all (Hears event plies) past h =
    ap (λ b. (if b then [] else alarms past) ++ raised (Hears event plies) past) (ap is_looked h)
    ∙ ap (λ what. raised (Hears (record { at = event.at; is_added = event.is_added; what = what }) plies) past) h ∙ none_raised event.at plies event.is_added past

none_tried : (what : Heard) (event : Event) (past : List Event) → event.is_added ≡ true → tries_by what event past ≡ None
none_tried (Moves repeats) event past h =
    ap (λ b. if not b && (is_stopped past && is_after event.at past)
    then Some (record { moves = tried (event ∷ past); plies = ago (event ∷ past) }) else None) h
none_tried Looked event past h = refl
none_tried (Shows seen) event past h = refl
none_tried (Corrects repeats) event past h = refl
none_tried Agrees event past h = refl
none_tried Ends event past h = refl
none_tried Reopens event past h = refl
none_tried PutsIn event past h = refl
none_tried PutsBack event past h = refl
none_tried (Away gap) event past h = refl
none_tried (Clock runs) event past h = refl
none_tried (Plays ply) event past h = refl
none_tried (Replaces ply) event past h = refl
none_tried Presses event past h = refl
none_tried (Counts black) event past h = refl

none_unplayed : (what : Heard) (past : List Event) → what ≢ Ends → unplayed_by what past ≡ None
none_unplayed Ends past h = absurd (h refl)
none_unplayed (Moves repeats) past h = refl
none_unplayed Looked past h = refl
none_unplayed (Shows seen) past h = refl
none_unplayed (Corrects repeats) past h = refl
none_unplayed Agrees past h = refl
none_unplayed Reopens past h = refl
none_unplayed PutsIn past h = refl
none_unplayed PutsBack past h = refl
none_unplayed (Away gap) past h = refl
none_unplayed (Clock runs) past h = refl
none_unplayed (Plays ply) past h = refl
none_unplayed (Replaces ply) past h = refl
none_unplayed Presses past h = refl
none_unplayed (Counts black) past h = refl

-- What is added raises no doubt, and no alarm about the clock.
added_raises : (event : Event) (plies : ℕ) (past : List Told) → event.is_added ≡ true
    → raised (Hears event plies) past ≡ listed (unplayed plies (unplayed_of event (heard past)))
added_raises event plies past h =
    let last : List Look = listed (unplayed plies (unplayed_of event (heard past))) in
    ap (λ b. listed (doubtful plies (if b then None else doubt_by event.what event.at (heard past))) ++ (listed (stopped plies (tries_of event (heard past))) ++ last)) h
    ∙ ap (λ tried. listed (stopped plies tried) ++ last) (none_tried event.what event (heard past) h)

pub added_raises_none : AddedRaisesNone
added_raises_none event plies past h other =
    added_raises event plies past h ∙ ap (λ tried. listed (unplayed plies tried)) (none_unplayed event.what (heard past) other)

pub result_asks_for_last : ResultAsksForLast
result_asks_for_last event plies past h ends =
    added_raises event plies past h ∙ ap (λ what. listed (unplayed plies (unplayed_by what (heard past)))) ends
