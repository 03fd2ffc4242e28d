-- The last line of an answer is the only one like it.
use Rattle.std.proofs.Common.{◌≡◌, ◌<◌, ◌≤◌, ◌==◌, ◌⊎◌, not, ℕ, Bool, true, false, List, [], ◌∷◌, ◌++◌, Option, Some, None, refl, sym, ap, ◌∙◌, subst, inl, inr, arith}
use Rattle.std.specs.Prelude.{codes}
use Rattle.std.proofs.lemmas.Bool.{and_parts}
use Rattle.std.proofs.lemmas.List.{append_assoc, append-nil}
use Rattle.board_cable.specs.declared.line.Request.{Request}
use Rattle.board_cable.specs.declared.whose.Handling.{Handling}
use Rattle.board_standing.specs.declared.state.State.{State}
use Rattle.answer_lines.specs.declared.said.Said.{Said}
use Rattle.answer_lines.specs.Answers.{answer_text, clock_line, clock_words, done_line, done_words, handling_line, handling_words, number_line, number_words, request_line, request_words, room_line, state_line, state_words}
use Rattle.answer_lines.specs.Laws.{EndsALine, HandlingFits, IsSaid, NumberFits, StateFits, TimeFits, lacks}
use Rattle.answer_lines.proofs.CutLemmas.{not_first}
use Rattle.answer_lines.proofs.WordLemmas.{behind, first_of, request_lacks_feed, state_lacks_feed}
use Rattle.answer_lines.proofs.AnswerLemmas.{clock_lacks_feed, clock_place, done_lacks_feed, from_clock, from_done, from_number, from_request, from_room, from_state, handling_lacks_feed, handling_place, in_parts, no_place, number_place, place, request_place, state_place}

-- This stands behind some whole lines of a text, or is all of it.
abbrev EndsWith : List ℕ → List ℕ → Type 0
EndsWith rest text = (text ≡ rest) ⊎ ((front : List ℕ) × (text ≡ front ++ 10 ∷ rest))

behind_line : (words text front rest : List ℕ) → lacks 10 words ≡ true → words ++ 10 ∷ text ≡ front ++ 10 ∷ rest → EndsWith rest text
behind_line [] text [] rest h e = inl (ap behind e)
behind_line [] text (y ∷ front) rest h e = inr (front, ap behind e)
behind_line (w ∷ words) text [] rest h e = absurd (not_first 10 w words h (sym (ap first_of e)))
behind_line (w ∷ words) text (y ∷ front) rest h e =
    let both = and_parts (not (w == 10)) (lacks 10 words) h in
    behind_line words text front rest both.1 (ap behind e)

skip_line : (words text rest : List ℕ) (n : ℕ) → lacks 10 words ≡ true → place ((words ++ 10 ∷ []) ++ text) ≡ n → n < 6 → 6 ≤ place rest
    → EndsWith rest ((words ++ 10 ∷ []) ++ text) → EndsWith rest text
skip_line words text rest n h is less high (inl e) = absurd (no_place n 6 ((words ++ 10 ∷ []) ++ text) rest is less high e)
skip_line words text rest n h is less high (inr found) =
    behind_line words text found.0 rest h (sym (append_assoc words (10 ∷ []) text) ∙ found.1)

skip_handling : (handling : Option Handling) (text rest : List ℕ) → HandlingFits handling → 6 ≤ place rest
    → EndsWith rest (handling_line handling ++ text) → EndsWith rest text
skip_handling None text rest fits high ends = ends
skip_handling (Some h) text rest fits high ends =
    skip_line (handling_words h) text rest 0 (handling_lacks_feed h fits) (handling_place h text) (omega arith) high ends

skip_number : (number : Option (List ℕ)) (text rest : List ℕ) → NumberFits number → 6 ≤ place rest → EndsWith rest (number_line number ++ text)
    → EndsWith rest text
skip_number None text rest fits high ends = ends
skip_number (Some number) text rest fits high ends =
    skip_line (number_words number) text rest 1 fits (number_place number text) (omega arith) high ends

skip_request : (request : Option Request) (text rest : List ℕ) → 6 ≤ place rest → EndsWith rest (request_line request ++ text) → EndsWith rest text
skip_request None text rest high ends = ends
skip_request (Some r) text rest high ends =
    skip_line (request_words r) text rest 2 (request_lacks_feed r) (request_place r text) (omega arith) high ends

skip_room : (is_whole : Bool) (text rest : List ℕ) → 6 ≤ place rest → EndsWith rest (room_line is_whole ++ text) → EndsWith rest text
skip_room true text rest high ends = ends
skip_room false text rest high ends = skip_line (codes "full") text rest 3 refl refl (omega arith) high ends

skip_clock : (stopped : Option Bool) (text rest : List ℕ) → 6 ≤ place rest → EndsWith rest (clock_line stopped ++ text) → EndsWith rest text
skip_clock None text rest high ends = ends
skip_clock (Some s) text rest high ends =
    skip_line (clock_words s) text rest 4 (clock_lacks_feed s) (clock_place s text) (omega arith) high ends

skip_state : (state : Option State) (text rest : List ℕ) → StateFits state → 6 ≤ place rest → EndsWith rest (state_line state ++ text)
    → EndsWith rest text
skip_state None text rest fits high ends = ends
skip_state (Some s) text rest fits high ends =
    skip_line (state_words s) text rest 5 (state_lacks_feed s fits) (state_place s text) (omega arith) high ends

abbrev is_empty : List ℕ → Bool
is_empty [] = true
is_empty (x ∷ xs) = false

no_line : (front rest : List ℕ) → [] ≡ front ++ 10 ∷ rest → ⊥
no_line [] rest e = let never : true ≡ false = ap is_empty e in cc
no_line (y ∷ front) rest e = let never : true ≡ false = ap is_empty e in cc

nothing : (rest : List ℕ) → 6 ≤ place rest → EndsWith rest [] → ⊥
nothing rest high (inl e) = no_place 0 6 [] rest refl (omega arith) high e
nothing rest high (inr found) = no_line found.0 rest found.1

is_last : (due : Option ℕ) (rest : List ℕ) → TimeFits due → 6 ≤ place rest → EndsWith rest (done_line due) → rest ≡ done_line due
is_last due rest fits high (inl e) = sym e
is_last due rest fits high (inr found) =
    absurd (nothing rest high (behind_line (done_words due) [] found.0 rest (done_lacks_feed due fits) found.1))

ends_with : (text front rest : List ℕ) → EndsALine front → text ≡ front ++ rest → EndsWith rest text
ends_with text front rest (inl empty) e = inl (e ∙ ap (λ t. t ++ rest) empty)
ends_with text front rest (inr line) e = inr (line.0, e ∙ ap (λ t. t ++ rest) line.1 ∙ append_assoc line.0 (10 ∷ []) rest)

pub done_last : (said : Said) (front more : List ℕ) → IsSaid said → EndsALine front → answer_text said ≡ front ++ (codes "done" ++ more)
    → codes "done" ++ more ≡ done_line said.due
done_last said front more fits line e =
    let rest : List ℕ = codes "done" ++ more in
    let high : 6 ≤ place rest = omega arith in
    let E : List ℕ → Type 0 = λ t. EndsWith rest t in
    let all = subst E (sym (append-nil (answer_text said)) ∙ in_parts said []) (ends_with (answer_text said) front rest line e) in
    let h = skip_handling said.handling (from_number said []) rest fits.0 high all in
    let n = skip_number said.number (from_request said []) rest fits.1 high h in
    let r = skip_request said.request (from_room said []) rest high n in
    let w = skip_room said.is_whole (from_clock said []) rest high r in
    let c = skip_clock said.is_clock_stopped (from_state said []) rest high w in
    let s = skip_state said.state (from_done said []) rest fits.2 high c in
    is_last said.due rest fits.3 high (subst E (append-nil (done_line said.due)) s)
