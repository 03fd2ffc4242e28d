-- Lines one behind the other.
use Rattle.std.proofs.Common.{◌≡◌, ◌<◌, ◌≤◌, ◌==◌, ℕ, Bool, true, false, List, [], ◌∷◌, ◌++◌, Option, Some, None, refl, sym, ap, ◌∙◌, arith}
use Rattle.std.specs.Prelude.{codes, if◌then◌else◌}
use Rattle.std.specs.Str.{bytes_eq}
use Rattle.std.proofs.lemmas.List.{append_assoc}
use Rattle.board_cable.specs.declared.line.Request.{Request}
use Rattle.board_cable.specs.declared.whose.Handling.{Handling}
use Rattle.board_cable.specs.declared.whose.Handling.TheVariants.{Keep, Hold, Other}
use Rattle.board_standing.specs.declared.state.State.{State}
use Rattle.answer_lines.specs.declared.said.Said.{Said}
use Rattle.answer_lines.specs.Answers.{answer_text, clock_line, clock_words, done_line, done_words, handling_line, handling_words, number_line, number_words, request_line, request_words, room_line, state_line, state_words}
use Rattle.answer_lines.specs.Laws.{HandlingFits, IsSaid, NumberFits, StateFits, TimeFits, lacks}
use Rattle.answer_lines.proofs.CutLemmas.{cut_once}
use Rattle.answer_lines.proofs.WordLemmas.{behind, request_lacks_feed, same_handling, same_request, same_state, same_time, state_lacks_feed, time_lacks_feed}

-- the place of a line in an answer, by its first letter
abbrev pub place_by : ℕ → ℕ
place_by c = if c == 100 then 6 else (if c == 115 then 5 else (if c == 99 then 4 else (if c == 102 then 3 else (if c == 97 then 2 else (if c == 110 then 1 else 0)))))

abbrev pub place : List ℕ → ℕ
place [] = 0
place (c ∷ text) = place_by c

pub no_place : (m n : ℕ) (a b : List ℕ) → place a ≡ m → m < n → n ≤ place b → a ≡ b → ⊥
no_place m n a b is less high e = let same = ap place e in omega (arith, is, less, high, same)

-- Lines without a line feed in them are cut in one way.
lines_cut : (v w a b : List ℕ) → lacks 10 v ≡ true → lacks 10 w ≡ true → (v ++ 10 ∷ []) ++ a ≡ (w ++ 10 ∷ []) ++ b → (v ≡ w) × (a ≡ b)
lines_cut v w a b h k e = cut_once 10 v a w b h k (sym (append_assoc v (10 ∷ []) a) ∙ e ∙ append_assoc w (10 ∷ []) b)

pub handling_lacks_feed : (handling : Handling) → HandlingFits (Some handling) → lacks 10 (handling_words handling) ≡ true
handling_lacks_feed Keep fits = refl
handling_lacks_feed Hold fits = refl
handling_lacks_feed (Other number) fits = fits

pub handling_place : (handling : Handling) (text : List ℕ) → place (handling_line (Some handling) ++ text) ≡ 0
handling_place Keep text = refl
handling_place Hold text = refl
handling_place (Other number) text = refl

handling_once : (one other : Option Handling) (a b : List ℕ) → HandlingFits one → HandlingFits other → 1 ≤ place a → 1 ≤ place b
    → handling_line one ++ a ≡ handling_line other ++ b → (one ≡ other) × (a ≡ b)
handling_once None None a b f g p q e = (refl, e)
handling_once None (Some k) a b f g p q e =
    absurd (no_place 0 1 (handling_line (Some k) ++ b) a (handling_place k b) (omega arith) p (sym e))
handling_once (Some h) None a b f g p q e =
    absurd (no_place 0 1 (handling_line (Some h) ++ a) b (handling_place h a) (omega arith) q e)
handling_once (Some h) (Some k) a b f g p q e =
    let cut = lines_cut (handling_words h) (handling_words k) a b (handling_lacks_feed h f) (handling_lacks_feed k g) e in
    (ap (λ x. Some x) (same_handling h k cut.0), cut.1)

pub number_place : (number text : List ℕ) → place (number_line (Some number) ++ text) ≡ 1
number_place number text = refl

number_once : (one other : Option (List ℕ)) (a b : List ℕ) → NumberFits one → NumberFits other → 2 ≤ place a → 2 ≤ place b
    → number_line one ++ a ≡ number_line other ++ b → (one ≡ other) × (a ≡ b)
number_once None None a b f g p q e = (refl, e)
number_once None (Some k) a b f g p q e = absurd (no_place 1 2 (number_line (Some k) ++ b) a (number_place k b) (omega arith) p (sym e))
number_once (Some h) None a b f g p q e = absurd (no_place 1 2 (number_line (Some h) ++ a) b (number_place h a) (omega arith) q e)
number_once (Some h) (Some k) a b f g p q e =
    let cut = lines_cut (number_words h) (number_words k) a b f g e in
    (ap (λ x. Some x) (ap (λ t. behind (behind (behind (behind (behind (behind (behind t))))))) cut.0), cut.1)

pub request_place : (request : Request) (text : List ℕ) → place (request_line (Some request) ++ text) ≡ 2
request_place request text = refl

request_once : (one other : Option Request) (a b : List ℕ) → 3 ≤ place a → 3 ≤ place b → request_line one ++ a ≡ request_line other ++ b
    → (one ≡ other) × (a ≡ b)
request_once None None a b p q e = (refl, e)
request_once None (Some k) a b p q e = absurd (no_place 2 3 (request_line (Some k) ++ b) a (request_place k b) (omega arith) p (sym e))
request_once (Some h) None a b p q e = absurd (no_place 2 3 (request_line (Some h) ++ a) b (request_place h a) (omega arith) q e)
request_once (Some h) (Some k) a b p q e =
    let cut = lines_cut (request_words h) (request_words k) a b (request_lacks_feed h) (request_lacks_feed k) e in
    (ap (λ x. Some x) (same_request h k cut.0), cut.1)

room_once : (one other : Bool) (a b : List ℕ) → 4 ≤ place a → 4 ≤ place b → room_line one ++ a ≡ room_line other ++ b → (one ≡ other) × (a ≡ b)
room_once true true a b p q e = (refl, e)
room_once true false a b p q e = absurd (no_place 3 4 (room_line false ++ b) a refl (omega arith) p (sym e))
room_once false true a b p q e = absurd (no_place 3 4 (room_line false ++ a) b refl (omega arith) q e)
room_once false false a b p q e = (refl, ap (λ t. behind (behind (behind (behind (behind t))))) e)

pub clock_lacks_feed : (stopped : Bool) → lacks 10 (clock_words stopped) ≡ true
clock_lacks_feed true = refl
clock_lacks_feed false = refl

pub clock_place : (stopped : Bool) (text : List ℕ) → place (clock_line (Some stopped) ++ text) ≡ 4
clock_place true text = refl
clock_place false text = refl

abbrev clock_read : List ℕ → Bool
clock_read text = bytes_eq text (codes "clock stopped")

clock_back : (stopped : Bool) → clock_read (clock_words stopped) ≡ stopped
clock_back true = refl
clock_back false = refl

clock_once : (one other : Option Bool) (a b : List ℕ) → 5 ≤ place a → 5 ≤ place b → clock_line one ++ a ≡ clock_line other ++ b
    → (one ≡ other) × (a ≡ b)
clock_once None None a b p q e = (refl, e)
clock_once None (Some k) a b p q e = absurd (no_place 4 5 (clock_line (Some k) ++ b) a (clock_place k b) (omega arith) p (sym e))
clock_once (Some h) None a b p q e = absurd (no_place 4 5 (clock_line (Some h) ++ a) b (clock_place h a) (omega arith) q e)
clock_once (Some h) (Some k) a b p q e =
    let cut = lines_cut (clock_words h) (clock_words k) a b (clock_lacks_feed h) (clock_lacks_feed k) e in
    (ap (λ (x : Bool). Some x) (sym (clock_back h) ∙ ap clock_read cut.0 ∙ clock_back k), cut.1)

pub state_place : (state : State) (text : List ℕ) → place (state_line (Some state) ++ text) ≡ 5
state_place state text = refl

state_once : (one other : Option State) (a b : List ℕ) → StateFits one → StateFits other → 6 ≤ place a → 6 ≤ place b
    → state_line one ++ a ≡ state_line other ++ b → (one ≡ other) × (a ≡ b)
state_once None None a b f g p q e = (refl, e)
state_once None (Some k) a b f g p q e = absurd (no_place 5 6 (state_line (Some k) ++ b) a (state_place k b) (omega arith) p (sym e))
state_once (Some h) None a b f g p q e = absurd (no_place 5 6 (state_line (Some h) ++ a) b (state_place h a) (omega arith) q e)
state_once (Some h) (Some k) a b f g p q e =
    let cut = lines_cut (state_words h) (state_words k) a b (state_lacks_feed h f) (state_lacks_feed k g) e in
    (ap (λ x. Some x) (same_state h k f g cut.0), cut.1)

pub done_lacks_feed : (due : Option ℕ) → TimeFits due → lacks 10 (done_words due) ≡ true
done_lacks_feed due fits = time_lacks_feed due fits

done_once : (one other : Option ℕ) (a b : List ℕ) → TimeFits one → TimeFits other → done_line one ++ a ≡ done_line other ++ b
    → (one ≡ other) × (a ≡ b)
done_once one other a b f g e =
    let cut = lines_cut (done_words one) (done_words other) a b (done_lacks_feed one f) (done_lacks_feed other g) e in
    (same_time one other f g (ap (λ t. behind (behind (behind (behind (behind t))))) cut.0), cut.1)

-- what stands behind each line
abbrev pub from_done : Said → List ℕ → List ℕ
from_done said more = done_line said.due ++ more

abbrev pub from_state : Said → List ℕ → List ℕ
from_state said more = state_line said.state ++ from_done said more

abbrev pub from_clock : Said → List ℕ → List ℕ
from_clock said more = clock_line said.is_clock_stopped ++ from_state said more

abbrev pub from_room : Said → List ℕ → List ℕ
from_room said more = room_line said.is_whole ++ from_clock said more

abbrev pub from_request : Said → List ℕ → List ℕ
from_request said more = request_line said.request ++ from_room said more

abbrev pub from_number : Said → List ℕ → List ℕ
from_number said more = number_line said.number ++ from_request said more

state_high : (state : Option State) (text : List ℕ) → 6 ≤ place text → 5 ≤ place (state_line state ++ text)
state_high None text h = omega (arith, h)
state_high (Some state) text h = omega arith

clock_high : (stopped : Option Bool) (text : List ℕ) → 5 ≤ place text → 4 ≤ place (clock_line stopped ++ text)
clock_high None text h = omega (arith, h)
clock_high (Some true) text h = omega arith
clock_high (Some false) text h = omega arith

room_high : (is_whole : Bool) (text : List ℕ) → 4 ≤ place text → 3 ≤ place (room_line is_whole ++ text)
room_high true text h = omega (arith, h)
room_high false text h = omega arith

request_high : (request : Option Request) (text : List ℕ) → 3 ≤ place text → 2 ≤ place (request_line request ++ text)
request_high None text h = omega (arith, h)
request_high (Some request) text h = omega arith

number_high : (number : Option (List ℕ)) (text : List ℕ) → 2 ≤ place text → 1 ≤ place (number_line number ++ text)
number_high None text h = omega (arith, h)
number_high (Some number) text h = omega arith

done_high : (said : Said) (more : List ℕ) → 6 ≤ place (from_done said more)
done_high said more = omega arith

from_state_high : (said : Said) (more : List ℕ) → 5 ≤ place (from_state said more)
from_state_high said more = state_high said.state (from_done said more) (done_high said more)

from_clock_high : (said : Said) (more : List ℕ) → 4 ≤ place (from_clock said more)
from_clock_high said more = clock_high said.is_clock_stopped (from_state said more) (from_state_high said more)

from_room_high : (said : Said) (more : List ℕ) → 3 ≤ place (from_room said more)
from_room_high said more = room_high said.is_whole (from_clock said more) (from_clock_high said more)

from_request_high : (said : Said) (more : List ℕ) → 2 ≤ place (from_request said more)
from_request_high said more = request_high said.request (from_room said more) (from_room_high said more)

from_number_high : (said : Said) (more : List ℕ) → 1 ≤ place (from_number said more)
from_number_high said more = number_high said.number (from_request said more) (from_request_high said more)

pub in_parts : (said : Said) (more : List ℕ) → answer_text said ++ more ≡ handling_line said.handling ++ from_number said more
in_parts said more =
    let h = handling_line said.handling in
    let n = number_line said.number in
    let r = request_line said.request in
    let w = room_line said.is_whole in
    let c = clock_line said.is_clock_stopped in
    let s = state_line said.state in
    append_assoc (h ++ n ++ r ++ w ++ c ++ s) (done_line said.due) more
    ∙ append_assoc (h ++ n ++ r ++ w ++ c) s (from_done said more)
    ∙ append_assoc (h ++ n ++ r ++ w) c (from_state said more)
    ∙ append_assoc (h ++ n ++ r) w (from_clock said more)
    ∙ append_assoc (h ++ n) r (from_room said more)
    ∙ append_assoc h n (from_request said more)

said_same : (a b : Said) → a.handling ≡ b.handling → a.number ≡ b.number → a.request ≡ b.request → a.is_whole ≡ b.is_whole → a.is_clock_stopped ≡ b.is_clock_stopped
    → a.state ≡ b.state → a.due ≡ b.due → a ≡ b
said_same a b h n r w c s d =
    ap (λ x. record a { handling = x }) h ∙ ap (λ x. record a { handling = b.handling; number = x }) n
    ∙ ap (λ x. record a { handling = b.handling; number = b.number; request = x }) r
    ∙ ap (λ x. record a { handling = b.handling; number = b.number; request = b.request; is_whole = x }) w
    ∙ ap (λ x. record b { is_clock_stopped = x; state = a.state; due = a.due }) c
    ∙ ap (λ x. record b { state = x; due = a.due }) s
    ∙ ap (λ x. record b { due = x }) d

-- Answers are read in one way.
pub said_once : (one other : Said) (more rest : List ℕ) → IsSaid one → IsSaid other → answer_text one ++ more ≡ answer_text other ++ rest
    → (one ≡ other) × (more ≡ rest)
said_once one other more rest f g e =
    let h = handling_once one.handling other.handling (from_number one more) (from_number other rest) f.0 g.0
    (from_number_high one more) (from_number_high other rest) (sym (in_parts one more) ∙ e ∙ in_parts other rest) in
    let n = number_once one.number other.number (from_request one more) (from_request other rest) f.1 g.1
    (from_request_high one more) (from_request_high other rest) h.1 in
    let r = request_once one.request other.request (from_room one more) (from_room other rest)
    (from_room_high one more) (from_room_high other rest) n.1 in
    let w = room_once one.is_whole other.is_whole (from_clock one more) (from_clock other rest)
    (from_clock_high one more) (from_clock_high other rest) r.1 in
    let c = clock_once one.is_clock_stopped other.is_clock_stopped (from_state one more) (from_state other rest)
    (from_state_high one more) (from_state_high other rest) w.1 in
    let s = state_once one.state other.state (from_done one more) (from_done other rest) f.2 g.2 (done_high one more) (done_high other rest) c.1 in
    let d = done_once one.due other.due more rest f.3 g.3 s.1 in
    (said_same one other h.0 n.0 r.0 w.0 c.0 s.0 d.0, d.1)
