-- The lines of how a game ends are read in one way.
use Rattle.std.proofs.Common.{◌≡◌, ◌<◌, ◌≤◌, ◌^◌, ◌==◌, ◌&&◌, ℕ, Bool, true, false, List, [], ◌∷◌, ◌++◌, Option, Some, None, decimal, refl, sym, ap, subst, ◌∙◌, arith}
use Rattle.std.specs.Prelude.{codes, if◌then◌else◌}
use Rattle.std.specs.Str.{bytes_eq}
use Rattle.std.proofs.lemmas.Fmt.{decimal_injective}
use Rattle.std.proofs.lemmas.List.{append_assoc}
use Rattle.board_cable.specs.declared.line.Request.{Request}
use Rattle.board_cable.specs.declared.whose.Handling.{Handling}
use Rattle.board_cable.specs.declared.whose.Handling.TheVariants.{Keep, Hold, Other}
use Rattle.board_endings.specs.declared.news.End.{End}
use Rattle.board_standing.specs.declared.state.State.{State}
use Rattle.game_over.specs.declared.happened.Outcome.{Outcome}
use Rattle.game_over.specs.declared.happened.Outcome.TheVariants.{WhiteWins, BlackWins, Draw}
use Rattle.game_over.specs.declared.said.Over.{Over}
use Rattle.game_over.specs.declared.said.Why.{Why}
use Rattle.game_over.specs.declared.said.Why.TheVariants.{Stood, PlaysOn, Corrected, SetUp, Unfinished}
use Rattle.answer_lines.specs.declared.said.Said.{Said}
use Rattle.answer_lines.specs.Answers.{answer_text, clock_line, handling_line, number_line, request_line, room_line, state_line}
use Rattle.answer_lines.specs.Ends.{CountFits, EndFits, EndsAreReadInOneWay, OverFits, begins_line, end_text, goes_on_line, over_line, over_words, reason_word, result_word, sure_word}
use Rattle.answer_lines.specs.Laws.{lacks}
use Rattle.answer_lines.proofs.AnswerLemmas.{from_clock, from_done, from_number, from_request, from_room, from_state, in_parts, said_once}
use Rattle.answer_lines.proofs.CutLemmas.{cut_once, decimal_lacks_blank, decimal_lacks_feed, lacks_append}
use Rattle.answer_lines.proofs.WordLemmas.{behind}

-- ---- words

abbrev reason_read : List ℕ → Why
reason_read text =
    if bytes_eq text (codes "STOOD") then Stood
    else (if bytes_eq text (codes "PLAYS-ON") then PlaysOn
    else (if bytes_eq text (codes "CORRECTED") then Corrected
    else (if bytes_eq text (codes "SET-UP") then SetUp
    else Unfinished)))

reason_back : (why : Why) → reason_read (reason_word why) ≡ why
reason_back Stood = refl
reason_back PlaysOn = refl
reason_back Corrected = refl
reason_back SetUp = refl
reason_back Unfinished = refl

reason_lacks_blank : (why : Why) → lacks 32 (reason_word why) ≡ true
reason_lacks_blank Stood = refl
reason_lacks_blank PlaysOn = refl
reason_lacks_blank Corrected = refl
reason_lacks_blank SetUp = refl
reason_lacks_blank Unfinished = refl

reason_lacks_feed : (why : Why) → lacks 10 (reason_word why) ≡ true
reason_lacks_feed Stood = refl
reason_lacks_feed PlaysOn = refl
reason_lacks_feed Corrected = refl
reason_lacks_feed SetUp = refl
reason_lacks_feed Unfinished = refl

abbrev result_read : List ℕ → Option Outcome
result_read text =
    if bytes_eq text (codes "*") then None
    else (if bytes_eq text (codes "1-0") then Some WhiteWins
    else (if bytes_eq text (codes "0-1") then Some BlackWins
    else Some Draw))

result_back : (outcome : Option Outcome) → result_read (result_word outcome) ≡ outcome
result_back None = refl
result_back (Some WhiteWins) = refl
result_back (Some BlackWins) = refl
result_back (Some Draw) = refl

result_lacks_blank : (outcome : Option Outcome) → lacks 32 (result_word outcome) ≡ true
result_lacks_blank None = refl
result_lacks_blank (Some WhiteWins) = refl
result_lacks_blank (Some BlackWins) = refl
result_lacks_blank (Some Draw) = refl

result_lacks_feed : (outcome : Option Outcome) → lacks 10 (result_word outcome) ≡ true
result_lacks_feed None = refl
result_lacks_feed (Some WhiteWins) = refl
result_lacks_feed (Some BlackWins) = refl
result_lacks_feed (Some Draw) = refl

abbrev sure_read : List ℕ → Bool
sure_read text = bytes_eq text (codes "sure")

sure_back : (is : Bool) → sure_read (sure_word is) ≡ is
sure_back true = refl
sure_back false = refl

sure_lacks_feed : (is : Bool) → lacks 10 (sure_word is) ≡ true
sure_lacks_feed true = refl
sure_lacks_feed false = refl

abbrev over_with : Why → Option Outcome → ℕ → Bool → Over
over_with why result bytes is_sure = record { why = why; result = result; bytes = bytes; is_sure = is_sure }

abbrev behind_five : List ℕ → List ℕ
behind_five text = behind (behind (behind (behind (behind text))))

same_over : (one other : Over) → one.bytes < 2 ^ 64 → other.bytes < 2 ^ 64 → over_words one ≡ over_words other → one ≡ other
same_over one other f g e =
    let last = λ (o : Over). sure_word o.is_sure in
    let third = λ (o : Over). decimal o.bytes ++ 32 ∷ last o in
    let second = λ (o : Over). result_word o.result ++ 32 ∷ third o in
    let w = cut_once 32 (reason_word one.why) (second one) (reason_word other.why) (second other) (reason_lacks_blank one.why) (reason_lacks_blank other.why) (ap behind_five e) in
    let r = cut_once 32 (result_word one.result) (third one) (result_word other.result) (third other) (result_lacks_blank one.result) (result_lacks_blank other.result) w.1 in
    let b = cut_once 32 (decimal one.bytes) (last one) (decimal other.bytes) (last other) (decimal_lacks_blank one.bytes f) (decimal_lacks_blank other.bytes g) r.1 in
    ap (λ (x : Why). over_with x one.result one.bytes one.is_sure) (sym (reason_back one.why) ∙ ap reason_read w.0 ∙ reason_back other.why)
    ∙ ap (λ (x : Option Outcome). over_with other.why x one.bytes one.is_sure) (sym (result_back one.result) ∙ ap result_read r.0 ∙ result_back other.result)
    ∙ ap (λ (n : ℕ). over_with other.why other.result n one.is_sure) (decimal_injective one.bytes other.bytes f g b.0)
    ∙ ap (λ (x : Bool). over_with other.why other.result other.bytes x) (sym (sure_back one.is_sure) ∙ ap sure_read b.1 ∙ sure_back other.is_sure)

over_lacks_feed : (over : Over) → over.bytes < 2 ^ 64 → lacks 10 (over_words over) ≡ true
over_lacks_feed over fits =
    let blank : List ℕ = codes " " in
    let last = lacks_append 10 blank (sure_word over.is_sure) refl (sure_lacks_feed over.is_sure) in
    let third = lacks_append 10 blank (decimal over.bytes ++ (blank ++ sure_word over.is_sure)) refl (lacks_append 10 (decimal over.bytes) (blank ++ sure_word over.is_sure) (decimal_lacks_feed over.bytes fits) last) in
    let rest = result_word over.result ++ (blank ++ (decimal over.bytes ++ (blank ++ sure_word over.is_sure))) in
    let second = lacks_append 10 (result_word over.result) (blank ++ (decimal over.bytes ++ (blank ++ sure_word over.is_sure))) (result_lacks_feed over.result) third in
    lacks_append 10 (codes "over ") (reason_word over.why ++ (blank ++ rest)) refl (lacks_append 10 (reason_word over.why) (blank ++ rest) (reason_lacks_feed over.why) (lacks_append 10 blank rest refl second))

count_lacks_feed : (words : List ℕ) (n : ℕ) → lacks 10 words ≡ true → n < 2 ^ 64 → lacks 10 (words ++ decimal n) ≡ true
count_lacks_feed words n h fits = lacks_append 10 words (decimal n) h (decimal_lacks_feed n fits)

-- ---- lines

-- the place of a line by its first two letters: `over`, `played`, `begins`, and what is said behind them
abbrev pub rank_by : ℕ → ℕ → ℕ
rank_by c d = if c == 111 && d == 118 then 1 else (if c == 112 then 2 else (if c == 98 then 3 else 4))

abbrev pub rank : List ℕ → ℕ
rank [] = 4
rank (c ∷ []) = 4
rank (c ∷ d ∷ text) = rank_by c d

no_rank : (m n : ℕ) (a b : List ℕ) → rank a ≡ m → m < n → n ≤ rank b → a ≡ b → ⊥
no_rank m n a b is less high e = let same = ap rank e in omega (arith, is, less, high, same)

lines_cut : (v w a b : List ℕ) → lacks 10 v ≡ true → lacks 10 w ≡ true → (v ++ 10 ∷ []) ++ a ≡ (w ++ 10 ∷ []) ++ b → (v ≡ w) × (a ≡ b)
lines_cut v w a b h k e = cut_once 10 v a w b h k (sym (append_assoc v (10 ∷ []) a) ∙ e ∙ append_assoc w (10 ∷ []) b)

over_rank : (over : Over) (text : List ℕ) → rank (over_line (Some over) ++ text) ≡ 1
over_rank over text = refl

over_once : (one other : Option Over) (a b : List ℕ) → OverFits one → OverFits other → 2 ≤ rank a → 2 ≤ rank b → over_line one ++ a ≡ over_line other ++ b
    → (one ≡ other) × (a ≡ b)
over_once None None a b f g p q e = (refl, e)
over_once None (Some k) a b f g p q e = absurd (no_rank 1 2 (over_line (Some k) ++ b) a (over_rank k b) (omega arith) p (sym e))
over_once (Some h) None a b f g p q e = absurd (no_rank 1 2 (over_line (Some h) ++ a) b (over_rank h a) (omega arith) q e)
over_once (Some h) (Some k) a b f g p q e =
    let cut = lines_cut (over_words h) (over_words k) a b (over_lacks_feed h f) (over_lacks_feed k g) e in
    (ap (λ (x : Over). Some x) (same_over h k f g cut.0), cut.1)

abbrev behind_seven : List ℕ → List ℕ
behind_seven text = behind (behind (behind_five text))

goes_on_rank : (n : ℕ) (text : List ℕ) → rank (goes_on_line (Some n) ++ text) ≡ 2
goes_on_rank n text = refl

goes_on_once : (one other : Option ℕ) (a b : List ℕ) → CountFits one → CountFits other → 3 ≤ rank a → 3 ≤ rank b → goes_on_line one ++ a ≡ goes_on_line other ++ b
    → (one ≡ other) × (a ≡ b)
goes_on_once None None a b f g p q e = (refl, e)
goes_on_once None (Some k) a b f g p q e = absurd (no_rank 2 3 (goes_on_line (Some k) ++ b) a (goes_on_rank k b) (omega arith) p (sym e))
goes_on_once (Some h) None a b f g p q e = absurd (no_rank 2 3 (goes_on_line (Some h) ++ a) b (goes_on_rank h a) (omega arith) q e)
goes_on_once (Some h) (Some k) a b f g p q e =
    let cut = lines_cut (codes "played " ++ decimal h) (codes "played " ++ decimal k) a b (count_lacks_feed (codes "played ") h refl f) (count_lacks_feed (codes "played ") k refl g) e in
    (ap (λ (x : ℕ). Some x) (decimal_injective h k f g (ap behind_seven cut.0)), cut.1)

begins_rank : (n : ℕ) (text : List ℕ) → rank (begins_line (Some n) ++ text) ≡ 3
begins_rank n text = refl

begins_once : (one other : Option ℕ) (a b : List ℕ) → CountFits one → CountFits other → 4 ≤ rank a → 4 ≤ rank b → begins_line one ++ a ≡ begins_line other ++ b
    → (one ≡ other) × (a ≡ b)
begins_once None None a b f g p q e = (refl, e)
begins_once None (Some k) a b f g p q e = absurd (no_rank 3 4 (begins_line (Some k) ++ b) a (begins_rank k b) (omega arith) p (sym e))
begins_once (Some h) None a b f g p q e = absurd (no_rank 3 4 (begins_line (Some h) ++ a) b (begins_rank h a) (omega arith) q e)
begins_once (Some h) (Some k) a b f g p q e =
    let cut = lines_cut (codes "begins " ++ decimal h) (codes "begins " ++ decimal k) a b (count_lacks_feed (codes "begins ") h refl f) (count_lacks_feed (codes "begins ") k refl g) e in
    (ap (λ (x : ℕ). Some x) (decimal_injective h k f g (ap behind_seven cut.0)), cut.1)

-- ---- what is said behind them

done_rank : (said : Said) (more : List ℕ) → 4 ≤ rank (from_done said more)
done_rank said more = omega arith

state_rank : (state : Option State) (text : List ℕ) → 4 ≤ rank text → 4 ≤ rank (state_line state ++ text)
state_rank None text h = h
state_rank (Some state) text h = omega arith

clock_rank : (stopped : Option Bool) (text : List ℕ) → 4 ≤ rank text → 4 ≤ rank (clock_line stopped ++ text)
clock_rank None text h = h
clock_rank (Some true) text h = omega arith
clock_rank (Some false) text h = omega arith

room_rank : (is_whole : Bool) (text : List ℕ) → 4 ≤ rank text → 4 ≤ rank (room_line is_whole ++ text)
room_rank true text h = h
room_rank false text h = omega arith

request_rank : (request : Option Request) (text : List ℕ) → 4 ≤ rank text → 4 ≤ rank (request_line request ++ text)
request_rank None text h = h
request_rank (Some request) text h = omega arith

number_rank : (number : Option (List ℕ)) (text : List ℕ) → 4 ≤ rank text → 4 ≤ rank (number_line number ++ text)
number_rank None text h = h
number_rank (Some number) text h = omega arith

handling_rank : (handling : Option Handling) (text : List ℕ) → 4 ≤ rank text → 4 ≤ rank (handling_line handling ++ text)
handling_rank None text h = h
handling_rank (Some Keep) text h = omega arith
handling_rank (Some Hold) text h = omega arith
handling_rank (Some (Other number)) text h = omega arith

pub said_rank : (said : Said) (more : List ℕ) → 4 ≤ rank (answer_text said ++ more)
said_rank said more =
    let R : List ℕ → Type 0 = λ t. 4 ≤ rank t in
    subst R (sym (in_parts said more)) (handling_rank said.handling (from_number said more) (number_rank said.number (from_request said more)
    (request_rank said.request (from_room said more) (room_rank said.is_whole (from_clock said more) (clock_rank said.is_clock_stopped (from_state said more)
    (state_rank said.state (from_done said more) (done_rank said more)))))))

begins_high : (begins : Option ℕ) (text : List ℕ) → 4 ≤ rank text → 3 ≤ rank (begins_line begins ++ text)
begins_high None text h = omega (arith, h)
begins_high (Some n) text h = omega arith

goes_on_high : (goes_on : Option ℕ) (text : List ℕ) → 3 ≤ rank text → 2 ≤ rank (goes_on_line goes_on ++ text)
goes_on_high None text h = omega (arith, h)
goes_on_high (Some n) text h = omega arith

pub end_parts : (end : End) (text : List ℕ) → end_text end ++ text ≡ over_line end.over ++ (goes_on_line end.goes_on ++ (begins_line end.begins ++ text))
end_parts end text =
    append_assoc (over_line end.over) (goes_on_line end.goes_on ++ begins_line end.begins) text
    ∙ ap (λ (t : List ℕ). over_line end.over ++ t) (append_assoc (goes_on_line end.goes_on) (begins_line end.begins) text)

abbrev end_with : Option Over → Option ℕ → Option ℕ → End
end_with over goes_on begins = record { over = over; goes_on = goes_on; begins = begins }

-- They are read in one way if what stands behind them begins otherwise.
pub end_once : (end news : End) (a b : List ℕ) → EndFits end → EndFits news → 4 ≤ rank a → 4 ≤ rank b → end_text end ++ a ≡ end_text news ++ b
    → (end ≡ news) × (a ≡ b)
end_once end news a b f g p q e =
    let high = begins_high end.begins a p in
    let also = begins_high news.begins b q in
    let o = over_once end.over news.over (goes_on_line end.goes_on ++ (begins_line end.begins ++ a)) (goes_on_line news.goes_on ++ (begins_line news.begins ++ b)) f.0 g.0
    (goes_on_high end.goes_on (begins_line end.begins ++ a) high) (goes_on_high news.goes_on (begins_line news.begins ++ b) also)
    (sym (end_parts end a) ∙ e ∙ end_parts news b) in
    let n = goes_on_once end.goes_on news.goes_on (begins_line end.begins ++ a) (begins_line news.begins ++ b) f.1 g.1 high also o.1 in
    let k = begins_once end.begins news.begins a b f.2 g.2 p q n.1 in (
      ap (λ (x : Option Over). end_with x end.goes_on end.begins) o.0 ∙ ap (λ (x : Option ℕ). end_with news.over x end.begins) n.0
          ∙ ap (λ (x : Option ℕ). end_with news.over news.goes_on x) k.0,
      k.1,
    )

pub ends_once : EndsAreReadInOneWay
ends_once end news one other more rest f g s t e =
    let first = end_once end news (answer_text one ++ more) (answer_text other ++ rest) f g (said_rank one more) (said_rank other rest) e in
    let same = said_once one other more rest s t first.1 in
    (first.0, same.0, same.1)
