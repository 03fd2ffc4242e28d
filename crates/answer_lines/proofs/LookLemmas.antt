-- Alarms are known by their lines.
use Rattle.std.proofs.Common.{◌≡◌, ◌==◌, ℕ, Bool, true, false, List, [], ◌∷◌, ◌++◌, Option, Some, None, decimal, Result, Ok, Err, IfOk, refl, sym, ap, ◌∙◌, arith}
use Rattle.std.specs.Prelude.{codes, if◌then◌else◌}
use Rattle.std.proofs.lemmas.Fmt.{decimal_injective}
use Rattle.std.proofs.lemmas.List.{append_assoc}
use Rattle.board_cable.specs.declared.line.Request.{Request}
use Rattle.board_cable.specs.declared.whose.Handling.{Handling}
use Rattle.board_cable.specs.declared.whose.Handling.TheVariants.{Keep, Hold, Other}
use Rattle.board_doubts.specs.declared.heard.Doubt.{Doubt}
use Rattle.board_doubts.specs.declared.heard.Place.{Place}
use Rattle.board_doubts.specs.declared.heard.Place.TheVariants.{AtLast, AfterLast}
use Rattle.board_doubts.specs.declared.heard.Why.{Why}
use Rattle.board_doubts.specs.declared.heard.Why.TheVariants.{Late, Elsewhere, BothElsewhere, AfterGap, TakenBack, Unpressed, OtherTime, MovedOn, Returned}
use Rattle.board_alarms.specs.declared.look.Look.{Look}
use Rattle.board_alarms.specs.declared.look.Look.TheVariants.{Doubtful, Stopped, Unplayed, Suspected}
use Rattle.board_standing.specs.declared.state.State.{State}
use Rattle.answer_lines.specs.declared.said.Said.{Said}
use Rattle.answer_lines.specs.Answers.{answer_text, clock_line, handling_line, number_line, request_line, room_line, state_line}
use Rattle.answer_lines.specs.Laws.{IsSaid, lacks}
use Rattle.answer_lines.specs.Looks.{LookFits, LooksFit, look_words, looks_text, place_word, why_word}
use Rattle.answer_lines.proofs.AnswerLemmas.{from_clock, from_done, from_number, from_request, from_room, from_state, in_parts, said_once}
use Rattle.answer_lines.proofs.CutLemmas.{cut_once, decimal_lacks_blank, decimal_lacks_feed, lacks_append}
use Rattle.answer_lines.proofs.WordLemmas.{behind, first_of}

-- Two texts are added one after the other.
pub joined : {A E : Type 0} (r : Result A E) (old between new a b : List ℕ) → between ≡ old ++ a → IfOk r (λ x. new ≡ between ++ b)
    → IfOk r (λ x. new ≡ old ++ (a ++ b))
joined (Ok x) old between new a b first second = second ∙ ap (λ text. text ++ b) first ∙ append_assoc old a b
joined (Err e) old between new a b first second = tt

-- ---- the words of a line: where, and what stands behind that

abbrev word_of : Look → List ℕ
word_of (Doubtful plies doubt) = place_word doubt.place
word_of (Stopped plies moves) = codes "since"
word_of (Unplayed plies moves) = codes "since"
word_of (Suspected n) = codes "SUSPECT"

abbrev rest_of : Look → List ℕ
rest_of (Doubtful plies doubt) = decimal plies ++ 32 ∷ why_word doubt.why
rest_of (Stopped plies moves) = decimal plies ++ 32 ∷ (codes "STOPPED" ++ 32 ∷ decimal moves)
rest_of (Unplayed plies moves) = decimal plies ++ 32 ∷ (codes "UNPLAYED" ++ 32 ∷ decimal moves)
rest_of (Suspected n) = decimal n

abbrev body_of : Look → List ℕ
body_of look = word_of look ++ 32 ∷ rest_of look

three_words : (a b c : List ℕ) → a ++ 32 ∷ [] ++ b ++ 32 ∷ [] ++ c ≡ a ++ 32 ∷ (b ++ 32 ∷ c)
three_words a b c = append_assoc (a ++ 32 ∷ [] ++ b) (32 ∷ []) c ∙ append_assoc (a ++ 32 ∷ []) b (32 ∷ c) ∙ append_assoc a (32 ∷ []) (b ++ 32 ∷ c)

words_are : (look : Look) → look_words look ≡ codes "look " ++ body_of look
words_are (Doubtful plies doubt) = ap (λ t. codes "look " ++ t) (three_words (place_word doubt.place) (decimal plies) (why_word doubt.why))
words_are (Stopped plies moves) = ap (λ t. codes "look since " ++ t) (append_assoc (decimal plies) (codes " STOPPED ") (decimal moves))
words_are (Unplayed plies moves) = ap (λ t. codes "look since " ++ t) (append_assoc (decimal plies) (codes " UNPLAYED ") (decimal moves))
words_are (Suspected n) = refl

abbrev behind_five : List ℕ → List ℕ
behind_five text = behind (behind (behind (behind (behind text))))

abbrev behind_eight : List ℕ → List ℕ
behind_eight text = behind (behind (behind (behind_five text)))

abbrev behind_nine : List ℕ → List ℕ
behind_nine text = behind (behind_eight text)

-- ---- each part is known by its words

abbrev place_read : List ℕ → Place
place_read text = if first_of (behind text) == 116 then AtLast else AfterLast

place_back : (place : Place) → place_read (place_word place) ≡ place
place_back AtLast = refl
place_back AfterLast = refl

same_place : (one other : Place) → place_word one ≡ place_word other → one ≡ other
same_place one other e = sym (place_back one) ∙ ap place_read e ∙ place_back other

abbrev why_by : ℕ → Why
why_by c =
    if c == 76 then Late
    else (if c == 69 then Elsewhere
    else (if c == 66 then BothElsewhere
    else (if c == 65 then AfterGap
    else (if c == 84 then TakenBack
    else (if c == 85 then Unpressed
    else (if c == 79 then OtherTime
    else (if c == 77 then MovedOn
    else Returned)))))))

why_back : (why : Why) → why_by (first_of (why_word why)) ≡ why
why_back Late = refl
why_back Elsewhere = refl
why_back BothElsewhere = refl
why_back AfterGap = refl
why_back TakenBack = refl
why_back Unpressed = refl
why_back OtherTime = refl
why_back MovedOn = refl
why_back Returned = refl

same_why : (one other : Why) → why_word one ≡ why_word other → one ≡ other
same_why one other e = sym (why_back one) ∙ ap (λ (t : List ℕ). why_by (first_of t)) e ∙ why_back other

doubt_same : (a b : Doubt) → a.place ≡ b.place → a.why ≡ b.why → a ≡ b
doubt_same a b p w = ap (λ x. record a { place = x }) p ∙ ap (λ x. record b { why = x }) w

place_lacks : (place : Place) → lacks 32 (place_word place) ≡ true
place_lacks AtLast = refl
place_lacks AfterLast = refl

word_lacks_blank : (look : Look) → lacks 32 (word_of look) ≡ true
word_lacks_blank (Doubtful plies doubt) = place_lacks doubt.place
word_lacks_blank (Stopped plies moves) = refl
word_lacks_blank (Unplayed plies moves) = refl
word_lacks_blank (Suspected n) = refl

-- words are told apart by their second letters
abbrev letter : List ℕ → ℕ
letter text = first_of (behind text)

not_since : (place : Place) → place_word place ≡ codes "since" → ⊥
not_since AtLast e = let never : 116 ≡ 105 = ap letter e in omega (arith, never)
not_since AfterLast e = let never : 102 ≡ 105 = ap letter e in omega (arith, never)

not_suspect : (place : Place) → place_word place ≡ codes "SUSPECT" → ⊥
not_suspect AtLast e = let never : 116 ≡ 85 = ap letter e in omega (arith, never)
not_suspect AfterLast e = let never : 102 ≡ 85 = ap letter e in omega (arith, never)

since_or_suspect : codes "since" ≡ codes "SUSPECT" → ⊥
since_or_suspect e = let never : 105 ≡ 85 = ap letter e in omega (arith, never)

stopped_or_unplayed : (a b : List ℕ) → codes "STOPPED " ++ a ≡ codes "UNPLAYED " ++ b → ⊥
stopped_or_unplayed a b e = let never : 83 ≡ 85 = ap first_of e in omega (arith, never)

same_parts : (one other : Look) → LookFits one → LookFits other → word_of one ≡ word_of other → rest_of one ≡ rest_of other → one ≡ other
same_parts (Doubtful m a) (Doubtful n b) f g w r =
    let cut = cut_once 32 (decimal m) (why_word a.why) (decimal n) (why_word b.why) (decimal_lacks_blank m f) (decimal_lacks_blank n g) r in
    ap (λ k. Doubtful k a) (decimal_injective m n f g cut.0) ∙ ap (λ d. Doubtful n d) (doubt_same a b (same_place a.place b.place w) (same_why a.why b.why cut.1))
same_parts (Doubtful m a) (Stopped n p) f g w r = absurd (not_since a.place w)
same_parts (Doubtful m a) (Unplayed n p) f g w r = absurd (not_since a.place w)
same_parts (Doubtful m a) (Suspected n) f g w r = absurd (not_suspect a.place w)
same_parts (Stopped m p) (Doubtful n b) f g w r = absurd (not_since b.place (sym w))
same_parts (Stopped m p) (Stopped n q) f g w r =
    let cut = cut_once 32 (decimal m) (codes "STOPPED " ++ decimal p) (decimal n) (codes "STOPPED " ++ decimal q)
    (decimal_lacks_blank m f.0) (decimal_lacks_blank n g.0) r in
    ap (λ k. Stopped k p) (decimal_injective m n f.0 g.0 cut.0) ∙ ap (λ k. Stopped n k) (decimal_injective p q f.1 g.1 (ap behind_eight cut.1))
same_parts (Stopped m p) (Unplayed n q) f g w r =
    let cut = cut_once 32 (decimal m) (codes "STOPPED " ++ decimal p) (decimal n) (codes "UNPLAYED " ++ decimal q)
    (decimal_lacks_blank m f.0) (decimal_lacks_blank n g.0) r in
    absurd (stopped_or_unplayed (decimal p) (decimal q) cut.1)
same_parts (Stopped m p) (Suspected n) f g w r = absurd (since_or_suspect w)
same_parts (Unplayed m p) (Doubtful n b) f g w r = absurd (not_since b.place (sym w))
same_parts (Unplayed m p) (Stopped n q) f g w r =
    let cut = cut_once 32 (decimal m) (codes "UNPLAYED " ++ decimal p) (decimal n) (codes "STOPPED " ++ decimal q)
    (decimal_lacks_blank m f.0) (decimal_lacks_blank n g.0) r in
    absurd (stopped_or_unplayed (decimal q) (decimal p) (sym cut.1))
same_parts (Unplayed m p) (Unplayed n q) f g w r =
    let cut = cut_once 32 (decimal m) (codes "UNPLAYED " ++ decimal p) (decimal n) (codes "UNPLAYED " ++ decimal q)
    (decimal_lacks_blank m f.0) (decimal_lacks_blank n g.0) r in
    ap (λ k. Unplayed k p) (decimal_injective m n f.0 g.0 cut.0) ∙ ap (λ k. Unplayed n k) (decimal_injective p q f.1 g.1 (ap behind_nine cut.1))
same_parts (Unplayed m p) (Suspected n) f g w r = absurd (since_or_suspect w)
same_parts (Suspected m) (Doubtful n b) f g w r = absurd (not_suspect b.place (sym w))
same_parts (Suspected m) (Stopped n q) f g w r = absurd (since_or_suspect (sym w))
same_parts (Suspected m) (Unplayed n q) f g w r = absurd (since_or_suspect (sym w))
same_parts (Suspected m) (Suspected n) f g w r = ap (λ k. Suspected k) (decimal_injective m n f g r)

same_look : (one other : Look) → LookFits one → LookFits other → look_words one ≡ look_words other → one ≡ other
same_look one other f g e =
    let bodies : body_of one ≡ body_of other = ap behind_five (sym (words_are one) ∙ e ∙ words_are other) in
    let cut = cut_once 32 (word_of one) (rest_of one) (word_of other) (rest_of other) (word_lacks_blank one) (word_lacks_blank other) bodies in
    same_parts one other f g cut.0 cut.1

-- ---- a line ends at its line feed

why_lacks_feed : (why : Why) → lacks 10 (why_word why) ≡ true
why_lacks_feed Late = refl
why_lacks_feed Elsewhere = refl
why_lacks_feed BothElsewhere = refl
why_lacks_feed AfterGap = refl
why_lacks_feed TakenBack = refl
why_lacks_feed Unpressed = refl
why_lacks_feed OtherTime = refl
why_lacks_feed MovedOn = refl
why_lacks_feed Returned = refl

place_lacks_feed : (place : Place) → lacks 10 (place_word place) ≡ true
place_lacks_feed AtLast = refl
place_lacks_feed AfterLast = refl

word_lacks_feed : (look : Look) → lacks 10 (word_of look) ≡ true
word_lacks_feed (Doubtful plies doubt) = place_lacks_feed doubt.place
word_lacks_feed (Stopped plies moves) = refl
word_lacks_feed (Unplayed plies moves) = refl
word_lacks_feed (Suspected n) = refl

rest_lacks_feed : (look : Look) → LookFits look → lacks 10 (rest_of look) ≡ true
rest_lacks_feed (Doubtful plies doubt) f =
    lacks_append 10 (decimal plies) (32 ∷ why_word doubt.why) (decimal_lacks_feed plies f) (why_lacks_feed doubt.why)
rest_lacks_feed (Stopped plies moves) f =
    lacks_append 10 (decimal plies) (codes " STOPPED " ++ decimal moves) (decimal_lacks_feed plies f.0) (decimal_lacks_feed moves f.1)
rest_lacks_feed (Unplayed plies moves) f =
    lacks_append 10 (decimal plies) (codes " UNPLAYED " ++ decimal moves) (decimal_lacks_feed plies f.0) (decimal_lacks_feed moves f.1)
rest_lacks_feed (Suspected n) f = decimal_lacks_feed n f

look_lacks_feed : (look : Look) → LookFits look → lacks 10 (look_words look) ≡ true
look_lacks_feed look f =
    ap (lacks 10) (words_are look) ∙ lacks_append 10 (word_of look) (32 ∷ rest_of look) (word_lacks_feed look) (rest_lacks_feed look f)

-- ---- the lines of alarms, and what begins otherwise

-- the first letter of `look`
abbrev pub BeginsOtherwise : List ℕ → Type 0
BeginsOtherwise text = first_of text ≡ 108 → ⊥

begins_so : (look : Look) (more : List ℕ) → first_of (look_words look ++ more) ≡ 108
begins_so (Doubtful plies doubt) more = refl
begins_so (Stopped plies moves) more = refl
begins_so (Unplayed plies moves) more = refl
begins_so (Suspected n) more = refl

fed : (look : Look) (looks : List Look) (more : List ℕ) → looks_text (look ∷ looks) ++ more ≡ look_words look ++ 10 ∷ (looks_text looks ++ more)
fed look looks more = append_assoc (look_words look ++ 10 ∷ []) (looks_text looks) more ∙ append_assoc (look_words look) (10 ∷ []) (looks_text looks ++ more)

none_begins : (look : Look) (looks : List Look) (more text : List ℕ) → BeginsOtherwise text → text ≡ looks_text (look ∷ looks) ++ more → ⊥
none_begins look looks more text other e = other (ap first_of (e ∙ fed look looks more) ∙ begins_so look (10 ∷ (looks_text looks ++ more)))

pub looks_once : (looks news : List Look) (a b : List ℕ) → LooksFit looks → LooksFit news → BeginsOtherwise a → BeginsOtherwise b
    → looks_text looks ++ a ≡ looks_text news ++ b → (looks ≡ news) × (a ≡ b)
looks_once [] [] a b f g p q e = (refl, e)
looks_once [] (n ∷ ns) a b f g p q e = absurd (none_begins n ns b a p e)
looks_once (l ∷ ls) [] a b f g p q e = absurd (none_begins l ls a b q (sym e))
looks_once (l ∷ ls) (n ∷ ns) a b f g p q e =
    let cut = cut_once 10 (look_words l) (looks_text ls ++ a) (look_words n) (looks_text ns ++ b) (look_lacks_feed l f.0) (look_lacks_feed n g.0)
    (sym (fed l ls a) ∙ e ∙ fed n ns b) in
    let more = looks_once ls ns a b f.1 g.1 p q cut.1 in (
      ap (λ x. x ∷ ls) (same_look l n f.0 g.0 cut.0) ∙ ap (λ xs. n ∷ xs) more.0,
      more.1,
    )

-- ---- what is said begins otherwise

from_done_other : (said : Said) (more : List ℕ) → BeginsOtherwise (from_done said more)
from_done_other said more e = let never : 100 ≡ 108 = e in omega (arith, never)

state_other : (state : Option State) (text : List ℕ) → BeginsOtherwise text → BeginsOtherwise (state_line state ++ text)
state_other None text other e = other e
state_other (Some state) text other e = let never : 115 ≡ 108 = e in omega (arith, never)

clock_other : (stopped : Option Bool) (text : List ℕ) → BeginsOtherwise text → BeginsOtherwise (clock_line stopped ++ text)
clock_other None text other e = other e
clock_other (Some true) text other e = let never : 99 ≡ 108 = e in omega (arith, never)
clock_other (Some false) text other e = let never : 99 ≡ 108 = e in omega (arith, never)

room_other : (is_whole : Bool) (text : List ℕ) → BeginsOtherwise text → BeginsOtherwise (room_line is_whole ++ text)
room_other true text other e = other e
room_other false text other e = let never : 102 ≡ 108 = e in omega (arith, never)

request_other : (request : Option Request) (text : List ℕ) → BeginsOtherwise text → BeginsOtherwise (request_line request ++ text)
request_other None text other e = other e
request_other (Some request) text other e = let never : 97 ≡ 108 = e in omega (arith, never)

number_other : (number : Option (List ℕ)) (text : List ℕ) → BeginsOtherwise text → BeginsOtherwise (number_line number ++ text)
number_other None text other e = other e
number_other (Some number) text other e = let never : 110 ≡ 108 = e in omega (arith, never)

handling_other : (handling : Option Handling) (text : List ℕ) → BeginsOtherwise text → BeginsOtherwise (handling_line handling ++ text)
handling_other None text other e = other e
handling_other (Some Keep) text other e = let never : 107 ≡ 108 = e in omega (arith, never)
handling_other (Some Hold) text other e = let never : 104 ≡ 108 = e in omega (arith, never)
handling_other (Some (Other number)) text other e = let never : 111 ≡ 108 = e in omega (arith, never)

pub said_begins_otherwise : (said : Said) (more : List ℕ) → BeginsOtherwise (answer_text said ++ more)
said_begins_otherwise said more e =
    handling_other said.handling (from_number said more)
    (number_other said.number (from_request said more)
    (request_other said.request (from_room said more)
    (room_other said.is_whole (from_clock said more)
    (clock_other said.is_clock_stopped (from_state said more)
    (state_other said.state (from_done said more) (from_done_other said more))))))
    (sym (ap first_of (in_parts said more)) ∙ e)

-- Alarms with what is said behind them are read in one way.
pub looks_and_said_once : (looks news : List Look) (one other : Said) (more rest : List ℕ) → LooksFit looks → LooksFit news → IsSaid one → IsSaid other
    → looks_text looks ++ (answer_text one ++ more) ≡ looks_text news ++ (answer_text other ++ rest) → (looks ≡ news) × (one ≡ other) × (more ≡ rest)
looks_and_said_once looks news one other more rest f g h k e =
    let first = looks_once looks news (answer_text one ++ more) (answer_text other ++ rest) f g
    (said_begins_otherwise one more) (said_begins_otherwise other rest) e in
    let both = said_once one other more rest h k first.1 in (first.0, both.0, both.1)
