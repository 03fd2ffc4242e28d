-- One thing is told of what came.
use Rattle.std.proofs.Common.{◌≡◌, ◌<◌, ◌^◌, ◌↔◌, ℕ, zero, suc, ◌==◌, inl, inr, Bool, true, false, List, [], ◌∷◌, length, drop, Option, Some, refl, sym, ap, subst, ◌∙◌, arith}
use Rattle.std.specs.Prelude.{IsTrue}
use Rattle.std.specs.Int.{bit_at}
use Rattle.std.proofs.lemmas.Nat.Bits.{bit_at-lt, same_from_bits_below}
use Rattle.chess_rules.specs.declared.parts.Parts.{Parts}
use Rattle.dgt_frame.specs.declared.events.Event.{Event}
use Rattle.settle_core.specs.declared.plies.Outcome.{Outcome}
use Rattle.settle_core.specs.declared.plies.Ply.{Ply}
use Rattle.settle_core.specs.Entries.{deduplicated, last_picture, repeats}
use Rattle.settle_core.specs.Folding.{Score, moves_of}
use Rattle.settle_core.specs.Settling.{reached}
use Rattle.settle_core.proofs.Once.{folds_once}
use Rattle.board_events.specs.Session.{entries_in}
use Rattle.board_events.specs.Settings.{Setting}
use Rattle.board_events.proofs.GameLemmas.{one_result}
use Rattle.board_doubts.specs.declared.heard.Heard.{Heard}
use Rattle.board_doubts.specs.declared.heard.Heard.TheVariants.{Shows, Plays, Replaces}
use Rattle.board_doubts.specs.declared.heard.Seen.{Seen}
use Rattle.board_doubts.specs.Elsewhere.{Sees}
use Rattle.board_alarms.specs.declared.look.Told.{Told}
use Rattle.board_doubts.specs.Clock.{has_stopped}
use Rattle.board_alarms.specs.Looks.{alarms, heard}
use Rattle.square_runs.specs.Squares.{Marks}
use Rattle.board_alarms.specs.declared.chunk.Chunk.{Chunk}
use Rattle.board_alarms.specs.Hearing.{Again, Another, EventHeard, HasResult, HearsEvent, HearsPicture, HearsResult, IsShown, Nothing, Shown, agrees, stands, with_event, with_news}
use Rattle.board_alarms.specs.Items.{Item, Noted, Sent, events_of}
use Rattle.board_alarms.specs.Laws.{LookingEndsAll, OpensOnce, StopsOnce, TellsOnce}
use Rattle.board_alarms.specs.Plies.{CorrectsLast, HearsPlies, MovesOn, heard_ply}
use Rattle.board_alarms.proofs.PlyLemmas.{same_head}

-- ---- masks

bit_from : (x y : ℕ) → x < 2 → y < 2 → (x == 1) ≡ (y == 1) → x ≡ y
bit_from zero zero a b e = refl
bit_from zero (suc zero) a b e = absurd cc
bit_from zero (suc (suc n)) a b e = absurd (omega (arith, b))
bit_from (suc zero) zero a b e = absurd cc
bit_from (suc zero) (suc zero) a b e = refl
bit_from (suc zero) (suc (suc n)) a b e = absurd (omega (arith, b))
bit_from (suc (suc n)) y a b e = absurd (omega (arith, a))

marks_once : (a b : ℕ) (test : ℕ → Bool) → a < 2 ^ 64 → b < 2 ^ 64 → Marks a test → Marks b test → a ≡ b
marks_once a b test fits also g h =
    same_from_bits_below 64 a b fits also (λ s low. bit_from (bit_at a s) (bit_at b s) (bit_at-lt a s) (bit_at-lt b s) (g s low ∙ sym (h s low)))

clash : (b : Bool) → b ≡ true → b ≡ false → ⊥
clash true e f = cc
clash false e f = cc

true_once : (a b : Bool) (P : Type 0) → (IsTrue a ↔ P) → (IsTrue b ↔ P) → a ≡ b
true_once true true P g h = refl
true_once true false P g h = absurd (let t = h.1 (g.0 refl) in cc)
true_once false true P g h = absurd (let t = g.1 (h.0 refl) in cc)
true_once false false P g h = refl

-- ---- pictures

abbrev seen_with : ℕ → ℕ → ℕ → Bool → Bool → Bool → Bool → Seen
seen_with own others astray off back drawn hand =
    record { own = own; others = others; astray = astray; is_off = off; is_back = back; was_drawn = drawn; in_hand = hand }

sees_once : (black : Bool) (earlier before position picture : List ℕ) (a b : Seen) → a.own < 2 ^ 64 → b.own < 2 ^ 64 → a.others < 2 ^ 64 → b.others < 2 ^ 64
    → a.astray < 2 ^ 64 → b.astray < 2 ^ 64 → Sees a black earlier before position picture → Sees b black earlier before position picture → a ≡ b
sees_once black earlier before position picture a b o p s t y z g h =
    ap (λ (n : ℕ). seen_with n a.others a.astray a.is_off a.is_back a.was_drawn a.in_hand) (marks_once a.own b.own _ o p g.own h.own)
    ∙ ap (λ (n : ℕ). seen_with b.own n a.astray a.is_off a.is_back a.was_drawn a.in_hand) (marks_once a.others b.others _ s t g.others h.others)
    ∙ ap (λ (n : ℕ). seen_with b.own b.others n a.is_off a.is_back a.was_drawn a.in_hand) (marks_once a.astray b.astray _ y z g.astray h.astray)
    ∙ ap (λ (x : Bool). seen_with b.own b.others b.astray x a.is_back a.was_drawn a.in_hand) (g.off ∙ sym h.off)
    ∙ ap (λ (x : Bool). seen_with b.own b.others b.astray b.is_off x a.was_drawn a.in_hand) (true_once a.is_back b.is_back (picture ≡ before) g.back h.back)
    ∙ ap (λ (x : Bool). seen_with b.own b.others b.astray b.is_off b.is_back x a.in_hand) (g.drawn ∙ sym h.drawn)
    ∙ ap (λ (x : Bool). seen_with b.own b.others b.astray b.is_off b.is_back b.was_drawn x) (g.hand ∙ sym h.hand)

shown_once : (setting : Setting) (past : List Event) (event : Event) (a b : Shown) → IsShown setting past event a → IsShown setting past event b → a ≡ b
shown_once setting past event Nothing Nothing g h = refl
shown_once setting past event Nothing (Again q) g h = absurd (clash _ h.0 g)
shown_once setting past event Nothing (Another q) g h = absurd (clash _ h.0 g)
shown_once setting past event (Again p) Nothing g h = absurd (clash _ g.0 h)
shown_once setting past event (Again p) (Again q) g h = ap (λ (x : List ℕ). Again x) (g.1 ∙ sym h.1)
shown_once setting past event (Again p) (Another q) g h =
    absurd (clash (repeats p (entries_in setting past)) g.2 (ap (λ (x : List ℕ). repeats x (entries_in setting past)) (g.1 ∙ sym h.1) ∙ h.2))
shown_once setting past event (Another p) Nothing g h = absurd (clash _ g.0 h)
shown_once setting past event (Another p) (Again q) g h =
    absurd (clash (repeats q (entries_in setting past)) h.2 (ap (λ (x : List ℕ). repeats x (entries_in setting past)) (h.1 ∙ sym g.1) ∙ g.2))
shown_once setting past event (Another p) (Another q) g h = ap (λ (x : List ℕ). Another x) (g.1 ∙ sym h.1)

picture_once : (start : Parts) (plies : List Ply) (shown : Shown) (a b : Option Heard) → HearsPicture start plies shown a → HearsPicture start plies shown b → a ≡ b
picture_once start plies Nothing a b g h = g ∙ sym h
picture_once start plies (Again p) a b g h = g ∙ sym h
picture_once start plies (Another p) a b g h =
    g.heard_is ∙ ap (λ (s : Seen). Some (Shows s)) (sees_once _ _ _ _ p g.seen h.seen g.own_fits h.own_fits g.others_fit h.others_fit g.astray_fit h.astray_fit g.sees h.sees) ∙ sym h.heard_is

-- ---- plies

moves_once : (start : Parts) (old new : List Ply) (a b p q : Option Heard) → MovesOn start old new a p → MovesOn start old new b q → (a ≡ b) × (p ≡ q)
moves_once start old new a b p q g h =
    let last = same_head g.last h.last old old (sym g.plies ∙ h.plies) in
    (g.news_is ∙ sym h.news_is, g.ply_is ∙ ap (λ (x : Ply). Some (Plays (heard_ply start x old))) last ∙ sym h.ply_is)

corrects_once : (start : Parts) (old new : List Ply) (a b p q : Option Heard) → CorrectsLast start old new a p → CorrectsLast start old new b q → (a ≡ b) × (p ≡ q)
corrects_once start old new a b p q g h =
    let last = same_head g.last h.last (drop 1 old) (drop 1 old) (sym g.plies ∙ h.plies) in
    (g.news_is ∙ sym h.news_is, g.ply_is ∙ ap (λ (x : Ply). Some (Replaces (heard_ply start x (drop 1 old)))) last ∙ sym h.ply_is)

longer : (old new : List Ply) (ply : Ply) → new ≡ ply ∷ old → length new ≡ length old → ⊥
longer old new ply e f = let more = ap length e in omega (arith, more, f)

plies_once : (start : Parts) (agree : Bool) (old new : List Ply) (a b p q : Option Heard) → HearsPlies start agree old new a p → HearsPlies start agree old new b q → (a ≡ b) × (p ≡ q)
plies_once start agree old new a b p q (inl g) (inl h) = (g.news_is ∙ sym h.news_is, g.ply_is ∙ sym h.ply_is)
plies_once start agree old new a b p q (inl g) (inr (inl h)) = absurd (longer old new h.last h.plies (ap length g.plies))
plies_once start agree old new a b p q (inl g) (inr (inr h)) = absurd (h.another g.plies)
plies_once start agree old new a b p q (inr (inl g)) (inl h) = absurd (longer old new g.last g.plies (ap length h.plies))
plies_once start agree old new a b p q (inr (inl g)) (inr (inl h)) = moves_once start old new a b p q g h
plies_once start agree old new a b p q (inr (inl g)) (inr (inr h)) = absurd (longer old new g.last g.plies h.size)
plies_once start agree old new a b p q (inr (inr g)) (inl h) = absurd (g.another h.plies)
plies_once start agree old new a b p q (inr (inr g)) (inr (inl h)) = absurd (longer old new h.last h.plies g.size)
plies_once start agree old new a b p q (inr (inr g)) (inr (inr h)) = corrects_once start old new a b p q g h

-- ---- results

ended_once : (old new : Option Outcome) (a b : Option Heard) → HearsResult old new a → HearsResult old new b → a ≡ b
ended_once old new a b (inl g) (inl h) = g.1 ∙ sym h.1
ended_once old new a b (inl g) (inr h) = absurd (h.0 g.0)
ended_once old new a b (inr g) (inl h) = absurd (g.0 h.0)
ended_once old new a b (inr g) (inr h) = g.1 ∙ sym h.1

result_once : (setting : Setting) (a b : Score) (x y : Option Outcome) → a ≡ b → HasResult setting.start a x → HasResult setting.start b y → x ≡ y
result_once setting a b x y e g h =
    one_result (reached setting.start (moves_of b.plies)) b.sign x y (subst (λ (s : Score). HasResult setting.start s x) e g) h

-- ---- events

abbrev heard_with : Option Heard → Option Heard → Option Heard → Option Heard → Option Heard → Option Heard → Option Heard → Option Heard → EventHeard
heard_with away shows news ply ended counts presses clock =
    record { away = away; shows = shows; news = news; ply = ply; ended = ended; counts = counts; presses = presses; clock = clock }

same_heard : (a b : EventHeard) → a.away ≡ b.away → a.shows ≡ b.shows → a.news ≡ b.news → a.ply ≡ b.ply → a.ended ≡ b.ended → a.counts ≡ b.counts → a.presses ≡ b.presses
    → a.clock ≡ b.clock → a ≡ b
same_heard a b away shows news ply ended counts presses clock =
    ap (λ (x : Option Heard). heard_with x a.shows a.news a.ply a.ended a.counts a.presses a.clock) away
    ∙ ap (λ (x : Option Heard). heard_with b.away x a.news a.ply a.ended a.counts a.presses a.clock) shows
    ∙ ap (λ (x : Option Heard). heard_with b.away b.shows x a.ply a.ended a.counts a.presses a.clock) news
    ∙ ap (λ (x : Option Heard). heard_with b.away b.shows b.news x a.ended a.counts a.presses a.clock) ply
    ∙ ap (λ (x : Option Heard). heard_with b.away b.shows b.news b.ply x a.counts a.presses a.clock) ended
    ∙ ap (λ (x : Option Heard). heard_with b.away b.shows b.news b.ply b.ended x a.presses a.clock) counts
    ∙ ap (λ (x : Option Heard). heard_with b.away b.shows b.news b.ply b.ended b.counts x a.clock) presses
    ∙ ap (λ (x : Option Heard). heard_with b.away b.shows b.news b.ply b.ended b.counts b.presses x) clock

heard_once : (setting : Setting) (items : List Item) (chunk : Chunk) (event : Event) (old new : Score) (a b : EventHeard)
    → HearsEvent setting items chunk event old new a → HearsEvent setting items chunk event old new b → a ≡ b
heard_once setting items chunk event old new a b g h =
    let shown = shown_once setting (events_of items) event g.shown h.shown g.is_shown h.is_shown in
    let before = result_once setting old old g.old_result h.old_result refl g.old_result_is h.old_result_is in
    let after = result_once setting new new g.new_result h.new_result refl g.new_result_is h.new_result_is in
    let P : Shown → Type 0 = λ s. HearsPicture setting.start old.plies s a.shows in
    let N : Shown → Type 0 = λ s. HearsPlies setting.start (agrees setting.start new.plies s) old.plies new.plies a.news a.ply in
    let R : Option Outcome → Type 0 = λ o. HearsResult o g.new_result a.ended in
    let S : Option Outcome → Type 0 = λ o. HearsResult h.old_result o a.ended in
    let plies = plies_once setting.start (agrees setting.start new.plies h.shown) old.plies new.plies a.news b.news a.ply b.ply (subst N shown g.plies) h.plies in
    same_heard a b (g.away ∙ sym h.away) (picture_once setting.start old.plies h.shown a.shows b.shows (subst P shown g.shows) h.shows) plies.0 plies.1
    (ended_once h.old_result h.new_result a.ended b.ended (subst S after (subst R before g.ended)) h.ended)
    (g.counts ∙ sym h.counts) (g.presses ∙ sym h.presses) (g.clock ∙ sym h.clock)

abbrev heard_in : Setting → List Item → Chunk → Event → EventHeard → Score → Score → Type 0
heard_in setting items chunk event heard old new = HearsEvent setting items chunk event old new heard

pub tells_once : TellsOnce
tells_once setting [] a b valid g h = g ∙ sym h
tells_once setting (Sent chunk event ∷ items) a b valid g h =
    let earlier = tells_once setting items g.0 h.0 valid g.4 h.4 in
    let x = g.5 in let y = h.5 in
    let old = folds_once setting.start (deduplicated (entries_in setting (events_of items))) g.1 h.1 valid x.old_folds y.old_folds in
    let new = folds_once setting.start (deduplicated (entries_in setting (event ∷ events_of items))) g.2 h.2 valid x.new_folds y.new_folds in
    let P : Score → Type 0 = λ s. heard_in setting items chunk event g.3 s g.2 in
    let Q : Score → Type 0 = λ s. heard_in setting items chunk event g.3 h.1 s in
    let heard = heard_once setting items chunk event h.1 h.2 g.3 h.3 (subst Q new (subst P old x)) y in
    g.6 ∙ ap (λ (t : List Told). with_event chunk.when.at chunk.when.is_added (length g.1.plies) (length g.2.plies) g.3 t) earlier
    ∙ ap (λ (s : Score). with_event chunk.when.at chunk.when.is_added (length s.plies) (length g.2.plies) g.3 h.0) old
    ∙ ap (λ (s : Score). with_event chunk.when.at chunk.when.is_added (length h.1.plies) (length s.plies) g.3 h.0) new
    ∙ ap (λ (e : EventHeard). with_event chunk.when.at chunk.when.is_added (length h.1.plies) (length h.2.plies) e h.0) heard ∙ sym h.6
tells_once setting (Noted at news ∷ items) a b valid g h =
    let earlier = tells_once setting items g.0 h.0 valid g.2 h.2 in
    let score = folds_once setting.start (deduplicated (entries_in setting (events_of items))) g.1 h.1 valid g.3 h.3 in
    g.4 ∙ ap (λ (t : List Told). with_news at (length g.1.plies) (stands setting.start g.1.plies (last_picture (entries_in setting (events_of items)))) news t) earlier
    ∙ ap (λ (s : Score). with_news at (length s.plies) (stands setting.start s.plies (last_picture (entries_in setting (events_of items)))) news h.0) score ∙ sym h.4

pub opens_once : OpensOnce
opens_once setting items a b valid g h = g.2 ∙ ap (λ (t : List Told). alarms t) (tells_once setting items g.0 h.0 valid g.1 h.1) ∙ sym h.2

pub stops_once : StopsOnce
stops_once setting items a b valid g h = g.2 ∙ ap (λ (t : List Told). has_stopped (heard t)) (tells_once setting items g.0 h.0 valid g.1 h.1) ∙ sym h.2

pub looking_ends_all : LookingEndsAll
looking_ends_all setting items at looks g = g.2 ∙ ap (λ (t : List Told). alarms t) (g.1).4
