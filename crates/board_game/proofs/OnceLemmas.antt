-- What came is heard in one way.
use Rattle.std.proofs.Common.{◌≡◌, ◌≢◌, ◌<◌, ℕ, inl, inr, Bool, true, false, List, [], ◌∷◌, ◌++◌, map, reverse, Option, Some, None, is_some, refl, sym, ap, subst, ◌∙◌, arith}
use Rattle.std.specs.Int.{bit_at}
use Rattle.std.proofs.lemmas.Bool.{cases_eq}
use Rattle.std.proofs.lemmas.Nat.Bits.{bit_at-lt, same_from_bits_below}
use Rattle.std.proofs.lemmas.List.{append_cancel_left, reverse-reverse}
use Rattle.chess_rules.specs.Valid.{Valid}
use Rattle.dgt_frame.specs.declared.events.Event.{Event}
use Rattle.dgt_frame.specs.Streams.{Timed}
use Rattle.unseen_pairs.specs.declared.pair.Recovery.{Recovery}
use Rattle.unseen_pairs.specs.Laws.{RecoversOnce}
use Rattle.settle_core.specs.declared.plies.Outcome.{Outcome}
use Rattle.settle_core.specs.Entries.{deduplicated, repeats}
use Rattle.settle_core.specs.Folding.{Score}
use Rattle.settle_core.proofs.Once.{folds_once}
use Rattle.board_events.specs.Commands.{past_of}
use Rattle.board_events.specs.Entries.{is_entry}
use Rattle.board_events.specs.History.{picture_of}
use Rattle.board_events.specs.Session.{entries_in}
use Rattle.board_events.specs.Settings.{Setting}
use Rattle.board_events.proofs.GameLemmas.{one_result}
use Rattle.board_alarms.specs.declared.chunk.Chunk.{Chunk}
use Rattle.board_listing.specs.GameText.{HasResult, reached_by}
use Rattle.board_standing.specs.declared.heard.Event.{Event as Told}
use Rattle.board_standing.specs.declared.heard.Heard.{Heard}
use Rattle.board_standing.specs.declared.heard.Heard.TheVariants.{Shows, Repeats, Moves, Ends, Reopens, Stops, Answers, Unplugs, Plugs, Begins}
use Rattle.board_standing.specs.declared.heard.Picture.{Picture}
use Rattle.recovery.proofs.WovenLemmas.{recovers_same}
use Rattle.board_game.specs.Hearing.{Changes, Compares, Hears, HearsEvent, HearsPicture, HearsResult, IsMask, IsNew, heard_of, with_heard}
use Rattle.board_game.specs.History.{Adds, Bytes, Came, Finds, Item, Makes, News, Noted, Pair, Sent, bytes_of, chunk_of, events_of, with_found}
use Rattle.board_alarms.specs.Hearing.{AreOpen, ClockIsStopped}
use Rattle.board_alarms.specs.Laws.{OpensOnce as AlarmsOpenOnce, StopsOnce as ClockStopsOnce}
use Rattle.board_game.specs.Alarming.{alarm_items}
use Rattle.board_endings.specs.Laws.{DueOnce, EndsOnce as EndingsAreOne, SameUntilDue}
use Rattle.board_endings.specs.Saying.{IsDueAt, IsEndAt}
use Rattle.board_game.specs.Ending.{end_items}
use Rattle.board_game.specs.Laws.{EndDueOnce, EndStaysUntilDue, EndsOnce, HearsOnce, OpensOnce, StopsOnce}
use Rattle.board_game.proofs.PlainLemmas.{ShowsOnce, same_shown}

-- ---- masks

bit_same : (x y : ℕ) → x < 2 → y < 2 → (x ≡ 1 → y ≡ 1) → (y ≡ 1 → x ≡ 1) → x ≡ y
bit_same x y a b f g = elim (cases_eq x 1) [
  | inl e ↦ (let d : y ≡ 1 = f e in omega arith)
  | inr ne ↦ (elim (cases_eq y 1) [ inl d ↦ absurd (ne (g d)) | inr nd ↦ omega arith ])
]

mask_once : (a b : ℕ) (one other : List ℕ) → IsMask a one other → IsMask b one other → a ≡ b
mask_once a b one other g h =
    same_from_bits_below 64 a b g.fits h.fits (λ s low.
    let x = g.differ s low in let y = h.differ s low in
    bit_same (bit_at a s) (bit_at b s) (bit_at-lt a s) (bit_at-lt b s) (λ e. y.1 (x.0 e)) (λ e. x.1 (y.0 e)))

changes_once : (before : Option (List ℕ)) (shown : List ℕ) (a b : ℕ) → Changes before shown a → Changes before shown b → a ≡ b
changes_once None shown a b g h = g ∙ sym h
changes_once (Some before) shown a b g h = mask_once a b before shown g h

abbrev picture_with : ℕ → ℕ → ℕ → Picture
picture_with differs changed turned = record { differs = differs; changed = changed; turned = turned }

compares_once : (setting : Setting) (past : List Event) (event : Event) (score : Score) (p q : Picture) → Compares setting past event score p → Compares setting past event score q → p ≡ q
compares_once setting past event score p q g h =
    ap (λ (n : ℕ). picture_with n p.changed p.turned) (mask_once p.differs q.differs _ _ g.differs h.differs)
    ∙ ap (λ (n : ℕ). picture_with q.differs n p.turned) (changes_once _ _ p.changed q.changed g.changed h.changed)
    ∙ ap (λ (n : ℕ). picture_with q.differs q.changed n) (mask_once p.turned q.turned _ _ g.turned h.turned)

-- ---- what is heard of an event

-- how it is heard of its picture
data Way (setting : Setting) (past : List Event) (event : Event) (old new : Score) (heard : Option Heard) : Type 0 where
  is_nothing : heard ≡ None → is_entry event past ≡ false → Way setting past event old new heard
  is_again : heard ≡ Some Repeats → is_entry event past ≡ true → repeats (picture_of setting.rotated (event ∷ past)) (entries_in setting past) ≡ true
      → Way setting past event old new heard
  is_moves : heard ≡ Some Moves → IsNew setting past event → new.plies ≢ old.plies → Way setting past event old new heard
  is_shows : (p : Picture) → heard ≡ Some (Shows p) → IsNew setting past event → new.plies ≡ old.plies → Compares setting past event new p
      → Way setting past event old new heard

way_of : (setting : Setting) (past : List Event) (event : Event) (old new : Score) (heard : Option Heard) → HearsPicture setting past event old new heard
    → Way setting past event old new heard
way_of setting past event old new None h = is_nothing refl h
way_of setting past event old new (Some Repeats) h = is_again refl h.0 h.1
way_of setting past event old new (Some Moves) h = is_moves refl h.0 h.1
way_of setting past event old new (Some (Shows p)) h = is_shows p refl h.0 h.1 h.2
way_of setting past event old new (Some Ends) h = absurd h
way_of setting past event old new (Some Reopens) h = absurd h
way_of setting past event old new (Some Stops) h = absurd h
way_of setting past event old new (Some Answers) h = absurd h
way_of setting past event old new (Some Unplugs) h = absurd h
way_of setting past event old new (Some Plugs) h = absurd h
way_of setting past event old new (Some Begins) h = absurd h

clash : (b : Bool) → b ≡ true → b ≡ false → ⊥
clash true e f = cc
clash false e f = cc

same_way : (setting : Setting) (past : List Event) (event : Event) (old new : Score) (a b : Option Heard) → Way setting past event old new a → Way setting past event old new b → a ≡ b
same_way setting past event old new a b (is_nothing e n) (is_nothing f m) = e ∙ sym f
same_way setting past event old new a b (is_nothing e n) (is_again f i r) = absurd (clash _ i n)
same_way setting past event old new a b (is_nothing e n) (is_moves f i d) = absurd (clash _ i.entry n)
same_way setting past event old new a b (is_nothing e n) (is_shows q f i s c) = absurd (clash _ i.entry n)
same_way setting past event old new a b (is_again e i r) (is_nothing f m) = absurd (clash _ i m)
same_way setting past event old new a b (is_again e i r) (is_again f j s) = e ∙ sym f
same_way setting past event old new a b (is_again e i r) (is_moves f j d) = absurd (clash _ r j.another)
same_way setting past event old new a b (is_again e i r) (is_shows q f j s c) = absurd (clash _ r j.another)
same_way setting past event old new a b (is_moves e i d) (is_nothing f m) = absurd (clash _ i.entry m)
same_way setting past event old new a b (is_moves e i d) (is_again f j s) = absurd (clash _ s i.another)
same_way setting past event old new a b (is_moves e i d) (is_moves f j g) = e ∙ sym f
same_way setting past event old new a b (is_moves e i d) (is_shows q f j s c) = absurd (d s)
same_way setting past event old new a b (is_shows p e i t c) (is_nothing f m) = absurd (clash _ i.entry m)
same_way setting past event old new a b (is_shows p e i t c) (is_again f j s) = absurd (clash _ s i.another)
same_way setting past event old new a b (is_shows p e i t c) (is_moves f j d) = absurd (d t)
same_way setting past event old new a b (is_shows p e i t c) (is_shows q f j s k) =
    e ∙ ap (λ (x : Picture). Some (Shows x)) (compares_once setting past event new p q c k) ∙ sym f

-- how it is heard of the result
data Outcomes (old new : Option Outcome) (heard : Option Heard) : Type 0 where
  is_same : heard ≡ None → new ≡ old → Outcomes old new heard
  is_ended : heard ≡ Some Ends → new ≢ old → is_some new ≡ true → Outcomes old new heard
  is_reopened : heard ≡ Some Reopens → new ≢ old → new ≡ None → Outcomes old new heard

outcomes_of : (old new : Option Outcome) (heard : Option Heard) → HearsResult old new heard → Outcomes old new heard
outcomes_of old new None h = is_same refl h
outcomes_of old new (Some Ends) h = is_ended refl h.0 h.1
outcomes_of old new (Some Reopens) h = is_reopened refl h.0 h.1
outcomes_of old new (Some (Shows p)) h = absurd h
outcomes_of old new (Some Repeats) h = absurd h
outcomes_of old new (Some Moves) h = absurd h
outcomes_of old new (Some Stops) h = absurd h
outcomes_of old new (Some Answers) h = absurd h
outcomes_of old new (Some Unplugs) h = absurd h
outcomes_of old new (Some Plugs) h = absurd h
outcomes_of old new (Some Begins) h = absurd h

none_some : (new : Option Outcome) → is_some new ≡ true → new ≡ None → ⊥
none_some new h e = clash (is_some new) h (ap (λ (o : Option Outcome). is_some o) e)

same_outcomes : (old new : Option Outcome) (a b : Option Heard) → Outcomes old new a → Outcomes old new b → a ≡ b
same_outcomes old new a b (is_same e s) (is_same f t) = e ∙ sym f
same_outcomes old new a b (is_same e s) (is_ended f d i) = absurd (d s)
same_outcomes old new a b (is_same e s) (is_reopened f d i) = absurd (d s)
same_outcomes old new a b (is_ended e d i) (is_same f t) = absurd (d t)
same_outcomes old new a b (is_ended e d i) (is_ended f c j) = e ∙ sym f
same_outcomes old new a b (is_ended e d i) (is_reopened f c j) = absurd (none_some new i j)
same_outcomes old new a b (is_reopened e d i) (is_same f t) = absurd (d t)
same_outcomes old new a b (is_reopened e d i) (is_ended f c j) = absurd (none_some new j i)
same_outcomes old new a b (is_reopened e d i) (is_reopened f c j) = e ∙ sym f

result_once : (setting : Setting) (a b : Score) (x y : Option Outcome) → a ≡ b → HasResult setting.start a x → HasResult setting.start b y → x ≡ y
result_once setting a b x y e g h =
    one_result (reached_by setting.start b) b.sign x y (subst (λ (s : Score). HasResult setting.start s x) e g) h

event_once : (setting : Setting) (past : List Event) (event : Event) (s e t f : Option Heard) → Valid setting.start → HearsEvent setting past event s e → HearsEvent setting past event t f
    → (s ≡ t) × (e ≡ f)
event_once setting past event s e t f valid g h =
    let before = folds_once setting.start (deduplicated (entries_in setting past)) g.before h.before valid g.folds_before h.folds_before in
    let after = folds_once setting.start (deduplicated (entries_in setting (event ∷ past))) g.after h.after valid g.folds h.folds in
    let old = result_once setting g.before h.before g.old h.old before g.old_is h.old_is in
    let new = result_once setting g.after h.after g.new h.new after g.new_is h.new_is in
    let P : Score → Type 0 = λ a. HearsPicture setting past event a g.after s in
    let Q : Score → Type 0 = λ a. HearsPicture setting past event h.before a s in
    let R : Option Outcome → Type 0 = λ o. HearsResult o g.new e in
    let S : Option Outcome → Type 0 = λ o. HearsResult h.old o e in (
      same_way setting past event h.before h.after s t (way_of setting past event h.before h.after s (subst Q after (subst P before g.shown_is)))
          (way_of setting past event h.before h.after t h.shown_is),
      same_outcomes h.old h.new e f (outcomes_of h.old h.new e (subst S new (subst R old g.ended_is))) (outcomes_of h.old h.new f h.ended_is),
    )

-- ---- what is heard of items

pub items_heard : (setting : Setting) (items : List Item) (a b : List Told) → Valid setting.start → Hears setting items a → Hears setting items b → a ≡ b
items_heard setting [] a b valid g h = g ∙ sym h
items_heard setting (Sent time x ∷ items) a b valid g h =
    let earlier = items_heard setting items g.0 h.0 valid g.3 h.3 in
    let both = event_once setting (events_of items) x.event g.1 g.2 h.1 h.2 valid g.4 h.4 in
    g.5 ∙ ap (λ (s : Option Heard). with_heard time.when.at g.2 (with_heard time.when.at s g.0)) both.0 ∙ ap (λ (e : Option Heard). with_heard time.when.at e (with_heard time.when.at h.1 g.0)) both.1
    ∙ ap (λ (l : List Told). with_heard time.when.at h.2 (with_heard time.when.at h.1 l)) earlier ∙ sym h.5
items_heard setting (Pair time offset r ∷ items) a b valid g h = items_heard setting items a b valid g h
items_heard setting (Noted time note ∷ items) a b valid g h =
    g.2 ∙ ap (λ (l : List Told). with_heard time (heard_of note) l) (items_heard setting items g.0 h.0 valid g.1 h.1) ∙ sym h.2

-- ---- what is told of what came

finds_same : RecoversOnce → (setting : Setting) (recovers : Bool) (past : List Event) (event : Event) (f g : Option Recovery) → Valid setting.start
    → Finds setting recovers past event f → Finds setting recovers past event g → f ≡ g
finds_same once setting false past event f g valid h k = h ∙ sym k
finds_same once setting true past event f g valid h k = recovers_same once setting past event f g valid h k

adds_same : RecoversOnce → (setting : Setting) (recovers : Bool) (time : Chunk) (past : List Event) (more : List Timed) (before others a b : List Item) → Valid setting.start
    → before ≡ others → Adds setting recovers time past more before a → Adds setting recovers time past more others b → a ≡ b
adds_same once setting recovers time past [] before others a b valid same g h = g ∙ same ∙ sym h
adds_same once setting recovers time past (x ∷ more) before others a b valid same g h =
    let here = map (λ (t : Timed). t.event) more ++ past in
    let earlier = adds_same once setting recovers time past more before others g.0 h.0 valid same g.2 h.2 in
    let found = finds_same once setting recovers here x.event g.1 h.1 valid g.3 h.3 in
    g.4 ∙ ap (λ (f : Option Recovery). with_found setting here time x f g.0) found ∙ ap (λ (items : List Item). with_found setting here time x h.1 items) earlier ∙ sym h.4

pub makes_once : ShowsOnce → RecoversOnce → (setting : Setting) (recovers : Bool) (past : List Came) (a b : List Item) → Valid setting.start → Makes setting recovers past a
    → Makes setting recovers past b → a ≡ b
makes_once shows once setting recovers [] a b valid g h = g ∙ sym h
makes_once shows once setting recovers (Bytes time bytes ∷ past) a b valid g h =
    let before = makes_once shows once setting recovers past g.0 h.0 valid g.3 h.3 in
    let events = same_shown shows (bytes_of past) g.1 h.1 g.4 h.4 in
    let all = same_shown shows (bytes_of past ++ bytes) (g.1 ++ reverse g.2) (h.1 ++ reverse h.2) g.5 h.5 in
    let turned : reverse g.2 ≡ reverse h.2 = append_cancel_left h.1 (reverse g.2) (reverse h.2) (ap (λ (es : List Timed). es ++ reverse g.2) (sym events) ∙ all) in
    let more : g.2 ≡ h.2 = sym (reverse-reverse g.2) ∙ ap (λ (es : List Timed). reverse es) turned ∙ reverse-reverse h.2 in
    let chunk : Chunk = chunk_of time (bytes_of past ++ bytes) in
    let A : List Timed → Type 0 = λ es. Adds setting recovers chunk (past_of es) g.2 g.0 a in
    let B : List Timed → Type 0 = λ es. Adds setting recovers chunk (past_of h.1) es g.0 a in
    adds_same once setting recovers chunk (past_of h.1) h.2 g.0 h.0 a b valid before (subst B more (subst A events g.6)) h.6
makes_once shows once setting recovers (News time note ∷ past) a b valid g h =
    g.2 ∙ ap (λ (items : List Item). Noted time note ∷ items) (makes_once shows once setting recovers past g.0 h.0 valid g.1 h.1) ∙ sym h.2

pub hears_once : ShowsOnce → RecoversOnce → HearsOnce
hears_once shows once setting recovers past a b valid g h =
    let items = makes_once shows once setting recovers past g.0 h.0 valid g.1 h.1 in
    items_heard setting h.0 a b valid (subst (λ (is : List Item). Hears setting is a) items g.2) h.2

pub opens_once : ShowsOnce → RecoversOnce → AlarmsOpenOnce → OpensOnce
opens_once shows once opens setting recovers past a b valid g h =
    let items = makes_once shows once setting recovers past g.0 h.0 valid g.1 h.1 in
    opens setting (alarm_items h.0) a b valid (subst (λ (is : List Item). AreOpen setting (alarm_items is) a) items g.2) h.2

pub stops_once : ShowsOnce → RecoversOnce → ClockStopsOnce → StopsOnce
stops_once shows once stops setting recovers past a b valid g h =
    let items = makes_once shows once setting recovers past g.0 h.0 valid g.1 h.1 in
    stops setting (alarm_items h.0) a b valid (subst (λ (is : List Item). ClockIsStopped setting (alarm_items is) a) items g.2) h.2

pub ends_once : ShowsOnce → RecoversOnce → EndingsAreOne → EndsOnce
ends_once shows once ends setting recovers past now a b valid g h =
    let items = makes_once shows once setting recovers past g.0 h.0 valid g.1 h.1 in
    ends setting (end_items h.0) now a b valid (subst (λ (is : List Item). IsEndAt setting (end_items is) now a) items g.2) h.2

pub end_due_once : ShowsOnce → RecoversOnce → DueOnce → EndDueOnce
end_due_once shows once dues setting recovers past now a b valid g h =
    let items = makes_once shows once setting recovers past g.0 h.0 valid g.1 h.1 in
    dues setting (end_items h.0) now a b valid (subst (λ (is : List Item). IsDueAt setting (end_items is) now a) items g.2) h.2

pub end_stays : ShowsOnce → RecoversOnce → SameUntilDue → EndStaysUntilDue
end_stays shows once same setting recovers past now later due end valid le fits before d e =
    let items = makes_once shows once setting recovers past d.0 e.0 valid d.1 e.1 in
    let D : List Item → Type 0 = λ is. IsDueAt setting (end_items is) now due in
    (e.0, e.1, same setting (end_items e.0) now later due end valid le fits before (subst D items d.2) e.2)
