-- Lists of events that give the same game.
use Rattle.std.proofs.Common.{inl, inr, ◌≡◌, ℕ, ◌==◌, Bool, true, false, if◌then◌else◌, List, [], ◌∷◌, ◌++◌, get_or, Option, Some, refl, sym, ap, ◌∙◌}
use Rattle.std.proofs.lemmas.List.{append-nil}
use Rattle.std.proofs.lemmas.Slice.Eq.{bytes_eq-Decides}
use Rattle.std.proofs.lemmas.Option.{same_Some}
use Rattle.std.specs.List.{AllByRecursion}
use Rattle.dgt_frame.specs.declared.events.Message.TheVariants.{Dump, Update, Time, Other}
use Rattle.dgt_frame.specs.declared.events.Event.{Event}
use Rattle.dgt_frame.specs.declared.events.Event.TheVariants.{Message as MessageEvent, Fault}
use Rattle.dgt_frame.specs.declared.events.FaultKind.{FaultKind}
use Rattle.dgt_frame.specs.declared.First.{First}
use Rattle.chess_clock.specs.declared.Reading.{Reading}
use Rattle.settle_core.specs.Entries.{Entry, entry_of, last_picture, repeats, deduplicated}
use Rattle.settle_core.proofs.Repeats.{repeated_last, repeats_by}
use Rattle.chess_game.specs.Games.{Content}
use Rattle.chess_game.specs.Values.{TagValues}
use Rattle.board_events.specs.Settings.{Setting}
use Rattle.board_events.specs.History.{decides, is_fault, is_trusted, picture_of, reading_at, reading_said, turned}
use Rattle.board_events.specs.Entries.{Idle, entries, entry_at, is_entry}
use Rattle.board_events.specs.Session.{entries_in}
use Rattle.board_events.specs.Game.{IsGameOf}
use Rattle.board_events.specs.Commands.{asked, asks}
use Rattle.board_session.specs.Laws.{FaultsAskOnce, FaultsBeforeDumpsCanGo, IdleEventsCanGo, IsQuiet, IsTextOf, TellTheSame, Thins}
use Rattle.board_events.proofs.PictureLemmas.{length-picture_of, picture_at, picture_is}
use Rattle.board_events.proofs.TakeLemmas.{entries_updated, seen_before}

-- The two lists leave a session alike.
record Alike (first : First) (rotated : Bool) (a b : List Event) : Type 0 where
  trust : is_trusted a ≡ is_trusted b
  reading : reading_at first a ≡ reading_at first b
  pictures : deduplicated (entries first rotated a) ≡ deduplicated (entries first rotated b)

-- one more entry, where those before are deduplicated
abbrev onto : Entry → List Entry → List Entry
onto entry list = if repeats entry.picture list then list else entry ∷ list

last_repeats : (picture : List ℕ) (past : List Entry) → Some picture ≡ last_picture past → repeats picture past ≡ true
last_repeats picture [] h = absurd (let never : ⊥ = cc in never)
last_repeats picture (before ∷ past) h = let d = bytes_eq-Decides picture before.picture in d.1 (same_Some _ _ h)

last_onto : (entry : Entry) (past : List Entry) (again : Bool) → repeats entry.picture past ≡ again → last_picture (deduplicated past) ≡ last_picture past
    → last_picture (deduplicated (entry ∷ past)) ≡ Some entry.picture
last_onto entry past true h rest = rw h (rest ∙ repeated_last entry.picture past h)
last_onto entry past false h rest = rw h refl

last_deduplicated : (list : List Entry) → last_picture (deduplicated list) ≡ last_picture list
last_deduplicated [] = refl
last_deduplicated (entry ∷ past) = last_onto entry past (repeats entry.picture past) refl (last_deduplicated past)

deduplicated_onto : (entry : Entry) (list : List Entry) → deduplicated (entry ∷ list) ≡ onto entry (deduplicated list)
deduplicated_onto entry list = rw (repeats_by entry.picture (deduplicated list) list (last_deduplicated list)) refl

same_onto : (entry other : Entry) (list short : List Entry) → entry ≡ other → deduplicated list ≡ deduplicated short → deduplicated (entry ∷ list) ≡ deduplicated (other ∷ short)
same_onto entry other list short e h = deduplicated_onto entry list ∙ rw (e, h) (sym (deduplicated_onto other short))

-- of trusted boards that leave a session alike, the pictures are the same
same_picture : (first : First) (rotated : Bool) (a b : List Event) → Alike first rotated a b → is_trusted a ≡ true → picture_of rotated a ≡ picture_of rotated b
same_picture first rotated a b h t =
    let here = seen_before first rotated a t in
    let there = seen_before first rotated b (sym h.trust ∙ t) in
    let last : Some here.0.picture ≡ Some there.0.picture = ap last_picture (sym here.2) ∙ sym (last_deduplicated (entries first rotated a))
    ∙ ap last_picture h.pictures ∙ last_deduplicated (entries first rotated b) ∙ ap last_picture there.2 in
    sym here.3 ∙ same_Some _ _ last ∙ there.3

same_updated : (rotated : Bool) (field code : ℕ) (a b : List Event) → picture_of rotated a ≡ picture_of rotated b
    → picture_of rotated (MessageEvent (Update field code) ∷ a) ≡ picture_of rotated (MessageEvent (Update field code) ∷ b)
same_updated rotated field code a b h = picture_is rotated (MessageEvent (Update field code) ∷ b) (picture_of rotated (MessageEvent (Update field code) ∷ a))
    (length-picture_of rotated (MessageEvent (Update field code) ∷ a))
    (λ square s. picture_at rotated (MessageEvent (Update field code) ∷ a) square s
    ∙ ap (λ (n : ℕ). if field == turned rotated square then code else n)
    (sym (picture_at rotated a square s) ∙ ap (λ (p : List ℕ). get_or p square 0) h ∙ picture_at rotated b square s))

same_dumped : (rotated : Bool) (codes : List ℕ) (a b : List Event) → picture_of rotated (MessageEvent (Dump codes) ∷ a) ≡ picture_of rotated (MessageEvent (Dump codes) ∷ b)
unfolding picture_of
same_dumped rotated codes a b = refl

entry_same : (picture other : List ℕ) (reading reading' : Option Reading) → picture ≡ other → reading ≡ reading' → entry_of picture reading ≡ entry_of other reading'
entry_same picture other reading reading' h k = rw (h, k) refl

update_alike : (first : First) (rotated : Bool) (field code : ℕ) (a b : List Event) (trusted : Bool) → is_trusted a ≡ trusted → Alike first rotated a b
    → deduplicated (entries first rotated (MessageEvent (Update field code) ∷ a)) ≡ deduplicated (entries first rotated (MessageEvent (Update field code) ∷ b))
update_alike first rotated field code a b true t h =
    let there : is_trusted b ≡ true = sym h.trust ∙ t in
    rw (entries_updated first rotated field code a t, entries_updated first rotated field code b there)
    (same_onto (entry_at first rotated (MessageEvent (Update field code) ∷ a)) (entry_at first rotated (MessageEvent (Update field code) ∷ b)) (entries first rotated a) (entries first rotated b)
    (entry_same (picture_of rotated (MessageEvent (Update field code) ∷ a)) (picture_of rotated (MessageEvent (Update field code) ∷ b)) (reading_at first a) (reading_at first b)
    (same_updated rotated field code a b (same_picture first rotated a b h t)) h.reading) h.pictures)
update_alike first rotated field code a b false t h = let there : is_trusted b ≡ false = sym h.trust ∙ t in rw (t, there) h.pictures

alike_more : (first : First) (rotated : Bool) (a b : List Event) (event : Event) → Alike first rotated a b → Alike first rotated (event ∷ a) (event ∷ b)
alike_more first rotated a b (MessageEvent (Dump codes)) h = record {
  trust = refl;
  reading = h.reading;
  pictures = same_onto (entry_at first rotated (MessageEvent (Dump codes) ∷ a)) (entry_at first rotated (MessageEvent (Dump codes) ∷ b)) (entries first rotated a) (entries first rotated b)
      (entry_same (picture_of rotated (MessageEvent (Dump codes) ∷ a)) (picture_of rotated (MessageEvent (Dump codes) ∷ b)) (reading_at first a) (reading_at first b) (same_dumped rotated codes a b) h.reading) h.pictures;
}
alike_more first rotated a b (MessageEvent (Update field code)) h = record { trust = h.trust; reading = h.reading; pictures = update_alike first rotated field code a b (is_trusted a) refl h }
alike_more first rotated a b (MessageEvent (Time times)) h = record {
  trust = h.trust;
  reading = ap (λ (r : Option Reading). if decides times then reading_said first times else r) h.reading;
  pictures = h.pictures;
}
alike_more first rotated a b (MessageEvent (Other id size)) h = record { trust = h.trust; reading = h.reading; pictures = h.pictures }
alike_more first rotated a b (Fault kind) h = record { trust = refl; reading = h.reading; pictures = h.pictures }

alike_many : (first : First) (rotated : Bool) (a b later : List Event) → Alike first rotated a b → Alike first rotated (later ++ a) (later ++ b)
alike_many first rotated a b [] h = h
alike_many first rotated a b (event ∷ later) h = alike_more first rotated (later ++ a) (later ++ b) event (alike_many first rotated a b later h)

-- an entry whose picture was the last one
repeated : (entry : Entry) (list : List Entry) → Some entry.picture ≡ last_picture list → deduplicated (entry ∷ list) ≡ deduplicated list
repeated entry list h = rw (last_repeats entry.picture list h) refl

idle_entry : (first : First) (rotated : Bool) (past : List Event) (event : Event) (given : Bool) → is_entry event past ≡ given
    → last_picture (entries first rotated (event ∷ past)) ≡ last_picture (entries first rotated past)
    → deduplicated (entries first rotated (event ∷ past)) ≡ deduplicated (entries first rotated past)
idle_entry first rotated past event true e h =
    let are : entries first rotated (event ∷ past) ≡ entry_at first rotated (event ∷ past) ∷ entries first rotated past = rw e refl in
    rw are (repeated (entry_at first rotated (event ∷ past)) (entries first rotated past) (ap last_picture (sym are) ∙ h))
idle_entry first rotated past event false e h = rw e refl

idle_alike : (first : First) (rotated : Bool) (past : List Event) (event : Event) → Idle first rotated past event → Alike first rotated (event ∷ past) past
idle_alike first rotated past event h = record { trust = h.trust; reading = h.reading; pictures = idle_entry first rotated past event (is_entry event past) refl h.picture }

thins_alike : (first : First) (rotated : Bool) (past short : List Event) → Thins first rotated past short → Alike first rotated past short
thins_alike first rotated [] short h = rw h (record { trust = refl; reading = refl; pictures = refl })
thins_alike first rotated (event ∷ past) short (inl h) =
    let here = idle_alike first rotated past event h.0 in
    let there = thins_alike first rotated past short h.1 in
    record { trust = here.trust ∙ there.trust; reading = here.reading ∙ there.reading; pictures = here.pictures ∙ there.pictures }
thins_alike first rotated (event ∷ past) short (inr h) =
    rw h.1 (alike_more first rotated past h.0 event (thins_alike first rotated past h.0 h.2))

-- Quiet messages hide no fault.
quiet_reading : (first : First) (between before : List Event) (kind : FaultKind) → AllByRecursion IsQuiet between
    → reading_at first (between ++ Fault kind ∷ before) ≡ reading_at first (between ++ before)
quiet_reading first [] before kind h = refl
quiet_reading first (MessageEvent (Dump codes) ∷ between) before kind h = absurd h.0
quiet_reading first (MessageEvent (Update field code) ∷ between) before kind h = absurd h.0
quiet_reading first (MessageEvent (Time times) ∷ between) before kind h =
    ap (λ (r : Option Reading). if decides times then reading_said first times else r) (quiet_reading first between before kind h.1)
quiet_reading first (MessageEvent (Other id size) ∷ between) before kind h = quiet_reading first between before kind h.1
quiet_reading first (Fault other ∷ between) before kind h = absurd h.0

quiet_entries : (first : First) (rotated : Bool) (between before : List Event) (kind : FaultKind) → AllByRecursion IsQuiet between
    → entries first rotated (between ++ Fault kind ∷ before) ≡ entries first rotated (between ++ before)
quiet_entries first rotated [] before kind h = refl
quiet_entries first rotated (MessageEvent (Dump codes) ∷ between) before kind h = absurd h.0
quiet_entries first rotated (MessageEvent (Update field code) ∷ between) before kind h = absurd h.0
quiet_entries first rotated (MessageEvent (Time times) ∷ between) before kind h = quiet_entries first rotated between before kind h.1
quiet_entries first rotated (MessageEvent (Other id size) ∷ between) before kind h = quiet_entries first rotated between before kind h.1
quiet_entries first rotated (Fault other ∷ between) before kind h = absurd h.0

fault_alike : (first : First) (rotated : Bool) (later between before : List Event) (codes : List ℕ) (kind : FaultKind) → AllByRecursion IsQuiet between
    → Alike first rotated (later ++ MessageEvent (Dump codes) ∷ (between ++ Fault kind ∷ before)) (later ++ MessageEvent (Dump codes) ∷ (between ++ before))
fault_alike first rotated later between before codes kind h =
    let reading = quiet_reading first between before kind h in
    alike_many first rotated (MessageEvent (Dump codes) ∷ (between ++ Fault kind ∷ before)) (MessageEvent (Dump codes) ∷ (between ++ before)) later
    (record {
      trust = refl;
      reading = reading;
      pictures = same_onto (entry_at first rotated (MessageEvent (Dump codes) ∷ (between ++ Fault kind ∷ before))) (entry_at first rotated (MessageEvent (Dump codes) ∷ (between ++ before)))
          (entries first rotated (between ++ Fault kind ∷ before)) (entries first rotated (between ++ before))
          (entry_same (picture_of rotated (MessageEvent (Dump codes) ∷ (between ++ Fault kind ∷ before))) (picture_of rotated (MessageEvent (Dump codes) ∷ (between ++ before)))
          (reading_at first (between ++ Fault kind ∷ before)) (reading_at first (between ++ before)) (same_dumped rotated codes (between ++ Fault kind ∷ before) (between ++ before)) reading)
          (ap deduplicated (quiet_entries first rotated between before kind h));
    })

game_from : (game : Content) (setting : Setting) (tags : TagValues) (a b : List Event) → deduplicated (entries_in setting a) ≡ deduplicated (entries_in setting b)
    → IsGameOf game setting tags a → IsGameOf game setting tags b
game_from game setting tags a b h is =
    record { sign = is.sign; tags_are = is.tags_are; start_is = is.start_is; folds = rw (← h) is.folds; line = is.line; result_is = is.result_is }

text_from : (text : List ℕ) (setting : Setting) (tags : TagValues) (a b : List Event) → deduplicated (entries_in setting a) ≡ deduplicated (entries_in setting b)
    → IsTextOf text setting tags a → IsTextOf text setting tags b
text_from text setting tags a b h (game, is, says) = (game, game_from game setting tags a b h is, says)

tell_the_same : (setting : Setting) (a b : List Event) → Alike setting.first setting.rotated a b → TellTheSame setting a b
tell_the_same setting a b h = record {
  pictures = h.pictures;
  game = λ tags game. (game_from game setting tags a b h.pictures, game_from game setting tags b a (sym h.pictures));
  text = λ tags text. (text_from text setting tags a b h.pictures, text_from text setting tags b a (sym h.pictures));
}

pub idle_events_can_go : IdleEventsCanGo
idle_events_can_go setting past short h = tell_the_same setting past short (thins_alike setting.first setting.rotated past short h)

pub faults_before_dumps_can_go : FaultsBeforeDumpsCanGo
faults_before_dumps_can_go setting later between before codes kind h =
    tell_the_same setting (later ++ MessageEvent (Dump codes) ∷ (between ++ Fault kind ∷ before)) (later ++ MessageEvent (Dump codes) ∷ (between ++ before))
    (fault_alike setting.first setting.rotated later between before codes kind h)

swapped : (asked_so_far : List ℕ) (is : Bool) → (asked_so_far ++ 0x42 ∷ []) ++ (if is then 0x42 ∷ [] else []) ≡ (asked_so_far ++ (if is then 0x42 ∷ [] else [])) ++ 0x42 ∷ []
swapped asked_so_far true = refl
swapped asked_so_far false = append-nil (asked_so_far ++ 0x42 ∷ []) ∙ ap (λ (xs : List ℕ). xs ++ 0x42 ∷ []) (sym (append-nil asked_so_far))

pub one_less : FaultsAskOnce
one_less [] before kind = refl
one_less (event ∷ later) before kind = ap (λ (xs : List ℕ). xs ++ asked event) (one_less later before kind) ∙ swapped (asks (later ++ before)) (is_fault event)
