-- The report where no pairs are recovered.
use Rattle.std.proofs.Common.{◌≡◌, inl, ℕ, false, List, [], ◌∷◌, ◌++◌, map, reverse, refl, sym, ap, subst, ◌∙◌}
use Rattle.std.proofs.lemmas.List.{reverse-append, reverse-reverse}
use Rattle.dgt_frame.specs.declared.events.Event.{Event}
use Rattle.dgt_frame.specs.Streams.{Shows, Timed}
use Rattle.board_events.specs.Commands.{past_of}
use Rattle.board_events.specs.Settings.{Setting}
use Rattle.board_alarms.specs.declared.chunk.Chunk.{Chunk}
use Rattle.board_listing.specs.GivenGame.{GameLine, text_of}
use Rattle.board_listing.specs.WatchLines.{position_words}
use Rattle.board_listing.specs.WatchText.{Watches, WatchesEvent, line_with}
use Rattle.board_listing.proofs.LineLemmas.{text_append}
use Rattle.board_game.specs.History.{Adds, AreShown, Bytes, Came, Item, Makes, News, Sent, bytes_of, chunk_of, events_of, with_found}
use Rattle.board_game.specs.Laws.{ReportsAsWatch}
use Rattle.board_game.specs.Report.{Reports, first_line}

abbrev pub ShowsOnce : Type 0
ShowsOnce = (bytes : List ℕ) (events others : List Timed) (rest other : ℕ) → Shows bytes events rest → Shows bytes others other → (events ≡ others) × (rest ≡ other)

pub same_shown : ShowsOnce → (bytes : List ℕ) (events others : List Timed) → AreShown bytes events → AreShown bytes others → events ≡ others
same_shown once bytes events others a b = (once bytes events others a.0 b.0 a.1 b.1).0

-- The items are these events, and the text is the lines of `watch` for them.
record Plain (setting : Setting) (items : List Item) (timed : List Timed) (text : List ℕ) : Type 0 where
  events_are : events_of items ≡ map (λ (t : Timed). t.event) timed
  lines : List GameLine
  watches : Watches setting timed lines
  text_is : text ≡ text_of lines

plain_first : (setting : Setting) (text : List ℕ) → text ≡ first_line setting → Plain setting [] [] text
plain_first setting text is = record {
  events_are = refl;
  lines = line_with 0 (position_words setting.start) ∷ [];
  watches = refl;
  text_is = is;
}

plain_more : (setting : Setting) (time : Chunk) (x : Timed) (items : List Item) (timed : List Timed) (before text : List ℕ) (lines : List GameLine) → Plain setting items timed before
    → WatchesEvent setting (events_of items) x lines → text ≡ before ++ text_of lines → Plain setting (Sent time x ∷ items) (x ∷ timed) text
plain_more setting time x items timed before text lines p watches is = record {
  events_are = ap (λ (es : List Event). x.event ∷ es) p.events_are;
  lines = lines ++ p.lines;
  watches = (p.lines, lines, p.watches, subst (λ (es : List Event). WatchesEvent setting es x lines) p.events_are watches, refl);
  text_is = is ∙ ap (λ (t : List ℕ). t ++ text_of lines) p.text_is ∙ sym (text_append lines p.lines);
}

adds_plain : (setting : Setting) (time : Chunk) (past : List Event) (more : List Timed) (before items : List Item) (timed : List Timed)
    → ((text : List ℕ) → Reports setting before text → Plain setting before timed text) → Adds setting false time past more before items
    → (text : List ℕ) → Reports setting items text → Plain setting items (more ++ timed) text
adds_plain setting time past [] before items timed plain is text reports =
    let R : List Item → Type 0 = λ is. Reports setting is text in
    let P : List Item → Type 0 = λ is. Plain setting is timed text in
    subst P (sym is) (plain text (subst R is reports))
adds_plain setting time past (x ∷ more) before items timed plain adds text reports =
    let here = map (λ (t : Timed). t.event) more ++ past in
    let is : items ≡ Sent time x ∷ adds.0 = adds.4 ∙ ap (λ found. with_found setting here time x found adds.0) adds.3 in
    let R : List Item → Type 0 = λ is. Reports setting is text in
    let P : List Item → Type 0 = λ is. Plain setting is (x ∷ (more ++ timed)) text in
    let told = subst R is reports in
    subst P (sym is)
    (plain_more setting time x adds.0 (more ++ timed) told.0 text told.1 (adds_plain setting time past more before adds.0 timed plain adds.2 told.0 told.2) told.3 told.4)

makes_plain : ShowsOnce → (setting : Setting) (past : List Came) (items : List Item) (events : List Timed) → AreShown (bytes_of past) events → Makes setting false past items
    → (text : List ℕ) → Reports setting items text → Plain setting items (reverse events) text
makes_plain once setting [] items events shown makes text reports =
    let none : events ≡ [] = same_shown once [] events [] shown (0, (inl refl, refl)) in
    let R : List Item → Type 0 = λ is. Reports setting is text in
    let P : List Item → List Timed → Type 0 = λ is es. Plain setting is (reverse es) text in
    subst (λ is. P is events) (sym makes) (subst (P []) (sym none) (plain_first setting text (subst R makes reports)))
makes_plain once setting (Bytes time bytes ∷ past) items events shown makes text reports =
    let es = makes.1 in
    let more = makes.2 in
    let same : events ≡ es ++ reverse more = same_shown once (bytes_of past ++ bytes) events (es ++ reverse more) shown makes.5 in
    let turned : reverse events ≡ more ++ reverse es =
    ap (λ (xs : List Timed). reverse xs) same ∙ reverse-append es (reverse more) ∙ ap (λ (xs : List Timed). xs ++ reverse es) (reverse-reverse more) in
    let P : List Timed → Type 0 = λ xs. Plain setting items xs text in
    subst P (sym turned) (adds_plain setting (chunk_of time (bytes_of past ++ bytes)) (past_of es) more makes.0 items (reverse es)
    (λ t r. makes_plain once setting past makes.0 es makes.4 makes.3 t r) makes.6 text reports)
makes_plain once setting (News time note ∷ past) items events shown makes text reports =
    let R : List Item → Type 0 = λ is. Reports setting is text in
    let P : List Item → Type 0 = λ is. Plain setting is (reverse events) text in
    let plain = makes_plain once setting past makes.0 events shown makes.1 text (subst R makes.2 reports) in
    subst P (sym makes.2) (record { events_are = plain.events_are; lines = plain.lines; watches = plain.watches; text_is = plain.text_is })

pub reports_as_watch : ShowsOnce → ReportsAsWatch
reports_as_watch once setting past events text shown report =
    let plain = makes_plain once setting past report.0 events shown report.1 text report.2 in
    (plain.lines, plain.watches, plain.text_is)
