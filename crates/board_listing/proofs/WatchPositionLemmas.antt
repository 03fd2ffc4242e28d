-- The positions that the lines of `watch` tell.
use Rattle.std.proofs.Common.{◌≡◌, ◌<◌, ◌∙◌, inl, inr, ℕ, Bool, true, false, List, [], ◌∷◌, ◌++◌, codes, drop, Option, None, ap, refl, sym, subst, append_assoc}
use Rattle.std.specs.Prelude.{⊤, if◌then◌else◌, not, ◌||◌}
use Rattle.std.specs.List.{AllByRecursion, flat_map}
use Rattle.chess_clock.specs.declared.Reading.{Reading}
use Rattle.chess_rules.specs.declared.chess_move.Move.{Move}
use Rattle.chess_rules.specs.declared.parts.Parts.{Parts}
use Rattle.chess_rules.specs.Picture.{picture}
use Rattle.chess_rules.specs.Valid.{Valid}
use Rattle.chess_text.specs.Laws.{TextsArePlain}
use Rattle.chess_text.proofs.FenTexts.{All-append}
use Rattle.dgt_frame.specs.declared.events.Event.{Event}
use Rattle.dgt_frame.specs.declared.events.Event.TheVariants.{Message, Fault}
use Rattle.dgt_frame.specs.Streams.{Timed}
use Rattle.settle_core.specs.declared.plies.Outcome.{Outcome}
use Rattle.settle_core.specs.declared.plies.Ply.{Ply}
use Rattle.settle_core.specs.declared.plies.Seen.{Seen}
use Rattle.settle_core.specs.declared.plies.Seen.TheVariants.{Same, Moved, Sign, Replaced, Waits}
use Rattle.settle_core.specs.Entries.{Entry, repeats, deduplicated}
use Rattle.settle_core.specs.Folding.{Folds, Replaces, Score, SeenAs, moves_of, played, score_after}
use Rattle.settle_core.specs.GameResult.{IsResult}
use Rattle.settle_core.specs.Settling.{reached}
use Rattle.settle_core.proofs.Once.{folds_once}
use Rattle.settle_core.proofs.Repeats.{with_new}
use Rattle.board_events.specs.Entries.{entry_at, is_entry}
use Rattle.board_events.specs.History.{is_fault}
use Rattle.board_events.specs.Limits.{limit}
use Rattle.board_events.specs.Settings.{Setting}
use Rattle.board_events.specs.Session.{entries_in}
use Rattle.board_events.proofs.GameLemmas.{one_result}
use Rattle.watched_streams.specs.Lines.{line}
use Rattle.board_listing.specs.EventLines.{kind_text, line_of}
use Rattle.board_listing.specs.GameLines.{move_words, result_words, squares_text, waiting_words}
use Rattle.board_listing.specs.GameText.{HasResult, TellsEntry, TellsEvent, TellsPly, TellsResult, TellsSeen, reached_by}
use Rattle.board_listing.specs.GivenGame.{ChangesGame, GameLine, Gives, text_of}
use Rattle.board_listing.specs.WatchLaws.{NamesPositions, WatchNamesThePositions, game_lines}
use Rattle.board_listing.specs.WatchLines.{position_words, tells_change, tells_game, tells_picture, tells_position, tells_reading}
use Rattle.board_listing.specs.WatchText.{IsGameLine, ShowsPicture, ShowsReading, Watches, WatchesEvent, line_with, with_position}
use Rattle.board_listing.proofs.FollowLemmas.{clash, entries_new, entries_same, fault_gives_none}
use Rattle.board_listing.proofs.GivenGameLemmas.{made}
use Rattle.board_listing.proofs.LineLemmas.{text_append}
use Rattle.board_listing.proofs.OnceLemmas.{gives_played}
use Rattle.board_listing.proofs.PlacedLemmas.{fault_kinds}
use Rattle.board_listing.proofs.TextLemmas.{IsLine, Printed, fault_printed, lines_once, words_printed}
use Rattle.board_listing.proofs.WatchLawLemmas.{all_of_event, events_of, game_of_event, game_of_followed, game_of_pictured, with_if}

-- Lines behind others, each of which, where it changes the game, has led to this position.
abbrev Reaches : Parts → Parts → List GameLine → List GameLine → Type 0
Reaches start p [] before = ⊤
Reaches start p (told ∷ earlier) before = (tells_change told.words ≡ true → (plies : List Ply) × (result : Option Outcome)
    × Gives start (told ∷ (earlier ++ before)) plies result × (p ≡ reached start (moves_of plies))) × Reaches start p earlier before

-- Lines with this offset that have this text, and what they give behind those before them.
record Reached (offset : ℕ) (start p : Parts) (before : List GameLine) (text : List ℕ) (plies : List Ply) (result : Option Outcome) : Type 0 where
  lines : List GameLine
  text_is : text ≡ text_of lines
  gives : Gives start (lines ++ before) plies result
  reaches : Reaches start p lines before
  offsets : AllByRecursion (λ told. told.offset ≡ offset) lines
  printed : AllByRecursion (λ told. Printed told.words) lines

none_reached : (offset : ℕ) (start p : Parts) (before : List GameLine) (text : List ℕ) (plies : List Ply) (result : Option Outcome) → text ≡ [] → Gives start before plies result
    → Reached offset start p before text plies result
none_reached offset start p before text plies result none gives = record { lines = []; text_is = none; gives = gives; reaches = tt; offsets = tt; printed = tt }

one_reached : TextsArePlain → (offset : ℕ) (start p : Parts) (before : List GameLine) (words text : List ℕ) (old_plies plies : List Ply) (old result : Option Outcome) → Valid start
    → Gives start before old_plies old → ChangesGame start words old_plies old plies result → text ≡ line offset words → p ≡ reached start (moves_of plies)
    → Reached offset start p before text plies result
one_reached law offset start p before words text old_plies plies old result valid gives changes is p_is = record {
  lines = line_with offset words ∷ [];
  text_is = is;
  gives = (old_plies, old, gives, changes);
  reaches = (λ change. (plies, result, (old_plies, old, gives, changes), p_is), tt);
  offsets = (refl, tt);
  printed = (words_printed law start old_plies old words plies result valid (gives_played start before old_plies old gives) changes, tt);
}

reaches_both : (start p : Parts) (new old before : List GameLine) → Reaches start p new (old ++ before) → Reaches start p old before → Reaches start p (new ++ old) before
reaches_both start p [] old before h k = k
reaches_both start p (told ∷ new) old before h k =
    let G : List GameLine → Type 0 = λ ls. (plies : List Ply) × (result : Option Outcome) × Gives start (told ∷ ls) plies result × (p ≡ reached start (moves_of plies)) in
    (λ change. subst G (sym (append_assoc new old before)) (h.0 change), reaches_both start p new old before h.1 k)

both_reached : (offset : ℕ) (start p : Parts) (before : List GameLine) (first second : List ℕ) (plies plies' : List Ply) (result result' : Option Outcome)
    (a : Reached offset start p before first plies result) → Reached offset start p (a.lines ++ before) second plies' result' → Reached offset start p before (first ++ second) plies' result'
both_reached offset start p before first second plies plies' result result' a b =
    let G : List GameLine → Type 0 = λ ls. Gives start ls plies' result' in
    record {
      lines = b.lines ++ a.lines;
      text_is = ap (λ t. t ++ second) a.text_is ∙ ap (λ t. text_of a.lines ++ t) b.text_is ∙ sym (text_append b.lines a.lines);
      gives = subst G (sym (append_assoc b.lines a.lines before)) b.gives;
      reaches = reaches_both start p b.lines a.lines before b.reaches a.reaches;
      offsets = All-append (λ (told : GameLine). told.offset ≡ offset) b.lines a.lines b.offsets a.offsets;
      printed = All-append (λ (told : GameLine). Printed told.words) b.lines a.lines b.printed a.printed;
    }

replaced_reached : TextsArePlain → (offset : ℕ) (start : Parts) (plies : List Ply) (reading : Option Reading) (m : Move) (shown text : List ℕ) (before : List GameLine) (old : Option Outcome) → Valid start
    → Replaces start (moves_of plies) shown m → TellsPly offset (codes "correction") start (played start (drop 1 plies) reading m).plies text → Gives start before plies old
    → Reached offset start (reached_by start (played start (drop 1 plies) reading m)) before text (played start (drop 1 plies) reading m).plies old
replaced_reached law offset start [] reading m shown text before old valid replaces tells gives = absurd replaces
replaced_reached law offset start (last ∷ earlier) reading m shown text before old valid replaces tells gives =
    let ply = made start earlier reading m in
    let p = reached start (moves_of earlier) in
    one_reached law offset start (reached start (moves_of (ply ∷ earlier))) before (move_words (codes "correction") p tells.0 ply.clock) text (last ∷ earlier) (ply ∷ earlier) old old valid gives
    (inr (inl ((ply, refl, record { san = tells.0; legal = replaces.0.legal; san_is = tells.1; words_are = refl }), refl))) tells.2 refl

seen_reached : TextsArePlain → (offset : ℕ) (start : Parts) (score : Score) (reading : Option Reading) (shown : List ℕ) (seen : Seen) (text : List ℕ) (before : List GameLine) (old : Option Outcome) → Valid start
    → SeenAs start (moves_of score.plies) shown seen → TellsSeen offset start (score_after start score reading seen) shown seen text → Gives start before score.plies old
    → Reached offset start (reached_by start (score_after start score reading seen)) before text (score_after start score reading seen).plies old
seen_reached law offset start score reading shown Same text before old valid shows tells gives = absurd shows
seen_reached law offset start score reading shown (Sign outcome) text before old valid shows tells gives =
    none_reached offset start (reached_by start score) before text score.plies old tells gives
seen_reached law offset start score reading shown Waits text before old valid shows tells gives =
    let squares = squares_text (picture (reached_by start score)) shown in
    one_reached law offset start (reached_by start score) before (waiting_words squares) text score.plies score.plies old old valid gives (inr (inr (inr (refl, refl, inl (shown, refl))))) tells refl
seen_reached law offset start score reading shown (Moved m) text before old valid shows tells gives =
    let ply = made start score.plies reading m in
    let p = reached start (moves_of score.plies) in
    one_reached law offset start (reached start (moves_of (ply ∷ score.plies))) before (move_words (codes "move") p tells.0 ply.clock) text score.plies (ply ∷ score.plies) old old valid gives
    (inl ((ply, refl, record { san = tells.0; legal = shows.legal; san_is = tells.1; words_are = refl }), refl)) tells.2 refl
seen_reached law offset start score reading shown (Replaced m) text before old valid shows tells gives =
    replaced_reached law offset start score.plies reading m shown text before old valid shows.2 tells gives

result_reached : TextsArePlain → (offset : ℕ) (start : Parts) (before : List GameLine) (plies : List Ply) (old new : Option Outcome) (text : List ℕ) → Valid start
    → TellsResult offset old new text → Gives start before plies old → Reached offset start (reached start (moves_of plies)) before text plies new
result_reached law offset start before plies old new text valid (inl (same, none)) gives =
    let P : Option Outcome → Type 0 = λ r. Gives start before plies r in
    none_reached offset start (reached start (moves_of plies)) before text plies new none (subst P (sym same) gives)
result_reached law offset start before plies old new text valid (inr (other, is)) gives =
    one_reached law offset start (reached start (moves_of plies)) before (result_words new) text plies plies old new valid gives (inr (inr (inl (refl, refl)))) is refl

entry_reached : TextsArePlain → (offset : ℕ) (start : Parts) (past : List Entry) (entry : Entry) (text : List ℕ) (e : TellsEntry offset start past entry text) (before : List GameLine) → Valid start
    → Gives start before e.before.plies e.old
    → Reached offset start (reached_by start (score_after start e.before entry.reading e.seen)) before text (score_after start e.before entry.reading e.seen).plies e.new
entry_reached law offset start past entry text e before valid gives =
    let after = score_after start e.before entry.reading e.seen in
    let p = reached_by start after in
    let one = seen_reached law offset start e.before entry.reading entry.picture e.seen e.first before e.old valid e.shows e.first_is gives in
    let two = result_reached law offset start (one.lines ++ before) after.plies e.old e.new e.second valid e.second_is one.gives in
    let R : List ℕ → Type 0 = λ t. Reached offset start p before t after.plies e.new in
    subst R (sym e.text_is) (both_reached offset start p before e.first e.second after.plies after.plies e.old e.new one two)

-- ---- lines by their text

lines_in : (offset : ℕ) (lines : List GameLine) → offset < limit → AllByRecursion (λ told. told.offset ≡ offset) lines → AllByRecursion (λ told. Printed told.words) lines → AllByRecursion IsLine lines
lines_in offset [] low h k = tt
lines_in offset (told ∷ lines) low h k = ((subst (λ n. n < limit) (sym h.0) low, k.0), lines_in offset lines low h.1 k.1)

pub followed_in : (offset : ℕ) (lines : List GameLine) → offset < limit → AllByRecursion (IsGameLine offset) lines → AllByRecursion IsLine lines
followed_in offset [] low h = tt
followed_in offset (told ∷ lines) low h = ((subst (λ n. n < limit) (sym h.0.offset_is) low, h.0.one), followed_in offset lines low h.1)

-- ---- one event

-- What the lines of the game give up to an event, and that its own reach the position.
record Steps (setting : Setting) (events : List Timed) (x : Timed) (p : Parts) (before followed : List GameLine) : Type 0 where
  score : Score
  folds : Folds setting.start (deduplicated (entries_in setting (events_of (x ∷ events)))) score
  told : (outcome : Option Outcome) → HasResult setting.start score outcome → Gives setting.start (followed ++ before) score.plies outcome
  reaches : Reaches setting.start p followed before

-- What was told of these events gives the plies of the score to which their entries fold, and its positions are those
-- of the moves.
pub record Named (setting : Setting) (events : List Timed) (lines : List GameLine) : Type 0 where
  pub score : Score
  pub folds : Folds setting.start (deduplicated (entries_in setting (events_of events))) score
  pub told : (outcome : Option Outcome) → HasResult setting.start score outcome → Gives setting.start (game_lines lines) score.plies outcome
  pub names : (begin : Option Outcome) → IsResult setting.start None begin → NamesPositions setting.start lines

-- No line of the game came.
no_step : (setting : Setting) (events : List Timed) (x : Timed) (p : Parts) (lines followed : List GameLine) → Named setting events lines
    → deduplicated (entries_in setting (events_of (x ∷ events))) ≡ deduplicated (entries_in setting (events_of events)) → followed ≡ [] → Steps setting events x p (game_lines lines) followed
no_step setting events x p lines followed g same none =
    let P : List Entry → Type 0 = λ es. Folds setting.start es g.score in
    let G : List GameLine → Type 0 = λ ls. (outcome : Option Outcome) → HasResult setting.start g.score outcome → Gives setting.start (ls ++ game_lines lines) g.score.plies outcome in
    let R : List GameLine → Type 0 = λ ls. Reaches setting.start p ls (game_lines lines) in
    record { score = g.score; folds = subst P (sym same) g.folds; told = subst G (sym none) g.told; reaches = subst R (sym none) tt }

-- A fault came.
fault_step : (setting : Setting) (events : List Timed) (offset : ℕ) (event : Event) (p : Parts) (lines followed : List GameLine) → Named setting events lines → offset < limit
    → deduplicated (entries_in setting (event ∷ events_of events)) ≡ deduplicated (entries_in setting (events_of events)) → AllByRecursion (IsGameLine offset) followed
    → is_fault event ≡ true → text_of followed ≡ line_of (record { offset = offset; event = event })
    → Steps setting events (record { offset = offset; event = event }) p (game_lines lines) followed
fault_step setting events offset (Message m) p lines followed g low same each fault is = absurd (clash fault refl)
fault_step setting events offset (Fault kind) p lines followed g low same each fault is =
    let words = codes "fault " ++ kind_text kind in
    let one = line_with offset words ∷ [] in
    let followed_is : followed ≡ one = lines_once followed one (followed_in offset followed low each) ((low, fault_printed kind), tt) is in
    let P : List Entry → Type 0 = λ es. Folds setting.start es g.score in
    let G : List GameLine → Type 0 = λ ls. (outcome : Option Outcome) → HasResult setting.start g.score outcome → Gives setting.start (ls ++ game_lines lines) g.score.plies outcome in
    let R : List GameLine → Type 0 = λ ls. Reaches setting.start p ls (game_lines lines) in
    let change = fault_kinds kind in
    record {
      score = g.score;
      folds = subst P (sym same) g.folds;
      told = subst G (sym followed_is) (λ outcome has. (g.score.plies, outcome, g.told outcome has, inr (inr (inr (refl, refl, inr (kind, refl))))));
      reaches = subst R (sym followed_is) (λ changes. absurd (clash changes change.0), tt);
    }

-- An entry came, whose picture is a new one.
entry_step : TextsArePlain → (setting : Setting) (events : List Timed) (x : Timed) (lines : List GameLine) (e : Score) (followed : List GameLine) → Valid setting.start → Named setting events lines → x.offset < limit
    → Folds setting.start (deduplicated (entries_in setting (events_of (x ∷ events)))) e → AllByRecursion (IsGameLine x.offset) followed → TellsEvent setting (events_of events) x (text_of followed)
    → is_entry x.event (events_of events) ≡ true
    → repeats (entry_at setting.first setting.rotated (x.event ∷ events_of events)).picture (entries_in setting (events_of events)) ≡ false
    → Steps setting events x (reached_by setting.start e) (game_lines lines) followed
entry_step law setting events x lines score followed valid g low score_folds each tells entry new =
    let start = setting.start in
    let past = entries_in setting (events_of events) in
    let here = entry_at setting.first setting.rotated (x.event ∷ events_of events) in
    let e : TellsEntry x.offset start past here (text_of followed) = tells.entry entry new in
    let after = score_after start e.before here.reading e.seen in
    let entries_are : deduplicated (entries_in setting (events_of (x ∷ events))) ≡ here ∷ deduplicated past =
    ap deduplicated (entries_new setting x.event (events_of events) entry) ∙ with_new here past new in
    let E : List Entry → Type 0 = λ es. Folds start es after in
    let folded : Folds start (deduplicated (entries_in setting (events_of (x ∷ events)))) after = subst E (sym entries_are) (e.before, e.seen, e.folds, e.shows, refl) in
    let same : g.score ≡ e.before = folds_once start (deduplicated past) g.score e.before valid g.folds e.folds in
    let P : Score → Type 0 = λ s. (outcome : Option Outcome) → HasResult start s outcome → Gives start (game_lines lines) s.plies outcome in
    let r = entry_reached law x.offset start past here (text_of followed) e (game_lines lines) valid (subst P same g.told e.old e.old_is) in
    let followed_is : followed ≡ r.lines = lines_once followed r.lines (followed_in x.offset followed low each) (lines_in x.offset r.lines low r.offsets r.printed) r.text_is in
    let at : after ≡ score = folds_once start (deduplicated (entries_in setting (events_of (x ∷ events)))) after score valid folded score_folds in
    let G : Option Outcome → List GameLine → Type 0 = λ outcome ls. Gives start (ls ++ game_lines lines) after.plies outcome in
    let R : List GameLine → Type 0 = λ ls. Reaches start (reached_by start after) ls (game_lines lines) in
    let Q : Score → Type 0 = λ s. Reaches start (reached_by start s) followed (game_lines lines) in
    record {
      score = after;
      folds = folded;
      told = λ outcome has. (
          let one : e.new ≡ outcome = one_result (reached_by start after) after.sign e.new outcome e.new_is has in
          subst (λ o. G o followed) one (subst (G e.new) (sym followed_is) r.gives));
      reaches = subst Q at (subst R (sym followed_is) r.reaches);
    }

step : TextsArePlain → (setting : Setting) (events : List Timed) (x : Timed) (lines more : List GameLine) (e : WatchesEvent setting (events_of events) x more) → Valid setting.start
    → Named setting events lines → x.offset < limit → (fault entry repeated : Bool) → is_fault x.event ≡ fault → is_entry x.event (events_of events) ≡ entry
    → repeats (entry_at setting.first setting.rotated (x.event ∷ events_of events)).picture (entries_in setting (events_of events)) ≡ repeated
    → Steps setting events x (reached_by setting.start e.score) (game_lines lines) e.followed
step law setting events x lines more e valid g low true entry repeated f i r =
    let none : is_entry x.event (events_of events) ≡ false = fault_gives_none x.event (events_of events) f in
    fault_step setting events x.offset x.event (reached_by setting.start e.score) lines e.followed g low (ap deduplicated (entries_same setting x.event (events_of events) none)) e.each f (e.follows.fault f)
step law setting events x lines more e valid g low false false repeated f i r =
    no_step setting events x (reached_by setting.start e.score) lines e.followed g (ap deduplicated (entries_same setting x.event (events_of events) i))
    (lines_once e.followed [] (followed_in x.offset e.followed low e.each) tt (e.follows.other f i))
step law setting events x lines more e valid g low false true true f i r =
    let past = entries_in setting (events_of events) in
    let here = entry_at setting.first setting.rotated (x.event ∷ events_of events) in
    let shorter : deduplicated (here ∷ past) ≡ deduplicated past = ap (λ b. if b then deduplicated past else here ∷ deduplicated past) r in
    no_step setting events x (reached_by setting.start e.score) lines e.followed g (ap deduplicated (entries_new setting x.event (events_of events) i) ∙ shorter)
    (lines_once e.followed [] (followed_in x.offset e.followed low e.each) tt (e.follows.repeated i r))
step law setting events x lines more e valid g low false true false f i r =
    entry_step law setting events x lines e.score e.followed valid g low e.folds e.each e.follows i r

-- ---- all lines

no_position : (a b c : Bool) → not (a || (b || c)) ≡ true → b ≡ true → ⊥
no_position a true c h is = absurd (bad a h)
  where
    bad : (a : Bool) → not (a || true) ≡ true → ⊥
    bad false h = cc
    bad true h = cc
no_position a false c h is = cc

named_game : (start : Parts) (told : GameLine) (rest : List GameLine) → tells_game told.words ≡ true → NamesPositions start rest → NamesPositions start (told ∷ rest)
named_game start told rest kind names =
    (λ is. absurd (no_position (tells_picture told.words) (tells_position told.words) (tells_reading told.words) kind is), names)

named_if : (start p : Parts) (told : GameLine) (rest earlier before : List GameLine) (change : Bool) → tells_game told.words ≡ true → game_lines rest ≡ earlier ++ before → NamesPositions start rest
    → (change ≡ true → (plies : List Ply) × (result : Option Outcome) × Gives start (told ∷ (earlier ++ before)) plies result × (p ≡ reached start (moves_of plies)))
    → NamesPositions start (with_if p told change ++ rest)
named_if start p told rest earlier before false kind game names reaches = named_game start told rest kind names
named_if start p told rest earlier before true kind game names reaches =
    let here = reaches refl in
    let lines_are : told ∷ (earlier ++ before) ≡ game_lines (told ∷ rest) =
    ap (λ ls. told ∷ ls) (sym game) ∙ sym (ap (λ b. if b then told ∷ game_lines rest else game_lines rest) kind) in
    let G : List GameLine → Type 0 = λ ls. Gives start ls here.0 here.1 in
    (λ is. (here.0, here.1, subst G lines_are here.2, ap position_words here.3), named_game start told rest kind names)

named_followed : (offset : ℕ) (start p : Parts) (followed rest : List GameLine) → AllByRecursion (IsGameLine offset) followed → NamesPositions start rest → Reaches start p followed (game_lines rest)
    → NamesPositions start (flat_map (with_position p) followed ++ rest)
named_followed offset start p [] rest each names reaches = names
named_followed offset start p (told ∷ earlier) rest each names reaches =
    let placed = flat_map (with_position p) earlier in
    let N : List GameLine → Type 0 = λ ls. NamesPositions start ls in
    subst N (sym (append_assoc (with_position p told) placed rest))
    (named_if start p told (placed ++ rest) earlier (game_lines rest) (tells_change told.words) each.0.kind (game_of_followed offset p earlier rest each.1)
    (named_followed offset start p earlier rest each.1 names reaches.1) reaches.0)

named_timed : (offset : ℕ) (start : Parts) (old new : Option Reading) (timed rest : List GameLine) → ShowsReading offset old new timed → NamesPositions start rest → NamesPositions start (timed ++ rest)
named_timed offset start old new timed rest (inl (same, none)) names = subst (λ ls. NamesPositions start (ls ++ rest)) (sym none) names
named_timed offset start old new timed rest (inr (other, is)) names = subst (λ ls. NamesPositions start (ls ++ rest)) (sym is) (λ position. cc, names)

named_pictured : (offset : ℕ) (start : Parts) (old new : List (List ℕ)) (pictured rest : List GameLine) → ShowsPicture offset old new pictured → NamesPositions start rest → NamesPositions start (pictured ++ rest)
named_pictured offset start old new pictured rest (inl (same, none)) names = subst (λ ls. NamesPositions start (ls ++ rest)) (sym none) names
named_pictured offset start old new pictured rest (inr (picture, newest, is)) names = subst (λ ls. NamesPositions start (ls ++ rest)) (sym is) (λ position. cc, names)

pub named : TextsArePlain → (setting : Setting) → Valid setting.start → (events : List Timed) (lines : List GameLine)
    → AllByRecursion (λ x. x.offset < limit) events → Watches setting events lines → Named setting events lines
named law setting valid [] lines short is =
    let N : List GameLine → Type 0 = λ ls. Named setting [] ls in
    subst N (sym is) (record {
      score = record { plies = []; sign = None };
      folds = refl;
      told = λ outcome has. (refl, has);
      names = λ begin begins. (λ position. ([], begin, (refl, begins), refl), tt);
    })
named law setting valid (x ∷ events) lines short (before, more, watches, e, lines_are) =
    let g = named law setting valid events before short.1 watches in
    let start = setting.start in
    let p = reached_by start e.score in
    let s = step law setting events x before more e valid g short.0 (is_fault x.event) (is_entry x.event (events_of events))
    (repeats (entry_at setting.first setting.rotated (x.event ∷ events_of events)).picture (entries_in setting (events_of events))) refl refl refl in
    let N : List GameLine → Type 0 = λ ls. NamesPositions start ls in
    let R : List GameLine → Type 0 = λ ls. Reaches start p e.followed ls in
    let T : List GameLine → Type 0 = λ ls. (outcome : Option Outcome) → HasResult start s.score outcome → Gives start ls s.score.plies outcome in
    let all : (begin : Option Outcome) → IsResult start None begin → NamesPositions start (more ++ before) = λ begin begins. subst N (sym (all_of_event setting (events_of events) x more before e))
    (named_timed x.offset start _ _ e.timed (flat_map (with_position p) e.followed ++ (e.pictured ++ before)) e.reading_is
    (named_followed x.offset start p e.followed (e.pictured ++ before) e.each (named_pictured x.offset start _ _ e.pictured before e.picture_is (g.names begin begins))
    (subst R (sym (game_of_pictured x.offset _ _ e.pictured before e.picture_is)) s.reaches))) in
    record {
      score = s.score;
      folds = s.folds;
      told = subst T (sym (ap game_lines lines_are ∙ game_of_event setting (events_of events) x more before e)) s.told;
      names = λ begin begins. subst N (sym lines_are) (all begin begins);
    }

pub watch_names_the_positions : TextsArePlain → WatchNamesThePositions
watch_names_the_positions law setting begin events lines valid begins short watches =
    let whole = named law setting valid events lines short watches in whole.names begin begins
