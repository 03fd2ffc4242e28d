-- The game that lines give.
use Rattle.std.proofs.Common.{◌≡◌, ◌<◌, ◌∙◌, ℕ, List, [], ◌∷◌, ◌++◌, drop, Bool, true, false, inl, inr, codes, reverse, Option, None, ap, refl, sym, subst, append_assoc, append-nil}
use Rattle.std.specs.List.{AllByRecursion}
use Rattle.std.specs.Prelude.{if◌then◌else◌}
use Rattle.std.proofs.lemmas.List.{reverse-reverse}
use Rattle.chess_rules.specs.declared.parts.Parts.{Parts}
use Rattle.chess_rules.specs.declared.chess_move.Move.{Move}
use Rattle.chess_rules.specs.Picture.{picture}
use Rattle.chess_rules.specs.Valid.{Valid}
use Rattle.dgt_frame.specs.declared.events.Event.{Event}
use Rattle.dgt_frame.specs.declared.events.Event.TheVariants.{Message, Fault}
use Rattle.chess_clock.specs.declared.times.Reading.{Reading}
use Rattle.dgt_frame.specs.Streams.{Timed}
use Rattle.settle_core.specs.declared.plies.Outcome.{Outcome}
use Rattle.settle_core.specs.declared.plies.Ply.{Ply}
use Rattle.settle_core.specs.declared.plies.Seen.{Seen}
use Rattle.settle_core.specs.declared.plies.Seen.TheVariants.{Same, Moved, Sign, Replaced, Waits}
use Rattle.settle_core.specs.Entries.{Entry, repeats, deduplicated}
use Rattle.settle_core.specs.Folding.{Folds, Replaces, Score, SeenAs, moves_of, played, score_after, score_of, time_of}
use Rattle.settle_core.specs.GameResult.{IsResult}
use Rattle.settle_core.specs.Settling.{position_after, reached}
use Rattle.settle_core.proofs.Lists.{position_in_order}
use Rattle.settle_core.proofs.Once.{folds_once}
use Rattle.settle_core.proofs.Repeats.{with_new}
use Rattle.board_events.specs.Entries.{entry_at, is_entry}
use Rattle.board_events.specs.History.{is_fault}
use Rattle.board_events.specs.Settings.{Setting}
use Rattle.board_events.specs.Limits.{limit}
use Rattle.board_events.specs.Session.{entries_in}
use Rattle.board_events.proofs.GameLemmas.{one_result}
use Rattle.board_listing.specs.GameText.{HasResult, TellsEntry, TellsEvent, TellsEvents, TellsPly, TellsResult, TellsSeen, reached_by}
use Rattle.board_listing.specs.GivenGame.{AreInStream, GameLine, Gives, LinesGiveTheGame, text_of}
use Rattle.watched_streams.specs.Lines.{line}
use Rattle.board_listing.specs.GameLines.{move_words, result_words, squares_text, waiting_words}
use Rattle.board_listing.specs.EventLines.{kind_text, line_of}
use Rattle.board_listing.proofs.FollowLemmas.{clash, entries_new, entries_same, fault_gives_none}
use Rattle.board_listing.proofs.WatchLawLemmas.{events_of}

-- Lines of an event with this offset that are behind those before it, and give these plies and this result.
record More (offset : ℕ) (start : Parts) (lines : List GameLine) (text : List ℕ) (plies : List Ply) (result : Option Outcome) : Type 0 where
  all : List GameLine
  text_is : text_of lines ++ text ≡ text_of all
  gives : Gives start all plies result
  inside : offset < limit → AreInStream lines → AreInStream all

one_line : (start : Parts) (lines : List GameLine) (offset : ℕ) (words text : List ℕ) (plies : List Ply) (result : Option Outcome) → text ≡ line offset words
    → Gives start (record { offset = offset; words = words } ∷ lines) plies result → More offset start lines text plies result
one_line start lines offset words text plies result is gives = record { all = record { offset = offset; words = words } ∷ lines; text_is = ap (λ t. text_of lines ++ t) is; gives = gives; inside = λ low all. (low, all) }

no_line : (offset : ℕ) (start : Parts) (lines : List GameLine) (text : List ℕ) (plies : List Ply) (result : Option Outcome) → text ≡ [] → Gives start lines plies result → More offset start lines text plies result
no_line offset start lines text plies result none gives = record { all = lines; text_is = ap (λ t. text_of lines ++ t) none ∙ append-nil (text_of lines); gives = gives; inside = λ low all. all }

-- the ply of a move
abbrev pub made : Parts → List Ply → Option Reading → Move → Ply
made start earlier reading m = record { mv = m; clock = time_of (reached start (moves_of earlier)).side reading }

replaced_more : (offset : ℕ) (start : Parts) (plies : List Ply) (reading : Option Reading) (m : Move) (shown text : List ℕ) (lines : List GameLine) (old : Option Outcome)
    → Replaces start (moves_of plies) shown m → TellsPly offset (codes "correction") start (played start (drop 1 plies) reading m).plies text
    → Gives start lines plies old → More offset start lines text (played start (drop 1 plies) reading m).plies old
replaced_more offset start [] reading m shown text lines old replaces tells gives = absurd replaces
replaced_more offset start (last ∷ earlier) reading m shown text lines old replaces tells gives =
    let ply = made start earlier reading m in
    let p = reached start (moves_of earlier) in
    one_line start lines offset (move_words (codes "correction") p tells.0 ply.clock) text (ply ∷ earlier) old tells.2
    (last ∷ earlier, old, gives, inr (inl ((ply, refl, record { san = tells.0; legal = replaces.0.legal; san_is = tells.1; words_are = refl }), refl)))

-- The line of what a picture shows.
seen_more : (offset : ℕ) (start : Parts) (before : Score) (reading : Option Reading) (shown : List ℕ) (seen : Seen) (text : List ℕ) (lines : List GameLine) (old : Option Outcome)
    → SeenAs start (moves_of before.plies) shown seen → TellsSeen offset start (score_after start before reading seen) shown seen text → Gives start lines before.plies old
    → More offset start lines text (score_after start before reading seen).plies old
seen_more offset start before reading shown Same text lines old shows tells gives = absurd shows
seen_more offset start before reading shown (Sign outcome) text lines old shows tells gives = no_line offset start lines text before.plies old tells gives
seen_more offset start before reading shown Waits text lines old shows tells gives =
    let squares = squares_text (picture (reached_by start before)) shown in
    one_line start lines offset (waiting_words squares) text before.plies old tells (before.plies, old, gives, inr (inr (inr (refl, refl, inl (shown, refl)))))
seen_more offset start before reading shown (Moved m) text lines old shows tells gives =
    let ply = made start before.plies reading m in
    let p = reached start (moves_of before.plies) in
    one_line start lines offset (move_words (codes "move") p tells.0 ply.clock) text (ply ∷ before.plies) old tells.2
    (before.plies, old, gives, inl ((ply, refl, record { san = tells.0; legal = shows.legal; san_is = tells.1; words_are = refl }), refl))
seen_more offset start before reading shown (Replaced m) text lines old shows tells gives = replaced_more offset start before.plies reading m shown text lines old shows.2 tells gives

-- The line of the result.
result_more : (offset : ℕ) (start : Parts) (lines : List GameLine) (plies : List Ply) (old new : Option Outcome) (text : List ℕ) → TellsResult offset old new text
    → Gives start lines plies old → More offset start lines text plies new
result_more offset start lines plies old new text (inl (same, none)) gives =
    let P : Option Outcome → Type 0 = λ r. Gives start lines plies r in
    no_line offset start lines text plies new none (subst P (sym same) gives)
result_more offset start lines plies old new text (inr (other, is)) gives = one_line start lines offset (result_words new) text plies new is (plies, old, gives, inr (inr (inl (refl, refl))))

-- The lines of an entry.
entry_more : (offset : ℕ) (start : Parts) (past : List Entry) (entry : Entry) (text : List ℕ) (e : TellsEntry offset start past entry text) (lines : List GameLine) (told : Option Outcome)
    → Gives start lines e.before.plies e.old → HasResult start (score_after start e.before entry.reading e.seen) told
    → More offset start lines text (score_after start e.before entry.reading e.seen).plies told
entry_more offset start past entry text e lines told gives has =
    let after = score_after start e.before entry.reading e.seen in
    let one = seen_more offset start e.before entry.reading entry.picture e.seen e.first lines e.old e.shows e.first_is gives in
    let new : e.new ≡ told = one_result (reached_by start after) after.sign e.new told e.new_is has in
    let R : Option Outcome → Type 0 = λ r. TellsResult offset e.old r e.second in
    let two = result_more offset start one.all after.plies e.old told e.second (subst R new e.second_is) one.gives in
    record {
      all = two.all;
      text_is = ap (λ t. text_of lines ++ t) e.text_is ∙ sym (append_assoc (text_of lines) e.first e.second) ∙ ap (λ t. t ++ e.second) one.text_is ∙ two.text_is;
      gives = two.gives;
      inside = λ low before. two.inside low (one.inside low before);
    }

abbrev IsShort : List Timed → Type 0
IsShort events = AllByRecursion (λ x. x.offset < limit) events

-- A text of lines of these events that give these plies and this result.
record Told (start : Parts) (events : List Timed) (text : List ℕ) (plies : List Ply) (result : Option Outcome) : Type 0 where
  lines : List GameLine
  text_is : text ≡ text_of lines
  gives : Gives start lines plies result
  inside : IsShort events → AreInStream lines

behind : (start : Parts) (events : List Timed) (x : Timed) (before more text : List ℕ) (plies plies' : List Ply) (old new : Option Outcome) (t : Told start events before plies old) → text ≡ before ++ more
    → More x.offset start t.lines more plies' new → Told start (x ∷ events) text plies' new
behind start events x before more text plies plies' old new t is m =
    record { lines = m.all; text_is = is ∙ ap (λ b. b ++ more) t.text_is ∙ m.text_is; gives = m.gives; inside = λ short. m.inside short.0 (t.inside short.1) }

-- What was told of these events gives the plies of the score to which their entries fold.
record Given (setting : Setting) (events : List Timed) (text : List ℕ) : Type 0 where
  score : Score
  folds : Folds setting.start (deduplicated (entries_in setting (events_of events))) score
  told : (outcome : Option Outcome) → HasResult setting.start score outcome → Told setting.start events text score.plies outcome

-- One more event that leaves the game.
unchanged : (setting : Setting) (events : List Timed) (x : Timed) (before more text : List ℕ) → Given setting events before
    → deduplicated (entries_in setting (events_of (x ∷ events))) ≡ deduplicated (entries_in setting (events_of events)) → text ≡ before ++ more
    → ((lines : List GameLine) (plies : List Ply) (outcome : Option Outcome) → Gives setting.start lines plies outcome → More x.offset setting.start lines more plies outcome)
    → Given setting (x ∷ events) text
unchanged setting events x before more text g same is adds =
    let P : List Entry → Type 0 = λ es. Folds setting.start es g.score in
    record {
      score = g.score;
      folds = subst P (sym same) g.folds;
      told = λ outcome has. (let t = g.told outcome has in behind setting.start events x before more text g.score.plies g.score.plies outcome outcome t is (adds t.lines g.score.plies outcome t.gives));
    }

fault_more : (start : Parts) (offset : ℕ) (event : Event) (text : List ℕ) → is_fault event ≡ true → text ≡ line_of (record { offset = offset; event = event })
    → (lines : List GameLine) (plies : List Ply) (outcome : Option Outcome) → Gives start lines plies outcome → More offset start lines text plies outcome
fault_more start offset (Message m) text fault is lines plies outcome gives = absurd (clash fault refl)
fault_more start offset (Fault kind) text fault is lines plies outcome gives =
    one_line start lines offset (codes "fault " ++ kind_text kind) text plies outcome is (plies, outcome, gives, inr (inr (inr (refl, refl, inr (kind, refl)))))

-- One more entry, whose picture is a new one.
entered : (setting : Setting) (events : List Timed) (x : Timed) (before more text : List ℕ) → Valid setting.start → Given setting events before
    → TellsEvent setting (events_of events) x more → text ≡ before ++ more → is_entry x.event (events_of events) ≡ true
    → repeats (entry_at setting.first setting.rotated (x.event ∷ events_of events)).picture (entries_in setting (events_of events)) ≡ false → Given setting (x ∷ events) text
entered setting events x before more text valid g tells is entry new =
    let start = setting.start in
    let past = entries_in setting (events_of events) in
    let here = entry_at setting.first setting.rotated (x.event ∷ events_of events) in
    let e : TellsEntry x.offset start past here more = tells.entry entry new in
    let after = score_after start e.before here.reading e.seen in
    let entries_are : deduplicated (entries_in setting (events_of (x ∷ events))) ≡ here ∷ deduplicated past =
    ap deduplicated (entries_new setting x.event (events_of events) entry) ∙ with_new here past new in
    let E : List Entry → Type 0 = λ es. Folds start es after in
    let same : g.score ≡ e.before = folds_once start (deduplicated past) g.score e.before valid g.folds e.folds in
    let P : Score → Type 0 = λ s. (outcome : Option Outcome) → HasResult start s outcome → Told start events before s.plies outcome in
    let folded : Folds start (here ∷ deduplicated past) after = (e.before, e.seen, e.folds, e.shows, refl) in
    let t = subst P same g.told e.old e.old_is in
    record {
      score = after;
      folds = subst E (sym entries_are) folded;
      told = λ outcome has. behind start events x before more text e.before.plies after.plies e.old outcome t is (entry_more x.offset start past here more e t.lines outcome t.gives has);
    }

step : (setting : Setting) (events : List Timed) (x : Timed) (before more text : List ℕ) → Valid setting.start → Given setting events before
    → TellsEvent setting (events_of events) x more → text ≡ before ++ more → (fault entry repeated : Bool) → is_fault x.event ≡ fault → is_entry x.event (events_of events) ≡ entry
    → repeats (entry_at setting.first setting.rotated (x.event ∷ events_of events)).picture (entries_in setting (events_of events)) ≡ repeated → Given setting (x ∷ events) text
step setting events x before more text valid g tells is true entry repeated f i r =
    let none : is_entry x.event (events_of events) ≡ false = fault_gives_none x.event (events_of events) f in
    unchanged setting events x before more text g (ap deduplicated (entries_same setting x.event (events_of events) none)) is
    (fault_more setting.start x.offset x.event more f (tells.fault f))
step setting events x before more text valid g tells is false false repeated f i r =
    unchanged setting events x before more text g (ap deduplicated (entries_same setting x.event (events_of events) i)) is
    (λ lines plies outcome gives. no_line x.offset setting.start lines more plies outcome (tells.other f i) gives)
step setting events x before more text valid g tells is false true true f i r =
    let past = entries_in setting (events_of events) in
    let here = entry_at setting.first setting.rotated (x.event ∷ events_of events) in
    let shorter : deduplicated (here ∷ past) ≡ deduplicated past = ap (λ b. if b then deduplicated past else here ∷ deduplicated past) r in
    unchanged setting events x before more text g (ap deduplicated (entries_new setting x.event (events_of events) i) ∙ shorter) is
    (λ lines plies outcome gives. no_line x.offset setting.start lines more plies outcome (tells.repeated i r) gives)
step setting events x before more text valid g tells is false true false f i r = entered setting events x before more text valid g tells is i r

given : (setting : Setting) → Valid setting.start → (events : List Timed) (text : List ℕ) → TellsEvents setting events text → Given setting events text
given setting valid [] text is = record {
  score = record { plies = []; sign = None };
  folds = refl;
  told = λ outcome has. record { lines = []; text_is = is; gives = (refl, has); inside = λ short. tt };
}
given setting valid (x ∷ events) text (before, more, tells, event, is) =
    step setting events x before more text valid (given setting valid events before tells) event is (is_fault x.event) (is_entry x.event (events_of events))
    (repeats (entry_at setting.first setting.rotated (x.event ∷ events_of events)).picture (entries_in setting (events_of events))) refl refl refl

pub lines_give_the_game : LinesGiveTheGame
lines_give_the_game setting tags events text game valid tells is =
    let start = setting.start in
    let g = given setting valid events text tells in
    let wanted = score_of game.plies is.sign in
    let same : g.score ≡ wanted = folds_once start (deduplicated (entries_in setting (events_of events))) g.score wanted valid g.folds is.folds in
    let P : Score → Type 0 = λ s. (outcome : Option Outcome) → HasResult start s outcome → Told start events text s.plies outcome in
    let at : position_after start (moves_of game.plies) ≡ reached start (moves_of (reverse game.plies)) =
    ap (λ (ps : List Ply). position_after start (moves_of ps)) (sym (reverse-reverse game.plies)) ∙ position_in_order start (reverse game.plies) in
    let R : Parts → Type 0 = λ p. IsResult p is.sign game.result in
    let t = subst P same g.told game.result (subst R at is.result_is) in
    (t.lines, t.text_is, t.gives, t.inside)
