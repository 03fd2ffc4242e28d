-- What a follower tells.
use Rattle.std.proofs.Common.{◌≡◌, ◌≢◌, ℕ, Bool, true, false, ◌⊎◌, inl, inr, append-nil, List, [], ◌∷◌, ◌++◌, drop, Option, Some, None, IfSome, refl, sym, ◌∙◌, ap, subst}
use Rattle.std.specs.Prelude.{if◌then◌else◌, is_some}
use Rattle.chess_rules.specs.declared.chess_move.Move.{Move}
use Rattle.chess_rules.specs.declared.parts.Parts.{Parts}
use Rattle.chess_rules.specs.Legal.{Legal}
use Rattle.chess_rules.specs.Valid.{Valid}
use Rattle.chess_text.specs.San.{San}
use Rattle.dgt_frame.specs.declared.events.Event.{Event}
use Rattle.chess_clock.specs.declared.times.Reading.{Reading}
use Rattle.dgt_frame.specs.Streams.{Timed}
use Rattle.settle_core.specs.declared.plies.Ply.{Ply}
use Rattle.settle_core.specs.declared.plies.Seen.{Seen}
use Rattle.settle_core.specs.declared.plies.Seen.TheVariants.{Same, Moved, Sign, Replaced, Waits}
use Rattle.settle_core.specs.Entries.{Entry, repeats, deduplicated}
use Rattle.settle_core.specs.Folding.{Folds, Replaces, Score, SeenAs, moves_of, played, score_after}
use Rattle.settle_core.specs.Settling.{reached}
use Rattle.settle_core.specs.Settler.{ReturnsSeen, ReturnsNewSeen, SettlerState, HasSettled}
use Rattle.settle_core.proofs.Once.{folds_once}
use Rattle.settle_core.proofs.Repeats.{with_new}
use Rattle.board_events.specs.declared.session.Taken.{Taken}
use Rattle.board_events.specs.Entries.{entry_at, is_entry}
use Rattle.board_events.specs.History.{is_fault, picture_of}
use Rattle.board_events.specs.Settings.{Setting}
use Rattle.board_events.specs.Session.{HasTakenEvents, TellsTaken, entries_in}
use Rattle.board_events.specs.States.{State}
use Rattle.board_listing.specs.declared.follower.Follower.{Follower}
use Rattle.dgt_frame.specs.declared.events.Event.TheVariants.{Message, Fault}
use Rattle.board_listing.specs.EventLines.{line_of}
use Rattle.watched_streams.specs.Lines.{line}
use Rattle.board_listing.specs.GameLines.{move_words}
use Rattle.board_listing.specs.Inside.Followers.{HasFollowed}
use Rattle.board_listing.specs.GameText.{HasResult, TellsEvent, TellsPly}
use Rattle.board_listing.specs.Inside.News.{AddsNews, LastIsLegal, MayTell}

-- what is known of the latest ply and its position
abbrev pub FindsLast : Option (Parts × Ply) → Parts → List Ply → Type 0
FindsLast found start plies = (ply : Ply) (earlier : List Ply) → plies ≡ ply ∷ earlier → found ≡ Some (reached start (moves_of earlier), ply)

abbrev or_position : Parts → Option (Parts × Ply) → Parts
or_position p None = p
or_position p (Some found) = found.0

abbrev or_ply : Ply → Option (Parts × Ply) → Ply
or_ply ply None = ply
or_ply ply (Some found) = found.1

pub last_legal : (start : Parts) (plies : List Ply) (found : Option (Parts × Ply)) (p : Parts) (ply : Ply) → LastIsLegal start plies
    → FindsLast found start plies → found ≡ Some (p, ply) → Legal p ply.mv
last_legal start [] found p ply legal at is = absurd legal
last_legal start (last ∷ earlier) found p ply legal at is =
    let same : Some (reached start (moves_of earlier), last) ≡ Some (p, ply) = sym (at last earlier refl) ∙ is in
    let position : reached start (moves_of earlier) ≡ p = ap (or_position p) same in
    let ply_is : last ≡ ply = ap (or_ply ply) same in
    let P : Parts → Type 0 = λ x. Legal x last.mv in
    let Q : Ply → Type 0 = λ x. Legal p x.mv in
    subst Q ply_is (subst P position legal)

pub last_found : (start : Parts) (plies : List Ply) (found : Option (Parts × Ply)) → LastIsLegal start plies → FindsLast found start plies → found ≡ None → ⊥
last_found start [] found legal at is = legal
last_found start (last ∷ earlier) found legal at is = absurd (let bad : true ≡ false = sym (ap is_some (at last earlier refl)) ∙ ap is_some is in cc)

pub last_told : (offset : ℕ) (word lines lines' : List ℕ) (start : Parts) (plies : List Ply) (found : Option (Parts × Ply)) (p : Parts) (ply : Ply) → LastIsLegal start plies
    → FindsLast found start plies → found ≡ Some (p, ply) → ((san : List ℕ) × San p ply.mv san × (lines' ≡ lines ++ line offset (move_words word p san ply.clock)))
    → (text : List ℕ) × TellsPly offset word start plies text × (lines' ≡ lines ++ text)
last_told offset word lines lines' start [] found p ply legal at is told = absurd legal
last_told offset word lines lines' start (last ∷ earlier) found p ply legal at is told =
    let same : Some (reached start (moves_of earlier), last) ≡ Some (p, ply) = sym (at last earlier refl) ∙ is in
    let position : p ≡ reached start (moves_of earlier) = sym (ap (or_position p) same) in
    let ply_is : ply ≡ last = sym (ap (or_ply ply) same) in
    let Told : Parts → Ply → Type 0 = λ x y. (san : List ℕ) × San x y.mv san × (lines' ≡ lines ++ line offset (move_words word x san y.clock)) in
    let P : Parts → Type 0 = λ x. Told x ply in
    let Q : Ply → Type 0 = λ y. Told (reached start (moves_of earlier)) y in
    let here = subst Q ply_is (subst P position told) in
    (line offset (move_words word (reached start (moves_of earlier)) here.0 last.clock), (here.0, here.1, refl), here.2)

-- The result for a picture that is none that was seen last.
pub new_answer : (start : Parts) (past : List Entry) (shown : List ℕ) (seen : Seen) → seen ≢ Same → ReturnsSeen start past shown seen → ReturnsNewSeen start past shown seen
new_answer start past shown Same other answer = absurd (other refl)
new_answer start past shown (Moved m) other answer = answer
new_answer start past shown (Sign outcome) other answer = answer
new_answer start past shown (Replaced m) other answer = answer
new_answer start past shown Waits other answer = answer

may_tell : (start : Parts) (before : Score) (reading : Option Reading) (shown : List ℕ) (seen : Seen) → SeenAs start (moves_of before.plies) shown seen
    → MayTell start (score_after start before reading seen) seen
may_tell start before reading shown (Moved m) shows = shows.legal
may_tell start before reading shown (Sign outcome) shows = tt
may_tell start before reading shown Waits shows = tt
may_tell start before reading shown Same shows = absurd shows
may_tell start before reading shown (Replaced m) shows = may_replace start before.plies shown m shows.2
  where
    may_replace : (start : Parts) (plies : List Ply) (shown : List ℕ) (m : Move) → Replaces start (moves_of plies) shown m → LastIsLegal start (played start (drop 1 plies) reading m).plies
    may_replace start [] shown m replaces = absurd replaces
    may_replace start (last ∷ earlier) shown m replaces = replaces.0.legal

-- What is known where an entry after these was seen, and its picture is a new one.
pub record News (settler : SettlerState) (start : Parts) (past : List Entry) (entry : Entry) (seen : Seen) : Type 0 where
  pub before : Score
  pub folds : Folds start (deduplicated past) before
  pub shows : SeenAs start (moves_of before.plies) entry.picture seen
  pub new : repeats entry.picture past ≡ false
  pub start_is : settler.start ≡ start
  pub last : settler.last ≡ Some entry.picture
  pub score_is : settler.score ≡ score_after start before entry.reading seen

news_of : (settler : SettlerState) (start : Parts) (past : List Entry) (entry : Entry) (seen : Seen) → Valid start → HasSettled settler start (entry ∷ past)
    → ReturnsNewSeen start past entry.picture seen → News settler start past entry seen
news_of settler start past entry seen valid stands answer =
    let before = answer.1.0 in
    let after = score_after start before entry.reading seen in
    let P : List Entry → Type 0 = λ es. Folds start es settler.score in
    let folded : Folds start (entry ∷ deduplicated past) settler.score = subst P (with_new entry past answer.0) stands.folds in
    let made : Folds start (entry ∷ deduplicated past) after = (before, seen, answer.1.1, answer.1.2, refl) in
    record {
      before = before;
      folds = answer.1.1;
      shows = answer.1.2;
      new = answer.0;
      start_is = stands.start_is;
      last = stands.last;
      score_is = folds_once start (entry ∷ deduplicated past) settler.score after valid folded made;
    }

pub entries_new : (setting : Setting) (event : Event) (past : List Event) → is_entry event past ≡ true → entries_in setting (event ∷ past) ≡ entry_at setting.first setting.rotated (event ∷ past) ∷ entries_in setting past
entries_new setting event past is = ap (λ b. if b then entry_at setting.first setting.rotated (event ∷ past) ∷ entries_in setting past else entries_in setting past) is

pub entries_same : (setting : Setting) (event : Event) (past : List Event) → is_entry event past ≡ false → entries_in setting (event ∷ past) ≡ entries_in setting past
entries_same setting event past is = ap (λ b. if b then entry_at setting.first setting.rotated (event ∷ past) ∷ entries_in setting past else entries_in setting past) is

-- A session took an event that gave a new picture.
pub news : (old : Follower) (new : State) (setting : Setting) (past : List Event) (event : Event) (taken : Taken) (seen : Seen) → HasFollowed old setting past
    → HasTakenEvents new setting (event ∷ past) → TellsTaken setting past event taken → taken.seen ≡ Some seen → seen ≢ Same
    → News new.settler setting.start (entries_in setting past) (entry_at setting.first setting.rotated (event ∷ past)) seen
news old new setting past event taken seen followed stands tells is other =
    let entry : is_entry event past ≡ true = sym tells.entry ∙ ap is_some is in
    let P : List Entry → Type 0 = λ es. HasSettled new.settler setting.start es in
    let Q : Option Seen → Type 0 = λ s. IfSome s (ReturnsSeen setting.start (entries_in setting past) (picture_of setting.rotated (event ∷ past))) in
    news_of new.settler setting.start (entries_in setting past) (entry_at setting.first setting.rotated (event ∷ past)) seen followed.valid
    (subst P (entries_new setting event past entry) stands.settler)
    (new_answer setting.start (entries_in setting past) (picture_of setting.rotated (event ∷ past)) seen other (subst Q is tells.seen))

pub may_tell_news : (settler : SettlerState) (start : Parts) (past : List Entry) (entry : Entry) (seen : Seen) → News settler start past entry seen → MayTell settler.start settler.score seen
may_tell_news settler start past entry seen news =
    let P : Parts → Type 0 = λ p. MayTell p settler.score seen in
    let Q : Score → Type 0 = λ s. MayTell start s seen in
    subst P (sym news.start_is) (subst Q (sym news.score_is) (may_tell start news.before entry.reading entry.picture seen news.shows))

-- What was told stands where the picture waits.
pub told_waits : (old : Follower) (settler : SettlerState) (setting : Setting) (past : List Event) (entry : Entry) (seen : Seen) → HasFollowed old setting past
    → News settler setting.start (entries_in setting past) entry seen → seen ≡ Waits → HasResult settler.start settler.score old.told
told_waits old settler setting past entry seen followed news waits =
    let start = setting.start in
    let before : followed.score ≡ news.before = folds_once start (deduplicated (entries_in setting past)) followed.score news.before followed.valid followed.folds news.folds in
    let same : followed.score ≡ settler.score = before ∙ sym (news.score_is ∙ ap (score_after start news.before entry.reading) waits) in
    let P : Parts → Type 0 = λ p. HasResult p settler.score old.told in
    let Q : Score → Type 0 = λ s. HasResult start s old.told in
    subst P (sym news.start_is) (subst Q same followed.told)

-- An event that adds no entry, or one whose picture was seen last, leaves the game.
pub followed_same : (old : Follower) (new : State) (setting : Setting) (past : List Event) (event : Event) → HasFollowed old setting past → HasTakenEvents new setting (event ∷ past)
    → deduplicated (entries_in setting (event ∷ past)) ≡ deduplicated (entries_in setting past) → HasFollowed (record { session = new; told = old.told }) setting (event ∷ past)
followed_same old new setting past event followed stands same =
    let P : List Entry → Type 0 = λ es. Folds setting.start es followed.score in
    record {
      stands = stands;
      score = followed.score;
      folds = subst P (sym same) followed.folds;
      told = followed.told;
      valid = followed.valid;
    }

pub clash : {b : Bool} → b ≡ true → b ≡ false → ⊥
clash h k = cc

pub fault_gives_none : (event : Event) (past : List Event) → is_fault event ≡ true → is_entry event past ≡ false
fault_gives_none (Fault kind) past is = refl
fault_gives_none (Message m) past is = absurd (clash is refl)

-- What is to be shown of an event: the follower has followed it, and its lines were added.
abbrev pub Added : Follower → Setting → List Event → Timed → List ℕ → List ℕ → Type 0
Added new setting past x lines lines' = HasFollowed new setting (x.event ∷ past) × ((more : List ℕ) × (lines' ≡ lines ++ more) × TellsEvent setting past x more)

pub added_fault : (old : Follower) (new : State) (setting : Setting) (past : List Event) (x : Timed) (taken : Taken) (lines lines' : List ℕ) → HasFollowed old setting past
    → HasTakenEvents new setting (x.event ∷ past) → TellsTaken setting past x.event taken → taken.asks_dump ≡ true → lines' ≡ lines ++ line_of x
    → Added (record { session = new; told = old.told }) setting past x lines lines'
added_fault old new setting past x taken lines lines' followed stands tells asks lines_are =
    let fault : is_fault x.event ≡ true = sym tells.asks ∙ asks in
    let none : is_entry x.event past ≡ false = fault_gives_none x.event past fault in (
      followed_same old new setting past x.event followed stands (ap deduplicated (entries_same setting x.event past none)),
      (
        line_of x,
        lines_are,
        record {
          fault = λ f. refl;
          repeated = λ entry same. absurd (clash entry none);
          entry = λ entry new. absurd (clash entry none);
          other = λ f none. absurd (clash fault f);
        },
      ),
    )

pub added_nothing : (old : Follower) (new : State) (setting : Setting) (past : List Event) (x : Timed) (taken : Taken) (lines lines' : List ℕ) → HasFollowed old setting past
    → HasTakenEvents new setting (x.event ∷ past) → TellsTaken setting past x.event taken → taken.asks_dump ≡ false → taken.seen ≡ None → lines' ≡ lines
    → Added (record { session = new; told = old.told }) setting past x lines lines'
added_nothing old new setting past x taken lines lines' followed stands tells asks seen lines_are =
    let none : is_entry x.event past ≡ false = sym tells.entry ∙ ap is_some seen in (
      followed_same old new setting past x.event followed stands (ap deduplicated (entries_same setting x.event past none)),
      (
        [],
        lines_are ∙ sym (append-nil lines),
        record {
          fault = λ fault. absurd (clash fault (sym tells.asks ∙ asks));
          repeated = λ entry same. refl;
          entry = λ entry new. absurd (clash entry none);
          other = λ f none. refl;
        },
      ),
    )

pub added_same : (old : Follower) (new : State) (setting : Setting) (past : List Event) (x : Timed) (taken : Taken) (seen : Seen) (lines lines' : List ℕ) → HasFollowed old setting past
    → HasTakenEvents new setting (x.event ∷ past) → TellsTaken setting past x.event taken → taken.asks_dump ≡ false → taken.seen ≡ Some seen → seen ≡ Same → lines' ≡ lines
    → Added (record { session = new; told = old.told }) setting past x lines lines'
added_same old new setting past x taken seen lines lines' followed stands tells asks some same lines_are =
    let entry : is_entry x.event past ≡ true = sym tells.entry ∙ ap is_some some in
    let Q : Option Seen → Type 0 = λ s. IfSome s (ReturnsSeen setting.start (entries_in setting past) (picture_of setting.rotated (x.event ∷ past))) in
    let repeated : repeats (picture_of setting.rotated (x.event ∷ past)) (entries_in setting past) ≡ true = subst Q (some ∙ ap Some same) tells.seen in
    let here = entry_at setting.first setting.rotated (x.event ∷ past) in
    let shorter : deduplicated (here ∷ entries_in setting past) ≡ deduplicated (entries_in setting past) =
    ap (λ b. if b then deduplicated (entries_in setting past) else here ∷ deduplicated (entries_in setting past)) repeated in (
      followed_same old new setting past x.event followed stands (ap deduplicated (entries_new setting x.event past entry) ∙ shorter),
      (
        [],
        lines_are ∙ sym (append-nil lines),
        record {
          fault = λ fault. absurd (clash fault (sym tells.asks ∙ asks));
          repeated = λ entry same. refl;
          entry = λ entry new. absurd (clash repeated new);
          other = λ f none. refl;
        },
      ),
    )

pub added_news : (old new : Follower) (setting : Setting) (past : List Event) (x : Timed) (taken : Taken) (seen : Seen) (lines lines' : List ℕ) → HasFollowed old setting past
    → HasTakenEvents new.session setting (x.event ∷ past) → TellsTaken setting past x.event taken → taken.asks_dump ≡ false → taken.seen ≡ Some seen
    → News new.session.settler setting.start (entries_in setting past) (entry_at setting.first setting.rotated (x.event ∷ past)) seen
    → AddsNews x.offset new.session.settler.start new.session.settler.score (picture_of setting.rotated (x.event ∷ past)) seen old.told new.told lines lines'
    → Added new setting past x lines lines'
added_news old new setting past x taken seen lines lines' followed stands tells asks some fresh adds =
    let start = setting.start in
    let here = entry_at setting.first setting.rotated (x.event ∷ past) in
    let after = score_after start fresh.before here.reading seen in
    let entry : is_entry x.event past ≡ true = sym tells.entry ∙ ap is_some some in
    let before : followed.score ≡ fresh.before = folds_once start (deduplicated (entries_in setting past)) followed.score fresh.before followed.valid followed.folds fresh.folds in
    let B : Score → Type 0 = λ s. HasResult start s old.told in
    let P : Parts → Type 0 = λ p. AddsNews x.offset p new.session.settler.score here.picture seen old.told new.told lines lines' in
    let Q : Score → Type 0 = λ s. AddsNews x.offset start s here.picture seen old.told new.told lines lines' in
    let made : AddsNews x.offset start after here.picture seen old.told new.told lines lines' = subst Q fresh.score_is (subst P fresh.start_is adds) in
    let E : List Entry → Type 0 = λ es. Folds start es after in
    let folds : Folds start (here ∷ deduplicated (entries_in setting past)) after = (fresh.before, seen, fresh.folds, fresh.shows, refl) in
    let entries_are : deduplicated (entries_in setting (x.event ∷ past)) ≡ here ∷ deduplicated (entries_in setting past) =
    ap deduplicated (entries_new setting x.event past entry) ∙ with_new here (entries_in setting past) fresh.new in (
      record {
        stands = stands;
        score = after;
        folds = subst E (sym entries_are) folds;
        told = made.result_is;
        valid = followed.valid;
      },
      (
        made.first ++ made.second,
        made.lines_are,
        record {
          fault = λ fault. absurd (clash fault (sym tells.asks ∙ asks));
          repeated = λ entry same. absurd (clash same fresh.new);
          entry = λ entry other. record {
            before = fresh.before;
            seen = seen;
            old = old.told;
            new = new.told;
            first = made.first;
            second = made.second;
            folds = fresh.folds;
            shows = fresh.shows;
            old_is = subst B before followed.told;
            new_is = made.result_is;
            first_is = made.first_is;
            second_is = made.second_is;
            text_is = refl;
          };
          other = λ f none. absurd (clash entry none);
        },
      ),
    )

abbrev is_same_picture : Seen → Bool
is_same_picture Same = true
is_same_picture (Moved n) = false
is_same_picture (Sign o) = false
is_same_picture (Replaced n) = false
is_same_picture Waits = false

pub is_same : (seen : Seen) → (seen ≡ Same) ⊎ (seen ≢ Same)
is_same Same = inl refl
is_same (Moved m) = inr (λ e. clash (ap is_same_picture e) refl)
is_same (Sign o) = inr (λ e. clash (ap is_same_picture e) refl)
is_same (Replaced m) = inr (λ e. clash (ap is_same_picture e) refl)
is_same Waits = inr (λ e. clash (ap is_same_picture e) refl)
