-- What a watcher knows once it was given an event.
use Rattle.std.proofs.Common.{◌≡◌, ◌≢◌, ◌∙◌, ◌⊎◌, inl, inr, ℕ, Bool, true, false, List, [], ◌∷◌, ◌++◌, Option, Some, None, IfSome, is_some, ap, refl, sym, subst, append_assoc, append-nil}
use Rattle.std.specs.List.{flat_map}
use Rattle.chess_clock.specs.declared.Reading.{Reading}
use Rattle.chess_rules.specs.declared.parts.Parts.{Parts}
use Rattle.chess_text.specs.Laws.{TextsArePlain}
use Rattle.dgt_frame.specs.declared.events.Event.{Event}
use Rattle.dgt_frame.specs.Streams.{HasFrame, Timed}
use Rattle.chess_text.specs.KeptRanks.{picture_in}
use Rattle.watched_streams.specs.Lines.{line}
use Rattle.settle_core.specs.declared.plies.Seen.{Seen}
use Rattle.settle_core.specs.declared.plies.Seen.TheVariants.{Same}
use Rattle.settle_core.specs.Entries.{deduplicated, repeats}
use Rattle.settle_core.specs.Settler.{ReturnsSeen}
use Rattle.settle_core.specs.Folding.{moves_of}
use Rattle.settle_core.specs.Settling.{Played}
use Rattle.settle_core.proofs.Once.{folds_played}
use Rattle.board_events.specs.declared.session.Taken.{Taken}
use Rattle.board_events.specs.Entries.{entry_at, is_entry}
use Rattle.board_events.specs.History.{is_fault, picture_of, reading_at}
use Rattle.board_events.specs.Pictures.{pictures}
use Rattle.board_events.specs.Settings.{Setting}
use Rattle.board_events.specs.Session.{HasTakenEvents, TellsTaken, entries_in}
use Rattle.board_events.specs.States.{State}
use Rattle.board_events.proofs.ViewLemmas.{pictures_more, pictures_none, pictures_same}
use Rattle.board_listing.specs.declared.follower.Follower.{Follower}
use Rattle.board_listing.specs.declared.watcher.Watcher.{Watcher}
use Rattle.board_listing.specs.Inside.Drawing.{Draws, drawn}
use Rattle.board_listing.specs.EventLines.{line_of}
use Rattle.board_listing.specs.Inside.Followers.{HasFollowed}
use Rattle.board_listing.specs.GameText.{TellsEvent, reached_by}
use Rattle.board_listing.specs.GivenGame.{GameLine, text_of}
use Rattle.board_listing.specs.Inside.News.{AddsNews, MayTell}
use Rattle.board_listing.specs.Inside.Positions.{AddsNewsAndPositions}
use Rattle.board_listing.specs.Inside.Watchers.{HasWatched, ShowsNews}
use Rattle.board_listing.specs.WatchLines.{picture_words}
use Rattle.board_listing.specs.WatchText.{ShowsPicture, ShowsReading, WatchesEvent, line_with, with_position}
use Rattle.board_listing.proofs.DrawingLemmas.{draws_new, draws_none, draws_same, now_drawn}
use Rattle.board_listing.proofs.FollowLemmas.{Added, News, added_fault, added_news, added_nothing, added_same, fault_gives_none, is_same, may_tell_news, news, told_waits}
use Rattle.board_listing.proofs.LineLemmas.{text_append}
use Rattle.board_listing.proofs.PlacedLemmas.{NewsPlaced, Placed, fault_placed, news_placed, none_placed}

-- the follower once its session has taken an event
abbrev pub took : Follower → State → Follower
took old session = record { session = session; told = old.told }

-- The follower has followed the event, and these lines were added.
record Told (new : Follower) (session : State) (setting : Setting) (past : List Event) (x : Timed) (lines lines' : List ℕ) : Type 0 where
  followed : HasFollowed new setting (x.event ∷ past)
  plain : List ℕ
  text : List ℕ
  tells : TellsEvent setting past x plain
  placed : Placed x.offset (reached_by setting.start session.settler.score) plain text
  lines_are : lines' ≡ lines ++ text

-- What was added to no lines.
from_none : (new : Follower) (setting : Setting) (past : List Event) (x : Timed) (text : List ℕ) → Added new setting past x [] text
    → HasFollowed new setting (x.event ∷ past) × TellsEvent setting past x text
from_none new setting past x text added =
    let P : List ℕ → Type 0 = λ t. TellsEvent setting past x t in
    (added.0, subst P (sym added.1.1) added.1.2)

told_by : (old new : Follower) (session : State) (setting : Setting) (past : List Event) (x : Timed) (plain text lines lines' : List ℕ) → new ≡ took old session
    → Added (took old session) setting past x [] plain → Placed x.offset (reached_by setting.start session.settler.score) plain text → lines' ≡ lines ++ text
    → Told new session setting past x lines lines'
told_by old new session setting past x plain text lines lines' same added placed lines_are =
    let here = from_none (took old session) setting past x plain added in
    let P : Follower → Type 0 = λ f. HasFollowed f setting (x.event ∷ past) in
    record { followed = subst P (sym same) here.0; plain = plain; text = text; tells = here.1; placed = placed; lines_are = lines_are }

told_news : TextsArePlain → (old new : Follower) (session : State) (setting : Setting) (past : List Event) (x : Timed) (taken : Taken) (seen : Seen) (lines lines' : List ℕ)
    → HasFollowed old setting past → HasTakenEvents session setting (x.event ∷ past) → TellsTaken setting past x.event taken → taken.asks_dump ≡ false → taken.seen ≡ Some seen
    → new.session ≡ session → News session.settler setting.start (entries_in setting past) (entry_at setting.first setting.rotated (x.event ∷ past)) seen
    → AddsNewsAndPositions x.offset session.settler.start session.settler.score (picture_of setting.rotated (x.event ∷ past)) seen old.told new.told lines lines'
    → Told new session setting past x lines lines'
told_news law old new session setting past x taken seen lines lines' followed stands tells asks some session_is fresh adds =
    let here = entry_at setting.first setting.rotated (x.event ∷ past) in
    let settler = session.settler in
    let P : Parts → Type 0 = λ p. AddsNewsAndPositions x.offset p settler.score here.picture seen old.told new.told lines lines' in
    let made : AddsNewsAndPositions x.offset setting.start settler.score here.picture seen old.told new.told lines lines' = subst P fresh.start_is adds in
    let played : Played setting.start (moves_of settler.score.plies) = folds_played setting.start (deduplicated (entries_in setting (x.event ∷ past))) settler.score stands.settler.folds in
    let may = may_tell_news settler setting.start (entries_in setting past) here seen fresh in
    let placed : NewsPlaced x.offset setting.start settler.score here.picture seen old.told new.told (made.first ++ made.second) =
    news_placed law x.offset setting.start settler.score here.picture seen old.told new.told made.first made.second followed.valid played (subst (λ p. MayTell p settler.score seen) fresh.start_is may) made.first_is made.second_is in
    let plain = placed.first ++ placed.second in
    let added : AddsNews x.offset setting.start settler.score here.picture seen old.told new.told [] plain =
    record { first = placed.first; second = placed.second; first_is = placed.first_is; second_is = placed.second_is; result_is = made.result_is; lines_are = refl } in
    let Q : Parts → Type 0 = λ p. AddsNews x.offset p settler.score here.picture seen old.told new.told [] plain in
    let R : State → Type 0 = λ s. AddsNews x.offset s.settler.start s.settler.score here.picture seen old.told new.told [] plain in
    let S : State → Type 0 = λ s. HasTakenEvents s setting (x.event ∷ past) in
    let N : State → Type 0 = λ s. News s.settler setting.start (entries_in setting past) here seen in
    let back = sym session_is in
    let whole = from_none new setting past x plain (added_news old new setting past x taken seen [] plain followed (subst S back stands) tells asks some (subst N back fresh)
    (subst R back (subst Q (sym fresh.start_is) added))) in
    record { followed = whole.0; plain = plain; text = made.first ++ made.second; tells = whole.1; placed = placed.placed; lines_are = made.lines_are }

-- the watcher once its session has taken an event
abbrev pub given : Watcher → State → Watcher
given old session = record { follower = took old.follower session; rotated = old.rotated; placement = old.placement }

-- What is known of the lines that were added once the session had taken the event.
pub record Tells (old : Watcher) (session : State) (taken : Taken) (x : Timed) (new : Watcher) (lines lines' : List ℕ) : Type 0 where
  pub fault : taken.asks_dump ≡ true → (new ≡ given old session) × (lines' ≡ lines ++ line_of x)
  pub none : taken.asks_dump ≡ false → taken.seen ≡ None → (new ≡ given old session) × (lines' ≡ lines)
  pub same : taken.asks_dump ≡ false → taken.seen ≡ Some Same → (new ≡ given old session) × (lines' ≡ lines)
  pub told : taken.asks_dump ≡ false → (seen : Seen) → taken.seen ≡ Some seen → seen ≢ Same → ShowsNews (given old session) x.offset x.event seen lines new lines'
  pub session_is : new.follower.session ≡ session
  pub rotated_is : new.rotated ≡ old.rotated

-- The watcher was given the event, and these lines were added: that of its picture, and those of what it made of the
-- game.
record Shown (new : Watcher) (session : State) (setting : Setting) (past : List Event) (x : Timed) (lines lines' : List ℕ) : Type 0 where
  pictured : List GameLine
  picture_is : ShowsPicture x.offset (pictures setting.rotated past) (pictures setting.rotated (x.event ∷ past)) pictured
  draws : Draws new.placement setting (x.event ∷ past)
  said : Told new.follower session setting past x (lines ++ text_of pictured) lines'

-- The event showed no new picture.
shown_none : (old new : Watcher) (session : State) (setting : Setting) (past : List Event) (x : Timed) (lines lines' : List ℕ)
    → pictures setting.rotated (x.event ∷ past) ≡ pictures setting.rotated past → new ≡ given old session → Draws old.placement setting (x.event ∷ past)
    → Told new.follower session setting past x lines lines' → Shown new session setting past x lines lines'
shown_none old new session setting past x lines lines' pictures_are new_is draws said =
    let P : Watcher → Type 0 = λ w. Draws w.placement setting (x.event ∷ past) in
    let Q : List ℕ → Type 0 = λ l. Told new.follower session setting past x l lines' in
    record {
      pictured = [];
      picture_is = inl (pictures_are, refl);
      draws = subst P (sym new_is) draws;
      said = subst Q (sym (append-nil lines)) said;
    }

shown_seen : TextsArePlain → (old new : Watcher) (session : State) (setting : Setting) (past : List Event) (x : Timed) (taken : Taken) (seen : Seen) (lines lines' : List ℕ)
    → HasWatched old setting past → HasFrame x.event → HasTakenEvents session setting (x.event ∷ past) → TellsTaken setting past x.event taken → taken.asks_dump ≡ false → taken.seen ≡ Some seen
    → Tells old session taken x new lines lines' → (seen ≡ Same) ⊎ (seen ≢ Same) → Shown new session setting past x lines lines'
shown_seen law old new session setting past x taken seen lines lines' h frame stands tells asks some t (inl same) =
    let kept = t.same asks (some ∙ ap Some same) in
    let entered : is_entry x.event past ≡ true = sym tells.entry ∙ ap is_some some in
    let Q : Option Seen → Type 0 = λ s. IfSome s (ReturnsSeen setting.start (entries_in setting past) (picture_of setting.rotated (x.event ∷ past))) in
    let again : repeats (picture_of setting.rotated (x.event ∷ past)) (entries_in setting past) ≡ true = subst Q (some ∙ ap Some same) tells.seen in
    shown_none old new session setting past x lines lines' (pictures_same setting.first setting.rotated past x.event entered again) kept.0
    (draws_same old.placement setting past x.event entered again h.draws)
    (told_by old.follower new.follower session setting past x [] [] lines lines' (ap (λ (w : Watcher). w.follower) kept.0)
    (added_same old.follower session setting past x taken seen [] [] h.followed stands tells asks some same refl)
    (none_placed x.offset (reached_by setting.start session.settler.score) [] [] refl refl) (kept.1 ∙ sym (append-nil lines)))
shown_seen law old new session setting past x taken seen lines lines' h frame stands tells asks some t (inr other) =
    let here = entry_at setting.first setting.rotated (x.event ∷ past) in
    let entered : is_entry x.event past ≡ true = sym tells.entry ∙ ap is_some some in
    let fresh = news old.follower session setting past x.event taken seen h.followed stands tells some other in
    let made = t.told asks seen some other in
    let D : Bool → Type 0 = λ r. picture_in new.placement ≡ drawn r x.event (picture_in old.placement) in
    let is : picture_in new.placement ≡ here.picture = subst D h.turned made.drawn_is ∙ now_drawn old.placement setting past x.event frame entered h.draws in
    let picture = picture_in new.placement in
    record {
      pictured = line_with x.offset (picture_words picture) ∷ [];
      picture_is = inr (picture, pictures_more setting.first setting.rotated past x.event entered fresh.new ∙ ap (λ p. p ∷ pictures setting.rotated past) (sym is), refl);
      draws = draws_new new.placement setting past x.event entered is;
      said = told_news law old.follower new.follower session setting past x taken seen (lines ++ line x.offset (picture_words picture)) lines'
          h.followed stands tells asks some t.session_is fresh
          (made.adds here.picture fresh.last (told_waits old.follower session.settler setting past here seen h.followed fresh));
    }

shown : TextsArePlain → (old new : Watcher) (session : State) (setting : Setting) (past : List Event) (x : Timed) (taken : Taken) (lines lines' : List ℕ)
    → HasWatched old setting past → HasFrame x.event → HasTakenEvents session setting (x.event ∷ past) → TellsTaken setting past x.event taken → Tells old session taken x new lines lines'
    → (asks : Bool) (seen : Option Seen) → taken.asks_dump ≡ asks → taken.seen ≡ seen → Shown new session setting past x lines lines'
shown law old new session setting past x taken lines lines' h frame stands tells t true seen asks some =
    let kept = t.fault asks in
    let fault : is_fault x.event ≡ true = sym tells.asks ∙ asks in
    let none : is_entry x.event past ≡ false = fault_gives_none x.event past fault in
    shown_none old new session setting past x lines lines' (pictures_none setting.rotated past x.event none) kept.0
    (draws_none old.placement setting past x.event none h.draws)
    (told_by old.follower new.follower session setting past x (line_of x) (line_of x) lines lines' (ap (λ (w : Watcher). w.follower) kept.0)
    (added_fault old.follower session setting past x taken [] (line_of x) h.followed stands tells asks refl)
    (fault_placed (reached_by setting.start session.settler.score) x.offset x.event fault) kept.1)
shown law old new session setting past x taken lines lines' h frame stands tells t false None asks some =
    let kept = t.none asks some in
    let none : is_entry x.event past ≡ false = sym tells.entry ∙ ap is_some some in
    shown_none old new session setting past x lines lines' (pictures_none setting.rotated past x.event none) kept.0
    (draws_none old.placement setting past x.event none h.draws)
    (told_by old.follower new.follower session setting past x [] [] lines lines' (ap (λ (w : Watcher). w.follower) kept.0)
    (added_nothing old.follower session setting past x taken [] [] h.followed stands tells asks some refl)
    (none_placed x.offset (reached_by setting.start session.settler.score) [] [] refl refl) (kept.1 ∙ sym (append-nil lines)))
shown law old new session setting past x taken lines lines' h frame stands tells t false (Some seen) asks some =
    shown_seen law old new session setting past x taken seen lines lines' h frame stands tells asks some t (is_same seen)

-- The watcher was given the event, and its lines were added.
pub watched : TextsArePlain → (old new : Watcher) (session : State) (setting : Setting) (past : List Event) (x : Timed) (taken : Taken) (lines told_lines lines' : List ℕ)
    (before after : Option Reading) → HasWatched old setting past → HasFrame x.event → HasTakenEvents session setting (x.event ∷ past) → TellsTaken setting past x.event taken
    → Tells old session taken x new lines told_lines
    → before ≡ reading_at setting.first past → after ≡ reading_at setting.first (x.event ∷ past)
    → ((timed : List GameLine) × ShowsReading x.offset before after timed × (lines' ≡ told_lines ++ text_of timed))
    → HasWatched new setting (x.event ∷ past) × ((more : List GameLine) × (lines' ≡ lines ++ text_of more) × WatchesEvent setting past x more)
watched law old new session setting past x taken lines told_lines lines' before after h frame stands tells t before_is after_is timed =
    let here = shown law old new session setting past x taken lines told_lines h frame stands tells t taken.asks_dump taken.seen refl refl in
    let pictured = here.pictured in
    let said = here.said in
    let p = reached_by setting.start session.settler.score in
    let placed = flat_map (with_position p) said.placed.lines in
    let more = timed.0 ++ (placed ++ pictured) in
    let R : Option Reading → Type 0 = λ r. ShowsReading x.offset r after timed.0 in
    let S : Option Reading → Type 0 = λ r. ShowsReading x.offset (reading_at setting.first past) r timed.0 in
    let E : List ℕ → Type 0 = λ plain. TellsEvent setting past x plain in
    let text_is : text_of more ≡ (text_of pictured ++ text_of placed) ++ text_of timed.0 = text_append timed.0 (placed ++ pictured) ∙ ap (λ ts. ts ++ text_of timed.0) (text_append placed pictured) in
    let all : lines' ≡ ((lines ++ text_of pictured) ++ text_of placed) ++ text_of timed.0 =
    timed.2 ∙ ap (λ ts. ts ++ text_of timed.0) (said.lines_are ∙ ap (λ ts. (lines ++ text_of pictured) ++ ts) said.placed.text_is) in
    let joined : ((lines ++ text_of pictured) ++ text_of placed) ++ text_of timed.0 ≡ lines ++ ((text_of pictured ++ text_of placed) ++ text_of timed.0) =
    ap (λ ts. ts ++ text_of timed.0) (append_assoc lines (text_of pictured) (text_of placed)) ∙ append_assoc lines (text_of pictured ++ text_of placed) (text_of timed.0) in (
      record { followed = said.followed; turned = t.rotated_is ∙ h.turned; draws = here.draws },
      (
        more,
        all ∙ joined ∙ ap (λ ts. lines ++ ts) (sym text_is),
        record {
          pictured = pictured;
          followed = said.placed.lines;
          timed = timed.0;
          score = session.settler.score;
          picture_is = here.picture_is;
          follows = subst E said.placed.plain_is said.tells;
          each = said.placed.each;
          folds = stands.settler.folds;
          reading_is = subst S after_is (subst R before_is timed.1);
          lines_are = refl;
        },
      ),
    )

may_tell_some : (old : Follower) (session : State) (setting : Setting) (past : List Event) (event : Event) (taken : Taken) (seen : Option Seen) → HasFollowed old setting past
    → HasTakenEvents session setting (event ∷ past) → TellsTaken setting past event taken → taken.seen ≡ seen
    → IfSome seen (λ s. s ≢ Same → MayTell session.settler.start session.settler.score s)
may_tell_some old session setting past event taken None followed stands tells some = tt
may_tell_some old session setting past event taken (Some seen) followed stands tells some = λ other.
    may_tell_news session.settler setting.start (entries_in setting past) (entry_at setting.first setting.rotated (event ∷ past)) seen
    (news old session setting past event taken seen followed stands tells some other)

-- What the session saw can be told.
pub may_tell_taken : (old : Follower) (session : State) (setting : Setting) (past : List Event) (event : Event) (taken : Taken) → HasFollowed old setting past
    → HasTakenEvents session setting (event ∷ past) → TellsTaken setting past event taken
    → taken.asks_dump ≡ false → IfSome taken.seen (λ seen. seen ≢ Same → MayTell session.settler.start session.settler.score seen)
may_tell_taken old session setting past event taken followed stands tells asks = may_tell_some old session setting past event taken taken.seen followed stands tells refl
