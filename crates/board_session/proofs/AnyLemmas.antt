-- The game of all events, whatever they are.
use Rattle.std.proofs.Common.{◌≡◌, Bool, true, false, List, [], ◌∷◌, ◌++◌, reverse, Option, Some, None, refl, sym, ap, subst, ◌∙◌, append_assoc}
use Rattle.std.proofs.lemmas.List.{reverse-append, reverse-reverse}
use Rattle.chess_rules.specs.declared.parts.Parts.{Parts}
use Rattle.chess_rules.specs.Legal.{Mated, Stale}
use Rattle.chess_rules.specs.Picture.{picture}
use Rattle.dgt_frame.specs.declared.events.Event.{Event}
use Rattle.settle_core.specs.declared.plies.Outcome.{Outcome}
use Rattle.settle_core.specs.declared.plies.Ply.{Ply}
use Rattle.settle_core.specs.AnyPlay.{AllShowBothKings, KeepsAllButLast, WereShown}
use Rattle.settle_core.specs.Entries.{Entry, deduplicated, last_picture, repeats}
use Rattle.settle_core.specs.Folding.{Folds, Score, moves_of, score_of, time_of}
use Rattle.settle_core.specs.HonestPlay.{AllShowNoMoreOrLackKing, AllWithinTurnOrLackKing, HasWhole, ShownEach, shown_plies}
use Rattle.settle_core.specs.Settling.{Line, position_after, reached}
use Rattle.settle_core.specs.Sign.{IsSign}
use Rattle.settle_core.proofs.Resuming.{honest_play_resumes as plies_resume, kings_end_resumed_play as kings_end_resumed, resumed_play_stops as resumed_stops}
use Rattle.settle_core.proofs.Whatever.{kings_keep_the_plies, nothing_is_invented as plies_were_shown, only_the_last_may_change}
use Rattle.chess_game.specs.Games.{Content, Result}
use Rattle.chess_game.specs.Values.{TagValues}
use Rattle.board_session.specs.AnyStream.{HasAllButLast, KingsInCentreRecordNoMove, NothingRecordedIsInvented, OnlyTheLastRecordedPlyMayChange, ResumedEndIsRecorded, ResumedPlayIsRecorded, ResumedStopIsRecorded, WereShownByEvents, end_of}
use Rattle.board_events.specs.Entries.{entry_at, is_entry}
use Rattle.board_events.specs.Game.{IsGameOf}
use Rattle.board_events.specs.Settings.{Setting}
use Rattle.board_events.specs.Session.{entries_in}
use Rattle.board_session.proofs.HonestLemmas.{entries_on}
use Rattle.board_session.proofs.UnseenLemmas.{reached_by}

-- the event of an entry, and the events before it
record EventOf (setting : Setting) (past : List Event) (entry : Entry) (before : List Entry) : Type 0 where
  later : List Event
  event : Event
  earlier : List Event
  is : past ≡ later ++ event ∷ earlier
  gives : is_entry event earlier ≡ true
  entry_is : entry ≡ entry_at setting.first setting.rotated (event ∷ earlier)
  before_is : before ≡ deduplicated (entries_in setting earlier)

after_one : (setting : Setting) (one : Event) (past : List Event) (entry : Entry) (before : List Entry)
    → EventOf setting past entry before → EventOf setting (one ∷ past) entry before
after_one setting one past entry before e = record {
  later = one ∷ e.later;
  event = e.event;
  earlier = e.earlier;
  is = ap (λ (es : List Event). one ∷ es) e.is;
  gives = e.gives;
  entry_is = e.entry_is;
  before_is = e.before_is;
}

-- the head of a list is the event's own entry, or a later one of the list is that of an event before
new_entry : (setting : Setting) (one : Event) (past : List Event) (later before : List Entry) (entry : Entry)
    → is_entry one past ≡ true
    → ((rest : List Entry) → deduplicated (entries_in setting past) ≡ rest ++ entry ∷ before → EventOf setting past entry before)
    → entry_at setting.first setting.rotated (one ∷ past) ∷ deduplicated (entries_in setting past) ≡ later ++ entry ∷ before
    → EventOf setting (one ∷ past) entry before
new_entry setting one past [] before entry g more e = record {
  later = [];
  event = one;
  earlier = past;
  is = refl;
  gives = g;
  entry_is = let same : entry ≡ entry_at setting.first setting.rotated (one ∷ past) = cc in same;
  before_is = let same : before ≡ deduplicated (entries_in setting past) = cc in same;
}
new_entry setting one past (x ∷ later) before entry g more e =
    let rest : deduplicated (entries_in setting past) ≡ later ++ entry ∷ before = cc in
    after_one setting one past entry before (more later rest)

event_step : (setting : Setting) (one : Event) (past : List Event) (later before : List Entry) (entry : Entry) (given again : Bool)
    → is_entry one past ≡ given
    → repeats (entry_at setting.first setting.rotated (one ∷ past)).picture (entries_in setting past) ≡ again
    → ((rest : List Entry) → deduplicated (entries_in setting past) ≡ rest ++ entry ∷ before → EventOf setting past entry before)
    → deduplicated (entries_in setting (one ∷ past)) ≡ later ++ entry ∷ before
    → EventOf setting (one ∷ past) entry before
event_step setting one past later before entry false again g r more e =
    let are : entries_in setting (one ∷ past) ≡ entries_in setting past = rw g refl in
    after_one setting one past entry before (more later (ap deduplicated (sym are) ∙ e))
event_step setting one past later before entry true true g r more e =
    let are : entries_in setting (one ∷ past) ≡ entry_at setting.first setting.rotated (one ∷ past) ∷ entries_in setting past = rw g refl in
    let same : deduplicated (entry_at setting.first setting.rotated (one ∷ past) ∷ entries_in setting past) ≡ deduplicated (entries_in setting past) = rw r refl in
    after_one setting one past entry before (more later (sym same ∙ ap deduplicated (sym are) ∙ e))
event_step setting one past later before entry true false g r more e =
    let are : entries_in setting (one ∷ past) ≡ entry_at setting.first setting.rotated (one ∷ past) ∷ entries_in setting past = rw g refl in
    let new : deduplicated (entry_at setting.first setting.rotated (one ∷ past) ∷ entries_in setting past)
    ≡ entry_at setting.first setting.rotated (one ∷ past) ∷ deduplicated (entries_in setting past) = rw r refl in
    new_entry setting one past later before entry g more (sym new ∙ ap deduplicated (sym are) ∙ e)

event_of : (setting : Setting) (past : List Event) (later before : List Entry) (entry : Entry)
    → deduplicated (entries_in setting past) ≡ later ++ entry ∷ before → EventOf setting past entry before
event_of setting [] [] before entry e = absurd (let never : ⊥ = cc in never)
event_of setting [] (x ∷ later) before entry e = absurd (let never : ⊥ = cc in never)
event_of setting (one ∷ past) later before entry e =
    event_step setting one past later before entry (is_entry one past)
    (repeats (entry_at setting.first setting.rotated (one ∷ past)).picture (entries_in setting past)) refl refl
    (λ rest h. event_of setting past rest before entry h) e

-- what entries showed, their events showed
shown_by_events : (setting : Setting) (plies : List Ply) (past : List Event)
    → WereShown setting.start plies (deduplicated (entries_in setting past)) → WereShownByEvents setting plies past
shown_by_events setting [] past h = tt
shown_by_events setting (ply ∷ earlier) past h =
    let e : EventOf setting past h.1 h.2 = event_of setting past h.0 h.2 h.1 h.3 in
    let B : List Entry → Type 0 = λ es. WereShown setting.start earlier es in (
      e.later,
      e.event,
      e.earlier,
      e.is,
      e.gives,
      ap (λ (x : Entry). x.picture) (sym e.entry_is) ∙ h.4,
      h.5 ∙ ap (λ (x : Entry). time_of (reached setting.start (moves_of earlier)).side x.reading) e.entry_is,
      shown_by_events setting earlier e.earlier (subst B e.before_is h.6),
    )

pub nothing_is_invented : NothingRecordedIsInvented
nothing_is_invented setting tags past game is =
    shown_by_events setting (reverse game.plies) past (plies_were_shown setting.start (deduplicated (entries_in setting past)) (score_of game.plies is.sign) is.folds)

-- more entries, deduplicated, are the first and some more
pub deduplicated_on : (more past : List Entry) → (kept : List Entry) × (deduplicated (more ++ past) ≡ kept ++ deduplicated past)
deduplicated_on [] past = ([], refl)
deduplicated_on (entry ∷ more) past = one_more (repeats entry.picture (more ++ past)) refl (deduplicated_on more past)
  where
    one_more : (again : Bool) → repeats entry.picture (more ++ past) ≡ again
        → (kept : List Entry) × (deduplicated (more ++ past) ≡ kept ++ deduplicated past)
        → (kept : List Entry) × (deduplicated (entry ∷ (more ++ past)) ≡ kept ++ deduplicated past)
    one_more true e on =
        let same : deduplicated (entry ∷ (more ++ past)) ≡ deduplicated (more ++ past) = rw e refl in
        (on.0, same ∙ on.1)
    one_more false e on =
        let new : deduplicated (entry ∷ (more ++ past)) ≡ entry ∷ deduplicated (more ++ past) = rw e refl in
        (entry ∷ on.0, new ∙ ap (λ (es : List Entry). entry ∷ es) on.1)

-- the latest first, and in their order
keeps_in_order : (before plies : List Ply) → KeepsAllButLast (reverse before) (reverse plies) → HasAllButLast before plies
keeps_in_order before plies keeps kept last is =
    let were : reverse before ≡ last ∷ reverse kept = ap reverse is ∙ reverse-append kept (last ∷ []) in
    let K : List Ply → Type 0 = λ ps. KeepsAllButLast ps (reverse plies) in
    let k = subst K were keeps in (
      k.1,
      reverse k.0,
      sym (reverse-reverse plies) ∙ ap reverse k.2 ∙ reverse-append k.0 (k.1 ∷ reverse kept)
          ∙ ap (λ (ps : List Ply). ps ++ reverse k.0) (reverse-append (k.1 ∷ []) (reverse kept) ∙ ap (λ (ps : List Ply). ps ++ k.1 ∷ []) (reverse-reverse kept))
          ∙ append_assoc kept (k.1 ∷ []) (reverse k.0),
    )

pub only_the_last_ply_may_change : OnlyTheLastRecordedPlyMayChange
only_the_last_ply_may_change setting tags later past before game valid h k =
    let on = entries_on setting later past in
    let kept = deduplicated_on on.0 (entries_in setting past) in
    let are : deduplicated (entries_in setting (later ++ past)) ≡ kept.0 ++ deduplicated (entries_in setting past) = ap deduplicated on.1 ∙ kept.1 in
    let F : List Entry → Type 0 = λ es. Folds setting.start es (score_of game.plies k.sign) in
    keeps_in_order before.plies game.plies
    (only_the_last_may_change setting.start kept.0 (deduplicated (entries_in setting past)) (score_of before.plies h.sign) (score_of game.plies k.sign) valid h.folds
    (subst F are k.folds))

-- a game without a result has no sign
no_sign : (start : Parts) (plies : List Ply) (sign result : Option Outcome) → Result start plies sign result → result ≡ None → sign ≡ None
no_sign start plies sign result is none =
    let p : Parts = position_after start (moves_of plies) in
    let mated : Mated p → ⊥ = λ m. none_is_some _ (sym none ∙ is.mated m) in
    let stale : Stale p → ⊥ = λ m. none_is_some _ (sym none ∙ is.stale m) in
    sym (is.running mated stale) ∙ none
  where
    none_is_some : (outcome : Outcome) → None ≡ Some outcome → ⊥
    none_is_some outcome e = cc

-- where the game's last position stands in the folded score
end_reached : (setting : Setting) (tags : TagValues) (past : List Event) (game : Content) → IsGameOf game setting tags past
    → end_of game ≡ reached setting.start (moves_of (reverse game.plies))
end_reached setting tags past game is =
    ap (λ (p : Parts). position_after p (moves_of game.plies)) is.start_is ∙ reached_by setting.start game.plies

-- plies in their order that were added to others
added_in_order : (before plies shown : List Ply) → reverse plies ≡ reverse shown ++ reverse before → plies ≡ before ++ shown
added_in_order before plies shown e =
    sym (reverse-reverse plies) ∙ ap reverse e ∙ reverse-append (reverse shown) (reverse before)
    ∙ ap (λ (ps : List Ply). ps ++ reverse (reverse shown)) (reverse-reverse before) ∙ ap (λ (ps : List Ply). before ++ ps) (reverse-reverse shown)

pub honest_play_resumes : ResumedPlayIsRecorded
honest_play_resumes setting tags later past before game moves lists valid agrees on gives is =
    let h : IsGameOf before setting tags past = agrees.game_is in
    let p : Parts = reached setting.start (moves_of (reverse before.plies)) in
    let at : end_of before ≡ p = end_reached setting tags past before h in
    let none : h.sign ≡ None = no_sign setting.start before.plies h.sign before.result h.result_is agrees.running in
    let L : Parts → Type 0 = λ x. last_picture (entries_in setting past) ≡ Some (picture x) in
    let M : Parts → Type 0 = λ x. Line x moves in
    let S : Parts → Type 0 = λ x. ShownEach x moves lists in
    let G : Parts → Type 0 = λ x. game.plies ≡ before.plies ++ shown_plies x moves lists in
    let F : List Entry → Type 0 = λ es. Folds setting.start es (score_of game.plies is.sign) in
    let one = plies_resume setting.start (entries_in setting past) (score_of before.plies h.sign) (score_of game.plies is.sign) moves lists valid h.folds none
    (subst L at agrees.last) (subst M at on.line) (subst S at on.shown) (subst F gives is.folds) in
    let R : Option Outcome → Type 0 = λ sign. Result setting.start game.plies sign game.result in (
      subst G (sym at) (added_in_order before.plies game.plies (shown_plies p moves lists) (ap (λ (s : Score). s.plies) one)),
      subst R (ap (λ (s : Score). s.sign) one) is.result_is,
    )

pub resumed_play_stops : ResumedStopIsRecorded
resumed_play_stops setting tags later past before game moves lists part valid agrees on passes gives is =
    let h : IsGameOf before setting tags past = agrees.game_is in
    let p : Parts = reached setting.start (moves_of (reverse before.plies)) in
    let at : end_of before ≡ p = end_reached setting tags past before h in
    let none : h.sign ≡ None = no_sign setting.start before.plies h.sign before.result h.result_is agrees.running in
    let L : Parts → Type 0 = λ x. last_picture (entries_in setting past) ≡ Some (picture x) in
    let M : Parts → Type 0 = λ x. Line x moves in
    let S : Parts → Type 0 = λ x. ShownEach x moves lists in
    let A : Parts → Type 0 = λ x. AllWithinTurnOrLackKing (position_after x moves) part in
    let F : List Entry → Type 0 = λ es. Folds setting.start es (score_of game.plies is.sign) in
    let stops = resumed_stops setting.start (entries_in setting past) (score_of before.plies h.sign) (score_of game.plies is.sign) moves lists part valid h.folds none
    (subst L at agrees.last) (subst M at on.line) (subst S at on.shown) (subst A at passes) (subst F gives is.folds) in
    let made = stops.1 in
    let W : Parts → Type 0 = λ x. HasWhole x moves lists part made.0 in
    let R : Option Outcome → Type 0 = λ sign. Result setting.start game.plies sign game.result in (
      (made.0, sym (reverse-reverse game.plies) ∙ made.1 ∙ ap (λ (ps : List Ply). ps ++ made.0) (reverse-reverse before.plies), subst W (sym at) made.2),
      subst R stops.0 is.result_is,
    )

pub kings_end_resumed_play : ResumedEndIsRecorded
kings_end_resumed_play setting tags later past before game moves lists clearing rest kings outcome valid agrees on a k b gives is =
    let h : IsGameOf before setting tags past = agrees.game_is in
    let p : Parts = reached setting.start (moves_of (reverse before.plies)) in
    let at : end_of before ≡ p = end_reached setting tags past before h in
    let none : h.sign ≡ None = no_sign setting.start before.plies h.sign before.result h.result_is agrees.running in
    let L : Parts → Type 0 = λ x. last_picture (entries_in setting past) ≡ Some (picture x) in
    let M : Parts → Type 0 = λ x. Line x moves in
    let S : Parts → Type 0 = λ x. ShownEach x moves lists in
    let A : Parts → Type 0 = λ x. AllShowNoMoreOrLackKing (position_after x moves) clearing in
    let B : Parts → Type 0 = λ x. AllShowNoMoreOrLackKing (position_after x moves) rest in
    let K : Parts → Type 0 = λ x. IsSign (position_after x moves) kings.picture outcome in
    let G : Parts → Type 0 = λ x. game.plies ≡ before.plies ++ shown_plies x moves lists in
    let F : List Entry → Type 0 = λ es. Folds setting.start es (score_of game.plies is.sign) in
    let one = kings_end_resumed setting.start (entries_in setting past) (score_of before.plies h.sign) (score_of game.plies is.sign) moves lists clearing rest kings outcome
    valid h.folds none (subst L at agrees.last) (subst M at on.line) (subst S at on.shown) (subst A at a) (subst K at k) (subst B at b) (subst F gives is.folds) in
    let R : Option Outcome → Type 0 = λ sign. Result setting.start game.plies sign game.result in (
      subst G (sym at) (added_in_order before.plies game.plies (shown_plies p moves lists) (ap (λ (s : Score). s.plies) one)),
      subst R (ap (λ (s : Score). s.sign) one) is.result_is,
    )

-- of more entries that all show both kings, those that are kept do so
kings_kept : (more past : List Entry) → AllShowBothKings more
    → (kept : List Entry) × (deduplicated (more ++ past) ≡ kept ++ deduplicated past) × AllShowBothKings kept
kings_kept [] past a = ([], refl, tt)
kings_kept (entry ∷ more) past a = one_more (repeats entry.picture (more ++ past)) refl (kings_kept more past a.1)
  where
    one_more : (again : Bool) → repeats entry.picture (more ++ past) ≡ again
        → (kept : List Entry) × (deduplicated (more ++ past) ≡ kept ++ deduplicated past) × AllShowBothKings kept
        → (kept : List Entry) × (deduplicated (entry ∷ (more ++ past)) ≡ kept ++ deduplicated past) × AllShowBothKings kept
    one_more true e on =
        let same : deduplicated (entry ∷ (more ++ past)) ≡ deduplicated (more ++ past) = rw e refl in
        (on.0, same ∙ on.1, on.2)
    one_more false e on =
        let new : deduplicated (entry ∷ (more ++ past)) ≡ entry ∷ deduplicated (more ++ past) = rw e refl in
        (entry ∷ on.0, new ∙ ap (λ (es : List Entry). entry ∷ es) on.1, (a.0, on.2))

pub kings_in_centre_keep_the_plies : KingsInCentreRecordNoMove
kings_in_centre_keep_the_plies setting tags later past before game shown valid h are kings k =
    let kept = kings_kept shown (entries_in setting past) kings in
    let F : List Entry → Type 0 = λ es. Folds setting.start es (score_of game.plies k.sign) in
    let same : reverse game.plies ≡ reverse before.plies =
    kings_keep_the_plies setting.start kept.0 (deduplicated (entries_in setting past)) (score_of before.plies h.sign) (score_of game.plies k.sign) valid kept.2 h.folds
    (subst F (ap deduplicated are ∙ kept.1) k.folds) in
    sym (reverse-reverse game.plies) ∙ ap reverse same ∙ reverse-reverse before.plies
