-- Each ply was shown, or its pair's line was written.
use Rattle.std.proofs.Common.{◌≡◌, ◌⊎◌, ◌∙◌, inl, inr, ℕ, Bool, true, false, List, [], ◌∷◌, ◌++◌, map, reverse, Option, Some, None, refl, sym, ap, subst, append_assoc, append-nil}
use Rattle.chess_rules.specs.declared.parts.Parts.{Parts}
use Rattle.chess_rules.specs.Valid.{Valid}
use Rattle.dgt_frame.specs.declared.events.Event.{Event}
use Rattle.dgt_frame.specs.Streams.{Timed}
use Rattle.settle_core.specs.declared.plies.Ply.{Ply}
use Rattle.settle_core.specs.declared.plies.Seen.{Seen}
use Rattle.settle_core.specs.declared.plies.Seen.TheVariants.{Same, Moved, Sign, Replaced, Waits}
use Rattle.settle_core.specs.Entries.{Entry, deduplicated, repeats}
use Rattle.settle_core.specs.Folding.{Score, moves_of, time_of}
use Rattle.settle_core.specs.Settling.{reached}
use Rattle.settle_core.proofs.Lines.{map-reverse}
use Rattle.unseen_pairs.specs.declared.pair.Recovery.{Recovery}
use Rattle.unseen_pairs.specs.declared.pair.SeenOrRecovered.{SeenOrRecovered}
use Rattle.unseen_pairs.specs.declared.pair.SeenOrRecovered.TheVariants.{Shown, Recovered}
use Rattle.unseen_pairs.specs.Laws.{AllComeFrom, PliesAreShownOrRecovered, RecoversOnce, WasRecovered, WasShown}
use Rattle.unseen_pairs.specs.Pairs.{Confirms}
use Rattle.unseen_pairs.specs.Recoverer.{ReturnsTold, TellsNew}
use Rattle.unseen_pairs.specs.Recovering.{FoldsRecovering, TellsAs}
use Rattle.unseen_pairs.proofs.Recovered.{told_same}
use Rattle.board_events.specs.Commands.{past_of}
use Rattle.board_events.specs.Entries.{entry_at, is_entry}
use Rattle.board_events.specs.Settings.{Setting}
use Rattle.board_events.specs.Session.{entries_in}
use Rattle.recovery.specs.Invented.{AreShownOrTold, HasPairLine, PliesAreShownOrTold, WasShownByEvent}
use Rattle.recovery.specs.Keeping.{RecoversAt}
use Rattle.recovery.specs.Weaving.{Put, Puts, PutsAll, TellsPuts, TellsRecovered}

abbrev events_of : List Timed → List Event
events_of events = map (λ (t : Timed). t.event) events

-- ---- the event of an entry

-- The entry is that of this event, and these are the entries before it.
record EventOf (setting : Setting) (events : List Timed) (entry : Entry) (before : List Entry) : Type 0 where
  later : List Timed
  x : Timed
  earlier : List Timed
  is : events ≡ later ++ x ∷ earlier
  gives : is_entry x.event (events_of earlier) ≡ true
  new : repeats (entry_at setting.first setting.rotated (x.event ∷ events_of earlier)).picture (entries_in setting (events_of earlier)) ≡ false
  entry_is : entry ≡ entry_at setting.first setting.rotated (x.event ∷ events_of earlier)
  before_is : before ≡ deduplicated (entries_in setting (events_of earlier))

after_one : (setting : Setting) (one : Timed) (past : List Timed) (entry : Entry) (before : List Entry) → EventOf setting past entry before → EventOf setting (one ∷ past) entry before
after_one setting one past entry before e = record {
  later = one ∷ e.later;
  x = e.x;
  earlier = e.earlier;
  is = ap (λ es. one ∷ es) e.is;
  gives = e.gives;
  new = e.new;
  entry_is = e.entry_is;
  before_is = e.before_is;
}

new_entry : (setting : Setting) (one : Timed) (past : List Timed) (later before : List Entry) (entry : Entry) → is_entry one.event (events_of past) ≡ true
    → repeats (entry_at setting.first setting.rotated (one.event ∷ events_of past)).picture (entries_in setting (events_of past)) ≡ false
    → ((rest : List Entry) → deduplicated (entries_in setting (events_of past)) ≡ rest ++ entry ∷ before → EventOf setting past entry before)
    → entry_at setting.first setting.rotated (one.event ∷ events_of past) ∷ deduplicated (entries_in setting (events_of past)) ≡ later ++ entry ∷ before
    → EventOf setting (one ∷ past) entry before
new_entry setting one past [] before entry g r more e = record {
  later = [];
  x = one;
  earlier = past;
  is = refl;
  gives = g;
  new = r;
  entry_is = let same : entry ≡ entry_at setting.first setting.rotated (one.event ∷ events_of past) = cc in same;
  before_is = let same : before ≡ deduplicated (entries_in setting (events_of past)) = cc in same;
}
new_entry setting one past (x ∷ later) before entry g r more e =
    let rest : deduplicated (entries_in setting (events_of past)) ≡ later ++ entry ∷ before = cc in
    after_one setting one past entry before (more later rest)

event_step : (setting : Setting) (one : Timed) (past : List Timed) (later before : List Entry) (entry : Entry) (given again : Bool) → is_entry one.event (events_of past) ≡ given
    → repeats (entry_at setting.first setting.rotated (one.event ∷ events_of past)).picture (entries_in setting (events_of past)) ≡ again
    → ((rest : List Entry) → deduplicated (entries_in setting (events_of past)) ≡ rest ++ entry ∷ before → EventOf setting past entry before)
    → deduplicated (entries_in setting (one.event ∷ events_of past)) ≡ later ++ entry ∷ before
    → EventOf setting (one ∷ past) entry before
event_step setting one past later before entry false again g r more e =
    let are : entries_in setting (one.event ∷ events_of past) ≡ entries_in setting (events_of past) = rw g refl in
    after_one setting one past entry before (more later (ap deduplicated (sym are) ∙ e))
event_step setting one past later before entry true true g r more e =
    let here = entry_at setting.first setting.rotated (one.event ∷ events_of past) in
    let are : entries_in setting (one.event ∷ events_of past) ≡ here ∷ entries_in setting (events_of past) = rw g refl in
    let same : deduplicated (here ∷ entries_in setting (events_of past)) ≡ deduplicated (entries_in setting (events_of past)) = rw r refl in
    after_one setting one past entry before (more later (sym same ∙ ap deduplicated (sym are) ∙ e))
event_step setting one past later before entry true false g r more e =
    let here = entry_at setting.first setting.rotated (one.event ∷ events_of past) in
    let are : entries_in setting (one.event ∷ events_of past) ≡ here ∷ entries_in setting (events_of past) = rw g refl in
    let new : deduplicated (here ∷ entries_in setting (events_of past)) ≡ here ∷ deduplicated (entries_in setting (events_of past)) = rw r refl in
    new_entry setting one past later before entry g r more (sym new ∙ ap deduplicated (sym are) ∙ e)

event_of : (setting : Setting) (events : List Timed) (later before : List Entry) (entry : Entry) → deduplicated (entries_in setting (events_of events)) ≡ later ++ entry ∷ before
    → EventOf setting events entry before
event_of setting [] [] before entry e = absurd (let never : ⊥ = cc in never)
event_of setting [] (x ∷ later) before entry e = absurd (let never : ⊥ = cc in never)
event_of setting (one ∷ past) later before entry e =
    event_step setting one past later before entry (is_entry one.event (events_of past))
    (repeats (entry_at setting.first setting.rotated (one.event ∷ events_of past)).picture (entries_in setting (events_of past))) refl refl
    (λ rest h. event_of setting past rest before entry h) e

-- ---- what is found at it

-- What is told of a new picture is this, if its entries tell it.
tells_same : RecoversOnce → (start : Parts) (past : List Entry) (entry : Entry) (score : Score) (waiting : List Entry) (r : Recovery) (told : SeenOrRecovered) → Valid start
    → FoldsRecovering start (deduplicated past) score waiting → TellsAs start (moves_of score.plies) waiting entry.picture (Recovered r)
    → TellsNew start past entry.picture told → Recovered r ≡ told
tells_same once start past entry score waiting r told valid folds tells new =
    let same = once start (deduplicated past) score new.1.0 waiting new.1.1 valid folds new.1.2 in
    told_same start (deduplicated past) entry score new.1.0 waiting new.1.1 (Recovered r) told valid new.1.2 same.0 same.1 tells new.1.3

same_recovery : (r s : Recovery) → Recovered r ≡ Recovered s → r ≡ s
same_recovery r s e = cc

never_shown : (r : Recovery) (seen : Seen) → Recovered r ≡ Shown seen → ⊥
never_shown r seen e = cc

clash : (b : Bool) → b ≡ true → b ≡ false → ⊥
clash true e f = cc
clash false e f = cc

none_returned : RecoversOnce → (start : Parts) (past : List Entry) (entry : Entry) (score : Score) (waiting : List Entry) (r : Recovery) (seen : Seen) → Valid start
    → FoldsRecovering start (deduplicated past) score waiting → TellsAs start (moves_of score.plies) waiting entry.picture (Recovered r) → repeats entry.picture past ≡ false
    → ReturnsTold start past entry.picture (Shown seen) → ⊥
none_returned once start past entry score waiting r Same valid folds tells new told = clash (repeats entry.picture past) told new
none_returned once start past entry score waiting r (Moved m) valid folds tells new told =
    never_shown r (Moved m) (tells_same once start past entry score waiting r (Shown (Moved m)) valid folds tells told)
none_returned once start past entry score waiting r (Sign outcome) valid folds tells new told =
    never_shown r (Sign outcome) (tells_same once start past entry score waiting r (Shown (Sign outcome)) valid folds tells told)
none_returned once start past entry score waiting r (Replaced m) valid folds tells new told =
    never_shown r (Replaced m) (tells_same once start past entry score waiting r (Shown (Replaced m)) valid folds tells told)
none_returned once start past entry score waiting r Waits valid folds tells new told =
    never_shown r Waits (tells_same once start past entry score waiting r (Shown Waits) valid folds tells told)

pub found_is : RecoversOnce → (setting : Setting) (past : List Event) (event : Event) (score : Score) (waiting : List Entry) (r : Recovery) (found : Option Recovery) → Valid setting.start
    → is_entry event past ≡ true → repeats (entry_at setting.first setting.rotated (event ∷ past)).picture (entries_in setting past) ≡ false
    → FoldsRecovering setting.start (deduplicated (entries_in setting past)) score waiting
    → TellsAs setting.start (moves_of score.plies) waiting (entry_at setting.first setting.rotated (event ∷ past)).picture (Recovered r)
    → RecoversAt setting past event found → found ≡ Some r
found_is once setting past event score waiting r None valid gives new folds tells at =
    let told = at gives in
    absurd (none_returned once setting.start (entries_in setting past) (entry_at setting.first setting.rotated (event ∷ past)) score waiting r told.0 valid folds tells new told.1)
found_is once setting past event score waiting r (Some s) valid gives new folds tells at =
    ap Some (sym (same_recovery r s (tells_same once setting.start (entries_in setting past) (entry_at setting.first setting.rotated (event ∷ past)) score waiting r (Recovered s) valid folds tells at.1)))

-- ---- its line

-- The line of the pair is in the text.
record LineIn (r : Recovery) (text : List ℕ) : Type 0 where
  front : List ℕ
  line : List ℕ
  back : List ℕ
  among : text ≡ front ++ line ++ back
  offset : ℕ
  tells : TellsRecovered offset r line

line_more : (r : Recovery) (before more text : List ℕ) → text ≡ before ++ more → LineIn r before → LineIn r text
line_more r before more text is l = record {
  front = l.front;
  line = l.line;
  back = l.back ++ more;
  among = is ∙ ap (λ t. t ++ more) l.among ∙ append_assoc (l.front ++ l.line) l.back more;
  offset = l.offset;
  tells = l.tells;
}

put_line : (setting : Setting) (past : List Event) (offset : ℕ) (r : Recovery) (before puts : List Put) (text : List ℕ) → Puts setting past offset (Some r) before puts → TellsPuts puts text → LineIn r text
put_line setting past offset r before puts text (put, is, puts_are) told =
    let T : List Put → Type 0 = λ ps. TellsPuts ps text in
    let here = subst T puts_are told in
    let R : Recovery → Type 0 = λ s. TellsRecovered put.offset s here.1 in
    record {
      front = here.0;
      line = here.1;
      back = [];
      among = here.4 ∙ sym (append-nil (here.0 ++ here.1));
      offset = put.offset;
      tells = subst R is.recovery_is here.3;
    }

line_behind : (setting : Setting) (past : List Event) (offset : ℕ) (r : Recovery) (found : Option Recovery) (before puts : List Put) (text : List ℕ)
    → ((t : List ℕ) → TellsPuts before t → LineIn r t) → Puts setting past offset found before puts → TellsPuts puts text → LineIn r text
line_behind setting past offset r None before puts text earlier are told = let T : List Put → Type 0 = λ ps. TellsPuts ps text in earlier text (subst T are told)
line_behind setting past offset r (Some s) before puts text earlier (put, is, puts_are) told =
    let T : List Put → Type 0 = λ ps. TellsPuts ps text in
    let here = subst T puts_are told in
    line_more r here.0 here.1 text here.4 (earlier here.0 here.2)

line_in : (setting : Setting) (later : List Timed) (x : Timed) (past : List Timed) (puts : List Put) (text : List ℕ) (r : Recovery) → PutsAll setting (later ++ x ∷ past) puts → TellsPuts puts text
    → ((found : Option Recovery) → RecoversAt setting (events_of past) x.event found → found ≡ Some r) → LineIn r text
line_in setting [] x past puts text r (before, found, all, at, are) told is =
    let P : Option Recovery → Type 0 = λ f. Puts setting (events_of (x ∷ past)) x.offset f before puts in
    put_line setting (events_of (x ∷ past)) x.offset r before puts text (subst P (is found at) are) told
line_in setting (y ∷ later) x past puts text r (before, found, all, at, are) told is =
    line_behind setting (events_of (y ∷ (later ++ x ∷ past))) y.offset r found before puts text (λ t tells. line_in setting later x past before t r all tells is) are told

-- ---- each ply

events-append : (later earlier : List Timed) → events_of (later ++ earlier) ≡ events_of later ++ events_of earlier
events-append [] earlier = refl
events-append (x ∷ later) earlier = ap (λ es. x.event ∷ es) (events-append later earlier)

shown : (setting : Setting) (events : List Timed) (ply : Ply) (earlier : List Ply) → WasShown setting.start ply earlier (deduplicated (entries_in setting (events_of events)))
    → WasShownByEvent setting ply earlier (events_of events)
shown setting events ply earlier w =
    let e = event_of setting events w.later w.before w.entry w.among in record {
      later = events_of e.later;
      event = e.x.event;
      before = events_of e.earlier;
      among = ap events_of e.is ∙ events-append e.later (e.x ∷ e.earlier);
      entry = e.gives;
      shows = ap (λ (n : Entry). n.picture) (sym e.entry_is) ∙ w.shows;
      clock_is = w.clock_is ∙ ap (λ (n : Entry). time_of (reached setting.start (moves_of earlier)).side n.reading) e.entry_is;
    }

-- The pair begins where its position says.
begins_there : (setting : Setting) (ply : Ply) (earlier : List Ply) (past : List Entry) (w : WasRecovered setting.start ply earlier past)
    → ((reached setting.start (moves_of earlier) ≡ w.r.before) × (ply.mv ≡ w.r.pair.first)) ⊎ ((reached setting.start (moves_of earlier) ≡ w.r.middle) × (ply.mv ≡ w.r.pair.second))
begins_there setting ply earlier past w =
    let confirms : Confirms setting.start (moves_of w.score.plies) w.waiting w.entry.picture w.r = w.tells.1 in
    elim w.one [
      | inl first ↦ inl (ap (reached setting.start) first.1 ∙ sym confirms.before_is, first.0)
      | inr second ↦ inr (ap (reached setting.start) second.1 ∙ sym confirms.middle_is, second.0)
    ]

told : RecoversOnce → (setting : Setting) (events : List Timed) (puts : List Put) (text : List ℕ) (ply : Ply) (earlier : List Ply) → Valid setting.start → PutsAll setting events puts → TellsPuts puts text
    → WasRecovered setting.start ply earlier (deduplicated (entries_in setting (events_of events))) → HasPairLine setting ply earlier text
told once setting events puts text ply earlier valid all tells w =
    let e = event_of setting events w.later w.before w.entry w.among in
    let past = events_of e.earlier in
    let here = entry_at setting.first setting.rotated (e.x.event ∷ past) in
    let F : List Entry → Type 0 = λ es. FoldsRecovering setting.start es w.score w.waiting in
    let T : Entry → Type 0 = λ n. TellsAs setting.start (moves_of w.score.plies) w.waiting n.picture (Recovered w.r) in
    let A : List Timed → Type 0 = λ es. PutsAll setting es puts in
    let l = line_in setting e.later e.x e.earlier puts text w.r (subst A e.is all) tells
    (λ found at. found_is once setting past e.x.event w.score w.waiting w.r found valid e.gives e.new (subst F e.before_is w.folds) (subst T e.entry_is w.tells) at) in
    record {
      front = l.front;
      line = l.line;
      back = l.back;
      among = l.among;
      offset = l.offset;
      r = w.r;
      tells = l.tells;
      one = begins_there setting ply earlier (deduplicated (entries_in setting (events_of events))) w;
      clock_is = w.clock_is;
    }

each : RecoversOnce → (setting : Setting) (events : List Timed) (puts : List Put) (text : List ℕ) (plies : List Ply) → Valid setting.start → PutsAll setting events puts → TellsPuts puts text
    → AllComeFrom setting.start plies (deduplicated (entries_in setting (events_of events))) → AreShownOrTold setting plies (events_of events) text
each once setting events puts text [] valid all tells h = tt
each once setting events puts text (ply ∷ earlier) valid all tells (inl w, h) =
    (inl (shown setting events ply earlier w), each once setting events puts text earlier valid all tells h)
each once setting events puts text (ply ∷ earlier) valid all tells (inr w, h) =
    (inr (told once setting events puts text ply earlier valid all tells w), each once setting events puts text earlier valid all tells h)

pub plies_are_shown_or_told : RecoversOnce → PliesAreShownOrRecovered → PliesAreShownOrTold
plies_are_shown_or_told once invented setting bytes woven text valid r =
    let past_is : past_of r.events ≡ events_of (reverse r.events) = sym (map-reverse (λ (t : Timed). t.event) r.events) in
    let F : List Event → Type 0 = λ es. FoldsRecovering setting.start (deduplicated (entries_in setting es)) r.score r.waiting in
    let all = invented setting.start (deduplicated (entries_in setting (events_of (reverse r.events)))) r.score r.waiting (subst F past_is r.recovers) in
    subst (λ (es : List Event). AreShownOrTold setting r.score.plies es text) (sym past_is) (each once setting (reverse r.events) r.puts text r.score.plies valid r.puts_are r.told all)
