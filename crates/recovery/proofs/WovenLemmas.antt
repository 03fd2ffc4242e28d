-- What the woven bytes show, by what was put in where.
use Rattle.std.proofs.Common.{◌≡◌, ◌<◌, ◌≤◌, ◌+◌, ℕ, inl, List, [], ◌∷◌, ◌++◌, length, drop, map, reverse, Option, Some, None, refl, sym, ap, subst, arith, ◌∙◌, append_assoc, append-nil, length-append}
use Rattle.std.proofs.lemmas.List.{length-drop, nil_from_length, reverse-append, reverse-reverse}
use Rattle.chess_rules.specs.Valid.{Valid}
use Rattle.settle_core.proofs.Lines.{map-reverse}
use Rattle.dgt_frame.specs.declared.events.Event.{Event}
use Rattle.dgt_frame.specs.declared.events.Event.TheVariants.{Message as MessageEvent, Fault}
use Rattle.dgt_frame.specs.declared.events.FaultKind.TheVariants.{Cut, Stray, Size, Data}
use Rattle.dgt_frame.specs.Restarts.{moved_on}
use Rattle.dgt_frame.specs.Streams.{Opens, Shows, ShowsFrom, Timed}
use Rattle.unseen_pairs.specs.declared.pair.Recovery.{Recovery}
use Rattle.unseen_pairs.specs.Laws.{RecoversOnce}
use Rattle.board_events.specs.Commands.{past_of}
use Rattle.board_events.specs.Entries.{entry_at}
use Rattle.board_events.specs.Settings.{Setting}
use Rattle.board_events.proofs.CommandLemmas.{past_both, past_moved}
use Rattle.pair_frames.specs.Laws.{EndsWhole, FramesArePutIn}
use Rattle.pair_frames.specs.PutIn.{put_in}
use Rattle.recovery.specs.Inside.Passing.{Follows, IsMessage}
use Rattle.recovery.specs.Keeping.{RecoversAt}
use Rattle.recovery.specs.Weaving.{Put, Puts, PutsAll, Weaves}
use Rattle.recovery.specs.Woven.{HavePutIn, ShowsPutIn, put_behind}
use Rattle.recovery.proofs.EventLemmas.{ends_whole}
use Rattle.recovery.proofs.InventedLemmas.{found_is}
use Rattle.recovery.proofs.FollowLemmas.{ends_at, follows_event, follows_none, follows_put, follows_start, fronts_are, opened}
use Rattle.recovery.proofs.PassLemmas.{ends_message, is_message}

abbrev pub ShowsOnce : Type 0
ShowsOnce = (bytes : List ℕ) (events others : List Timed) (rest other : ℕ) → Shows bytes events rest → Shows bytes others other → (events ≡ others) × (rest ≡ other)

-- ---- the first bytes, up to a message

-- No event comes before its bytes.
not_before : (start : ℕ) (bytes : List ℕ) (events : List Timed) (x : Timed) (later : List Timed) (rest : ℕ) → ShowsFrom start bytes (events ++ x ∷ later) rest
    → start ≤ x.offset
not_before start bytes [] x later rest h = omega (arith, h.5)
not_before start bytes (e ∷ events) x later rest h =
    let behind : start + length h.0 ≤ x.offset = not_before (start + length h.0) h.1 events x later rest h.6 in omega (arith, behind)

-- A message needs nothing behind it; a fault needs the next byte.
alone_opens : (event : Event) (front more other : List ℕ) (index : ℕ) → IsMessage event → Opens event front more index → Opens event front other index
alone_opens (MessageEvent message) front more other index m opens = opens
alone_opens (Fault kind) front more other index m opens = absurd m

heads : (b c : ℕ) (xs ys : List ℕ) → b ∷ xs ≡ c ∷ ys → b ≡ c
heads b c xs ys e = cc

front_opens : (event : Event) (front : List ℕ) (b : ℕ) (more back : List ℕ) (index : ℕ) → Opens event front (b ∷ more ++ back) index → Opens event front (b ∷ more) index
front_opens (MessageEvent message) front b more back index opens = opens
front_opens (Fault Stray) front b more back index opens = opens
front_opens (Fault Cut) front b more back index opens =
    let same : b ≡ opens.0 = heads b opens.0 (more ++ back) opens.1 opens.2 in
    (opens.0, more, ap (λ c. c ∷ more) same, opens.3, opens.4, opens.5, opens.6)
front_opens (Fault Size) front b more back index opens = opens
front_opens (Fault Data) front b more back index opens = opens

some_left : (n : ℕ) (xs : List ℕ) → 0 < length xs → (b : ℕ) × (more : List ℕ) × (xs ≡ b ∷ more)
some_left n [] some = absurd (let no : ⊥ = omega (arith, some) in no)
some_left n (b ∷ more) some = (b, more, refl)

shows_nothing : (start : ℕ) (bytes : List ℕ) → length bytes ≡ 0 → ShowsFrom start bytes [] 0
shows_nothing start bytes none = (inl (nil_from_length bytes none), sym none)

-- The bytes up to the end of a message show the events up to it, and leave nothing.
up_to : (start : ℕ) (bytes front back : List ℕ) (events : List Timed) (x : Timed) (later : List Timed) (rest : ℕ) → ShowsFrom start bytes (events ++ x ∷ later) rest
    → bytes ≡ front ++ back → IsMessage x.event → x.offset + 1 ≡ start + length front → ShowsFrom start front (events ++ x ∷ []) 0
up_to start bytes front back [] x later rest h parts m ends =
    let whole : h.2 + 1 ≡ length h.0 = opened x.event h.0 h.1 h.2 m h.4 in
    let same : length h.0 ≡ length front = omega (arith, whole, h.5, ends) in
    let low : length h.0 ≤ length front = omega (arith, same) in
    let split = fronts_are front back h.0 h.1 (sym parts ∙ h.3) low in
    let d = drop (length h.0) front in
    let none : length d ≡ 0 = omega (arith, length-drop (length h.0) front, same) in
    (h.0, d, h.2, split.0, alone_opens x.event h.0 h.1 d h.2 m h.4, h.5, shows_nothing (start + length h.0) d none)
up_to start bytes front back (e ∷ events) x later rest h parts m ends =
    let behind : start + length h.0 ≤ x.offset = not_before (start + length h.0) h.1 events x later rest h.6 in
    let low : length h.0 ≤ length front = omega (arith, behind, ends) in
    let split = fronts_are front back h.0 h.1 (sym parts ∙ h.3) low in
    let d = drop (length h.0) front in
    let size : length front ≡ length h.0 + length d = ap length split.0 ∙ length-append h.0 d in
    let left = some_left 0 d (omega (arith, size, behind, ends)) in
    let P : List ℕ → Type 0 = λ xs. Opens e.event h.0 xs h.2 in
    let same : h.1 ≡ left.0 ∷ left.1 ++ back = split.1 ∙ ap (λ xs. xs ++ back) left.2 in
    let opens : P (left.0 ∷ left.1) = front_opens e.event h.0 left.0 left.1 back h.2 (subst P same h.4) in
    let end : x.offset + 1 ≡ (start + length h.0) + length d = omega (arith, size, ends) in
    (h.0, d, h.2, split.0, subst P (sym left.2) opens, h.5, up_to (start + length h.0) h.1 d back events x later rest h.6 split.1 m end)

-- ---- what was put in, event by event

-- The woven bytes follow the bytes up to these events, and show them with those that are put in.
record FollowsPutIn (setting : Setting) (past : List Timed) (bytes woven : List ℕ) : Type 0 where
  written : List Timed
  follows : Follows bytes (reverse past) woven written
  have : HavePutIn setting (map (λ (t : Timed). t.event) past) (past_of written)

turned : (x : Timed) (past : List Timed) → reverse (x ∷ past) ≡ reverse past ++ x ∷ []
turned x past = reverse-append (x ∷ []) past

follows_same : (bytes : List ℕ) (events others : List Timed) (woven : List ℕ) (written : List Timed) → events ≡ others → Follows bytes events woven written
    → Follows bytes others woven written
follows_same bytes events others woven written e f = subst (λ es. Follows bytes es woven written) e f

nothing_put : (setting : Setting) (bytes : List ℕ) → FollowsPutIn setting [] bytes bytes
nothing_put setting bytes = record {
  written = [];
  follows = follows_none [] bytes [] [] [] follows_start;
  have = refl;
}

-- Nothing is put in behind an event.
none_put : (setting : Setting) (x : Timed) (past : List Timed) (bytes woven : List ℕ) → RecoversAt setting (map (λ (t : Timed). t.event) past) x.event None
    → FollowsPutIn setting past bytes woven → FollowsPutIn setting (x ∷ past) bytes woven
none_put setting x past bytes woven at f =
    let one : List Timed = moved_on f.follows.ahead (x ∷ []) in
    record {
      written = f.written ++ one;
      follows = follows_same bytes (reverse past ++ x ∷ []) (reverse (x ∷ past)) woven (f.written ++ one) (sym (turned x past))
          (follows_event bytes (reverse past) x woven f.written f.follows);
      have = (past_of f.written, None, f.have, at, past_both f.written one);
    }

-- A pair is put in behind an event.
pair_put : FramesArePutIn → (setting : Setting) (x : Timed) (past : List Timed) (front back before frames : List ℕ) (middle : List Timed) (r : Recovery)
    → RecoversAt setting (map (λ (t : Timed). t.event) past) x.event (Some r) → length front ≡ x.offset + 1 → Shows front (reverse past ++ x ∷ []) 0
    → Shows frames middle 0
    → map (λ (t : Timed). t.event) middle ≡ put_in setting.first setting.rotated (entry_at setting.first setting.rotated (x.event ∷ map (λ (t : Timed). t.event) past)) r
    → FollowsPutIn setting past front before → FollowsPutIn setting (x ∷ past) (front ++ back) ((before ++ frames) ++ back)
pair_put between setting x past front back before frames middle r at end shown frames_show middle_is f =
    let es : List Event = map (λ (t : Timed). t.event) past in
    let entry = entry_at setting.first setting.rotated (x.event ∷ es) in
    let one : List Timed = moved_on f.follows.ahead (x ∷ []) in
    let written = f.written ++ one in
    let m : IsMessage x.event = is_message x.event es at.0 in
    let past_is : past_of written ≡ x.event ∷ past_of f.written = past_both f.written one in
    let put_is : past_of middle ≡ reverse (put_in setting.first setting.rotated entry r) = ap reverse middle_is in
    let all_is : past_of (written ++ moved_on (length before) middle) ≡ reverse (put_behind setting (x.event ∷ es) (Some r)) ++ x.event ∷ past_of f.written =
    past_both written (moved_on (length before) middle) ∙ ap (λ a. a ++ past_of written) (past_moved (length before) middle ∙ put_is)
    ∙ ap (λ a. reverse (put_in setting.first setting.rotated entry r) ++ a) past_is in
    let put = follows_put between front (reverse past ++ x ∷ []) before written frames middle (follows_event front (reverse past) x before f.written f.follows) shown
    (ends_at (reverse past) x (length front) m (sym end)) (subst EndsWhole (sym past_is) (ends_message x.event (past_of f.written) m))
    (subst EndsWhole (sym put_is) (ends_whole setting.first setting.rotated entry r)) frames_show in
    record {
      written = written ++ moved_on (length before) middle;
      follows = follows_same (front ++ back) (reverse past ++ x ∷ []) (reverse (x ∷ past)) ((before ++ frames) ++ back) (written ++ moved_on (length before) middle) (sym (turned x past))
          (follows_none front back (reverse past ++ x ∷ []) (before ++ frames) (written ++ moved_on (length before) middle) put);
      have = (past_of f.written, Some r, f.have, at, all_is);
    }

abbrev Follow : Setting → List Timed → Type 0
Follow setting past = (later : List Timed) (bytes woven : List ℕ) (puts : List Put) (rest : ℕ) → Shows bytes (reverse past ++ later) rest
    → PutsAll setting past puts → Weaves bytes puts woven → FollowsPutIn setting past bytes woven

found_put : FramesArePutIn → (setting : Setting) (x : Timed) (past : List Timed) → Follow setting past
    → (later : List Timed) (bytes woven : List ℕ) (before puts : List Put) (rest : ℕ) (found : Option Recovery)
    → Shows bytes (reverse past ++ x ∷ later) rest → PutsAll setting past before → RecoversAt setting (map (λ (t : Timed). t.event) past) x.event found
    → Puts setting (map (λ (t : Timed). t.event) (x ∷ past)) x.offset found before puts → Weaves bytes puts woven → FollowsPutIn setting (x ∷ past) bytes woven
found_put between setting x past follow later bytes woven before puts rest None shown all at is weaves =
    none_put setting x past bytes woven at (follow (x ∷ later) bytes woven before rest shown all (subst (λ ps. Weaves bytes ps woven) is weaves))
found_put between setting x past follow later bytes woven before puts rest (Some r) shown all at is weaves =
    let put : Put = is.0 in
    let w : Weaves bytes (put ∷ before) woven = subst (λ ps. Weaves bytes ps woven) is.2 weaves in
    let end : length w.0 ≡ x.offset + 1 = w.4 ∙ ap (λ n. n + 1) is.1.offset_is in
    let m : IsMessage x.event = is_message x.event (map (λ (t : Timed). t.event) past) at.0 in
    let front : Shows w.0 (reverse past ++ x ∷ []) 0 = up_to 0 bytes w.0 w.1 (reverse past) x later rest shown w.3 m (omega (arith, end)) in
    let frames = is.1.frames_are in
    let P : List ℕ → List ℕ → Type 0 = λ bs ws. FollowsPutIn setting (x ∷ past) bs ws in
    let here : P (w.0 ++ w.1) ((w.2 ++ put.frames) ++ w.1) = pair_put between setting x past w.0 w.1 w.2 put.frames frames.0 r at end front frames.1 frames.2
    (follow (x ∷ []) w.0 w.2 before 0 front all w.5) in
    subst (λ bs. P bs woven) (sym w.3) (subst (P (w.0 ++ w.1)) (sym w.6) here)

follow : FramesArePutIn → (setting : Setting) (past : List Timed) → Follow setting past
follow between setting [] later bytes woven puts rest shown all weaves =
    let W : List Put → Type 0 = λ ps. Weaves bytes ps woven in
    let is : woven ≡ bytes = subst W all weaves in
    subst (λ ws. FollowsPutIn setting [] bytes ws) (sym is) (nothing_put setting bytes)
follow between setting (x ∷ past) later bytes woven puts rest shown all weaves =
    let parts : reverse (x ∷ past) ++ later ≡ reverse past ++ x ∷ later =
    ap (λ es. es ++ later) (turned x past) ∙ append_assoc (reverse past) (x ∷ []) later in
    found_put between setting x past (follow between setting past) later bytes woven all.0 puts rest all.1 (subst (λ es. Shows bytes es rest) parts shown)
    all.2 all.3 all.4 weaves

pub shows_put_in : ShowsOnce → FramesArePutIn → ShowsPutIn
shows_put_in once between setting bytes woven text events written rest last r shows shown =
    let past = reverse r.events in
    let all : Shows bytes (reverse past ++ []) r.rest = rw (append-nil (reverse past), reverse-reverse r.events) r.shows in
    let f = follow between setting past [] bytes woven r.puts r.rest all r.puts_are r.weaves in
    let woven_shows : Shows woven f.written r.rest = rw (append-nil woven, append-nil f.written) at
    (f.follows.shows [] [] r.rest (rw (append-nil bytes) all)) in
    let events_are : map (λ (t : Timed). t.event) past ≡ past_of events =
    map-reverse (λ (t : Timed). t.event) r.events ∙ ap past_of (once bytes r.events events r.rest rest r.shows shows).0 in
    let written_is : f.written ≡ written = (once woven f.written written r.rest last woven_shows shown).0 in
    subst (λ es. HavePutIn setting es (past_of written)) events_are
    (subst (λ ws. HavePutIn setting (map (λ (t : Timed). t.event) past) (past_of ws)) written_is f.have)

-- ---- in one way

pub recovers_same : RecoversOnce → (setting : Setting) (past : List Event) (event : Event) (f g : Option Recovery) → Valid setting.start → RecoversAt setting past event f
    → RecoversAt setting past event g → f ≡ g
recovers_same once setting past event None None valid h k = refl
recovers_same once setting past event f (Some r) valid h k =
    let new = k.1 in found_is once setting past event new.1.0 new.1.1 r f valid k.0 new.0 new.1.2 new.1.3 h
recovers_same once setting past event (Some r) None valid h k =
    let new = h.1 in sym (found_is once setting past event new.1.0 new.1.1 r None valid h.0 new.0 new.1.2 new.1.3 k)

pub put_in_once : RecoversOnce → (setting : Setting) (past a b : List Event) → Valid setting.start → HavePutIn setting past a → HavePutIn setting past b → a ≡ b
put_in_once once setting [] a b valid g h = g ∙ sym h
put_in_once once setting (event ∷ past) a b valid g h =
    let before = put_in_once once setting past g.0 h.0 valid g.2 h.2 in
    let found = recovers_same once setting past event g.1 h.1 valid g.3 h.3 in
    g.4 ∙ ap (λ (f : Option Recovery). reverse (put_behind setting (event ∷ past) f) ++ event ∷ g.0) found
    ∙ ap (λ es. reverse (put_behind setting (event ∷ past) h.1) ++ event ∷ es) before ∙ sym h.4
