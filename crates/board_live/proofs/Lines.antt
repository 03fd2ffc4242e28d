-- All that requests and handling depend on, as one value: what both histories have alike stays alike.
use Rattle.std.proofs.Common.{◌≡◌, ◌+◌, ◌&&◌, ◌||◌, ℕ, nat_lt, Bool, true, false, List, [], ◌∷◌, ◌++◌, take, Option, Some, None, sym, ap, ◌∙◌}
use Rattle.std.specs.Prelude.{if◌then◌else◌}
use Rattle.std.proofs.lemmas.List.{append_cancel_left}
use Rattle.dgt_frame.specs.Streams.{Timed}
use Rattle.dgt_frame.proofs.OnceLemmas.{shows_once}
use Rattle.board_cable.specs.declared.line.Event.{Event}
use Rattle.board_cable.specs.declared.line.Happening.{Happening}
use Rattle.board_cable.specs.declared.line.Happening.TheVariants.{Asks, Begins, Comes}
use Rattle.board_cable.specs.declared.line.Request.{Request}
use Rattle.board_cable.specs.declared.line.Request.TheVariants.{Dump, Numbered, Start}
use Rattle.board_cable.specs.Asking.{request_at, with_request}
use Rattle.board_cable.specs.Lasting.{has_lasted, is_past}
use Rattle.board_cable.specs.Line.{asked_at, asked_by, dumped_at, dumped_by, is_open, is_unanswered, is_wanted, open_by, unanswered_by, unfinished_at, unfinished_by, updated_at, updated_by, wanted_by}
use Rattle.board_cable.specs.Pace.{asks}
use Rattle.board_cable.specs.Silence.{heard_at, heard_by, is_silent, lost, lost_by, silent_by}
use Rattle.board_cable.specs.Starting.{has_updated, is_start, last_dump, last_dump_by, start_by, updates_by}
use Rattle.board_cable.specs.Whose.{awaited_at, awaited_by, dumps_by, dumps_since, handling_at, handling_by, is_awaited, is_own, known_by, left, left_by, own_by, own_number, sends_own, shown_by, shown_number, was_known}
use Rattle.board_cable.specs.Frames.{TellsRead, told_of, with_happening, with_shown}
use Rattle.board_cable.specs.Moments.{Moment, is_heard}
use Rattle.board_cable.specs.Turns.{Tells, TellsAs, told_by}

pub record Line : Type 0 where
  pub opened : Bool
  pub wanted : Bool
  pub unanswered : Bool
  pub asked : Option ℕ
  pub unfinished : Option ℕ
  pub updated : Option ℕ
  pub dumped : Option ℕ
  pub dump : Option (List ℕ)
  pub updates : Bool
  pub starts : Bool
  pub lacking : ℕ
  pub heard : Option ℕ
  pub silent : Bool
  pub own : Option (List ℕ)
  pub shown : Option (List ℕ)
  pub known : Bool
  pub awaited : Option ℕ
  pub dumps : ℕ
  pub remaining : ℕ

abbrev pub line_of : List Event → Line
line_of past = record {
  opened = is_open past;
  wanted = is_wanted past;
  unanswered = is_unanswered past;
  asked = asked_at past;
  unfinished = unfinished_at past;
  updated = updated_at past;
  dumped = dumped_at past;
  dump = last_dump past;
  updates = has_updated past;
  starts = is_start past;
  lacking = lost past;
  heard = heard_at past;
  silent = is_silent past;
  own = own_number past;
  shown = shown_number past;
  known = was_known past;
  awaited = awaited_at past;
  dumps = dumps_since past;
  remaining = left past;
}

abbrev next : Event → Line → Line
next e l = record {
  opened = open_by e.what l.opened;
  wanted = wanted_by e.what l.wanted;
  unanswered = unanswered_by e.what l.unanswered;
  asked = asked_by e.what e.at l.asked;
  unfinished = unfinished_by e.what e.at l.unfinished;
  updated = updated_by e.what e.at l.updated;
  dumped = dumped_by e.what e.at l.unanswered l.asked l.dumped;
  dump = last_dump_by e.what l.dump;
  updates = updates_by e.what l.updates;
  starts = start_by e.what l.dump l.updates l.starts;
  lacking = lost_by e.what l.lacking;
  heard = heard_by e.what e.at l.heard;
  silent = silent_by e.what e.at l.lacking l.heard l.silent;
  own = own_by e.what l.own;
  shown = shown_by e.what l.shown;
  known = known_by e.what l.own l.known;
  awaited = awaited_by e.what e.at l.awaited;
  dumps = dumps_by e.what l.awaited l.dumps;
  remaining = left_by e.what l.own l.remaining;
}

pub same_more : (e : Event) (a b : List Event) → line_of a ≡ line_of b → line_of (e ∷ a) ≡ line_of (e ∷ b)
same_more e a b h = ap (λ l. next e l) h

abbrev pub asks_on : ℕ → Line → Bool
asks_on at l =
    l.opened && (is_past (if l.unanswered then 1000 else 200) at l.asked && (l.wanted || (has_lasted 200 at l.unfinished
    || ((has_lasted 1000 at l.dumped && is_past 500 at l.updated) || has_lasted 4000 at l.dumped))))

abbrev pub request_on : ℕ → Line → Option Request
request_on at l = if asks_on at l then Some (if l.unanswered || l.starts then Start else (if nat_lt 0 l.remaining then Numbered else Dump)) else None

pub same_asks : (at : ℕ) (a b : List Event) → line_of a ≡ line_of b → asks at a ≡ asks at b
same_asks at a b h = ap (λ l. asks_on at l) h

pub same_requests : (at : ℕ) (a b : List Event) → line_of a ≡ line_of b → request_at at a ≡ request_at at b
same_requests at a b h = ap (λ l. request_on at l) h

pub same_handlings : (at : ℕ) (a b : List Event) → line_of a ≡ line_of b → handling_at at a ≡ handling_at at b
same_handlings at a b h = ap (λ (l : Line). handling_by (is_awaited at l.awaited l.dumps) l.own l.shown) h

pub same_own : (a b : List Event) → line_of a ≡ line_of b → is_own a ≡ is_own b
same_own a b h = ap (λ (l : Line). l.known && sends_own l.shown l.own) h

pub same_asked : (at : ℕ) (request : Option Request) (a b : List Event) → line_of a ≡ line_of b → line_of (with_request at request a) ≡ line_of (with_request at request b)
same_asked at None a b h = h
same_asked at (Some request) a b h = same_more (record { at = at; what = Asks request }) a b h

same_happening : (at : ℕ) (what : Option Happening) (a b : List Event) → line_of a ≡ line_of b
    → line_of (with_happening at what a) ≡ line_of (with_happening at what b)
same_happening at None a b h = h
same_happening at (Some what) a b h = same_more (record { at = at; what = what }) a b h

same_shown : (at : ℕ) (bytes : List ℕ) (shown : List Timed) (a b : List Event) → line_of a ≡ line_of b
    → line_of (with_shown at bytes shown a) ≡ line_of (with_shown at bytes shown b)
same_shown at bytes [] a b h = h
same_shown at bytes (one ∷ shown) a b h =
    let what = told_of one.event (take (one.offset + 1) bytes) in
    same_shown at bytes shown (with_happening at what a) (with_happening at what b) (same_happening at what a b h)

abbrev comes : ℕ → ℕ → Event
comes at last = record { at = at; what = Comes (nat_lt 0 last) }

same_read : (at : ℕ) (stream bytes : List ℕ) (before other a b : List Event) → line_of before ≡ line_of other → TellsRead at stream bytes before a
    → TellsRead at stream bytes other b → line_of a ≡ line_of b
same_read at stream bytes before other a b same g h =
    let old = shows_once 0 stream g.0 h.0 g.2 h.2 g.4 h.4 in
    let all = shows_once 0 (stream ++ bytes) (g.0 ++ g.1) (h.0 ++ h.1) g.3 h.3 g.5 h.5 in
    let new : g.1 ≡ h.1 = append_cancel_left g.0 g.1 h.1 (all.0 ∙ ap (λ x. x ++ h.1) (sym old.0)) in
    let read : a ≡ comes at h.3 ∷ with_shown at (stream ++ bytes) h.1 before =
    g.6 ∙ ap (λ n. comes at n ∷ with_shown at (stream ++ bytes) g.1 before) all.1
    ∙ ap (λ shown. comes at h.3 ∷ with_shown at (stream ++ bytes) shown before) new in
    ap line_of read ∙ same_more (comes at h.3) (with_shown at (stream ++ bytes) h.1 before) (with_shown at (stream ++ bytes) h.1 other) (same_shown at (stream ++ bytes) h.1 before other same) ∙ sym (ap line_of h.6)

same_tells_as : (heard : Bool) (m : Moment) (stream : List ℕ) (before other a b : List Event) → line_of before ≡ line_of other
    → TellsAs heard m stream before a → TellsAs heard m stream other b → line_of a ≡ line_of b
same_tells_as true m stream before other a b same g h = same_read m.at stream m.bytes before other a b same g h
same_tells_as false m stream before other a b same g h =
    ap line_of g
    ∙ ap (λ (l : Line). line_of (with_happening m.at (told_by m.what l.shown) before)) same
    ∙ same_happening m.at (told_by m.what (shown_number other)) before other same
    ∙ sym (ap line_of h)

-- The same happens after lines that are alike, and they are alike.
pub same_tells : (m : Moment) (stream : List ℕ) (before other a b : List Event) → line_of before ≡ line_of other → Tells m stream before a
    → Tells m stream other b → line_of a ≡ line_of b
same_tells m stream before other a b same g h = same_tells_as (is_heard m.what) m stream before other a b same g h

-- A call that begins leaves of what happened before it the number of the game's board.
pub same_begun : (at : ℕ) (a b : List Event) → own_number a ≡ own_number b
    → line_of (record { at = at; what = Begins } ∷ a) ≡ line_of (record { at = at; what = Begins } ∷ b)
same_begun at a b h = ap (λ (own : Option (List ℕ)). next (record { at = at; what = Begins }) (record (line_of []) { own = own })) h
