-- What a host keeps of a call is its history.
use Rattle.std.proofs.Common.{◌≡◌, inl, inr, ◌≤◌, ◌+◌, ◌-◌, ◌^◌, max, min, ℕ, Bool, true, false, List, [], ◌∷◌, ◌++◌, length, drop, take, None, refl, sym, ap, subst, arith, ◌∙◌, append-nil}
use Rattle.std.specs.Prelude.{◌⊎◌, if◌then◌else◌}
use Rattle.std.proofs.lemmas.List.{drop-append-le, length-drop, nil_from_length, take-append-le}
use Rattle.std.proofs.Math.Seq.{take-append_seam, drop-append_seam}
use Rattle.board_cable.specs.Keeping.{kept}
use Rattle.board_cable.specs.Turns.{Told, Turn, told}
use Rattle.board_cable.specs.Serial.{is_serial}
use Rattle.board_cable.specs.declared.happened.What.TheVariants.{Owns as HasNumber, Wakes as TimeCame}
use Rattle.board_live.specs.declared.happened.What.{What as ToBoard}
use Rattle.board_live.specs.declared.happened.What.TheVariants.{Cable}
use Rattle.board_live.specs.Laws.{with_kept, with_told}
use Rattle.board_live.specs.Moments.{Moment, already, cabled, is_added, news_of as news_at}
use Rattle.board_live.specs.Restarts.{as_filed}
use Rattle.board_live.proofs.History.{Files, files_kept, files_more, files_none, files_told}
use Rattle.board_times.specs.declared.events.Event.{Event}
use Rattle.board_times.specs.declared.events.What.{What as Happening}
use Rattle.board_times.specs.declared.events.What.TheVariants.{Begins, IsAway, Opens, Answers, Goes as LineGoes, Calls, Hears, Adds, Brings, Stops, Asks, Takes, Ends, Looks as LooksAt, PutsBack as Back, Reopens as Reopened, Suspects as Suspected}
use Rattle.board_times.specs.Fitting.{covered, covered_after}
use Rattle.live_lines.specs.declared.clock.Clock.{Clock}
use Rattle.live_lines.specs.declared.entries.Entry.{Entry}
use Rattle.live_lines.specs.declared.entries.What.{What}
use Rattle.live_lines.specs.declared.entries.What.TheVariants.{Happens, Wakes, Lends, WantsText, Owns, KeepsTimes, KeepsBytes}
use Rattle.live_lines.specs.Clock.{began_by, capped, clock_after, clock_at, clock_by, clock_of, clock_over, first_clock, next_clock}
use Rattle.live_lines.specs.Entries.{IsWhole, brings_capture, brings_times}
use Rattle.live_lines.specs.Heard.{Heard}
use Rattle.live_lines.specs.History.{coming, history_of, is_added as adds, merged, news_of}
use Rattle.live_lines.specs.Kept.{FilesAreAsFiled, IsBeginning, IsCall, IsTimed, TellsFiles, bytes_after, coming_in, events_after, heard_line, line_by, line_of}
use Rattle.live_lines.specs.Meaning.{happening_of, meaning_of, moments, moments_by, time_of}
use Rattle.live_lines.proofs.HistoryLemmas.{three}

-- ---- events in two parts

-- the history of events, but for the bytes behind the last of them; and these
abbrev walk : Clock → ℕ → List ℕ → List Event → List Moment → List Moment
walk clock size rest [] past = past
walk clock size rest (event ∷ events) past = walk (clock_at event clock) (covered_after event.what size) (drop (coming event.what size) rest) events
    (with_told (clock_at event clock).last (news_of event.what) (with_kept (clock_at event clock).last (adds event.what) (take (coming event.what size) rest) past))

abbrev left : ℕ → List ℕ → List Event → List ℕ
left size rest [] = rest
left size rest (event ∷ events) = left (covered_after event.what size) (drop (coming event.what size) rest) events

merged_is : (clock : Clock) (size : ℕ) (rest : List ℕ) (events : List Event) (past : List Moment)
    → merged clock size rest events past ≡ with_kept (clock_over clock events).last false (left size rest events) (walk clock size rest events past)
merged_is clock size rest [] past = refl
merged_is clock size rest (event ∷ events) past = merged_is (clock_at event clock) (covered_after event.what size) (drop (coming event.what size) rest) events
    (with_told (clock_at event clock).last (news_of event.what) (with_kept (clock_at event clock).last (adds event.what) (take (coming event.what size) rest) past))

walk_both : (clock : Clock) (size : ℕ) (rest : List ℕ) (a b : List Event) (past : List Moment)
    → walk clock size rest (a ++ b) past ≡ walk (clock_over clock a) (covered size a) (left size rest a) b (walk clock size rest a past)
walk_both clock size rest [] b past = refl
walk_both clock size rest (event ∷ a) b past = walk_both (clock_at event clock) (covered_after event.what size) (drop (coming event.what size) rest) a b
    (with_told (clock_at event clock).last (news_of event.what) (with_kept (clock_at event clock).last (adds event.what) (take (coming event.what size) rest) past))

left_both : (size : ℕ) (rest : List ℕ) (a b : List Event) → left size rest (a ++ b) ≡ left (covered size a) (left size rest a) b
left_both size rest [] b = refl
left_both size rest (event ∷ a) b = left_both (covered_after event.what size) (drop (coming event.what size) rest) a b

clock_both : (clock : Clock) (a b : List Event) → clock_over clock (a ++ b) ≡ clock_over (clock_over clock a) b
clock_both clock [] b = refl
clock_both clock (event ∷ a) b = clock_both (clock_at event clock) a b

-- ---- events that bring the first bytes of a capture

fewer : (n m l : ℕ) → n + m ≤ l → n ≤ l
fewer n m l e = omega (arith, e)

fewer_left : (n m l d : ℕ) → n + m ≤ l → d ≡ l - n → m ≤ d
fewer_left n m l d e f = omega (arith, e, f)

none_taken : (n : ℕ) → n ≡ n - 0
none_taken n = omega arith

taken_both : (n m l d : ℕ) → d ≡ l - n → d - m ≡ l - (n + m)
taken_both n m l d f = omega (arith, f)

left_rest : (size : ℕ) (rest more : List ℕ) (events : List Event) → coming_in size events ≤ length rest → left size (rest ++ more) events ≡ left size rest events ++ more
left_rest size rest more [] low = refl
left_rest size rest more (event ∷ events) low =
    let n = coming event.what size in
    let m = coming_in (covered_after event.what size) events in
    ap (λ bs. left (covered_after event.what size) bs events) (drop-append-le n rest more (fewer n m (length rest) low))
    ∙ left_rest (covered_after event.what size) (drop n rest) more events (fewer_left n m (length rest) (length (drop n rest)) low (length-drop n rest))

left_length : (size : ℕ) (rest : List ℕ) (events : List Event) → length (left size rest events) ≡ length rest - coming_in size events
left_length size rest [] = none_taken (length rest)
left_length size rest (event ∷ events) =
    let n = coming event.what size in
    let m = coming_in (covered_after event.what size) events in
    left_length (covered_after event.what size) (drop n rest) events ∙ taken_both n m (length rest) (length (drop n rest)) (length-drop n rest)

walk_rest : (clock : Clock) (size : ℕ) (rest more : List ℕ) (events : List Event) (past : List Moment) → coming_in size events ≤ length rest
    → walk clock size (rest ++ more) events past ≡ walk clock size rest events past
walk_rest clock size rest more [] past low = refl
walk_rest clock size rest more (event ∷ events) past low =
    let n = coming event.what size in
    let m = coming_in (covered_after event.what size) events in
    let few : n ≤ length rest = fewer n m (length rest) low in
    let now = clock_at event clock in
    let then_covered = covered_after event.what size in
    let W : List ℕ → List ℕ → List Moment = λ later first. walk now then_covered later events (with_told now.last (news_of event.what) (with_kept now.last (adds event.what) first past)) in
    ap (λ later. W later (take n (rest ++ more))) (drop-append-le n rest more few) ∙ ap (λ first. W (drop n rest ++ more) first) (take-append-le n rest more few)
    ∙ walk_rest now then_covered (drop n rest) more events (with_told now.last (news_of event.what) (with_kept now.last (adds event.what) (take n rest) past))
    (fewer_left n m (length rest) (length (drop n rest)) low (length-drop n rest))

-- ---- a history is filed as it is

walk_filed : (clock : Clock) (size : ℕ) (rest : List ℕ) (events : List Event) (past filed : List Moment) → Files past filed
    → Files (walk clock size rest events past) (walk clock size rest events filed)
walk_filed clock size rest [] past filed f = f
walk_filed clock size rest (event ∷ events) past filed f =
    let now = clock_at event clock in
    let n = coming event.what size in
    let bytes = take n rest in
    walk_filed now (covered_after event.what size) (drop n rest) events
    (with_told now.last (news_of event.what) (with_kept now.last (adds event.what) bytes past)) (with_told now.last (news_of event.what) (with_kept now.last (adds event.what) bytes filed))
    (files_told now.last (news_of event.what) (with_kept now.last (adds event.what) bytes past) (with_kept now.last (adds event.what) bytes filed)
    (files_kept now.last (adds event.what) bytes past filed f))

clash : (b : Bool) → b ≡ true → b ≡ false → ⊥
clash true e f = cc
clash false e f = cc

-- ---- the lines of an entry

-- The clock of the file goes on as the recorder's, as far as this entry shows.
record Goes (entry : Entry) (file : Clock) (lived : Clock) : Type 0 where
  began : began_by entry.what file.last file.began ≡ began_by entry.what lived.last lived.began
  last : file.last ≤ lived.last
  order : lived.last ≤ capped (began_by entry.what lived.last lived.began + entry.at)

-- Its lines tell it, behind bytes before it that lack their times.
record Lines (entry : Entry) (bytes : List ℕ) (what : ToBoard) (file lived : Clock) (size : ℕ) (lacking more : List ℕ) (past : List Moment) : Type 0 where
  left_is : left size (lacking ++ (already what bytes ++ more)) (line_of entry.at entry.what) ≡ more
  walk_is : walk file size (lacking ++ (already what bytes ++ more)) (line_of entry.at entry.what) past
      ≡ with_kept (next_clock entry lived).last (is_added what) (already what bytes)
      (with_told (next_clock entry lived).last (news_at what) (with_kept file.last false lacking past))
  began_is : (clock_over file (line_of entry.at entry.what)).began ≡ (next_clock entry lived).began
  last_is : (clock_over file (line_of entry.at entry.what)).last ≤ (next_clock entry lived).last

later_of : (a b x : ℕ) → a ≤ b → b ≤ x → max a x ≡ max b x
later_of a b x g h = omega (arith, g, h)

not_later : (a b x : ℕ) → a ≤ b → a ≤ max b x
not_later a b x g = omega (arith, g)

same_le : (a b : ℕ) → a ≡ b → a ≤ b
same_le a b e = omega (arith, e)

same_time : (entry : Entry) (file lived : Clock) → Goes entry file lived → (next_clock entry file).last ≡ (next_clock entry lived).last
same_time entry file lived g =
    ap (λ b. max file.last (capped (b + entry.at))) g.began
    ∙ later_of file.last lived.last (capped (began_by entry.what lived.last lived.began + entry.at)) g.last g.order

-- An event that brings no bytes.
one_line : (at : ℕ) (event : Happening) (bytes : List ℕ) (file lived : Clock) (size : ℕ) (more : List ℕ) (past : List Moment)
    → Goes (record { at = at; what = Happens event }) file lived → line_by at event ≡ record { at = at; what = event } ∷ [] → coming event size ≡ 0
    → already (happening_of event) bytes ≡ [] → news_of event ≡ news_at (happening_of event)
    → Lines (record { at = at; what = Happens event }) bytes (happening_of event) file lived size [] more past
one_line at event bytes file lived size more past g is none empty news =
    let entry : Entry = record { at = at; what = Happens event } in
    let e : Event = record { at = at; what = event } in
    let time = same_time entry file lived g in
    let L : List Event → List ℕ → Type 0 = λ line has. left size (has ++ more) line ≡ more in
    let now : ℕ = (next_clock entry file).last in
    let until : ℕ = (next_clock entry lived).last in
    record {
      left_is = ap (λ line. left size (already (happening_of event) bytes ++ more) line) is ∙ ap (λ has. drop (coming event size) (has ++ more)) empty
          ∙ ap (λ n. drop n more) none;
      walk_is = ap (λ line. walk file size (already (happening_of event) bytes ++ more) line past) is
          ∙ ap (λ n. with_told now (news_of event) (with_kept now (adds event) (take n (already (happening_of event) bytes ++ more)) past)) none
          ∙ ap (λ t. with_told t (news_of event) past) time ∙ ap (λ it. with_told until it past) news
          ∙ sym (ap (λ has. with_kept until (is_added (happening_of event)) has (with_told until (news_at (happening_of event)) past)) empty);
      began_is = ap (λ line. (clock_over file line).began) is ∙ g.began;
      last_is = same_le (clock_over file (line_by at event)).last until (ap (λ line. (clock_over file line).last) is ∙ time);
    }

-- An entry without a line.
no_line : (entry : Entry) (bytes : List ℕ) (what : ToBoard) (file lived : Clock) (size : ℕ) (more : List ℕ) (past : List Moment) → Goes entry file lived
    → line_of entry.at entry.what ≡ [] → began_by entry.what file.last file.began ≡ file.began → already what bytes ≡ [] → news_at what ≡ None
    → Lines entry bytes what file lived size [] more past
no_line entry bytes what file lived size more past g is stays empty news =
    let until : ℕ = (next_clock entry lived).last in
    record {
      left_is = ap (λ line. left size (already what bytes ++ more) line) is ∙ ap (λ has. has ++ more) empty;
      walk_is = ap (λ line. walk file size (already what bytes ++ more) line past) is
          ∙ sym (ap (λ has. with_kept until (is_added what) has (with_told until (news_at what) past)) empty ∙ ap (λ it. with_told until it past) news);
      began_is = ap (λ line. (clock_over file line).began) is ∙ sym stays ∙ g.began;
      last_is = subst (λ line. (clock_over file line).last ≤ until) (sym is) (not_later file.last lived.last (capped (began_by entry.what lived.last lived.began + entry.at)) g.last);
    }

-- Bytes that were added by hand, and those that came over another cable.
added_line : (at n : ℕ) (bytes : List ℕ) (file lived : Clock) (size : ℕ) (more : List ℕ) (past : List Moment)
    → Goes (record { at = at; what = Happens (Adds n) }) file lived → length bytes ≡ n
    → Lines (record { at = at; what = Happens (Adds n) }) bytes (happening_of (Adds n)) file lived size [] more past
added_line at n bytes file lived size more past g long =
    let entry : Entry = record { at = at; what = Happens (Adds n) } in
    let time = same_time entry file lived g in
    record {
      left_is = ap (λ k. drop k (bytes ++ more)) (sym long) ∙ drop-append_seam bytes more;
      walk_is = ap (λ k. with_kept (next_clock entry file).last true (take k (bytes ++ more)) past) (sym long)
          ∙ ap (λ bs. with_kept (next_clock entry file).last true bs past) (take-append_seam bytes more) ∙ ap (λ t. with_kept t true bytes past) time;
      began_is = g.began;
      last_is = same_le (next_clock entry file).last (next_clock entry lived).last time;
    }

brought_line : (at n : ℕ) (bytes : List ℕ) (file lived : Clock) (size : ℕ) (more : List ℕ) (past : List Moment)
    → Goes (record { at = at; what = Happens (Brings n) }) file lived → length bytes ≡ n
    → Lines (record { at = at; what = Happens (Brings n) }) bytes (happening_of (Brings n)) file lived size [] more past
brought_line at n bytes file lived size more past g long =
    let entry : Entry = record { at = at; what = Happens (Brings n) } in
    let time = same_time entry file lived g in
    record {
      left_is = ap (λ k. drop k (bytes ++ more)) (sym long) ∙ drop-append_seam bytes more;
      walk_is = ap (λ k. with_kept (next_clock entry file).last false (take k (bytes ++ more)) past) (sym long)
          ∙ ap (λ bs. with_kept (next_clock entry file).last false bs past) (take-append_seam bytes more) ∙ ap (λ t. with_kept t false bytes past) time;
      began_is = g.began;
      last_is = same_le (next_clock entry file).last (next_clock entry lived).last time;
    }

owned_none : (b : Bool) (bytes : List ℕ) → already (if b then Cable (HasNumber bytes) else Cable TimeCame) bytes ≡ []
owned_none true bytes = refl
owned_none false bytes = refl

owned_silent : (b : Bool) (bytes : List ℕ) → news_at (if b then Cable (HasNumber bytes) else Cable TimeCame) ≡ None
owned_silent true bytes = refl
owned_silent false bytes = refl

lines : (at : ℕ) (what : What) (bytes : List ℕ) (file lived : Clock) (size : ℕ) (more : List ℕ) (past : List Moment)
    → Goes (record { at = at; what = what }) file lived → IsWhole (record { at = at; what = what }) bytes → brings_capture what ≡ false
    → (IsBeginning what → ⊥) → Lines (record { at = at; what = what }) bytes (meaning_of what bytes) file lived size [] more past
lines at (Happens (Begins n)) bytes file lived size more past g whole none begins = absurd (begins (n, refl))
lines at (Happens (IsAway n)) bytes file lived size more past g whole none begins = one_line at (IsAway n) bytes file lived size more past g refl refl refl refl
lines at (Happens Opens) bytes file lived size more past g whole none begins = one_line at Opens bytes file lived size more past g refl refl refl refl
lines at (Happens Answers) bytes file lived size more past g whole none begins = one_line at Answers bytes file lived size more past g refl refl refl refl
lines at (Happens LineGoes) bytes file lived size more past g whole none begins = one_line at LineGoes bytes file lived size more past g refl refl refl refl
lines at (Happens Calls) bytes file lived size more past g whole none begins = one_line at Calls bytes file lived size more past g refl refl refl refl
lines at (Happens (Hears n)) bytes file lived size more past g whole none begins =
    no_line (record { at = at; what = Happens (Hears n) }) bytes (happening_of (Hears n)) file lived size more past g refl refl refl refl
lines at (Happens (Adds n)) bytes file lived size more past g whole none begins = added_line at n bytes file lived size more past g whole.1
lines at (Happens (Brings n)) bytes file lived size more past g whole none begins = brought_line at n bytes file lived size more past g whole.1
lines at (Happens (Stops n)) bytes file lived size more past g whole none begins = one_line at (Stops n) bytes file lived size more past g refl refl refl refl
lines at (Happens (Asks n)) bytes file lived size more past g whole none begins = one_line at (Asks n) bytes file lived size more past g refl refl refl refl
lines at (Happens Takes) bytes file lived size more past g whole none begins = one_line at Takes bytes file lived size more past g refl refl refl refl
lines at (Happens (Ends n)) bytes file lived size more past g whole none begins = one_line at (Ends n) bytes file lived size more past g refl refl refl refl
lines at (Happens LooksAt) bytes file lived size more past g whole none begins = one_line at LooksAt bytes file lived size more past g refl refl refl refl
lines at (Happens Back) bytes file lived size more past g whole none begins = one_line at Back bytes file lived size more past g refl refl refl refl
lines at (Happens Reopened) bytes file lived size more past g whole none begins = one_line at Reopened bytes file lived size more past g refl refl refl refl
lines at (Happens (Suspected n)) bytes file lived size more past g whole none begins = one_line at (Suspected n) bytes file lived size more past g refl refl refl refl
lines at Wakes bytes file lived size more past g whole none begins = no_line (record { at = at; what = Wakes }) bytes (meaning_of Wakes bytes) file lived size more past g refl refl refl refl
lines at Lends bytes file lived size more past g whole none begins = no_line (record { at = at; what = Lends }) bytes (meaning_of Lends bytes) file lived size more past g refl refl refl refl
lines at WantsText bytes file lived size more past g whole none begins =
    no_line (record { at = at; what = WantsText }) bytes (meaning_of WantsText bytes) file lived size more past g refl refl refl refl
lines at (Owns n) bytes file lived size more past g whole none begins =
    no_line (record { at = at; what = Owns n }) bytes (meaning_of (Owns n) bytes) file lived size more past g refl refl (owned_none (is_serial 145 bytes) bytes) (owned_silent (is_serial 145 bytes) bytes)
lines at (KeepsTimes n) bytes file lived size more past g whole none begins =
    no_line (record { at = at; what = KeepsTimes n }) bytes (meaning_of (KeepsTimes n) bytes) file lived size more past g refl refl refl refl
lines at (KeepsBytes n) bytes file lived size more past g whole none begins = absurd (clash true refl none)

-- ---- the line with which a call begins

same_last : (a x c : ℕ) → x ≡ 0 → max a (min (a + x) c) ≡ a
same_last a x c e = omega (arith, e)

-- Bytes without a time came when it begins: at the last time of the calls before, if its clock starts then.
came_last : (at : ℕ) (file : Clock) (lacking : List ℕ) (past : List Moment) → (lacking ≡ []) ⊎ (at ≡ 0)
    → with_kept (clock_by file.last at file.last).last false lacking past ≡ with_kept file.last false lacking past
came_last at file lacking past (inl none) =
    ap (λ bs. with_kept (clock_by file.last at file.last).last false bs past) none ∙ sym (ap (λ bs. with_kept file.last false bs past) none)
came_last at file lacking past (inr start) = ap (λ t. with_kept t false lacking past) (same_last file.last at (2 ^ 64 - 1) start)

begin_line : (at n : ℕ) (bytes : List ℕ) (file lived : Clock) (size : ℕ) (lacking more : List ℕ) (past : List Moment)
    → Goes (record { at = at; what = Happens (Begins n) }) file lived → length lacking ≡ n - size → (lacking ≡ []) ⊎ (at ≡ 0)
    → Lines (record { at = at; what = Happens (Begins n) }) bytes (happening_of (Begins n)) file lived size lacking more past
begin_line at n bytes file lived size lacking more past g long timed =
    let entry : Entry = record { at = at; what = Happens (Begins n) } in
    let now : ℕ = (next_clock entry file).last in
    let until : ℕ = (next_clock entry lived).last in
    let time : now ≡ until = same_time entry file lived g in
    let news = news_of (Begins n) in
    record {
      left_is = ap (λ k. drop k (lacking ++ more)) (sym long) ∙ drop-append_seam lacking more;
      walk_is = ap (λ k. with_told now news (with_kept now false (take k (lacking ++ more)) past)) (sym long)
          ∙ ap (λ bs. with_told now news (with_kept now false bs past)) (take-append_seam lacking more)
          ∙ ap (λ ms. with_told now news ms) (came_last at file lacking past timed) ∙ ap (λ t. with_told t news (with_kept file.last false lacking past)) time;
      began_is = g.began;
      last_is = same_le now until time;
    }

-- and then the line of the bytes that the capture gets
record Kept (at : ℕ) (bytes : List ℕ) (file : Clock) (time began : ℕ) (size : ℕ) (more : List ℕ) (past : List Moment) : Type 0 where
  left_is : left size (bytes ++ more) (heard_line at bytes) ≡ more
  walk_is : walk file size (bytes ++ more) (heard_line at bytes) past ≡ with_kept time false bytes past
  began_is : (clock_over file (heard_line at bytes)).began ≡ began
  last_is : (clock_over file (heard_line at bytes)).last ≤ time

heard_time : (a t x : ℕ) → a ≤ t → t ≡ x → max a x ≡ t
heard_time a t x g e = omega (arith, g, e)

kept_line : (at : ℕ) (bytes : List ℕ) (file : Clock) (time began : ℕ) (size : ℕ) (more : List ℕ) (past : List Moment) → file.began ≡ began → file.last ≤ time
    → time ≡ capped (began + at) → Kept at bytes file time began size more past
kept_line at [] file time began size more past e low is = record { left_is = refl; walk_is = refl; began_is = e; last_is = low }
kept_line at (byte ∷ bytes) file time began size more past e low is =
    let now : Clock = clock_by file.began at file.last in
    let same : now.last ≡ time = ap (λ b. max file.last (capped (b + at))) e ∙ heard_time file.last time (capped (began + at)) low is in
    record {
      left_is = drop-append_seam (byte ∷ bytes) more;
      walk_is = ap (λ bs. with_kept now.last false bs past) (take-append_seam (byte ∷ bytes) more) ∙ ap (λ t. with_kept t false (byte ∷ bytes) past) same;
      began_is = e;
      last_is = same_le now.last time same;
    }

-- ---- entry by entry

-- The files tell what was told; these bytes lack their times.
record Tells (lacking : List ℕ) (past : List Heard) (turns : List Turn) (events : List Event) (capture : List ℕ) : Type 0 where
  left_is : (more : List ℕ) → left 0 (capture ++ more) events ≡ lacking ++ more
  walk_is : (more : List ℕ) → with_kept (clock_over first_clock events).last false lacking (walk first_clock 0 (capture ++ more) events []) ≡ as_filed (moments past) turns
  began_is : (clock_over first_clock events).began ≡ (clock_after past).began
  last_is : (clock_over first_clock events).last ≤ (clock_after past).last

covered_both : (size : ℕ) (a b : List Event) → covered size (a ++ b) ≡ covered (covered size a) b
covered_both size [] b = refl
covered_both size (event ∷ a) b = covered_both (covered_after event.what size) a b

left_line : {past : List Heard} {turns : List Turn} (lacking capture has more : List ℕ) (events line : List Event) → Tells lacking past turns events capture
    → left (covered 0 events) (lacking ++ (has ++ more)) line ≡ more → left 0 (capture ++ (has ++ more)) (events ++ line) ≡ more
left_line lacking capture has more events line s is =
    left_both 0 (capture ++ (has ++ more)) events line ∙ ap (λ bs. left (covered 0 events) bs line) (s.left_is (has ++ more)) ∙ is

walk_line : {past : List Heard} {turns : List Turn} (lacking capture has more : List ℕ) (events line : List Event) (filed : List Moment) → Tells lacking past turns events capture
    → walk (clock_over first_clock events) (covered 0 events) (lacking ++ (has ++ more)) line (walk first_clock 0 (capture ++ (has ++ more)) events []) ≡ filed
    → walk first_clock 0 (capture ++ (has ++ more)) (events ++ line) [] ≡ filed
walk_line lacking capture has more events line filed s is =
    walk_both first_clock 0 (capture ++ (has ++ more)) events line []
    ∙ ap (λ bs. walk (clock_over first_clock events) (covered 0 events) bs line (walk first_clock 0 (capture ++ (has ++ more)) events [])) (s.left_is (has ++ more)) ∙ is

max_is : (a x : ℕ) → a ≤ x → max a x ≡ x
max_is a x low = omega (arith, low)

tells_more : (lacking : List ℕ) (heard : Heard) (past : List Heard) (t : Turn) (ts : List Turn) (events : List Event) (capture : List ℕ) → Tells lacking past ts events capture
    → Goes heard.entry (clock_over first_clock events) (clock_after past) → brings_capture heard.entry.what ≡ false
    → ((more : List ℕ) (before : List Moment) → Lines heard.entry heard.bytes (meaning_of heard.entry.what heard.bytes) (clock_over first_clock events) (clock_after past)
    (covered 0 events) lacking more before)
    → Tells [] (heard ∷ past) (t ∷ ts) ((events ++ line_of heard.entry.at heard.entry.what) ++ heard_line heard.entry.at (kept (t ∷ ts)))
    ((capture ++ already (meaning_of heard.entry.what heard.bytes) heard.bytes) ++ kept (t ∷ ts))
tells_more lacking heard past t ts events capture s g none ls =
    let lived : Clock = clock_after past in
    let file : Clock = clock_over first_clock events in
    let size : ℕ = covered 0 events in
    let line : List Event = line_of heard.entry.at heard.entry.what in
    let what : ToBoard = meaning_of heard.entry.what heard.bytes in
    let has : List ℕ = already what heard.bytes in
    let k : List ℕ = kept (t ∷ ts) in
    let last : List Event = heard_line heard.entry.at k in
    let filed : List Moment = as_filed (moments past) ts in
    let time : ℕ = (next_clock heard.entry lived).last in
    let began : ℕ = (next_clock heard.entry lived).began in
    let with_line : List Moment = with_kept time (is_added what) has (with_told time (news_at what) filed) in
    let first : List ℕ → List Moment = λ more. walk first_clock 0 (capture ++ (has ++ (k ++ more))) events [] in
    let l : (more : List ℕ) → Lines heard.entry heard.bytes what file lived size lacking (k ++ more) (first more) = λ more. ls (k ++ more) (first more) in
    let second : Clock = clock_over file line in
    let two : ℕ = covered size line in
    let one : Lines heard.entry heard.bytes what file lived size lacking (k ++ []) (first []) = l [] in
    let in_time : time ≡ capped (began + heard.entry.at) = max_is lived.last (capped (began + heard.entry.at)) g.order in
    let b : (more : List ℕ) → Kept heard.entry.at k second time began two more with_line =
    λ more. kept_line heard.entry.at k second time began two more with_line one.began_is one.last_is in_time in
    let clock_is : clock_over first_clock (events ++ line) ≡ second = clock_both first_clock events line in
    let all_clock : clock_over first_clock ((events ++ line) ++ last) ≡ clock_over second last =
    clock_both first_clock (events ++ line) last ∙ ap (λ (c : Clock). clock_over c last) clock_is in
    let after : clock_after (heard ∷ past) ≡ next_clock heard.entry lived = ap (λ x. clock_of x heard lived) none in
    let L : Clock → Type 0 = λ c. (clock_over first_clock ((events ++ line) ++ last)).last ≤ c.last in
    let final : (clock_over second last).last ≤ time = (b []).last_is in
    let M : Clock → Type 0 = λ c. c.last ≤ time in
    record {
      left_is = λ more.
          ap (λ bs. left 0 bs ((events ++ line) ++ last)) (three capture has k more)
          ∙ left_both 0 (capture ++ (has ++ (k ++ more))) (events ++ line) last
          ∙ ap (λ bs. left (covered 0 (events ++ line)) bs last) (left_line lacking capture has (k ++ more) events line s (l more).left_is)
          ∙ ap (λ n. left n (k ++ more) last) (covered_both 0 events line) ∙ (b more).left_is;
      walk_is = λ more.
          ap (λ bs. walk first_clock 0 bs ((events ++ line) ++ last) []) (three capture has k more)
          ∙ walk_both first_clock 0 (capture ++ (has ++ (k ++ more))) (events ++ line) last []
          ∙ ap (λ bs. walk (clock_over first_clock (events ++ line)) (covered 0 (events ++ line)) bs last (walk first_clock 0 (capture ++ (has ++ (k ++ more))) (events ++ line) []))
          (left_line lacking capture has (k ++ more) events line s (l more).left_is)
          ∙ ap (λ n. walk (clock_over first_clock (events ++ line)) n (k ++ more) last (walk first_clock 0 (capture ++ (has ++ (k ++ more))) (events ++ line) [])) (covered_both 0 events line)
          ∙ ap (λ (c : Clock). walk c two (k ++ more) last (walk first_clock 0 (capture ++ (has ++ (k ++ more))) (events ++ line) [])) clock_is
          ∙ ap (λ ms. walk second two (k ++ more) last ms) (walk_line lacking capture has (k ++ more) events line with_line s
          ((l more).walk_is ∙ ap (λ ms. with_kept time (is_added what) has (with_told time (news_at what) ms)) (s.walk_is (has ++ (k ++ more)))))
          ∙ (b more).walk_is ∙ sym (ap (λ x. as_filed (moments_by x heard past (moments past)) (t ∷ ts)) none);
      began_is = ap (λ (c : Clock). c.began) all_clock ∙ (b []).began_is ∙ sym (ap (λ (c : Clock). c.began) after);
      last_is = subst L (sym after) (subst M (sym all_clock) final);
    }

-- ---- what was told before the call

wakes_for : (what : What) (bytes : List ℕ) → brings_times what ≡ true → meaning_of what bytes ≡ Cable TimeCame
wakes_for (KeepsTimes n) bytes e = refl
wakes_for (Happens what) bytes e = absurd (clash _ e refl)
wakes_for Wakes bytes e = refl
wakes_for Lends bytes e = absurd (clash _ e refl)
wakes_for WantsText bytes e = refl
wakes_for (Owns n) bytes e = absurd (clash _ e refl)
wakes_for (KeepsBytes n) bytes e = refl

times_alone : (what : What) → brings_times what ≡ true → brings_capture what ≡ false
times_alone (KeepsTimes n) e = refl
times_alone (Happens what) e = refl
times_alone Wakes e = refl
times_alone Lends e = refl
times_alone WantsText e = refl
times_alone (Owns n) e = refl
times_alone (KeepsBytes n) e = absurd (clash _ e refl)

times_begun : (what : What) → brings_times what ≡ true → began_by what 0 0 ≡ 0
times_begun (KeepsTimes n) e = refl
times_begun (Happens what) e = absurd (clash _ e refl)
times_begun Wakes e = refl
times_begun Lends e = refl
times_begun WantsText e = refl
times_begun (Owns n) e = refl
times_begun (KeepsBytes n) e = refl

record Base (base : List Heard) (turns : List Turn) (events : List Event) (capture : List ℕ) : Type 0 where
  lacking : List ℕ
  tells : Tells lacking base turns events capture
  clock_is : clock_over first_clock events ≡ clock_after base
  lacks : length lacking ≡ length capture - covered 0 events

times_told : (one : Heard) → brings_times one.entry.what ≡ true → one.entry.at ≡ 0 → (clock_after (one ∷ []) ≡ first_clock) × Files (moments (one ∷ [])) []
times_told one times at =
    let none = times_alone one.entry.what times in
    let begun : ℕ → ℕ → Clock = λ b a. clock_by b a 0 in
    let F : ToBoard → Type 0 = λ what. Files ((let m : Moment = record { at = time_of one []; what = what; bytes = one.bytes } in m) ∷ []) [] in
    let here : F (Cable TimeCame) = files_more (record { at = time_of one []; what = Cable TimeCame; bytes = one.bytes }) [] [] refl refl files_none in (
      ap (λ x. clock_of x one first_clock) none ∙ ap (λ b. begun b one.entry.at) (times_begun one.entry.what times) ∙ ap (λ a. begun 0 a) at,
      subst (λ x. Files (moments_by x one [] []) []) (sym none) (subst F (sym (wakes_for one.entry.what one.bytes times)) here),
    )

files_told_first : (two one : Heard) (turns : List Turn) (events : List Event) (capture : List ℕ) → TellsFiles (two ∷ one ∷ []) events capture
    → Told (cabled (moments (two ∷ one ∷ []))) turns → Base (two ∷ one ∷ []) turns events capture
files_told_first two one turns events capture h told =
    let first = times_told one h.0 h.1 in
    let M : List Moment = walk first_clock 0 capture events (moments (one ∷ [])) in
    let W : List Moment = walk first_clock 0 capture events [] in
    let lacking : List ℕ = left 0 capture events in
    let last : ℕ = (clock_over first_clock events).last in
    let low : coming_in 0 events ≤ length capture = subst (λ n. n ≤ length capture) (sym h.5) h.6 in
    let moments_are : moments (two ∷ one ∷ []) ≡ with_kept last false lacking M =
    ap (λ x. moments_by x two (one ∷ []) (moments (one ∷ []))) h.2 ∙ ap (λ (c : Clock). history_of c two.events two.bytes (moments (one ∷ []))) first.0
    ∙ ap (λ (es : List Event). history_of first_clock es two.bytes (moments (one ∷ []))) h.3 ∙ ap (λ (bs : List ℕ). history_of first_clock events bs (moments (one ∷ []))) h.4
    ∙ merged_is first_clock 0 capture events (moments (one ∷ [])) in
    let T : List Moment → Type 0 = λ ms. Told (cabled ms) turns in
    let all : Files (with_kept last false lacking M) (with_kept last false lacking W) =
    files_kept last false lacking M W (walk_filed first_clock 0 capture events (moments (one ∷ [])) [] first.1) in
    let filed : as_filed (moments (two ∷ one ∷ [])) turns ≡ with_kept last false lacking W =
    ap (λ ms. as_filed ms turns) moments_are ∙ all.is turns (subst T moments_are told) in
    let clocks : clock_over first_clock events ≡ clock_after (two ∷ one ∷ []) =
    sym (ap (λ x. clock_of x two (clock_after (one ∷ []))) h.2 ∙ ap (λ (c : Clock). clock_over c two.events) first.0 ∙ ap (λ (es : List Event). clock_over first_clock es) h.3) in
    record {
      lacking = lacking;
      tells = record {
        left_is = λ more. left_rest 0 capture more events low;
        walk_is = λ more. ap (λ ms. with_kept last false lacking ms) (walk_rest first_clock 0 capture more events [] low) ∙ sym filed;
        began_is = ap (λ (c : Clock). c.began) clocks;
        last_is = same_le (clock_over first_clock events).last (clock_after (two ∷ one ∷ [])).last (ap (λ (c : Clock). c.last) clocks);
      };
      clock_is = clocks;
      lacks = left_length 0 capture events ∙ ap (λ n. length capture - n) h.5;
    }

nothing_told : (turns : List Turn) (events : List Event) (capture : List ℕ) → events ≡ [] → capture ≡ [] → Base [] turns events capture
nothing_told turns events capture e f =
    let none : Tells [] [] turns [] [] = record { left_is = λ more. refl; walk_is = λ more. refl; began_is = refl; last_is = same_le 0 0 refl } in
    let here : Base [] turns [] [] = record { lacking = []; tells = none; clock_is = refl; lacks = refl } in
    subst (λ (es : List Event). Base [] turns es capture) (sym e) (subst (λ (bs : List ℕ). Base [] turns [] bs) (sym f) here)

told_before : (base : List Heard) (turns : List Turn) (events : List Event) (capture : List ℕ) → TellsFiles base events capture → Told (cabled (moments base)) turns
    → Base base turns events capture
told_before [] turns events capture h told = nothing_told turns events capture h.0 h.1
told_before (two ∷ []) turns events capture h told = absurd h
told_before (two ∷ one ∷ []) turns events capture h told = files_told_first two one turns events capture h told
told_before (two ∷ one ∷ three ∷ more) turns events capture h told = absurd h

-- ---- all entries

turns_of : (heard : Heard) (past : List Heard) (t : Turn) (ts : List Turn) → brings_capture heard.entry.what ≡ false → Told (cabled (moments (heard ∷ past))) (t ∷ ts)
    → Told (cabled (moments past)) ts
turns_of heard past t ts none h =
    let T : Bool → Type 0 = λ x. Told (cabled (moments_by x heard past (moments past))) (t ∷ ts) in
    let here : T false = subst T none h in here.0

no_turns : (heard : Heard) (past : List Heard) → brings_capture heard.entry.what ≡ false → Told (cabled (moments (heard ∷ past))) [] → ⊥
no_turns heard past none h =
    let T : Bool → Type 0 = λ x. Told (cabled (moments_by x heard past (moments past))) [] in subst T none h

began_alike : (what : What) (a c b : ℕ) → (IsBeginning what → ⊥) → began_by what a b ≡ began_by what c b
began_alike (Happens (Begins n)) a c b stays = absurd (stays (n, refl))
began_alike (Happens (IsAway n)) a c b stays = refl
began_alike (Happens Opens) a c b stays = refl
began_alike (Happens Answers) a c b stays = refl
began_alike (Happens LineGoes) a c b stays = refl
began_alike (Happens Calls) a c b stays = refl
began_alike (Happens (Hears n)) a c b stays = refl
began_alike (Happens (Adds n)) a c b stays = refl
began_alike (Happens (Brings n)) a c b stays = refl
began_alike (Happens (Stops n)) a c b stays = refl
began_alike (Happens (Asks n)) a c b stays = refl
began_alike (Happens Takes) a c b stays = refl
began_alike (Happens (Ends n)) a c b stays = refl
began_alike (Happens LooksAt) a c b stays = refl
began_alike (Happens Back) a c b stays = refl
began_alike (Happens Reopened) a c b stays = refl
began_alike (Happens (Suspected n)) a c b stays = refl
began_alike Wakes a c b stays = refl
began_alike Lends a c b stays = refl
began_alike WantsText a c b stays = refl
began_alike (Owns n) a c b stays = refl
began_alike (KeepsTimes n) a c b stays = refl
began_alike (KeepsBytes n) a c b stays = refl

none_lacks : (lacking : List ℕ) (n m : ℕ) → length lacking ≡ n - m → m ≡ n → lacking ≡ []
none_lacks lacking n m e same = nil_from_length lacking (omega (arith, e, same))

timed_first : (lacking : List ℕ) (n m at : ℕ) → length lacking ≡ n - m → (m ≡ n) ⊎ (at ≡ 0) → (lacking ≡ []) ⊎ (at ≡ 0)
timed_first lacking n m at e (inl same) = inl (none_lacks lacking n m e same)
timed_first lacking n m at e (inr start) = inr start

tells : (call base : List Heard) (events : List Event) (capture : List ℕ) (turns : List Turn) → Told (cabled (moments (call ++ base))) turns
    → TellsFiles base events capture → IsCall (length capture) call base → IsTimed events capture call
    → Tells [] (call ++ base) turns (events_after events call turns) (bytes_after capture call turns)
tells [] base events capture turns h files call timed = absurd call
tells (heard ∷ []) base events capture [] h files call timed =
    absurd (no_turns heard base (ap (λ w. brings_capture w) call.0) h)
tells (heard ∷ []) base events capture (t ∷ ts) h files call timed =
    let none : brings_capture heard.entry.what ≡ false = ap (λ w. brings_capture w) call.0 in
    let b = told_before base ts events capture files (turns_of heard base t ts none h) in
    let file : Clock = clock_over first_clock events in
    let lived : Clock = clock_after base in
    let size : ℕ = covered 0 events in
    let goes : Goes heard.entry file lived = record {
      began = ap (λ (c : Clock). began_by heard.entry.what c.last c.began) b.clock_is;
      last = same_le file.last lived.last (ap (λ (c : Clock). c.last) b.clock_is);
      order = call.2;
    } in
    let G : What → Type 0 = λ w. Goes (record { at = heard.entry.at; what = w }) file lived in
    let L : What → Type 0 = λ w. (more : List ℕ) (before : List Moment)
    → Lines (record { at = heard.entry.at; what = w }) heard.bytes (meaning_of w heard.bytes) file lived size b.lacking more before in
    let begins : L (Happens (Begins (length capture))) = λ more before.
    begin_line heard.entry.at (length capture) heard.bytes file lived size b.lacking more before (subst G call.0 goes) b.lacks
    (timed_first b.lacking (length capture) size heard.entry.at b.lacks timed) in
    tells_more b.lacking heard base t ts events capture b.tells goes none (subst L (sym call.0) begins)
tells (heard ∷ one ∷ call) base events capture [] h files is timed = absurd (no_turns heard (one ∷ call ++ base) is.2 h)
tells (heard ∷ one ∷ call) base events capture (t ∷ ts) h files is timed =
    let past : List Heard = one ∷ call ++ base in
    let s = tells (one ∷ call) base events capture ts (turns_of heard past t ts is.2 h) files is.0 timed in
    let before : List Event = events_after events (one ∷ call) ts in
    let file : Clock = clock_over first_clock before in
    let goes : Goes heard.entry file (clock_after past) = record {
      began = began_alike heard.entry.what file.last (clock_after past).last file.began is.1 ∙ ap (λ b. began_by heard.entry.what (clock_after past).last b) s.began_is;
      last = s.last_is;
      order = is.4;
    } in
    tells_more [] heard past t ts before (bytes_after capture (one ∷ call) ts) s goes is.2
    (λ more ms. lines heard.entry.at heard.entry.what heard.bytes file (clock_after past) (covered 0 before) more ms goes is.3 is.2 is.1)

pub files_are_as_filed : FilesAreAsFiled
files_are_as_filed call base events capture turns h files is timed =
    let s = tells call base events capture turns h files is timed in
    let es = events_after events call turns in
    let bs = bytes_after capture call turns in
    let none : left 0 bs es ≡ [] = ap (λ x. left 0 x es) (sym (append-nil bs)) ∙ s.left_is [] in
    merged_is first_clock 0 bs es [] ∙ ap (λ x. with_kept (clock_over first_clock es).last false x (walk first_clock 0 bs es [])) none
    ∙ ap (λ x. walk first_clock 0 x es []) (sym (append-nil bs)) ∙ s.walk_is []
