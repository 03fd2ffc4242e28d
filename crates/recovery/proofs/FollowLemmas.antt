-- What the bytes show in which frames were put in.
use Rattle.std.proofs.Common.{◌≡◌, ◌<◌, ◌≤◌, ◌+◌, ℕ, List, [], ◌∷◌, ◌++◌, length, take, drop, refl, sym, ap, subst, arith, ◌∙◌, append_assoc, append-nil, length-append}
use Rattle.std.proofs.lemmas.List.{take-append-le, drop-append-le, take-append-drop, length-drop, nil_from_length}
use Rattle.std.proofs.Math.Seq.{take-append_seam, drop-append_seam}
use Rattle.dgt_frame.specs.declared.events.Event.{Event}
use Rattle.dgt_frame.specs.declared.events.Event.TheVariants.{Message as MessageEvent, Fault}
use Rattle.dgt_frame.specs.Restarts.{moved_on}
use Rattle.dgt_frame.specs.Streams.{Opens, Shows, ShowsFrom, Timed}
use Rattle.board_events.specs.Commands.{past_of}
use Rattle.pair_frames.specs.Laws.{EndsWhole, FramesArePutIn}
use Rattle.pair_frames.proofs.Joining.{moved_twice}
use Rattle.recovery.specs.Inside.Passing.{EndsAt, Follows, IsMessage}

pub ends_at : (events : List Timed) (x : Timed) (end : ℕ) → IsMessage x.event → x.offset + 1 ≡ end → EndsAt (events ++ x ∷ []) end
ends_at [] x end m at = (m, at)
ends_at (a ∷ []) x end m at = (m, at)
ends_at (a ∷ b ∷ more) x end m at = ends_at (b ∷ more) x end m at

-- a message takes all its bytes
pub opened : (event : Event) (front more : List ℕ) (index : ℕ) → IsMessage event → Opens event front more index → index + 1 ≡ length front
opened (MessageEvent message) front more index m opens = opens.1
opened (Fault kind) front more index m opens = absurd m

nothing_left : (start : ℕ) (bytes : List ℕ) (rest : ℕ) → length bytes ≡ 0 → ShowsFrom start bytes [] rest → rest ≡ 0
nothing_left start bytes rest none h = h.1 ∙ none

-- A stream that ends with a message leaves no rest.
pub leaves_none : (start : ℕ) (bytes : List ℕ) (events : List Timed) (rest : ℕ) → ShowsFrom start bytes events rest
    → EndsAt events (start + length bytes) → rest ≡ 0
leaves_none start bytes [] rest h ends = absurd ends
leaves_none start bytes (x ∷ []) rest h ends =
    let whole : h.2 + 1 ≡ length h.0 = opened x.event h.0 h.1 h.2 ends.0 h.4 in
    let sizes : length bytes ≡ length h.0 + length h.1 = ap length h.3 ∙ length-append h.0 h.1 in
    nothing_left (start + length h.0) h.1 rest (omega (arith, whole, sizes, h.5, ends.1)) h.6
leaves_none start bytes (x ∷ y ∷ more) rest h ends =
    let sizes : start + length bytes ≡ (start + length h.0) + length h.1 = omega (arith, ap length h.3 ∙ length-append h.0 h.1) in
    leaves_none (start + length h.0) h.1 (y ∷ more) rest h.6 (subst (EndsAt (y ∷ more)) sizes ends)

pub whole_leaves_none : (bytes : List ℕ) (events : List Timed) (rest : ℕ) → Shows bytes events rest → EndsAt events (length bytes) → rest ≡ 0
whole_leaves_none bytes events rest h ends =
    let far_end : length bytes ≡ 0 + length bytes = omega arith in
    leaves_none 0 bytes events rest h (subst (EndsAt events) far_end ends)

-- The end lies behind the first byte.
reaches : (start : ℕ) (bytes : List ℕ) (events later : List Timed) (rest end : ℕ) → ShowsFrom start bytes (events ++ later) rest → EndsAt events end → start < end
reaches start bytes [] later rest end h ends = absurd ends
reaches start bytes (x ∷ []) later rest end h ends = omega (arith, h.5, ends.1)
reaches start bytes (x ∷ y ∷ more) later rest end h ends =
    let behind : start + length h.0 < end = reaches (start + length h.0) h.1 (y ∷ more) later rest end h.6 ends in omega (arith, behind)

pub fronts_are : (bytes more front back : List ℕ) → bytes ++ more ≡ front ++ back → length front ≤ length bytes
    → (bytes ≡ front ++ drop (length front) bytes) × (back ≡ drop (length front) bytes ++ more)
fronts_are bytes more front back same low =
    let n = length front in
    let is : take n bytes ≡ front = sym (take-append-le n bytes more low) ∙ ap (take n) same ∙ take-append_seam front back in (
      sym (take-append-drop n bytes) ∙ ap (λ bs. bs ++ drop n bytes) is,
      sym (drop-append_seam front back) ∙ ap (drop n) (sym same) ∙ drop-append-le n bytes more low,
    )

-- What comes behind a message is shown from there.
pub behind : (start : ℕ) (bytes more : List ℕ) (events later : List Timed) (rest : ℕ) → ShowsFrom start (bytes ++ more) (events ++ later) rest
    → EndsAt events (start + length bytes) → ShowsFrom (start + length bytes) more later rest
behind start bytes more [] later rest h ends = absurd ends
behind start bytes more (x ∷ []) later rest h ends =
    let whole : h.2 + 1 ≡ length h.0 = opened x.event h.0 h.1 h.2 ends.0 h.4 in
    let same : length h.0 ≡ length bytes = omega (arith, whole, h.5, ends.1) in
    let low : length h.0 ≤ length bytes = omega (arith, same) in
    let parts = fronts_are bytes more h.0 h.1 h.3 low in
    let none : drop (length h.0) bytes ≡ [] = nil_from_length (drop (length h.0) bytes) (omega (arith, length-drop (length h.0) bytes, same)) in
    let P : ℕ → List ℕ → Type 0 = λ n bs. ShowsFrom n bs later rest in
    subst (λ n. P n more) (ap (λ n. start + n) same) (subst (P (start + length h.0)) (parts.1 ∙ ap (λ bs. bs ++ more) none) h.6)
behind start bytes more (x ∷ y ∷ es) later rest h ends =
    let past : start + length h.0 < start + length bytes = reaches (start + length h.0) h.1 (y ∷ es) later rest (start + length bytes) h.6 ends in
    let low : length h.0 ≤ length bytes = omega (arith, past) in
    let parts = fronts_are bytes more h.0 h.1 h.3 low in
    let b = drop (length h.0) bytes in
    let at : start + length bytes ≡ (start + length h.0) + length b = omega (arith, ap length parts.0 ∙ length-append h.0 b) in
    let P : ℕ → Type 0 = λ n. ShowsFrom n more later rest in
    let S : List ℕ → Type 0 = λ bs. ShowsFrom (start + length h.0) bs ((y ∷ es) ++ later) rest in
    subst P (sym at) (behind (start + length h.0) b more (y ∷ es) later rest (subst S parts.1 h.6) (subst (EndsAt (y ∷ es)) at ends))

-- The same bytes, without those before them.
pub alone : (by start : ℕ) (bytes : List ℕ) (events : List Timed) (rest : ℕ) → ShowsFrom (by + start) bytes events rest
    → (others : List Timed) × (events ≡ moved_on by others) × ShowsFrom start bytes others rest
alone by start bytes [] rest h = ([], refl, h)
alone by start bytes (x ∷ events) rest h =
    let N : ℕ → Type 0 = λ n. ShowsFrom n h.1 events rest in
    let at : (by + start) + length h.0 ≡ by + (start + length h.0) = omega arith in
    let tail = alone by (start + length h.0) h.1 events rest (subst N at h.6) in
    let offset : x.offset ≡ by + (start + h.2) = omega (arith, h.5) in
    let one : Timed = record { offset = start + h.2; event = x.event } in
    let same : x ≡ record { offset = by + (start + h.2); event = x.event } = ap (λ (n : ℕ). record { offset = n; event = x.event }) offset in (
      one ∷ tail.0,
      ap (λ (t : Timed). t ∷ events) same ∙ ap (λ es. record { offset = by + (start + h.2); event = x.event } ∷ es) tail.1,
      (h.0, h.1, h.2, h.3, h.4, refl, tail.2),
    )

moved_none : (events : List Timed) → moved_on 0 events ≡ events
moved_none [] = refl
moved_none (x ∷ events) =
    let offset : 0 + x.offset ≡ x.offset = omega arith in
    ap (λ (n : ℕ). record { offset = n; event = x.event } ∷ moved_on 0 events) offset ∙ ap (λ es. x ∷ es) (moved_none events)

-- nothing was read
pub follows_start : Follows [] [] [] []
follows_start = record { ahead = 0; longer = refl; shows = λ more later rest h. rw (moved_none later) h }

-- more bytes, at none of which an event came
pub follows_none : (bytes more : List ℕ) (events : List Timed) (woven : List ℕ) (written : List Timed) → Follows bytes events woven written
    → Follows (bytes ++ more) events (woven ++ more) written
follows_none bytes more events woven written f = record {
  ahead = f.ahead;
  longer = omega (arith, length-append woven more, length-append bytes more, f.longer);
  shows = λ ahead later rest h. rw (append_assoc woven more ahead) (f.shows (more ++ ahead) later rest (rw (← append_assoc bytes more ahead) h));
}

-- one more event, which came at a byte that was given on
pub follows_event : (bytes : List ℕ) (events : List Timed) (x : Timed) (woven : List ℕ) (written : List Timed) → (f : Follows bytes events woven written)
    → Follows bytes (events ++ x ∷ []) woven (written ++ moved_on f.ahead (x ∷ []))
follows_event bytes events x woven written f = record {
  ahead = f.ahead;
  longer = f.longer;
  shows = λ more later rest h. rw (append_assoc written (moved_on f.ahead (x ∷ [])) (moved_on f.ahead later)) (f.shows more (x ∷ later) rest (rw (← append_assoc events (x ∷ []) later) h));
}

put_shown : FramesArePutIn → (bytes : List ℕ) (events : List Timed) (woven : List ℕ) (written : List Timed) (frames : List ℕ) (middle : List Timed)
    → (f : Follows bytes events woven written) → Shows bytes events 0 → EndsAt events (length bytes)
    → EndsWhole (past_of written) → EndsWhole (past_of middle) → Shows frames middle 0
    → (more : List ℕ) (later : List Timed) (rest : ℕ) → Shows (bytes ++ more) (events ++ later) rest
    → Shows ((woven ++ frames) ++ more) ((written ++ moved_on (length woven) middle) ++ moved_on (f.ahead + length frames) later) rest
put_shown between bytes events woven written frames middle f shown ends whole whole' frames_show more later rest h =
    let far_end : length bytes ≡ 0 + length bytes = omega arith in
    let sum : 0 + length bytes ≡ length bytes + 0 = omega arith in
    let P : ℕ → Type 0 = λ n. ShowsFrom n more later rest in
    let tail : ShowsFrom (length bytes + 0) more later rest = subst P sum (behind 0 bytes more events later rest h (subst (EndsAt events) far_end ends)) in
    let own = alone (length bytes) 0 more later rest tail in
    let others = own.0 in
    let now : Shows woven written 0 = rw (append-nil woven, append-nil written) at (f.shows [] [] 0 (rw (append-nil bytes, append-nil events) shown)) in
    let all : Shows ((woven ++ frames) ++ more) ((written ++ moved_on (length woven) middle) ++ moved_on (length woven + length frames) others) rest =
    between woven frames more written middle others rest whole now whole' frames_show own.2 in
    let far : (f.ahead + length frames) + length bytes ≡ length woven + length frames = omega (arith, f.longer) in
    let same : moved_on (f.ahead + length frames) later ≡ moved_on (length woven + length frames) others =
    ap (moved_on (f.ahead + length frames)) own.1 ∙ moved_twice (f.ahead + length frames) (length bytes) others ∙ ap (λ n. moved_on n others) far in
    rw same all

-- frames were put in behind a message
pub follows_put : FramesArePutIn → (bytes : List ℕ) (events : List Timed) (woven : List ℕ) (written : List Timed) (frames : List ℕ) (middle : List Timed)
    → (f : Follows bytes events woven written) → Shows bytes events 0 → EndsAt events (length bytes)
    → EndsWhole (past_of written) → EndsWhole (past_of middle) → Shows frames middle 0
    → Follows bytes events (woven ++ frames) (written ++ moved_on (length woven) middle)
follows_put between bytes events woven written frames middle f shown ends whole whole' frames_show =
    record {
      ahead = f.ahead + length frames;
      longer = omega (arith, length-append woven frames, f.longer);
      shows = λ more later rest h. put_shown between bytes events woven written frames middle f shown ends whole whole' frames_show more later rest h;
    }
