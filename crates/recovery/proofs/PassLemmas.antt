-- What stands after more bytes.
use Rattle.std.proofs.Common.{◌≡◌, ◌<◌, ◌≤◌, ◌+◌, ◌-◌, ℕ, true, List, [], ◌∷◌, ◌++◌, length, take, drop, map, reverse, Option, Some, None, refl, sym, ap, subst, arith, ◌∙◌, append-nil, length-append}
use Rattle.std.proofs.lemmas.List.{length-take-le, reverse-append, take-append-drop}
use Rattle.settle_core.proofs.Lines.{map-reverse}
use Rattle.dgt_frame.specs.declared.decode.Decoder.{Decoder}
use Rattle.dgt_frame.specs.declared.events.Event.{Event}
use Rattle.dgt_frame.specs.declared.events.Event.TheVariants.{Message as MessageEvent, Fault}
use Rattle.dgt_frame.specs.Decoder.{Decoded, TakesAll, TakesUpTo}
use Rattle.dgt_frame.specs.Restarts.{moved_on}
use Rattle.dgt_frame.specs.Streams.{Shows, Timed}
use Rattle.unseen_pairs.specs.declared.pair.Recovery.{Recovery}
use Rattle.board_events.specs.Commands.{past_of}
use Rattle.board_events.specs.Entries.{entry_at, is_entry}
use Rattle.board_events.specs.Settings.{Setting}
use Rattle.board_events.proofs.CommandLemmas.{past_both, past_moved}
use Rattle.pair_frames.specs.Laws.{EndsWhole, FramesArePutIn}
use Rattle.pair_frames.specs.PutIn.{put_in}
use Rattle.recovery.specs.declared.keeper.Keeper.{Keeper}
use Rattle.recovery.specs.Keeping.{RecoversAt, ShowsAnother}
use Rattle.recovery.specs.Inside.Keeping.{Keeps}
use Rattle.recovery.specs.Weaving.{Put, Puts, PutsAll, Recovers, TellsPuts, TellsRecovered, Weaves}
use Rattle.recovery.specs.Streams.{RefusesNext}
use Rattle.recovery.specs.Inside.Passing.{Adds, KeepsWithPutIn, EndsAt, Follows, TakesEvent, IsMessage, StandsForStream, added}
use Rattle.recovery.proofs.EventLemmas.{ends_whole}
use Rattle.recovery.proofs.FollowLemmas.{ends_at, follows_event, follows_none, follows_put, follows_start, whole_leaves_none}
use Rattle.recovery.proofs.WeaveLemmas.{weaves_more, weaves_put}

-- more bytes, at none of which an event came
pub stands_none : (old new : Decoder) (keeper : Keeper) (setting : Setting) (bytes woven text more : List ℕ) → TakesAll old more new
    → StandsForStream old keeper setting bytes woven text → StandsForStream new keeper setting (bytes ++ more) (woven ++ more) text
stands_none old new keeper setting bytes woven text more takes s = record {
  events = s.events;
  written = s.written;
  puts = s.puts;
  decoded = takes bytes s.events s.decoded;
  carries = s.carries;
  follows = follows_none bytes more s.events woven s.written s.follows;
  puts_are = s.puts_are;
  weaves = weaves_more bytes s.puts woven more s.weaves;
  told = s.told;
}

reverse_more : (events : List Timed) (x : Timed) → reverse (events ++ x ∷ []) ≡ x ∷ reverse events
reverse_more events x = reverse-append events (x ∷ [])

-- one more event, at which this was put in
puts_more : (setting : Setting) (events : List Timed) (x : Timed) (found : Option Recovery) (before puts : List Put) → PutsAll setting (reverse events) before
    → RecoversAt setting (past_of events) x.event found → Puts setting (x.event ∷ past_of events) x.offset found before puts
    → PutsAll setting (reverse (events ++ x ∷ [])) puts
puts_more setting events x found before puts all finds put =
    let same : past_of events ≡ map (λ (t : Timed). t.event) (reverse events) = sym (map-reverse (λ (t : Timed). t.event) events) in
    let F : List Event → Type 0 = λ es. RecoversAt setting es x.event found × Puts setting (x.event ∷ es) x.offset found before puts in
    let both = subst F same (finds, put) in
    subst (λ (es : List Timed). PutsAll setting es puts) (sym (reverse_more events x)) (before, found, all, both.0, both.1)

pub is_message : (event : Event) (past : List Event) → is_entry event past ≡ true → IsMessage event
is_message (MessageEvent message) past entered = tt
is_message (Fault kind) past entered = let n : ⊥ = cc in absurd n

pub ends_message : (event : Event) (past : List Event) → IsMessage event → EndsWhole (event ∷ past)
ends_message (MessageEvent message) past m = tt
ends_message (Fault kind) past m = absurd m

-- Nothing is put in at it.
stands_unchanged : (new : Decoder) (keeper : Keeper) (setting : Setting) (bytes woven text : List ℕ) (x : Timed) (events written : List Timed) (puts : List Put)
    → Decoded new bytes (events ++ x ∷ []) → (f : Follows bytes events woven written) → PutsAll setting (reverse events) puts
    → Weaves bytes puts woven → TellsPuts puts text → RecoversAt setting (past_of events) x.event None
    → KeepsWithPutIn keeper setting (x.event ∷ past_of events) (x.event ∷ past_of written) → StandsForStream new keeper setting bytes woven text
stands_unchanged new keeper setting bytes woven text x events written puts decoded f puts_are weaves told finds carries =
    let C : List Event → List Event → Type 0 = λ a b. KeepsWithPutIn keeper setting a b in
    let written' = written ++ moved_on f.ahead (x ∷ []) in
    record {
      events = events ++ x ∷ [];
      written = written';
      puts = puts;
      decoded = decoded;
      carries = subst (λ a. C a (past_of written')) (sym (past_both events (x ∷ []))) (subst (C (x.event ∷ past_of events)) (sym (past_both written (moved_on f.ahead (x ∷ [])))) carries);
      follows = follows_event bytes events x woven written f;
      puts_are = puts_more setting events x None puts puts puts_are finds refl;
      weaves = weaves;
      told = told;
    }

-- A pair is put in at it.
stands_put : FramesArePutIn → (new : Decoder) (keeper : Keeper) (setting : Setting) (bytes woven text frames line : List ℕ) (x : Timed) (r : Recovery)
    (events written : List Timed) (puts : List Put) (rest : ℕ)
    → Decoded new bytes (events ++ x ∷ []) → Shows bytes (events ++ x ∷ []) rest → x.offset + 1 ≡ length bytes
    → (f : Follows bytes events woven written) → PutsAll setting (reverse events) puts
    → Weaves bytes puts woven → TellsPuts puts text → RecoversAt setting (past_of events) x.event (Some r)
    → KeepsWithPutIn keeper setting (x.event ∷ past_of events) (added setting (past_of events) x.event (Some r) (past_of written))
    → Adds setting (x.event ∷ past_of events) x.offset (Some r) frames line
    → StandsForStream new keeper setting bytes (woven ++ frames) (text ++ line)
stands_put between new keeper setting bytes woven text frames line x r events written puts rest decoded shown at f puts_are weaves told finds carries adds =
    let C : List Event → List Event → Type 0 = λ a b. KeepsWithPutIn keeper setting a b in
    let middle : List Timed = (adds.0).0 in
    let entry = entry_at setting.first setting.rotated (x.event ∷ past_of events) in
    let put : Put = record { offset = x.offset; recovery = r; frames = frames } in
    let one : List Timed = moved_on f.ahead (x ∷ []) in
    let written' = written ++ one in
    let m : IsMessage x.event = is_message x.event (past_of events) finds.0 in
    let ends : EndsAt (events ++ x ∷ []) (length bytes) = ends_at events x (length bytes) m at in
    let none : rest ≡ 0 = whole_leaves_none bytes (events ++ x ∷ []) rest shown ends in
    let now : Shows bytes (events ++ x ∷ []) 0 = subst (λ (n : ℕ). Shows bytes (events ++ x ∷ []) n) none shown in
    let past : past_of written' ≡ x.event ∷ past_of written = past_both written one in
    let middle_is : past_of middle ≡ reverse (put_in setting.first setting.rotated entry r) = ap reverse (adds.0).2 in
    let all_is : past_of (written' ++ moved_on (length woven) middle) ≡ added setting (past_of events) x.event (Some r) (past_of written) =
    past_both written' (moved_on (length woven) middle) ∙ ap (λ es. es ++ past_of written') (past_moved (length woven) middle ∙ middle_is)
    ∙ ap (λ es. reverse (put_in setting.first setting.rotated entry r) ++ es) past in
    record {
      events = events ++ x ∷ [];
      written = written' ++ moved_on (length woven) middle;
      puts = put ∷ puts;
      decoded = decoded;
      carries = subst (λ a. C a (past_of (written' ++ moved_on (length woven) middle))) (sym (past_both events (x ∷ [])))
          (subst (C (x.event ∷ past_of events)) (sym all_is) carries);
      follows = follows_put between bytes (events ++ x ∷ []) woven written' frames middle (follows_event bytes events x woven written f) now ends
          (subst EndsWhole (sym past) (ends_message x.event (past_of written) m))
          (subst EndsWhole (sym middle_is) (ends_whole setting.first setting.rotated entry r)) (adds.0).1;
      puts_are = puts_more setting events x (Some r) puts (put ∷ puts) puts_are finds (put, record { offset_is = refl; recovery_is = refl; frames_are = adds.0 }, refl);
      weaves = weaves_put bytes puts woven put (sym at) weaves;
      told = (text, line, told, adds.1, refl);
    }

stands_heard : FramesArePutIn → (new : Decoder) (keeper : Keeper) (setting : Setting) (bytes woven text frames line : List ℕ) (x : Timed)
    (events written : List Timed) (puts : List Put) (rest : ℕ) (found : Option Recovery)
    → Decoded new bytes (events ++ x ∷ []) → Shows bytes (events ++ x ∷ []) rest → x.offset + 1 ≡ length bytes
    → (f : Follows bytes events woven written) → PutsAll setting (reverse events) puts
    → Weaves bytes puts woven → TellsPuts puts text → RecoversAt setting (past_of events) x.event found
    → KeepsWithPutIn keeper setting (x.event ∷ past_of events) (added setting (past_of events) x.event found (past_of written))
    → Adds setting (x.event ∷ past_of events) x.offset found frames line
    → StandsForStream new keeper setting bytes (woven ++ frames) (text ++ line)
stands_heard between new keeper setting bytes woven text frames line x events written puts rest None decoded shown at f puts_are weaves told finds carries adds =
    let S : List ℕ → List ℕ → Type 0 = λ a b. StandsForStream new keeper setting bytes (woven ++ a) (text ++ b) in
    let here : S [] [] = rw (append-nil woven, append-nil text) (stands_unchanged new keeper setting bytes woven text x events written puts decoded f puts_are weaves told finds carries) in
    subst (λ a. S a line) (sym adds.0) (subst (S []) (sym adds.1) here)
stands_heard between new keeper setting bytes woven text frames line x events written puts rest (Some r) decoded shown at f puts_are weaves told finds carries adds =
    stands_put between new keeper setting bytes woven text frames line x r events written puts rest decoded shown at f puts_are weaves told finds carries adds

-- One more event came, at the last of these bytes.
pub stands_event : FramesArePutIn → (old new : Decoder) (keeper keeper' : Keeper) (setting : Setting) (start offset count rest : ℕ) (event : Event)
    (bytes woven text chunk frames line : List ℕ)
    → 0 < count → count ≤ length chunk → offset ≡ start + (count - 1) → length bytes ≡ start
    → TakesUpTo old chunk count event new
    → ((bs : List ℕ) (es : List Timed) → Decoded new bs es → Shows bs es rest)
    → ((past written : List Event) → KeepsWithPutIn keeper setting past written → TakesEvent keeper' setting past written offset event frames line)
    → StandsForStream old keeper setting bytes woven text
    → StandsForStream new keeper' setting (bytes ++ take count chunk) (woven ++ take count chunk ++ frames) (text ++ line)
stands_event between old new keeper keeper' setting start offset count rest event bytes woven text chunk frames line some low offset_is at takes concludes hears s =
    let more = take count chunk in
    let x : Timed = record { offset = offset; event = event } in
    let h = hears (past_of s.events) (past_of s.written) s.carries in
    let offset_of : length bytes + (count - 1) ≡ offset = ap (λ (n : ℕ). n + (count - 1)) at ∙ sym offset_is in
    let D : ℕ → Type 0 = λ n. Decoded new (bytes ++ more) (s.events ++ record { offset = n; event = event } ∷ []) in
    let decoded : D offset = subst D offset_of (takes bytes s.events s.decoded) in
    let long : length (bytes ++ more) ≡ length bytes + count = length-append bytes more ∙ ap (λ n. length bytes + n) (length-take-le count chunk low) in
    stands_heard between new keeper' setting (bytes ++ more) (woven ++ more) text frames line x s.events s.written s.puts rest h.found decoded
    (concludes (bytes ++ more) (s.events ++ x ∷ []) decoded) (omega (arith, long, offset_of, some))
    (follows_none bytes more s.events woven s.written s.follows) s.puts_are (weaves_more bytes s.puts woven more s.weaves) s.told h.finds h.carries h.adds

-- Memory ran out for the event that came at the last of these bytes.
pub refuses_event : (old new : Decoder) (keeper : Keeper) (setting : Setting) (count rest rest_then : ℕ) (event : Event) (bytes woven text chunk : List ℕ)
    → 0 < count → count ≤ length chunk → TakesUpTo old chunk count event new
    → ((bs : List ℕ) (es : List Timed) → Decoded old bs es → Shows bs es rest)
    → ((bs : List ℕ) (es : List Timed) → Decoded new bs es → Shows bs es rest_then)
    → ((past written : List Event) → KeepsWithPutIn keeper setting past written → ShowsAnother setting past event)
    → StandsForStream old keeper setting bytes woven text → RefusesNext setting bytes chunk
refuses_event old new keeper setting count rest rest_then event bytes woven text chunk some low takes before concludes another s =
    let next = take count chunk in
    let x : Timed = record { offset = length bytes + (count - 1); event = event } in
    record {
      events = s.events;
      rest = rest;
      next = next;
      later = drop count chunk;
      refused = x;
      rest_then = rest_then;
      shown = before bytes s.events s.decoded;
      parts = sym (take-append-drop count chunk);
      one_more = concludes (bytes ++ next) (s.events ++ x ∷ []) (takes bytes s.events s.decoded);
      at_last = omega (arith, length-append bytes next, length-take-le count chunk low, some);
      another = another (past_of s.events) (past_of s.written) s.carries;
    }

-- The line of a pair, where there was no other.
pub told_alone : (offset : ℕ) (r : Recovery) (before lines : List ℕ) → before ≡ []
    → (text : List ℕ) × TellsRecovered offset r text × (lines ≡ before ++ text) → TellsRecovered offset r lines
told_alone offset r before lines none told =
    subst (TellsRecovered offset r) (sym (told.2 ∙ ap (λ bs. bs ++ told.0) none)) told.1

-- nothing was given
pub stands_start : (decoder : Decoder) (keeper : Keeper) (setting : Setting) → Decoded decoder [] [] → Keeps keeper setting [] []
    → StandsForStream decoder keeper setting [] [] []
stands_start decoder keeper setting decoded keeps = record {
  events = [];
  written = [];
  puts = [];
  decoded = decoded;
  carries = record { keeps = keeps; alike = record { trust = refl; picture = refl; reading = refl } };
  follows = follows_start;
  puts_are = refl;
  weaves = refl;
  told = refl;
}

-- What the bytes given so far and the woven ones show.
pub recovers : (decoder : Decoder) (keeper : Keeper) (setting : Setting) (bytes woven text : List ℕ) (rest : ℕ)
    → ((bs : List ℕ) (es : List Timed) → Decoded decoder bs es → Shows bs es rest)
    → StandsForStream decoder keeper setting bytes woven text → Recovers setting bytes woven text
recovers decoder keeper setting bytes woven text rest concludes s =
    let shown : Shows bytes s.events rest = concludes bytes s.events s.decoded in
    let recoverer = s.carries.keeps.recoverer in
    record {
      events = s.events;
      rest = rest;
      puts = s.puts;
      written = s.written;
      score = keeper.recoverer.settler.score;
      waiting = recoverer.waiting;
      shows = shown;
      puts_are = s.puts_are;
      weaves = s.weaves;
      told = s.told;
      shown = rw (append-nil woven, append-nil s.written) at (s.follows.shows [] [] rest (rw (append-nil bytes, append-nil s.events) shown));
      recovers = recoverer.folds;
      game = recoverer.settles.folds;
    }
