-- Where nothing is put in.
use Rattle.std.proofs.Common.{◌≡◌, ℕ, Bool, true, false, List, [], ◌∷◌, map, reverse, Option, Some, None, refl, sym, ap, subst, ◌∙◌}
use Rattle.std.proofs.lemmas.Bool.{cond-true, cond-false}
use Rattle.settle_core.proofs.Lines.{map-reverse}
use Rattle.dgt_frame.specs.declared.events.Event.{Event}
use Rattle.dgt_frame.specs.Streams.{Shows, Timed}
use Rattle.chess_rules.specs.declared.parts.Parts.{Parts}
use Rattle.settle_core.specs.Entries.{Entry, deduplicated, repeats}
use Rattle.unseen_pairs.specs.declared.pair.Recovery.{Recovery}
use Rattle.unseen_pairs.specs.HandsAtRest.{HandsAtRestConfirmNone}
use Rattle.unseen_pairs.specs.Laws.{ConfirmNone}
use Rattle.board_events.specs.Commands.{past_of}
use Rattle.board_events.specs.Entries.{entry_at, is_entry}
use Rattle.board_events.specs.Settings.{Setting}
use Rattle.board_events.specs.Session.{entries_in}
use Rattle.recovery.specs.Keeping.{RecoversAt}
use Rattle.recovery.specs.Laws.{HonestHandsKeepTheirBytes, LeavesAlone}
use Rattle.recovery.specs.Weaving.{Put, Puts, PutsAll, TellsPuts, Weaves}

-- A stream shows one list of events.
abbrev pub ShowsOnce : Type 0
ShowsOnce = (bytes : List ℕ) (events others : List Timed) (rest other : ℕ) → Shows bytes events rest → Shows bytes others other → (events ≡ others) × (rest ≡ other)

-- One entry less confirms none either.
confirm_before : (start : Parts) (entry : Entry) (past : List Entry) (again : Bool) → repeats entry.picture past ≡ again → ConfirmNone start (deduplicated (entry ∷ past)) → ConfirmNone start (deduplicated past)
confirm_before start entry past true e none =
    subst (ConfirmNone start) (cond-true (repeats entry.picture past) (deduplicated past) (entry ∷ deduplicated past) e) none
confirm_before start entry past false e none =
    let here : ConfirmNone start (entry ∷ deduplicated past) = subst (ConfirmNone start) (cond-false (repeats entry.picture past) (deduplicated past) (entry ∷ deduplicated past) e) none in
    here.0

none_before : (setting : Setting) (event : Event) (past : List Event) (entered : Bool) → is_entry event past ≡ entered
    → ConfirmNone setting.start (deduplicated (entries_in setting (event ∷ past))) → ConfirmNone setting.start (deduplicated (entries_in setting past))
none_before setting event past true e none =
    let entry = entry_at setting.first setting.rotated (event ∷ past) in
    let old = entries_in setting past in
    let more : entries_in setting (event ∷ past) ≡ entry ∷ old = cond-true (is_entry event past) (entry ∷ old) old e in
    confirm_before setting.start entry old (repeats entry.picture old) refl (subst (λ (es : List Entry). ConfirmNone setting.start (deduplicated es)) more none)
none_before setting event past false e none =
    let entry = entry_at setting.first setting.rotated (event ∷ past) in
    let old = entries_in setting past in
    let same : entries_in setting (event ∷ past) ≡ old = cond-false (is_entry event past) (entry ∷ old) old e in
    subst (λ (es : List Entry). ConfirmNone setting.start (deduplicated es)) same none

-- So nothing is recovered at it.
none_found : (setting : Setting) (event : Event) (past : List Event) (r : Recovery) → ConfirmNone setting.start (deduplicated (entries_in setting (event ∷ past)))
    → ¬ RecoversAt setting past event (Some r)
none_found setting event past r none finds =
    let entry = entry_at setting.first setting.rotated (event ∷ past) in
    let old = entries_in setting past in
    let more : entries_in setting (event ∷ past) ≡ entry ∷ old = cond-true (is_entry event past) (entry ∷ old) old finds.0 in
    let told = finds.1 in
    let new : deduplicated (entry ∷ old) ≡ entry ∷ deduplicated old = cond-false (repeats entry.picture old) (deduplicated old) (entry ∷ deduplicated old) told.0 in
    let here : ConfirmNone setting.start (entry ∷ deduplicated old) =
    subst (ConfirmNone setting.start) new (subst (λ (es : List Entry). ConfirmNone setting.start (deduplicated es)) more none) in
    here.1 told.1.0 told.1.1 r told.1.2 told.1.3

found_none : (setting : Setting) (x : Timed) (past : List Timed) (before puts : List Put) (found : Option Recovery)
    → ConfirmNone setting.start (deduplicated (entries_in setting (x.event ∷ map (λ (t : Timed). t.event) past))) → before ≡ []
    → RecoversAt setting (map (λ (t : Timed). t.event) past) x.event found → Puts setting (x.event ∷ map (λ (t : Timed). t.event) past) x.offset found before puts → puts ≡ []
found_none setting x past before puts None none empty finds put = put ∙ empty
found_none setting x past before puts (Some r) none empty finds put = absurd (none_found setting x.event (map (λ (t : Timed). t.event) past) r none finds)

put_none : (setting : Setting) (events : List Timed) (puts : List Put) → ConfirmNone setting.start (deduplicated (entries_in setting (map (λ (t : Timed). t.event) events)))
    → PutsAll setting events puts → puts ≡ []
put_none setting [] puts none all = all
put_none setting (x ∷ past) puts none all =
    let events = map (λ (t : Timed). t.event) past in
    let earlier = put_none setting past all.0 (none_before setting x.event events (is_entry x.event events) refl none) all.2 in
    found_none setting x past all.0 puts all.1 none earlier all.3 all.4

woven_none : (bytes woven text : List ℕ) (puts : List Put) → puts ≡ [] → Weaves bytes puts woven → TellsPuts puts text → (woven ≡ bytes) × (text ≡ [])
woven_none bytes woven text puts none weaves told = (
  (let W : List Put → Type 0 = λ ps. Weaves bytes ps woven in let w : W [] = subst W none weaves in w),
  (let T : List Put → Type 0 = λ ps. TellsPuts ps text in let t : T [] = subst T none told in t),
)

pub leaves_alone : ShowsOnce → LeavesAlone
leaves_alone once setting bytes woven text events rest shows none r =
    let same : events ≡ r.events = (once bytes events r.events rest r.rest shows r.shows).0 in
    let past_is : past_of r.events ≡ map (λ (t : Timed). t.event) (reverse r.events) = sym (map-reverse (λ (t : Timed). t.event) r.events) in
    let C : List Event → Type 0 = λ es. ConfirmNone setting.start (deduplicated (entries_in setting es)) in
    let here : C (map (λ (t : Timed). t.event) (reverse r.events)) = subst C (ap past_of same ∙ past_is) none in
    woven_none bytes woven text r.puts (put_none setting (reverse r.events) r.puts here r.puts_are) r.weaves r.told

pub hands_keep_bytes : ShowsOnce → HandsAtRestConfirmNone → HonestHandsKeepTheirBytes
hands_keep_bytes once none setting moves turns rested first rest bytes woven text events left v l h a e shows is r =
    let C : List Entry → Type 0 = λ es. ConfirmNone setting.start (deduplicated es) in
    leaves_alone once setting bytes woven text events left shows (subst C (sym is) (none setting.start moves turns rested first rest v l h a e)) r
