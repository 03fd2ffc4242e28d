-- How a game grows with an event.
use Rattle.std.proofs.Common.{◌≡◌, ◌<◌, ◌≤◌, inl, inr, Bool, true, false, if◌then◌else◌, List, [], ◌∷◌, drop, length, Option, Some, refl, sym, ap, subst, ◌∙◌, arith}
use Rattle.std.proofs.lemmas.Option.{same_Some}
use Rattle.chess_rules.specs.declared.parts.Parts.{Parts}
use Rattle.chess_rules.specs.Valid.{Valid}
use Rattle.dgt_frame.specs.declared.events.Event.{Event}
use Rattle.settle_core.specs.declared.plies.Ply.{Ply}
use Rattle.settle_core.specs.declared.plies.Seen.{Seen}
use Rattle.settle_core.specs.declared.plies.Seen.TheVariants.{Same, Moved, Sign, Replaced, Waits}
use Rattle.settle_core.specs.Entries.{Entry, deduplicated, repeats}
use Rattle.settle_core.specs.Folding.{Folds, Score, moves_of, score_after, time_of}
use Rattle.settle_core.specs.Settling.{reached}
use Rattle.settle_core.proofs.Once.{folds_once}
use Rattle.board_events.specs.Entries.{entry_at, is_entry}
use Rattle.board_events.specs.Session.{entries_in}
use Rattle.board_events.specs.Settings.{Setting}
use Rattle.board_doubts.specs.declared.heard.Ply.{Ply as HeardPly}
use Rattle.board_alarms.specs.Plies.{heard_ply}
use Rattle.board_alarms.specs.Inside.{Grows, first_of}

abbrev plies_of : Score → List Ply
plies_of score = score.plies

grows_seen : (start : Parts) (entry : Entry) (old : Score) (seen : Seen) (new : Score) → new ≡ score_after start old entry.reading seen → Grows old.plies new.plies
grows_seen start entry old (Moved m) new is =
    inr (inl (record { mv = m; clock = time_of (reached start (moves_of old.plies)).side entry.reading }, ap plies_of is))
grows_seen start entry old (Replaced m) new is =
    inr (inr (record { mv = m; clock = time_of (reached start (moves_of (drop 1 old.plies))).side entry.reading }, ap plies_of is))
grows_seen start entry old (Sign outcome) new is = inl (ap plies_of is)
grows_seen start entry old Waits new is = inl (ap plies_of is)
grows_seen start entry old Same new is = inl (ap plies_of is)

grows_another : (start : Parts) (entry : Entry) (past : List Entry) (again : Bool) (old new : Score) → Valid start → Folds start past old
    → Folds start (if again then past else entry ∷ past) new → Grows old.plies new.plies
grows_another start entry past true old new valid f g = inl (ap plies_of (folds_once start past new old valid g f))
grows_another start entry past false old new valid f g =
    let same : g.0 ≡ old = folds_once start past g.0 old valid g.2 f in
    let P : Score → Type 0 = λ s. new ≡ score_after start s entry.reading g.1 in
    grows_seen start entry old g.1 new (subst P same g.4)

grows_entry : (start : Parts) (entry : Entry) (past : List Entry) (given : Bool) (old new : Score) → Valid start → Folds start (deduplicated past) old
    → Folds start (deduplicated (if given then entry ∷ past else past)) new → Grows old.plies new.plies
grows_entry start entry past true old new valid f g = grows_another start entry (deduplicated past) (repeats entry.picture past) old new valid f g
grows_entry start entry past false old new valid f g = inl (ap plies_of (folds_once start (deduplicated past) new old valid g f))

pub grows : (setting : Setting) (past : List Event) (event : Event) (old new : Score) → Valid setting.start → Folds setting.start (deduplicated (entries_in setting past)) old
    → Folds setting.start (deduplicated (entries_in setting (event ∷ past))) new → Grows old.plies new.plies
grows setting past event old new valid f g =
    grows_entry setting.start (entry_at setting.first setting.rotated (event ∷ past)) (entries_in setting past) (is_entry event past) old new valid f g

-- There is one more ply.
pub one_more : (old new : List Ply) → Grows old new → length old < length new → (ply : Ply) × (new ≡ ply ∷ old)
one_more old new (inl e) more = let same = ap length e in absurd (omega (arith, more, same))
one_more old new (inr (inl g)) more = g
one_more [] new (inr (inr g)) more = g
one_more (p ∷ ps) new (inr (inr g)) more = let same = ap length g.1 in absurd (omega (arith, more, same))

-- There is none more.
pub same_before : (old new : List Ply) → Grows old new → length new ≤ length old → drop 1 new ≡ drop 1 old
same_before old new (inl e) none = ap (λ (ps : List Ply). drop 1 ps) e
same_before old new (inr (inl g)) none = let longer = ap length g.1 in absurd (omega (arith, none, longer))
same_before old new (inr (inr g)) none = ap (λ (ps : List Ply). drop 1 ps) g.1

-- The last one is another.
pub another_last : (old new : List Ply) → Grows old new → length new ≤ length old → (new ≡ old → ⊥)
    → (ply : Ply) × (new ≡ ply ∷ drop 1 old) × (length new ≡ length old)
another_last old new (inl e) none other = absurd (other e)
another_last old new (inr (inl g)) none other = let longer = ap length g.1 in absurd (omega (arith, none, longer))
another_last [] new (inr (inr g)) none other = let longer = ap length g.1 in absurd (omega (arith, none, longer))
another_last (p ∷ ps) new (inr (inr g)) none other = (g.0, g.1, ap length g.1)

-- No ply was made.
pub none_made : (old new : List Ply) → Grows old new → new ≡ [] → new ≡ old
none_made old new (inl e) none = e
none_made old new (inr (inl g)) none = let some = sym none ∙ g.1 in absurd cc
none_made old new (inr (inr g)) none = let some = sym none ∙ g.1 in absurd cc

pub no_ply : (start : Parts) (plies : List Ply) (heard : Option HeardPly) → ((ply : Ply) (earlier : List Ply) → plies ≡ ply ∷ earlier → heard ≡ Some (heard_ply start ply earlier))
    → ((ply : HeardPly) → heard ≡ Some ply → ⊥) → plies ≡ []
no_ply start [] heard some none = refl
no_ply start (ply ∷ earlier) heard some none = absurd (none (heard_ply start ply earlier) (some ply earlier refl))

pub same_head : (p q : Ply) (ps qs : List Ply) → p ∷ ps ≡ q ∷ qs → p ≡ q
same_head p q ps qs e = same_Some p q (ap first_of e)
