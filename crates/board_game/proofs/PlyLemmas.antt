-- Whether the plies become others with an event.
use Rattle.std.proofs.Common.{◌≡◌, ◌≢◌, Bool, true, false, if◌then◌else◌, List, [], ◌∷◌, drop, length, Option, Some, None, IfSome, is_some, ℕ, sym, ap, subst, ◌∙◌, arith}
use Rattle.std.proofs.lemmas.Option.{same_Some}
use Rattle.chess_rules.specs.declared.parts.Parts.{Parts}
use Rattle.chess_rules.specs.Valid.{Valid}
use Rattle.dgt_frame.specs.declared.events.Event.{Event}
use Rattle.settle_core.specs.declared.plies.Ply.{Ply}
use Rattle.settle_core.specs.declared.plies.Seen.{Seen}
use Rattle.settle_core.specs.declared.plies.Seen.TheVariants.{Same, Moved, Sign, Replaced, Waits}
use Rattle.settle_core.specs.Entries.{Entry, deduplicated, repeats}
use Rattle.settle_core.specs.Folding.{Folds, Replaces, Score, SeenAs, moves_of, score_after, time_of}
use Rattle.settle_core.specs.Settler.{ReturnsSeen}
use Rattle.settle_core.specs.Settling.{reached}
use Rattle.settle_core.proofs.Once.{folds_once, folds_played, shows_once}
use Rattle.settle_core.proofs.Stages.{valid_reached}
use Rattle.board_events.specs.Entries.{entry_at, is_entry}
use Rattle.board_events.specs.History.{picture_of}
use Rattle.board_events.specs.Session.{entries_in}
use Rattle.board_events.specs.Settings.{Setting}
use Rattle.board_alarms.specs.Hearing.{AreMoved, HasMoved}
use Rattle.board_game.specs.Inside.Shown.{is_ply, moves}

abbrev plies_of : Score → List Ply
plies_of score = score.plies

abbrev first_of : List Ply → Option Ply
first_of [] = None
first_of (ply ∷ earlier) = Some ply

-- ---- another picture

same_head : (p q : Ply) (ps qs : List Ply) → p ∷ ps ≡ q ∷ qs → p ≡ q
same_head p q ps qs e = same_Some p q (ap first_of e)

one_longer : (ply : Ply) (old new : List Ply) → new ≡ ply ∷ old → new ≢ old
one_longer ply old new is same = let longer = ap length is in let long = ap length same in omega (arith, longer, long)

another_last : (start : Parts) (ply : Ply) (picture : List ℕ) (old new : List Ply) → Replaces start (moves_of old) picture ply.mv
    → new ≡ ply ∷ drop 1 old → new ≢ old
another_last start ply picture [] new replaces is same = absurd replaces
another_last start ply picture (p ∷ ps) new replaces is same = replaces.1 (ap (λ (q : Ply). q.mv) (same_head ply p ps ps (sym is ∙ same)))

moved_seen : (start : Parts) (entry : Entry) (old : Score) (seen : Seen) (new : Score) → SeenAs start (moves_of old.plies) entry.picture seen
    → new ≡ score_after start old entry.reading seen → AreMoved (is_ply seen) old.plies new.plies
moved_seen start entry old (Moved m) new shows is =
    one_longer (record { mv = m; clock = time_of (reached start (moves_of old.plies)).side entry.reading }) old.plies new.plies (ap plies_of is)
moved_seen start entry old (Replaced m) new shows is =
    another_last start (record { mv = m; clock = time_of (reached start (moves_of (drop 1 old.plies))).side entry.reading }) entry.picture old.plies new.plies shows.2 (ap plies_of is)
moved_seen start entry old (Sign outcome) new shows is = ap plies_of is
moved_seen start entry old Waits new shows is = ap plies_of is
moved_seen start entry old Same new shows is = absurd shows

-- What a picture shows after some entries.
abbrev ShowsAfter : Parts → List Entry → List ℕ → Seen → Type 0
ShowsAfter start past picture seen = (score : Score) × Folds start past score × SeenAs start (moves_of score.plies) picture seen

moved_another : (start : Parts) (entry : Entry) (past : List Entry) (again : Bool) (seen : Seen) (old new : Score) → Valid start → again ≡ false
    → ShowsAfter start past entry.picture seen → Folds start past old → Folds start (if again then past else entry ∷ past) new → AreMoved (is_ply seen) old.plies new.plies
moved_another start entry past true seen old new valid other shows f g = absurd cc
moved_another start entry past false seen old new valid other shows f g =
    let was : shows.0 ≡ old = folds_once start past shows.0 old valid shows.1 f in
    let before : g.0 ≡ old = folds_once start past g.0 old valid g.2 f in
    let S : Seen → Score → Type 0 = λ x s. SeenAs start (moves_of s.plies) entry.picture x in
    let one : SeenAs start (moves_of old.plies) entry.picture seen = subst (S seen) was shows.2 in
    let two : SeenAs start (moves_of old.plies) entry.picture g.1 = subst (S g.1) before g.3 in
    let stands = valid_reached start (moves_of old.plies) valid (folds_played start past old f) in
    let same : g.1 ≡ seen = shows_once start (moves_of old.plies) entry.picture g.1 seen stands two one in
    let P : Score → Type 0 = λ s. new ≡ score_after start s entry.reading g.1 in
    let Q : Seen → Type 0 = λ x. new ≡ score_after start old entry.reading x in
    moved_seen start entry old seen new one (subst Q same (subst P before g.4))

moved_entry : (start : Parts) (entry : Entry) (past : List Entry) (given : Bool) (seen : Seen) (old new : Score) → Valid start → given ≡ true
    → repeats entry.picture past ≡ false → ShowsAfter start (deduplicated past) entry.picture seen → Folds start (deduplicated past) old
    → Folds start (deduplicated (if given then entry ∷ past else past)) new → AreMoved (is_ply seen) old.plies new.plies
moved_entry start entry past true seen old new valid is other shows f g =
    moved_another start entry (deduplicated past) (repeats entry.picture past) seen old new valid other shows f g
moved_entry start entry past false seen old new valid is other shows f g = absurd cc

shows_after : (start : Parts) (past : List Entry) (picture : List ℕ) (seen : Seen) → repeats picture past ≡ false → ReturnsSeen start past picture seen
    → ShowsAfter start (deduplicated past) picture seen
shows_after start past picture (Moved m) other returns = returns.1
shows_after start past picture (Replaced m) other returns = returns.1
shows_after start past picture (Sign outcome) other returns = returns.1
shows_after start past picture Waits other returns = returns.1
shows_after start past picture Same other returns = absurd cc

-- With another picture they do if a ply was seen.
pub moved : (setting : Setting) (past : List Event) (event : Event) (seen : Option Seen) → Valid setting.start → is_entry event past ≡ true
    → repeats (picture_of setting.rotated (event ∷ past)) (entries_in setting past) ≡ false → is_some seen ≡ is_entry event past
    → IfSome seen (ReturnsSeen setting.start (entries_in setting past) (picture_of setting.rotated (event ∷ past))) → HasMoved setting past event (moves seen)
moved setting past event None valid entry other is returns = absurd cc
moved setting past event (Some seen) valid entry other is returns = λ old new f g.
    moved_entry setting.start (entry_at setting.first setting.rotated (event ∷ past)) (entries_in setting past) (is_entry event past) seen old new valid entry other
    (shows_after setting.start (entries_in setting past) (picture_of setting.rotated (event ∷ past)) seen other returns) f g

-- ---- no other picture

none_given : (start : Parts) (entry : Entry) (past : List Entry) (given : Bool) (old new : Score) → Valid start → given ≡ false → Folds start (deduplicated past) old
    → Folds start (deduplicated (if given then entry ∷ past else past)) new → new ≡ old
none_given start entry past true old new valid none f g = absurd cc
none_given start entry past false old new valid none f g = folds_once start (deduplicated past) new old valid g f

given_again : (start : Parts) (entry : Entry) (past : List Entry) (again : Bool) (old new : Score) → Valid start → again ≡ true → Folds start past old
    → Folds start (if again then past else entry ∷ past) new → new ≡ old
given_again start entry past true old new valid is f g = folds_once start past new old valid g f
given_again start entry past false old new valid is f g = absurd cc

repeated : (start : Parts) (entry : Entry) (past : List Entry) (given : Bool) (old new : Score) → Valid start → given ≡ true → repeats entry.picture past ≡ true
    → Folds start (deduplicated past) old → Folds start (deduplicated (if given then entry ∷ past else past)) new → new ≡ old
repeated start entry past true old new valid is again f g = given_again start entry (deduplicated past) (repeats entry.picture past) old new valid again f g
repeated start entry past false old new valid is again f g = absurd cc

-- Without a picture they stay.
pub stays_unseen : (setting : Setting) (past : List Event) (event : Event) → Valid setting.start → is_entry event past ≡ false → HasMoved setting past event false
stays_unseen setting past event valid none old new f g =
    ap plies_of (none_given setting.start (entry_at setting.first setting.rotated (event ∷ past)) (entries_in setting past) (is_entry event past) old new valid none f g)

-- With the last one again they do.
pub stays_again : (setting : Setting) (past : List Event) (event : Event) → Valid setting.start → is_entry event past ≡ true
    → repeats (picture_of setting.rotated (event ∷ past)) (entries_in setting past) ≡ true → HasMoved setting past event false
stays_again setting past event valid is again old new f g =
    ap plies_of (repeated setting.start (entry_at setting.first setting.rotated (event ∷ past)) (entries_in setting past) (is_entry event past) old new valid is again f g)
