-- The game where plies were not seen.
use Rattle.std.proofs.Common.{◌≡◌, ◌⊎◌, inl, inr, Bool, true, false, List, [], ◌∷◌, ◌++◌, reverse, refl, sym, ap, subst, ◌∙◌}
use Rattle.std.proofs.lemmas.List.{reverse-append, reverse-reverse}
use Rattle.chess_rules.specs.declared.parts.Parts.{Parts}
use Rattle.chess_rules.specs.declared.chess_move.Move.{Move}
use Rattle.chess_rules.specs.After.{after}
use Rattle.chess_rules.specs.Legal.{Legal}
use Rattle.chess_rules.specs.Picture.{picture}
use Rattle.chess_rules.specs.Valid.{Valid}
use Rattle.dgt_frame.specs.declared.events.Event.{Event}
use Rattle.settle_core.specs.declared.plies.Ply.{Ply}
use Rattle.settle_core.specs.Entries.{Entry, repeats, deduplicated}
use Rattle.settle_core.specs.Folding.{Folds, Score, moves_of, score_of}
use Rattle.settle_core.specs.Laws.{HasAnotherLastPly}
use Rattle.settle_core.specs.Settling.{position_after, reached}
use Rattle.settle_core.proofs.Lists.{position_in_order}
use Rattle.settle_core.proofs.Skipping.{three_unseen_add_nothing as three_add_nothing, two_unseen_change_nothing}
use Rattle.board_events.specs.Entries.{entry_at, is_entry}
use Rattle.board_session.specs.Laws.{ThreeUnseenAddNoMove, TwoUnseenAreNotRecorded}
use Rattle.board_events.specs.History.{picture_of}
use Rattle.board_events.specs.Settings.{Setting}
use Rattle.board_events.specs.Session.{entries_in}
use Rattle.board_session.proofs.GameLemmas.{events_tell_the_game}

-- the position that plies in their order lead to
pub reached_by : (start : Parts) (plies : List Ply) → position_after start (moves_of plies) ≡ reached start (moves_of (reverse plies))
reached_by start plies = ap (λ (ps : List Ply). position_after start (moves_of ps)) (sym (reverse-reverse plies)) ∙ position_in_order start (reverse plies)

-- an entry with the picture after two unseen plies leaves the score, counted or not
unseen_entry : (start : Parts) (entry : Entry) (past : List Entry) (before score : Score) (m reply : Move) (again : Bool) → repeats entry.picture past ≡ again
    → Valid start → Folds start (deduplicated past) before
    → Legal (reached start (moves_of before.plies)) m → Legal (after (reached start (moves_of before.plies)) m) reply
    → entry.picture ≡ picture (after (after (reached start (moves_of before.plies)) m) reply)
    → Folds start (deduplicated (entry ∷ past)) score → Folds start (deduplicated past) score
unseen_entry start entry past before score m reply true e valid h lm ln shows k =
    let same : deduplicated (entry ∷ past) ≡ deduplicated past = rw e refl in
    rw same at k
unseen_entry start entry past before score m reply false e valid h lm ln shows k =
    let more : deduplicated (entry ∷ past) ≡ entry ∷ deduplicated past = rw e refl in
    let one : score ≡ before = two_unseen_change_nothing start (deduplicated past) entry before score m reply valid h lm ln shows (rw more at k) in
    let P : Score → Type 0 = λ s. Folds start (deduplicated past) s in
    subst P (sym one) h

unseen_event : (setting : Setting) (past : List Event) (event : Event) (before score : Score) (m reply : Move) (given : Bool) → is_entry event past ≡ given
    → Valid setting.start → Folds setting.start (deduplicated (entries_in setting past)) before
    → Legal (reached setting.start (moves_of before.plies)) m → Legal (after (reached setting.start (moves_of before.plies)) m) reply
    → picture_of setting.rotated (event ∷ past) ≡ picture (after (after (reached setting.start (moves_of before.plies)) m) reply)
    → Folds setting.start (deduplicated (entries_in setting (event ∷ past))) score
    → Folds setting.start (deduplicated (entries_in setting past)) score
unseen_event setting past event before score m reply true e valid h lm ln shows k =
    let entry = entry_at setting.first setting.rotated (event ∷ past) in
    let are : entries_in setting (event ∷ past) ≡ entry ∷ entries_in setting past = rw e refl in
    unseen_entry setting.start entry (entries_in setting past) before score m reply (repeats entry.picture (entries_in setting past)) refl valid h lm ln shows (rw are at k)
unseen_event setting past event before score m reply false e valid h lm ln shows k =
    let are : entries_in setting (event ∷ past) ≡ entries_in setting past = rw e refl in
    rw are at k

pub two_unseen_are_not_recorded : TwoUnseenAreNotRecorded
two_unseen_are_not_recorded setting tags past event before game m reply valid h lm ln shows k =
    let plies : List Ply = reverse before.plies in
    let at : position_after setting.start (moves_of before.plies) ≡ reached setting.start (moves_of plies) = reached_by setting.start before.plies in
    let L : Parts → Type 0 = λ p. Legal p m in
    let R : Parts → Type 0 = λ p. Legal (after p m) reply in
    let S : Parts → Type 0 = λ p. picture_of setting.rotated (event ∷ past) ≡ picture (after (after p m) reply) in
    let folds : Folds setting.start (deduplicated (entries_in setting past)) (score_of game.plies k.sign) =
    unseen_event setting past event (score_of before.plies h.sign) (score_of game.plies k.sign) m reply (is_entry event past) refl valid h.folds
    (subst L at lm) (subst R at ln) (subst S at shows) k.folds in
    events_tell_the_game setting tags past game before valid
    (record { sign = k.sign; tags_are = k.tags_are; start_is = k.start_is; folds = folds; line = k.line; result_is = k.result_is }) h

-- an entry with the picture after three unseen plies leaves the score, or corrects its last ply
last_entry : (start : Parts) (entry : Entry) (past : List Entry) (before score : Score) (m reply next : Move) (again : Bool) → repeats entry.picture past ≡ again
    → Valid start → Folds start (deduplicated past) before
    → Legal (reached start (moves_of before.plies)) m → Legal (after (reached start (moves_of before.plies)) m) reply
    → Legal (after (after (reached start (moves_of before.plies)) m) reply) next
    → entry.picture ≡ picture (after (after (after (reached start (moves_of before.plies)) m) reply) next)
    → Folds start (deduplicated (entry ∷ past)) score → Folds start (deduplicated past) score ⊎ HasAnotherLastPly before score
last_entry start entry past before score m reply next true e valid h lm ln lx shows k =
    let same : deduplicated (entry ∷ past) ≡ deduplicated past = rw e refl in
    inl (rw same at k)
last_entry start entry past before score m reply next false e valid h lm ln lx shows k =
    let more : deduplicated (entry ∷ past) ≡ entry ∷ deduplicated past = rw e refl in
    let P : Score → Type 0 = λ s. Folds start (deduplicated past) s in
    elim (three_add_nothing start (deduplicated past) entry before score m reply next valid h lm ln lx shows (rw more at k)) [
      | inl one ↦ inl (subst P (sym one) h)
      | inr last ↦ inr last
    ]

last_event : (setting : Setting) (past : List Event) (event : Event) (before score : Score) (m reply next : Move) (given : Bool) → is_entry event past ≡ given
    → Valid setting.start → Folds setting.start (deduplicated (entries_in setting past)) before
    → Legal (reached setting.start (moves_of before.plies)) m → Legal (after (reached setting.start (moves_of before.plies)) m) reply
    → Legal (after (after (reached setting.start (moves_of before.plies)) m) reply) next
    → picture_of setting.rotated (event ∷ past) ≡ picture (after (after (after (reached setting.start (moves_of before.plies)) m) reply) next)
    → Folds setting.start (deduplicated (entries_in setting (event ∷ past))) score
    → Folds setting.start (deduplicated (entries_in setting past)) score ⊎ HasAnotherLastPly before score
last_event setting past event before score m reply next true e valid h lm ln lx shows k =
    let entry = entry_at setting.first setting.rotated (event ∷ past) in
    let are : entries_in setting (event ∷ past) ≡ entry ∷ entries_in setting past = rw e refl in
    last_entry setting.start entry (entries_in setting past) before score m reply next (repeats entry.picture (entries_in setting past)) refl valid h lm ln lx shows (rw are at k)
last_event setting past event before score m reply next false e valid h lm ln lx shows k =
    let are : entries_in setting (event ∷ past) ≡ entries_in setting past = rw e refl in
    inl (rw are at k)

-- the latest of plies, in their order
pub in_order : (plies : List Ply) (last : Ply) (earlier : List Ply) → reverse plies ≡ last ∷ earlier → plies ≡ reverse earlier ++ last ∷ []
in_order plies last earlier e = sym (reverse-reverse plies) ∙ ap reverse e ∙ reverse-append (last ∷ []) earlier

pub three_unseen_add_nothing : ThreeUnseenAddNoMove
three_unseen_add_nothing setting tags past event before game m reply next valid h lm ln lx shows k =
    let at : position_after setting.start (moves_of before.plies) ≡ reached setting.start (moves_of (reverse before.plies)) = reached_by setting.start before.plies in
    let L : Parts → Type 0 = λ p. Legal p m in
    let R : Parts → Type 0 = λ p. Legal (after p m) reply in
    let N : Parts → Type 0 = λ p. Legal (after (after p m) reply) next in
    let S : Parts → Type 0 = λ p. picture_of setting.rotated (event ∷ past) ≡ picture (after (after (after p m) reply) next) in
    elim (last_event setting past event (score_of before.plies h.sign) (score_of game.plies k.sign) m reply next (is_entry event past) refl valid h.folds
    (subst L at lm) (subst R at ln) (subst N at lx) (subst S at shows) k.folds) [
      | inl folds ↦
          inl (events_tell_the_game setting tags past game before valid
          (record { sign = k.sign; tags_are = k.tags_are; start_is = k.start_is; folds = folds; line = k.line; result_is = k.result_is }) h)
      | inr last ↦ inr (record {
        earlier = reverse last.earlier;
        old = last.old;
        new = last.new;
        was = in_order before.plies last.old last.earlier last.was;
        is = in_order game.plies last.new last.earlier last.is;
      })
    ]
