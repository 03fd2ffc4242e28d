use Rattle.std.proofs.Common.{◌≡◌, ◌≢◌, List, sym, ap, subst, ◌∙◌}
use Rattle.std.proofs.lemmas.Bool.{both_ways}
use Rattle.chess_rules.specs.declared.parts.Parts.{Parts}
use Rattle.chess_rules.specs.Valid.{Valid}
use Rattle.chess_rules.specs.Picture.{picture}
use Rattle.settle_core.specs.Entries.{Entry, deduplicated, entry_of}
use Rattle.settle_core.specs.Masks.{IsDiff}
use Rattle.settle_core.proofs.Once.{folds_played}
use Rattle.settle_core.proofs.Stages.{valid_reached}
use Rattle.settle_core.specs.declared.plies.Seen.TheVariants.{Waits}
use Rattle.settle_core.specs.Settling.{Played, reached}
use Rattle.settle_core.specs.Folding.{SeenAs, moves_of}
use Rattle.unseen_pairs.specs.declared.confirming.Candidate.{Candidate}
use Rattle.unseen_pairs.specs.declared.confirming.Confirmed.{Confirmed}
use Rattle.unseen_pairs.specs.Inside.Waiting.{AreAllAdded, AreKept, IsOnlyOne}
use Rattle.settle_core.specs.Settler.{position_of}
use Rattle.unseen_pairs.specs.Recoverer.{RecovererState}
use Rattle.unseen_pairs.specs.Inside.Telling.{IsWaiting}
use Rattle.unseen_pairs.proofs.Aging.{lists_next}
use Rattle.unseen_pairs.proofs.Counting.{none_differ, one_picture, squares}
use Rattle.unseen_pairs.proofs.Telling.{own_told, other_told}
use Rattle.unseen_pairs.proofs.recoverer.Recoverer.keep.Goals as goal

pub returns-then-agrees : goal.returns-then-agrees
returns-then-agrees c = λ start past written w none.
    let seen = c.args.picture.now in
    let entry : Entry = entry_of seen c.args.clock.now in
    let old : RecovererState = record { settler = c.self.inside.settler; candidates = c.self.inside.candidates.items } in
    let W : RecovererState → Type 0 = λ (d : RecovererState). IsWaiting d start past written entry × ((one : Confirmed) → ¬ IsOnlyOne (position_of d.settler) d.candidates seen one) in
    let both : W old = subst W (sym c.self.view_is) (w, none) in
    let here : IsWaiting old start past written entry = both.0 in
    let plies = old.settler.score.plies in
    let start_is = (here.settles).start_is in
    let valid : Valid start = subst Valid (c.start.ensures ∙ start_is) c.parts.ensures.valid in
    let played = folds_played start (deduplicated written) old.settler.score here.folded in
    let p : Parts = reached start (moves_of plies) in
    let D : Parts → Type 0 = λ (q : Parts). IsDiff c.differs.result (picture (reached q (moves_of plies))) seen in
    let diff : IsDiff c.differs.result (picture p) seen = subst D start_is (c.differs.ensures seen (here.settles).last) in
    let agrees = c.agrees.ensures.none in
    let own : seen ≡ picture p =
    none_differ c.differs.result (picture p) seen (squares p (valid_reached start (moves_of plies) valid played)) c.told-picture diff (agrees.0 c.if-agrees.true) in
    let N : Parts → Type 0 = λ (q : Parts). (one : Confirmed) → ¬ IsOnlyOne (reached q (moves_of plies)) old.candidates seen one in
    own_told old c.clear.new.self.items start past written entry here (subst N start_is both.1) own c.clear.ensures.items

pub returns : goal.returns
returns c = λ start past written w none.
    let seen = c.args.picture.now in
    let entry : Entry = entry_of seen c.args.clock.now in
    let old : RecovererState = record { settler = c.self.inside.settler; candidates = c.self.inside.candidates.items } in
    let W : RecovererState → Type 0 = λ (d : RecovererState). IsWaiting d start past written entry × ((one : Confirmed) → ¬ IsOnlyOne (position_of d.settler) d.candidates seen one) in
    let both : W old = subst W (sym c.self.view_is) (w, none) in
    let here : IsWaiting old start past written entry = both.0 in
    let start_is = (here.settles).start_is in
    let valid : Valid start = subst Valid (c.start.ensures ∙ start_is) c.parts.ensures.valid in
    let plies = old.settler.score.plies in
    let D : Parts → Type 0 = λ (q : Parts). IsDiff c.differs.result (picture (reached q (moves_of plies))) seen in
    let diff : IsDiff c.differs.result (picture (reached start (moves_of plies))) seen = subst D start_is (c.differs.ensures seen (here.settles).last) in
    let agrees = c.agrees.ensures.none in
    let other : seen ≢ picture (reached start (moves_of plies)) = λ e.
    both_ways _ c.if-agrees.false (agrees.1 (one_picture c.differs.result (picture (reached start (moves_of plies))) seen c.agrees.ensures.fits diff e)) in
    let new : List Candidate = c.keep_all.new.candidates.items in
    let at : c.position.result.now ≡ reached start (moves_of plies) = c.position.ensures.reached ∙ ap (λ (q : Parts). reached q (moves_of plies)) start_is in
    let kept : AreKept (reached start (moves_of plies)) seen old.candidates new = subst (λ (q : Parts). AreKept q seen old.candidates new) at c.keep_all.ensures in
    let N : Parts → Type 0 = λ (q : Parts). (one : Confirmed) → ¬ IsOnlyOne (reached q (moves_of plies)) old.candidates seen one in
    let played = folds_played start (deduplicated written) old.settler.score here.folded in
    let P : Parts → Type 0 = λ (p : Parts). Played p (moves_of plies) in
    let S : Parts → Type 0 = λ (p : Parts). SeenAs p (moves_of plies) seen Waits in
    let A : Parts → Type 0 = λ (p : Parts). AreAllAdded p plies seen c.args.clock.now new c.add_all.new.candidates.items in
    let all : AreAllAdded start plies seen c.args.clock.now new c.add_all.new.candidates.items =
    subst A start_is (c.in_ok-add_all.ensures (here.settles).last (subst P (sym start_is) played) (subst S (sym start_is) here.waits)) in
    other_told old c.add_all.new.candidates.items start past written entry here (subst N start_is both.1) other
    (lists_next start plies here.waiting entry old.candidates new all.one c.add_all.new.candidates.items
    valid played here.waits here.candidates kept all.next all.more all.none)
