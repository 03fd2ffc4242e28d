use Rattle.std.proofs.Common.{◌∷◌, List, Option, sym, subst, ◌∙◌}
use Rattle.chess_clock.specs.declared.times.Reading.{Reading}
use Rattle.chess_rules.specs.Valid.{Valid}
use Rattle.chess_rules.specs.Picture.{picture}
use Rattle.settle_core.specs.Entries.{Entry, entry_of}
use Rattle.chess_rules.specs.declared.parts.Parts.{Parts}
use Rattle.settle_core.specs.Folding.{moves_of}
use Rattle.settle_core.specs.Settling.{reached}
use Rattle.settle_core.specs.Settler.{HasSettled, position_of}
use Rattle.unseen_pairs.specs.declared.pair.SeenOrRecovered.TheVariants.{Recovered}
use Rattle.unseen_pairs.specs.Inside.Waiting.{IsOnlyOne}
use Rattle.unseen_pairs.specs.Recoverer.{RecovererState}
use Rattle.unseen_pairs.specs.Inside.Telling.{HasTold, IsWaiting}
use Rattle.unseen_pairs.proofs.Choosing.{recovery_of}
use Rattle.unseen_pairs.proofs.Telling.{put_in_told}
use Rattle.unseen_pairs.proofs.recoverer.Recoverer.put_in.Goals as goal

pub returns : goal.returns
returns c = λ start past written w only.
    let seen = c.args.picture.now in
    let clock = c.args.clock.now in
    let one = c.args.one.now in
    let found = one.candidate in
    let entry : Entry = entry_of seen clock in
    let old : RecovererState = record { settler = c.self.inside.settler; candidates = c.self.inside.candidates.items } in
    let new : RecovererState = record { settler = c.see-3.new.self; candidates = c.clear.new.self.items } in
    let W : RecovererState → Type 0 = λ (d : RecovererState). IsWaiting d start past written entry × IsOnlyOne (position_of d.settler) d.candidates seen one in
    let both : W old = subst W (sym c.self.view_is) (w, only) in
    let here : IsWaiting old start past written entry = both.0 in
    let valid : Valid start = subst Valid (c.start.ensures ∙ (here.settles).start_is) c.parts.ensures.valid in
    let s1 = c.in_ok-see.ensures.stands start (entry ∷ written) here.settles in
    let s2 = c.in_ok-see-2.ensures.stands start _ s1 in
    let s3 = c.in_ok-see-3.ensures.stands start _ s2 in
    let A : List _ → Option Reading → List _ → Option Reading → Option Reading → Type 0 = λ a x b y z.
    HasSettled c.see-3.new.self start (entry_of seen z ∷ entry_of b y ∷ entry_of a x ∷ entry ∷ written) in
    let t1 = subst (λ a. A a c.copy.result c.picture-2.result c.copy-2.result c.copy-3.result) c.picture.ensures.shown s3 in
    let t2 = subst (λ x. A (picture found.middle) x c.picture-2.result c.copy-2.result c.copy-3.result) c.copy.ensures t1 in
    let t3 = subst (λ b. A (picture found.middle) found.reading b c.copy-2.result c.copy-3.result) c.picture-2.ensures.shown t2 in
    let t4 = subst (λ y. A (picture found.middle) found.reading (picture found.after) y c.copy-3.result) c.copy-2.ensures t3 in
    let t5 = subst (λ z. A (picture found.middle) found.reading (picture found.after) found.reading z) c.copy-3.ensures t4 in
    let R : Option Reading → Type 0 = λ reading. HasTold new start past written entry (Recovered (record (recovery_of one) { reading = reading })) in
    let O : Parts → Type 0 = λ (q : Parts). IsOnlyOne (reached q (moves_of old.settler.score.plies)) old.candidates seen one in
    subst R (sym c.copy-4.ensures) (put_in_told old new start past written entry one valid here (subst O (here.settles).start_is both.1) t5 c.clear.ensures.items)
