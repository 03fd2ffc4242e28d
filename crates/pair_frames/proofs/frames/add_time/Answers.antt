use Rattle.std.proofs.Common.{◌≡◌, ℕ, ◌++◌, List, [], ◌∷◌, length, true, true≢false, sym, subst, ap, ◌∙◌, arith}
use Rattle.dgt_frame.specs.declared.events.Message.TheVariants.{Time}
use Rattle.dgt_frame.specs.declared.events.Event.{Event}
use Rattle.dgt_frame.specs.declared.events.Event.TheVariants.{Message as MessageEvent}
use Rattle.pair_frames.specs.PutIn.{ShowsWhole, times_of}
use Rattle.pair_frames.proofs.Reading.{time_differs}
use Rattle.pair_frames.proofs.frames.add_time.Goals as goal

pub returns-then-not-is_same-clause-shows : goal.returns-then-not-is_same-clause-shows
returns-then-not-is_same-clause-shows c = λ events whole.
    let first = c.args.first in
    let now = c.args.now.now in
    let reading = c.args.reading.now in
    let S : List ℕ → Type 0 = λ xs. ShowsWhole c.add.new.out.items (events ++ MessageEvent (Time xs) ∷ []) in
    let L : List Event → Type 0 = λ es. ShowsWhole c.add.new.out.items (events ++ es) in
    let apart : times_of first now ≡ times_of first reading → ⊥ = λ e.
    let is : c.is_same.result ≡ true = c.is_same.ensures.1 (c.times_of.ensures.same ∙ e ∙ sym c.times_of-times.ensures.same) in
    true≢false (sym is ∙ c.if-not-is_same.true) in
    subst L (sym (time_differs first now reading apart)) (subst S c.times_of-times.ensures.same (c.add.ensures.shows events whole))

pub returns-then-not-is_same-clause-size : goal.returns-then-not-is_same-clause-size
returns-then-not-is_same-clause-size c =
    let e = c.add.ensures.size 10 (λ frame h. omega (arith, ap length h.0, h.1)) in omega (arith, e)
