use Rattle.std.proofs.Common.{ℕ, ◌++◌, List, [], ◌∷◌, length, subst, ap, arith, OnOk}
use Rattle.dgt_frame.specs.declared.events.Message.TheVariants.{Time}
use Rattle.dgt_frame.specs.declared.events.Event.TheVariants.{Message as MessageEvent}
use Rattle.pair_frames.specs.PutIn.{ShowsWhole}
use Rattle.board_captures.proofs.showing.add_time.Goals as goal

pub returns-clause-shows : goal.returns-clause-shows
returns-clause-shows c = λ events whole.
    let S : List ℕ → Type 0 = λ xs. OnOk c.add.result (ShowsWhole c.add.new.out.items (events ++ MessageEvent (Time xs) ∷ [])) in
    subst S c.times_of.ensures.same (c.add.ensures.shows events whole)

pub returns-clause-size : goal.returns-clause-size
returns-clause-size c = c.add.ensures.size 10 (λ frame h. omega (arith, ap length h.0, h.1))
