use Rattle.std.proofs.Common.{ℕ, nat_lt, List, ◌∷◌, ◌++◌, refl}
use Rattle.board_cable.specs.declared.line.Event.{Event}
use Rattle.board_cable.specs.declared.line.Happening.TheVariants.{Comes}
use Rattle.board_cable.specs.Frames.{with_shown}
use Rattle.board_cable.proofs.frames.Frames.hear.Goals as goal

pub returns : goal.returns
returns c = λ before past has stands.
    let told = c.tell_all.ensures before has.events past has.last_is has.decoded stands in
    let all = before ++ c.args.bytes.now in
    let left : ℕ = c.pending-left.result in
    let now : List Event = record { at = c.args.at; what = Comes (nat_lt 0 left) } ∷ with_shown c.args.at all told.0 past in (
      now,
      (
        has.events,
        told.0,
        _,
        left,
        c.pending-rest.ensures before has.events has.decoded,
        c.pending-left.ensures all (has.events ++ told.0) told.1,
        refl,
      ),
      c.take.ensures (with_shown c.args.at all told.0 past) told.2,
      record { events = has.events ++ told.0; decoded = told.1; last_is = c.last_five-self.ensures before has.last_is },
    )
