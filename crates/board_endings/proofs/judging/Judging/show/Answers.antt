use Rattle.std.proofs.Common.{◌∷◌, Bool, refl, subst, if◌then◌else◌}
use Rattle.game_over.specs.declared.happened.Happening.TheVariants.{Shows}
use Rattle.game_over.specs.declared.said.Said.TheVariants.{Nothing}
use Rattle.game_over.specs.Keeping.{StandsFor as EndingStands}
use Rattle.board_endings.specs.Telling.{happens}
use Rattle.board_endings.proofs.judging.Judging.show.Goals as goal

pub returns-then-show : goal.returns-then-show
returns-then-show c = λ past h.
    let event = happens c.args.at c.args.bytes (Shows c.args.shown) in
    let S : Bool → Type 0 = λ taken. EndingStands c.show.new.self (if taken then event ∷ past else past) in
    record {
      ending = subst S c.if-show.true (c.show.ensures.stands past c.args.bytes h.ending);
      end = (c.args.self.now.end, Nothing, h.end, c.show.ensures.said past c.args.bytes h.ending c.if-show.true, refl);
    }

pub returns : goal.returns
returns c = λ past h.
    let event = happens c.args.at c.args.bytes (Shows c.args.shown) in
    let S : Bool → Type 0 = λ taken. EndingStands c.show.new.self (if taken then event ∷ past else past) in
    c.take.ensures past (record { ending = subst S c.if-show.false (c.show.ensures.stands past c.args.bytes h.ending); end = h.end })
