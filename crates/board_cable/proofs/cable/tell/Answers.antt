use Rattle.std.proofs.Common.{◌≡◌, ℕ, Bool, true, List, [], ◌++◌, sym, subst, ◌∙◌}
use Rattle.std.specs.Prelude.{if◌then◌else◌}
use Rattle.board_cable.specs.Frames.{HasFrames}
use Rattle.board_cable.specs.Moments.{is_anew, is_heard, moment_of, stream}
use Rattle.board_cable.specs.Turns.{TellsAs}
use Rattle.board_cable.proofs.cable.tell.Goals as goal

pub returns-then-is_heard : goal.returns-then-is_heard
returns-then-is_heard c past before has stands =
    let told = c.hear.ensures (stream past) before has stands in
    let m = moment_of c.args.happened c.args.bytes.now in
    let heard : is_heard c.args.happened.what ≡ true = sym c.is_heard.ensures ∙ c.if-is_heard.true in
    let bytes = stream past ++ c.args.bytes.now in
    let other : List ℕ = if is_anew c.args.happened.what then [] else stream past in (
      told.0,
      subst (λ b. TellsAs b m (stream past) before told.0) (sym heard) told.1,
      told.2,
      subst (λ (b : Bool). HasFrames c.hear.new.self (if b then bytes else other)) (sym heard) told.3,
    )
