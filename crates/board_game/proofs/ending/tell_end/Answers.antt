use Rattle.std.proofs.Common.{◌∷◌, ℕ, Bool, subst, sym}
use Rattle.std.specs.Result.{OnOk}
use Rattle.board_endings.specs.Items.{Sent, events_of}
use Rattle.board_endings.specs.Keeping.{IsShown, StandsFor}
use Rattle.board_game.proofs.EndLemmas.{seen_is}
use Rattle.board_game.proofs.ending.tell_end.Goals as goal

pub returns : goal.returns
returns c = λ setting items event valid h seen shown taken outcome.
    let past = events_of items in
    let last = c.last.ensures setting (event ∷ past) seen in
    let S : Bool → Type 0 = λ another. IsShown setting past event another c.last.result.now in
    let B : ℕ → Type 0 = λ bytes. OnOk c.take.result (StandsFor c.take.new.self setting (Sent c.args.chunk.when.at c.args.chunk.when.is_added bytes event ∷ items)) in
    subst B c.bytes_with-bytes.ensures (c.take.ensures setting items event h (subst S (sym c.sight.ensures.another) (seen_is setting past event c.args.shown c.last.result.now last shown))
    (c.sight.ensures.moved setting past event valid shown) taken outcome)
