use Prim.{search}
use Rattle.std.proofs.Common.{rules}
use Rattle.std.proofs.Common.{◌++◌, ◌∷◌, [], length, Some}
use Rattle.dgt_frame.specs.declared.events.Event.TheVariants.{Message as MessageEvent}
use Rattle.dgt_frame.specs.Inside.Stored.{message_stored}
use Rattle.dgt_frame.proofs.StateLemmas.{answer_has_frame}
use Rattle.dgt_frame.proofs.decode.Decoder.push.Goals as goal

pub returns-in-Ends-clause-frame : goal.returns-in-Ends-clause-frame
returns-in-Ends-clause-frame c bytes events d =
    rw c.message.ensures (answer_has_frame c.step.new.self (bytes ++ c.args.byte ∷ []) events (length bytes)
    (Some (MessageEvent (message_stored c.in-Ends.id c.in-Ends.size c.step.new.self.stored))) (c.in-Ends.ensures bytes events d))

pub returns-in-Fails-clause-decoded : goal.returns-in-Fails-clause-decoded
returns-in-Fails-clause-decoded c = search rules
