use Rattle.std.proofs.Common.{arith}
use Rattle.dgt_frame.specs.Decoder.{DecodedBy}
use Rattle.dgt_frame.proofs.decode.Decoder.fill.Goals as goal
use Rattle.dgt_frame.specs.declared.decode.State.TheVariants.{Filling}
use Rattle.dgt_frame.specs.Inside.Stored.{message_stored}
use Rattle.dgt_frame.proofs.StoredLemmas.{frame_stored}
use Rattle.dgt_frame.proofs.StateLemmas.{misfits_data, fills_on, ends_whole}

pub returns-then-byte-byte_limit : goal.returns-then-byte-byte_limit
returns-then-byte-byte_limit c bytes events d =
    let s : DecodedBy (Filling c.args.id c.args.size c.args.count) c.args.self.now.stored bytes events = rw c.requires.state at d.state in
    record { state = rw (c.fail.ensures.skips, c.fail.ensures.fault) (misfits_data c.args.id c.args.size c.args.count c.args.self.now.stored c.fail.new.self.stored bytes events c.args.byte c.requires.byte (omega arith) s) }

pub returns-then-count-size : goal.returns-then-count-size
returns-then-count-size c bytes events d =
    let s : DecodedBy (Filling c.args.id c.args.size c.args.count) c.args.self.now.stored bytes events = rw c.requires.state at d.state in
    record { state = fills_on c.args.id c.args.size c.args.count c.args.self.now.stored c.store.new.stored bytes events c.args.byte (omega arith) (omega arith) c.store.ensures.set (omega arith) s }

pub returns : goal.returns
returns c bytes events d =
    let s : DecodedBy (Filling c.args.id c.args.size c.args.count) c.args.self.now.stored bytes events = rw c.requires.state at d.state in
    record {
      state = ends_whole c.args.id c.args.size c.args.count c.args.self.now.stored c.store.new.stored c.store.new.stored bytes events c.args.byte (message_stored c.args.id c.args.size c.store.new.stored) (omega arith) (omega arith) c.store.ensures.set (omega arith)
          (λ high low body. frame_stored c.args.id high low c.args.size body c.store.new.stored c.store.ensures.len) s;
    }
