use Rattle.dgt_frame.proofs.StateLemmas.{comes_whole}
use Rattle.dgt_frame.proofs.decode.Decoder.push_into.Goals as goal

pub returns-in-Some-clause-some : goal.returns-in-Some-clause-some
returns-in-Some-clause-some c bytes events d =
    let idle = c.is_idle.ensures in
    record {
      state = comes_whole c.args.self.now.state c.args.self.now.stored bytes c.args.bytes.now events c.in-Some.size c.whole.new.event
          (idle.0 c.if-is_idle.true) c.in-Some.ensures d.state;
    }
