use Rattle.std.proofs.Common.{rules}
use Rattle.live_lines.proofs.recorder.Recorder.take.Goals as goal

pub returns-then-brings_capture-clause-stands : goal.returns-then-brings_capture-clause-stands
returns-then-brings_capture-clause-stands c = λ setup recovers past text s.
    c.take_capture.ensures.stands setup recovers c.args.entry past text (search rules) s
