use Rattle.std.proofs.Common.{◌∙◌, sym, rules}
use Rattle.watched_streams.proofs.ResultLemmas.{at_ok}
use Prim.{search}
use Rattle.board_captures.specs.Reading.{setting_of}
use Rattle.board_captures.proofs.reading.read_bytes.Goals as goal

pub returns-clause-read : goal.returns-clause-read
returns-clause-read c =
    let setting = setting_of c.args.method.now in
    let done = at_ok _ c.take_bytes.result (sym c.is_err.ensures.value ∙ c.if-is_err.false) (c.take_bytes.ensures setting c.new-captured.ensures) in
    (done.0, done.1, search rules, done.2)
