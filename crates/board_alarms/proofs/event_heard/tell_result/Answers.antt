use Rattle.std.proofs.Common.{◌≢◌, Some, inr, ap}
use Rattle.std.proofs.lemmas.Result.{on_ok_weaker}
use Rattle.board_doubts.specs.declared.heard.Heard.{Heard}
use Rattle.board_alarms.proofs.event_heard.tell_result.Goals as goal

pub returns : goal.returns
returns c = λ told looks.
    let other : c.args.new ≢ c.args.old = λ e. let no = c.if-is_result.false in let t = c.is_result.ensures.1 e in absurd cc in
    on_ok_weaker c.tell.result (λ looks. (Some c.result_heard.result, inr (other, ap (λ (h : Heard). Some h) c.result_heard.ensures), looks)) (c.tell.ensures told looks)
