use Rattle.std.proofs.Common.{Some, None, sym, ◌∙◌}
use Rattle.std.proofs.lemmas.Result.{on_ok_weaker}
use Rattle.board_doubts.specs.declared.heard.Heard.TheVariants.{Shows}
use Rattle.board_alarms.proofs.MaskLemmas.{hears_another, hears_none}
use Rattle.board_alarms.proofs.event_heard.tell_picture.Goals as goal

pub returns-then-not-is_another : goal.returns-then-not-is_another
returns-then-not-is_another c = λ start plies told keeps looks.
    (None, hears_none c.args.sight start plies c.args.picture.now (sym c.is_another.ensures ∙ c.if-not-is_another.true), looks)

pub returns : goal.returns
returns c = λ start plies told keeps looks.
    let heard = Some (Shows c.seen-seen.result) in
    let hears = hears_another c.args.sight start plies c.args.picture.now heard (sym c.is_another.ensures ∙ c.if-not-is_another.false) (c.seen-seen.ensures start plies keeps) in
    on_ok_weaker c.see.result (λ looks. (heard, hears, looks)) (c.see.ensures told looks)
