use Rattle.std.proofs.Common.{◌&&◌, ◌||◌, not, Bool, ap, ◌∙◌}
use Rattle.board_doubts.specs.Doubts.{has_repeated}
use Rattle.board_doubts.specs.Recent.{is_restart, since_news}
use Rattle.board_doubts.proofs.doubts.Doubts.may_hide.Goals as goal

pub returns : goal.returns
returns c past keeps =
    let late : Bool = c.is_restart.result in
    let again : Bool = has_repeated past in
    c.may_be_hidden.ensures
    ∙ ap (λ r. c.has_room-has_room.result && (r || not late)) keeps.repeated
    ∙ ap (λ r. c.has_room-has_room.result && (again || not r)) (c.is_restart.ensures (since_news past) keeps.recent)
    ∙ ap (λ f. f && (again || not (is_restart (since_news past)))) (c.has_room-has_room.ensures past keeps)
