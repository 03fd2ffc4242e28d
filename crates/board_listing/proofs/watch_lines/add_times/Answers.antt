use Rattle.std.proofs.Common.{◌++◌, ◌∙◌, codes, ap, append_assoc}
use Rattle.board_listing.specs.GameLines.{time_text}
use Rattle.board_listing.proofs.watch_lines.add_times.Goals as goal

pub returns-in-Some-clause-items : goal.returns-in-Some-clause-items
returns-in-Some-clause-items c =
    let lines = c.args.lines.now.items in
    let white = time_text c.in-Some.reading.white in
    let black = time_text c.in-Some.reading.black in
    rw c.in-Some.is (c.add_time-in-Some.ensures.items ∙ ap (λ text. text ++ black) (c.add.ensures.items ∙ ap (λ text. text ++ codes " ") c.add_time.ensures.items
    ∙ append_assoc lines white (codes " ")) ∙ append_assoc lines (white ++ codes " ") black)
