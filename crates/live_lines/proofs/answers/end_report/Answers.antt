use Rattle.std.proofs.Common.{[], ◌++◌, ap, ◌∙◌, append-nil, append_assoc, sym}
use Rattle.answer_lines.specs.Answers.{answer_text as said_text}
use Rattle.live_lines.specs.Answers.{nothing_said}
use Rattle.live_lines.proofs.answers.end_report.Goals as goal

pub returns : goal.returns
returns c before report e =
    let said = said_text nothing_said in
    c.in_ok-add_answer.ensures.ok ∙ ap (λ text. text ++ said) e ∙ append_assoc before report said ∙ ap (λ text. before ++ (text ++ said)) (sym (append-nil report) ∙ sym (append-nil (report ++ [])) ∙ sym (append-nil ((report ++ []) ++ [])) ∙ sym (append-nil (((report ++ []) ++ []) ++ [])))
