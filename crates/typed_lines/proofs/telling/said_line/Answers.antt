use Rattle.typed_lines.proofs.telling.said_line.Goals as goal

pub returns-in-Misnumbered : goal.returns-in-Misnumbered
returns-in-Misnumbered c = rw c.in-Misnumbered.is c.word_line-in-Misnumbered.ensures
