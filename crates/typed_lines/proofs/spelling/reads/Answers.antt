use Rattle.typed_lines.proofs.spelling.reads.Goals as goal

pub returns-in-Written : goal.returns-in-Written
returns-in-Written c = rw c.in-Written.is c.is_written.ensures

pub returns-in-Meant : goal.returns-in-Meant
returns-in-Meant c = rw c.in-Meant.is c.is_meant.ensures
