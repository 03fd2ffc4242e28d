use Rattle.dgt_replay.proofs.edit.edit_to.Goals as goal

pub returns-in-Add-clause-puts : goal.returns-in-Add-clause-puts
returns-in-Add-clause-puts g c = rw c.in-Add.is c.add_to.ensures.puts

pub returns-in-Back-clause-puts : goal.returns-in-Back-clause-puts
returns-in-Back-clause-puts g c = rw c.in-Back.is c.back_to.ensures.puts

pub returns-in-Instead-clause-puts : goal.returns-in-Instead-clause-puts
returns-in-Instead-clause-puts g c = rw c.in-Instead.is c.replace_by.ensures.puts
