use Rattle.std.proofs.Common.{◌++◌, ap, sym, ◌∙◌}
use Rattle.std.proofs.lemmas.List.{append_assoc}
use Rattle.board_times.specs.Times.{lines_of}
use Rattle.board_times.proofs.EventLemmas.{first_read}
use Rattle.board_times.proofs.laws.first_bytes_give_first_events.Goals as goal

pub returns : goal.returns
returns c text more events all n m one other =
    first_read events all (one.0 ++ more) other.0 one.3 other.3 other.4
    (sym (append_assoc (lines_of events) one.0 more) ∙ ap (λ t. t ++ more) (sym one.1) ∙ other.1)
