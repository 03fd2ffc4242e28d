use Rattle.std.proofs.Common.{◌≡◌, ◌++◌, ◌∷◌, [], ap, rules, sym, ◌∙◌, subst}
use Rattle.std.proofs.lemmas.List.{append_assoc}
use Rattle.board_times.specs.declared.events.Event.{Event}
use Rattle.board_times.specs.Times.{AllFit, lines_of, line_of}
use Rattle.board_times.specs.Lines.{line_text}
use Rattle.board_times.proofs.EventLemmas.{fit_snoc, lines_snoc}
use Rattle.board_times.proofs.reading.read_events.Goals as goal

pub lines-preserved : goal.lines-preserved
lines-preserved c =
    let event : Event = c.in-Some.event in
    let before = c.lines.events.items in
    let rest = c.in-Some.rest.now in
    let pushed : c.push.new.self.items ≡ before ++ event ∷ [] = search rules in
    record {
      done = c.lines.invariant.done ∙ ap (λ t. lines_of before ++ t) c.in-Some.ensures.some.1
          ∙ sym (append_assoc (lines_of before) (line_text (line_of event)) rest)
          ∙ ap (λ t. t ++ rest) (sym (lines_snoc before event))
          ∙ ap (λ es. lines_of es ++ rest) (sym pushed);
      fit = subst AllFit (sym pushed) (fit_snoc before event c.lines.invariant.fit c.in-Some.ensures.some.0);
    }
