use Rattle.std.proofs.Common.{Option, is_some, sym, ap, ◌∙◌, List, ℕ, rules}
use Prim.{search}
use Rattle.board_captures.proofs.ReadLemmas.{more_shown, same_shown}
use Rattle.board_captures.proofs.reading.Captured.take.Goals as goal

pub returns-in-Nothing : goal.returns-in-Nothing
returns-in-Nothing c = λ setting past stands.
    let event = c.args.event.now in
    let same = same_shown setting.first setting.rotated past event (c.in-Nothing.ensures.shown setting.rotated past stands.view) in
    record {
      session = search rules;
      view = search rules;
      shown = stands.shown ∙ ap (λ (o : Option (List ℕ)). is_some o) (sym same);
    }

pub returns-in-Square : goal.returns-in-Square
returns-in-Square c = λ setting past stands. record {
  session = search rules;
  view = search rules;
  shown = sym (more_shown setting.first setting.rotated past c.args.event.now c.see.result c.in-Square.is (c.see.ensures.shown setting.rotated past stands.view));
}
