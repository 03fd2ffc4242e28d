use Rattle.std.proofs.Common.{ℕ, ◌++◌, List, [], ◌∷◌, sym, subst, ap, ◌∙◌}
use Rattle.std.proofs.lemmas.Result.{on_ok_weaker}
use Rattle.dgt_frame.specs.declared.events.Event.TheVariants.{Message as MessageEvent}
use Rattle.pair_frames.specs.PutIn.{ShowsWhole}
use Rattle.pair_frames.proofs.Joining.{frame_added}
use Rattle.board_captures.proofs.showing.add.Goals as goal

pub returns-clause-shows : goal.returns-clause-shows
returns-clause-shows c = λ events whole.
    let front = c.args.out.now.items in
    let S : List ℕ → Type 0 = λ xs. ShowsWhole xs (events ++ MessageEvent c.args.message.now ∷ []) in
    on_ok_weaker c.append.result (λ is. subst S (sym (is ∙ ap (λ (xs : List ℕ). front ++ xs) c.deref.ensures.0))
    (frame_added c.restarts_are_shown.ensures front c.encode.new.out.items c.args.message.now events c.encode.ensures whole)) c.append.ensures
