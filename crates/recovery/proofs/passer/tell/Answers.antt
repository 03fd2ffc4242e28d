use Rattle.std.proofs.Common.{◌∷◌, Some, None, subst, sym, ◌∙◌}
use Rattle.board_events.specs.Session.{entries_in}
use Rattle.recovery.specs.Inside.Keeping.{KeepsNext}
use Rattle.recovery.proofs.EventLemmas.{alike_event, carries_none, carries_put}
use Rattle.recovery.proofs.KeepLemmas.{legal_found}
use Rattle.recovery.proofs.PassLemmas.{told_alone}
use Rattle.recovery.proofs.passer.tell.Goals as goal

pub add_recovered-requires-clause-first : goal.add_recovered-requires-clause-first
add_recovered-requires-clause-first c =
    let told = c.requires.told in
    let next : KeepsNext c.args.keeper.now told.0 told.1 told.2 (Some c.in-Some.found) told.3 =
    subst (λ f. KeepsNext c.args.keeper.now told.0 told.1 told.2 f told.3) (sym c.found.ensures ∙ c.in-Some.is) told.4 in
    (legal_found told.0 told.1 told.2 c.in-Some.found next.finds).0

pub add_recovered-requires-clause-second : goal.add_recovered-requires-clause-second
add_recovered-requires-clause-second c =
    let told = c.requires.told in
    let next : KeepsNext c.args.keeper.now told.0 told.1 told.2 (Some c.in-Some.found) told.3 =
    subst (λ f. KeepsNext c.args.keeper.now told.0 told.1 told.2 f told.3) (sym c.found.ensures ∙ c.in-Some.is) told.4 in
    (legal_found told.0 told.1 told.2 c.in-Some.found next.finds).1

pub returns-in_default : goal.returns-in_default
returns-in_default c = λ setting past written event range alike k.
    let next : KeepsNext c.args.keeper.now setting past event None (entries_in setting written) =
    subst (λ f. KeepsNext c.args.keeper.now setting past event f (entries_in setting written)) (sym c.found.ensures ∙ c.in_default.is) k in
    record {
      found = None;
      finds = next.finds;
      carries = carries_none c.args.keeper.now setting event past written range alike next;
      adds = (c.requires.frames, c.requires.line);
    }

pub returns : goal.returns
returns c = λ setting past written event range alike k.
    let r = c.in-Some.found in
    let next : KeepsNext c.args.keeper.now setting past event (Some r) (entries_in setting written) =
    subst (λ f. KeepsNext c.args.keeper.now setting past event f (entries_in setting written)) (sym c.found.ensures ∙ c.in-Some.is) k in
    let same = (alike_event setting event past written range alike).reading in
    record {
      found = Some r;
      finds = next.finds;
      carries = carries_put c.args.keeper.now setting event past written r range alike next
          (c.put_in.ensures.read setting past event _ next.keeps next.finds (event ∷ written) same);
      adds = (
        c.put_in.ensures.shows setting past event _ next.keeps next.finds,
        told_alone c.args.offset r c.args.line.now.items c.add_recovered.new.lines.items c.requires.line c.add_recovered.ensures,
      );
    }
