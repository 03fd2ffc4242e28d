use Rattle.std.proofs.Common.{◌≡◌, true, false, sym, ◌∙◌}
use Rattle.std.proofs.KnownBytes.{Appends-nil, Keeps-refl}
use Rattle.board_events.specs.Commands.{past_of}
use Rattle.board_events.specs.History.{is_fault}
use Rattle.board_session.proofs.HearLemmas.{fault_taken, kept_more}
use Rattle.board_session.proofs.recorder.Recorder.take_event.Goals as goal

pub returns-in_default-clause-taken : goal.returns-in_default-clause-taken
returns-in_default-clause-taken g c = λ setting taken offset kept. (
  record { session = rw c.in_default.ensures.refused kept.session; messages = kept.messages; faults = kept.faults },
  Keeps-refl _,
  c.in_default.ensures.memory setting (past_of taken) kept.session,
)

pub returns-else-taken-clause-taken : goal.returns-else-taken-clause-taken
returns-else-taken-clause-taken g c = λ setting taken offset kept.
    let tells = c.in-Ok.ensures.tells setting (past_of taken) kept.session in
    let stands = c.in-Ok.ensures.stands setting (past_of taken) kept.session in
    let quiet : is_fault c.args.event.now ≡ false = sym tells.asks ∙ c.if-taken.false in (
      kept_more c.args.self.now c.count.new.self setting taken offset c.args.event.now kept (rw c.count.ensures.session stands) c.count.ensures.messages c.count.ensures.faults,
      rw quiet (Appends-nil _),
    )

pub returns-then-taken-clause-taken : goal.returns-then-taken-clause-taken
returns-then-taken-clause-taken g c = λ setting taken offset kept.
    let tells = c.in-Ok.ensures.tells setting (past_of taken) kept.session in
    let stands = c.in-Ok.ensures.stands setting (past_of taken) kept.session in
    let fault : is_fault c.args.event.now ≡ true = sym tells.asks ∙ c.if-taken.true in
    fault_taken c.count.new.self setting taken offset c.args.event.now _ _ _
    (kept_more c.args.self.now c.count.new.self setting taken offset c.args.event.now kept (rw c.count.ensures.session stands) c.count.ensures.messages c.count.ensures.faults)
    fault c.send.ensures.cause c.send.ensures.ok c.send.ensures.part
