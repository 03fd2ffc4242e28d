use Rattle.std.proofs.Common.{inl, inr, refl, subst, sym}
use Rattle.settle_core.specs.Folding.{moves_of}
use Rattle.settle_core.specs.Settler.{SettlerState}
use Rattle.unseen_pairs.specs.Pairs.{IsExplained}
use Rattle.std.proofs.lemmas.Bool.{iff_false}
use Rattle.board_captures.specs.Reading.{setting_of}
use Rattle.going_back.proofs.Pairs.{pair_of, pair_shown}
use Rattle.going_back.proofs.going.compare.Goals as goal

pub returns-then-not-stand_alike-clause-spoils : goal.returns-then-not-stand_alike-clause-spoils
returns-then-not-stand_alike-clause-spoils c = λ past stands last.
    let setting = setting_of c.args.method.now in
    let (events, read, made) = c.in-Ok.ensures.read in
    inr (inr (record {
      events = events;
      read = read;
      settler = c.settler.result.now;
      settled = c.settler.ensures.stands setting events made.session;
      why = inr (refl, inl (λ alike. iff_false (c.stand_alike.ensures setting past events stands made last) c.if-not-stand_alike.true alike));
    }))

pub returns-in-Ok-true-clause-spoils : goal.returns-in-Ok-true-clause-spoils
returns-in-Ok-true-clause-spoils c = λ past stands last.
    let setting = setting_of c.args.method.now in
    let (events, read, made) = c.in-Ok.ensures.read in
    let settled = c.settler.ensures.stands setting events made.session in
    let pair = c.in-Ok-true.ensures.0 c.in-Ok-true.field-0-test in
    let E : SettlerState → Type 0 = λ s. IsExplained s.start (moves_of s.score.plies) c.args.picture.now in
    inr (inr (record {
      events = events;
      read = read;
      settler = c.settler.result.now;
      settled = settled;
      why = inr (refl, inr (pair.0, pair_shown setting past c.settler.result.now c.args.picture.now settled.start_is last (subst E (sym c.settler.ensures.same) pair.1)));
    }))

pub returns-in-Ok-false-clause-gives : goal.returns-in-Ok-false-clause-gives
returns-in-Ok-false-clause-gives c = λ past stands last.
    let setting = setting_of c.args.method.now in
    let (events, read, made) = c.in-Ok.ensures.read in
    let settled = c.settler.ensures.stands setting events made.session in
    let E : SettlerState → Type 0 = λ s. IsExplained s.start (moves_of s.score.plies) c.args.picture.now in
    record {
      events = events;
      read = read;
      settler = c.settler.result.now;
      settled = settled;
      front = c.in-Ok-judge.ensures.ok.0;
      sign = c.in-Ok-judge.ensures.ok.1;
      board = (c.stand_alike.ensures setting past events stands made last).0 c.if-not-stand_alike.false;
      no_pair = λ recovers shows. iff_false c.in-Ok-false.ensures c.in-Ok-false.field-0-test
          (recovers, subst E c.settler.ensures.same (pair_of setting past c.settler.result.now c.args.picture.now settled.start_is last shows));
    }
