use Rattle.std.proofs.Common.{◌∷◌, ℕ, List, Option, sym, ap, subst, ◌∙◌}
use Rattle.board_cable.specs.Silence.{is_silent}
use Rattle.board_cable.specs.Whose.{own_number}
use Rattle.board_cable.specs.Cable.{StandsFor}
use Rattle.board_cable.specs.declared.happened.Happened.{Happened}
use Rattle.board_cable.specs.Moments.{moment_of as cable_moment_of}
use Rattle.board_cable.specs.Turns.{Told, Turn, told}
use Rattle.board_live.specs.Coming.{silence}
use Rattle.board_live.specs.Moments.{Moment, cabled, moment_of}
use Rattle.board_live.specs.Numbers.{number_news}
use Rattle.board_live.proofs.TakeLemmas.{kept_more}
use Rattle.board_live.proofs.attending.Attending.take.Goals as goal

pub returns-clause-attends : goal.returns-clause-attends
returns-clause-attends c past attends =
    let m : Moment = moment_of c.args.happened c.args.bytes.now in
    let S : Happened → Type 0 = λ h. StandsFor c.take.new.self (cable_moment_of h c.args.bytes.now ∷ cabled past) in
    let T : Turn → Happened → Type 0 = λ turn h. Told (cable_moment_of h c.args.bytes.now ∷ cabled past) (turn ∷ attends.cable.turns) in
    let now : StandsFor c.take.new.self (cabled (m ∷ past)) = subst S c.cabled-happening.ensures (c.in_ok-answer.ensures.stands (cabled past) attends.cable) in
    record {
      cable = now;
      kept_is = c.in_ok-keep.ensures (cabled (m ∷ past)) now.turns now now.happened
          ∙ kept_more m past attends.cable.turns now.turns c.in_ok-answer.answer.handling c.sent-from_board.result.now attends.cable.happened now.happened
          (λ turn h. (c.in_ok-answer.ensures.answers (cabled past) turn attends.cable.turns attends.cable (subst (T turn) (sym c.cabled-happening.ensures) h)).handling)
          c.sent-from_board.ensures;
    }

pub returns-clause-tells : goal.returns-clause-tells
returns-clause-tells c past turn turns attends h =
    let m : Moment = moment_of c.args.happened c.args.bytes.now in
    let S : Happened → Type 0 = λ h. StandsFor c.take.new.self (cable_moment_of h c.args.bytes.now ∷ cabled past) in
    let T : Happened → Type 0 = λ h. Told (cable_moment_of h c.args.bytes.now ∷ cabled past) (turn ∷ turns) in
    let now : StandsFor c.take.new.self (cabled (m ∷ past)) = subst S c.cabled-happening.ensures (c.in_ok-answer.ensures.stands (cabled past) attends.cable) in
    let answers = c.in_ok-answer.ensures.answers (cabled past) turn turns attends.cable (subst T (sym c.cabled-happening.ensures) h) in
    record {
      request = answers.request;
      handling = answers.handling;
      number = c.number_news-number.ensures
          ∙ ap (λ (own : Option (List ℕ)). number_news c.args.happened.what own c.serial-serial.result) (c.serial-own.ensures (cabled past) turns attends.cable h.0)
          ∙ ap (λ (own : Option (List ℕ)). number_news c.args.happened.what (own_number (told turns)) own) (c.serial-serial.ensures (cabled (m ∷ past)) (turn ∷ turns) now h);
      silence = c.silence-silence.ensures
          ∙ ap (λ b. silence c.args.happened.what b c.is_silent-after.result) (c.is_silent-before.ensures (cabled past) turns attends.cable h.0)
          ∙ ap (λ b. silence c.args.happened.what (is_silent (told turns)) b) (c.is_silent-after.ensures (cabled (m ∷ past)) (turn ∷ turns) now h);
    }
