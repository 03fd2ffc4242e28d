use Rattle.std.proofs.Common.{◌≡◌, ◌∷◌, refl, sym, ap, subst, ◌∙◌}
use Rattle.board_cable.specs.Asking.{StandsFor as AskingStandsFor, request_at, with_request}
use Rattle.board_cable.specs.Whose.{handling_at}
use Rattle.board_cable.specs.Moments.{Moment, moment_of, stream}
use Rattle.board_cable.specs.Turns.{Turn, told}
use Rattle.board_cable.proofs.BackLemmas.{back_more}
use Rattle.board_cable.proofs.Once.{asking_after, tells_once}
use Rattle.board_cable.proofs.cable.Cable.take.Goals as goal

pub returns-clause-stands : goal.returns-clause-stands
returns-clause-stands c past stands =
    let tells = c.tell.ensures past (told stands.turns) stands.frames stands.asking in
    let now = tells.0 in
    let at = c.args.happened.at in
    let turn : Turn = record { moment = moment_of c.args.happened c.args.bytes.now; now = now } in
    let ensures = c.in_ok-take.ensures in
    record {
      turns = turn ∷ stands.turns;
      happened = (stands.happened, refl, tells.1);
      frames = tells.3;
      asking = subst (λ request. AskingStandsFor c.wake-request.new.self (with_request at request now)) (c.wake-request.ensures.request now tells.2)
          (c.wake-request.ensures.stands now tells.2);
      back = back_more c.args.self.now.back c.take.new.self turn stands.turns c.handling-handling.result c.serial-own.result c.sent.result.now stands.back
          (c.handling-handling.ensures now tells.2) (c.serial-own.ensures now tells.2) c.sent.ensures
          (ensures.held, ensures.aside, ensures.owner, ensures.released);
    }

pub returns-clause-answers : goal.returns-clause-answers
returns-clause-answers c past turn turns stands h =
    let asking = asking_after c.args.self.now past turns stands h.0 in
    let m = moment_of c.args.happened c.args.bytes.now in
    let tells = c.tell.ensures past (told turns) stands.frames asking in
    let same : tells.0 ≡ turn.now = tells_once m (stream past) (told turns) tells.0 turn.now tells.1 h.2 in
    let now = subst (λ events. AskingStandsFor c.tell.new.asking events) same tells.2 in
    record {
      request = c.wake-request.ensures.request turn.now now ∙ ap (λ (one : Moment). request_at one.at turn.now) (sym h.1);
      handling = c.handling-handling.ensures turn.now now ∙ ap (λ (one : Moment). handling_at one.at turn.now) (sym h.1);
    }
