use Rattle.std.proofs.Common.{false, refl, ap, ◌∙◌, sym}
use Rattle.game_over.specs.declared.happened.Happening.TheVariants.{Differs}
use Rattle.game_over.specs.Moves.{showed_by}
use Rattle.game_over.specs.Over.{happens}
use Rattle.game_over.proofs.Quiet.{IsQuiet, another_quiet, has_played_quiet, over_quiet, played_quiet}
use Rattle.game_over.proofs.ending.Ending.differ.Goals as goal

pub returns-clause-stands : goal.returns-clause-stands
returns-clause-stands c past bytes h =
    let event = happens c.args.at bytes Differs in
    let quiet : IsQuiet event past = record { ends = refl; reopened = refl; start = refl; counted = refl; out = refl } in
    record {
      moves = record {
        last_is = c.show.ensures.last ∙ ap (showed_by false c.args.at) h.moves.last_is;
        earlier_are = ap (λ v. v.items) c.show.ensures.earlier ∙ h.moves.earlier_are;
        places_are = ap (λ v. v.items) c.show.ensures.places ∙ h.moves.places_are;
      };
      again = c.again_at-self.ensures past h;
      left = refl;
      given_is = h.given_is;
      over_is = h.over_is ∙ sym (over_quiet event past quiet);
      begun = h.begun;
      front_is = h.front_is;
      played_is = h.played_is ∙ sym (played_quiet event past quiet);
      has_played_is = h.has_played_is ∙ sym (has_played_quiet event past quiet);
      another = h.another ∙ sym (another_quiet event past quiet);
    }
