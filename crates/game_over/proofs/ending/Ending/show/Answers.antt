use Rattle.std.proofs.Common.{◌≡◌, ◌&&◌, ◌||◌, Bool, true, false, Some, None, if◌then◌else◌, refl, ◌∙◌, sym}
use Rattle.std.specs.Prelude.{is_some, ◌==◌}
use Rattle.game_over.specs.declared.happened.Happening.TheVariants.{Shows}
use Rattle.game_over.specs.declared.said.Why.{Why}
use Rattle.game_over.specs.declared.said.Why.TheVariants.{SetUp, Unfinished}
use Rattle.game_over.specs.Over.{happens, has_begun, pictures_at, starts_again}
use Rattle.game_over.specs.Result.{last_given}
use Rattle.game_over.proofs.Quiet.{IsQuiet, another_quiet, has_played_quiet, over_quiet, played_quiet}
use Rattle.game_over.proofs.ending.Ending.show.Goals as goal

neither_one : (one other : Bool) → (one || other) ≡ false → one ≡ false
neither_one true other h = h
neither_one false other h = refl

neither_other : (one other : Bool) → (one || other) ≡ false → other ≡ false
neither_other true other h = absurd cc
neither_other false other h = h

none_ends : (starts begun : Bool) (why : Why) → starts ≡ false → (if starts && begun then Some why else None) ≡ None
none_ends true begun why h = absurd cc
none_ends false begun why h = refl

pub returns-clause-stands : goal.returns-clause-stands
returns-clause-stands c past bytes h =
    let at = c.args.at in
    let shown = c.args.shown in
    let event = happens at bytes (Shows shown) in
    let says = sym (c.may_say.ensures past h) ∙ c.if-may_say.false in
    let starts = neither_other (shown.off == 0) (starts_again at shown past) says in
    let quiet : IsQuiet event past = record {
      ends = none_ends (starts_again at shown past) (has_begun past) (if is_some (last_given past) then SetUp else Unfinished) starts;
      reopened = refl;
      start = neither_one (shown.off == 0) (starts_again at shown past) says;
      counted = refl;
      out = refl;
    } in
    record {
      moves = record { last_is = h.moves.last_is; earlier_are = h.moves.earlier_are; places_are = h.moves.places_are };
      again = c.take.ensures.stands (pictures_at at past) (c.again_at-again.ensures past h);
      left = refl;
      given_is = h.given_is;
      over_is = h.over_is ∙ sym (over_quiet event past quiet);
      begun = h.begun;
      front_is = h.front_is;
      played_is = h.played_is ∙ sym (played_quiet event past quiet);
      has_played_is = h.has_played_is ∙ sym (has_played_quiet event past quiet);
      another = h.another ∙ sym (another_quiet event past quiet);
    }
