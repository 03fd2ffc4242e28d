use Rattle.std.proofs.Common.{ℕ, Option, refl, subst}
use Rattle.std.proofs.lemmas.Result.{on_ok_weaker}
use Rattle.game_over.specs.declared.happened.Happening.{Happening}
use Rattle.board_endings.specs.Keeping.{HasJudged}
use Rattle.board_endings.specs.Telling.{happening_of, with_news}
use Rattle.board_endings.proofs.endings.Endings.note.Goals as goal

pub returns : goal.returns
returns c = λ setting items h.
    let at = c.args.at in
    let J : ℕ → Option Happening → Type 0 = λ bytes what. HasJudged c.take_news.new.self (with_news at bytes what h.told) in
    let W : Option Happening → Type 0 = λ what. J c.args.self.now.bytes what in
    let B : ℕ → Type 0 = λ bytes. J bytes (happening_of c.args.news) in
    on_ok_weaker c.take_news.result (λ judged. record {
      valid = h.valid;
      told = _;
      score = h.score;
      tells = (h.told, h.tells, refl);
      folds = h.folds;
      judged = subst B h.counted (subst W c.happening.ensures judged);
      course = h.course;
      result_is = h.result_is;
      counted = h.counted;
    }) (c.take_news.ensures h.told h.judged)
