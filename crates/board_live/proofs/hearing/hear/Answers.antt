use Rattle.std.proofs.Common.{ℕ, Bool, List, ◌++◌, Option, sym, ap, subst, ◌∙◌}
use Rattle.std.proofs.lemmas.List.{append_assoc}
use Rattle.board_game.specs.Games.{StandsFor}
use Rattle.board_game.specs.History.{Came}
use Rattle.board_game.specs.declared.note.Note.{Note}
use Rattle.board_live.specs.Coming.{HasRoom, came_with, when, with_bytes, with_news}
use Rattle.board_live.specs.Moments.{already, news_of}
use Rattle.board_live.proofs.hearing.hear.Goals as goal

pub returns-clause-told : goal.returns-clause-told
returns-clause-told c = λ setting recovers past text s.
    let at = c.args.happened.at in
    let before : List Came = with_bytes (when at c.is_added.result) c.already-has.result.now (with_news at c.news_of-news.result past) in
    let one = c.in_ok-first.ensures.told setting recovers past text s in
    let two = c.in_ok-second.ensures.told setting recovers before (text ++ one.0) one.2 in
    let S : List ℕ → Type 0 = λ t. StandsFor c.give_and_tell.new.game setting recovers
    (came_with at c.news_of-news.result c.is_added.result c.already-has.result.now c.args.kept.now c.args.silence past) t in
    let all : S (text ++ (one.0 ++ two.0)) = subst S (append_assoc text one.0 two.0) (rw (sym c.lined.ensures) two.2) in
    let L : List ℕ → Type 0 = λ x. StandsFor c.give_and_tell.new.game setting recovers
    (came_with at c.news_of-news.result c.is_added.result x c.args.kept.now c.args.silence past) (text ++ (one.0 ++ two.0)) in
    let N : Option Note → Type 0 = λ news. StandsFor c.give_and_tell.new.game setting recovers
    (came_with at news c.is_added.result (already c.args.happened.what c.args.bytes.now) c.args.kept.now c.args.silence past) (text ++ (one.0 ++ two.0)) in
    let A : Bool → Type 0 = λ added. StandsFor c.give_and_tell.new.game setting recovers
    (came_with at (news_of c.args.happened.what) added (already c.args.happened.what c.args.bytes.now) c.args.kept.now c.args.silence past) (text ++ (one.0 ++ two.0)) in (
      one.0 ++ two.0,
      two.1 ∙ ap (λ xs. xs ++ two.0) one.1 ∙ append_assoc c.args.lines.now.items one.0 two.0,
      subst A c.is_added.ensures (subst N c.news_of-news.ensures (subst L c.already-has.ensures all)),
    )

pub returns-clause-whole : goal.returns-clause-whole
returns-clause-whole c = λ setting recovers past text s.
    let at = c.args.happened.at in
    let before : List Came = with_bytes (when at c.is_added.result) c.already-has.result.now (with_news at c.news_of-news.result past) in
    let told = c.in_ok-first.ensures.told setting recovers past text s in
    let one = c.in_ok-first.ensures.whole setting recovers past text s in
    let two = c.in_ok-second.ensures.whole setting recovers before (text ++ told.0) told.2 in
    let R : Option Note → Bool → List ℕ → Type 0 = λ news added bytes. HasRoom at news added bytes c.args.kept.now past in
    let B : List ℕ → Type 0 = λ bytes. R c.news_of-news.result c.is_added.result bytes in
    let N : Option Note → Type 0 = λ news. R news c.is_added.result (already c.args.happened.what c.args.bytes.now) in
    let A : Bool → Type 0 = λ added. R (news_of c.args.happened.what) added (already c.args.happened.what c.args.bytes.now) in (
      λ t. let parts = c.both.ensures.0 t in subst A c.is_added.ensures (subst N c.news_of-news.ensures (subst B c.already-has.ensures (one.0 parts.0, two.0 parts.1))),
      λ r.
          let has : B c.already-has.result.now = subst B (sym c.already-has.ensures) (subst N (sym c.news_of-news.ensures) (subst A (sym c.is_added.ensures) r)) in
          c.both.ensures.1 (one.1 has.0, two.1 has.1),
    )
