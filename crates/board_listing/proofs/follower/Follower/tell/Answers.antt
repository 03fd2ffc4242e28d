use Rattle.std.proofs.Common.{◌++◌, ap, ◌∙◌, append_assoc, subst}
use Rattle.settle_core.specs.Settler.{SettlerState}
use Rattle.board_listing.specs.GameText.{TellsSeen}
use Rattle.board_listing.proofs.follower.Follower.tell.Goals as goal

pub add_seen-requires-clause-may : goal.add_seen-requires-clause-may
add_seen-requires-clause-may c = rw c.settler-settler.ensures.same (c.requires.may (c.is_news.ensures.0 c.if-not-is_news.false))

pub returns-clause-told : goal.returns-clause-told
returns-clause-told c other shown last waits =
    let settler = c.args.self.now.session.settler in
    let same = c.settler-settler.ensures.same in
    let seen = c.add_seen.ensures.told shown (rw same last) in
    let first_is : TellsSeen c.args.offset settler.start settler.score shown c.args.seen seen.0 = (let P : SettlerState → Type 0 = λ s. TellsSeen c.args.offset s.start s.score shown c.args.seen seen.0 in subst P same seen.1) in
    let news = c.add_new_result.ensures in
    record {
      first = seen.0;
      second = news.0;
      first_is = first_is;
      second_is = news.1;
      result_is = rw same at c.result_now-now.ensures waits;
      lines_are = news.2 ∙ ap (λ text. text ++ news.0) seen.2 ∙ append_assoc c.args.lines.now.items seen.0 news.0;
    }
