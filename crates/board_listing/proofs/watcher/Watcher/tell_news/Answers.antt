use Rattle.std.proofs.Common.{◌++◌, ap, ◌∙◌, append_assoc, subst}
use Rattle.settle_core.specs.Settler.{SettlerState}
use Rattle.chess_text.specs.KeptRanks.{picture_in}
use Rattle.watched_streams.specs.Lines.{line}
use Rattle.board_listing.specs.GameText.{reached_by}
use Rattle.board_listing.specs.Inside.Positions.{TellsResultAndPosition, TellsSeenAndPosition}
use Rattle.board_listing.specs.WatchLines.{picture_words}
use Rattle.board_listing.proofs.watcher.Watcher.tell_news.Goals as goal

pub returns-clause-told : goal.returns-clause-told
returns-clause-told c shown last waits =
    let old = c.args.self.now.follower in
    let settler = old.session.settler in
    let same = c.settler-settler.ensures.same in
    let seen = c.add_shown.ensures.told shown (rw same last) in
    let first_is : TellsSeenAndPosition c.args.offset settler.start settler.score shown c.args.seen seen.0 =
    (let P : SettlerState → Type 0 = λ s. TellsSeenAndPosition c.args.offset s.start s.score shown c.args.seen seen.0 in subst P same seen.1) in
    let news = c.add_result_and_position.ensures.told in
    let second_is : TellsResultAndPosition c.args.offset old.told c.result_now-now.result (reached_by settler.start settler.score) news.0 =
    (let P : SettlerState → Type 0 = λ s. TellsResultAndPosition c.args.offset old.told c.result_now-now.result (reached_by s.start s.score) news.0 in subst P same (rw c.position.ensures.reached at news.1)) in
    record {
      first = seen.0;
      second = news.0;
      first_is = first_is;
      second_is = second_is;
      result_is = rw same at c.result_now-now.ensures waits;
      lines_are = news.2 ∙ ap (λ text. text ++ news.0) seen.2
          ∙ append_assoc (c.args.lines.now.items ++ line c.args.offset (picture_words (picture_in c.args.self.now.placement))) seen.0 news.0;
    }
