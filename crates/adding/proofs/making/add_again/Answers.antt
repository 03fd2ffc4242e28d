use Rattle.std.proofs.Common.{List, Option, subst, ℕ, ◌++◌, false}
use Rattle.std.specs.Prelude.{OnOk}
use Rattle.chess_clock.specs.declared.Reading.{Reading}
use Rattle.pair_frames.specs.PutIn.{ShowsWhole}
use Rattle.board_captures.specs.Reading.{setting_of}
use Rattle.board_captures.specs.Shown.{board_shown}
use Rattle.adding.specs.Making.{shown_at}
use Rattle.adding.proofs.making.add_again.Goals as goal

pub returns : goal.returns
returns c = λ past events stands shows.
    let setting = setting_of c.args.method.now in
    let shown = c.shown_last.ensures.shown setting past stands in
    let reading = c.reading-reading.ensures setting past stands.session in
    let S : List ℕ → Type 0 = λ seen. OnOk c.add_board.result (ShowsWhole c.add_board.new.out.items (events ++ board_shown c.args.method.now.first c.args.method.now.rotated c.reading-reading.result seen false)) in
    let R : Option Reading → Type 0 = λ r. OnOk c.add_board.result (ShowsWhole c.add_board.new.out.items
    (events ++ board_shown c.args.method.now.first c.args.method.now.rotated r (shown_at setting past c.args.p.now) false)) in
    subst R reading (subst S shown (c.add_board.ensures.shows events shows))
