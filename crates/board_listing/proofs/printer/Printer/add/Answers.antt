use Rattle.dgt_frame.specs.Streams.{Timed}
use Rattle.board_listing.proofs.RangeLemmas.{in_range}
use Rattle.board_listing.proofs.PrinterLemmas.{event_adds, game_adds, game_begun, game_refuses, none_adds, picture_adds, square_adds, watch_adds, watch_begun, watch_refuses}
use Rattle.board_listing.proofs.printer.Printer.add.Goals as goal

pub returns-in-Game-clause-ok : goal.returns-in-Game-clause-ok
returns-in-Game-clause-ok c =
    let x : Timed = record { offset = c.args.offset; event = c.args.event.now } in
    game_adds c.add.result c.args.self.now c.in-Game.follower c.add.new.self x c.args.lines.now.items c.add.new.lines.items c.in-Game.is c.add.ensures.ok

pub returns-in-Nothing-clause-ok : goal.returns-in-Nothing-clause-ok
returns-in-Nothing-clause-ok c =
    let x : Timed = record { offset = c.args.offset; event = c.args.event.now } in
    none_adds c.args.self.now c.in-Pictures.view c.see.new.self c.in-Pictures.placement x c.args.lines.now.items c.in-Pictures.is c.in-Nothing.ensures.views c.in-Nothing.ensures.shown

pub returns-in-Square-clause-ok : goal.returns-in-Square-clause-ok
returns-in-Square-clause-ok c =
    let x : Timed = record { offset = c.args.offset; event = c.args.event.now } in
    rw c.add_placement.ensures
    (square_adds c.args.self.now c.in-Pictures.view c.see.new.self c.in-Pictures.placement c.change.new.self x c.args.lines.now.items c.in-Square.square c.in-Square.code
    c.in-Pictures.is c.in-Square.ensures.views c.in-Square.ensures.shown c.change.ensures)

pub returns-in-Events-clause-ok : goal.returns-in-Events-clause-ok
returns-in-Events-clause-ok c =
    let x : Timed = record { offset = c.args.offset; event = c.args.event.now } in
    event_adds c.args.self.now x c.args.lines.now.items c.add_line.new.lines.items c.in-Events.is c.add_line.ensures.items

pub returns-in-Watched-clause-ok : goal.returns-in-Watched-clause-ok
returns-in-Watched-clause-ok c =
    let x : Timed = record { offset = c.args.offset; event = c.args.event.now } in
    watch_adds c.watch.result c.args.self.now c.in-Watched.watcher c.watch.new.watcher x c.args.lines.now.items c.watch.new.lines.items c.in-Watched.is c.watch.ensures.ok

pub add-requires-clause-followed : goal.add-requires-clause-followed
add-requires-clause-followed c = game_begun c.args.self.now c.in-Game.follower c.in-Game.is c.requires.begun

pub watch-requires-clause-watched : goal.watch-requires-clause-watched
watch-requires-clause-watched c = watch_begun c.args.self.now c.in-Watched.watcher c.in-Watched.is c.requires.begun

pub returns-in-Game-clause-memory : goal.returns-in-Game-clause-memory
returns-in-Game-clause-memory c =
    let x : Timed = record { offset = c.args.offset; event = c.args.event.now } in
    game_refuses c.add.result c.args.self.now c.in-Game.follower x c.in-Game.is c.add.ensures.memory

pub returns-in-Watched-clause-memory : goal.returns-in-Watched-clause-memory
returns-in-Watched-clause-memory c =
    let x : Timed = record { offset = c.args.offset; event = c.args.event.now } in
    watch_refuses c.watch.result c.args.self.now c.in-Watched.watcher x c.in-Watched.is c.watch.ensures.memory

pub returns-in-Picture-clause-ok : goal.returns-in-Picture-clause-ok
returns-in-Picture-clause-ok c =
    let x : Timed = record { offset = c.args.offset; event = c.args.event.now } in
    rw c.add_placement-in-Picture.ensures
    (picture_adds c.args.self.now c.in-Pictures.view c.see.new.self c.in-Pictures.placement c.show.new.self x c.args.lines.now.items _
    c.in-Pictures.is c.in-Picture.ensures.views c.in-Picture.ensures.shown c.picture.ensures.last c.show.ensures)

pub see-requires : goal.see-requires
see-requires c = in_range c.args.event.now c.requires.frame
