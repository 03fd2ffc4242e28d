use Rattle.watched_streams.specs.Watch.{inner_of}
use Rattle.board_events.specs.Settings.{setting_of}
use Rattle.board_session.proofs.RecordLemmas.{records_all}
use Rattle.board_session.proofs.recording.record.Goals as goal

pub finish-requires-clause-kept : goal.finish-requires-clause-kept
finish-requires-clause-kept g c = let listened = c.listen-ending.ensures.listened (setting_of c.args.setup) c.new-recorder.ensures.kept in
    (setting_of c.args.setup, listened.taken, listened.kept)

pub returns-clause-leaves : goal.returns-clause-leaves
returns-clause-leaves g c =
    let listened = c.listen-ending.ensures.listened (setting_of c.args.setup) c.new-recorder.ensures.kept in
    let finished = c.finish.ensures.finished (setting_of c.args.setup) listened.front _ listened.taken listened.decoded listened.kept in
    record {
      ending = c.listen-ending.result;
      read = listened.read;
      front = listened.front;
      back = listened.back;
      taken = listened.taken;
      extra = listened.extra;
      rest = finished.rest;
      game = finished.game;
      text = finished.text;
      consumes = listened.consumes;
      bounded = listened.bounded;
      parts = listened.parts;
      shows = finished.shows;
      ends = listened.ends;
      sends = listened.sends;
      game_is = finished.game_is;
      text_is = finished.text_is;
      answers = finished.answers;
    }

pub returns-clause-all : goal.returns-clause-all
returns-clause-all g c = records_all c.args.setup (g.R.Read.remaining (inner_of c.args.reader.now)) (g.R.Read.remaining (inner_of c.listen-ending.new.reader))
    (g.B.Write.contents (inner_of c.args.board.now)) (g.B.Write.contents (inner_of c.listen-ending.new.board))
    (g.W.Write.contents (inner_of c.args.out.now)) (g.W.Write.contents (inner_of c.finish.new.out)) c.finish.result c.one_game.ensures (returns-clause-leaves g c)
