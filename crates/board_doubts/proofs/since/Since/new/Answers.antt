use Rattle.board_doubts.specs.Pictures.{astray, moved_on, others, own, stands, stands_again}
use Rattle.board_doubts.proofs.since.Since.new.Goals as goal

pub returns : goal.returns
returns c = record {
  own_is = c.new.ensures own stands;
  others_is = c.new-2.ensures others stands;
  astray_is = c.new-3.ensures astray stands;
  again = c.new-4.ensures moved_on stands_again;
  drawn = c.new-5.ensures moved_on stands;
}
