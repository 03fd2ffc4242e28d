use Rattle.board_doubts.specs.Pictures.{astray, moved_on, others, own, stands, stands_again}
use Rattle.board_doubts.proofs.since.Since.clear.Goals as goal

pub returns : goal.returns
returns c = record {
  own_is = c.clear.ensures own stands;
  others_is = c.clear-2.ensures others stands;
  astray_is = c.clear-3.ensures astray stands;
  again = c.clear-4.ensures moved_on stands_again;
  drawn = c.clear-5.ensures moved_on stands;
}
