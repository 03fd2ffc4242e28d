use Rattle.std.proofs.lemmas.Result.{on_ok_weaker}
use Rattle.board_game.proofs.following.Following.note.Goals as goal

pub returns : goal.returns
returns c = λ setting recovers past items text h. on_ok_weaker c.note.result (λ told. record { keeps = h.keeps; told = told }) (c.note.ensures setting items text h.told)
