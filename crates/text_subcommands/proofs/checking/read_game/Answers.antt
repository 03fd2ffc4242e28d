use Prim.{search}
use Rattle.std.proofs.Common.{ℕ, List, inr, refl, rules, subst, sym}
use Rattle.watched_streams.specs.Watch.{inner_of}
use Rattle.pgn_book.specs.Pgn.{Pgn}
use Rattle.text_subcommands.proofs.CheckLemmas.{is_game, no_game}
use Rattle.text_subcommands.proofs.checking.read_game.Goals as goal

pub returns-in-Ok-read_pgn-clause-game : goal.returns-in-Ok-read_pgn-clause-game
returns-in-Ok-read_pgn-clause-game g c =
    is_game (g.R.Read.remaining (inner_of c.args.reader.now)) c.in-Ok.text.items c.in-Ok-read_pgn.game c.in-Ok.ensures.whole (rw c.as_slice.ensures.value at c.in-Ok-read_pgn.ensures.found) c.in-Ok.ensures.within

pub returns-clause-refused : goal.returns-clause-refused
returns-clause-refused g c = λ one. inr (
  no_game (g.R.Read.remaining (inner_of c.args.reader.now)) c.in-Ok.text.items c.in-Ok.ensures.whole c.in-Ok.ensures.within
      (λ game pgn.
      let P : List ℕ → Type 0 = λ bs. Pgn game bs in
      let memory = c.in-Err-NotExport.ensures.only game (subst P (sym c.as_slice.ensures.value) pgn) in
      let not_export = c.in-Err-NotExport.field-0-is in
      absurd (cc)),
  refl,
)

pub returns-in-Err-Read-clause-blamed : goal.returns-in-Err-Read-clause-blamed
returns-in-Err-Read-clause-blamed g c = search rules

pub returns-in-Err-TooLong-clause-refused : goal.returns-in-Err-TooLong-clause-refused
returns-in-Err-TooLong-clause-refused g c = search rules

pub returns-in-Err-Memory-read_pgn-clause-refused : goal.returns-in-Err-Memory-read_pgn-clause-refused
returns-in-Err-Memory-read_pgn-clause-refused g c = search rules
