use Rattle.std.proofs.Common.{◌≡◌, ℕ, List, take, false}
use Rattle.watched_streams.specs.Watch.{inner_of, has_failed}
use Rattle.watched_streams.specs.Output.{Gathers}
use Rattle.text_subcommands.specs.Printed.{TellsMoves}
use Rattle.text_subcommands.proofs.printing.put_moves.Given as goal

abbrev pub invariant-loop-m : goal.invariant-loop-m
invariant-loop-m g l = record {
  working : has_failed l.out ≡ false;
  done : List ℕ;
  told : TellsMoves l.position (take l.m-index l.moves) done;
  gathers : Gathers (g.O.Write.contents (inner_of l.initial.out)) (g.O.Write.contents (inner_of l.out)) l.lines.items done;
}
