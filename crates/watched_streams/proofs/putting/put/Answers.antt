use Prim.{search}
use Rattle.std.proofs.Common.{arith, length, take, drop, ◌-◌, rules}
use Rattle.watched_streams.specs.Watch.{inner_of, has_failed}
use Rattle.watched_streams.proofs.PutLemmas.{appends_on, within_on, works_on}
use Rattle.watched_streams.proofs.putting.put.Goals as goal

pub loop-at-preserved : goal.loop-at-preserved
loop-at-preserved g c = record {
  within = within_on c.args.bytes.now c.loop-at.at c.in-Ok.n (omega arith) c.in-Ok.ensures.bound;
  working = works_on (has_failed c.loop-at.out) (has_failed c.write.new.self) c.in-Ok.n (length (take (length c.args.bytes.now - c.loop-at.at) (drop c.loop-at.at c.args.bytes.now)))
      c.loop-at.invariant.working (omega arith) c.in-Ok.ensures.failed;
  written = appends_on (g.W.Write.contents (inner_of c.args.out.now)) (g.W.Write.contents (inner_of c.loop-at.out)) (g.W.Write.contents (inner_of c.write.new.self))
      c.args.bytes.now c.loop-at.at c.in-Ok.n c.in-Ok.ensures.bound c.loop-at.invariant.written c.in-Ok.ensures.bytes;
}

pub returns-in_default-clause-fault : goal.returns-in_default-clause-fault
returns-in_default-clause-fault g c = search rules

pub returns-in_default-2-clause-fault : goal.returns-in_default-2-clause-fault
returns-in_default-2-clause-fault g c = search rules
