use Rattle.std.proofs.Common.{◌++◌, ◌∙◌, codes, rules, append_assoc, arith}
use Rattle.watched_streams.specs.Watch.{inner_of}
use Rattle.text_subcommands.proofs.MoveLemmas.{all_written, gathers_more, part_told, told_more, told_to_end}
use Rattle.watched_streams.proofs.OutputLemmas.{gathers_sent}
use Rattle.watched_streams.specs.Output.{Gathers}
use Rattle.watched_streams.proofs.ResultLemmas.{on_ok}
use Rattle.text_subcommands.proofs.MessageLemmas.{part_put}
use Rattle.text_subcommands.proofs.printing.put_moves.Goals as goal
use Rattle.text_subcommands.proofs.printing.put_moves.Goals.{then-len-gt-GATHERED+in_ok-put, else-len-gt-GATHERED}

pub loop-m-preserved : goal.loop-m-preserved
loop-m-preserved g c =
    let l = c.loop-m in
    let begin = g.O.Write.contents (inner_of c.args.out.now) in
    let done = l.invariant.done in
    let san = c.add_san.ensures.0 in
    let line = san ++ codes "\n" in
    let waiting = c.if-len-gt-GATHERED.lines.items in
    let before : Gathers begin (g.O.Write.contents (inner_of c.if-len-gt-GATHERED.out)) waiting done = elim c.if-len-gt-GATHERED.branch [
      | then-len-gt-GATHERED+in_ok-put w ↦
          let sent = gathers_sent begin (g.O.Write.contents (inner_of l.out)) (g.O.Write.contents (inner_of w.put.new.out)) l.lines.items done l.invariant.gathers (rw w.as_slice.ensures.value at w.in_ok-put.ensures.ok) in
          rw (w.out-is, w.lines-is, w.clear.ensures) sent
      | else-len-gt-GATHERED w ↦ rw (w.out-is, w.lines-is) l.invariant.gathers
    ] in
    record {
      working = search rules;
      done = done ++ line;
      told = told_more c.args.position.now c.args.moves.now l.m-index c.m-item.result done san (omega arith) c.m-item.is c.add_san.ensures.1 l.invariant.told;
      gathers = gathers_more begin (g.O.Write.contents (inner_of c.if-len-gt-GATHERED.out)) waiting c.add_san.new.lines.items line done before (c.add_san.ensures.2 ∙ append_assoc waiting san (codes "\n"));
    }

pub returns-clause-told : goal.returns-clause-told
returns-clause-told g c =
    let l = c.loop-m in
    let begin = g.O.Write.contents (inner_of c.args.out.now) in
    let done = l.invariant.done in
    let told = told_to_end c.args.position.now c.args.moves.now l.m-index done (omega arith) l.invariant.told in
    on_ok _ _ c.put-2.result c.put-2.ensures.ok (λ sent. (done, told, all_written begin (g.O.Write.contents (inner_of l.out)) (g.O.Write.contents (inner_of c.put-2.new.out)) l.lines.items done l.invariant.gathers (rw c.as_slice-2.ensures.value at sent)))

pub returns-in_err-put-clause-part : goal.returns-in_err-put-clause-part
returns-in_err-put-clause-part g c =
    let l = c.loop-m in
    let begin = g.O.Write.contents (inner_of c.args.out.now) in
    let now = g.O.Write.contents (inner_of l.out) in
    let after = g.O.Write.contents (inner_of c.put.new.out) in
    part_told c.from_residual.result c.args.position.now c.args.moves.now l.m-index begin now after l.lines.items l.invariant.done l.invariant.told l.invariant.gathers
    (rw c.as_slice.ensures.value at (part_put c.put.result now after c.as_slice.result.now c.put.ensures.ok c.put.ensures.fault))

pub returns-clause-part : goal.returns-clause-part
returns-clause-part g c =
    let l = c.loop-m in
    let begin = g.O.Write.contents (inner_of c.args.out.now) in
    let now = g.O.Write.contents (inner_of l.out) in
    let after = g.O.Write.contents (inner_of c.put-2.new.out) in
    part_told c.put-2.result c.args.position.now c.args.moves.now l.m-index begin now after l.lines.items l.invariant.done l.invariant.told l.invariant.gathers
    (rw c.as_slice-2.ensures.value at (part_put c.put-2.result now after c.as_slice-2.result.now c.put-2.ensures.ok c.put-2.ensures.fault))
