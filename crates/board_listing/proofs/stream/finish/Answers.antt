use Rattle.std.proofs.Common.{◌≡◌, ◌++◌, List, ℕ, length, take, ◌∙◌, ap, subst}
use Rattle.std.specs.Io.KnownBytes.{Appends}
use Rattle.watched_streams.specs.Watch.{inner_of}
use Rattle.board_listing.specs.Listings.{last_line}
use Rattle.board_listing.specs.Inside.Progress.{FinishBreaksOff, Finishes}
use Rattle.watched_streams.proofs.ResultLemmas.{on_ok}
use Rattle.board_listing.proofs.GatherLemmas.{front_of, on_fault}
use Rattle.board_listing.proofs.stream.finish.Goals as goal

pub returns : goal.returns
returns g c =
    let before = g.O.Write.contents (inner_of c.args.out.now) in
    let after = g.O.Write.contents (inner_of c.put.new.out) in
    let lines = c.end.new.lines.items in
    record {
      ok = on_ok (Appends before after lines) (Finishes c.args.decoder.now c.args.printer.now before after) c.put.result (rw c.as_slice.ensures.value at c.put.ensures.ok)
          (λ sent listing bytes events decoded follows.
          let lines_are : lines ≡ last_line listing c.pending.result = c.end.ensures listing events follows ∙ ap (λ bs. bs ++ last_line listing c.pending.result) c.new-lines.ensures in
          (c.pending.result, c.pending.ensures bytes events decoded, (let P : List ℕ → Type 0 = λ bs. Appends before after bs in subst P lines_are sent)));
      working = c.put.ensures.working;
      front = on_fault (FinishBreaksOff c.args.decoder.now c.args.printer.now before after) (length lines) (λ n. Appends before after (take n lines)) c.put.result
          (rw c.as_slice.ensures.value at c.put.ensures.fault)
          (λ n took listing bytes events decoded follows.
          let lines_are : lines ≡ last_line listing c.pending.result = c.end.ensures listing events follows ∙ ap (λ bs. bs ++ last_line listing c.pending.result) c.new-lines.ensures in (
            c.pending.result,
            c.pending.ensures bytes events decoded,
            front_of before after (last_line listing c.pending.result) n (let P : List ℕ → Type 0 = λ bs. Appends before after (take n bs) in subst P lines_are took),
          ));
      failed = c.put.ensures.failed;
    }
