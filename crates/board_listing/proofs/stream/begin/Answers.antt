use Rattle.std.proofs.Common.{◌≡◌, ◌∙◌, ◌++◌, length, take, ap, subst}
use Rattle.std.specs.Io.KnownBytes.{Appends}
use Rattle.watched_streams.specs.Watch.{inner_of}
use Rattle.board_listing.specs.Listings.{WritesFront, first_line}
use Rattle.watched_streams.proofs.ResultLemmas.{on_ok}
use Rattle.board_listing.proofs.GatherLemmas.{front_of, on_fault}
use Rattle.board_listing.proofs.stream.begin.Goals as goal

pub returns : goal.returns
returns g c =
    let before = g.O.Write.contents (inner_of c.args.out.now) in
    let after = g.O.Write.contents (inner_of c.put.new.out) in
    let lines = c.add_first.new.lines.items in
    let first = first_line c.args.listing.now in
    let same : lines ≡ first = c.add_first.ensures ∙ ap (λ bs. bs ++ first) c.new-lines.ensures in
    record {
      ok = on_ok (Appends before after lines) (Appends before after first) c.put.result (rw c.as_slice.ensures.value at c.put.ensures.ok) (λ sent. subst (λ bs. Appends before after bs) same sent);
      working = c.put.ensures.working;
      front = on_fault (WritesFront before after first) (length lines) (λ n. Appends before after (take n lines)) c.put.result (rw c.as_slice.ensures.value at c.put.ensures.fault)
          (λ n took. front_of before after first n (subst (λ bs. Appends before after (take n bs)) same took));
      failed = c.put.ensures.failed;
    }
