use Rattle.std.proofs.Common.{◌++◌, ◌∷◌, [], ap}
use Rattle.pgn_book.specs.Pgn.{escaped}
use Rattle.pgn_book.proofs.Standing.{Adds-same, Adds-then}
use Rattle.pgn_book.proofs.writing.put_tag.Goals as goal

pub returns-clause-adds : goal.returns-clause-adds
returns-clause-adds g c =
    let value = escaped c.args.value.now in
    let end = 34 ∷ 93 ∷ 10 ∷ [] in
    let name = Adds-same _ _ _ _ c.add.new.at c.add-2.new.at _ c.args.name.now c.as_bytes.ensures.value c.add-2.ensures.adds in
    let written = Adds-same _ _ _ _ c.add-3.new.at c.put_value.new.at _ value (ap escaped c.as_bytes-2.ensures.value) c.put_value.ensures.adds in
    Adds-then _ _ _ _ _ _ c.args.at.now c.add.new.at c.add-4.new.at (91 ∷ []) (c.args.name.now ++ 32 ∷ 34 ∷ (value ++ end)) c.add.ensures.adds
    (Adds-then _ _ _ _ _ _ c.add.new.at c.add-2.new.at c.add-4.new.at c.args.name.now (32 ∷ 34 ∷ (value ++ end)) name
    (Adds-then _ _ _ _ _ _ c.add-2.new.at c.add-3.new.at c.add-4.new.at (32 ∷ 34 ∷ []) (value ++ end) c.add-3.ensures.adds
    (Adds-then _ _ _ _ _ _ c.add-3.new.at c.put_value.new.at c.add-4.new.at value end written c.add-4.ensures.adds)))
