use Rattle.std.proofs.Common.{◌≡◌, ◌++◌, List, length, take, ap, ◌∙◌}
use Rattle.std.proofs.Math.Seq.{take-append_seam}
use Rattle.game_over.specs.Moves.{listed_move, listed_place}
use Rattle.game_over.proofs.moves.Moves.end.Goals as goal

taken : {A : Type 0} (many before more all left : List A) → many ≡ before → all ≡ before ++ more → left ≡ take (length many) all → left ≡ before
taken many before more all left m a l = l ∙ ap (λ xs. take (length xs) all) m ∙ ap (take (length before)) a ∙ take-append_seam before more

pub returns-clause-stands : goal.returns-clause-stands
returns-clause-stands c past keeps = record {
  last_is = keeps.last_is;
  earlier_are = taken c.as_slice-many.result.now c.args.self.now.earlier.items (listed_move c.args.self.now.last) c.add.new.moves.items c.truncate.new.self.items
      c.as_slice-many.ensures.value c.in_ok-add.ensures.moves c.truncate.ensures.items ∙ keeps.earlier_are;
  places_are = taken c.as_slice-as_many.result.now c.args.self.now.places.items (listed_place c.args.self.now.last c.args.given) c.add.new.places.items c.truncate-2.new.self.items
      c.as_slice-as_many.ensures.value c.in_ok-add.ensures.places c.truncate-2.ensures.items ∙ keeps.places_are;
}
