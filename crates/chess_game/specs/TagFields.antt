-- What the fields of tags mean.
use Rattle.std.specs.Prelude.{None, slice_index_or}
use Rattle.chess_game.specs.declared.tags.Tags.TheInside.{Inside}
use Rattle.chess_game.specs.TagNames.{tag_index}
use Rattle.chess_game.specs.Values.{TagValues, values_by, value_or, unknown_of}

abbrev pub values_in : Inside → TagValues
values_in tags = values_by (λ tag. value_or (unknown_of tag) (slice_index_or tags.values (tag_index tag) None))
