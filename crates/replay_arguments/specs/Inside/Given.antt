-- The values of tags, where options give some.
use Rattle.std.specs.Prelude.{Option, unwrap_or, if◌then◌else◌}
use Rattle.clap.specs.Walk.{Text}
use Rattle.chess_game.specs.declared.values.Tag.{Tag}
use Rattle.chess_game.specs.TagNames.{is_tag}
use Rattle.chess_game.specs.Values.{TagValues, value_of, values_by}

-- the values with a tag's changed to the text, where one is given
abbrev pub with_given : Tag → Option Text → TagValues → TagValues
with_given tag text values = values_by (λ other. if is_tag tag other then unwrap_or text (value_of other values) else value_of other values)
