-- The options that give the values of tags.
use Rattle.std.specs.Prelude.{ℕ, ◌+◌, ◌&&◌, nat_lt, map, if◌then◌else◌}
use Rattle.clap.specs.Walk.{Text}
use Rattle.chess_game.specs.declared.values.Tag.{Tag}
use Rattle.chess_game.specs.TagNames.{tag_name}

-- a capital letter as a small one
abbrev pub small : ℕ → ℕ
small b = if nat_lt 64 b && nat_lt b 91 then b + 32 else b

-- the option that gives a tag's value: the tag's name in small letters
abbrev pub option_of : Tag → Text
option_of tag = map small (tag_name tag)
