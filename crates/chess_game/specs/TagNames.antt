-- The tags that a user sets.
use Rattle.std.specs.Prelude.{ℕ, List, [], ◌∷◌, codes, Bool, ◌==◌}
use Rattle.chess_game.specs.declared.values.Tag.{Tag}
use Rattle.chess_game.specs.declared.values.Tag.TheVariants.{Event, Site, Date, Round, White, Black}

-- all of them, in the order of the text (PGN standard, section 8.1.1)
abbrev pub all_tags : List Tag
all_tags = Event ∷ Site ∷ Date ∷ Round ∷ White ∷ Black ∷ []

-- the name of a tag
abbrev pub tag_name : Tag → List ℕ
tag_name Event = codes "Event"
tag_name Site = codes "Site"
tag_name Date = codes "Date"
tag_name Round = codes "Round"
tag_name White = codes "White"
tag_name Black = codes "Black"

-- its place among all of them, from 0
abbrev pub tag_index : Tag → ℕ
tag_index Event = 0
tag_index Site = 1
tag_index Date = 2
tag_index Round = 3
tag_index White = 4
tag_index Black = 5

-- whether both are one tag
abbrev pub is_tag : Tag → Tag → Bool
is_tag tag other = tag_index tag == tag_index other
