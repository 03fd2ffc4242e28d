-- The serial number of a board, by its protocol: message 0x91 with five characters.
use Rattle.std.specs.Prelude.{ℕ, ◌&&◌, ◌==◌, nat_lt, Bool, List, length}
use Rattle.std.specs.List.{list_all}

-- a visible character of ASCII
abbrev pub is_visible : ℕ → Bool
is_visible c = nat_lt 32 c && nat_lt c 127

-- A message with this identifier and these characters has a serial number.
abbrev pub is_serial : ℕ → List ℕ → Bool
is_serial identifier characters = (identifier == 145) && ((length characters == 5) && list_all is_visible characters)
