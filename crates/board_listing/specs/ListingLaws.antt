-- What the lines of a stream's first bytes have to do with those of the whole stream.
use Rattle.std.specs.Prelude.{◌≡◌, ◌≤◌, ℕ, List, ◌++◌, length, ⊤}
use Rattle.chess_rules.specs.Valid.{Valid}
use Rattle.dgt_frame.specs.Streams.{Shows, Timed}
use Rattle.board_events.specs.Limits.{limit}
use Rattle.board_listing.specs.declared.listing.Listing.{Listing}
use Rattle.board_listing.specs.declared.listing.Listing.TheVariants.{Events, Pictures, Game, Watched}
use Rattle.board_listing.specs.Listings.{HasLines}

-- The game, if there is one, begins with a valid position.
abbrev pub BeginsValid : Listing → Type 0
BeginsValid Events = ⊤
BeginsValid (Pictures rotated) = ⊤
BeginsValid (Game start first rotated) = Valid start
BeginsValid (Watched start first rotated) = Valid start

-- More bytes add lines, and change none: the lines of a stream's first bytes are the first of its lines.
abbrev pub MoreBytesAddLines : Type 0
MoreBytesAddLines = (listing : Listing) (front more : List ℕ) (events all : List Timed) (rest last : ℕ) (text whole : List ℕ) → BeginsValid listing
    → length (front ++ more) ≤ limit → Shows front events rest → Shows (front ++ more) all last → HasLines listing events text → HasLines listing all whole
    → (added : List ℕ) × (whole ≡ text ++ added)
