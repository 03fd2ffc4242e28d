-- What a printer knows of the events that it has followed.
use Rattle.std.specs.Prelude.{◌≡◌, ℕ, List, [], ◌∷◌, ◌++◌, ⊤}
use Rattle.dgt_frame.specs.Streams.{Timed}
use Rattle.board_events.specs.Commands.{past_of}
use Rattle.board_events.specs.Pictures.{IsLast, pictures}
use Rattle.board_events.specs.View.{Views}
use Rattle.chess_text.specs.KeptRanks.{picture_in}
use Rattle.board_listing.specs.declared.printer.Printer.{Printer}
use Rattle.board_listing.specs.declared.printer.Printer.TheVariants.{Events as EachEvent, Pictures as EachPicture, Game as EachMove, Watched as EachThing}
use Rattle.board_listing.specs.declared.listing.Listing.{Listing}
use Rattle.board_listing.specs.declared.listing.Listing.TheVariants.{Events, Pictures, Game, Watched}
use Rattle.board_listing.specs.Inside.Followers.{HasFollowed}
use Rattle.board_listing.specs.Listings.{HasLines}
use Rattle.board_listing.specs.Inside.Watchers.{HasWatched}

-- The printer, which prints this, has followed these events.
abbrev pub Follows : Printer → Listing → List Timed → Type 0
Follows EachEvent Events events = ⊤
Follows EachEvent (Pictures rotated) events = ⊥
Follows EachEvent (Game start first rotated) events = ⊥
Follows EachEvent (Watched start first rotated) events = ⊥
Follows (EachPicture view placement) Events events = ⊥
Follows (EachPicture view placement) (Pictures rotated) events = Views view rotated (past_of events) × IsLast (picture_in placement) (pictures rotated (past_of events))
Follows (EachPicture view placement) (Game start first rotated) events = ⊥
Follows (EachPicture view placement) (Watched start first rotated) events = ⊥
Follows (EachMove follower) Events events = ⊥
Follows (EachMove follower) (Pictures rotated) events = ⊥
Follows (EachMove follower) (Game start first rotated) events = HasFollowed follower (record { start = start; first = first; rotated = rotated }) (past_of events)
Follows (EachMove follower) (Watched start first rotated) events = ⊥
Follows (EachThing watcher) Events events = ⊥
Follows (EachThing watcher) (Pictures rotated) events = ⊥
Follows (EachThing watcher) (Game start first rotated) events = ⊥
Follows (EachThing watcher) (Watched start first rotated) events = HasWatched watcher (record { start = start; first = first; rotated = rotated }) (past_of events)

-- It has followed some events.
abbrev pub HasBegun : Printer → Type 0
HasBegun printer = (listing : Listing) × (events : List Timed) × Follows printer listing events

-- Whatever events were followed, this one was too, and what it adds to their lines was added.
abbrev pub AddsLines : Printer → List ℕ → Timed → Printer → List ℕ → Type 0
AddsLines old lines x new lines' = (listing : Listing) (events : List Timed) → Follows old listing events
    → Follows new listing (events ++ x ∷ []) × ((more : List ℕ) × (lines' ≡ lines ++ more)
    × ((text : List ℕ) → HasLines listing events text → HasLines listing (events ++ x ∷ []) (text ++ more)))
