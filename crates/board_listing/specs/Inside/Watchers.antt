-- What a watcher knows of the events that it was given, which are listed with the latest first.
use Rattle.std.specs.Prelude.{◌≡◌, ℕ, List, ◌∷◌, ◌++◌, Some}
use Rattle.dgt_frame.specs.declared.events.Event.{Event}
use Rattle.dgt_frame.specs.Streams.{Timed}
use Rattle.settle_core.specs.declared.plies.Seen.{Seen}
use Rattle.settle_core.specs.declared.plies.Seen.TheVariants.{Waits}
use Rattle.board_events.specs.Settings.{Setting}
use Rattle.chess_text.specs.KeptRanks.{picture_in}
use Rattle.watched_streams.specs.Lines.{line}
use Rattle.board_listing.specs.declared.follower.Follower.{Follower}
use Rattle.board_listing.specs.declared.watcher.Watcher.{Watcher}
use Rattle.board_listing.specs.Inside.Followers.{HasFollowed}
use Rattle.board_listing.specs.GameText.{HasResult}
use Rattle.board_listing.specs.GivenGame.{GameLine, text_of}
use Rattle.board_listing.specs.Inside.Drawing.{Draws, drawn}
use Rattle.board_listing.specs.Inside.Positions.{AddsNewsAndPositions}
use Rattle.board_listing.specs.WatchLines.{picture_words}
use Rattle.board_listing.specs.WatchText.{WatchesEvent}

-- The watcher, set up so, was given these events.
pub record HasWatched (watcher : Watcher) (setting : Setting) (past : List Event) : Type 0 where
  pub followed : HasFollowed watcher.follower setting past
  pub turned : watcher.rotated ≡ setting.rotated
  pub draws : Draws watcher.placement setting past

-- Whatever events were watched, this one was too, and its lines were added.
abbrev pub AddsWatched : Watcher → List ℕ → Timed → Watcher → List ℕ → Type 0
AddsWatched old lines x new lines' = (setting : Setting) (past : List Event) → HasWatched old setting past
    → HasWatched new setting (x.event ∷ past) × ((more : List GameLine) × (lines' ≡ lines ++ text_of more) × WatchesEvent setting past x more)

-- The line of this picture was added, and behind it those of what it showed.
abbrev pub AddsShown : Follower → ℕ → List ℕ → Seen → List ℕ → Follower → List ℕ → Type 0
AddsShown old offset picture seen lines new lines' = (shown : List ℕ) → old.session.settler.last ≡ Some shown
    → (seen ≡ Waits → HasResult old.session.settler.start old.session.settler.score old.told)
    → AddsNewsAndPositions offset old.session.settler.start old.session.settler.score shown seen old.told new.told
    (lines ++ line offset (picture_words picture)) lines'

-- The picture that this event shows was drawn, and its lines were added.
pub record ShowsNews (old : Watcher) (offset : ℕ) (event : Event) (seen : Seen) (lines : List ℕ) (new : Watcher) (lines' : List ℕ) : Type 0 where
  pub drawn_is : picture_in new.placement ≡ drawn old.rotated event (picture_in old.placement)
  pub adds : AddsShown old.follower offset (picture_in new.placement) seen lines new.follower lines'
