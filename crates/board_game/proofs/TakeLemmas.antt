-- What is told of an event by itself.
use Rattle.std.proofs.Common.{◌≡◌, ◌++◌, ℕ, List, ◌∷◌, Option, refl, sym, ap, subst, ◌∙◌, append_assoc}
use Rattle.dgt_frame.specs.declared.events.Event.{Event}
use Rattle.dgt_frame.specs.Streams.{Timed}
use Rattle.settle_core.specs.Entries.{deduplicated}
use Rattle.settle_core.specs.Folding.{Score}
use Rattle.settle_core.proofs.Once.{folds_once}
use Rattle.board_events.specs.Session.{entries_in}
use Rattle.board_events.specs.Settings.{Setting}
use Rattle.board_alarms.specs.declared.chunk.Chunk.{Chunk}
use Rattle.board_alarms.specs.Keeping.{StandsFor as AlarmsStand}
use Rattle.board_endings.specs.Keeping.{StandsFor as EndingsStand}
use Rattle.board_listing.specs.declared.watcher.Watcher.{Watcher}
use Rattle.board_listing.specs.GameText.{HasResult}
use Rattle.board_listing.specs.GivenGame.{GameLine, text_of}
use Rattle.board_listing.specs.Inside.Watchers.{HasWatched}
use Rattle.board_listing.specs.WatchText.{WatchesEvent}
use Rattle.board_standing.specs.declared.heard.Heard.{Heard}
use Rattle.board_standing.specs.Keeping.{StandsFor as StandingStands}
use Rattle.board_game.specs.declared.telling.Teller.{Teller}
use Rattle.board_game.specs.Alarming.{alarm_items}
use Rattle.board_game.specs.Ending.{end_items}
use Rattle.board_game.specs.Hearing.{HearsEvent, with_heard}
use Rattle.board_game.specs.History.{Item, Sent, events_of}
use Rattle.board_game.specs.Inside.Shown.{HasSeen}
use Rattle.board_game.specs.Inside.Telling.{HasTold}

-- The result is that of the game.
pub result_of : (watcher : Watcher) (setting : Setting) (past : List Event) → HasWatched watcher setting past
    → HasResult setting.start watcher.follower.session.settler.score watcher.follower.told
result_of watcher setting past watched =
    let followed = watched.followed in
    let score = watcher.follower.session.settler.score in
    let scores : followed.score ≡ score = folds_once setting.start (deduplicated (entries_in setting past)) followed.score score followed.valid followed.folds followed.stands.settler.folds in
    subst (λ (s : Score). HasResult setting.start s watcher.follower.told) scores followed.told

-- The parts of the teller have taken the event: so it is told.
pub told_event : (old new : Teller) (setting : Setting) (items : List Item) (text : List ℕ) (time : Chunk) (x : Timed) (all lines before after : List ℕ) (h : HasTold old setting items text)
    → HasWatched new.watcher setting (x.event ∷ events_of items) × ((more : List GameLine) × (after ≡ before ++ text_of more) × WatchesEvent setting (events_of items) x more)
    → HasSeen new.pictures setting (x.event ∷ events_of items)
    → (picture ended : Option Heard) × HearsEvent setting (events_of items) x.event picture ended × StandingStands new.standing (with_heard time.when.at ended (with_heard time.when.at picture h.heard))
    → AlarmsStand new.alarms setting (alarm_items (Sent time x ∷ items)) → EndingsStand new.endings setting (end_items (Sent time x ∷ items)) → lines ++ before ≡ all
    → (more : List ℕ) × (lines ++ after ≡ all ++ more) × HasTold new setting (Sent time x ∷ items) (text ++ more)
told_event old new setting items text time x all lines before after h watched seen hears alarms endings is = (
  text_of watched.1.0,
  ap (λ (t : List ℕ). lines ++ t) watched.1.1 ∙ sym (append_assoc lines before (text_of watched.1.0)) ∙ ap (λ (t : List ℕ). t ++ text_of watched.1.0) is,
  record {
    watched = watched.0;
    seen = seen;
    heard = with_heard time.when.at hears.1 (with_heard time.when.at hears.0 h.heard);
    hears = (h.heard, hears.0, hears.1, h.hears, hears.2, refl);
    standing = hears.3;
    alarms = alarms;
    endings = endings;
    reports = (text, watched.1.0, h.reports, watched.1.2, refl);
  },
)
