-- What alarms are told.
use Rattle.std.proofs.Common.{◌≡◌, ℕ, List, [], ◌∷◌, Option, Some, None, refl, ap, ◌∙◌}
use Rattle.dgt_frame.specs.declared.events.Event.{Event}
use Rattle.board_alarms.specs.declared.news.News.{News}
use Rattle.board_alarms.specs.Items.{Item as AlarmItem, events_of as alarm_events}
use Rattle.board_game.specs.Alarming.{alarm_items, news_of, with_news}
use Rattle.board_game.specs.History.{Item, Noted, Pair, Sent, events_of}

with_news_events : (at : ℕ) (news : Option News) (items : List AlarmItem) → alarm_events (with_news at news items) ≡ alarm_events items
with_news_events at None items = refl
with_news_events at (Some news) items = refl

-- They are told the same events.
pub same_events : (items : List Item) → alarm_events (alarm_items items) ≡ events_of items
same_events [] = refl
same_events (Sent time x ∷ items) = ap (λ (es : List Event). x.event ∷ es) (same_events items)
same_events (Pair time offset r ∷ items) = same_events items
same_events (Noted at note ∷ items) = with_news_events at (news_of note) (alarm_items items) ∙ same_events items
