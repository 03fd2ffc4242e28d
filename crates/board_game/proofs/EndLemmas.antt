-- What is told of how a game ends.
use Rattle.std.proofs.Common.{◌≡◌, ◌&&◌, ℕ, Bool, true, false, not, List, [], ◌∷◌, Option, Some, None, refl, ap, ◌∙◌}
use Rattle.dgt_frame.specs.declared.events.Event.{Event}
use Rattle.board_events.specs.Pictures.{IsLast, pictures}
use Rattle.board_events.specs.Settings.{Setting}
use Rattle.board_endings.specs.declared.news.News.{News}
use Rattle.board_endings.specs.Items.{Item as EndItem, events_of as end_events}
use Rattle.board_endings.specs.Keeping.{IsShown as IsSeen}
use Rattle.board_game.specs.declared.pictures.Shown.{Shown}
use Rattle.board_game.specs.declared.pictures.Shown.TheVariants.{Nothing, Again, Another}
use Rattle.board_game.specs.Ending.{end_items, end_news, with_end_news}
use Rattle.board_game.specs.History.{Item, Noted, Pair, Sent, events_of}
use Rattle.board_game.specs.Inside.Shown.{IsShown, is_another}
use Rattle.board_game.proofs.ShownLemmas.{picture_is}

with_news_events : (at : ℕ) (news : Option News) (items : List EndItem) → end_events (with_end_news at news items) ≡ end_events items
with_news_events at None items = refl
with_news_events at (Some news) items = refl

-- The same events are told.
pub same_events : (items : List Item) → end_events (end_items items) ≡ events_of items
same_events [] = refl
same_events (Sent time x ∷ items) = ap (λ (es : List Event). x.event ∷ es) (same_events items)
same_events (Pair time offset r ∷ items) = same_events items
same_events (Noted at note ∷ items) = with_news_events at (end_news note) (end_items items) ∙ same_events items

no_entry : (entry again : Bool) → entry ≡ false → false ≡ (entry && not again)
no_entry true again h = absurd cc
no_entry false again h = refl

same_again : (entry again : Bool) → entry ≡ true → again ≡ true → false ≡ (entry && not again)
same_again true true h g = refl
same_again true false h g = absurd cc
same_again false again h g = absurd cc

another_one : (entry again : Bool) → entry ≡ true → again ≡ false → true ≡ (entry && not again)
another_one true true h g = absurd cc
another_one true false h g = refl
another_one false again h g = absurd cc

-- Whether an event shows another picture, and which.
pub seen_is : (setting : Setting) (past : List Event) (event : Event) (shown : Shown) (seen : List ℕ) → IsLast seen (pictures setting.rotated (event ∷ past))
    → IsShown setting past event shown → IsSeen setting past event (is_another shown) seen
seen_is setting past event Nothing seen last shown = record { another_is = no_entry _ _ shown; seen_is = λ e. absurd cc }
seen_is setting past event Again seen last shown = record { another_is = same_again _ _ shown.0 shown.1; seen_is = λ e. absurd cc }
seen_is setting past event (Another changed turned moved) seen last shown = record {
  another_is = another_one _ _ (shown.0).entry (shown.0).another;
  seen_is = λ e. picture_is setting past event seen (shown.0).entry last;
}
