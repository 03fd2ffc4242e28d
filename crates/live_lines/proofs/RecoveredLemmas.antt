-- The text of a game in which pairs of plies are recovered.
use Rattle.std.proofs.Common.{◌≡◌, true, inl, List, [], ◌∷◌, ◌++◌, map, reverse, Option, Some, None, refl, sym, ap, subst, ◌∙◌}
use Rattle.std.proofs.lemmas.List.{reverse-reverse}
use Rattle.settle_core.proofs.Lines.{map-reverse}
use Rattle.dgt_frame.specs.declared.events.Event.{Event}
use Rattle.dgt_frame.specs.Streams.{Timed}
use Rattle.unseen_pairs.specs.declared.pair.Recovery.{Recovery}
use Rattle.unseen_pairs.specs.Laws.{RecoversOnce}
use Rattle.board_events.specs.Commands.{past_of}
use Rattle.board_events.specs.Game.{IsGameOf}
use Rattle.board_events.specs.Settings.{Setting}
use Rattle.board_events.proofs.CommandLemmas.{past_both}
use Rattle.board_alarms.specs.declared.chunk.Chunk.{Chunk}
use Rattle.board_game.specs.History.{Adds, AreShown, Bytes, Came, Item, Makes, News, bytes_of, events_of}
use Rattle.board_game.proofs.ItemLemmas.{events_found}
use Rattle.board_game.proofs.PlainLemmas.{ShowsOnce, same_shown}
use Rattle.recovery.specs.Inside.Passing.{added}
use Rattle.recovery.specs.Woven.{HavePutIn, ShowsPutIn, put_behind}
use Rattle.recovery.proofs.WovenLemmas.{put_in_once}
use Rattle.live_lines.specs.Recovered.{TextsAreRecovered}

abbrev event_in : Timed → Event
event_in t = t.event

put_with : (setting : Setting) (past : List Event) (event : Event) (found : Option Recovery) (woven : List Event)
    → added setting past event found woven ≡ reverse (put_behind setting (event ∷ past) found) ++ event ∷ woven
put_with setting past event None woven = refl
put_with setting past event (Some r) woven = refl

adds_put_in : (setting : Setting) (time : Chunk) (past : List Event) (more : List Timed) (before items : List Item) → Adds setting true time past more before items
    → HavePutIn setting past (events_of before) → HavePutIn setting (map event_in more ++ past) (events_of items)
adds_put_in setting time past [] before items adds have = subst (λ (is : List Item). HavePutIn setting past (events_of is)) (sym adds) have
adds_put_in setting time past (x ∷ more) before items adds have =
    let here = map event_in more ++ past in (
      events_of adds.0,
      adds.1,
      adds_put_in setting time past more before adds.0 adds.2 have,
      adds.3,
      ap (λ (is : List Item). events_of is) adds.4 ∙ events_found setting here time x adds.1 adds.0 ∙ put_with setting here x.event adds.1 (events_of adds.0),
    )

past_turned : (events more : List Timed) → past_of (events ++ reverse more) ≡ map event_in more ++ past_of events
past_turned events more =
    past_both events (reverse more)
    ∙ ap (λ es. es ++ past_of events) (sym (map-reverse event_in (reverse more)) ∙ ap (λ (ts : List Timed). map event_in ts) (reverse-reverse more))

makes_put_in : ShowsOnce → (setting : Setting) (past : List Came) (items : List Item) (events : List Timed) → AreShown (bytes_of past) events
    → Makes setting true past items → HavePutIn setting (past_of events) (events_of items)
makes_put_in once setting [] items events shown makes =
    let none : events ≡ [] = same_shown once [] events [] shown (0, (inl refl, refl)) in
    subst (λ (es : List Timed). HavePutIn setting (past_of es) (events_of items)) (sym none) (ap (λ (is : List Item). events_of is) makes)
makes_put_in once setting (Bytes time bytes ∷ past) items events shown makes =
    let es = makes.1 in
    let more = makes.2 in
    let same : events ≡ es ++ reverse more = same_shown once (bytes_of past ++ bytes) events (es ++ reverse more) shown makes.5 in
    subst (λ p. HavePutIn setting p (events_of items)) (sym (ap past_of same ∙ past_turned es more))
    (adds_put_in setting _ (past_of es) more makes.0 items makes.6 (makes_put_in once setting past makes.0 es makes.4 makes.3))
makes_put_in once setting (News time note ∷ past) items events shown makes =
    subst (λ (is : List Item). HavePutIn setting (past_of events) (events_of is)) (sym makes.2) (makes_put_in once setting past makes.0 events shown makes.1)

pub recovered : ShowsOnce → RecoversOnce → ShowsPutIn → TextsAreRecovered
recovered shows once put setting tags past woven lines text events rest valid r shown is =
    let a = makes_put_in shows setting past is.0 r.events (r.rest, r.shows) is.2 in
    let b = put setting (bytes_of past) woven lines r.events events r.rest rest r r.shows shown in
    let same : events_of is.0 ≡ past_of events = put_in_once once setting (past_of r.events) (events_of is.0) (past_of events) valid a b in
    let G : List Event → Type 0 = λ es. IsGameOf is.1 setting tags es in
    (is.1, subst G same is.3, is.4)
