-- The text of the game so far.
use Rattle.std.proofs.Common.{◌≡◌, ℕ, Bool, true, false, inl, List, [], ◌∷◌, ◌++◌, Ok, Err, map, reverse, refl, ap, subst, sym, ◌∙◌}
use Rattle.std.specs.Prelude.{IfOk, Result}
use Rattle.std.proofs.lemmas.List.{reverse-append, reverse-reverse}
use Rattle.dgt_frame.specs.declared.events.Event.{Event}
use Rattle.dgt_frame.specs.Streams.{Timed}
use Rattle.board_events.specs.Commands.{past_of}
use Rattle.board_events.specs.Game.{IsGameOf}
use Rattle.board_events.specs.Settings.{Setting}
use Rattle.board_alarms.specs.declared.chunk.Chunk.{Chunk}
use Rattle.board_game.specs.History.{Adds, AreShown, Bytes, Came, Item, Makes, News, bytes_of, events_of, with_found}
use Rattle.board_game.proofs.PlainLemmas.{ShowsOnce, same_shown}
use Rattle.chess_game.specs.Games.{Content}
use Rattle.chess_game.specs.Values.{TagValues}
use Rattle.pgn_book.specs.Pgn.{Pgn}
use Rattle.live_lines.specs.Laws.{TextsAreRecorded}
use Rattle.live_lines.specs.Text.{GivesText}

pub map_ok : {A E : Type 0} (r : Result A E) (P Q : A → Type 0) → IfOk r P → ((a : A) → P a → Q a) → IfOk r Q
map_ok (Ok a) P Q h f = f a h
map_ok (Err e) P Q h f = h

pub gives : (wanted : Bool) (setting : Setting) (recovers : Bool) (tags : TagValues) (past : List Came) (items : List Item) (game : Content) (text : List ℕ)
    → wanted ≡ true → Makes setting recovers past items → IsGameOf game setting tags (events_of items) → Pgn game text
    → GivesText wanted setting recovers tags past text
gives wanted setting recovers tags past items game text e makes is pgn =
    let G : Bool → Type 0 = λ b. GivesText b setting recovers tags past text in
    subst G (sym e) (items, game, makes, is, pgn)

-- ---- where no pairs are recovered

abbrev event_in : Timed → Event
event_in t = t.event

adds_events : (setting : Setting) (time : Chunk) (past : List Event) (more : List Timed) (before items : List Item) → Adds setting false time past more before items
    → events_of items ≡ map event_in more ++ events_of before
adds_events setting time past [] before items adds = ap (λ (is : List Item). events_of is) adds
adds_events setting time past (x ∷ more) before items adds =
    let here = map event_in more ++ past in
    ap (λ (is : List Item). events_of is) (adds.4 ∙ ap (λ found. with_found setting here time x found adds.0) adds.3)
    ∙ ap (λ (es : List Event). x.event ∷ es) (adds_events setting time past more before adds.0 adds.2)

map_both : (a b : List Timed) → map event_in (a ++ b) ≡ map event_in a ++ map event_in b
map_both [] b = refl
map_both (x ∷ a) b = ap (λ (es : List Event). x.event ∷ es) (map_both a b)

makes_events : ShowsOnce → (setting : Setting) (past : List Came) (items : List Item) (events : List Timed) → AreShown (bytes_of past) events
    → Makes setting false past items → events_of items ≡ map event_in (reverse events)
makes_events once setting [] items events shown makes =
    let none : events ≡ [] = same_shown once [] events [] shown (0, (inl refl, refl)) in
    ap (λ (is : List Item). events_of is) makes ∙ ap (λ (es : List Timed). map event_in (reverse es)) (sym none)
makes_events once setting (Bytes time bytes ∷ past) items events shown makes =
    let es = makes.1 in
    let more = makes.2 in
    let same : events ≡ es ++ reverse more = same_shown once (bytes_of past ++ bytes) events (es ++ reverse more) shown makes.5 in
    let turned : reverse events ≡ more ++ reverse es =
    ap (λ (xs : List Timed). reverse xs) same ∙ reverse-append es (reverse more) ∙ ap (λ (xs : List Timed). xs ++ reverse es) (reverse-reverse more) in
    adds_events setting _ (past_of es) more makes.0 items makes.6
    ∙ ap (λ (xs : List Event). map event_in more ++ xs) (makes_events once setting past makes.0 es makes.4 makes.3)
    ∙ sym (map_both more (reverse es)) ∙ ap (λ (xs : List Timed). map event_in xs) (sym turned)
makes_events once setting (News time heard ∷ past) items events shown makes =
    ap (λ (is : List Item). events_of is) makes.2 ∙ makes_events once setting past makes.0 events shown makes.1

map_snoc : (events : List Timed) → map event_in (reverse events) ≡ past_of events
map_snoc [] = refl
map_snoc (x ∷ events) =
    ap (λ (xs : List Timed). map event_in xs) (reverse-append (x ∷ []) events) ∙ map_both (reverse events) (x ∷ [])
    ∙ ap (λ (es : List Event). es ++ x.event ∷ []) (map_snoc events) ∙ sym (reverse-append (x.event ∷ []) (map event_in events))

pub recorded : ShowsOnce → TextsAreRecorded
recorded once setting tags past events text shown is =
    let same : events_of is.0 ≡ past_of events = makes_events once setting past is.0 events shown is.2 ∙ map_snoc events in
    let G : List Event → Type 0 = λ es. IsGameOf is.1 setting tags es in
    (is.1, subst G same is.3, is.4)
