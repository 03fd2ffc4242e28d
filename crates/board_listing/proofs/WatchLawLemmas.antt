-- The lines of `watch` that are those of `follow`, and those that are pictures.
use Rattle.std.proofs.Common.{◌≡◌, ◌∙◌, inl, inr, ℕ, Bool, true, false, List, [], ◌∷◌, ◌++◌, map, reverse, Option, ap, refl, sym, append_assoc}
use Rattle.std.specs.Prelude.{if◌then◌else◌, not, ◌||◌}
use Rattle.std.specs.List.{AllByRecursion, flat_map}
use Rattle.std.proofs.lemmas.Grind.{flat_map-append}
use Rattle.std.proofs.lemmas.List.{reverse-append}
use Rattle.chess_clock.specs.declared.Reading.{Reading}
use Rattle.chess_rules.specs.declared.parts.Parts.{Parts}
use Rattle.dgt_frame.specs.declared.events.Event.{Event}
use Rattle.dgt_frame.specs.Streams.{Timed}
use Rattle.board_events.specs.Settings.{Setting}
use Rattle.board_listing.specs.GameText.{reached_by}
use Rattle.board_listing.specs.GivenGame.{GameLine, text_of}
use Rattle.board_listing.specs.WatchLaws.{WatchShowsThePictures, WatchTellsWhatFollowTells, game_lines, said_of_picture, watched_pictures}
use Rattle.board_listing.specs.WatchLines.{picture_words, position_words, tells_change, tells_game, tells_picture, tells_position, tells_reading}
use Rattle.board_listing.specs.WatchText.{IsGameLine, ShowsPicture, ShowsReading, WatchesEvent, line_with, with_position}
use Rattle.board_listing.proofs.LineLemmas.{drawn, drawn-append, text_append}

-- ---- lines of `follow`

-- a line with its position, or without
abbrev pub with_if : Parts → GameLine → Bool → List GameLine
with_if p told change = if change then line_with told.offset (position_words p) ∷ told ∷ [] else told ∷ []

keeps_game : (told : GameLine) (rest : List GameLine) → tells_game told.words ≡ true → game_lines (told ∷ rest) ≡ told ∷ game_lines rest
keeps_game told rest kind = ap (λ b. if b then told ∷ game_lines rest else game_lines rest) kind

game_of_one : (p : Parts) (told : GameLine) (rest : List GameLine) (change : Bool) → tells_game told.words ≡ true → game_lines (with_if p told change ++ rest) ≡ told ∷ game_lines rest
game_of_one p told rest true kind = keeps_game told rest kind
game_of_one p told rest false kind = keeps_game told rest kind

pub game_of_followed : (offset : ℕ) (p : Parts) (followed rest : List GameLine) → AllByRecursion (IsGameLine offset) followed
    → game_lines (flat_map (with_position p) followed ++ rest) ≡ followed ++ game_lines rest
game_of_followed offset p [] rest each = refl
game_of_followed offset p (told ∷ earlier) rest each =
    ap game_lines (append_assoc (with_position p told) (flat_map (with_position p) earlier) rest)
    ∙ game_of_one p told (flat_map (with_position p) earlier ++ rest) (tells_change told.words) each.0.kind
    ∙ ap (λ ls. told ∷ ls) (game_of_followed offset p earlier rest each.1)

pub game_of_timed : (offset : ℕ) (old new : Option Reading) (timed rest : List GameLine) → ShowsReading offset old new timed → game_lines (timed ++ rest) ≡ game_lines rest
game_of_timed offset old new timed rest (inl (same, none)) = ap (λ ls. game_lines (ls ++ rest)) none
game_of_timed offset old new timed rest (inr (other, is)) = ap (λ ls. game_lines (ls ++ rest)) is

pub game_of_pictured : (offset : ℕ) (old new : List (List ℕ)) (pictured rest : List GameLine) → ShowsPicture offset old new pictured → game_lines (pictured ++ rest) ≡ game_lines rest
game_of_pictured offset old new pictured rest (inl (same, none)) = ap (λ ls. game_lines (ls ++ rest)) none
game_of_pictured offset old new pictured rest (inr (picture, more, is)) = ap (λ ls. game_lines (ls ++ rest)) is

abbrev pub events_of : List Timed → List Event
events_of events = map (λ t. t.event) events

-- the lines of an event behind those before it
split : (timed placed pictured before : List GameLine) → (timed ++ (placed ++ pictured)) ++ before ≡ timed ++ (placed ++ (pictured ++ before))
split timed placed pictured before = append_assoc timed (placed ++ pictured) before ∙ ap (λ ls. timed ++ ls) (append_assoc placed pictured before)

pub all_of_event : (setting : Setting) (past : List Event) (x : Timed) (more before : List GameLine) (e : WatchesEvent setting past x more)
    → more ++ before ≡ e.timed ++ (flat_map (with_position (reached_by setting.start e.score)) e.followed ++ (e.pictured ++ before))
all_of_event setting past x more before e =
    ap (λ ls. ls ++ before) e.lines_are ∙ split e.timed (flat_map (with_position (reached_by setting.start e.score)) e.followed) e.pictured before

pub game_of_event : (setting : Setting) (past : List Event) (x : Timed) (more before : List GameLine) (e : WatchesEvent setting past x more)
    → game_lines (more ++ before) ≡ e.followed ++ game_lines before
game_of_event setting past x more before e =
    let p = reached_by setting.start e.score in
    let placed = flat_map (with_position p) e.followed in
    ap game_lines (all_of_event setting past x more before e)
    ∙ game_of_timed x.offset _ _ e.timed (placed ++ (e.pictured ++ before)) e.reading_is
    ∙ game_of_followed x.offset p e.followed (e.pictured ++ before) e.each
    ∙ ap (λ ls. e.followed ++ ls) (game_of_pictured x.offset _ _ e.pictured before e.picture_is)

pub watch_tells_what_follow_tells : WatchTellsWhatFollowTells
watch_tells_what_follow_tells setting [] lines is = ap (λ ls. text_of (game_lines ls)) is
watch_tells_what_follow_tells setting (x ∷ past) lines (before, more, watches, e, lines_are) = (
  text_of (game_lines before),
  text_of e.followed,
  watch_tells_what_follow_tells setting past before watches,
  e.follows,
  ap (λ ls. text_of (game_lines ls)) lines_are ∙ ap text_of (game_of_event setting (events_of past) x more before e) ∙ text_append e.followed (game_lines before),
)

-- ---- lines of pictures

no_picture : (a b : Bool) → not (a || b) ≡ true → a ≡ false
no_picture false b h = refl
no_picture true b h = absurd (cc)

drops_game : (told : GameLine) (rest : List GameLine) → tells_game told.words ≡ true → watched_pictures (told ∷ rest) ≡ watched_pictures rest
drops_game told rest kind =
    ap (λ b. if b then told ∷ watched_pictures rest else watched_pictures rest)
    (no_picture (tells_picture told.words) (tells_position told.words || tells_reading told.words) kind)

pictures_of_one : (p : Parts) (told : GameLine) (rest : List GameLine) (change : Bool) → tells_game told.words ≡ true → watched_pictures (with_if p told change ++ rest) ≡ watched_pictures rest
pictures_of_one p told rest true kind = drops_game told rest kind
pictures_of_one p told rest false kind = drops_game told rest kind

pictures_of_followed : (offset : ℕ) (p : Parts) (followed rest : List GameLine) → AllByRecursion (IsGameLine offset) followed
    → watched_pictures (flat_map (with_position p) followed ++ rest) ≡ watched_pictures rest
pictures_of_followed offset p [] rest each = refl
pictures_of_followed offset p (told ∷ earlier) rest each =
    ap watched_pictures (append_assoc (with_position p told) (flat_map (with_position p) earlier) rest)
    ∙ pictures_of_one p told (flat_map (with_position p) earlier ++ rest) (tells_change told.words) each.0.kind
    ∙ pictures_of_followed offset p earlier rest each.1

pictures_of_timed : (offset : ℕ) (old new : Option Reading) (timed rest : List GameLine) → ShowsReading offset old new timed → watched_pictures (timed ++ rest) ≡ watched_pictures rest
pictures_of_timed offset old new timed rest (inl (same, none)) = ap (λ ls. watched_pictures (ls ++ rest)) none
pictures_of_timed offset old new timed rest (inr (other, is)) = ap (λ ls. watched_pictures (ls ++ rest)) is

pictures_of_event : (setting : Setting) (past : List Event) (x : Timed) (more before : List GameLine) (e : WatchesEvent setting past x more)
    → watched_pictures (more ++ before) ≡ watched_pictures (e.pictured ++ before)
pictures_of_event setting past x more before e =
    let p = reached_by setting.start e.score in
    let placed = flat_map (with_position p) e.followed in
    ap watched_pictures (all_of_event setting past x more before e)
    ∙ pictures_of_timed x.offset _ _ e.timed (placed ++ (e.pictured ++ before)) e.reading_is
    ∙ pictures_of_followed x.offset p e.followed (e.pictured ++ before) e.each

-- what lines of pictures say, in their order
abbrev said : List GameLine → List ℕ
said lines = flat_map said_of_picture (reverse lines)

said-append : (new old : List GameLine) → said (new ++ old) ≡ said old ++ said new
said-append new old = ap (flat_map said_of_picture) (reverse-append new old) ∙ flat_map-append said_of_picture (reverse old) (reverse new)

said_of_shown : (offset : ℕ) (old new : List (List ℕ)) (pictured before : List GameLine) → ShowsPicture offset old new pictured → said (watched_pictures before) ≡ drawn old
    → said (watched_pictures (pictured ++ before)) ≡ drawn new
said_of_shown offset old new pictured before (inl (same, none)) is = ap (λ ls. said (watched_pictures (ls ++ before))) none ∙ is ∙ ap drawn (sym same)
said_of_shown offset old new pictured before (inr (picture, newest, shown)) is =
    let told = line_with offset (picture_words picture) in
    ap (λ ls. said (watched_pictures (ls ++ before))) shown ∙ said-append (told ∷ []) (watched_pictures before) ∙ ap (λ t. t ++ said (told ∷ [])) is
    ∙ sym (drawn-append (picture ∷ []) old) ∙ ap drawn (sym newest)

pub watch_shows_the_pictures : WatchShowsThePictures
watch_shows_the_pictures setting [] lines is = ap (λ ls. said (watched_pictures ls)) is
watch_shows_the_pictures setting (x ∷ past) lines (before, more, watches, e, lines_are) =
    ap (λ ls. said (watched_pictures ls)) lines_are ∙ ap said (pictures_of_event setting (events_of past) x more before e)
    ∙ said_of_shown x.offset _ _ e.pictured before e.picture_is (watch_shows_the_pictures setting past before watches)
