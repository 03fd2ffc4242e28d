-- The lines of events, one event at a time.
use Rattle.std.proofs.Common.{◌≡◌, ℕ, Bool, List, [], ◌∷◌, ◌++◌, Option, Some, None, reverse, append_assoc, append-nil, refl, sym, subst, ◌∙◌, ap}
use Rattle.std.specs.List.{flat_map}
use Rattle.std.proofs.lemmas.Grind.{flat_map-append}
use Rattle.std.proofs.lemmas.List.{reverse-append}
use Rattle.dgt_frame.specs.Streams.{Timed}
use Rattle.dgt_frame.specs.declared.events.Event.{Event}
use Rattle.board_events.specs.Commands.{past_of}
use Rattle.board_events.specs.Pictures.{pictures}
use Rattle.board_events.proofs.ViewLemmas.{Adds}
use Rattle.board_events.specs.Settings.{Setting}
use Rattle.board_listing.specs.GameText.{TellsEvent, TellsEvents}
use Rattle.watched_streams.specs.Lines.{line}
use Rattle.board_listing.specs.GivenGame.{GameLine, text_of}
use Rattle.board_listing.specs.WatchText.{Watches, WatchesEvent}
use Rattle.settle_core.proofs.Lines.{map-reverse}
use Rattle.board_events.proofs.CommandLemmas.{past_more}
use Rattle.board_listing.specs.declared.listing.Listing.TheVariants.{Events, Pictures}
use Rattle.board_listing.specs.EventLines.{line_of}
use Rattle.board_listing.specs.PictureLines.{placement_line}
use Rattle.board_listing.specs.Listings.{HasLines}

abbrev pub drawn : List (List ℕ) → List ℕ
drawn shown = flat_map placement_line (reverse shown)

pub drawn-append : (new old : List (List ℕ)) → drawn (new ++ old) ≡ drawn old ++ drawn new
drawn-append new old = ap (flat_map placement_line) (reverse-append new old) ∙ flat_map-append placement_line (reverse old) (reverse new)

-- the line of a picture that was returned
abbrev pub placed : Option (List ℕ) → List ℕ
placed None = []
placed (Some picture) = placement_line picture

-- One more event adds lines behind those of the events before.
pub each_more : (events : List Timed) (x : Timed) (text : List ℕ) → HasLines Events events text → HasLines Events (events ++ x ∷ []) (text ++ line_of x)
each_more events x text is = ap (λ t. t ++ line_of x) is ∙ ap (λ t. flat_map line_of events ++ t) (sym (append-nil (line_of x))) ∙ sym (flat_map-append line_of events (x ∷ []))

pub pictures_added : (rotated : Bool) (events : List Timed) (x : Timed) (answer : Option (List ℕ)) (text : List ℕ)
    → Adds answer (pictures rotated (past_of events)) (pictures rotated (x.event ∷ past_of events)) → HasLines (Pictures rotated) events text
    → HasLines (Pictures rotated) (events ++ x ∷ []) (text ++ placed answer)
pictures_added rotated events x None text adds is =
    append-nil text ∙ is ∙ sym (ap (λ past. drawn (pictures rotated past)) (past_more events x.offset x.event) ∙ ap drawn adds)
pictures_added rotated events x (Some picture) text adds is =
    let next : drawn (pictures rotated (past_of (events ++ x ∷ []))) ≡ drawn (pictures rotated (past_of events)) ++ placement_line picture =
    ap (λ past. drawn (pictures rotated past)) (past_more events x.offset x.event) ∙ ap drawn adds
    ∙ drawn-append (picture ∷ []) (pictures rotated (past_of events))
    ∙ ap (λ t. drawn (pictures rotated (past_of events)) ++ t) (append-nil (placement_line picture)) in
    ap (λ t. t ++ placement_line picture) is ∙ sym next

pub game_more : (setting : Setting) (events : List Timed) (x : Timed) (text more : List ℕ) → TellsEvents setting (reverse events) text
    → TellsEvent setting (past_of events) x more → TellsEvents setting (reverse (events ++ x ∷ [])) (text ++ more)
game_more setting events x text more is adds =
    let P : List Timed → Type 0 = λ es. TellsEvents setting es (text ++ more) in
    let Q : List Event → Type 0 = λ past. TellsEvent setting past x more in
    subst P (sym (reverse-append events (x ∷ []))) (text, more, is, subst Q (sym (map-reverse (λ (t : Timed). t.event) events)) adds, refl)

pub watch_more : (setting : Setting) (events : List Timed) (x : Timed) (lines more : List GameLine) → Watches setting (reverse events) lines
    → WatchesEvent setting (past_of events) x more → Watches setting (reverse (events ++ x ∷ [])) (more ++ lines)
watch_more setting events x lines more is adds =
    let P : List Timed → Type 0 = λ es. Watches setting es (more ++ lines) in
    let Q : List Event → Type 0 = λ past. WatchesEvent setting past x more in
    subst P (sym (reverse-append events (x ∷ []))) (lines, more, is, subst Q (sym (map-reverse (λ (t : Timed). t.event) events)) adds, refl)

-- Lines in the order of their text.
pub text_append : (new old : List GameLine) → text_of (new ++ old) ≡ text_of old ++ text_of new
text_append [] old = sym (append-nil (text_of old))
text_append (told ∷ new) old = ap (λ t. t ++ line told.offset told.words) (text_append new old) ∙ append_assoc (text_of old) (text_of new) (line told.offset told.words)
