-- What a printer adds at an event.
use Rattle.std.specs.Prelude.{⊤}
use Rattle.std.proofs.Common.{◌≡◌, ℕ, Bool, List, ◌∷◌, ◌++◌, slice_set, Option, None, Some, Result, Ok, Err, OnErr, OnOk, refl, sym, ap, ◌∙◌, subst, append-nil}
use Rattle.dgt_frame.specs.declared.events.Event.{Event}
use Rattle.dgt_frame.specs.Streams.{Timed}
use Rattle.board_events.specs.declared.view.View.{View}
use Rattle.board_events.specs.Commands.{past_of}
use Rattle.board_events.specs.Settings.{Setting}
use Rattle.board_events.specs.Session.{WantsMemory}
use Rattle.board_events.specs.declared.view.Change.TheVariants.{Nothing, Square, Picture}
use Rattle.board_events.specs.Pictures.{ChangesPictures, IsLast, pictures}
use Rattle.board_events.proofs.ViewLemmas.{Adds}
use Rattle.board_events.specs.View.{Views}
use Rattle.board_events.proofs.CommandLemmas.{past_more}
use Rattle.chess_text.specs.declared.placement_text.PlacementText.{PlacementText}
use Rattle.chess_text.specs.KeptRanks.{picture_in}
use Rattle.board_listing.specs.EventLines.{line_of}
use Rattle.board_listing.specs.PictureLines.{placement_line}
use Rattle.board_listing.specs.declared.follower.Follower.{Follower}
use Rattle.board_listing.specs.declared.printer.Printer.{Printer}
use Rattle.board_listing.specs.declared.printer.Printer.TheVariants.{Events as EachEvent, Pictures as EachPicture, Game as EachMove, Watched as EachThing}
use Rattle.board_listing.specs.declared.listing.Listing.{Listing}
use Rattle.board_listing.specs.declared.listing.Listing.TheVariants.{Events, Pictures, Game, Watched}
use Rattle.board_listing.specs.Inside.Followers.{AddsEvent, HasFollowed}
use Rattle.board_listing.specs.Inside.Printers.{AddsLines, Follows, HasBegun}
use Rattle.board_listing.specs.Listings.{LacksMemory}
use Rattle.board_listing.specs.declared.watcher.Watcher.{Watcher}
use Rattle.board_listing.specs.GivenGame.{text_of}
use Rattle.board_listing.specs.Inside.Watchers.{AddsWatched, HasWatched}
use Rattle.board_listing.proofs.LineLemmas.{each_more, game_more, pictures_added, placed, text_append, watch_more}

-- What a view knows and a kept placement has, whatever events there were.
abbrev pub Draws : View → PlacementText → Bool → List Event → Type 0
Draws view placement rotated past = Views view rotated past × IsLast (picture_in placement) (pictures rotated past)

-- The same after this event, and what it adds to the pictures.
abbrev pub DrawsNext : View → PlacementText → View → PlacementText → Timed → Option (List ℕ) → Type 0
DrawsNext view kept new kept' x answer = (rotated : Bool) (past : List Event) → Draws view kept rotated past
    → Draws new kept' rotated (x.event ∷ past) × Adds answer (pictures rotated past) (pictures rotated (x.event ∷ past))

pictures_by : (view new : View) (kept kept' : PlacementText) (x : Timed) (lines : List ℕ) (answer : Option (List ℕ)) → DrawsNext view kept new kept' x answer
    → AddsLines (EachPicture view kept) lines x (EachPicture new kept') (lines ++ placed answer)
pictures_by view new kept kept' x lines answer draws Events events follows = absurd follows
pictures_by view new kept kept' x lines answer draws (Game start first rotated) events follows = absurd follows
pictures_by view new kept kept' x lines answer draws (Watched start first rotated) events follows = absurd follows
pictures_by view new kept kept' x lines answer draws (Pictures rotated) events follows =
    let P : List Event → Type 0 = λ past. Draws new kept' rotated past in
    let drawn = draws rotated (past_of events) follows in (
      subst P (sym (past_more events x.offset x.event)) drawn.0,
      (placed answer, refl, λ text is. pictures_added rotated events x answer text drawn.1 is),
    )

-- No picture was shown.
pub none_adds : (old : Printer) (view new : View) (kept : PlacementText) (x : Timed) (lines : List ℕ) → old ≡ EachPicture view kept
    → ((rotated : Bool) (past : List Event) → Views view rotated past → Views new rotated (x.event ∷ past))
    → ((rotated : Bool) (past : List Event) → Views view rotated past → ChangesPictures Nothing (pictures rotated past) (pictures rotated (x.event ∷ past)))
    → AddsLines old lines x (EachPicture new kept) lines
none_adds old view new kept x lines is views shown =
    let P : Printer → Type 0 = λ l. AddsLines l lines x (EachPicture new kept) lines in
    let Q : List ℕ → Type 0 = λ l. AddsLines (EachPicture view kept) lines x (EachPicture new kept) l in
    let same : DrawsNext view kept new kept x None = λ rotated past drawn. (
      (views rotated past drawn.0, subst (IsLast (picture_in kept)) (sym (shown rotated past drawn.0)) drawn.1),
      shown rotated past drawn.0,
    ) in
    subst P (sym is) (subst Q (append-nil lines) (pictures_by view new kept kept x lines None same))

pub last_is : (picture last : List ℕ) (earlier pictures : List (List ℕ)) → pictures ≡ last ∷ earlier → IsLast picture pictures → picture ≡ last
last_is picture last earlier pictures is here = subst (IsLast picture) is here

pub is_last : (picture last : List ℕ) (earlier pictures : List (List ℕ)) → pictures ≡ last ∷ earlier → picture ≡ last → IsLast picture pictures
is_last picture last earlier pictures is same = subst (IsLast picture) (sym is) same

-- A square of the last picture changed.
pub square_adds : (old : Printer) (view new : View) (kept kept' : PlacementText) (x : Timed) (lines : List ℕ) (square code : ℕ) → old ≡ EachPicture view kept
    → ((rotated : Bool) (past : List Event) → Views view rotated past → Views new rotated (x.event ∷ past))
    → ((rotated : Bool) (past : List Event) → Views view rotated past → ChangesPictures (Square square code) (pictures rotated past) (pictures rotated (x.event ∷ past)))
    → picture_in kept' ≡ slice_set (picture_in kept) square code
    → AddsLines old lines x (EachPicture new kept') (lines ++ placement_line (picture_in kept'))
square_adds old view new kept kept' x lines square code is views shown changed =
    let P : Printer → Type 0 = λ l. AddsLines l lines x (EachPicture new kept') (lines ++ placement_line (picture_in kept')) in
    let draws : DrawsNext view kept new kept' x (Some (picture_in kept')) = λ rotated past drawn.
    let here = shown rotated past drawn.0 in
    let now : picture_in kept' ≡ slice_set here.0 square code = changed ∙ ap (λ p. slice_set p square code) (last_is (picture_in kept) here.0 here.1 (pictures rotated past) here.2 drawn.1) in (
      (views rotated past drawn.0, is_last (picture_in kept') (slice_set here.0 square code) (pictures rotated past) (pictures rotated (x.event ∷ past)) here.3 now),
      here.3 ∙ ap (λ p. p ∷ pictures rotated past) (sym now),
    ) in
    subst P (sym is) (pictures_by view new kept kept' x lines (Some (picture_in kept')) draws)

-- Another picture was shown.
pub picture_adds : (old : Printer) (view new : View) (kept kept' : PlacementText) (x : Timed) (lines picture : List ℕ) → old ≡ EachPicture view kept
    → ((rotated : Bool) (past : List Event) → Views view rotated past → Views new rotated (x.event ∷ past))
    → ((rotated : Bool) (past : List Event) → Views view rotated past → ChangesPictures Picture (pictures rotated past) (pictures rotated (x.event ∷ past)))
    → ((rotated : Bool) (past : List Event) → Views new rotated past → IsLast picture (pictures rotated past))
    → picture_in kept' ≡ picture
    → AddsLines old lines x (EachPicture new kept') (lines ++ placement_line (picture_in kept'))
picture_adds old view new kept kept' x lines picture is views shown last same =
    let P : Printer → Type 0 = λ l. AddsLines l lines x (EachPicture new kept') (lines ++ placement_line (picture_in kept')) in
    let draws : DrawsNext view kept new kept' x (Some (picture_in kept')) = λ rotated past drawn.
    let here = shown rotated past drawn.0 in
    let seen = views rotated past drawn.0 in
    let newest = last rotated (x.event ∷ past) seen in
    let now : picture_in kept' ≡ here.0 = same ∙ last_is picture here.0 (pictures rotated past) (pictures rotated (x.event ∷ past)) here.1 newest in (
      (seen, is_last (picture_in kept') here.0 (pictures rotated past) (pictures rotated (x.event ∷ past)) here.1 now),
      here.1 ∙ ap (λ p. p ∷ pictures rotated past) (sym now),
    ) in
    subst P (sym is) (pictures_by view new kept kept' x lines (Some (picture_in kept')) draws)

event_by : (x : Timed) (lines lines' : List ℕ) → lines' ≡ lines ++ line_of x → AddsLines EachEvent lines x EachEvent lines'
event_by x lines lines' added Events events follows = (tt, (line_of x, added, λ text has. each_more events x text has))
event_by x lines lines' added (Pictures rotated) events follows = absurd follows
event_by x lines lines' added (Game start first rotated) events follows = absurd follows
event_by x lines lines' added (Watched start first rotated) events follows = absurd follows

game_by : (follower new : Follower) (x : Timed) (lines lines' : List ℕ) → AddsEvent follower lines x new lines' → AddsLines (EachMove follower) lines x (EachMove new) lines'
game_by follower new x lines lines' adds Events events follows = absurd follows
game_by follower new x lines lines' adds (Pictures rotated) events follows = absurd follows
game_by follower new x lines lines' adds (Watched start first rotated) events follows = absurd follows
game_by follower new x lines lines' adds (Game start first rotated) events follows =
    let setting : Setting = record { start = start; first = first; rotated = rotated } in
    let added = adds setting (past_of events) follows in
    let P : List Event → Type 0 = λ past. HasFollowed new setting past in (
      subst P (sym (past_more events x.offset x.event)) added.0,
      (added.1.0, added.1.1, λ text is. game_more setting events x text added.1.0 is added.1.2),
    )

-- The line of the event was added.
pub event_adds : (old : Printer) (x : Timed) (lines lines' : List ℕ) → old ≡ EachEvent → lines' ≡ lines ++ line_of x → AddsLines old lines x old lines'
event_adds old x lines lines' is added =
    let P : Printer → Type 0 = λ l. AddsLines l lines x l lines' in
    subst P (sym is) (event_by x lines lines' added)

-- The follower has followed the event.
pub game_adds : {E : Type 0} (r : Result ⊤ E) (old : Printer) (follower new : Follower) (x : Timed) (lines lines' : List ℕ) → old ≡ EachMove follower
    → OnOk r (AddsEvent follower lines x new lines') → OnOk r (AddsLines old lines x (EachMove new) lines')
game_adds (Err e) old follower new x lines lines' is adds = tt
game_adds (Ok v) old follower new x lines lines' is adds =
    let P : Printer → Type 0 = λ l. AddsLines l lines x (EachMove new) lines' in
    subst P (sym is) (game_by follower new x lines lines' adds)

watch_by : (watcher new : Watcher) (x : Timed) (lines lines' : List ℕ) → AddsWatched watcher lines x new lines' → AddsLines (EachThing watcher) lines x (EachThing new) lines'
watch_by watcher new x lines lines' adds Events events follows = absurd follows
watch_by watcher new x lines lines' adds (Pictures rotated) events follows = absurd follows
watch_by watcher new x lines lines' adds (Game start first rotated) events follows = absurd follows
watch_by watcher new x lines lines' adds (Watched start first rotated) events follows =
    let setting : Setting = record { start = start; first = first; rotated = rotated } in
    let added = adds setting (past_of events) follows in
    let more = added.1.0 in
    let P : List Event → Type 0 = λ past. HasWatched new setting past in (
      subst P (sym (past_more events x.offset x.event)) added.0,
      (
        text_of more,
        added.1.1,
        λ text has. (more ++ has.0, watch_more setting events x has.0 more has.1 added.1.2, ap (λ t. t ++ text_of more) has.2 ∙ sym (text_append more has.0)),
      ),
    )

-- The watcher has watched the event.
pub watch_adds : {E : Type 0} (r : Result ⊤ E) (old : Printer) (watcher new : Watcher) (x : Timed) (lines lines' : List ℕ) → old ≡ EachThing watcher
    → OnOk r (AddsWatched watcher lines x new lines') → OnOk r (AddsLines old lines x (EachThing new) lines')
watch_adds (Err e) old watcher new x lines lines' is adds = tt
watch_adds (Ok v) old watcher new x lines lines' is adds =
    let P : Printer → Type 0 = λ l. AddsLines l lines x (EachThing new) lines' in
    subst P (sym is) (watch_by watcher new x lines lines' adds)

followed_by : (follower : Follower) (listing : Listing) (events : List Timed) → Follows (EachMove follower) listing events → (setting : Setting) × (past : List Event) × HasFollowed follower setting past
followed_by follower Events events follows = absurd follows
followed_by follower (Pictures rotated) events follows = absurd follows
followed_by follower (Watched start first rotated) events follows = absurd follows
followed_by follower (Game start first rotated) events follows = (record { start = start; first = first; rotated = rotated }, past_of events, follows)

watched_by : (watcher : Watcher) (listing : Listing) (events : List Timed) → Follows (EachThing watcher) listing events → (setting : Setting) × (past : List Event) × HasWatched watcher setting past
watched_by watcher Events events follows = absurd follows
watched_by watcher (Pictures rotated) events follows = absurd follows
watched_by watcher (Game start first rotated) events follows = absurd follows
watched_by watcher (Watched start first rotated) events follows = (record { start = start; first = first; rotated = rotated }, past_of events, follows)

-- A printer that has begun has a follower, or a watcher, that has followed some events.
pub game_begun : (old : Printer) (follower : Follower) → old ≡ EachMove follower → HasBegun old → (setting : Setting) × (past : List Event) × HasFollowed follower setting past
game_begun old follower is begun =
    let here = subst (λ (l : Printer). Follows l begun.0 begun.1) is begun.2 in
    followed_by follower begun.0 begun.1 here

pub watch_begun : (old : Printer) (watcher : Watcher) → old ≡ EachThing watcher → HasBegun old → (setting : Setting) × (past : List Event) × HasWatched watcher setting past
watch_begun old watcher is begun =
    let here = subst (λ (l : Printer). Follows l begun.0 begun.1) is begun.2 in
    watched_by watcher begun.0 begun.1 here

game_lacks : {E : Type 0} (r : Result ⊤ E) (follower : Follower) (x : Timed) → ((setting : Setting) (past : List Event) → HasFollowed follower setting past → OnErr r (WantsMemory setting past x.event))
    → (listing : Listing) (events : List Timed) → Follows (EachMove follower) listing events → OnErr r (LacksMemory listing events x)
game_lacks r follower x wants Events events follows = absurd follows
game_lacks r follower x wants (Pictures rotated) events follows = absurd follows
game_lacks r follower x wants (Watched start first rotated) events follows = absurd follows
game_lacks r follower x wants (Game start first rotated) events follows = wants (record { start = start; first = first; rotated = rotated }) (past_of events) follows

watch_lacks : {E : Type 0} (r : Result ⊤ E) (watcher : Watcher) (x : Timed) → ((setting : Setting) (past : List Event) → HasWatched watcher setting past → OnErr r (WantsMemory setting past x.event))
    → (listing : Listing) (events : List Timed) → Follows (EachThing watcher) listing events → OnErr r (LacksMemory listing events x)
watch_lacks r watcher x wants Events events follows = absurd follows
watch_lacks r watcher x wants (Pictures rotated) events follows = absurd follows
watch_lacks r watcher x wants (Game start first rotated) events follows = absurd follows
watch_lacks r watcher x wants (Watched start first rotated) events follows = wants (record { start = start; first = first; rotated = rotated }) (past_of events) follows

-- Where memory was refused it may be.
pub game_refuses : {E : Type 0} (r : Result ⊤ E) (old : Printer) (follower : Follower) (x : Timed) → old ≡ EachMove follower
    → ((setting : Setting) (past : List Event) → HasFollowed follower setting past → OnErr r (WantsMemory setting past x.event))
    → (listing : Listing) (events : List Timed) → Follows old listing events → OnErr r (LacksMemory listing events x)
game_refuses r old follower x is wants listing events follows =
    game_lacks r follower x wants listing events (subst (λ (l : Printer). Follows l listing events) is follows)

pub watch_refuses : {E : Type 0} (r : Result ⊤ E) (old : Printer) (watcher : Watcher) (x : Timed) → old ≡ EachThing watcher
    → ((setting : Setting) (past : List Event) → HasWatched watcher setting past → OnErr r (WantsMemory setting past x.event))
    → (listing : Listing) (events : List Timed) → Follows old listing events → OnErr r (LacksMemory listing events x)
watch_refuses r old watcher x is wants listing events follows =
    watch_lacks r watcher x wants listing events (subst (λ (l : Printer). Follows l listing events) is follows)
