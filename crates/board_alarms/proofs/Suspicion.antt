-- What is suspected stays open while the board goes on.
use Rattle.std.proofs.Common.{◌≡◌, ◌≢◌, ◌⊎◌, inl, inr, not, ℕ, Bool, true, false, List, [], ◌∷◌, ◌++◌, Option, Some, None, length, refl, sym, ap, subst, ◌∙◌}
use Rattle.std.specs.Prelude.{if◌then◌else◌, is_some, ⊤}
use Rattle.chess_rules.specs.declared.parts.Parts.{Parts}
use Rattle.chess_clock.specs.declared.times.Reading.{Reading}
use Rattle.settle_core.specs.declared.plies.Outcome.{Outcome}
use Rattle.settle_core.specs.declared.plies.Ply.{Ply}
use Rattle.settle_core.specs.Entries.{last_picture}
use Rattle.board_events.specs.History.{reading_at}
use Rattle.board_events.specs.Session.{entries_in}
use Rattle.board_events.specs.Settings.{Setting}
use Rattle.board_doubts.specs.declared.heard.Gap.{Gap}
use Rattle.board_doubts.specs.declared.heard.Heard.{Heard}
use Rattle.board_doubts.specs.declared.heard.Heard.TheVariants.{Agrees, Ends, Reopens, Presses, PutsIn as PairIn, PutsBack as MustPutBack, Looked as HasLooked}
use Rattle.board_alarms.specs.declared.chunk.Chunk.{Chunk}
use Rattle.board_alarms.specs.declared.look.Look.{Look}
use Rattle.board_alarms.specs.declared.look.Look.TheVariants.{Suspected}
use Rattle.board_alarms.specs.declared.look.Told.{Told}
use Rattle.board_alarms.specs.declared.look.Told.TheVariants.{Hears, Suspects as IsSuspected}
use Rattle.board_alarms.specs.declared.news.News.{News}
use Rattle.board_alarms.specs.declared.news.News.TheVariants.{Gone, Begins, PutsIn, Looked, PutsBack, Suspects}
use Rattle.board_alarms.specs.Clock.{clock_of, counts_by, counts_of, counts_said, goes_down, presses_of}
use Rattle.board_alarms.specs.Hearing.{EventHeard, HearsPicture, HearsResult, Shown, Nothing, Again, Another, Tells, away_of, stands, with_event, with_heard, with_news}
use Rattle.board_alarms.specs.Items.{Item, Noted, Sent, events_of, is_sent}
use Rattle.board_alarms.specs.Laws.{NobodyHasLooked, SuspicionStaysOpen}
use Rattle.board_alarms.specs.Looking.{Has, NobodyLooks}
use Rattle.board_alarms.specs.Looks.{alarms}
use Rattle.board_alarms.specs.Plies.{HearsPlies}
use Rattle.board_alarms.proofs.Suspecting.{suspected_stays_open}

-- This isn't that somebody has looked.
NotLook : Option Heard → Type 0
NotLook None = ⊤
NotLook (Some what) = what ≢ HasLooked

gaps : (gap : Option Gap) → NotLook (away_of gap)
unfolding NotLook
gaps None = tt
gaps (Some gap) = λ e. absurd cc

pictures : (start : Parts) (plies : List Ply) (shown : Shown) (heard : Option Heard) → HearsPicture start plies shown heard → NotLook heard
unfolding NotLook
pictures start plies Nothing heard h = subst (λ (o : Option Heard). NotLook o) (sym h) tt
pictures start plies (Again seen) heard h = subst (λ (o : Option Heard). NotLook o) (sym h) tt
pictures start plies (Another seen) heard h = subst (λ (o : Option Heard). NotLook o) (sym h.heard_is) (λ e. absurd cc)

agreement : (agrees : Bool) → NotLook (if agrees then Some Agrees else None)
unfolding NotLook
agreement true = λ e. absurd cc
agreement false = tt

plies : (start : Parts) (agrees : Bool) (old new : List Ply) (news ply : Option Heard) → HearsPlies start agrees old new news ply → NotLook news × NotLook ply
unfolding NotLook
plies start agrees old new news ply (inl h) = (
  subst (λ (o : Option Heard). NotLook o) (sym h.news_is) (agreement agrees),
  subst (λ (o : Option Heard). NotLook o) (sym h.ply_is) tt,
)
plies start agrees old new news ply (inr (inl h)) = (
  subst (λ (o : Option Heard). NotLook o) (sym h.news_is) (λ e. absurd cc),
  subst (λ (o : Option Heard). NotLook o) (sym h.ply_is) (λ e. absurd cc),
)
plies start agrees old new news ply (inr (inr h)) = (
  subst (λ (o : Option Heard). NotLook o) (sym h.news_is) (λ e. absurd cc),
  subst (λ (o : Option Heard). NotLook o) (sym h.ply_is) (λ e. absurd cc),
)

ended : (some : Bool) → NotLook (Some (if some then Ends else Reopens))
unfolding NotLook
ended true = λ e. absurd cc
ended false = λ e. absurd cc

results : (old new : Option Outcome) (heard : Option Heard) → HearsResult old new heard → NotLook heard
unfolding NotLook
results old new heard (inl h) = subst (λ (o : Option Heard). NotLook o) (sym h.1) tt
results old new heard (inr h) = subst (λ (o : Option Heard). NotLook o) (sym h.1) (ended (is_some new))

sides : (white black : Bool) → NotLook (counts_by white black)
unfolding NotLook
sides true true = tt
sides true false = λ e. absurd cc
sides false true = λ e. absurd cc
sides false false = tt

times : (sent : Bool) (old new : Option Reading) → NotLook (if sent then counts_of old new else None)
unfolding NotLook
times false old new = tt
times true None new = tt
times true (Some old) None = tt
times true (Some old) (Some new) = sides (goes_down old.white new.white) (goes_down old.black new.black)

pressed : (b : Bool) → NotLook (if b then Some Presses else None)
unfolding NotLook
pressed true = λ e. absurd cc
pressed false = tt

levers : (now before : Option Bool) → NotLook (presses_of now before)
unfolding NotLook
levers None before = tt
levers (Some now) None = tt
levers (Some now) (Some before) = pressed (if now then not before else before)

clocks : (runs : Option Bool) → NotLook (clock_of runs)
unfolding NotLook
clocks None = tt
clocks (Some runs) = λ e. absurd cc

-- The suspicion is among what was told, and nobody has looked since.
Stays : ℕ → List Told → Type 0
Stays n told = (more : List Told) × (past : List Told) × (told ≡ more ++ IsSuspected n ∷ past) × NobodyLooks more

with_one : (n at : ℕ) (added : Bool) (count : ℕ) (heard : Option Heard) (told : List Told) → NotLook heard → Stays n told
    → Stays n (with_heard at added count heard told)
unfolding NotLook Stays
with_one n at added count None told not h = h
with_one n at added count (Some what) told not h =
    let one : Told = Hears (record { at = at; is_added = added; what = what }) count in
    (one ∷ h.0, h.1, ap (λ (l : List Told). one ∷ l) h.2, (not, h.3))

by_news : (n at count : ℕ) (stood : Bool) (news : News) (told : List Told) → news ≢ Looked → Stays n told → Stays n (with_news at count stood news told)
unfolding NotLook Stays
by_news n at count stood Gone told not h = h
by_news n at count stood Begins told not h = h
by_news n at count stood PutsIn told not h = with_one n at false count (Some PairIn) told (λ e. absurd cc) h
by_news n at count stood Looked told not h = absurd (not refl)
by_news n at count true PutsBack told not h = h
by_news n at count false PutsBack told not h = with_one n at false count (Some MustPutBack) told (λ e. absurd cc) h
by_news n at count stood (Suspects m) told not h =
    (IsSuspected m ∷ h.0, h.1, ap (λ (l : List Told). IsSuspected m ∷ l) h.2, ((λ never. never), h.3))

stays : (setting : Setting) (n at : ℕ) (items later : List Item) (told : List Told) → NobodyHasLooked later
    → Tells setting (later ++ Noted at (Suspects n) ∷ items) told → Stays n told
unfolding Stays
stays setting n at items [] told nobody h = ([], h.0, h.4, tt)
stays setting n at items (Noted time news ∷ later) told nobody h =
    let before : Stays n h.0 = stays setting n at items later h.0 nobody.1 h.2 in
    let all : List Item = later ++ Noted at (Suspects n) ∷ items in
    subst (λ (l : List Told). Stays n l) (sym h.4) (by_news n time (length (h.1).plies)
    (stands setting.start (h.1).plies (last_picture (entries_in setting (events_of all)))) news h.0 nobody.0 before)
stays setting n at items (Sent chunk event ∷ later) told nobody h =
    let before : Stays n h.0 = stays setting n at items later h.0 nobody.1 h.4 in
    let all : List Item = later ++ Noted at (Suspects n) ∷ items in
    let heard : EventHeard = h.3 in
    let hears = h.5 in
    let time : ℕ = chunk.when.at in
    let added : Bool = chunk.when.is_added in
    let old : ℕ = length (h.1).plies in
    let new : ℕ = length (h.2).plies in
    let both = plies setting.start _ (h.1).plies (h.2).plies heard.news heard.ply hears.plies in
    let N : Option Heard → Type 0 = λ o. NotLook o in
    subst (λ (l : List Told). Stays n l) (sym h.6) (
    with_one n time added new heard.clock _ (subst N (sym hears.clock) (clocks _)) (
    with_one n time added new heard.presses _ (subst N (sym hears.presses) (levers _ _)) (
    with_one n time added new heard.counts _ (subst N (sym hears.counts) (times (is_sent chunk) (reading_at setting.first (events_of all)) (reading_at setting.first (event ∷ events_of all)))) (
    with_one n time added new heard.ended _ (results hears.old_result hears.new_result heard.ended hears.ended) (
    with_one n time added new heard.ply _ both.1 (
    with_one n time added new heard.news _ both.0 (
    with_one n time added old heard.shows _ (pictures setting.start (h.1).plies hears.shown heard.shows hears.shows) (
    with_one n time added old heard.away _ (subst N (sym hears.away) (gaps _)) before))))))))

pub suspicion_stays_open : SuspicionStaysOpen
unfolding Stays
suspicion_stays_open setting n at items later looks nobody h =
    let told = stays setting n at items later h.0 nobody h.1 in
    let L : List Look → Type 0 = λ all. Has (Suspected n) all in
    subst L (sym (h.2 ∙ ap (λ (l : List Told). alarms l) told.2)) (suspected_stays_open n told.1 told.0 told.3)
