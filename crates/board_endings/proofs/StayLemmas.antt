-- A game that is over stays so.
use Rattle.std.proofs.Common.{◌≡◌, ◌&&◌, ℕ, Bool, true, false, not, if◌then◌else◌, List, [], ◌∷◌, Option, Some, None, refl, sym, ap, subst, ◌∙◌}
use Rattle.std.specs.Prelude.{is_some}
use Rattle.game_over.specs.declared.happened.Event.{Event}
use Rattle.game_over.specs.declared.happened.Happening.{Happening}
use Rattle.game_over.specs.declared.happened.Happening.TheVariants.{Moves, Agrees, Differs, Shows, Ends, Declares, Reopens, Resumes, GoesBack, Passes, Hears}
use Rattle.game_over.specs.declared.said.Over.{Over}
use Rattle.game_over.specs.declared.said.Said.{Said}
use Rattle.game_over.specs.declared.said.Said.TheVariants.{Nothing, BeginsNow, GoesOn}
use Rattle.game_over.specs.declared.said.Why.{Why}
use Rattle.game_over.specs.Over.{begins_now, goes_on, is_over, over_by, played, why_by, why_over}
use Rattle.game_over.specs.Said.{IsSaid, IsSaidFor}
use Rattle.board_endings.specs.declared.news.End.{End}
use Rattle.board_endings.specs.Items.{bytes_of}
use Rattle.board_endings.specs.Laws.{StaysOver}
use Rattle.board_endings.specs.Saying.{IsEnd, end_by, reopened}
use Rattle.board_endings.specs.Telling.{happens, timed}
use Rattle.board_endings.proofs.TakeLemmas.{timed_none}

-- What is said while nothing ends the game leaves how it is over.
same_over : (begins on : Bool) (n : ℕ) (event : Event) (before : End) → reopened event.what before ≡ before
    → (end_by (if begins then BeginsNow else if on then GoesOn n else Nothing) event before).over ≡ before.over
same_over true on n event before e = refl
same_over false true n event before e = refl
same_over false false n event before e = ap (λ (end : End). end.over) e

held : (over why : Option Why) (said : Said) (event : Event) (past : List Event) (before : End) → (is_some before.over ≡ true → is_some over ≡ true)
    → reopened event.what before ≡ before → IsSaidFor (if is_some over then None else why) said event past → is_some (end_by said event before).over ≡ true
    → is_some (over_by false over why) ≡ true
held (Some is) why said event past before earlier same is_said h = refl
held None (Some why) said event past before earlier same is_said h = refl
held None None said event past before earlier same is_said h =
    let until : (end_by said event before).over ≡ before.over = ap (λ (s : Said). (end_by s event before).over) is_said
    ∙ same_over (begins_now event past) (goes_on event past) (played (event ∷ past)) event before same in
    earlier (sym (ap (λ (o : Option Over). is_some o) until) ∙ h)

pub none_by : (b : Bool) → (if not b && false then BeginsNow else Nothing) ≡ Nothing
none_by true = refl
none_by false = refl

pub no_why : (b : Bool) → (let none : Option Why = None in if b then none else none) ≡ None
no_why true = refl
no_why false = refl

over_step : (at bytes : ℕ) (what : Happening) (past : List Event) (before : End) (said : Said) → (is_some before.over ≡ true → is_over past ≡ true)
    → IsSaid said (happens at bytes what) past → is_some (end_by said (happens at bytes what) before).over ≡ true → is_over (happens at bytes what ∷ past) ≡ true
over_step at bytes (Moves played) past before said earlier s h = held (why_over past) (why_by (Moves played) at past) said (happens at bytes (Moves played)) past before earlier refl s h
over_step at bytes Agrees past before said earlier s h = held (why_over past) None said (happens at bytes Agrees) past before earlier refl s h
over_step at bytes Differs past before said earlier s h = held (why_over past) None said (happens at bytes Differs) past before earlier refl s h
over_step at bytes (Shows shown) past before said earlier s h = held (why_over past) (why_by (Shows shown) at past) said (happens at bytes (Shows shown)) past before earlier refl s h
over_step at bytes (Ends outcome added) past before said earlier s h = held (why_over past) None said (happens at bytes (Ends outcome added)) past before earlier refl s h
over_step at bytes (Declares outcome added) past before said earlier s h = held (why_over past) None said (happens at bytes (Declares outcome added)) past before earlier refl s h
over_step at bytes Reopens past before said earlier s h =
    let W : Option Why → Type 0 = λ why. IsSaidFor why said (happens at bytes Reopens) past in
    let nothing : said ≡ Nothing = subst W (no_why (is_over past)) s ∙ none_by (is_over past) in
    let never : false ≡ true = sym (ap (λ (s : Said). is_some (end_by s (happens at bytes Reopens) before).over) nothing) ∙ h in cc
over_step at bytes Resumes past before said earlier s h = held (why_over past) None said (happens at bytes Resumes) past before earlier refl s h
over_step at bytes GoesBack past before said earlier s h = held (why_over past) None said (happens at bytes GoesBack) past before earlier refl s h
over_step at bytes Passes past before said earlier s h = held (why_over past) (why_by Passes at past) said (happens at bytes Passes) past before earlier refl s h
over_step at bytes Hears past before said earlier s h = held (why_over past) (why_by Hears at past) said (happens at bytes Hears) past before earlier refl s h

-- A game that is said to be over is over.
pub is_over_by : (past : List Event) (end : End) → IsEnd past end → is_some end.over ≡ true → is_over past ≡ true
is_over_by [] end e h = let never : false ≡ true = sym (ap (λ (x : End). is_some x.over) e) ∙ h in cc
is_over_by (event ∷ past) end e h =
    over_step event.at event.bytes event.what past e.0 e.1 (λ o. is_over_by past e.0 e.2 o) e.3 (sym (ap (λ (x : End). is_some x.over) e.4) ∙ h)

-- It stays so when a recorder begins.
resumed : (at bytes : ℕ) (past : List Event) (end : End) → IsEnd past end → IsEnd (happens at bytes Resumes ∷ past) end
resumed at bytes past end e =
    let W : Option Why → Type 0 = λ why. IsSaidFor why Nothing (happens at bytes Resumes) past in
    (end, Nothing, e, subst W (sym (no_why (is_over past))) (sym (none_by (is_over past))), refl)

still_by : (over : Option Why) → is_some (over_by false over None) ≡ is_some over
still_by None = refl
still_by (Some why) = refl

ended_never : (over : Bool) (why : Option Why) → over ≡ true → is_some (if over then None else why) ≡ false
ended_never true why h = refl
ended_never false why h = absurd cc

pub stays_over : StaysOver
stays_over setting items at later now end h e =
    let bytes = bytes_of items in
    let past : List Event = timed at bytes e.0 in
    let all : List Event = happens later bytes Resumes ∷ past in
    let over : is_over all ≡ true = still_by (why_over past) ∙ is_over_by past end e.2 h in
    let E : List Event → Type 0 = λ events. IsEnd events end in (
      all,
      (past, (e.0, e.1, refl), refl),
      subst E (sym (timed_none now bytes all (ended_never (is_over all) (why_by Passes now all) over))) (resumed later bytes past end e.2),
    )
