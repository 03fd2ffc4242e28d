-- What is heard after the end of a game.
use Rattle.std.proofs.Common.{◌≡◌, ◌&&◌, not, ℕ, Bool, true, false, List, [], ◌∷◌, ◌++◌, Option, Some, None, refl, sym, ap, ◌∙◌}
use Rattle.std.specs.Prelude.{if◌then◌else◌}
use Rattle.std.specs.List.{list_all}
use Rattle.std.proofs.lemmas.Bool.{and_parts, true≢false}
use Rattle.std.proofs.Math.Bool.{and-false}
use Rattle.board_doubts.specs.declared.heard.Doubt.{Doubt}
use Rattle.board_doubts.specs.declared.heard.Event.{Event}
use Rattle.board_doubts.specs.declared.heard.Heard.{Heard}
use Rattle.board_doubts.specs.declared.heard.Heard.TheVariants.{Shows, Moves, Corrects, Agrees, Ends, Plays, Replaces, Clock, Reopens, PutsIn}
use Rattle.board_doubts.specs.declared.heard.Place.{Place}
use Rattle.board_doubts.specs.declared.heard.Place.TheVariants.{AtLast, AfterLast}
use Rattle.board_doubts.specs.declared.heard.Why.{Why}
use Rattle.board_doubts.specs.declared.heard.Why.TheVariants.{BothElsewhere}
use Rattle.board_doubts.specs.Doubts.{doubt_by, doubted, has_begun, is_on, is_over, is_recent, may_be_played, over_by, passing, why_agrees, why_corrects, why_moves, why_played}
use Rattle.board_doubts.specs.Meaning.{EndedGamePasses, leaves_ended, shows_drawn}
use Rattle.board_doubts.specs.Presses.{known, quiet}
use Rattle.board_doubts.specs.Silent.{silent}
use Rattle.board_doubts.specs.Unheard.{is_unheard}

still_over : (what : Heard) (before : Bool) → leaves_ended what ≡ true → before ≡ true → over_by what before ≡ true
still_over (Moves repeats) before leaves h = absurd (true≢false (sym leaves))
still_over (Corrects repeats) before leaves h = absurd (true≢false (sym leaves))
still_over Reopens before leaves h = absurd (true≢false (sym leaves))
still_over PutsIn before leaves h = absurd (true≢false (sym leaves))
still_over Ends before leaves h = refl
still_over _ before leaves h = h

over_in : (later base : List Event) → list_all (λ one. leaves_ended one.what) later ≡ true → is_over base ≡ true → is_over (later ++ base) ≡ true
over_in [] base leaves h = h
over_in (event ∷ later) base leaves h =
    let both = and_parts (leaves_ended event.what) (list_all (λ one. leaves_ended one.what) later) leaves in
    still_over event.what (is_over (later ++ base)) both.0 (over_in later base both.1 h)

none : (place : Place) (b : Bool) (why : Option Why) → b ≡ false → doubted place (if b then why else None) ≡ None
none place true why h = absurd (true≢false h)
none place false why h = refl

none_agrees : (b may : Bool) (why : Option Why) → b ≡ false → doubted AfterLast (if b && may then why else None) ≡ None
none_agrees true may why h = absurd (true≢false h)
none_agrees false may why h = refl

none_shown : (drawn recent b : Bool) (why : Option Why) → drawn ≡ false → b ≡ false
    → doubted AtLast (if drawn && recent then Some BothElsewhere else if b then why else None) ≡ None
none_shown true recent b why d h = absurd (true≢false d)
none_shown false recent true why d h = absurd (true≢false h)
none_shown false recent false why d h = refl

by_what : (what : Heard) (now : ℕ) (past : List Event) → is_on past ≡ false → shows_drawn what ≡ false → doubt_by what now past ≡ None
by_what (Shows seen) now past off drawn =
    none_shown seen.was_drawn (is_recent now (passing past)) (is_on past) (silent (known (is_unheard past) (quiet past)) past) drawn off
by_what Agrees now past off drawn = none_agrees (is_on past) (may_be_played past) (why_agrees past) off
by_what (Corrects repeats) now past off drawn = none AtLast (is_on past) (why_corrects now past) off
by_what (Moves repeats) now past off drawn = none AtLast (is_on past) (why_moves past) off
by_what (Plays ply) now past off drawn = none AtLast (is_on past) (why_played (Plays ply) past) off
by_what (Replaces ply) now past off drawn = none AtLast (is_on past) (why_played (Replaces ply) past) off
by_what (Clock runs) now past off drawn = none AtLast (is_on past) (silent (quiet past) past) off
by_what _ now past off drawn = refl

unless_added : (added : Bool) (doubt : Option Doubt) → doubt ≡ None → (if added then None else doubt) ≡ None
unless_added true doubt h = refl
unless_added false doubt h = h

pub ended_game_passes : EndedGamePasses
ended_game_passes event end past later ends leaves drawn =
    let all : List Event = later ++ end ∷ past in
    let over : is_over all ≡ true = over_in later (end ∷ past) leaves (ap (λ what. over_by what (is_over past)) ends) in
    let off : is_on all ≡ false = ap (λ b. has_begun all && not b) over ∙ and-false (has_begun all) in
    unless_added event.is_added (doubt_by event.what event.at all) (by_what event.what event.at all off drawn)
