-- Times in which the clock wasn't heard.
use Rattle.std.proofs.Common.{◌≡◌, ℕ, Bool, true, List, [], ◌∷◌, ◌++◌, Option, Some, None, refl, sym, ap, ◌∙◌}
use Rattle.std.specs.Prelude.{if◌then◌else◌, is_some}
use Rattle.std.proofs.lemmas.Bool.{true≢false}
use Rattle.square_runs.specs.Lasting.{carry}
use Rattle.board_doubts.specs.declared.heard.Event.{Event}
use Rattle.board_doubts.specs.declared.heard.Gap.{Gap}
use Rattle.board_doubts.specs.declared.heard.Heard.{Heard}
use Rattle.board_doubts.specs.declared.heard.Heard.TheVariants.{Away, Clock, Counts, Plays, Presses}
use Rattle.board_doubts.specs.Clock.{stands_by, stands_since}
use Rattle.board_doubts.specs.Laws.{ClockIsKnownAgain, NoSign, is_no_sign}
use Rattle.board_doubts.specs.Presses.{is_early, is_press, pressed_at, quiet, quiet_by}
use Rattle.board_doubts.specs.Thinking.{counting, counting_by}
use Rattle.board_doubts.specs.Unheard.{is_unheard, unheard_by}

same_quiet : (what : Heard) (counts : Option Bool) (pressed unheard : Bool) (before : ℕ) → is_no_sign what ≡ true
    → quiet_by what (is_press what counts) pressed unheard before ≡ before
same_quiet Presses counts pressed unheard before none = absurd (true≢false (sym none))
same_quiet (Counts black) counts pressed unheard before none = absurd (true≢false (sym none))
same_quiet (Plays ply) counts pressed unheard before none = absurd (true≢false (sym none))
same_quiet _ counts pressed unheard before none = refl

same_stand : (what : Heard) (at : ℕ) (unheard : Bool) (since : Option ℕ) → is_no_sign what ≡ true → stands_by what at unheard since ≡ since
same_stand (Clock runs) at unheard since none = absurd (true≢false (sym none))
same_stand Presses at unheard since none = absurd (true≢false (sym none))
same_stand (Counts black) at unheard since none = absurd (true≢false (sym none))
same_stand _ at unheard since none = refl

same_counting : (what : Heard) (before : Option Bool) → is_no_sign what ≡ true → counting_by what before ≡ before
same_counting (Clock runs) before none = absurd (true≢false (sym none))
same_counting Presses before none = absurd (true≢false (sym none))
same_counting (Counts black) before none = absurd (true≢false (sym none))
same_counting _ before none = refl

quiet_in : (between past : List Event) → NoSign between → quiet (between ++ past) ≡ quiet past
quiet_in [] past none = refl
quiet_in (event ∷ between) past none =
    let all : List Event = between ++ past in
    same_quiet event.what (counting all) (is_early event.at (pressed_at all)) (is_unheard all) (quiet all) none.0 ∙ quiet_in between past none.1

stand_in : (between past : List Event) → NoSign between → stands_since (between ++ past) ≡ stands_since past
stand_in [] past none = refl
stand_in (event ∷ between) past none =
    let all : List Event = between ++ past in
    same_stand event.what event.at (is_unheard all) (stands_since all) none.0 ∙ stand_in between past none.1

counting_in : (between past : List Event) → NoSign between → counting (between ++ past) ≡ counting past
counting_in [] past none = refl
counting_in (event ∷ between) past none = same_counting event.what (counting (between ++ past)) none.0 ∙ counting_in between past none.1

quiet_away : (away : Event) (gap : Gap) (past : List Event) → away.what ≡ Away gap → quiet (away ∷ past) ≡ quiet past
quiet_away away gap past is =
    ap (λ what. quiet_by what (is_press what (counting past)) (is_early away.at (pressed_at past)) (is_unheard past) (quiet past)) is

stand_away : (away : Event) (gap : Gap) (past : List Event) → away.what ≡ Away gap → stands_since (away ∷ past) ≡ stands_since past
stand_away away gap past is = ap (λ what. stands_by what away.at (is_unheard past) (stands_since past)) is

counting_away : (away : Event) (gap : Gap) (past : List Event) → away.what ≡ Away gap → counting (away ∷ past) ≡ counting past
counting_away away gap past is = ap (λ what. counting_by what (counting past)) is

carried : (at : ℕ) (since : Option ℕ) → is_some since ≡ true → carry true at since ≡ since
carried at None is = absurd (true≢false (sym is))
carried at (Some since) is = refl

pub clock_is_known_again : ClockIsKnownAgain
clock_is_known_again away clock gap runs past between gone says none =
    let all : List Event = between ++ away ∷ past in
    let stood : stands_since all ≡ stands_since past = stand_in between (away ∷ past) none ∙ stand_away away gap past gone in (
      ap (λ what. unheard_by what (is_unheard all)) says,
      ap (λ what. quiet_by what (is_press what (counting all)) (is_early clock.at (pressed_at all)) (is_unheard all) (quiet all)) says
          ∙ quiet_in between (away ∷ past) none ∙ quiet_away away gap past gone,
      (λ stands is. ap (λ what. stands_by what clock.at (is_unheard all) (stands_since all)) says
          ∙ ap (λ b. if b then None else carry true clock.at (stands_since all)) stands
          ∙ ap (λ since. carry true clock.at since) stood ∙ carried clock.at (stands_since past) is),
      (λ going. ap (λ what. counting_by what (counting all)) says ∙ ap (λ b. if b then counting all else None) going
          ∙ counting_in between (away ∷ past) none ∙ counting_away away gap past gone),
    )
