-- That a silent board is said to be silent. Events are listed with the latest first, times are milliseconds.
use Rattle.std.specs.Prelude.{◌≡◌, ◌⊎◌, ◌↔◌, ◌+◌, ◌≤◌, ◌&&◌, ◌||◌, nat_le, ℕ, Bool, true, false, List, ◌∷◌, ◌++◌, Some}
use Rattle.std.specs.List.{list_all}
use Rattle.board_cable.specs.declared.line.Event.{Event}
use Rattle.board_cable.specs.declared.line.Happening.{Happening}
use Rattle.board_cable.specs.declared.line.Happening.TheVariants.{Begins, Opens, Closes, HangsUp, Dumps}
use Rattle.board_cable.specs.Asking.{request_at, with_request}
use Rattle.board_cable.specs.Line.{asked_at, is_open}
use Rattle.board_cable.specs.Silence.{is_silent}
use Rattle.board_cable.specs.Still.{asks, begins, count, last_of}

-- No dump comes, the line stays open, and no call begins. All else may happen: updates, faults, requests, wakes between.
abbrev pub is_mute : Happening → Bool
is_mute Begins = false
is_mute Opens = false
is_mute Closes = false
is_mute HangsUp = false
is_mute (Dumps picture) = false
is_mute _ = true

-- Only such things happen, and none after this time.
abbrev pub AreMute : ℕ → List Event → Type 0
AreMute now events = list_all (λ (event : Event). is_mute event.what && nat_le event.at now) events ≡ true

-- with the request that is sent if the recorder wakes then
abbrev pub woken : ℕ → List Event → List Event
woken now past = with_request now (request_at now past) past

-- The line is opened, or a dump comes.
abbrev pub IsHeard : Happening → Type 0
IsHeard what = (what ≡ Opens) ⊎ ((picture : List ℕ) × (what ≡ Dumps picture))

-- A dump comes, the line goes away, or a call begins.
abbrev pub ends_silence : Happening → Bool
ends_silence (Dumps picture) = true
ends_silence Closes = true
ends_silence Begins = true
ends_silence _ = false

-- A dump comes, or the line is opened.
abbrev pub hears : Happening → Bool
hears (Dumps picture) = true
hears Opens = true
hears _ = false

-- The board is asked once more, though three requests and five seconds have brought no dump.
pub record IsAskedInVain (event : Event) (past : List Event) : Type 0 where
  pub asked : asks event.what ≡ true
  pub three : 3 ≤ count asks (λ what. hears what || begins what) past
  pub heard : ℕ
  pub heard_is : last_of hears begins past ≡ Some heard
  pub five_seconds : heard + 5000 ≤ event.at

-- A board is silent from where it is asked in vain until a dump comes, the line goes away or a call begins: also where the line is
-- opened anew.
abbrev pub AskedInVainIsSilent : Type 0
AskedInVainIsSilent = (event : Event) (past : List Event)
    → (is_silent (event ∷ past) ≡ true) ↔ (((is_silent past ≡ true) × (ends_silence event.what ≡ false)) ⊎ IsAskedInVain event past)

-- A board whose line is open, and that sends no dump, is silent when the recorder has been woken four times: four seconds after the
-- last dump or later, and each time a second after the last one, or later. So one that is woken in time says so after seven seconds.
abbrev pub SilentAfterSevenSeconds : Type 0
SilentAfterSevenSeconds = (heard : Event) (past first second third fourth : List Event) (one two three four : ℕ) → IsHeard heard.what
    → is_open (heard ∷ past) ≡ true → ((last : ℕ) → asked_at past ≡ Some last → last ≤ heard.at)
    → AreMute one first → AreMute two second → AreMute three third → AreMute four fourth
    → heard.at + 4000 ≤ one → one + 1000 ≤ two → two + 1000 ≤ three → three + 1000 ≤ four
    → is_silent (woken four (fourth ++ woken three (third ++ woken two (second ++ woken one (first ++ heard ∷ past))))) ≡ true
