-- While the board is silent, that is said.
use Rattle.std.proofs.Common.{◌≡◌, ◌⊎◌, inl, inr, ℕ, Bool, true, false, List, [], ◌∷◌, Option, Some, None, refl, sym, ap, subst, ◌∙◌}
use Rattle.std.specs.Prelude.{is_some, if◌then◌else◌}
use Rattle.square_runs.specs.Lasting.{carry}
use Rattle.board_cable.specs.declared.line.Event.{Event as LineEvent}
use Rattle.board_cable.specs.Silence.{is_silent}
use Rattle.board_cable.specs.Silences.{SilentAfterSevenSeconds}
use Rattle.board_cable.specs.Keeping.{kept}
use Rattle.board_cable.specs.Turns.{Turn, told}
use Rattle.board_events.specs.Settings.{Setting}
use Rattle.board_game.specs.declared.note.Note.TheVariants.{Line as LineNews}
use Rattle.board_game.specs.Games.{IsStateOf}
use Rattle.board_game.specs.Hearing.{Hears, IsHeard}
use Rattle.board_game.specs.History.{Came, Item, News}
use Rattle.board_standing.specs.declared.heard.Event.{Event}
use Rattle.board_standing.specs.declared.heard.Heard.TheVariants.{Stops}
use Rattle.board_standing.specs.declared.state.Kind.{Kind}
use Rattle.board_standing.specs.declared.state.Kind.TheVariants.{Silent, Unplugged}
use Rattle.board_standing.specs.declared.state.State.{State}
use Rattle.board_standing.specs.Line.{silent_since, unplugged_since}
use Rattle.board_standing.specs.States.{kind_at}
use Rattle.board_live.specs.declared.happened.What.{What}
use Rattle.board_live.specs.Coming.{came, lined, silence, when, with_bytes, with_news}
use Rattle.board_live.specs.Moments.{Moment, already, is_added, news_of}
use Rattle.board_live.specs.Once.{MuteBoardIsSaid, SilentIsSaid}

kind_by : (u : Bool) (since : Option ℕ) (at : ℕ) (rest : Kind) → (let k : Kind = if u then Unplugged else if is_some (carry true at since) then Silent else rest in (k ≡ Silent) ⊎ (k ≡ Unplugged))
kind_by true since at rest = inr refl
kind_by false None at rest = inl refl
kind_by false (Some since) at rest = inl refl

-- What is heard where the board has stopped to answer.
abbrev SaysStopped : ℕ → List Event → Type 0
SaysStopped now heard = (kind_at now heard ≡ Silent) ⊎ (kind_at now heard ≡ Unplugged)

stopped : (now at : ℕ) (past : List Event) → SaysStopped now (record { at = at; what = Stops } ∷ past)
stopped now at past = kind_by (is_some (unplugged_since past)) (silent_since past) at _

heard_stopped : (setting : Setting) (recovers : Bool) (now at : ℕ) (past : List Came) (heard : List Event) → IsHeard setting recovers (News at (LineNews Stops) ∷ past) heard
    → SaysStopped now heard
heard_stopped setting recovers now at past heard h =
    let H : List Item → Type 0 = λ items. Hears setting items heard in
    let told = subst H h.1.2 h.2 in
    subst (SaysStopped now) (sym told.2) (stopped now at told.0)

-- what comes of silence
silent_comes : (what : What) (before now : Bool) (at : ℕ) (past : List Came) → now ≡ true → with_news at (lined (silence what before now)) past ≡ News at (LineNews Stops) ∷ past
silent_comes what before now at past is = ap (λ b. with_news at (lined (silence what before b)) past) is

pub silent_is_said : SilentIsSaid
silent_is_said setting recovers m past t ts state silent h =
    let before : List Came = with_bytes (when m.at false) (kept (t ∷ ts)) (with_bytes (when m.at (is_added m.what)) (already m.what m.bytes) (with_news m.at (news_of m.what) (came past ts))) in
    let I : List Came → Type 0 = λ has. IsHeard setting recovers has h.heard in
    let is = subst I (silent_comes m.what (is_silent (told ts)) (is_silent (told (t ∷ ts))) m.at before silent) h.is_heard in
    elim (heard_stopped setting recovers m.at m.at before h.heard is) [ inl s ↦ inl (h.kind ∙ s) | inr u ↦ inr (h.kind ∙ u) ]

pub mute_board_is_said : SilentAfterSevenSeconds → SilentIsSaid → MuteBoardIsSaid
mute_board_is_said silent said setting recovers m past t ts state heard before hears opened asked vain h =
    let is : is_silent (told (t ∷ ts)) ≡ true = ap is_silent vain.is
    ∙ silent heard before vain.first vain.second vain.third vain.fourth vain.one vain.two vain.three vain.four hears opened asked
    vain.mute_first vain.mute_second vain.mute_third vain.mute_fourth vain.late vain.apart_one vain.apart_two vain.apart_three in
    said setting recovers m past t ts state is h
