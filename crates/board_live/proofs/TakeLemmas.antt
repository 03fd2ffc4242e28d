-- One more turn.
use Rattle.std.proofs.Common.{◌≡◌, ◌<◌, ◌≤◌, ◌^◌, ℕ, nat_le, min, inl, inr, Bool, true, false, List, [], ◌∷◌, Option, Some, None, IfSome, take, refl, sym, ap, subst, ◌∙◌, arith}
use Rattle.std.proofs.Math.Nat.{min-eq_left, min-eq_right}
use Rattle.std.proofs.lemmas.Bool.{leb-false, leb-true}
use Rattle.square_runs.specs.Lasting.{IsBefore as IsBeforeState, earlier}
use Rattle.board_cable.specs.declared.line.Event.{Event as ToldOf}
use Rattle.board_cable.specs.Asking.{Changes}
use Rattle.board_cable.specs.Lasting.{IsBefore}
use Rattle.board_events.specs.Settings.{Setting}
use Rattle.board_game.specs.Ending.{IsEndDueOf}
use Rattle.board_game.specs.Games.{IsDueOf, StandsFor as GameStands}
use Rattle.board_standing.specs.declared.state.State.{State}
use Rattle.board_live.specs.declared.attending.Attending.{Attending}
use Rattle.board_live.specs.declared.live.Live.{Live}
use Rattle.board_live.specs.declared.saying.Saying.{Saying}
use Rattle.board_live.specs.Attending.{Attends}
use Rattle.board_live.specs.Due.{MayChange}
use Rattle.board_live.specs.Live.{StandsFor}
use Rattle.board_live.specs.Saying.{HasSaid, IsRead, IsSaid, Says, is_live, last_said, live_by, said_before}
use Rattle.board_cable.specs.declared.whose.Handling.{Handling}
use Rattle.board_cable.specs.Silence.{is_silent}
use Rattle.board_cable.specs.Keeping.{kept, kept_by, released}
use Rattle.board_cable.specs.Moments.{Moment as CableMoment, sent}
use Rattle.board_cable.specs.Turns.{Told, Turn, handling_of, told}
use Rattle.board_cable.proofs.Once.{turns_once}
use Rattle.board_alarms.specs.declared.chunk.When.{When}
use Rattle.board_game.specs.History.{Bytes, Came, room_of}
use Rattle.board_standing.specs.declared.heard.Heard.{Heard}
use Rattle.board_live.specs.Coming.{came, came_with, silence, with_bytes}
use Rattle.board_live.specs.Moments.{Moment, already, cable_moment, cabled, is_added, news_of}

pub turns_are : (m : Moment) (past : List Moment) (turns all : List Turn) → Told (cabled past) turns → Told (cabled (m ∷ past)) all
    → (turn : Turn) × (all ≡ turn ∷ turns)
turns_are m past turns [] h k = absurd k
turns_are m past turns (t ∷ ts) h k = (t, ap (λ x. t ∷ x) (turns_once (cabled past) ts turns k.0 h))

-- What the machine gives the game is what comes to it.
pub came_is : (m : Moment) (past : List Moment) (turn : Turn) (turns : List Turn) (keeping : List ℕ) (told_now : Option Heard)
    → keeping ≡ kept (turn ∷ turns) → told_now ≡ silence m.what (is_silent (told turns)) (is_silent (told (turn ∷ turns)))
    → came_with m.at (news_of m.what) (is_added m.what) (already m.what m.bytes) keeping told_now (came past turns) ≡ came (m ∷ past) (turn ∷ turns)
came_is m past turn turns keeping told_now k s =
    ap (λ x. came_with m.at (news_of m.what) (is_added m.what) (already m.what m.bytes) x told_now (came past turns)) k
    ∙ ap (λ x. came_with m.at (news_of m.what) (is_added m.what) (already m.what m.bytes) (kept (turn ∷ turns)) x (came past turns)) s

pub kept_is : (m : CableMoment) (turn : Turn) (turns : List Turn) (handling : Handling) (bytes : List ℕ) → handling ≡ handling_of turn → turn.moment ≡ m
    → bytes ≡ sent m → kept_by handling (released (turn ∷ turns)) bytes ≡ kept (turn ∷ turns)
kept_is m turn turns handling bytes h at s =
    ap (λ x. kept_by x (released (turn ∷ turns)) bytes) h ∙ ap (λ x. kept_by (handling_of turn) (released (turn ∷ turns)) x) (s ∙ ap sent (sym at))

pub kept_more : (m : Moment) (past : List Moment) (turns all : List Turn) (handling : Handling) (bytes : List ℕ) → Told (cabled past) turns
    → Told (cabled (m ∷ past)) all → ((turn : Turn) → Told (cabled (m ∷ past)) (turn ∷ turns) → handling ≡ handling_of turn) → bytes ≡ sent (cable_moment m)
    → kept_by handling (released all) bytes ≡ kept all
kept_more m past turns all handling bytes h k f s =
    let split = turns_are m past turns all h k in
    let T : List Turn → Type 0 = λ x. Told (cabled (m ∷ past)) x in
    let here : T (split.0 ∷ turns) = subst T split.1 k in
    let K : List Turn → Type 0 = λ x. kept_by handling (released x) bytes ≡ kept x in
    subst K (sym split.1) (kept_is (cable_moment m) split.0 turns handling bytes (f split.0 here) here.1 s)

-- what has been said, after one more moment
pub said_more : (old new : Saying) (setting : Setting) (recovers : Bool) (m : Moment) (past : List Moment) (turn : Turn) (turns : List Turn) (state : State)
    (result : Option State) → HasSaid old setting recovers past turns → new.is_live ≡ live_by m.what old.is_live
    → Says new.is_live (said_before m.what old.last) state result → new.last ≡ last_said result (said_before m.what old.last)
    → IsRead setting recovers (m ∷ past) (turn ∷ turns) m.at state → state.squares < 2 ^ 64
    → (new.is_live ≡ is_live (m ∷ past)) × IsSaid setting recovers (m ∷ past) (turn ∷ turns) result new.last
said_more old new setting recovers m past turn turns state result has live says last is fits =
    let now : new.is_live ≡ is_live (m ∷ past) = live ∙ ap (λ b. live_by m.what b) has.live in
    let S : Bool → Type 0 = λ b. Says b (said_before m.what old.last) state result in (
      now,
      (state, has.said, old.last, has.is_said, is, fits, subst S now says, last),
    )

-- what a recorded board stands for, by the turns that there were
pub game_at : (live : Live) (setting : Setting) (recovers : Bool) (past : List Moment) (text : List ℕ) (turns : List Turn)
    → StandsFor live setting recovers past text → Told (cabled past) turns → GameStands live.game setting recovers (came past turns) text
game_at live setting recovers past text turns s h =
    subst (λ x. GameStands live.game setting recovers (came past x) text) (turns_once (cabled past) s.attends.cable.turns turns s.attends.cable.happened h) s.game

pub saying_at : (live : Live) (setting : Setting) (recovers : Bool) (past : List Moment) (text : List ℕ) (turns : List Turn)
    → StandsFor live setting recovers past text → Told (cabled past) turns → HasSaid live.saying setting recovers past turns
saying_at live setting recovers past text turns s h =
    subst (λ x. HasSaid live.saying setting recovers past x) (turns_once (cabled past) s.attends.cable.turns turns s.attends.cable.happened h) s.saying

pub kept_at : (attending : Attending) (past : List Moment) (turns : List Turn) → Attends attending past → Told (cabled past) turns
    → attending.kept.items ≡ kept turns
kept_at attending past turns attends h =
    attends.kept_is ∙ ap (λ x. kept x) (turns_once (cabled past) attends.cable.turns turns attends.cable.happened h)

pub given : (at : When) (bytes : List ℕ) (past : List Came) → (bytes ≡ [] → ⊥) → with_bytes at bytes past ≡ Bytes at (take (room_of past) bytes) ∷ past
given at [] past h = absurd (h refl)
given at (byte ∷ bytes) past h = refl

pub sooner_both : (later : ℕ) (a b : Option ℕ) → IsBefore later (earlier a b) → IsBefore later a × IsBeforeState later b
sooner_both later None None h = (h, h)
sooner_both later None (Some y) h = (tt, h)
sooner_both later (Some x) None h = (h, tt)
sooner_both later (Some x) (Some y) h = (omega (arith, h), omega (arith, h))

one_of : (P : ℕ → Type 0) (b : Bool) (x y : ℕ) → nat_le x y ≡ b → P x → P y → P (min x y)
one_of P true x y e p q = subst P (sym (min-eq_left (leb-true x y e))) p
one_of P false x y e p q =
    let less : y < x = leb-false x y e in
    let most : y ≤ x = omega (arith, less) in
    subst P (sym (min-eq_right most)) q

-- The sooner of both is one of them.
sooner_some : (P : ℕ → Type 0) (a b : Option ℕ) → IfSome a P → IfSome b P → IfSome (earlier a b) P
sooner_some P None None h k = tt
sooner_some P None (Some y) h k = k
sooner_some P (Some x) None h k = h
sooner_some P (Some x) (Some y) h k = one_of P (nat_le x y) x y refl h k

asks_some : (setting : Setting) (recovers : Bool) (past : List Came) (told : List ToldOf) (now : ℕ) (a : Option ℕ) → IfSome a (λ d. Changes now told d)
    → IfSome a (λ d. MayChange setting recovers past told now d)
asks_some setting recovers past told now None h = tt
asks_some setting recovers past told now (Some x) h = inl h

due_some : (setting : Setting) (recovers : Bool) (past : List Came) (told : List ToldOf) (now : ℕ) (b : Option ℕ) → IsDueOf setting recovers past now b
    → IfSome b (λ d. MayChange setting recovers past told now d)
due_some setting recovers past told now None h = tt
due_some setting recovers past told now (Some y) h = inr (inl h)

end_some : (setting : Setting) (recovers : Bool) (past : List Came) (told : List ToldOf) (now : ℕ) (e : Option ℕ) → IsEndDueOf setting recovers past now e
    → IfSome e (λ d. MayChange setting recovers past told now d)
end_some setting recovers past told now None h = tt
end_some setting recovers past told now (Some z) h = inr (inr h)

pub sooner_changes : (setting : Setting) (recovers : Bool) (past : List Came) (told : List ToldOf) (now : ℕ) (a b e : Option ℕ)
    → IfSome a (λ d. Changes now told d) → IsDueOf setting recovers past now b → IsEndDueOf setting recovers past now e
    → IfSome (earlier (earlier a b) e) (λ d. MayChange setting recovers past told now d)
sooner_changes setting recovers past told now a b e h k l =
    let P : ℕ → Type 0 = λ d. MayChange setting recovers past told now d in
    sooner_some P (earlier a b) e (sooner_some P a b (asks_some setting recovers past told now a h) (due_some setting recovers past told now b k))
    (end_some setting recovers past told now e l)

pub lies_ahead : (now : ℕ) (due : Option ℕ) → IfSome due (λ d. now < d) → IfSome due (λ d. d < 2 ^ 64) → IfSome due (λ d. (now < d) × (d < 2 ^ 64))
lies_ahead now None later fits = tt
lies_ahead now (Some d) later fits = (later, fits)

pub none_kept : (turns : List Turn) → Told [] turns → kept turns ≡ []
none_kept [] h = refl
none_kept (turn ∷ turns) h = absurd h
