-- The same is said of the end of the game.
use Rattle.std.proofs.Common.{◌≡◌, ℕ, inl, inr, Bool, true, false, List, [], ◌∷◌, ◌++◌, Option, refl, sym, ap, subst, ◌∙◌}
use Rattle.board_cable.specs.Whose.{own_number}
use Rattle.board_cable.specs.declared.happened.What.TheVariants.{Begins}
use Rattle.board_cable.specs.Turns.{Turn, told}
use Rattle.board_endings.specs.declared.news.End.{End}
use Rattle.board_game.specs.Ending.{IsEndOf}
use Rattle.board_game.specs.History.{Came}
use Rattle.board_game.specs.Laws.{EndsOnce}
use Rattle.board_events.specs.Settings.{Setting}
use Rattle.game_over.specs.declared.said.Over.{Over}
use Rattle.board_live.specs.declared.happened.What.{What}
use Rattle.board_live.specs.declared.happened.What.TheVariants.{Cable}
use Rattle.board_live.specs.Coming.{came}
use Rattle.board_live.specs.Ending.{IsNews, SaysCount, SaysEnd, SaysNews, SaysOver, last_at}
use Rattle.board_live.specs.Laws.{EndsAlike, as_kept, with_number}
use Rattle.board_live.specs.Moments.{Moment, begins}
use Rattle.board_live.specs.Saying.{is_live, live_by}
use Rattle.board_live.proofs.Alike.{none_told, restarts}
use Rattle.board_live.proofs.Saids.{live_alike}

over_once : (before now a b : Option Over) → SaysOver before now a → SaysOver before now b → a ≡ b
over_once before now a b (inl g) (inl h) = g.1 ∙ sym h.1
over_once before now a b (inl g) (inr h) = absurd (h.0 g.0)
over_once before now a b (inr g) (inl h) = absurd (g.0 h.0)
over_once before now a b (inr g) (inr h) = g.1 ∙ sym h.1

count_once : (before now a b : Option ℕ) → SaysCount before now a → SaysCount before now b → a ≡ b
count_once before now a b (inl g) (inl h) = g.1 ∙ sym h.1
count_once before now a b (inl g) (inr h) = absurd (h.0 g.0)
count_once before now a b (inr g) (inl h) = absurd (g.0 h.0)
count_once before now a b (inr g) (inr h) = g.1 ∙ sym h.1

abbrev end_with : Option Over → Option ℕ → Option ℕ → End
end_with over goes_on begins = record { over = over; goes_on = goes_on; begins = begins }

news_once : (before now a b : End) → IsNews before now a → IsNews before now b → a ≡ b
news_once before now a b g h =
    ap (λ (x : Option Over). end_with x a.goes_on a.begins) (over_once before.over now.over a.over b.over g.over h.over)
    ∙ ap (λ (x : Option ℕ). end_with b.over x a.begins) (count_once before.goes_on now.goes_on a.goes_on b.goes_on g.goes_on h.goes_on)
    ∙ ap (λ (x : Option ℕ). end_with b.over b.goes_on x) (count_once before.begins now.begins a.begins b.begins g.begins h.begins)

says_once : (live first : Bool) (before now a b : End) → SaysNews live first before now a → SaysNews live first before now b → a ≡ b
says_once false first before now a b g h = g ∙ sym h
says_once true true before now a b g h = g ∙ sym h
says_once true false before now a b g h = news_once before now a b g h

-- When a call begins all is said.
all_said : (m : Moment) (live : Bool) (before now said : End) → m.what ≡ Cable Begins → SaysNews (live_by m.what live) (begins m.what) before now said → said ≡ now
all_said m live before now said is h =
    let S : What → Type 0 = λ what. SaysNews (live_by what live) (begins what) before now said in
    subst S is h

pub last_same : (call past other : List Moment) (m : Moment) → last_at (call ++ m ∷ past) ≡ last_at (call ++ m ∷ other)
last_same [] past other m = refl
last_same (one ∷ call) past other m = refl

-- what is said at a moment at which the game stands alike, after it has stood alike
pub end_step : (setting : Setting) (recovers : Bool) (m : Moment) (past other : List Moment) (t u : Turn) (ts us : List Turn) (said again : End)
    → is_live (m ∷ past) ≡ is_live (m ∷ other) → (p : SaysEnd setting recovers m past t ts said) → (q : SaysEnd setting recovers m other u us again)
    → p.before ≡ q.before → p.now ≡ q.now → said ≡ again
end_step setting recovers m past other t u ts us said again live p q was now =
    let L : Bool → Type 0 = λ x. SaysNews x (begins m.what) p.before p.now said in
    let B : End → Type 0 = λ x. SaysNews (is_live (m ∷ other)) (begins m.what) x p.now said in
    let N : End → Type 0 = λ x. SaysNews (is_live (m ∷ other)) (begins m.what) q.before x said in
    says_once (is_live (m ∷ other)) (begins m.what) q.before q.now said again (subst N now (subst B was (subst L live p.said_is))) q.said_is

-- and when a call begins
pub end_begun : (setting : Setting) (recovers : Bool) (m : Moment) (past other : List Moment) (t u : Turn) (ts us : List Turn) (said again : End) → m.what ≡ Cable Begins
    → (p : SaysEnd setting recovers m past t ts said) → (q : SaysEnd setting recovers m other u us again) → p.now ≡ q.now → said ≡ again
end_begun setting recovers m past other t u ts us said again is p q now =
    all_said m (is_live past) p.before p.now said is p.said_is ∙ now ∙ sym (all_said m (is_live other) q.before q.now again is q.said_is)

pub ends_alike : EndsOnce → EndsAlike
ends_alike once setting recovers [] past m before [] others said other valid is first g h p q = absurd p
ends_alike once setting recovers [] past m before (t ∷ ts) [] said other valid is first g h p q = absurd q
ends_alike once setting recovers [] past m before (t ∷ ts) (u ∷ us) said other valid is first g h p q =
    let kept = with_number m.at (own_number (told before)) (as_kept past before) in
    let same = restarts [] past m before t u ts us is first g h in
    let I : List Came → Type 0 = λ has. IsEndOf setting recovers has m.at p.now in
    let now = once setting recovers (came (m ∷ kept) (u ∷ us)) m.at p.now q.now valid (subst I same.came p.now_is) q.now_is in
    all_said m (is_live past) p.before p.now said is p.said_is ∙ now ∙ sym (all_said m (is_live kept) q.before q.now other is q.said_is)
ends_alike once setting recovers (one ∷ call) past m before [] others said other valid is first g h p q = absurd p
ends_alike once setting recovers (one ∷ call) past m before (t ∷ ts) [] said other valid is first g h p q = absurd q
ends_alike once setting recovers (one ∷ call) past m before (t ∷ []) (u ∷ us) said other valid is first g h p q = absurd (none_told m call past g.0)
ends_alike once setting recovers (one ∷ call) past m before (t ∷ (v ∷ vs)) (u ∷ []) said other valid is first g h p q =
    absurd (none_told m call (with_number m.at (own_number (told before)) (as_kept past before)) h.0)
ends_alike once setting recovers (one ∷ call) past m before (t ∷ (v ∷ vs)) (u ∷ (w ∷ ws)) said other valid is first g h p q =
    let kept = with_number m.at (own_number (told before)) (as_kept past before) in
    let all = restarts (one ∷ call) past m before t u (v ∷ vs) (w ∷ ws) is first g h in
    let sooner = restarts call past m before v w vs ws is first g.0 h.0 in
    let I : List Came → Type 0 = λ has. IsEndOf setting recovers has one.at p.now in
    let now : p.now ≡ q.now = once setting recovers (came (one ∷ call ++ m ∷ kept) (u ∷ (w ∷ ws))) one.at p.now q.now valid (subst I all.came p.now_is) q.now_is in
    let J : List Came → Type 0 = λ has. IsEndOf setting recovers has (last_at (call ++ m ∷ past)) p.before in
    let K : ℕ → Type 0 = λ at. IsEndOf setting recovers (came (call ++ m ∷ kept) (w ∷ ws)) at p.before in
    let was : p.before ≡ q.before = once setting recovers (came (call ++ m ∷ kept) (w ∷ ws)) (last_at (call ++ m ∷ kept)) p.before q.before valid
    (subst K (last_same call past kept m) (subst J sooner.came p.before_is)) q.before_is in
    let L : Bool → Type 0 = λ live. SaysNews live (begins one.what) p.before p.now said in
    let B : End → Type 0 = λ x. SaysNews (is_live (one ∷ call ++ m ∷ kept)) (begins one.what) x p.now said in
    let N : End → Type 0 = λ x. SaysNews (is_live (one ∷ call ++ m ∷ kept)) (begins one.what) q.before x said in
    says_once (is_live (one ∷ call ++ m ∷ kept)) (begins one.what) q.before q.now said other (subst N now (subst B was (subst L (live_alike (one ∷ call) past kept m is) p.said_is))) q.said_is
