-- One history says one state at each moment, or none.
use Rattle.std.proofs.Common.{◌≡◌, ◌<◌, ◌^◌, ◌==◌, ℕ, Bool, true, false, List, [], ◌∷◌, ◌++◌, Option, Some, None, refl, sym, ap, subst, ◌∙◌, arith}
use Rattle.std.specs.Int.{bit_at}
use Rattle.std.proofs.lemmas.Nat.Bits.{bit_at-lt, same_from_bits_below}
use Rattle.chess_rules.specs.Valid.{Valid}
use Rattle.square_runs.specs.Squares.{Marks}
use Rattle.board_cable.specs.Whose.{is_own, own_number}
use Rattle.board_cable.specs.declared.happened.What.TheVariants.{Begins}
use Rattle.board_cable.specs.Turns.{Told, Turn, told}
use Rattle.board_events.specs.Settings.{Setting}
use Rattle.board_game.specs.Games.{IsStateOf}
use Rattle.board_game.specs.History.{Came}
use Rattle.board_game.specs.Laws.{HearsOnce}
use Rattle.board_standing.specs.declared.heard.Event.{Event as Heard}
use Rattle.board_standing.specs.declared.state.State.{State}
use Rattle.board_standing.specs.States.{hint_at, kind_at, names_at, since_at}
use Rattle.board_live.specs.declared.happened.What.{What}
use Rattle.board_live.specs.declared.happened.What.TheVariants.{Cable}
use Rattle.board_live.specs.Coming.{came}
use Rattle.board_live.specs.Laws.{IsSaidOnce, SaysAlike, as_kept, with_number}
use Rattle.board_live.specs.Moments.{Moment, cabled}
use Rattle.board_live.specs.Saying.{IsRead, IsSaid, Says, SaysAfter, is_live, last_said, live_by, said_before, without_other}
use Rattle.board_live.proofs.Alike.{earlier, restarts}

bits : (x y : ℕ) → x < 2 → y < 2 → (x == 1) ≡ (y == 1) → x ≡ y
bits x y a b h = grind (arith, h)

pub squares_once : (a b : ℕ) (test : ℕ → Bool) → a < 2 ^ 64 → b < 2 ^ 64 → Marks a test → Marks b test → a ≡ b
squares_once a b test fits within g h =
    same_from_bits_below 64 a b fits within (λ s low. bits (bit_at a s) (bit_at b s) (bit_at-lt a s) (bit_at-lt b s) (g s low ∙ sym (h s low)))

pub state_same : (a b : State) → a.kind ≡ b.kind → a.since ≡ b.since → a.squares ≡ b.squares → a.hint ≡ b.hint → a ≡ b
state_same a b k s q h =
    ap (λ x. record a { kind = x }) k ∙ ap (λ x. record a { kind = b.kind; since = x }) s
    ∙ ap (λ x. record a { kind = b.kind; since = b.since; squares = x }) q ∙ ap (λ x. record b { hint = x }) h

pub state_once : HearsOnce → (setting : Setting) (recovers : Bool) (has : List Came) (now : ℕ) (a b : State) → Valid setting.start
    → a.squares < 2 ^ 64 → b.squares < 2 ^ 64 → IsStateOf setting recovers has now a → IsStateOf setting recovers has now b → a ≡ b
state_once once setting recovers has now a b valid fits within g h =
    let same : g.heard ≡ h.heard = once setting recovers has g.heard h.heard valid g.is_heard h.is_heard in
    let M : List Heard → Type 0 = λ heard. Marks a.squares (names_at now heard) in
    state_same a b (g.kind ∙ ap (λ x. kind_at now x) same ∙ sym h.kind) (g.since ∙ ap (λ x. since_at now x) same ∙ sym h.since)
    (squares_once a.squares b.squares (names_at now h.heard) fits within (subst M same g.squares) h.squares) (g.hint ∙ ap (λ x. hint_at now x) same ∙ sym h.hint)

-- The same is read of both boards, if the same is known of the numbers, and both stand alike.
pub read_same : (setting : Setting) (recovers : Bool) (past other : List Moment) (ts us : List Turn) (now later : ℕ) (a b : State)
    → a.squares < 2 ^ 64 → b.squares < 2 ^ 64 → is_own (told ts) ≡ is_own (told us)
    → ((x y : State) → x.squares < 2 ^ 64 → y.squares < 2 ^ 64 → IsStateOf setting recovers (came past ts) now x → IsStateOf setting recovers (came other us) later y → x ≡ y)
    → IsRead setting recovers past ts now a → IsRead setting recovers other us later b → a ≡ b
read_same setting recovers past other ts us now later a b fits within own same g h =
    let F : State → Type 0 = λ s. s.squares < 2 ^ 64 in
    let stand : g.0 ≡ h.0 = same g.0 h.0 (subst F g.2 fits) (subst F h.2 within) g.1 h.1 in
    g.2 ∙ ap (λ x. without_other x g.0) own ∙ ap (λ x. without_other (is_own (told us)) x) stand ∙ sym h.2

says_after_once : (before : Option State) (state : State) (said other : Option State) → SaysAfter before state said → SaysAfter before state other → said ≡ other
says_after_once None state said other g h = g ∙ sym h
says_after_once (Some before) state None None g h = refl
says_after_once (Some before) state None (Some now) g h = absurd (g h.0)
says_after_once (Some before) state (Some now) None g h = absurd (h g.0)
says_after_once (Some before) state (Some now) (Some then_now) g h = ap (λ (x : State). Some x) (g.1 ∙ sym h.1)

says_once : (live : Bool) (before : Option State) (state : State) (said other : Option State) → Says live before state said → Says live before state other → said ≡ other
says_once true before state said other g h = says_after_once before state said other g h
says_once false before state said other g h = g ∙ sym h

-- what is said at a moment at which the state is the same, after the same was said last
pub said_step : (what : What) (live second : Bool) (state next : State) (before earlier said other last final : Option State) → live ≡ second → state ≡ next
    → said_before what before ≡ said_before what earlier → Says live (said_before what before) state said → Says second (said_before what earlier) next other
    → last ≡ last_said said (said_before what before) → final ≡ last_said other (said_before what earlier) → (said ≡ other) × (last ≡ final)
said_step what live second state next before earlier said other last final l s b g h p q =
    let L : Bool → Type 0 = λ x. Says x (said_before what before) state said in
    let S : State → Type 0 = λ x. Says second (said_before what before) x said in
    let B : Option State → Type 0 = λ x. Says second x next said in
    let same : said ≡ other = says_once second (said_before what earlier) next said other (subst B b (subst S s (subst L l g))) h in
    (same, p ∙ ap (λ x. last_said x (said_before what before)) same ∙ ap (λ x. last_said other x) b ∙ sym q)

pub said_once : HearsOnce → IsSaidOnce
said_once once setting recovers [] turns said other last final valid g h = (g.0 ∙ sym h.0, g.1 ∙ sym h.1)
said_once once setting recovers (m ∷ past) [] said other last final valid g h = absurd g
said_once once setting recovers (m ∷ past) (turn ∷ turns) said other last final valid g h =
    let before = said_once once setting recovers past turns g.1 h.1 g.2 h.2 valid g.3 h.3 in
    let states : g.0 ≡ h.0 = read_same setting recovers (m ∷ past) (m ∷ past) (turn ∷ turns) (turn ∷ turns) m.at m.at g.0 h.0 g.5 h.5 refl
    (λ x y a b i j. state_once once setting recovers (came (m ∷ past) (turn ∷ turns)) m.at x y valid a b i j) g.4 h.4 in
    said_step m.what (is_live (m ∷ past)) (is_live (m ∷ past)) g.0 h.0 g.2 h.2 said other last final refl states (ap (λ x. said_before m.what x) before.1) g.6 h.6 g.7 h.7

pub live_alike : (call past other : List Moment) (m : Moment) → m.what ≡ Cable Begins → is_live (call ++ m ∷ past) ≡ is_live (call ++ m ∷ other)
live_alike [] past other m is = ap (λ w. live_by w (is_live past)) is ∙ sym (ap (λ w. live_by w (is_live other)) is)
live_alike (one ∷ call) past other m is = ap (λ b. live_by one.what b) (live_alike call past other m is)

pub first_said : (m : Moment) (before earlier : Option State) → m.what ≡ Cable Begins → said_before m.what before ≡ said_before m.what earlier
first_said m before earlier is = ap (λ w. said_before w before) is ∙ sym (ap (λ w. said_before w earlier) is)

said_alike : HearsOnce → (setting : Setting) (recovers : Bool) (call past : List Moment) (m : Moment) (before turns others : List Turn) (said other last final : Option State)
    → Valid setting.start → m.what ≡ Cable Begins → Told (cabled past) before → Told (cabled (call ++ m ∷ past)) turns
    → Told (cabled (call ++ m ∷ with_number m.at (own_number (told before)) (as_kept past before))) others
    → IsSaid setting recovers (call ++ m ∷ past) turns said last
    → IsSaid setting recovers (call ++ m ∷ with_number m.at (own_number (told before)) (as_kept past before)) others other final → (said ≡ other) × (last ≡ final)
said_alike once setting recovers [] past m before [] others said other last final valid is first g h p q = absurd g
said_alike once setting recovers [] past m before (t ∷ ts) [] said other last final valid is first g h p q = absurd h
said_alike once setting recovers [] past m before (t ∷ ts) (u ∷ us) said other last final valid is first g h p q =
    let kept = with_number m.at (own_number (told before)) (as_kept past before) in
    let same = restarts [] past m before t u ts us is first g h in
    let states : p.0 ≡ q.0 = read_same setting recovers (m ∷ past) (m ∷ kept) (t ∷ ts) (u ∷ us) m.at m.at p.0 q.0 p.5 q.5 same.own
    (λ x y a b i j. state_once once setting recovers (came (m ∷ kept) (u ∷ us)) m.at x y valid a b (subst (λ has. IsStateOf setting recovers has m.at x) same.came i) j) p.4 q.4 in
    said_step m.what (is_live (m ∷ past)) (is_live (m ∷ kept)) p.0 q.0 p.2 q.2 said other last final (live_alike [] past kept m is) states (first_said m p.2 q.2 is) p.6 q.6 p.7 q.7
said_alike once setting recovers (one ∷ call) past m before [] others said other last final valid is first g h p q = absurd g
said_alike once setting recovers (one ∷ call) past m before (t ∷ ts) [] said other last final valid is first g h p q = absurd h
said_alike once setting recovers (one ∷ call) past m before (t ∷ ts) (u ∷ us) said other last final valid is first g h p q =
    let kept = with_number m.at (own_number (told before)) (as_kept past before) in
    let same = restarts (one ∷ call) past m before t u ts us is first g h in
    let sooner = said_alike once setting recovers call past m before ts us p.1 q.1 p.2 q.2 valid is first g.0 h.0 p.3 q.3 in
    let states : p.0 ≡ q.0 = read_same setting recovers (one ∷ call ++ m ∷ past) (one ∷ call ++ m ∷ kept) (t ∷ ts) (u ∷ us) one.at one.at p.0 q.0 p.5 q.5 same.own
    (λ x y a b i j. state_once once setting recovers (came (one ∷ call ++ m ∷ kept) (u ∷ us)) one.at x y valid a b (subst (λ has. IsStateOf setting recovers has one.at x) same.came i) j)
    p.4 q.4 in
    said_step one.what (is_live (one ∷ call ++ m ∷ past)) (is_live (one ∷ call ++ m ∷ kept)) p.0 q.0 p.2 q.2 said other last final (live_alike (one ∷ call) past kept m is) states
    (ap (λ x. said_before one.what x) sooner.1) p.6 q.6 p.7 q.7

pub says_alike : HearsOnce → SaysAlike
says_alike once setting recovers call past m before turns others said other last final valid is first g h p q =
    (said_alike once setting recovers call past m before turns others said other last final valid is first g h p q).0
