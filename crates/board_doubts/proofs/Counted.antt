-- How many moves were made while the clock was stopped.
use Rattle.std.proofs.Common.{◌≡◌, ◌≤◌, ◌+◌, ◌==◌, ◌&&◌, ◌||◌, not, ℕ, min, Bool, true, false, List, [], ◌∷◌, ◌++◌, Option, Some, None, refl, sym, ap, ◌∙◌, arith}
use Rattle.std.specs.Prelude.{if◌then◌else◌, is_some}
use Rattle.std.proofs.lemmas.Bool.{ne_eqb, true≢false}
use Rattle.square_runs.specs.Lasting.{has_lasted}
use Rattle.board_doubts.specs.declared.heard.Event.{Event}
use Rattle.board_doubts.specs.declared.heard.Heard.{Heard}
use Rattle.board_doubts.specs.declared.heard.Heard.TheVariants.{Moves, Clock, Looked}
use Rattle.board_doubts.specs.declared.stopped_clock.Tried.{Tried}
use Rattle.board_doubts.specs.Clock.{ago, ago_by, is_stopped, most, seen_late, stands_since, tried, tried_by, tries_by}
use Rattle.board_doubts.specs.Laws.{StaysStopped, leaves_stopped}
use Rattle.board_doubts.specs.Meaning.{TriedMovesAreCounted, made_in, made_of, move_of, moves_in}
use Rattle.board_doubts.proofs.FirstTried.{StandsFrom, stands_unmoved}
use Rattle.board_doubts.proofs.Stops.{Stopped, is_so, stopped_by, stopped_in}

-- So many moves are counted, and the last ply before them was made so many plies ago.
abbrev Counts : ℕ → ℕ → List Event → Type 0
Counts made all past = (tried past ≡ made + 1) × (ago past ≡ all + 1)

least : (n : ℕ) → n ≤ 9998 → min most (n + 1) ≡ n + 1
least n low = omega (arith, low)

counts_move : (added stopped : Bool) (made all before ago_before : ℕ) → stopped ≡ true → before ≡ made + 1 → ago_before ≡ all + 1 → all ≤ 9997 → made ≤ all
    → ((if added then before else if stopped then min most (before + 1) else 0) ≡ (made + (if added then 0 else 1)) + 1)
    × ((if (before == 0) && not added then 1 else min most (ago_before + 1)) ≡ (all + 1) + 1)
counts_move true stopped made all before ago_before s t a low less = (
  omega (arith, t),
  ap (λ b. if b && false then 1 else min most (ago_before + 1)) (ne_eqb before 0 (λ e. let never : ⊥ = omega (arith, e, t) in never)) ∙ omega (arith, a, low),
)
counts_move false true made all before ago_before s t a low less = (
  omega (arith, t, low, less),
  ap (λ b. if b && true then 1 else min most (ago_before + 1)) (ne_eqb before 0 (λ e. let never : ⊥ = omega (arith, e, t) in never)) ∙ omega (arith, a, low),
)
counts_move false false made all before ago_before s t a low less = absurd (true≢false (sym s))

counts_by : (what : Heard) (added stopped : Bool) (made all before ago_before : ℕ) → leaves_stopped what ≡ true → stopped ≡ true → before ≡ made + 1
    → ago_before ≡ all + 1 → all ≤ 9997 → made ≤ all
    → (tried_by what added stopped before ≡ (made + (if added then 0 else move_of what)) + 1)
    × (ago_by what added (before == 0) ago_before ≡ (all + move_of what) + 1)
counts_by (Moves repeats) added stopped made all before ago_before leaves s t a low less = counts_move added stopped made all before ago_before s t a low less
counts_by (Clock true) added stopped made all before ago_before leaves s t a low less = absurd (true≢false (sym leaves))
counts_by (Clock false) true stopped made all before ago_before leaves s t a low less = (omega (arith, t), omega (arith, a))
counts_by (Clock false) false stopped made all before ago_before leaves s t a low less = (omega (arith, t), omega (arith, a))
counts_by Looked added stopped made all before ago_before leaves s t a low less = absurd (true≢false (sym leaves))
counts_by _ true stopped made all before ago_before leaves s t a low less = (omega (arith, t), omega (arith, a))
counts_by _ false stopped made all before ago_before leaves s t a low less = (omega (arith, t), omega (arith, a))

no_more : (added : Bool) (one made all : ℕ) → made ≤ all → made + (if added then 0 else one) ≤ all + one
no_more true one made all low = omega (arith, low)
no_more false one made all low = omega (arith, low)

fewer_one : (event : Event) (made all : ℕ) → made ≤ all → made + made_of event ≤ all + move_of event.what
fewer_one event made all low = no_more event.is_added (move_of event.what) made all low

fewer : (later : List Event) → made_in later ≤ moves_in later
fewer [] = omega arith
fewer (event ∷ later) = fewer_one event (made_in later) (moves_in later) (fewer later)

counts_in : (later base : List Event) → StaysStopped later → Stopped base → Counts 0 0 base → moves_in later ≤ 9997
    → Counts (made_in later) (moves_in later) (later ++ base)
counts_in [] base stays h counts low = counts
counts_in (event ∷ later) base stays h counts low =
    let fits : moves_in later ≤ 9997 = omega (arith, low) in
    let before = counts_in later base stays.1 h counts fits in
    counts_by event.what event.is_added (is_stopped (later ++ base)) (made_in later) (moves_in later) (tried (later ++ base)) (ago (later ++ base)) stays.0
    (is_so (later ++ base) (stopped_in later base stays.1 h)) before.0 before.1 fits (fewer later)

first_counts : (first : Event) (repeats : Bool) (since : ℕ) (past : List Event) → StandsFrom since past → first.what ≡ Moves repeats → first.is_added ≡ false
    → Counts 0 0 (first ∷ past)
first_counts first repeats since past h moves made =
    let stopped : is_stopped past ≡ true = is_so past (h.run, ap (λ (o : Option ℕ). is_some o) h.stands, h.heard) in (
      ap (λ what. tried_by what first.is_added (is_stopped past) (tried past)) moves
          ∙ ap (λ b. if b then tried past else if is_stopped past then min most (tried past + 1) else 0) made
          ∙ ap (λ b. if b then min most (tried past + 1) else 0) stopped ∙ ap (λ n. min most (n + 1)) h.none,
      ap (λ what. ago_by what first.is_added (tried past == 0) (ago past)) moves
          ∙ ap (λ b. if (tried past == 0) && not b then 1 else min most (ago past + 1)) made
          ∙ ap (λ n. if (n == 0) && true then 1 else min most (ago past + 1)) h.none,
    )

pub tried_moves_are_counted : TriedMovesAreCounted
tried_moves_are_counted next first stop start repeats again past before between later runs quiet says leaves stays moves made too own low =
    let base : List Event = between ++ stop ∷ (before ++ start ∷ past) in
    let since : StandsFrom stop.at base = stands_unmoved stop start past before between runs quiet says leaves in
    let here : Stopped base = (since.run, ap (λ (o : Option ℕ). is_some o) since.stands, since.heard) in
    let after : Stopped (first ∷ base) = stopped_by first base (ap leaves_stopped moves) here in
    let all : List Event = later ++ first ∷ base in
    let counts : Counts (made_in later) (moves_in later) all = counts_in later (first ∷ base) stays after (first_counts first repeats stop.at base since moves made) low in
    let still : is_stopped all ≡ true = is_so all (stopped_in later (first ∷ base) stays after) in
    let fewer_made : made_in later ≤ moves_in later = fewer later in
    let next_counts =
    counts_move false true (made_in later) (moves_in later) (tried all) (ago all) refl counts.0 counts.1 low fewer_made in
    let moves_are : tried (next ∷ all) ≡ made_in later + 2 =
    ap (λ what. tried_by what next.is_added (is_stopped all) (tried all)) too ∙ ap (λ b. if b then tried all else if is_stopped all then min most (tried all + 1) else 0) own
    ∙ ap (λ b. if b then min most (tried all + 1) else 0) still ∙ next_counts.0 ∙ omega arith in
    let plies_are : ago (next ∷ all) ≡ moves_in later + 2 =
    ap (λ what. ago_by what next.is_added (tried all == 0) (ago all)) too ∙ ap (λ b. if (tried all == 0) && not b then 1 else min most (ago all + 1)) own
    ∙ next_counts.1 ∙ omega arith in
    let given : Option Tried = Some (record { moves = tried (next ∷ all); plies = ago (next ∷ all) }) in
    let late : Bool = has_lasted seen_late next.at (stands_since all) in
    ap (λ what. tries_by what next all) too
    ∙ ap (λ b. if not b && (is_stopped all && (not (tried all == 0) || late)) then given else None) own
    ∙ ap (λ b. if b && (not (tried all == 0) || late) then given else None) still
    ∙ ap (λ b. if not b || late then given else None) (ne_eqb (tried all) 0 (λ e. let never : ⊥ = omega (arith, e, counts.0) in never))
    ∙ ap (λ n. Some (record { moves = n; plies = ago (next ∷ all) })) moves_are ∙ ap (λ n. Some (record { moves = made_in later + 2; plies = n })) plies_are
