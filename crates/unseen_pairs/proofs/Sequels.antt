-- What goes on from a position.
use Rattle.std.proofs.Common.{◌≡◌, ◌↔◌, ℕ, ◌<◌, ◌≤◌, ◌+◌, inl, inr, List, [], Option, Some, None, Contains, get_or, length, replicate, slice_index_or, Result, Ok, Err, IfOk, IfNone, sym, ap, subst, ◌∙◌, arith}
use Rattle.std.proofs.lemmas.Bool.{cases_eq}
use Rattle.std.specs.declared.alloc.AllocError.{AllocError}
use Rattle.std.proofs.lemmas.List.{get_or-replicate, get_or_default}
use Rattle.std.specs.Int.{bit_at}
use Rattle.settle_core.specs.Masks.{IsDiff, IsShown}
use Rattle.chess_rules.specs.declared.parts.Parts.{Parts}
use Rattle.settle_core.specs.declared.plies.Seen.{Seen}
use Rattle.settle_core.specs.declared.plies.Seen.TheVariants.{Same, Moved, Sign, Replaced, Waits}
use Rattle.chess_rules.specs.declared.chess_move.Move.{Move}
use Rattle.chess_rules.specs.Picture.{picture}
use Rattle.chess_rules.specs.Valid.{Valid}
use Rattle.settle_core.proofs.Once.{shows_once}
use Rattle.settle_core.specs.declared.plies.Outcome.{Outcome}
use Rattle.settle_core.specs.Sign.{InCentre, IsSign}
use Rattle.settle_core.specs.Settling.{Settles}
use Rattle.settle_core.specs.Folding.{Score, SeenAs, moves_of}
use Rattle.settle_core.specs.Settler.{ReturnsSeen, ReturnsNewSeen}
use Rattle.unseen_pairs.specs.declared.confirming.Candidate.{Candidate}
use Rattle.unseen_pairs.specs.declared.confirming.Confirmed.{Confirmed}
use Rattle.unseen_pairs.specs.Pairs.{BringsNew, GoesOn, ShowsNew}
use Rattle.unseen_pairs.specs.Inside.Waiting.{AreShown, Follows, FoundBelow, IsOlder, IsOnlyOne, ShowsKing}

new_alone : (p : Parts) (seen : List ℕ) (a : Seen) → ReturnsNewSeen p [] seen a → SeenAs p [] seen a
new_alone p seen a h =
    let S : Score → Type 0 = λ s. SeenAs p (moves_of s.plies) seen a in
    subst S (h.1).1 (h.1).2

-- where pieces landed, the picture shows new ones
pub new_meets :
    (now : Parts) (before seen : List ℕ) (diff shown : ℕ)
    → before ≡ picture now → IsDiff diff before seen → IsShown shown seen
    → ((s : ℕ) × (s < 64) × (bit_at diff s ≡ 1) × (bit_at shown s ≡ 1)) ↔ ShowsNew now seen
new_meets now before seen diff shown b d t =
    let zero : (s : ℕ) → s < 64 → get_or (replicate 64 0) s 0 ≡ 0 = λ s low. get_or-replicate 64 s 0 0 low in
    let at : (s : ℕ) → get_or before s 0 ≡ get_or (picture now) s 0 = λ s. ap (λ (xs : List ℕ). get_or xs s 0) b in (
      λ h. record {
        square = h.0;
        low = h.1;
        some = λ e. (t h.0 h.1).0 h.3 (zero h.0 h.1 ∙ sym e);
        new = λ e. (d h.0 h.1).0 h.2 (at h.0 ∙ sym e);
      },
      λ h. (
        h.square,
        h.low,
        (d h.square h.low).1 (λ e. h.new (sym e ∙ at h.square)),
        (t h.square h.low).1 (λ e. h.some (sym e ∙ zero h.square h.low)),
      ),
    )

-- what a settler that has seen nothing returns
pub alone : (p : Parts) (seen : List ℕ) (a : Seen) → ReturnsSeen p [] seen a → SeenAs p [] seen a
alone p seen Same h = absurd (let n : ⊥ = cc in n)
alone p seen (Moved m) h = new_alone p seen (Moved m) h
alone p seen (Sign outcome) h = new_alone p seen (Sign outcome) h
alone p seen (Replaced m) h = new_alone p seen (Replaced m) h
alone p seen Waits h = new_alone p seen Waits h

pub alone_result :
    (p : Parts) (seen : List ℕ) (r : Result Seen AllocError) → IfOk r (ReturnsSeen p [] seen) → IfOk r (SeenAs p [] seen)
alone_result p seen (Ok a) h = alone p seen a h
alone_result p seen (Err e) h = tt

pub waits_none : (now p : Parts) (seen : List ℕ) → SeenAs p [] seen Waits → (a : Seen) → ¬ GoesOn now p seen a
waits_none now p seen h (Moved m) g = h.0 m g.0
waits_none now p seen h (Sign outcome) g = h.1 outcome g.0
waits_none now p seen h (Replaced m) g = g
waits_none now p seen h Waits g = g
waits_none now p seen h Same g = g

-- Nor does anything go on where the picture is a sign, and the pair put no piece down.
pub sign_none : (now p : Parts) (seen : List ℕ) (outcome : Outcome) → Valid p → ¬ ShowsNew now (picture p) → SeenAs p [] seen (Sign outcome) → (a : Seen) → ¬ GoesOn now p seen a
sign_none now p seen outcome v none h (Moved m) g = let never : ⊥ = cc (shows_once p [] seen (Moved m) (Sign outcome) v g.0 h) in never
sign_none now p seen outcome v none h (Sign other) g = none g.1
sign_none now p seen outcome v none h (Replaced m) g = g
sign_none now p seen outcome v none h Waits g = g
sign_none now p seen outcome v none h Same g = g

-- where White's king does not stand in the centre, the picture is no sign
no_king : (seen : List ℕ) (s : ℕ) → ¬ ShowsKing seen → InCentre s → get_or seen s 0 ≡ 5 → ⊥
no_king seen s none (inl (inl e)) h = none (inr (inr (inr (ap (λ n. get_or seen n 0) (sym e) ∙ h))))
no_king seen s none (inl (inr e)) h = none (inl (ap (λ n. get_or seen n 0) (sym e) ∙ h))
no_king seen s none (inr (inl e)) h = none (inr (inr (inl (ap (λ n. get_or seen n 0) (sym e) ∙ h))))
no_king seen s none (inr (inr e)) h = none (inr (inl (ap (λ n. get_or seen n 0) (sym e) ∙ h)))

-- Nor does a move go on where neither the pair nor this put a piece on a new square.
pub moved_none : (now p : Parts) (seen : List ℕ) (m : Move) → Valid p → ¬ BringsNew now p seen → SeenAs p [] seen (Moved m) → (a : Seen) → ¬ GoesOn now p seen a
moved_none now p seen m v none h (Moved n) g = none g.1
moved_none now p seen m v none h (Sign other) g = let never : ⊥ = cc (shows_once p [] seen (Moved m) (Sign other) v h g.0) in never
moved_none now p seen m v none h (Replaced n) g = g
moved_none now p seen m v none h Waits g = g
moved_none now p seen m v none h Same g = g

pub settled_none :
    (now : Parts) (c : Candidate) (seen : List ℕ) → ¬ ShowsKing seen → ¬ BringsNew now c.after seen
    → (a : Seen) → ¬ Follows now c seen a
settled_none now c seen none old (Moved n) f = old (f.goes).1
settled_none now c seen none old (Sign outcome) f =
    let i : IsSign c.after seen outcome = (f.goes).0 in no_king seen i.white_king none (i.white).centre (i.white).stands
settled_none now c seen none old (Replaced n) f = f.goes
settled_none now c seen none old Waits f = f.goes
settled_none now c seen none old Same f = f.goes

pub nothing_goes : (now p : Parts) (seen : List ℕ) → ¬ ShowsKing seen → ((m : Move) → ¬ Settles p seen m) → (a : Seen) → ¬ GoesOn now p seen a
nothing_goes now p seen none never (Moved m) g = never m g.0
nothing_goes now p seen none never (Sign outcome) g = let i : IsSign p seen outcome = g.0 in no_king seen i.white_king none (i.white).centre (i.white).stands
nothing_goes now p seen none never (Replaced m) g = g
nothing_goes now p seen none never Waits g = g
nothing_goes now p seen none never Same g = g

-- so nothing follows on a candidate
pub nothing_follows :
    (now : Parts) (c : Candidate) (seen : List ℕ)
    → ¬ ShowsKing seen → (c.shown ≡ picture c.after → (m : Move) → ¬ Settles c.after seen m) → (a : Seen) → ¬ Follows now c seen a
nothing_follows now c seen none never a f = nothing_goes now c.after seen none (never f.shown) a f.goes

pub none_follow :
    (now : Parts) (c : Candidate) (seen : List ℕ) (r : Option Seen)
    → IfNone r ((a : Seen) → ¬ GoesOn now c.after seen a) → IfNone r ((a : Seen) → ¬ Follows now c seen a)
none_follow now c seen (Some a) h = tt
none_follow now c seen None h = λ a f. h a f.goes

same_age : (a b : ℕ) → a ≡ b → a ≤ b
same_age a b e = omega arith

no_older : (a b c : ℕ) → a ≤ b → b ≤ c → a ≤ c
no_older a b c g h = omega arith

-- the first candidates, and one more
pub found_more :
    (now : Parts) (cs : List Candidate) (seen : List ℕ) (i : ℕ) (c : Candidate) (found : Option Confirmed)
    → i < length cs
    → c ≡ slice_index_or cs i c
    → ((a : Seen) → ¬ Follows now c seen a)
    → FoundBelow now cs seen i found
    → FoundBelow now cs seen (i + 1) found
found_more now cs seen i c None low is never h = λ d a k below at g.
    elim (cases_eq k i) [
      | inr ne ↦ h d a k (omega arith) at g
      | inl e ↦
          let q : d ≡ c = sym at ∙ ap (λ j. slice_index_or cs j d) e ∙ get_or_default cs i d c low ∙ sym is in
          never a (subst (λ (z : Candidate). Follows now z seen a) q g)
    ]
found_more now cs seen i c (Some one) low is never h = (
  h.0,
  h.1,
  λ d a k below at g.
      elim (cases_eq k i) [
        | inr ne ↦ h.2 d a k (omega arith) at g
        | inl e ↦
            let q : d ≡ c = sym at ∙ ap (λ j. slice_index_or cs j d) e ∙ get_or_default cs i d c low ∙ sym is in
            absurd (never a (subst (λ (z : Candidate). Follows now z seen a) q g))
      ],
)

-- the first one that goes on
pub found_first :
    (now : Parts) (cs : List Candidate) (seen : List ℕ) (i : ℕ) (one : Confirmed)
    → i < length cs
    → one.candidate ≡ slice_index_or cs i one.candidate
    → GoesOn now one.candidate.after seen one.sequel
    → FoundBelow now cs seen i None
    → FoundBelow now cs seen (i + 1) (Some one)
found_first now cs seen i one low is goes h = (
  (i, low, sym is),
  goes,
  λ d a k below at g.
      elim (cases_eq k i) [
        | inr ne ↦ absurd (h d a k (omega arith) at g)
        | inl e ↦
            let q : d ≡ one.candidate = sym at ∙ ap (λ j. slice_index_or cs j d) e ∙ get_or_default cs i d one.candidate low ∙ sym is in
            (ap (λ (z : Candidate). z.pair) q, same_age d.age one.candidate.age (ap (λ (z : Candidate). z.age) q))
      ],
)

-- one more of the same pair
pub found_again :
    (now : Parts) (cs : List Candidate) (seen : List ℕ) (i : ℕ) (one two found : Confirmed)
    → i < length cs
    → two.candidate ≡ slice_index_or cs i two.candidate
    → GoesOn now two.candidate.after seen two.sequel
    → one.candidate.pair ≡ two.candidate.pair
    → IsOlder one two found
    → FoundBelow now cs seen i (Some one)
    → FoundBelow now cs seen (i + 1) (Some found)
found_again now cs seen i one two found low is goes same old h =
    let pair : found.candidate.pair ≡ one.candidate.pair = elim old.one [
      | inl e ↦ ap (λ (z : Confirmed). z.candidate.pair) e
      | inr e ↦ ap (λ (z : Confirmed). z.candidate.pair) e ∙ sym same
    ] in
    let In : Confirmed → Type 0 = λ (z : Confirmed). Contains cs z.candidate in
    let On : Confirmed → Type 0 = λ (z : Confirmed). GoesOn now z.candidate.after seen z.sequel in (
      elim old.one [ inl e ↦ subst In (sym e) h.0 | inr e ↦ subst In (sym e) (i, low, sym is) ],
      elim old.one [ inl e ↦ subst On (sym e) h.1 | inr e ↦ subst On (sym e) goes ],
      λ d a k below at g.
          elim (cases_eq k i) [
            | inr ne ↦
                let before = h.2 d a k (omega arith) at g in
                (before.0 ∙ sym pair, no_older d.age one.candidate.age found.candidate.age before.1 old.first)
            | inl e ↦
                let q : d ≡ two.candidate = sym at ∙ ap (λ j. slice_index_or cs j d) e ∙ get_or_default cs i d two.candidate low ∙ sym is in (
                  ap (λ (z : Candidate). z.pair) q ∙ sym same ∙ sym pair,
                  no_older d.age two.candidate.age found.candidate.age (same_age d.age two.candidate.age (ap (λ (z : Candidate). z.age) q)) old.second,
                )
          ],
    )

-- two that go on with two pairs
pub found_two :
    (now : Parts) (cs : List Candidate) (seen : List ℕ) (i : ℕ) (c : Candidate) (a : Seen) (one : Confirmed)
    → i < length cs
    → c ≡ slice_index_or cs i c
    → GoesOn now c.after seen a
    → (one.candidate.pair ≡ c.pair → ⊥)
    → FoundBelow now cs seen i (Some one)
    → (any : Confirmed) → AreShown cs → ¬ IsOnlyOne now cs seen any
found_two now cs seen i c a one low is goes differ h any shown only =
    let first : Follows now one.candidate seen one.sequel = record { shown = shown one.candidate h.0; goes = h.1 } in
    let second : Follows now c seen a = record { shown = shown c (i, low, sym is); goes = goes } in
    differ (only.alone one.candidate one.sequel h.0 first ∙ sym (only.alone c a (i, low, sym is) second))

pub found_none :
    (now : Parts) (cs : List Candidate) (seen : List ℕ) (i : ℕ)
    → i ≡ length cs → FoundBelow now cs seen i None → (any : Confirmed) → AreShown cs → ¬ IsOnlyOne now cs seen any
found_none now cs seen i end h any shown only =
    let at = only.listed in
    h any.candidate any.sequel at.0 (rw end at.1) at.2 (record { shown = shown any.candidate only.listed; goes = only.goes_on })

pub found_all :
    (now : Parts) (cs : List Candidate) (seen : List ℕ) (i : ℕ) (found : Option Confirmed)
    → i ≤ length cs → length cs ≤ i → FoundBelow now cs seen i found → IfNone found ((any : Confirmed) → AreShown cs → ¬ IsOnlyOne now cs seen any)
found_all now cs seen i (Some one) low high h = tt
found_all now cs seen i None low high h = let end : i ≡ length cs = omega arith in found_none now cs seen i end h

pub found_one : (now : Parts) (cs : List Candidate) (seen : List ℕ) (i : ℕ) (one : Confirmed) → i ≡ length cs → FoundBelow now cs seen i (Some one) → IsOnlyOne now cs seen one
found_one now cs seen i one end h = record {
  listed = h.0;
  goes_on = h.1;
  alone = λ c a at g. let both = h.2 c a at.0 (rw end at.1) at.2 g in both.0;
  oldest = λ c a at g. let both = h.2 c a at.0 (rw end at.1) at.2 g in both.1;
}
