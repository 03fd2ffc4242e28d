-- The candidates after one more entry.
use Rattle.std.proofs.Common.{◌≡◌, ◌≢◌, ◌↔◌, ℕ, zero, suc, ◌<◌, ◌≤◌, ◌+◌, ◌-◌, ◌^◌, Bool, true, false, inl, inr, List, [], ◌∷◌, ◌++◌, Option, Some, Result, Ok, Err, OnOk, Contains, length, slice_get, slice_index_or, slice_set, swap_remove, refl, sym, ap, subst, ◌∙◌, arith, add-one}
use Rattle.std.proofs.lemmas.Bool.{cases_Bool, cases_eq}
use Rattle.std.proofs.lemmas.List.{get_or-set_other, get_or-set_same, get_or-take, get_or_default, length-set, length-take-le}
use Rattle.std.proofs.lemmas.List.Elements.{Contains-append_left, Contains-push, Contains-push_cases}
use Rattle.std.proofs.lemmas.Option.{same_Some}
use Rattle.chess_clock.specs.declared.times.Reading.{Reading}
use Rattle.chess_rules.specs.declared.chess_move.Move.{Move}
use Rattle.chess_rules.specs.declared.parts.Parts.{Parts}
use Rattle.chess_rules.specs.After.{after}
use Rattle.chess_rules.specs.Valid.{Valid}
use Rattle.chess_rules.specs.Legal.{Legal}
use Rattle.chess_rules.specs.Picture.{picture}
use Rattle.settle_core.specs.declared.plies.Seen.TheVariants.{Waits}
use Rattle.settle_core.specs.Entries.{Entry}
use Rattle.settle_core.specs.Settling.{Played, reached}
use Rattle.settle_core.specs.declared.plies.Ply.{Ply}
use Rattle.settle_core.specs.Folding.{SeenAs, moves_of}
use Rattle.settle_core.proofs.Stages.{valid_reached}
use Rattle.unseen_pairs.specs.declared.pair.Pair.{Pair}
use Rattle.unseen_pairs.specs.declared.pair.TwoPlies.{TwoPlies}
use Rattle.unseen_pairs.specs.declared.confirming.Candidate.{Candidate}
use Rattle.unseen_pairs.specs.Pairs.{Explains, ExplainsAt, IsAfterTwo, IsBack, IsInstead, IsMissedIn, begins, ends, root}
use Rattle.unseen_pairs.specs.Candidates.{IsCandidate, ListsCandidates}
use Rattle.unseen_pairs.specs.Inside.Waiting.{AddedBelow, AreAdded, AreAllAdded, AreKept, IsKept, IsKeptAt, IsNew, KeptFrom, aged}
use Rattle.std.specs.Int.RustNames.{count_ones}
use Rattle.settle_core.specs.Masks.{IsDiff}
use Rattle.unseen_pairs.proofs.Counting.{two_change, two_correct}
use Rattle.unseen_pairs.proofs.Losing.{correcting_loses, hides_two, other_loses}
use Rattle.unseen_pairs.proofs.Putting.{settles_own}
use Rattle.chess_rules.specs.declared.pieces.Side.{Side}
use Rattle.chess_rules.specs.Board.{other as other_side}
use Rattle.chess_rules.proofs.Replacing.{other-other}
use Rattle.settle_core.specs.Lost.{Loses, MayHideTwo}

-- All candidates, before any was looked at.
pub kept_none : (p : Parts) (seen : List ℕ) (old : List Candidate) → KeptFrom p seen old (length old) old
kept_none p seen old = record {
  fits = omega arith;
  within = omega arith;
  below = λ k c low. refl;
  sound = λ c k high low at. absurd (let n : ⊥ = omega arith in n);
  whole = λ b k high low at kept. absurd (let n : ⊥ = omega arith in n);
}

-- One more, which is kept.
kept_one_more :
    (p : Parts) (seen : List ℕ) (old now new : List Candidate) (n : ℕ) (c : Candidate)
    → KeptFrom p seen old (n + 1) now
    → c ≡ slice_index_or now n c
    → IsKept p seen c
    → new ≡ slice_set now n (aged c)
    → KeptFrom p seen old n new
kept_one_more p seen old now new n c h is kept put =
    let fits : n + 1 ≤ length now = h.fits in
    let within : n + 1 ≤ length old = h.within in
    let long : length new ≡ length now = ap length put ∙ length-set now n (aged c) in
    let other : (k : ℕ) (d : Candidate) → k ≢ n → slice_index_or new k d ≡ slice_index_or now k d = λ k d ne.
    ap (λ (xs : List Candidate). slice_index_or xs k d) put ∙ get_or-set_other now n k (aged c) d ne in
    let same : (d : Candidate) → slice_index_or new n d ≡ aged c = λ d.
    ap (λ (xs : List Candidate). slice_index_or xs n d) put ∙ get_or-set_same now n (aged c) d (omega arith) in
    let stood : slice_index_or old n c ≡ c = sym (h.below n c (omega arith)) ∙ sym is in
    record {
      fits = omega arith;
      within = omega arith;
      below = λ k d low. other k d (λ e. absurd (let bad : ⊥ = omega arith in bad)) ∙ h.below k d (omega arith);
      sound = λ x k high low at.
          elim (cases_eq k n) [
            | inl e ↦ (c, (n, (let l : n < length old = omega arith in l), stood), kept, sym at ∙ ap (λ j. slice_index_or new j x) e ∙ same x)
            | inr ne ↦ h.sound x k (omega arith) (omega arith) (sym (other k x ne) ∙ at)
          ];
      whole = λ b k high low at stays.
          elim (cases_eq k n) [
            | inl e ↦
                let q : b ≡ c = sym at ∙ ap (λ j. slice_index_or old j b) e ∙ get_or_default old n b c (omega arith) ∙ stood in
                (n, omega arith, omega arith, same (aged b) ∙ ap aged (sym q))
            | inr ne ↦
                let j = h.whole b k (omega arith) low at stays in (
                  j.0,
                  (let j1 : n + 1 ≤ j.0 = j.1 in omega arith),
                  (let j2 : j.0 < length now = j.2 in omega arith),
                  other j.0 (aged b) (λ e. absurd (let j1 : n + 1 ≤ j.0 = j.1 in let bad : ⊥ = omega arith in bad)) ∙ j.3,
                )
          ];
    }

-- One more, which is not.
kept_one_fewer :
    (p : Parts) (seen : List ℕ) (old now new : List Candidate) (n : ℕ) (c : Candidate)
    → KeptFrom p seen old (n + 1) now
    → c ≡ slice_index_or now n c
    → ¬ IsKept p seen c
    → new ≡ swap_remove now n c
    → KeptFrom p seen old n new
kept_one_fewer p seen old now new n c h is gone put =
    let fits : n + 1 ≤ length now = h.fits in
    let within : n + 1 ≤ length old = h.within in
    let last : Candidate = slice_index_or now (length now - 1) c in
    let long : length new ≡ length now - 1 =
    ap length put ∙ length-take-le (length now - 1) (slice_set now n last) (let l : length (slice_set now n last) ≡ length now = length-set now n last in omega arith) in
    let at_set : (k : ℕ) (d : Candidate) → k < length now - 1 → slice_index_or new k d ≡ slice_index_or (slice_set now n last) k d = λ k d low.
    ap (λ (xs : List Candidate). slice_index_or xs k d) put ∙ get_or-take (length now - 1) (slice_set now n last) k d low in
    let other : (k : ℕ) (d : Candidate) → k ≢ n → k < length now - 1 → slice_index_or new k d ≡ slice_index_or now k d = λ k d ne low.
    at_set k d low ∙ get_or-set_other now n k last d ne in
    let same : (d : Candidate) → n < length now - 1 → slice_index_or new n d ≡ slice_index_or now (length now - 1) d = λ d low.
    at_set n d low ∙ get_or-set_same now n last d (omega arith) ∙ get_or_default now (length now - 1) c d (omega arith) in
    let stood : slice_index_or old n c ≡ c = sym (h.below n c (omega arith)) ∙ sym is in
    record {
      fits = omega arith;
      within = omega arith;
      below = λ k d low. other k d (λ e. absurd (let bad : ⊥ = omega arith in bad)) (omega arith) ∙ h.below k d (omega arith);
      sound = λ x k high low at.
          elim (cases_eq k n) [
            | inl e ↦
                h.sound x (length now - 1) (omega arith) (omega arith)
                (sym (same x (omega arith)) ∙ ap (λ j. slice_index_or new j x) (sym e) ∙ at)
            | inr ne ↦ h.sound x k (omega arith) (omega arith) (sym (other k x ne (omega arith)) ∙ at)
          ];
      whole = λ b k high low at stays.
          elim (cases_eq k n) [
            | inl e ↦
                let q : b ≡ c = sym at ∙ ap (λ j. slice_index_or old j b) e ∙ get_or_default old n b c (omega arith) ∙ stood in
                absurd (gone (subst (λ (z : Candidate). IsKept p seen z) q stays))
            | inr ne ↦
                let j = h.whole b k (omega arith) low at stays in
                let j1 : n + 1 ≤ j.0 = j.1 in
                let j2 : j.0 < length now = j.2 in
                elim (cases_eq j.0 (length now - 1)) [
                  | inl e ↦ (n, omega arith, omega arith, same (aged b) (omega arith) ∙ ap (λ i. slice_index_or now i (aged b)) (sym e) ∙ j.3)
                  | inr ne' ↦ (
                    j.0,
                    (let l : n ≤ j.0 = omega arith in l),
                    (let l : j.0 < length new = omega arith in l),
                    other j.0 (aged b) (λ e. absurd (let bad : ⊥ = omega arith in bad)) (omega arith) ∙ j.3,
                  )
                ]
          ];
    }

pub kept_more :
    (p : Parts) (seen : List ℕ) (old now new : List Candidate) (n : ℕ) → KeptFrom p seen old (n + 1) now → IsKeptAt p seen n now new → KeptFrom p seen old n new
kept_more p seen old now new n h at =
    elim at.2 [
      | inl kept ↦ kept_one_more p seen old now new n at.0 h at.1 kept.0 kept.1
      | inr gone ↦ kept_one_fewer p seen old now new n at.0 h at.1 gone.0 gone.1
    ]

pub kept_all :
    (p : Parts) (seen : List ℕ) (old : List Candidate) (n : ℕ) (new : List Candidate) → n ≡ 0 → KeptFrom p seen old n new → AreKept p seen old new
kept_all p seen old n new end h = record {
  sound = λ c k. h.sound c k.0 (omega arith) k.1 k.2;
  whole = λ b k stays. let j = h.whole b k.0 (omega arith) k.1 k.2 stays in (j.0, j.2, j.3);
}

-- the first pairs, and one more
pub added_none : (corrects : Bool) (p : Parts) (reading : Option Reading) (xs : List TwoPlies) (old : List Candidate) → AddedBelow corrects p reading xs 0 old old
added_none corrects p reading xs old = record {
  sound = λ c h. inl h;
  keeps = λ c h. h;
  whole = λ x k low. absurd (let n : ⊥ = omega arith in n);
}

pub added_more :
    (corrects : Bool) (p : Parts) (reading : Option Reading) (xs : List TwoPlies) (n : ℕ) (old now new : List Candidate) (x : TwoPlies) (c : Candidate)
    → n < length xs
    → x ≡ slice_index_or xs n x
    → IsNew corrects p reading x c
    → new ≡ now ++ c ∷ []
    → AddedBelow corrects p reading xs n old now
    → AddedBelow corrects p reading xs (n + 1) old new
added_more corrects p reading xs n old now new x c low is one add h =
    let In : Candidate → List Candidate → Type 0 = λ d ds. Contains ds d in
    record {
      sound = λ d k.
          elim (Contains-push_cases now c d (subst (In d) add k)) [
            | inl before ↦ h.sound d before
            | inr e ↦ inr (x, (n, low, sym is), subst (λ (z : Candidate). IsNew corrects p reading x z) e one)
          ];
      keeps = λ d k. subst (In d) (sym add) (Contains-append_left now (c ∷ []) d (h.keeps d k));
      whole = λ y k below at.
          elim (cases_eq k n) [
            | inr ne ↦
                let found = h.whole y k (omega arith) at in
                (found.0, subst (In found.0) (sym add) (Contains-append_left now (c ∷ []) found.0 found.1), found.2)
            | inl e ↦
                let q : y ≡ x = sym at ∙ ap (λ j. slice_index_or xs j y) e ∙ get_or_default xs n y x low ∙ sym is in
                (c, subst (In c) (sym add) (Contains-push now c), subst (λ (z : TwoPlies). IsNew corrects p reading z c) (sym q) one)
          ];
    }

pub added_all :
    (corrects : Bool) (p : Parts) (seen : List ℕ) (reading : Option Reading) (xs : List TwoPlies) (n : ℕ) (old new : List Candidate)
    → n ≡ length xs
    → ((x : TwoPlies) → Contains xs x ↔ IsAfterTwo p seen x.first x.second)
    → AddedBelow corrects p reading xs n old new
    → AreAdded corrects p seen reading old new
added_all corrects p seen reading xs n old new end lists h = record {
  sound = λ c k.
      elim (h.sound c k) [
        | inl before ↦ inl before
        | inr x ↦ inr (x.0, let each = lists x.0 in each.0 x.1, x.2)
      ];
  keeps = h.keeps;
  whole = λ x two.
      let each = lists x in
      let at : Contains xs x = each.1 two in
      h.whole x at.0 (rw end at.1) at.2;
}

-- a candidate, one entry later
gone_more :
    (start : Parts) (moves : List Move) (waiting : List Entry) (entry : Entry) (pair : Pair) (n : ℕ)
    → ¬ IsBack (reached start moves) (ends start moves pair) entry.picture
    → ((k : ℕ) (later : Entry) → k < n → slice_get waiting k ≡ Some later → ¬ IsBack (reached start moves) (ends start moves pair) later.picture)
    → (k : ℕ) (later : Entry) → k < n + 1 → slice_get (entry ∷ waiting) k ≡ Some later
    → ¬ IsBack (reached start moves) (ends start moves pair) later.picture
gone_more start moves waiting entry pair n now before zero later low e =
    let same : entry ≡ later = same_Some entry later e in
    subst (λ (z : Entry). ¬ IsBack (reached start moves) (ends start moves pair) z.picture) same now
gone_more start moves waiting entry pair n now before (suc k) later low e = before k later (omega arith) e

is_aged :
    (start : Parts) (moves : List Move) (waiting : List Entry) (entry : Entry) (c : Candidate)
    → IsKept (reached start moves) entry.picture c → IsCandidate start moves waiting c → IsCandidate start moves (entry ∷ waiting) (aged c)
is_aged start moves waiting entry c kept h =
    let young : c.age < 255 = kept.young in
    let now : ¬ IsBack (reached start moves) (ends start moves c.pair) entry.picture =
    subst (λ (q : Parts). ¬ IsBack (reached start moves) q entry.picture) h.after_is
    (subst (λ (left : List ℕ). ¬ IsMissedIn (picture (reached start moves)) left entry.picture) h.shown_is kept.gone) in
    record {
      entry = h.entry;
      at = record {
        low = omega arith;
        waits = rw add-one (h.at).waits;
        explains = (h.at).explains;
        gone = gone_more start moves waiting entry c.pair c.age now (h.at).gone;
      };
      reading_is = h.reading_is;
      before_is = h.before_is;
      middle_is = h.middle_is;
      after_is = h.after_is;
      shown_is = h.shown_is;
    }

pair_is : (pair : Pair) (corrects : Bool) (m n : Move) → pair.corrects ≡ corrects → pair.first ≡ m → pair.second ≡ n
    → pair ≡ record { corrects = corrects; first = m; second = n }
pair_is pair corrects m n a b c =
    ap (λ (x : Bool). record pair { corrects = x }) a
    ∙ ap (λ (x : Move). record pair { corrects = corrects; first = x }) b
    ∙ ap (λ (x : Move). record pair { corrects = corrects; first = m; second = x }) c

-- one that is new
is_new :
    (start : Parts) (moves : List Move) (waiting : List Entry) (entry : Entry) (corrects : Bool) (x : TwoPlies) (c : Candidate)
    → IsAfterTwo (reached start (root corrects moves)) entry.picture x.first x.second
    → (corrects ≡ true → IsInstead moves x.first)
    → IsNew corrects (reached start (root corrects moves)) entry.reading x c
    → IsCandidate start moves (entry ∷ waiting) c
is_new start moves waiting entry corrects x c two instead h =
    let pair : Pair = record { corrects = corrects; first = x.first; second = x.second } in
    let q : c.pair ≡ pair = pair_is c.pair corrects x.first x.second h.corrects_is h.first_is h.second_is in
    let at : ExplainsAt start moves (entry ∷ waiting) pair 0 entry = record {
      low = omega arith;
      waits = refl;
      explains = record { after_two = two; instead = instead };
      gone = λ k later low. absurd (let n : ⊥ = omega arith in n);
    } in
    record {
      entry = entry;
      at = subst (λ n. ExplainsAt start moves (entry ∷ waiting) c.pair n entry) (sym h.age_is) (subst (λ (z : Pair). ExplainsAt start moves (entry ∷ waiting) z 0 entry) (sym q) at);
      reading_is = h.reading_is;
      before_is = h.before_is ∙ ap (λ (z : Pair). begins start moves z) (sym q);
      middle_is = h.middle_is ∙ ap (λ (z : Pair). after (begins start moves z) z.first) (sym q);
      after_is = h.after_is ∙ ap (λ (z : Pair). ends start moves z) (sym q);
      shown_is = h.shown_is;
    }

-- Where a picture waits, no pair with the last move in it explains it: the second ply alone would be settled.
another :
    (start : Parts) (last : Move) (earlier : List Move) (seen : List ℕ) (m n : Move)
    → Valid start
    → Played start (last ∷ earlier)
    → SeenAs start (last ∷ earlier) seen Waits
    → IsAfterTwo (reached start earlier) seen m n
    → m ≢ last
another start last earlier seen m n v played waits two e =
    let p : Parts = reached start (last ∷ earlier) in
    let same : after (reached start earlier) m ≡ p = ap (after (reached start earlier)) e in
    let l : Legal p n = subst (λ (q : Parts). Legal q n) same two.second in
    let shows : seen ≡ picture (after p n) = two.shows ∙ ap (λ (q : Parts). picture (after q n)) same in
    let own = settles_own p n (valid_reached start (last ∷ earlier) v played) l in
    waits.0 n (record { legal = l; shows = shows; alone = λ k a b. own.alone k a (sym shows ∙ b) })

old_one :
    (start : Parts) (moves : List Move) (waiting : List Entry) (entry : Entry) (old kept : List Candidate) (c : Candidate)
    → ListsCandidates start moves waiting old
    → AreKept (reached start moves) entry.picture old kept
    → Contains kept c
    → IsCandidate start moves (entry ∷ waiting) c
old_one start moves waiting entry old kept c lists are k =
    let b = are.sound c k in
    subst (λ (z : Candidate). IsCandidate start moves (entry ∷ waiting) z) (sym b.3) (is_aged start moves waiting entry b.0 b.2 (lists.each b.0 b.1))

one_of :
    (start : Parts) (moves : List Move) (waiting : List Entry) (entry : Entry) (old kept one : List Candidate) (c : Candidate)
    → ListsCandidates start moves waiting old
    → AreKept (reached start moves) entry.picture old kept
    → AreAdded false (reached start moves) entry.picture entry.reading kept one
    → Contains one c
    → IsCandidate start moves (entry ∷ waiting) c
one_of start moves waiting entry old kept one c lists are add k =
    elim (add.sound c k) [
      | inl before ↦ old_one start moves waiting entry old kept c lists are before
      | inr x ↦ is_new start moves waiting entry false x.0 c x.1 (λ e. absurd (let f : ⊥ = cc in f)) x.2
    ]

-- an entry before is explained by one that was kept
kept_one :
    (start : Parts) (moves : List Move) (waiting : List Entry) (entry : Entry) (old kept : List Candidate) (pair : Pair) (k : ℕ) (other : Entry)
    → ListsCandidates start moves waiting old
    → AreKept (reached start moves) entry.picture old kept
    → ExplainsAt start moves (entry ∷ waiting) pair (suc k) other
    → (c : Candidate) × Contains kept c × (c.pair ≡ pair) × (c.age ≡ suc k)
kept_one start moves waiting entry old kept pair k other lists are at =
    let low : suc k < 256 = at.low in
    let b = lists.whole pair k other (record { low = omega arith; waits = at.waits; explains = at.explains; gone = λ j later less e. at.gone (suc j) later (omega arith) e }) in
    let age : (b.0).age ≡ k = b.3 in
    let is : IsCandidate start moves waiting b.0 = lists.each b.0 b.1 in
    let now : ¬ IsBack (reached start moves) (ends start moves pair) entry.picture = at.gone 0 entry (omega arith) refl in
    let after : (b.0).after ≡ ends start moves pair = is.after_is ∙ ap (λ (z : Pair). ends start moves z) b.2 in
    let gone : ¬ IsMissedIn (picture (reached start moves)) (b.0).shown entry.picture =
    subst (λ (left : List ℕ). ¬ IsMissedIn (picture (reached start moves)) left entry.picture) (sym is.shown_is)
    (subst (λ (q : Parts). ¬ IsBack (reached start moves) q entry.picture) (sym after) now) in
    (aged b.0, are.whole b.0 b.1 (record { young = omega arith; gone = gone }), b.2, omega arith)

new_one :
    (corrects : Bool) (p : Parts) (reading : Option Reading) (x : TwoPlies) (pair : Pair) (c : Candidate)
    → pair.corrects ≡ corrects → x.first ≡ pair.first → x.second ≡ pair.second → IsNew corrects p reading x c → c.pair ≡ pair
new_one corrects p reading x pair c a b d h =
    pair_is c.pair corrects pair.first pair.second h.corrects_is (h.first_is ∙ b) (h.second_is ∙ d)
    ∙ sym (pair_is pair corrects pair.first pair.second a refl refl)

-- the entry itself is explained by one that is new
new_whole :
    (corrects : Bool) (start : Parts) (moves : List Move) (waiting : List Entry) (entry : Entry) (old new : List Candidate) (pair : Pair) (other : Entry)
    → pair.corrects ≡ corrects
    → AreAdded corrects (reached start (root corrects moves)) entry.picture entry.reading old new
    → ExplainsAt start moves (entry ∷ waiting) pair 0 other
    → (c : Candidate) × Contains new c × (c.pair ≡ pair) × (c.age ≡ 0)
new_whole corrects start moves waiting entry old new pair other is add at =
    let e : entry ≡ other = same_Some entry other at.waits in
    let x : TwoPlies = record { first = pair.first; second = pair.second } in
    let given : Explains start moves other.picture pair = at.explains in
    let two : IsAfterTwo (reached start (root corrects moves)) entry.picture pair.first pair.second =
    subst (λ (seen : List ℕ). IsAfterTwo (reached start (root corrects moves)) seen pair.first pair.second) (sym (ap (λ (z : Entry). z.picture) e))
    (subst (λ (b : Bool). IsAfterTwo (reached start (root b moves)) other.picture pair.first pair.second) is given.after_two) in
    let found = add.whole x two in
    (found.0, found.1, new_one corrects (reached start (root corrects moves)) entry.reading x pair found.0 is refl refl found.2, (found.2).age_is)

whole_at :
    (start : Parts) (moves : List Move) (waiting : List Entry) (entry : Entry) (old kept last : List Candidate) (pair : Pair) (place : ℕ) (other : Entry)
    → ListsCandidates start moves waiting old
    → AreKept (reached start moves) entry.picture old kept
    → ((c : Candidate) → Contains kept c → Contains last c)
    → (ExplainsAt start moves (entry ∷ waiting) pair 0 other → (c : Candidate) × Contains last c × (c.pair ≡ pair) × (c.age ≡ 0))
    → ExplainsAt start moves (entry ∷ waiting) pair place other
    → (c : Candidate) × Contains last c × (c.pair ≡ pair) × (c.age ≡ place)
whole_at start moves waiting entry old kept last pair zero other lists are keeps new at = new at
whole_at start moves waiting entry old kept last pair (suc k) other lists are keeps new at =
    let c = kept_one start moves waiting entry old kept pair k other lists are at in
    (c.0, keeps c.0 c.1, c.2, c.3)

-- Where no move was made, the candidates after one more entry.
pub lists_first :
    (start : Parts) (waiting : List Entry) (entry : Entry) (old kept one : List Candidate)
    → ListsCandidates start [] waiting old
    → AreKept (reached start []) entry.picture old kept
    → AreAdded false start entry.picture entry.reading kept one
    → ListsCandidates start [] (entry ∷ waiting) one
lists_first start waiting entry old kept one lists are add = record {
  each = λ c k. one_of start [] waiting entry old kept one c lists are add k;
  whole = λ pair place other at.
      elim (cases_Bool pair.corrects) [
        | inl is ↦ absurd ((at.explains).instead is)
        | inr is ↦
            whole_at start [] waiting entry old kept one pair place other lists are add.keeps
            (λ h. new_whole false start [] waiting entry kept one pair other is add h) at
      ];
}

-- Where moves were made.
pub lists_more :
    (start : Parts) (last : Move) (earlier : List Move) (waiting : List Entry) (entry : Entry) (old kept one two : List Candidate)
    → Valid start
    → Played start (last ∷ earlier)
    → SeenAs start (last ∷ earlier) entry.picture Waits
    → ListsCandidates start (last ∷ earlier) waiting old
    → AreKept (reached start (last ∷ earlier)) entry.picture old kept
    → AreAdded false (reached start (last ∷ earlier)) entry.picture entry.reading kept one
    → AreAdded true (reached start earlier) entry.picture entry.reading one two
    → ListsCandidates start (last ∷ earlier) (entry ∷ waiting) two
lists_more start last earlier waiting entry old kept one two v played waits lists are add more =
    let moves : List Move = last ∷ earlier in
    record {
      each = λ c k.
          elim (more.sound c k) [
            | inl before ↦ one_of start moves waiting entry old kept one c lists are add before
            | inr x ↦
                is_new start moves waiting entry true x.0 c x.1
                (λ e. another start last earlier entry.picture (x.0).first (x.0).second v played waits x.1) x.2
          ];
      whole = λ pair place other at.
          whole_at start moves waiting entry old kept two pair place other lists are (λ c k. more.keeps c (add.keeps c k))
          (λ h.
          elim (cases_Bool pair.corrects) [
            | inl is ↦ new_whole true start moves waiting entry one two pair other is more h
            | inr is ↦
                let found = new_whole false start moves waiting entry kept one pair other is add h in
                (found.0, more.keeps found.0 found.1, found.2, found.3)
          ]) at;
    }

-- The candidates after one more entry, whether moves were made or not.
pub lists_next :
    (start : Parts) (plies : List Ply) (waiting : List Entry) (entry : Entry) (old kept one two : List Candidate)
    → Valid start
    → Played start (moves_of plies)
    → SeenAs start (moves_of plies) entry.picture Waits
    → ListsCandidates start (moves_of plies) waiting old
    → AreKept (reached start (moves_of plies)) entry.picture old kept
    → AreAdded false (reached start (moves_of plies)) entry.picture entry.reading kept one
    → ((ply : Ply) (earlier : List Ply) → plies ≡ ply ∷ earlier → AreAdded true (reached start (moves_of earlier)) entry.picture entry.reading one two)
    → (plies ≡ [] → two ≡ one)
    → ListsCandidates start (moves_of plies) (entry ∷ waiting) two
lists_next start [] waiting entry old kept one two v played waits lists are add more none =
    let C : List Candidate → Type 0 = λ cs. ListsCandidates start [] (entry ∷ waiting) cs in
    subst C (sym (none refl)) (lists_first start waiting entry old kept one lists are add)
lists_next start (ply ∷ earlier) waiting entry old kept one two v played waits lists are add more none =
    lists_more start ply.mv (moves_of earlier) waiting entry old kept one two v played waits lists are add (more ply earlier refl)

-- Where no piece of the side that is not to move has left its square, no pair explains the picture.
pub none_added :
    (corrects : Bool) (p : Parts) (seen : List ℕ) (reading : Option Reading) (old : List Candidate)
    → ((m n : Move) → ¬ IsAfterTwo p seen m n) → AreAdded corrects p seen reading old old
none_added corrects p seen reading old never = record {
  sound = λ c k. inl k;
  keeps = λ c k. k;
  whole = λ x two. absurd (never x.first x.second two);
}

none_corrects :
    (start : Parts) (last : Move) (earlier : List Move) (seen : List ℕ) (m n : Move)
    → Valid start
    → Played start (last ∷ earlier)
    → SeenAs start (last ∷ earlier) seen Waits
    → ¬ Loses (reached start (last ∷ earlier)) seen (other_side (reached start (last ∷ earlier)).side)
    → ¬ IsAfterTwo (reached start earlier) seen m n
none_corrects start last earlier seen m n v played waits none two =
    let p : Parts = reached start earlier in
    let L : Side → Type 0 = λ (side : Side). ¬ Loses (after p last) seen side in
    correcting_loses p last m n seen (valid_reached start earlier v played.1) played.0 two
    (another start last earlier seen m n v played waits two) (subst L (other-other p.side) none)

pub none_left :
    (start : Parts) (plies : List Ply) (seen : List ℕ) (reading : Option Reading) (old : List Candidate)
    → Valid start
    → Played start (moves_of plies)
    → SeenAs start (moves_of plies) seen Waits
    → ¬ Loses (reached start (moves_of plies)) seen (other_side (reached start (moves_of plies)).side)
    → AreAllAdded start plies seen reading old old
none_left start plies seen reading old v played waits none =
    let p : Parts = reached start (moves_of plies) in
    let P : List Ply → Type 0 = λ ps. Played start (moves_of ps) in
    let S : List Ply → Type 0 = λ ps. SeenAs start (moves_of ps) seen Waits in
    let N : List Ply → Type 0 = λ ps. ¬ Loses (reached start (moves_of ps)) seen (other_side (reached start (moves_of ps)).side) in
    record {
      one = old;
      next = none_added false p seen reading old (λ m n two. none (other_loses p m n seen (valid_reached start (moves_of plies) v played) two));
      more = λ ply earlier e.
          none_added true (reached start (moves_of earlier)) seen reading old
          (λ m n two. none_corrects start ply.mv (moves_of earlier) seen m n v (subst P e played) (subst S e waits) (subst N e none) two);
      none = λ e. refl;
    }

-- Nor does one where no two plies may be hidden, from the position or from the one before the last ply.
pub none_hidden :
    (start : Parts) (plies : List Ply) (seen : List ℕ) (reading : Option Reading) (old : List Candidate)
    → Valid start
    → Played start (moves_of plies)
    → ¬ MayHideTwo (reached start (moves_of plies)) seen
    → ((ply : Ply) (earlier : List Ply) → plies ≡ ply ∷ earlier → ¬ MayHideTwo (reached start (moves_of earlier)) seen)
    → AreAllAdded start plies seen reading old old
none_hidden start plies seen reading old v played none before =
    let p : Parts = reached start (moves_of plies) in
    let P : List Ply → Type 0 = λ ps. Played start (moves_of ps) in
    record {
      one = old;
      next = none_added false p seen reading old (λ m n two. none (hides_two p m n seen (valid_reached start (moves_of plies) v played) two));
      more = λ ply earlier e.
          let q : Parts = reached start (moves_of earlier) in
          let line : Played start (moves_of (ply ∷ earlier)) = subst P e played in
          none_added true q seen reading old (λ m n two. before ply earlier e (hides_two q m n seen (valid_reached start (moves_of earlier) v line.1) two));
      none = λ e. refl;
    }

-- Nor does one where more squares differ than three plies change.
pub none_near :
    (start : Parts) (plies : List Ply) (seen : List ℕ) (reading : Option Reading) (old : List Candidate) (mask : ℕ)
    → Valid start
    → Played start (moves_of plies)
    → mask < 2 ^ 64
    → IsDiff mask (picture (reached start (moves_of plies))) seen
    → 12 < count_ones mask
    → AreAllAdded start plies seen reading old old
none_near start plies seen reading old mask v played low diff many =
    let p : Parts = reached start (moves_of plies) in
    let P : List Ply → Type 0 = λ ps. Played start (moves_of ps) in
    let D : List Ply → Type 0 = λ ps. IsDiff mask (picture (reached start (moves_of ps))) seen in
    record {
      one = old;
      next = none_added false p seen reading old
          (λ m n two.
          let few : count_ones mask ≤ 8 = two_change p m n (picture p) seen mask (valid_reached start (moves_of plies) v played) two refl low diff in
          let never : ⊥ = omega arith in never);
      more = λ ply earlier e.
          none_added true (reached start (moves_of earlier)) seen reading old
          (λ m n two.
          let before : Played start (moves_of (ply ∷ earlier)) = subst P e played in
          let few : count_ones mask ≤ 12 =
          two_correct (reached start (moves_of earlier)) ply.mv m n seen mask (valid_reached start (moves_of earlier) v before.1) before.0 two low (subst D e diff) in
          let never : ⊥ = omega arith in never);
      none = λ e. refl;
    }

pub all_added :
    {X E : Type 0} (r : Result X E) (start : Parts) (plies : List Ply) (seen : List ℕ) (reading : Option Reading) (old one new : List Candidate)
    → AreAdded false (reached start (moves_of plies)) seen reading old one
    → ((ply : Ply) (earlier : List Ply) → plies ≡ ply ∷ earlier → OnOk r (AreAdded true (reached start (moves_of earlier)) seen reading one new))
    → (plies ≡ [] → OnOk r (new ≡ one))
    → OnOk r (AreAllAdded start plies seen reading old new)
all_added (Ok x) start plies seen reading old one new next more none = record { one = one; next = next; more = more; none = none }
all_added (Err e) start plies seen reading old one new next more none = tt

pub valid_before :
    (start : Parts) (plies : List Ply) (ply : Ply) (earlier : List Ply)
    → Valid start → Played start (moves_of plies) → plies ≡ ply ∷ earlier → Valid (reached start (moves_of earlier))
valid_before start plies ply earlier v played e =
    let P : List Ply → Type 0 = λ ps. Played start (moves_of ps) in
    let line : Played start (moves_of (ply ∷ earlier)) = subst P e played in
    valid_reached start (moves_of earlier) v line.1

-- Where more squares differ than two plies change.
pub none_within :
    (corrects : Bool) (p : Parts) (seen : List ℕ) (reading : Option Reading) (old : List Candidate) (mask : ℕ)
    → Valid p → mask < 2 ^ 64 → IsDiff mask (picture p) seen → 8 < count_ones mask → AreAdded corrects p seen reading old old
none_within corrects p seen reading old mask v low diff many =
    none_added corrects p seen reading old
    (λ m n two.
    let few : count_ones mask ≤ 8 = two_change p m n (picture p) seen mask v two refl low diff in
    let never : ⊥ = omega arith in never)

-- Where no two plies may be hidden.
pub none_between :
    (corrects : Bool) (p : Parts) (seen : List ℕ) (reading : Option Reading) (old : List Candidate)
    → Valid p → ¬ MayHideTwo p seen → AreAdded corrects p seen reading old old
none_between corrects p seen reading old v none = none_added corrects p seen reading old (λ m n two. none (hides_two p m n seen v two))
