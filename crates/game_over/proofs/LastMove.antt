-- Whether the last move stays.
use Rattle.std.proofs.Common.{◌≡◌, ◌<◌, ◌≤◌, ◌+◌, ◌-◌, ◌⊎◌, ◌||◌, inl, inr, not, ℕ, suc, Bool, true, false, IsTrue, List, [], ◌∷◌, ◌++◌, Option, Some, None, length, refl, sym, ap, ◌∙◌, arith}
use Rattle.std.specs.Prelude.{◌↔◌, if◌then◌else◌, slice_get}
use Rattle.std.proofs.lemmas.Bool.{cases_Bool, cases_eq, cases_lt, le-leb, leb-true, true≢false}
use Rattle.std.proofs.lemmas.List.{length-append}
use Rattle.std.proofs.Math.Bool.{or-true}
use Rattle.game_over.specs.declared.made.Made.{Made}
use Rattle.game_over.specs.SettingUp.{LastMoveStays, StoodFor}
use Rattle.game_over.specs.Unfinished.{IsSure, SetsUpFrom, sets_up, stood_for}

long : (span : ℕ) (stood : Option ℕ) → StoodFor span stood → stood_for stood span ≡ true
long span None h = refl
long span (Some stood) h = le-leb span stood h

short : (span : ℕ) (stood : Option ℕ) → (StoodFor span stood → ⊥) → stood_for stood span ≡ false
short span None never = absurd (never tt)
short span (Some stood) never = elim (cases_Bool (stood_for (Some stood) span)) [ inl is ↦ absurd (never (leb-true span stood is)) | inr not ↦ not ]

longer : (stood : Option ℕ) → StoodFor 3000 stood → StoodFor 1000 stood
longer None h = tt
longer (Some stood) h = omega (arith, h)

-- how a move looks that is the last one, by what is known of it
looks : Bool → Bool → Bool → Option ℕ → Bool
looks added home on stood = if added then false else if home then not (stood_for stood 3000) else if stood_for stood 1000 || not on then false else true

played : (added home on : Bool) (stood : Option ℕ)
    → (added ≡ true) ⊎ (StoodFor 3000 stood ⊎ ((home ≡ false) × (StoodFor 1000 stood ⊎ (on ≡ false)))) → looks added home on stood ≡ false
unfolding looks
played true home on stood h = refl
played false home on stood (inl h) = absurd (true≢false (sym h))
played false true on stood (inr (inl h)) = ap not (long 3000 stood h)
played false true on stood (inr (inr h)) = absurd (true≢false h.0)
played false false on stood (inr (inl h)) = ap (λ b. if b || not on then false else true) (long 1000 stood (longer stood h))
played false false on stood (inr (inr (e, inl h))) = ap (λ b. if b || not on then false else true) (long 1000 stood h)
played false false on stood (inr (inr (e, inr h))) = ap (λ b. if stood_for stood 1000 || not b then false else true) h ∙ ap (λ b. if b then false else true) (or-true (stood_for stood 1000))

not_played : (added home on : Bool) (stood : Option ℕ)
    → ((added ≡ true) ⊎ (StoodFor 3000 stood ⊎ ((home ≡ false) × (StoodFor 1000 stood ⊎ (on ≡ false)))) → ⊥) → looks added home on stood ≡ true
unfolding looks
not_played true home on stood never = absurd (never (inl refl))
not_played false true on stood never = ap not (short 3000 stood (λ h. never (inr (inl h))))
not_played false false true stood never = ap (λ b. if b || false then false else true) (short 1000 stood (λ h. never (inr (inr (refl, inl h)))))
not_played false false false stood never = absurd (never (inr (inr (refl, inr refl))))

-- A move that stood for a second and brought no piece home is no part of a set-up, whatever follows.
firm : (added home on changed : Bool) (stood : Option ℕ) → home ≡ false → StoodFor 1000 stood
    → (if added then false else if home then not (stood_for stood 3000) else if stood_for stood 1000 || not on then false else changed) ≡ false
firm true home on changed stood out h = refl
firm false true on changed stood out h = absurd (true≢false out)
firm false false on changed stood out h = ap (λ b. if b || not on then false else changed) (long 1000 stood h)

one_at : (before : List Made) (one last : Made) → slice_get (before ++ one ∷ last ∷ []) (length before) ≡ Some one
one_at [] one last = refl
one_at (made ∷ before) one last = one_at before one last

last_at : (before : List Made) (one last : Made) → slice_get (before ++ one ∷ last ∷ []) (length before + 1) ≡ Some last
last_at [] one last = refl
last_at (made ∷ before) one last =
    let next : suc (length before) + 1 ≡ suc (length before + 1) = omega arith in
    ap (slice_get (made ∷ (before ++ one ∷ last ∷ []))) next ∙ last_at before one last

none_at : (before : List Made) (one last : Made) → slice_get (before ++ one ∷ last ∷ []) (length before + 2) ≡ None
none_at [] one last = refl
none_at (made ∷ before) one last =
    let next : suc (length before) + 2 ≡ suc (length before + 2) = omega arith in
    ap (slice_get (made ∷ (before ++ one ∷ last ∷ []))) next ∙ none_at before one last

is_so : (b : Bool) (P : Type 0) → (IsTrue b ↔ P) → P → b ≡ true
is_so true P iff p = refl
is_so false P iff p = absurd (true≢false (sym (iff.1 p)))

isnt_so : (b : Bool) (P : Type 0) → (IsTrue b ↔ P) → (P → ⊥) → b ≡ false
isnt_so true P iff never = absurd (never (iff.0 refl))
isnt_so false P iff never = refl

many : (before : List Made) (one last : Made) → length (before ++ one ∷ last ∷ []) ≡ length before + 2
many before one last = length-append before (one ∷ last ∷ [])

-- The set-up begins behind the first of the two.
begins_behind : (first : ℕ) (before : List Made) (one last : Made) → one.goes_home ≡ false → StoodFor 1000 one.stood
    → SetsUpFrom first (before ++ one ∷ last ∷ []) → length before < first
begins_behind first before one last out h sets =
    elim (cases_lt (length before) first) [
      | inl less ↦ less
      | inr not ↦
          let is : sets_up one (slice_get (before ++ one ∷ last ∷ []) (length before + 1)) ≡ true =
          sets.each (length before) one not (one_at before one last) in
          absurd (true≢false (sym is ∙ firm one.is_added one.goes_home one.goes_on _ one.stood out h))
    ]

all_stay : (first : ℕ) (before : List Made) (one last : Made) → sets_up last None ≡ false → length before < first
    → SetsUpFrom first (before ++ one ∷ last ∷ []) → first ≡ length before + 2
all_stay first before one last played behind sets =
    let most : first ≤ length (before ++ one ∷ last ∷ []) = sets.within in
    let size : length (before ++ one ∷ last ∷ []) ≡ length before + 2 = many before one last in
    elim (cases_eq first (length before + 2)) [
      | inl e ↦ e
      | inr ne ↦
          let is : sets_up last (slice_get (before ++ one ∷ last ∷ []) (length before + 1 + 1)) ≡ true =
          sets.each (length before + 1) last (omega (arith, ne, most, size)) (last_at before one last) in
          let at : length before + 1 + 1 ≡ length before + 2 = omega arith in
          absurd (true≢false (sym is ∙ ap (λ k. sets_up last (slice_get (before ++ one ∷ last ∷ []) k)) at ∙ ap (sets_up last) (none_at before one last) ∙ played))
    ]

last_goes : (first : ℕ) (before : List Made) (one last : Made) → sets_up last None ≡ true → length before < first
    → SetsUpFrom first (before ++ one ∷ last ∷ []) → first ≡ length before + 1
last_goes first before one last goes behind sets =
    let most : first ≤ length (before ++ one ∷ last ∷ []) = sets.within in
    let size : length (before ++ one ∷ last ∷ []) ≡ length before + 2 = many before one last in
    elim (cases_eq first (length before + 1)) [
      | inl e ↦ e
      | inr ne ↦
          let at : first ≡ length before + 2 = omega (arith, ne, most, size, behind) in
          let back : first - 1 ≡ length before + 1 = omega (arith, at) in
          let isnt : sets_up last (slice_get (before ++ one ∷ last ∷ []) first) ≡ false =
          sets.before (omega (arith, behind)) last (ap (slice_get (before ++ one ∷ last ∷ [])) back ∙ last_at before one last) in
          absurd (true≢false (sym goes ∙ sym (ap (λ k. sets_up last (slice_get (before ++ one ∷ last ∷ []) k)) at ∙ ap (sets_up last) (none_at before one last)) ∙ isnt))
    ]

sure_by : (home is_sure : Bool) (first kept : ℕ) (before : List Made) (one last : Made) → last.goes_home ≡ home → first ≡ length before + 2
    → kept ≡ length before + 2 → (IsTrue is_sure ↔ IsSure first kept (before ++ one ∷ last ∷ [])) → is_sure ≡ not home
sure_by true is_sure first kept before one last out from all iff =
    isnt_so is_sure (IsSure first kept (before ++ one ∷ last ∷ [])) iff (λ sure.
    let back : kept - 1 ≡ length before + 1 = omega (arith, all) in
    true≢false (sym out ∙ sure.last last (ap (slice_get (before ++ one ∷ last ∷ [])) back ∙ last_at before one last)))
sure_by false is_sure first kept before one last out from all iff =
    is_so is_sure (IsSure first kept (before ++ one ∷ last ∷ [])) iff
    record {
      all = all ∙ sym (many before one last);
      some = λ none. absurd (let never : ⊥ = omega (arith, none, from) in never);
      last = λ made there.
          let back : kept - 1 ≡ length before + 1 = omega (arith, all) in
          let same : Some last ≡ Some made = sym (ap (slice_get (before ++ one ∷ last ∷ [])) back ∙ last_at before one last) ∙ there in
          let it : last ≡ made = cc in
          sym (ap (λ (m : Made). m.goes_home) it) ∙ out;
    }

pub last_move_stays : LastMoveStays
unfolding looks
last_move_stays kept is_sure before one last out stood end =
    let behind : length before < end.0 = begins_behind end.0 before one last out stood end.1 in
    let size : length (before ++ one ∷ last ∷ []) ≡ length before + 2 = many before one last in (
      (λ was.
          let from : end.0 ≡ length before + 2 =
          all_stay end.0 before one last (played last.is_added last.goes_home last.goes_on last.stood was) behind end.1 in
          let all : kept ≡ length before + 2 = (end.2).none (from ∙ sym size) ∙ size in
          (all, sure_by last.goes_home is_sure end.0 kept before one last refl from all end.3)),
      (λ never.
          let from : end.0 ≡ length before + 1 =
          last_goes end.0 before one last (not_played last.is_added last.goes_home last.goes_on last.stood never) behind end.1 in
          let back : end.0 - 1 ≡ length before = omega (arith, from) in
          let kept_is : kept ≡ end.0 =
          (end.2).stood (omega (arith, from)) one (ap (slice_get (before ++ one ∷ last ∷ [])) back ∙ one_at before one last) (long 1000 one.stood stood) in (
            kept_is ∙ from,
            isnt_so is_sure (IsSure end.0 kept (before ++ one ∷ last ∷ [])) end.3 (λ sure.
                let all : kept ≡ length (before ++ one ∷ last ∷ []) = sure.all in
                let never : ⊥ = omega (arith, all, size, kept_is, from) in never),
          )),
    )
