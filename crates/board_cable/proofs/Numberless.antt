-- A game whose board's number isn't known gets what is sent, as it comes.
use Rattle.std.proofs.Common.{◌≡◌, ℕ, Bool, true, false, List, [], ◌∷◌, ◌++◌, Option, Some, None, is_some, refl, sym, ap, ap₂, ◌∙◌}
use Rattle.std.specs.Prelude.{if◌then◌else◌}
use Rattle.board_cable.specs.declared.whose.Handling.{Handling}
use Rattle.board_cable.specs.declared.whose.Handling.TheVariants.{Keep}
use Rattle.board_cable.specs.Whose.{awaited_at, dumps_since, handling_by, is_awaited, own_number, shown_number}
use Rattle.board_cable.specs.Keeping.{are_same, aside, aside_by, ends_aside, ends_held, held, held_by, kept_by, owner, released_by}
use Rattle.board_cable.specs.Laws.{IsKeptWithoutNumber}
use Rattle.board_cable.specs.Moments.{Moment, is_heard, sent, stream}
use Rattle.board_cable.specs.Turns.{Told, Turn, handling_of, request_of, told}
use Rattle.board_cable.proofs.Owned.{own_asked, owned_told}

kept_by_none : (awaited : Bool) (shown : Option (List ℕ)) → handling_by awaited None shown ≡ Keep
kept_by_none true shown = refl
kept_by_none false shown = refl

keeps : (turn : Turn) → own_number turn.now ≡ None → handling_of turn ≡ Keep
keeps turn none =
    let awaited = is_awaited turn.moment.at (awaited_at turn.now) (dumps_since turn.now) in
    ap (λ own. handling_by awaited own (shown_number turn.now)) none ∙ kept_by_none awaited (shown_number turn.now)

none_before : (before now : Option (List ℕ)) → (is_some before ≡ true → is_some now ≡ true) → now ≡ None → before ≡ None
none_before None now stays none = refl
none_before (Some own) now stays none = absurd (let never : true ≡ false = sym (stays refl) ∙ ap is_some none in cc)

-- It wasn't known before.
none_told : (m : Moment) (past : List Moment) (turn : Turn) (turns : List Turn) → Told (m ∷ past) (turn ∷ turns) → own_number turn.now ≡ None
    → own_number (told turns) ≡ None
none_told m past turn turns h none =
    none_before (own_number (told turns)) (own_number turn.now)
    (owned_told (is_heard m.what) m (stream past) (told turns) turn.now h.2) none

-- So nothing is kept back.
empty : (past : List Moment) (turns : List Turn) → Told past turns → own_number (told turns) ≡ None → (held turns ≡ []) × (aside turns ≡ [])
empty past [] h none = (refl, refl)
empty [] (turn ∷ turns) h none = absurd h
empty (m ∷ past) (turn ∷ turns) h none =
    let now : own_number turn.now ≡ None = sym (own_asked turn.moment.at (request_of turn) turn.now) ∙ none in
    let keep = keeps turn now in
    let come = (if ends_held turn.moment.what then [] else held turns) ++ sent turn.moment in (
      ap (λ handling. held_by handling come) keep,
      ap (λ handling. aside_by handling (owner turns) (if ends_aside turn.moment.what then [] else aside turns) come) keep,
    )

nothing : (b : Bool) (xs : List ℕ) → xs ≡ [] → (if b then [] else xs) ≡ []
nothing true xs e = refl
nothing false xs e = e

given : (b : Bool) (xs : List ℕ) → xs ≡ [] → (if b then xs else []) ≡ []
given true xs e = e
given false xs e = refl

plain : (handling : Handling) (own before : Option (List ℕ)) (a h s : List ℕ) → handling ≡ Keep → a ≡ [] → h ≡ []
    → kept_by handling (released_by handling own before a h) s ≡ s
plain handling own before a h s keep none nothing =
    ap (λ x. kept_by x (released_by x own before a h) s) keep ∙ ap₂ (λ x y. (x ++ y) ++ s) (given (are_same before own) a none) nothing

pub numberless : IsKeptWithoutNumber
numberless [] turn turns h none = absurd h
numberless (m ∷ past) turn turns h none =
    let before = empty past turns h.0 (none_told m past turn turns h none) in
    plain (handling_of turn) (own_number turn.now) (owner turns) (if ends_aside turn.moment.what then [] else aside turns)
    (if ends_held turn.moment.what then [] else held turns) (sent turn.moment) (keeps turn none)
    (nothing (ends_aside turn.moment.what) (aside turns) before.1) (nothing (ends_held turn.moment.what) (held turns) before.0)
