-- What is kept back at a cable, as one value.
use Rattle.std.proofs.Common.{◌≡◌, ℕ, Bool, true, false, List, [], ◌∷◌, ◌++◌, Option, Some, None, refl, ap, ◌∙◌}
use Rattle.std.specs.Prelude.{if◌then◌else◌}
use Rattle.board_cable.specs.declared.whose.Handling.{Handling}
use Rattle.board_cable.specs.declared.whose.Handling.TheVariants.{Keep}
use Rattle.board_cable.specs.Whose.{handling_by, own_number}
use Rattle.board_cable.specs.Keeping.{are_same, aside, aside_by, ends_aside, ends_held, held, held_by, kept, kept_by, owner, owner_by, released_by}
use Rattle.board_cable.specs.Moments.{Moment, sent}
use Rattle.board_cable.specs.Turns.{Turn, handling_of}

pub record Side : Type 0 where
  pub held : List ℕ
  pub owner : Option (List ℕ)
  pub aside : List ℕ

abbrev pub side_of : List Turn → Side
side_of turns = record { held = held turns; owner = owner turns; aside = aside turns }

abbrev pub nothing : Side
nothing = record { held = []; owner = None; aside = [] }

abbrev next : Handling → Moment → Side → Side
next handling m s = record {
  held = held_by handling ((if ends_held m.what then [] else s.held) ++ sent m);
  owner = owner_by handling s.owner;
  aside = aside_by handling s.owner (if ends_aside m.what then [] else s.aside) ((if ends_held m.what then [] else s.held) ++ sent m);
}

abbrev gets : Handling → Option (List ℕ) → Moment → Side → List ℕ
gets handling own m s = kept_by handling (released_by handling own s.owner (if ends_aside m.what then [] else s.aside) (if ends_held m.what then [] else s.held)) (sent m)

pub same_sides : (t u : Turn) (ts us : List Turn) → t.moment ≡ u.moment → handling_of t ≡ handling_of u → side_of ts ≡ side_of us
    → side_of (t ∷ ts) ≡ side_of (u ∷ us)
same_sides t u ts us m h s =
    ap (λ x. next x t.moment (side_of ts)) h ∙ ap (λ x. next (handling_of u) x (side_of ts)) m ∙ ap (λ x. next (handling_of u) u.moment x) s

pub same_kept : (t u : Turn) (ts us : List Turn) → t.moment ≡ u.moment → handling_of t ≡ handling_of u → own_number t.now ≡ own_number u.now
    → side_of ts ≡ side_of us → kept (t ∷ ts) ≡ kept (u ∷ us)
same_kept t u ts us m h o s =
    ap (λ x. gets x (own_number t.now) t.moment (side_of ts)) h ∙ ap (λ x. gets (handling_of u) x t.moment (side_of ts)) o
    ∙ ap (λ x. gets (handling_of u) (own_number u.now) x (side_of ts)) m ∙ ap (λ x. gets (handling_of u) (own_number u.now) u.moment x) s

none_either : (b : Bool) (xs : List ℕ) → xs ≡ [] → (if b then xs else []) ≡ []
none_either true xs h = h
none_either false xs h = refl

-- Where nothing is kept back and nothing is sent, nothing is kept.
pub side_kept : (turn : Turn) (turns : List Turn) → handling_of turn ≡ Keep → side_of (turn ∷ turns) ≡ nothing
side_kept turn turns h = ap (λ x. next x turn.moment (side_of turns)) h

kept_none : (m : Moment) (own : Option (List ℕ)) (s : Side) → sent m ≡ [] → (if ends_aside m.what then [] else s.aside) ≡ [] → (if ends_held m.what then [] else s.held) ≡ []
    → gets Keep own m s ≡ []
kept_none m own s silent aside held =
    ap (λ (xs : List ℕ). ((if are_same s.owner own then (if ends_aside m.what then [] else s.aside) else []) ++ (if ends_held m.what then [] else s.held)) ++ xs) silent
    ∙ ap (λ (xs : List ℕ). ((if are_same s.owner own then (if ends_aside m.what then [] else s.aside) else []) ++ xs) ++ []) held
    ∙ ap (λ (xs : List ℕ). (xs ++ []) ++ []) (none_either (are_same s.owner own) (if ends_aside m.what then [] else s.aside) aside)

pub nothing_kept : (turn : Turn) (turns : List Turn) → handling_of turn ≡ Keep → sent turn.moment ≡ []
    → (if ends_aside turn.moment.what then [] else aside turns) ≡ [] → (if ends_held turn.moment.what then [] else held turns) ≡ []
    → kept (turn ∷ turns) ≡ []
nothing_kept turn turns h silent is_aside is_held =
    ap (λ x. gets x (own_number turn.now) turn.moment (side_of turns)) h
    ∙ kept_none turn.moment (own_number turn.now) (side_of turns) silent is_aside is_held

-- A game that doesn't await a number, of whose board none was shown, keeps what comes.
pub keeps_unseen : (own : Option (List ℕ)) → handling_by false own None ≡ Keep
keeps_unseen None = refl
keeps_unseen (Some number) = refl
