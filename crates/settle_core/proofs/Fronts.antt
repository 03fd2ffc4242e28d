-- Honest play that stops between two moves, and any front of honest play.
use Rattle.std.proofs.Common.{◌≡◌, ◌⊎◌, ℕ, inl, inr, List, [], ◌∷◌, ◌++◌, reverse, refl, sym, ap, subst, ◌∙◌}
use mathlib.Core.List.{reverse_aux}
use Rattle.std.proofs.lemmas.List.{reverse-reverse, reverse-append, append_assoc}
use Rattle.chess_rules.specs.declared.chess_move.Move.{Move}
use Rattle.chess_rules.specs.declared.parts.Parts.{Parts}
use Rattle.chess_rules.specs.After.{after}
use Rattle.chess_rules.specs.Legal.{Legal}
use Rattle.chess_rules.specs.Picture.{picture}
use Rattle.settle_core.specs.declared.plies.Ply.{Ply}
use Rattle.settle_core.specs.Entries.{Entry, deduplicated}
use Rattle.settle_core.specs.Settling.{reached, position_after, Line}
use Rattle.settle_core.specs.Folding.{Score, Folds, moves_of}
use Rattle.settle_core.specs.HonestPlay.{IsCapture, AllWithinTurnOrLackKing, Shown, ShownEach, shown_plies, IsAmong, HasOneMore, IsFront}
use Rattle.settle_core.specs.Laws.{joined, GivesScore, HonestPlayStops, FrontsOfHonestPlay}
use Rattle.settle_core.proofs.Stages.{IsSound, StandsIn, Opens, entry_open, opens, IsOpen}
use Rattle.settle_core.proofs.Lines.{open_no_sign, MakesMove, line_ends, moves_shown, reverse_aux-append}
use Rattle.settle_core.proofs.Lists.{position_in_order}

-- where the plies of shown moves lead
pub reached_shown :
    (start : Parts) (moves : List Move) (lists : List (List Entry)) → ShownEach start moves lists
    → reached start (moves_of (reverse (shown_plies start moves lists))) ≡ position_after start moves
reached_shown start moves lists h =
    sym (position_in_order start (reverse (shown_plies start moves lists)))
    ∙ ap (λ (ps : List Ply). position_after start (moves_of ps)) (reverse-reverse (shown_plies start moves lists))
    ∙ ap (position_after start) (moves_shown start moves lists h)

abbrev pub AllAre : (List ℕ → Type 0) → List Entry → Type 0
AllAre Q [] = Unit {0}
AllAre Q (entry ∷ more) = Q entry.picture × AllAre Q more

-- pictures between two moves, one after the other
pub all_open :
    (start : Parts) (earlier : List Ply) (Q : List ℕ → Type 0) (part past : List Entry)
    → IsSound start earlier
    → AllWithinTurnOrLackKing (reached start (moves_of earlier)) part
    → AllAre Q part
    → Opens start earlier Q past
    → Opens start earlier Q (reverse_aux part past)
all_open start earlier Q [] past s a q o = o
all_open start earlier Q (entry ∷ more) past s a q o =
    all_open start earlier Q more (entry ∷ past) s a.1 q.1 (entry_open start earlier Q past entry s a.0 q.0 o)

-- each picture is one of the list's
pub among : (whole first rest : List Entry) → whole ≡ first ++ rest → AllAre (IsAmong whole) rest
among whole first [] e = tt
among whole first (entry ∷ rest) e =
    let e' : whole ≡ (first ++ entry ∷ []) ++ rest = e ∙ sym (append_assoc first (entry ∷ []) rest) in
    (record { entry = entry; first = first; rest = rest; stands = e; shows = refl }, among whole (first ++ entry ∷ []) rest e')

-- what stands in is a ply more
pub one_more :
    (start : Parts) (p : Parts) (plies : List Ply) (part : List Entry) (score : Score)
    → reached start (moves_of (reverse plies)) ≡ p
    → StandsIn start (reverse plies) (IsAmong part) score
    → HasOneMore p plies part (reverse score.plies)
one_more start p plies part score at i =
    let L : Parts → Type 0 = λ x. Legal x (i.ply).mv in
    let T : Parts → Type 0 = λ x. ¬ IsCapture x (i.ply).mv in
    let S : Parts → Type 0 = λ x. IsAmong part (picture (after x (i.ply).mv)) in
    record {
      ply = i.ply;
      legal = subst L at i.legal;
      no_capture = subst T at i.no_capture;
      seen = subst S at i.shown;
      is =
          ap (λ (s : Score). reverse s.plies) i.is ∙ ap reverse (sym (reverse-append plies (i.ply ∷ [])))
          ∙ reverse-reverse (plies ++ i.ply ∷ []);
    }

pub honest_stops : HonestPlayStops
honest_stops start moves lists part score v l h a f =
    let plies : List Ply = shown_plies start moves lists in
    let made : MakesMove start (reverse plies) (joined lists) [] = line_ends start moves lists v l h in
    let at : reached start (moves_of (reverse plies)) ≡ position_after start moves = reached_shown start moves lists h in
    let A : Parts → Type 0 = λ x. AllWithinTurnOrLackKing x part in
    let all : Opens start (reverse plies) (IsAmong part) (reverse_aux part (reverse_aux (joined lists) [])) =
    all_open start (reverse plies) (IsAmong part) part (reverse_aux (joined lists) []) made.sound (subst A (sym at) a) (among part [] part refl)
    (opens start (reverse plies) (IsAmong part) (reverse_aux (joined lists) []) made.ends) in
    let F : List Entry → Type 0 = λ es. Folds start (deduplicated es) score in
    let o : IsOpen start (reverse plies) (IsAmong part) score = all score (subst F (reverse_aux-append (joined lists) part []) f) in (
      open_no_sign start (reverse plies) (IsAmong part) score o,
      elim o [
        | inl e ↦ inl (ap (λ (s : Score). reverse s.plies) e ∙ reverse-reverse plies)
        | inr i ↦ inr (one_more start (position_after start moves) plies part score at i)
      ],
    )

-- two ways to part a list
abbrev pub Aligned : List Entry → List Entry → List Entry → List Entry → Type 0
Aligned xs ys us vs = ((zs : List Entry) × (us ≡ xs ++ zs) × (ys ≡ zs ++ vs)) ⊎ ((z : Entry) × (zs : List Entry) × (xs ≡ us ++ z ∷ zs))

pub align : (xs ys us vs : List Entry) → xs ++ ys ≡ us ++ vs → Aligned xs ys us vs
align [] ys us vs e = inl (us, refl, e)
align (x ∷ xs) ys [] vs e = inr (x, xs, refl)
align (x ∷ xs) ys (u ∷ us) vs e =
    let head : x ≡ u = cc in
    let tail : xs ++ ys ≡ us ++ vs = cc in
    elim (align xs ys us vs tail) [
      | inl a ↦ inl (a.0, ap (λ (es : List Entry). u ∷ es) a.1 ∙ ap (λ (y : Entry). y ∷ (xs ++ a.0)) (sym head), a.2)
      | inr b ↦ inr (b.0, b.1, ap (λ (es : List Entry). x ∷ es) b.2 ∙ ap (λ (y : Entry). y ∷ (us ++ b.0 ∷ b.1)) head)
    ]

-- before the end of a list that shows a move
short_passes : (p : Parts) (m : Move) (part : List Entry) (entry : Entry) (more : List Entry) → Shown p m (part ++ entry ∷ more) → AllWithinTurnOrLackKing p part
short_passes p m [] entry more h = tt
short_passes p m (one ∷ []) entry more h = ((h.0).0, tt)
short_passes p m (one ∷ next ∷ part) entry more h = ((h.0).0, short_passes p m (next ∷ part) entry more h.1)

-- a front, and what passes in its last part
pub record Fronts (start : Parts) (moves : List Move) (lists : List (List Entry)) (first : List Entry) : Type 0 where
  pub front : IsFront start moves lists first
  pub line : Line start front.done
  pub passes : AllWithinTurnOrLackKing (position_after start front.done) front.part

pub fronts :
    (start : Parts) (moves : List Move) (lists : List (List Entry)) (first rest : List Entry)
    → Line start moves → ShownEach start moves lists → joined lists ≡ first ++ rest → Fronts start moves lists first
fronts start [] [] [] rest l h e =
    record {
      front = record { done = []; later = []; moves_are = refl; whole = []; left = []; lists_are = refl; shown = tt; part = []; entries = refl; next = inl refl };
      line = tt;
      passes = tt;
    }
fronts start [] [] (x ∷ first) rest l h e = absurd (let never : ⊥ = cc in never)
fronts start [] (list ∷ lists) first rest l h e = absurd h
fronts start (m ∷ moves) [] first rest l h e = absurd h
fronts start (m ∷ moves) (list ∷ lists) first rest l h e =
    elim (align list (joined lists) first rest e) [
      | inl a ↦
          let r : Fronts (after start m) moves lists a.0 = fronts (after start m) moves lists a.0 rest l.1 h.1 a.2 in
          let f : IsFront (after start m) moves lists a.0 = r.front in
          record {
            front = record {
              done = m ∷ f.done;
              later = f.later;
              moves_are = ap (λ (ms : List Move). m ∷ ms) f.moves_are;
              whole = list ∷ f.whole;
              left = f.left;
              lists_are = ap (λ (ls : List (List Entry)). list ∷ ls) f.lists_are;
              shown = (h.0, f.shown);
              part = f.part;
              entries = a.1 ∙ ap (λ (es : List Entry). list ++ es) f.entries ∙ sym (append_assoc list (joined f.whole) f.part);
              next = f.next;
            };
            line = (l.0, r.line);
            passes = r.passes;
          }
      | inr b ↦
          let S : List Entry → Type 0 = λ es. Shown start m es in
          record {
            front = record {
              done = [];
              later = m ∷ moves;
              moves_are = refl;
              whole = [];
              left = list ∷ lists;
              lists_are = refl;
              shown = tt;
              part = first;
              entries = refl;
              next = inr (record { list = list; lists = lists; left_is = refl; entry = b.0; more = b.1; list_is = b.2 });
            };
            line = tt;
            passes = short_passes start m first b.0 b.1 (subst S b.2 h.0);
          }
    ]

pub honest_fronts : FrontsOfHonestPlay
honest_fronts start moves lists first rest score v l h e g =
    let f : Fronts start moves lists first = fronts start moves lists first rest l h e in
    let G : List Entry → Type 0 = λ es. GivesScore start es score in
    let part : IsFront start moves lists first = f.front in
    let stops = honest_stops start part.done part.whole part.part score v f.line part.shown f.passes (subst G part.entries g) in
    (stops.0, (part, stops.1))
