-- Honest play of a line of moves folds to this line.
use Rattle.std.proofs.Common.{◌≡◌, ℕ, inl, inr, List, [], ◌∷◌, ◌++◌, None, false, map, reverse, refl, sym, ap, subst, ◌∙◌}
use mathlib.Core.List.{reverse_aux}
use Rattle.std.proofs.lemmas.List.{map-append, reverse-append, reverse-reverse}
use Rattle.chess_rules.specs.declared.chess_move.Move.{Move}
use Rattle.chess_rules.specs.declared.parts.Parts.{Parts}
use Rattle.chess_rules.specs.After.{after}
use Rattle.chess_rules.specs.Legal.{Legal}
use Rattle.chess_rules.specs.Picture.{picture}
use Rattle.chess_rules.specs.Valid.{Valid}
use Rattle.settle_core.specs.declared.plies.Ply.{Ply}
use Rattle.settle_core.specs.Entries.{Entry, repeats, deduplicated}
use Rattle.settle_core.specs.Settling.{reached, Line}
use Rattle.settle_core.specs.Folding.{Score, Folds, moves_of, played, score_of, time_of}
use Rattle.settle_core.specs.HonestPlay.{Shown, ShownEach, last_reading, shown_plies}
use Rattle.settle_core.specs.Laws.{joined, GivesScore, HonestPlayFolds}
use Rattle.settle_core.proofs.Stages.{IsSound, IsOpen, NotYet, Opens, Gives, Ends, now, differ_false, not_repeated, entry_open, entry_end, opens}

pub map-reverse : {X A : Type 0} (f : X → A) (xs : List X) → map f (reverse xs) ≡ reverse (map f xs)
map-reverse f [] = refl
map-reverse f (x ∷ xs) = ap (map f) (reverse-append (x ∷ []) xs) ∙ map-append f (reverse xs) (x ∷ []) ∙ ap (λ l. l ++ f x ∷ []) (map-reverse f xs) ∙ sym (reverse-append (f x ∷ []) (map f xs))

-- no sign stands after these entries
abbrev pub HasNoSign : Parts → List Entry → Type 0
HasNoSign start past = (score : Score) → Folds start (deduplicated past) score → score.sign ≡ None

-- nor after each of the entries to come
abbrev pub NeverSigns : Parts → List Entry → List Entry → Type 0
NeverSigns start [] past = Unit {0}
NeverSigns start (entry ∷ entries) past = HasNoSign start (entry ∷ past) × NeverSigns start entries (entry ∷ past)

pub never_signs-append :
    (start : Parts) (xs ys past : List Entry)
    → NeverSigns start xs past
    → NeverSigns start ys (reverse_aux xs past)
    → NeverSigns start (xs ++ ys) past
never_signs-append start [] ys past a b = b
never_signs-append start (x ∷ xs) ys past a b = (a.0, never_signs-append start xs ys (x ∷ past) a.1 b)

pub reverse_aux-append : (xs ys past : List Entry) → reverse_aux (xs ++ ys) past ≡ reverse_aux ys (reverse_aux xs past)
reverse_aux-append [] ys past = refl
reverse_aux-append (x ∷ xs) ys past = reverse_aux-append xs ys (x ∷ past)

-- after each first part of the entries
pub first_parts :
    (start : Parts) (first rest past : List Entry)
    → HasNoSign start past
    → NeverSigns start (first ++ rest) past
    → HasNoSign start (reverse_aux first past)
first_parts start [] rest past here never = here
first_parts start (x ∷ first) rest past here never = first_parts start first rest (x ∷ past) never.0 never.1

-- a list that shows a move
pub record MakesMove (start : Parts) (made : List Ply) (entries past : List Entry) : Type 0 where
  pub ends : Ends start made (reverse_aux entries past)
  pub never : NeverSigns start entries past
  pub sound : IsSound start made

-- no sign stands within the turn
pub open_no_sign : (start : Parts) (earlier : List Ply) (Q : List ℕ → Type 0) (score : Score) → IsOpen start earlier Q score → score.sign ≡ None
open_no_sign start earlier Q score o = elim o [ inl e ↦ ap (λ (s : Score). s.sign) e | inr i ↦ ap (λ (s : Score). s.sign) i.is ]

pub shown_makes :
    (start : Parts) (earlier : List Ply) (m : Move) (entries past : List Entry)
    → IsSound start earlier
    → Legal (reached start (moves_of earlier)) m
    → Opens start earlier (NotYet (reached start (moves_of earlier)) m) past
    → repeats (picture (after (reached start (moves_of earlier)) m)) past ≡ false
    → Shown (reached start (moves_of earlier)) m entries
    → MakesMove start ((played start earlier (last_reading entries) m).plies) entries past
shown_makes start earlier m [] past s l o n h = absurd h
shown_makes start earlier m (entry ∷ []) past s l o n h =
    let e : Gives start (played start earlier entry.reading m) (entry ∷ past) = entry_end start earlier m past entry s l h o n in
    record { ends = record { score = e; last = h }; never = (λ score f. ap (λ (x : Score). x.sign) (e score f), tt); sound = record { valid = s.valid; played = (l, s.played) } }
shown_makes start earlier m (entry ∷ next ∷ more) past s l o n h =
    let p : Parts = reached start (moves_of earlier) in
    let Q : List ℕ → Type 0 = NotYet p m in
    let o' : Opens start earlier Q (entry ∷ past) = entry_open start earlier Q past entry s (h.0).0 (h.0).1 o in
    let n' : repeats (picture (after p m)) (entry ∷ past) ≡ false = differ_false _ _ (λ e. (h.0).1 (sym e)) in
    let rest : MakesMove start ((played start earlier (last_reading (next ∷ more)) m).plies) (next ∷ more) (entry ∷ past) =
    shown_makes start earlier m (next ∷ more) (entry ∷ past) s l o' n' h.1 in
    record { ends = rest.ends; never = (λ score f. open_no_sign start earlier Q score (o' score f), rest.never); sound = rest.sound }

pub line_makes :
    (start : Parts) (earlier : List Ply) (past : List Entry) (moves : List Move) (lists : List (List Entry))
    → IsSound start earlier
    → Ends start earlier past
    → Line (reached start (moves_of earlier)) moves
    → ShownEach (reached start (moves_of earlier)) moves lists
    → MakesMove start (reverse_aux (shown_plies (reached start (moves_of earlier)) moves lists) earlier) (joined lists) past
line_makes start earlier past [] [] s e l h = record { ends = e; never = tt; sound = s }
line_makes start earlier past [] (list ∷ lists) s e l h = absurd h
line_makes start earlier past (m ∷ moves) [] s e l h = absurd h
line_makes start earlier past (m ∷ moves) (list ∷ lists) s e l h =
    let p : Parts = reached start (moves_of earlier) in
    let ply : Ply = record { mv = m; clock = time_of p.side (last_reading list) } in
    let one : MakesMove start (ply ∷ earlier) list past =
    shown_makes start earlier m list past s l.0 (opens start earlier (NotYet p m) past e) (not_repeated p m past (now start earlier s) l.0 e.last) h.0 in
    let plies : List Ply = reverse_aux (shown_plies (after p m) moves lists) (ply ∷ earlier) in
    let rest : MakesMove start plies (joined lists) (reverse_aux list past) =
    line_makes start (ply ∷ earlier) (reverse_aux list past) moves lists one.sound one.ends l.1 h.1 in
    let P : List Entry → Type 0 = λ es. Ends start plies es in
    record {
      ends = subst P (sym (reverse_aux-append list (joined lists) past)) rest.ends;
      never = never_signs-append start list (joined lists) past one.never rest.never;
      sound = rest.sound;
    }

pub begins : (start : Parts) → Ends start [] []
begins start = record { score = λ score h. h; last = tt }

-- the whole line, from the start
pub line_ends :
    (start : Parts) (moves : List Move) (lists : List (List Entry))
    → Valid start → Line start moves → ShownEach start moves lists
    → MakesMove start (reverse (shown_plies start moves lists)) (joined lists) []
line_ends start moves lists v l h = line_makes start [] [] moves lists (record { valid = v; played = tt }) (begins start) l h

pub moves-reverse_aux : (plies onto : List Ply) → moves_of (reverse_aux plies onto) ≡ reverse_aux (moves_of plies) (moves_of onto)
moves-reverse_aux [] onto = refl
moves-reverse_aux (ply ∷ plies) onto = moves-reverse_aux plies (ply ∷ onto)

pub moves_shown : (p : Parts) (moves : List Move) (lists : List (List Entry)) → ShownEach p moves lists → moves_of (shown_plies p moves lists) ≡ moves
moves_shown p [] lists h = refl
moves_shown p (m ∷ moves) [] h = absurd h
moves_shown p (m ∷ moves) (list ∷ lists) h = ap (λ (ms : List Move). m ∷ ms) (moves_shown (after p m) moves lists h.1)

pub honest_clocks :
    (start : Parts) (moves : List Move) (lists : List (List Entry)) (score : Score)
    → Valid start → Line start moves → ShownEach start moves lists → GivesScore start (joined lists) score
    → score ≡ score_of (shown_plies start moves lists) None
honest_clocks start moves lists score v l h f = (line_ends start moves lists v l h).ends.score score f

pub honest_play : HonestPlayFolds
honest_play start moves lists v l h =
    let made : MakesMove start (reverse (shown_plies start moves lists)) (joined lists) [] = line_ends start moves lists v l h in (
      λ score f.
          ap (λ (s : Score). moves_of (reverse s.plies)) ((made.ends).score score f)
          ∙ ap moves_of (reverse-reverse (shown_plies start moves lists)) ∙ moves_shown start moves lists h,
      λ first rest score e f.
          let P : List Entry → Type 0 = λ es. NeverSigns start es [] in
          let none : HasNoSign start [] = λ s g. ap (λ (x : Score). x.sign) g in
          first_parts start first rest [] none (subst P e made.never) score f,
    )
