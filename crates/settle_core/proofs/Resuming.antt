-- Honest play after whatever was seen before.
use Rattle.std.proofs.Common.{◌≡◌, ◌⊎◌, inl, inr, List, [], ◌∷◌, ◌++◌, None, Some, reverse, refl, sym, ap, subst, ◌∙◌, append_assoc}
use mathlib.Core.List.{reverse_aux}
use Rattle.std.proofs.lemmas.List.{reverse-append, reverse-reverse}
use Rattle.std.proofs.lemmas.Option.{same_Some}
use Rattle.chess_rules.specs.declared.chess_move.Move.{Move}
use Rattle.chess_rules.specs.declared.parts.Parts.{Parts}
use Rattle.chess_rules.specs.Picture.{picture}
use Rattle.chess_rules.specs.Valid.{Valid}
use Rattle.settle_core.specs.declared.plies.Ply.{Ply}
use Rattle.settle_core.specs.AnyPlay.{HonestPlayResumes, KingsEndResumedPlay, ResumedPlayStops}
use Rattle.settle_core.specs.Entries.{Entry, deduplicated, last_picture}
use Rattle.settle_core.specs.Settling.{Line, position_after, reached}
use Rattle.settle_core.specs.Folding.{Folds, Score, moves_of}
use Rattle.settle_core.specs.HonestPlay.{AllShowNoMoreOrLackKing, AllWithinTurnOrLackKing, HasOneMore, IsAmong, ShownEach, shown_plies}
use Rattle.settle_core.specs.Laws.{joined}
use Rattle.settle_core.specs.Sign.{IsSign}
use Rattle.settle_core.proofs.Fronts.{all_open, among, one_more}
use Rattle.settle_core.proofs.Lines.{MakesMove, line_makes, moves-reverse_aux, moves_shown, open_no_sign, reverse_aux-append}
use Rattle.settle_core.proofs.Once.{folds_once, folds_played}
use Rattle.settle_core.proofs.Stages.{Ends, EndsAt, Gives, IsOpen, IsSound, Opens, bare, now, opens}
use Rattle.settle_core.proofs.Waiting.{NoSignLast, ends_no_sign, rest_all, rest_last, sign_step, with_sign}

pub onto : {X : Type 0} (xs ys : List X) → reverse_aux xs ys ≡ reverse xs ++ ys
onto [] ys = refl
onto (x ∷ xs) ys = onto xs (x ∷ ys) ∙ sym (append_assoc (reverse xs) (x ∷ []) ys) ∙ ap (λ l. l ++ ys) (sym (onto xs (x ∷ [])))

at_end : (p : Parts) (past : List Entry) → last_picture past ≡ Some (picture p) → EndsAt p past
at_end p [] e = tt
at_end p (entry ∷ past) e = same_Some _ _ e

-- the line that is added
resumed :
    (start : Parts) (past : List Entry) (before : Score) (moves : List Move) (lists : List (List Entry))
    → Valid start
    → Folds start (deduplicated past) before
    → before.sign ≡ None
    → last_picture past ≡ Some (picture (reached start (moves_of before.plies)))
    → Line (reached start (moves_of before.plies)) moves
    → ShownEach (reached start (moves_of before.plies)) moves lists
    → MakesMove start (reverse_aux (shown_plies (reached start (moves_of before.plies)) moves lists) before.plies) (joined lists) past
resumed start past before moves lists v f none last l h =
    let is : before ≡ bare before.plies = ap (λ o. record { plies = before.plies; sign = o }) none in
    let ends : Ends start before.plies past = record {
      score = λ s k. folds_once start (deduplicated past) s before v k f ∙ is;
      last = at_end (reached start (moves_of before.plies)) past last;
    } in
    line_makes start before.plies past moves lists (record { valid = v; played = folds_played start (deduplicated past) before f }) ends l h

pub honest_play_resumes : HonestPlayResumes
honest_play_resumes start past before score moves lists v f none last l h g =
    let p : Parts = reached start (moves_of before.plies) in
    let made = resumed start past before moves lists v f none last l h in
    let P : List Entry → Type 0 = λ es. Folds start (deduplicated es) score in
    (made.ends).score score (subst P (sym (onto (joined lists) past)) g) ∙ ap bare (onto (shown_plies p moves lists) before.plies)

-- where the plies lead that are added
reached_more : (start : Parts) (moves earlier : List Move) → reached start (reverse_aux moves earlier) ≡ position_after (reached start earlier) moves
reached_more start [] earlier = refl
reached_more start (m ∷ moves) earlier = reached_more start moves (m ∷ earlier)

reached_resumed :
    (start : Parts) (earlier : List Ply) (moves : List Move) (lists : List (List Entry)) → ShownEach (reached start (moves_of earlier)) moves lists
    → reached start (moves_of (reverse_aux (shown_plies (reached start (moves_of earlier)) moves lists) earlier)) ≡ position_after (reached start (moves_of earlier)) moves
reached_resumed start earlier moves lists h =
    let p : Parts = reached start (moves_of earlier) in
    ap (reached start) (moves-reverse_aux (shown_plies p moves lists) earlier ∙ ap (λ (ms : List Move). reverse_aux ms (moves_of earlier)) (moves_shown p moves lists h))
    ∙ reached_more start moves (moves_of earlier)

-- plies in their order, and the same with the latest first
in_order : (earlier shown : List Ply) → reverse (reverse earlier ++ shown) ≡ reverse_aux shown earlier
in_order earlier shown = reverse-append (reverse earlier) shown ∙ ap (λ (l : List Ply). reverse shown ++ l) (reverse-reverse earlier) ∙ sym (onto shown earlier)

-- one ply more than those that were added
added :
    (p : Parts) (earlier shown : List Ply) (part : List Entry) (score : Score)
    → HasOneMore p (reverse earlier ++ shown) part (reverse score.plies)
    → (made : List Ply) × (reverse score.plies ≡ reverse earlier ++ made) × ((made ≡ shown) ⊎ HasOneMore p shown part made)
added p earlier shown part score more = (
  shown ++ more.ply ∷ [],
  more.is ∙ append_assoc (reverse earlier) shown (more.ply ∷ []),
  inr (record { ply = more.ply; legal = more.legal; no_capture = more.no_capture; seen = more.seen; is = refl }),
)

pub resumed_play_stops : ResumedPlayStops
resumed_play_stops start past before score moves lists part v f none last l h a g =
    let p : Parts = reached start (moves_of before.plies) in
    let shown : List Ply = shown_plies p moves lists in
    let all : List Ply = reverse before.plies ++ shown in
    let made = resumed start past before moves lists v f none last l h in
    let order : reverse_aux shown before.plies ≡ reverse all = sym (in_order before.plies shown) in
    let E : List Ply → Type 0 = λ ps. Ends start ps (reverse_aux (joined lists) past) in
    let S : List Ply → Type 0 = λ ps. IsSound start ps in
    let ends : Ends start (reverse all) (reverse_aux (joined lists) past) = subst E order made.ends in
    let s : IsSound start (reverse all) = subst S order made.sound in
    let at : reached start (moves_of (reverse all)) ≡ position_after p moves =
    ap (λ (ps : List Ply). reached start (moves_of ps)) (sym order) ∙ reached_resumed start before.plies moves lists h in
    let A : Parts → Type 0 = λ x. AllWithinTurnOrLackKing x part in
    let opened : Opens start (reverse all) (IsAmong part) (reverse_aux part (reverse_aux (joined lists) past)) =
    all_open start (reverse all) (IsAmong part) part (reverse_aux (joined lists) past) s (subst A (sym at) a) (among part [] part refl)
    (opens start (reverse all) (IsAmong part) (reverse_aux (joined lists) past) ends) in
    let F : List Entry → Type 0 = λ es. Folds start (deduplicated es) score in
    let entries : reverse (joined lists ++ part) ++ past ≡ reverse_aux part (reverse_aux (joined lists) past) =
    sym (onto (joined lists ++ part) past) ∙ reverse_aux-append (joined lists) part past in
    let o : IsOpen start (reverse all) (IsAmong part) score = opened score (subst F entries g) in (
      open_no_sign start (reverse all) (IsAmong part) score o,
      elim o [
        | inl e ↦ (shown, ap (λ (x : Score). reverse x.plies) e ∙ reverse-reverse all, inl refl)
        | inr i ↦ added (position_after p moves) before.plies shown part score (one_more start (position_after p moves) all part score at i)
      ],
    )

pub kings_end_resumed_play : KingsEndResumedPlay
kings_end_resumed_play start past before score moves lists clearing later kings outcome v f none last l h a k b g =
    let p : Parts = reached start (moves_of before.plies) in
    let made = resumed start past before moves lists v f none last l h in
    let plies : List Ply = reverse_aux (shown_plies p moves lists) before.plies in
    let s : IsSound start plies = made.sound in
    let at : position_after p moves ≡ reached start (moves_of plies) = sym (reached_resumed start before.plies moves lists h) in
    let A : Parts → Type 0 = λ x. AllShowNoMoreOrLackKing x clearing in
    let B : Parts → Type 0 = λ x. AllShowNoMoreOrLackKing x later in
    let K : Parts → Type 0 = λ x. IsSign x kings.picture outcome in
    let old : List Entry = reverse_aux (joined lists) past in
    let one : Gives start (with_sign plies None) (reverse_aux clearing old) = rest_all start plies None clearing old s (subst A at a) (made.ends).score in
    let n : NoSignLast (reached start (moves_of plies)) (reverse_aux clearing old) =
    rest_last start plies clearing old s (subst A at a) (ends_no_sign (reached start (moves_of plies)) old (now start plies s) (made.ends).last) in
    let two : Gives start (with_sign plies (Some outcome)) (kings ∷ reverse_aux clearing old) =
    sign_step start plies None (reverse_aux clearing old) kings outcome s (subst K at k) n one in
    let three : Gives start (with_sign plies (Some outcome)) (reverse_aux later (kings ∷ reverse_aux clearing old)) =
    rest_all start plies (Some outcome) later (kings ∷ reverse_aux clearing old) s (subst B at b) two in
    let F : List Entry → Type 0 = λ es. Folds start (deduplicated es) score in
    let order : reverse (joined lists ++ (clearing ++ kings ∷ later)) ++ past ≡ reverse_aux later (kings ∷ reverse_aux clearing old) =
    sym (onto (joined lists ++ (clearing ++ kings ∷ later)) past)
    ∙ reverse_aux-append (joined lists) (clearing ++ kings ∷ later) past ∙ reverse_aux-append clearing (kings ∷ later) old in
    three score (subst F order g) ∙ ap (λ (ps : List Ply). with_sign ps (Some outcome)) (onto (shown_plies p moves lists) before.plies)
