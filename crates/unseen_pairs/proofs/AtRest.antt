-- Hands at rest between moves confirm no pair.
use Rattle.std.proofs.Common.{List, [], ◌∷◌, ◌++◌, reverse, sym, ap, subst, ◌∙◌, ◌≡◌}
use mathlib.Core.List.{reverse_aux}
use Rattle.chess_rules.specs.declared.chess_move.Move.{Move}
use Rattle.chess_rules.specs.declared.parts.Parts.{Parts}
use Rattle.chess_rules.specs.Valid.{Valid}
use Rattle.settle_core.specs.Entries.{Entry, deduplicated}
use Rattle.settle_core.specs.Settling.{Line, Played, position_after, reached}
use Rattle.settle_core.proofs.Lines.{reverse_aux-append}
use Rattle.unseen_pairs.specs.Laws.{ConfirmNone}
use Rattle.unseen_pairs.specs.HandsAtRest.{AreAtRest, EachTurnShows, HandsAtRestAreLeftAlone, HandsAtRestConfirmNone, Turn, turned_in}
use Rattle.unseen_pairs.proofs.Alone.{IsNext, Stands, begins_alone, broken_off, resting, stands_after}
use Rattle.unseen_pairs.proofs.Recovered.{nothing_put_in}
use Rattle.unseen_pairs.proofs.Resting.{rest_all}

turns_none :
    (start : Parts) (earlier : List Move) (past : List Entry) (moves : List Move) (turns : List Turn) (rested : List Entry)
    → Valid start
    → Played start earlier
    → Stands start earlier past
    → Line (reached start earlier) moves
    → EachTurnShows (reached start earlier) moves turns
    → AreAtRest (position_after (reached start earlier) moves) rested
    → ConfirmNone start (deduplicated (reverse_aux rested (reverse_aux (turned_in turns) past)))
turns_none start earlier past [] [] rested v played s l h a = (rest_all start earlier rested past v played a (resting start earlier past v played s)).none
turns_none start earlier past [] (turn ∷ turns) rested v played s l h a = absurd h
turns_none start earlier past (m ∷ moves) [] rested v played s l h a = absurd h
turns_none start earlier past (m ∷ moves) (turn ∷ turns) rested v played s l h a =
    let next : IsNext start earlier m = record { valid = v; played = played; legal = l.0 } in
    let one : Stands start (m ∷ earlier) (reverse_aux turn.shown (reverse_aux turn.rested past)) =
    stands_after start earlier m turn.shown (reverse_aux turn.rested past) next
    (rest_all start earlier turn.rested past v played (h.0).0 (resting start earlier past v played s)) (h.0).1 in
    let order : reverse_aux (turned_in (turn ∷ turns)) past ≡ reverse_aux (turned_in turns) (reverse_aux turn.shown (reverse_aux turn.rested past)) =
    reverse_aux-append turn.rested (turn.shown ++ turned_in turns) past ∙ reverse_aux-append turn.shown (turned_in turns) (reverse_aux turn.rested past) in
    let N : List Entry → Type 0 = λ es. ConfirmNone start (deduplicated (reverse_aux rested es)) in
    subst N (sym order)
    (turns_none start (m ∷ earlier) (reverse_aux turn.shown (reverse_aux turn.rested past)) moves turns rested v (l.0, played) one l.1 h.1 a)

pub hands_at_rest_confirm_none : HandsAtRestConfirmNone
hands_at_rest_confirm_none start moves turns rested first rest v l h a e =
    let all : ConfirmNone start (deduplicated (reverse_aux rested (reverse_aux (turned_in turns) []))) =
    turns_none start [] [] moves turns rested v tt (begins_alone start) l h a in
    let N : List Entry → Type 0 = λ es. ConfirmNone start (deduplicated es) in
    broken_off start rest (reverse_aux first [])
    (subst N (sym (reverse_aux-append (turned_in turns) rested []) ∙ ap (λ (es : List Entry). reverse_aux es []) e ∙ reverse_aux-append first rest []) all)

pub hands_at_rest_are_left_alone : HandsAtRestAreLeftAlone
hands_at_rest_are_left_alone start moves turns rested first rest written score waiting v l h a e w =
    nothing_put_in start (deduplicated (reverse first)) written score waiting (hands_at_rest_confirm_none start moves turns rested first rest v l h a e) w
