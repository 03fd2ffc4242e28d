-- One piece in hand, where honest play is broken off.
use Rattle.std.proofs.Common.{inl, inr, List, [], ◌∷◌, ◌++◌, ap, subst, ◌∙◌}
use Rattle.chess_rules.specs.declared.chess_move.Move.{Move}
use Rattle.chess_rules.specs.declared.parts.Parts.{Parts}
use Rattle.chess_rules.specs.After.{after}
use Rattle.chess_rules.specs.Legal.{Legal}
use Rattle.chess_rules.specs.Picture.{picture}
use Rattle.chess_rules.specs.Valid.{Valid}
use Rattle.chess_rules.proofs.LawLemmas.{moves_stay_valid}
use Rattle.settle_core.specs.declared.plies.Ply.{Ply}
use Rattle.settle_core.specs.AnyHands.{AllHoldOne, IsOfThePiece, OneHandStops}
use Rattle.settle_core.specs.Entries.{Entry}
use Rattle.settle_core.specs.HonestPlay.{HasOneMore, HoldsOne, IsAmong, shown_plies}
use Rattle.settle_core.specs.Settling.{Line, position_after}
use Rattle.settle_core.proofs.Trying.{one_hand_tries}

-- the next move after the first ones of a line
next_of : (start : Parts) (done : List Move) (m : Move) (later : List Move) → Valid start → Line start (done ++ m ∷ later)
    → Valid (position_after start done) × Legal (position_after start done) m
next_of start [] m later v l = (v, l.0)
next_of start (k ∷ done) m later v l = next_of (after start k) done m later (moves_stay_valid start k v l.0) l.1

held : (p : Parts) (m : Move) (first : List Entry) (entry : Entry) (rest : List Entry) → AllHoldOne p m (first ++ entry ∷ rest) → HoldsOne p m entry.picture
held p m [] entry rest a = a.0
held p m (x ∷ first) entry rest a = held p m first entry rest a.1

tried : (p : Parts) (m : Move) (plies : List Ply) (part : List Entry) (made : List Ply) → Valid p → Legal p m → AllHoldOne p m part
    → (more : HasOneMore p plies part made) → IsOfThePiece p m (more.ply).mv
tried p m plies part made v l a more =
    let among : IsAmong part (picture (after p (more.ply).mv)) = more.seen in
    let A : List Entry → Type 0 = λ es. AllHoldOne p m es in
    one_hand_tries p m (more.ply).mv (among.entry).picture v l more.legal
    (held p m among.first among.entry among.rest (subst A among.stands a)) among.shows

pub one_hand_stops : OneHandStops
one_hand_stops start moves lists first m later made v l front next a whole =
    let p : Parts = position_after start front.done in
    let L : List Move → Type 0 = λ ms. Line start ms in
    let line : Line start (front.done ++ m ∷ later) = subst L (front.moves_are ∙ ap (λ (ms : List Move). front.done ++ ms) next) l in
    let at = next_of start front.done m later v line in
    elim whole [
      | inl same ↦ inl same
      | inr more ↦ inr (more.ply, more.is, tried p m (shown_plies start front.done front.whole) front.part made at.0 at.1 a more)
    ]
