-- The plies of turns, one after another.
use Rattle.std.proofs.Common.{◌≡◌, List, [], ◌∷◌, ◌++◌, refl, sym, ap, subst, ◌∙◌, append_assoc}
use Rattle.chess_rules.specs.declared.parts.Parts.{Parts}
use Rattle.chess_rules.specs.After.{after}
use Rattle.settle_core.specs.declared.plies.Ply.{Ply}
use Rattle.settle_core.specs.Settling.{Line}
use Rattle.settle_core.specs.Folding.{moves_of}
use Rattle.pgn_book.specs.Inside.Parse.{Turn, IsTurn, AreTurns, TakesTurn}

pub record BeginsWith (p : Parts) (plies : List Ply) (turn : Turn) (turns : List Turn) : Type 0 where
  pub ply : Ply
  pub rest : List Ply
  pub cut : plies ≡ ply ∷ rest
  pub first : IsTurn p ply turn
  pub others : AreTurns (after p ply.mv) rest turns

pub first_turn : (p : Parts) (plies : List Ply) (turn : Turn) (turns : List Turn) → AreTurns p plies (turn ∷ turns) → BeginsWith p plies turn turns
first_turn p [] turn turns h = absurd h
first_turn p (ply ∷ plies) turn turns h = record { ply = ply; rest = plies; cut = refl; first = h.0; others = h.1 }

pub no_turns : (p : Parts) (plies : List Ply) → AreTurns p plies [] → plies ≡ []
no_turns p [] h = refl
no_turns p (ply ∷ plies) h = absurd h

-- the line goes on
pub line_more : (start p next : Parts) (old new : List Ply) (turn : Turn) → TakesTurn p next old new turn
    → ((more : List Ply) → Line p (moves_of more) → Line start (moves_of (old ++ more)))
    → (more : List Ply) → Line next (moves_of more) → Line start (moves_of (new ++ more))
line_more start p next old new turn t h more l =
    let after_it : Line (after p t.ply.mv) (moves_of more) = subst (λ (x : Parts). Line x (moves_of more)) t.position l in
    let both : Line p (moves_of (t.ply ∷ more)) = (t.legal, after_it) in
    let e : old ++ (t.ply ∷ more) ≡ new ++ more = sym (append_assoc old (t.ply ∷ []) more) ∙ ap (λ (x : List Ply). x ++ more) (sym t.added) in
    subst (λ (xs : List Ply). Line start (moves_of xs)) e (h (t.ply ∷ more) both)

-- what plies are left
pub only_more : (p next : Parts) (old new plies : List Ply) (turn : Turn) (turns : List Turn) → TakesTurn p next old new turn
    → (more : List Ply) × (plies ≡ old ++ more) × AreTurns p more (turn ∷ turns)
    → (more : List Ply) × (plies ≡ new ++ more) × AreTurns next more turns
only_more p next old new plies turn turns t h =
    let b = first_turn p h.0 turn turns h.2 in
    let same : b.ply ≡ t.ply = t.only b.ply b.first in
    let e : plies ≡ new ++ b.rest =
    h.1 ∙ ap (λ (x : List Ply). old ++ x) (b.cut ∙ ap (λ (x : Ply). x ∷ b.rest) same) ∙ sym (append_assoc old (t.ply ∷ []) b.rest) ∙ ap (λ (x : List Ply). x ++ b.rest) (sym t.added) in
    (b.rest, e, subst (λ (x : Parts). AreTurns x b.rest turns) (ap (λ (x : Ply). after p x.mv) same ∙ sym t.position) b.others)
