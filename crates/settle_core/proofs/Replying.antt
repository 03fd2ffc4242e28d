-- Pictures that settle no move: on which a piece of the other side landed, or none.
use Rattle.std.proofs.Common.{◌≡◌, ◌≢◌, ℕ, ◌<◌, List, Option, None, Some, true, false, get_or, inl, inr, refl, sym, ap, ◌∙◌}
use Rattle.std.proofs.lemmas.Bool.{both_ways, eq-eqb}
use Rattle.chess_rules.specs.declared.pieces.Side.{Side}
use Rattle.chess_rules.specs.declared.pieces.Side.TheVariants.{White, Black}
use Rattle.chess_rules.specs.declared.pieces.Kind.{Kind}
use Rattle.chess_rules.specs.declared.chess_move.Move.{Move}
use Rattle.chess_rules.specs.declared.parts.Parts.{Parts}
use Rattle.chess_rules.specs.declared.pieces.Piece.{Piece}
use Rattle.chess_rules.specs.Board.{on, piece_of, other}
use Rattle.chess_rules.specs.After.{board_after}
use Rattle.chess_rules.specs.Valid.{Valid}
use Rattle.chess_rules.specs.Picture.{code, code_of_piece, picture}
use Rattle.chess_rules.proofs.Staying.{own_or_other}
use Rattle.settle_core.specs.Candidate.{is_owned_code, lands}
use Rattle.settle_core.specs.Inside.Kept.{OnlyLacks}
use Rattle.settle_core.specs.Settling.{Settles}
use Rattle.settle_core.proofs.Candidates.{IsBetween, between, lands_at, no_land}
use Rattle.settle_core.proofs.Pieces.{theirs_stood}
use Rattle.settle_core.proofs.Tracing.{Lands, side_code}

-- a piece's code is one of its side
pub owned : (side : Side) (k : Kind) → is_owned_code side (code_of_piece side k) ≡ true
owned White k = eq-eqb _ _ (side_code White k)
owned Black k = eq-eqb _ _ (side_code Black k)

-- what is no piece of this side is one of the other
of_the_other :
    (side : Side) (o : Option Piece) → code o ≢ 0 → is_owned_code side (code o) ≡ false → (k : Kind) × (o ≡ piece_of (other side) k)
of_the_other side None some foreign = absurd (some refl)
of_the_other side (Some piece) some foreign =
    elim (own_or_other piece.side side) [
      | inl e ↦
          absurd (both_ways _ foreign (ap (λ (s : Side). is_owned_code side (code_of_piece s piece.kind)) e ∙ owned side piece.kind))
      | inr e ↦ (piece.kind, ap (λ (s : Side). piece_of s piece.kind) e)
    ]

pub replies_settle_none :
    (p : Parts) (m : Move) (before now : List ℕ) (s : ℕ)
    → Valid p
    → before ≡ picture p
    → s < 64
    → lands false (get_or before s 0) (get_or now s 0) ≡ true
    → is_owned_code p.side (get_or now s 0) ≡ false
    → ¬ Settles p now m
replies_settle_none p m before now s v e low h theirs st =
    let b : IsBetween p m before now = between p m before now v e st in
    let l : Lands false (code (on p.board s)) (code (on (board_after p m) s)) = lands_at p m before now false s b low h in
    let piece_of_other : (k : Kind) × (on (board_after p m) s ≡ piece_of (other p.side) k) =
    of_the_other p.side (on (board_after p m) s) l.some (ap (is_owned_code p.side) (sym (b.at_after s low)) ∙ theirs) in
    l.differ (ap code (theirs_stood p m s piece_of_other.0 v b.legal piece_of_other.1 ∙ sym piece_of_other.1))

-- nor does a picture that only lacks pieces
pub lacks_settle_none :
    (p : Parts) (m : Move) (before now : List ℕ) → Valid p → before ≡ picture p → OnlyLacks before now → ¬ Settles p now m
lacks_settle_none p m before now v e lacks st = no_land p m before now (between p m before now v e st) lacks
