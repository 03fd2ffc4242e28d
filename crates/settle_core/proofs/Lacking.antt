-- A picture that differs from a position's only by pieces that it lacks shows nothing yet.
use Rattle.std.proofs.Common.{◌≡◌, ℕ, ◌<◌, List, false, get_or, inl, inr, refl, sym, ◌∙◌}
use Rattle.std.proofs.lemmas.Bool.{both_ways, cases_eq}
use Rattle.chess_rules.specs.declared.pieces.Side.{Side}
use Rattle.chess_rules.specs.declared.pieces.Kind.{Kind}
use Rattle.chess_rules.specs.declared.pieces.Kind.TheVariants.{King}
use Rattle.chess_rules.specs.declared.chess_move.Move.{Move}
use Rattle.chess_rules.specs.declared.parts.Parts.{Parts}
use Rattle.chess_rules.specs.Board.{on, piece_of, other}
use Rattle.chess_rules.specs.Valid.{Valid}
use Rattle.chess_rules.specs.Picture.{code_of_piece, picture}
use Rattle.settle_core.specs.declared.plies.Outcome.{Outcome}
use Rattle.settle_core.specs.declared.plies.Seen.TheVariants.{Waits}
use Rattle.settle_core.specs.Folding.{SeenAs}
use Rattle.settle_core.specs.Inside.Kept.{OnlyLacks}
use Rattle.settle_core.specs.Settling.{Settles, reached, Played}
use Rattle.settle_core.specs.Sign.{IsSign}
use Rattle.settle_core.proofs.Apart.{BothKings, both_kings, kings_apart, apart, centre_low}
use Rattle.settle_core.proofs.Candidates.{between, no_land}
use Rattle.settle_core.proofs.Pieces.{on_shown, code_no_zero}
use Rattle.settle_core.proofs.Stages.{valid_reached, no_replace}
use Rattle.settle_core.proofs.Tracing.{lands_from}

-- a piece that the picture shows stands in the position
pub stands_there :
    (p : Parts) (seen : List ℕ) (s : ℕ) (side : Side) (k : Kind)
    → Valid p
    → OnlyLacks (picture p) seen
    → s < 64
    → get_or seen s 0 ≡ code_of_piece side k
    → on p.board s ≡ piece_of side k
stands_there p seen s side k v lacks low h =
    on_shown p (picture p) s side k (rw v.squares low) refl
    (elim (cases_eq (get_or (picture p) s 0) (get_or seen s 0)) [
      | inl e ↦ e ∙ h
      | inr ne ↦
          absurd (both_ways _ (lacks s low)
          (lands_from false _ _ (record { differ = ne; some = λ z. code_no_zero side k (sym h ∙ z); king = λ e. cc })))
    ])

-- it settles no move
pub settles_none : (p : Parts) (seen : List ℕ) (m : Move) → Valid p → OnlyLacks (picture p) seen → ¬ Settles p seen m
settles_none p seen m v lacks h = no_land p m (picture p) seen (between p m (picture p) seen v refl h) lacks

-- it is no sign: two kings in the centre would attack one another
pub no_sign : (p : Parts) (seen : List ℕ) (outcome : Outcome) → Valid p → OnlyLacks (picture p) seen → ¬ IsSign p seen outcome
no_sign p seen outcome v lacks h =
    let k : BothKings seen p.side = both_kings p seen outcome p.side h in
    kings_apart p k.mine k.theirs v
    (stands_there p seen k.mine p.side King v lacks (centre_low k.mine k.mine_centre) k.mine_stands)
    (stands_there p seen k.theirs (other p.side) King v lacks (centre_low k.theirs k.theirs_centre) k.theirs_stands)
    k.mine_centre k.theirs_centre (apart seen p.side k)

-- and it replaces no move
pub waits_lacking :
    (start : Parts) (moves : List Move) (seen : List ℕ)
    → Valid start
    → Played start moves
    → OnlyLacks (picture (reached start moves)) seen
    → SeenAs start moves seen Waits
waits_lacking start moves seen v played lacks =
    let p : Parts = reached start moves in
    let w : Valid p = valid_reached start moves v played in (
      λ m. settles_none p seen m w lacks,
      λ outcome. no_sign p seen outcome w lacks,
      λ m. no_replace start moves m seen v played (λ s k low h. stands_there p seen s (other p.side) k w lacks low h),
    )
