-- No honest picture is a sign: two kings in the centre would attack one another.
use Rattle.std.proofs.Common.{◌≡◌, ◌≢◌, ℕ, ◌<◌, inl, inr, List, get_or, refl, sym, ap, ◌∙◌, arith}
use Rattle.chess_rules.specs.declared.pieces.Side.{Side}
use Rattle.chess_rules.specs.declared.pieces.Side.TheVariants.{White, Black}
use Rattle.chess_rules.specs.declared.pieces.Kind.TheVariants.{King}
use Rattle.chess_rules.specs.declared.chess_move.Move.{Move}
use Rattle.chess_rules.specs.declared.parts.Parts.{Parts}
use Rattle.chess_rules.specs.declared.lines.Direction.{Direction}
use Rattle.chess_rules.specs.declared.lines.Direction.TheVariants.{North, South, East, West, NorthEast, NorthWest, SouthEast, SouthWest}
use Rattle.chess_rules.specs.Board.{Board, on, piece_of, other, Ahead}
use Rattle.chess_rules.specs.Attack.{Attacks}
use Rattle.chess_rules.specs.After.{after, board_after}
use Rattle.chess_rules.specs.Legal.{Legal}
use Rattle.chess_rules.specs.Valid.{Valid, HasOneKing}
use Rattle.chess_rules.specs.Picture.{code_of_piece, picture}
use Rattle.chess_rules.proofs.LawLemmas.{moves_stay_valid}
use Rattle.chess_rules.proofs.Replacing.{king_no_pawn, other-other}
use Rattle.settle_core.specs.declared.plies.Outcome.{Outcome}
use Rattle.settle_core.specs.Sign.{InCentre, IsSign}
use Rattle.settle_core.specs.HonestPlay.{HasKingsApart, IsPartial, IsUnderWay}
use Rattle.settle_core.proofs.Pieces.{on_shown, shown_piece, theirs_stood}

-- two squares of the centre are neighbours
pub record AreNear (s t : ℕ) : Type 0 where
  pub direction : Direction
  pub ahead : Ahead direction 1 s t

pub near : (s t : ℕ) → InCentre s → InCentre t → s ≢ t → AreNear s t
near s t (inl (inl a)) (inl (inl b)) ne = absurd (ne (a ∙ sym b))
near s t (inl (inl a)) (inl (inr b)) ne = record { direction = NorthWest; ahead = (omega arith, omega arith) }
near s t (inl (inl a)) (inr (inl b)) ne = record { direction = West; ahead = (omega arith, omega arith) }
near s t (inl (inl a)) (inr (inr b)) ne = record { direction = North; ahead = (omega arith, omega arith) }
near s t (inl (inr a)) (inl (inl b)) ne = record { direction = SouthEast; ahead = (omega arith, omega arith) }
near s t (inl (inr a)) (inl (inr b)) ne = absurd (ne (a ∙ sym b))
near s t (inl (inr a)) (inr (inl b)) ne = record { direction = South; ahead = (omega arith, omega arith) }
near s t (inl (inr a)) (inr (inr b)) ne = record { direction = East; ahead = (omega arith, omega arith) }
near s t (inr (inl a)) (inl (inl b)) ne = record { direction = East; ahead = (omega arith, omega arith) }
near s t (inr (inl a)) (inl (inr b)) ne = record { direction = North; ahead = (omega arith, omega arith) }
near s t (inr (inl a)) (inr (inl b)) ne = absurd (ne (a ∙ sym b))
near s t (inr (inl a)) (inr (inr b)) ne = record { direction = NorthEast; ahead = (omega arith, omega arith) }
near s t (inr (inr a)) (inl (inl b)) ne = record { direction = South; ahead = (omega arith, omega arith) }
near s t (inr (inr a)) (inl (inr b)) ne = record { direction = West; ahead = (omega arith, omega arith) }
near s t (inr (inr a)) (inr (inl b)) ne = record { direction = SouthWest; ahead = (omega arith, omega arith) }
near s t (inr (inr a)) (inr (inr b)) ne = absurd (ne (a ∙ sym b))

pub centre_low : (s : ℕ) → InCentre s → s < 64
centre_low s (inl (inl a)) = omega arith
centre_low s (inl (inr a)) = omega arith
centre_low s (inr (inl a)) = omega arith
centre_low s (inr (inr a)) = omega arith

-- a king attacks its neighbours
pub attacks_near : (board : Board) (side : Side) (s t : ℕ) → on board s ≡ piece_of side King → AreNear s t → Attacks board side t
attacks_near board side s t h n =
    record {
      from = s;
      kind = King;
      stands = h;
      attacks = record {
        direction = n.direction;
        distance = 1;
        apart = omega arith;
        lies = n.ahead;
        ranges = refl;
        clear = λ k x lo hi a. absurd (let never : ⊥ = omega arith in never);
      };
    }

-- in a valid position the two kings do not both stand in the centre
pub kings_apart :
    (p : Parts) (s t : ℕ)
    → Valid p
    → on p.board s ≡ piece_of p.side King
    → on p.board t ≡ piece_of (other p.side) King
    → InCentre s
    → InCentre t
    → s ≢ t
    → ⊥
kings_apart p s t v mine theirs a b ne =
    v.no_check (record { king = t; stands = theirs; attacked = attacks_near p.board p.side s t mine (near s t a b ne) })

-- the two kings' codes in the centre, by the side to move
pub record BothKings (seen : List ℕ) (side : Side) : Type 0 where
  pub mine : ℕ
  pub theirs : ℕ
  pub mine_centre : InCentre mine
  pub theirs_centre : InCentre theirs
  pub mine_stands : get_or seen mine 0 ≡ code_of_piece side King
  pub theirs_stands : get_or seen theirs 0 ≡ code_of_piece (other side) King

pub both_kings : (p : Parts) (seen : List ℕ) (outcome : Outcome) (side : Side) → IsSign p seen outcome → BothKings seen side
both_kings p seen outcome White h =
    record { mine = h.white_king; theirs = h.black_king; mine_centre = h.white.centre; theirs_centre = h.black.centre; mine_stands = h.white.stands; theirs_stands = h.black.stands }
both_kings p seen outcome Black h =
    record { mine = h.black_king; theirs = h.white_king; mine_centre = h.black.centre; theirs_centre = h.white.centre; mine_stands = h.black.stands; theirs_stands = h.white.stands }

pub codes_differ : (side : Side) → code_of_piece side King ≡ code_of_piece (other side) King → ⊥
codes_differ White e = omega arith
codes_differ Black e = omega arith

pub apart : (seen : List ℕ) (side : Side) (k : BothKings seen side) → k.mine ≢ k.theirs
apart seen side k e = codes_differ side (sym k.mine_stands ∙ ap (λ s. get_or seen s 0) e ∙ k.theirs_stands)

-- both kings' codes in the centre, from where White's and Black's stand
pub both_codes : (seen : List ℕ) (side : Side) (white black : ℕ) → InCentre white → InCentre black
    → get_or seen white 0 ≡ code_of_piece White King → get_or seen black 0 ≡ code_of_piece Black King → BothKings seen side
both_codes seen White white black a b x y =
    record { mine = white; theirs = black; mine_centre = a; theirs_centre = b; mine_stands = x; theirs_stands = y }
both_codes seen Black white black a b x y =
    record { mine = black; theirs = white; mine_centre = b; theirs_centre = a; mine_stands = y; theirs_stands = x }

pub apart_unless : (seen : List ℕ) (side : Side) → ¬ BothKings seen side → HasKingsApart seen
apart_unless seen side none white black a b x y = none (both_codes seen side white black a b x y)

-- the picture of a valid position has the kings apart
pub apart_valid : (p : Parts) (seen : List ℕ) → Valid p → seen ≡ picture p → ¬ BothKings seen p.side
apart_valid p seen v e k =
    kings_apart p k.mine k.theirs v
    (on_shown p seen k.mine p.side King (rw v.squares (centre_low k.mine k.mine_centre)) e k.mine_stands)
    (on_shown p seen k.theirs (other p.side) King (rw v.squares (centre_low k.theirs k.theirs_centre)) e k.theirs_stands)
    k.mine_centre k.theirs_centre (apart seen p.side k)

-- so it is no sign
pub no_sign_valid : (p : Parts) (seen : List ℕ) → Valid p → seen ≡ picture p → (p' : Parts) (outcome : Outcome) → ¬ IsSign p' seen outcome
no_sign_valid p seen v e p' outcome h = apart_valid p seen v e (both_kings p' seen outcome p.side h)

-- the other side's king stands still
pub their_king :
    (p : Parts) (m : Move) (s : ℕ) → Valid p → Legal p m → on p.board s ≡ piece_of (other p.side) King → on (board_after p m) s ≡ piece_of (other p.side) King
their_king p m s v l h =
    let w : Valid (after p m) = moves_stay_valid p m v l in
    let one : HasOneKing (board_after p m) (other p.side) = w.kings (other p.side) in
    let old : HasOneKing p.board (other p.side) = v.kings (other p.side) in
    let same : s ≡ one.king = old.alone s h ∙ sym (old.alone one.king (theirs_stood p m one.king King v l one.stands)) in
    ap (on (board_after p m)) same ∙ one.stands

-- so has a picture on the way to a move
apart_partial : (p : Parts) (m : Move) (seen : List ℕ) → Valid p → Legal p m → IsPartial p m seen → ¬ BothKings seen p.side
apart_partial p m seen v l q k =
    let w : Valid (after p m) = moves_stay_valid p m v l in
    let theirs : on p.board k.theirs ≡ piece_of (other p.side) King =
    elim (shown_piece p m seen k.theirs (other p.side) King q (centre_low k.theirs k.theirs_centre) k.theirs_stands) [
      | inl stood ↦ stood
      | inr more ↦ elim more [ inl stands ↦ theirs_stood p m k.theirs King v l stands | inr pawn ↦ absurd (king_no_pawn pawn.pawn) ]
    ] in
    elim (shown_piece p m seen k.mine p.side King q (centre_low k.mine k.mine_centre) k.mine_stands) [
      | inl stood ↦ kings_apart p k.mine k.theirs v stood theirs k.mine_centre k.theirs_centre (apart seen p.side k)
      | inr more ↦
          elim more [
            | inl stands ↦
                let back : on (board_after p m) k.mine ≡ piece_of (other (other p.side)) King = stands ∙ ap (λ (x : Side). piece_of x King) (sym (other-other p.side)) in
                kings_apart (after p m) k.theirs k.mine w (their_king p m k.theirs v l theirs) back k.theirs_centre k.mine_centre
                (λ e. apart seen p.side k (sym e))
            | inr pawn ↦ absurd (king_no_pawn pawn.pawn)
          ]
    ]

-- and a try, which shows a valid position
pub kings_apart_under_way : (p : Parts) (m : Move) (seen : List ℕ) → Valid p → Legal p m → IsUnderWay p m seen → HasKingsApart seen
kings_apart_under_way p m seen v l way =
    elim way.way [
      | inl q ↦ apart_unless seen p.side (apart_partial p m seen v l q)
      | inr t ↦ apart_unless seen (after p t.tried).side (apart_valid (after p t.tried) seen (moves_stay_valid p t.tried v t.legal) t.shows)
    ]
