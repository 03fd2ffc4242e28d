-- What a text says of the move that it may name.
use Rattle.std.specs.Prelude.{◌≡◌, ℕ, ◌+◌, ◌-◌, ◌*◌, ◌==◌, Bool, true, false, not, ◌&&◌, List, [], ◌∷◌, length, Option, None, Some, slice_index, nat_lt, if◌then◌else◌}
use Rattle.chess_rules.specs.declared.pieces.Side.{Side}
use Rattle.chess_rules.specs.declared.pieces.Kind.{Kind}
use Rattle.chess_rules.specs.declared.pieces.Kind.TheVariants.{Pawn, Rook, Knight, Bishop, King, Queen}
use Rattle.chess_rules.specs.declared.chess_move.Move.{Move}
use Rattle.chess_rules.specs.declared.parts.Parts.{Parts}
use Rattle.chess_rules.specs.declared.lines.Wing.{Wing}
use Rattle.chess_rules.specs.declared.lines.Wing.TheVariants.{KingSide, QueenSide}
use Rattle.chess_rules.specs.Board.{on, piece_of}
use Rattle.chess_rules.specs.After.{castling_target}
use Rattle.chess_text.specs.declared.aim.Aim.{Aim}

abbrev pub is_within : ℕ → ℕ → ℕ → Bool
is_within low high b = not (nat_lt b low) && not (nat_lt high b)

-- the first that is there
abbrev pub either : Option ℕ → Option ℕ → Option ℕ
either (Some b) o = Some b
either None o = o

abbrev pub only : Bool → ℕ → Option ℕ
only true b = Some b
only false b = None

-- the last byte from low to high
abbrev pub last_in : ℕ → ℕ → List ℕ → Option ℕ
last_in low high [] = None
last_in low high (b ∷ bs) = either (last_in low high bs) (only (is_within low high b) b)

abbrev pub kind_at : ℕ → Kind
kind_at b =
    if b == 75 then King else if b == 81 then Queen else if b == 82 then Rook else
    if b == 66 then Bishop else if b == 78 then Knight else Pawn

-- the square of the last letter a to h and the last digit 1 to 8
abbrev pub target_by : Option ℕ → Option ℕ → Option ℕ
target_by (Some f) (Some r) = Some (8 * (56 - r) + (f - 97))
target_by _ _ = None

-- the last letter B to R, where the text has `=`
abbrev pub promotion_by : Option ℕ → Option ℕ → Option Kind
promotion_by (Some e) (Some b) = Some (kind_at b)
promotion_by _ _ = None

abbrev pub aim_by : Kind → Option ℕ → Option Kind → Option Aim
aim_by k (Some t) o = Some (record { kind = k; to = t; promotion = o })
aim_by k None o = None

abbrev pub wing_by : Bool → Wing
wing_by true = KingSide
wing_by false = QueenSide

abbrev pub castling_aim : Side → Wing → Aim
castling_aim side wing = record { kind = King; to = castling_target side wing; promotion = None }

abbrev pub text_aim : List ℕ → Option Aim
text_aim text = aim_by (kind_at (slice_index text 0)) (target_by (last_in 97 104 text) (last_in 49 56 text))
    (promotion_by (last_in 61 61 text) (last_in 66 82 text))

-- what the text aims at
abbrev pub aim_at : Side → List ℕ → Option Aim
aim_at side text = if slice_index text 0 == 79 then Some (castling_aim side (wing_by (nat_lt (length text) 5))) else text_aim text

pub record IsAimedAt (p : Parts) (m : Move) (aim : Aim) : Type 0 where
  pub kind : on p.board m.from ≡ piece_of p.side aim.kind
  pub to : m.to ≡ aim.to
  pub promotion : m.promotion ≡ aim.promotion

abbrev pub AimsAt : Parts → Move → Option Aim → Type 0
AimsAt p m (Some aim) = IsAimedAt p m aim
AimsAt p m None = ⊥

-- the move from s that the aim speaks of
abbrev pub aimed_from : Aim → ℕ → Move
aimed_from aim s = record { from = s; to = aim.to; promotion = aim.promotion }
