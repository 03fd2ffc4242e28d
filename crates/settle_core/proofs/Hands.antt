-- Pictures within the mover's turn, and pictures without a king.
use Rattle.std.proofs.Common.{◌≢◌, ℕ, ◌<◌, List, get_or}
use Rattle.chess_rules.specs.declared.pieces.Side.{Side}
use Rattle.chess_rules.specs.declared.pieces.Side.TheVariants.{White, Black}
use Rattle.chess_rules.specs.declared.pieces.Kind.TheVariants.{King}
use Rattle.chess_rules.specs.declared.chess_move.Move.{Move}
use Rattle.chess_rules.specs.declared.parts.Parts.{Parts}
use Rattle.chess_rules.specs.After.{after}
use Rattle.chess_rules.specs.Valid.{Valid, HasOneKing}
use Rattle.chess_rules.specs.Picture.{picture}
use Rattle.chess_rules.proofs.LawLemmas.{moves_stay_valid}
use Rattle.chess_rules.proofs.Shifts.{on_board}
use Rattle.settle_core.specs.declared.plies.Outcome.{Outcome}
use Rattle.settle_core.specs.Settling.{Settles}
use Rattle.settle_core.specs.Sign.{IsSign}
use Rattle.settle_core.specs.HonestPlay.{IsCapture, HasKingsApart, IsWithinTurn, LacksKing}
use Rattle.settle_core.specs.Laws.{UnderWayIsWithinTurn}
use Rattle.settle_core.proofs.Pieces.{ShowsNoNew, takes_unless, quiet_under_way, settles_end, no_new_under_way, shown_on}
use Rattle.settle_core.proofs.Apart.{centre_low, kings_apart_under_way}

-- a picture with the kings apart is no sign
pub no_sign_apart : (seen : List ℕ) → HasKingsApart seen → (p : Parts) (outcome : Outcome) → ¬ IsSign p seen outcome
no_sign_apart seen apart p outcome h = apart h.white_king h.black_king h.white.centre h.black.centre h.white.stands h.black.stands

-- what a picture within the turn settles takes no piece
pub within_turn_quiet : (p : Parts) (k : Move) (seen : List ℕ) → IsWithinTurn p seen → Settles p seen k → ¬ IsCapture p k
within_turn_quiet p k seen hand h t = hand.no_capture k h.legal t h.shows

pub within_turn_no_new : (p : Parts) (seen : List ℕ) → IsWithinTurn p seen → ShowsNoNew p seen
within_turn_no_new p seen hand = hand.theirs

-- a picture without a king is that of no position
pub lacking_no_picture : (p : Parts) (seen : List ℕ) → Valid p → LacksKing seen → seen ≢ picture p
lacking_no_picture p seen v lacks e =
    let king : HasOneKing p.board lacks.side = v.kings lacks.side in
    lacks.nowhere king.king (rw (← v.squares) (on_board p.board king.king lacks.side King king.stands)) (shown_on p seen king.king lacks.side King e king.stands)

pub lacking_settles : (p : Parts) (seen : List ℕ) (m : Move) → Valid p → LacksKing seen → ¬ Settles p seen m
lacking_settles p seen m v lacks h = lacking_no_picture (after p m) seen (moves_stay_valid p m v h.legal) lacks h.shows

lacking_sign : (p : Parts) (seen : List ℕ) (outcome : Outcome) (side : Side)
    → ((s : ℕ) → s < 64 → get_or seen s 0 ≢ Rattle.chess_rules.specs.Picture.code_of_piece side King) → ¬ IsSign p seen outcome
lacking_sign p seen outcome White nowhere h = nowhere h.white_king (centre_low h.white_king h.white.centre) h.white.stands
lacking_sign p seen outcome Black nowhere h = nowhere h.black_king (centre_low h.black_king h.black.centre) h.black.stands

pub lacking_no_sign : (p : Parts) (seen : List ℕ) (outcome : Outcome) → LacksKing seen → ¬ IsSign p seen outcome
lacking_no_sign p seen outcome lacks = lacking_sign p seen outcome lacks.side lacks.nowhere

-- a picture on the way to a move, or a try of its piece, is within the mover's turn
pub under_way_is_within_turn : UnderWayIsWithinTurn
under_way_is_within_turn p m seen v l way =
    record {
      theirs = no_new_under_way p m seen v l way;
      kings = kings_apart_under_way p m seen v l way;
      no_capture = λ n ln t e. takes_unless p n (quiet_under_way p m n seen v l way (settles_end p n seen v ln e)) t;
    }
