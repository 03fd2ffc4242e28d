-- What holds of all positions and moves: the laws, for the crates that stand on them.
use Rattle.std.proofs.Common.{◌≡◌, ◌≢◌, ◌⊎◌, ◌<◌, inl, inr, [], ◌∷◌, Option, None, false, map, unwrap_or, refl, sym, ap, subst, ◌∙◌}
use Rattle.std.proofs.lemmas.Bool.{cond-false}
use Rattle.chess_rules.specs.declared.pieces.Kind.{Kind}
use Rattle.chess_rules.specs.declared.pieces.Kind.TheVariants.{Pawn, Rook, King}
use Rattle.chess_rules.specs.declared.pieces.Piece.{Piece}
use Rattle.chess_rules.specs.declared.chess_move.Move.{Move}
use Rattle.chess_rules.specs.declared.parts.Parts.{Parts}
use Rattle.chess_rules.specs.declared.lines.Wing.{Wing}
use Rattle.chess_rules.specs.Board.{Board, on, piece_of, other}
use Rattle.chess_rules.specs.After.{board_after, moved, taken_pawn, is_castling, is_en_passant, king_home, rook_home, castling_target, crossed}
use Rattle.chess_rules.specs.Legal.{Goes, step, pawn_step, capture, double_step, en_passant, castling, Captures, TakesEnPassant, Castles, NamesPromotion}
use Rattle.chess_rules.specs.Valid.{Valid, IsTarget, IsAtHome}
use Rattle.chess_rules.specs.Picture.{code}
use Rattle.chess_rules.specs.Laws.{PiecesTellMoves, PicturesTellMoves, MovesStayValid, CodesTellPieces, PicturesTellBoards, MovesOnePiece, MovesKingAndRook, MovesMovePieces}
use Rattle.chess_rules.proofs.Shifts.{Own}
use Rattle.chess_rules.proofs.Moving.{Passes, passes, not_own_empty, not_own_other, no_castling, no_castling_pawn, no_passant_officer, no_passant_forward, no_passant_capture, double_row, target_not_last, en_passant_board}
use Rattle.chess_rules.proofs.Tells.{pieces_tell, AreHomes, homes}
use Rattle.chess_rules.proofs.Replacing.{Replaces, replaces_clear, none_piece}
use Rattle.chess_rules.proofs.Transfers.{replaces_moved, uncrown}
use Rattle.chess_rules.proofs.Codes.{decode, decode-code, pictures_tell}
use Rattle.chess_rules.proofs.Staying.{valid_after, IsCastledTwice, castled_twice}

pub pieces_tell_moves : PiecesTellMoves
pieces_tell_moves = pieces_tell

pub pictures_tell_moves : PicturesTellMoves
pictures_tell_moves = pictures_tell

pub moves_stay_valid : MovesStayValid
moves_stay_valid = valid_after

pub codes_tell_pieces : CodesTellPieces
codes_tell_pieces a b e = sym (decode-code a) ∙ ap (λ n. decode n) e ∙ decode-code b

pub boards_of_codes : (b c : Board) → map code b ≡ map code c → b ≡ c
boards_of_codes [] [] e = refl
boards_of_codes [] (y ∷ ys) e = absurd (let never : ⊥ = cc in never)
boards_of_codes (x ∷ xs) [] e = absurd (let never : ⊥ = cc in never)
boards_of_codes (x ∷ xs) (y ∷ ys) e =
    let first : code x ≡ code y = cc in
    let rest : map code xs ≡ map code ys = cc in
    let same : x ≡ y = codes_tell_pieces x y first in
    let tails : xs ≡ ys = boards_of_codes xs ys rest in
    ap (λ (o : Option Piece). o ∷ xs) same ∙ ap (λ (b : Board). y ∷ b) tails

pub pictures_tell_boards : PicturesTellBoards
pictures_tell_boards p q e = boards_of_codes p.board q.board e

-- a move that neither castles nor takes en passant
plain_moves :
    (p : Parts) (m : Move) (k : Kind)
    → Valid p
    → on p.board m.from ≡ piece_of p.side k
    → m.to < 64
    → ¬ Own p.side p.board m.to
    → NamesPromotion p.side k m
    → is_castling p m ≡ false
    → is_en_passant p m ≡ false
    → ((victim : Kind) → on p.board m.to ≡ piece_of (other p.side) victim → Captures p m)
    → MovesOnePiece p m
plain_moves p m k v h low free names c e captures =
    let same : board_after p m ≡ moved p.board m = cond-false _ _ _ c ∙ cond-false _ _ _ e in
    let P : Board → Type 0 = λ b. Replaces p.board b m.from m.to m.from (piece_of p.side (unwrap_or m.promotion k)) in
    let r : Replaces p.board (board_after p m) m.from m.to m.from (piece_of p.side (unwrap_or m.promotion k)) =
    subst P (sym same) (replaces_moved p.board m p.side k h (rw v.squares low) free) in
    record {
      kind = k;
      taken = m.from;
      stands = h;
      names = names;
      no_new_king = uncrown p.side k m names;
      free = λ own q. free (record { kind = own; stands = q });
      captures = captures;
      passes = inl refl;
      apart = r.apart;
      left = r.at_from;
      came = r.at_to;
      gone = r.taken;
      others = r.others;
    }

none_captured : (p : Parts) (m : Move) → on p.board m.to ≡ None → (victim : Kind) → on p.board m.to ≡ piece_of (other p.side) victim → Captures p m
none_captured p m empty victim h = absurd (none_piece (sym empty ∙ h))

en_passant_moves : (p : Parts) (m : Move) → Valid p → m.to < 64 → TakesEnPassant p m → MovesOnePiece p m
en_passant_moves p m v low s =
    let target : IsTarget p.board p.side m.to = v.target m.to s.target in
    let q : Passes p.side m = passes p.side m s.attacks.direction s.attacks.distance s.attacks.ranges.1 s.attacks.ranges.0 s.attacks.lies in
    let free : ¬ Own p.side p.board m.to = not_own_empty p.side p.board m.to target.empty in
    let names : NamesPromotion p.side Pawn m =
    record { last = λ l. absurd (target_not_last p.side m.to target.on_row l); before = λ _. s.promotion } in
    let P : Board → Type 0 = λ b. Replaces p.board b m.from m.to (taken_pawn m) (piece_of p.side (unwrap_or m.promotion Pawn)) in
    let r : Replaces p.board (board_after p m) m.from m.to (taken_pawn m) (piece_of p.side (unwrap_or m.promotion Pawn)) =
    subst P (sym (en_passant_board p m v s))
    (replaces_clear p.board (moved p.board m) m.from m.to (taken_pawn m) (piece_of p.side (unwrap_or m.promotion Pawn))
    (replaces_moved p.board m p.side Pawn s.stands (rw v.squares low) free) q.from_differs q.to_differs) in
    record {
      kind = Pawn;
      taken = taken_pawn m;
      stands = s.stands;
      names = names;
      no_new_king = uncrown p.side Pawn m names;
      free = λ own e. free (record { kind = own; stands = e });
      captures = none_captured p m target.empty;
      passes = inr (s, target.pawn (taken_pawn m) q.ahead, q.ahead);
      apart = r.apart;
      left = r.at_from;
      came = r.at_to;
      gone = r.taken;
      others = r.others;
    }

pub castling_moves : (p : Parts) (m : Move) (wing : Wing) → Valid p → Castles p m wing → MovesKingAndRook p m
castling_moves p m wing v c =
    let h : AreHomes p.side wing (king_home p.side) (castling_target p.side wing) (rook_home p.side wing) (crossed p.side wing) = homes p.side wing in
    let home : IsAtHome p.board p.side wing = v.rights p.side wing c.right in
    let t : IsCastledTwice p m wing = castled_twice p m wing v c in
    let one : Replaces p.board (moved p.board m) m.from m.to m.from (piece_of p.side King) = t.first.replaces in
    let two : Replaces (moved p.board m) (board_after p m) (rook_home p.side wing) (crossed p.side wing) (rook_home p.side wing) (piece_of p.side Rook) = t.second.replaces in
    let fr : m.from ≢ rook_home p.side wing = λ e. h.fr (sym c.from ∙ e) in
    let fx : m.from ≢ crossed p.side wing = λ e. h.fx (sym c.from ∙ e) in
    let tr : m.to ≢ rook_home p.side wing = λ e. h.tr (sym c.to ∙ e) in
    let tx : m.to ≢ crossed p.side wing = λ e. h.tx (sym c.to ∙ e) in
    record {
      wing = wing;
      castles = c;
      promotion = c.promotion;
      king = t.stands;
      rook = home.rook;
      target_empty = t.target_empty;
      crossed_empty = c.empty _ h.x_between;
      king_left = two.others m.from fr fx fr ∙ one.at_from;
      rook_left = two.at_from;
      king_came = two.others m.to tr tx tr ∙ one.at_to;
      rook_came = two.at_to;
      others = λ s nf nt nr nx. two.others s nr nx nr ∙ one.others s nf nt nf;
    }

goes_moves : (p : Parts) (m : Move) → Valid p → m.to < 64 → Goes p m → MovesOnePiece p m ⊎ MovesKingAndRook p m
goes_moves p m v low (step s) =
    inl (plain_moves p m s.kind v s.stands low (not_own_empty p.side p.board m.to s.empty) s.promotion
    (no_castling p m s.kind s.stands s.attacks) (no_passant_officer p m s.kind s.stands s.no_pawn) (none_captured p m s.empty))
goes_moves p m v low (pawn_step s) =
    inl (plain_moves p m Pawn v s.stands low (not_own_empty p.side p.board m.to s.empty) s.promotion
    (no_castling_pawn p m s.stands) (no_passant_forward p m 1 s.goes) (none_captured p m s.empty))
goes_moves p m v low (capture s) =
    inl (plain_moves p m s.kind v s.stands low (not_own_other p.side p.board m.to s.victim s.taken) s.promotion
    (no_castling p m s.kind s.stands s.attacks) (no_passant_capture p m (other p.side) s.victim s.taken) (λ victim e. s))
goes_moves p m v low (double_step s) =
    inl (plain_moves p m Pawn v s.stands low (not_own_empty p.side p.board m.to s.empty)
    (record { last = λ e. absurd (double_row p.side m.from m.to s.begins s.goes e); before = λ _. s.promotion })
    (no_castling_pawn p m s.stands) (no_passant_forward p m 2 s.goes) (none_captured p m s.empty))
goes_moves p m v low (en_passant s) = inl (en_passant_moves p m v low s)
goes_moves p m v low (castling wing s) = inr (castling_moves p m wing v s)

pub moves_move_pieces : MovesMovePieces
moves_move_pieces p m v l = goes_moves p m v l.on_board l.goes
