-- Pictures on the way to a move: no move goes on from a pair that explains one of them.
use Rattle.std.proofs.Common.{◌≡◌, ◌≢◌, ◌⊎◌, ℕ, ◌<◌, inl, inr, List, Option, None, get_or, refl, sym, ap, subst, ◌∙◌}
use Rattle.std.proofs.lemmas.Bool.{cases_eq}
use Rattle.chess_rules.specs.declared.pieces.Piece.{Piece}
use Rattle.chess_rules.specs.declared.pieces.Side.{Side}
use Rattle.chess_rules.specs.declared.pieces.Kind.{Kind}
use Rattle.chess_rules.specs.declared.pieces.Kind.TheVariants.{Pawn, Rook, King}
use Rattle.chess_rules.specs.declared.chess_move.Move.{Move}
use Rattle.chess_rules.specs.declared.parts.Parts.{Parts}
use Rattle.chess_rules.specs.Board.{Board, on, piece_of, other, Ahead, forward}
use Rattle.chess_rules.specs.After.{after, crossed, rook_home}
use Rattle.chess_rules.specs.Legal.{Goes, step, pawn_step, capture, double_step, en_passant, castling, Legal, TakesEnPassant}
use Rattle.chess_rules.specs.Valid.{Valid, IsAtHome, IsTarget}
use Rattle.chess_rules.specs.Picture.{code, code_of_piece, picture}
use Rattle.chess_rules.specs.Laws.{KeepsPieces, MovesOnePiece}
use Rattle.chess_rules.proofs.LawLemmas.{moves_move_pieces, moves_stay_valid, pieces_tell_moves}
use Rattle.chess_rules.proofs.Shifts.{kind_of, on_board, same_unless, side_of}
use Rattle.chess_rules.proofs.Replacing.{king_no_pawn, none_piece, other-other, sides_differ}
use Rattle.settle_core.proofs.Boards.{one_kept, castled_quiet}
use Rattle.settle_core.proofs.Pawns.{one_back, passed, no_target, pawn_stood}
use Rattle.settle_core.specs.HonestPlay.{ShowsNoMore}
use Rattle.settle_core.proofs.Pieces.{at_picture, on_shown, shown_on, piece_or_not, theirs_stood}
use Rattle.settle_core.proofs.Unseen.{as_side, one_only, taken_on}
use Rattle.settle_core.proofs.Waiting.{no_more_piece}
use Rattle.unseen_pairs.specs.HonestHands.{IsOff, IsOnTheWay}

-- this side's move takes a piece of it from one square to another, on which none of it stood
record Carries (side : Side) (m : Move) (old new : Board) : Type 0 where
  pub was : Kind
  pub stood : on old m.from ≡ piece_of side was
  pub left : on new m.from ≡ None
  pub is : Kind
  pub came : on new m.to ≡ piece_of side is
  pub free : (k : Kind) → on old m.to ≢ piece_of side k

carries : (p : Parts) (m : Move) (side : Side) → p.side ≡ side → Valid p → Legal p m → Carries side m p.board (after p m).board
carries p m side e v l =
    let C : Side → Type 0 = λ x. Carries x m p.board (after p m).board in
    subst C e
    (elim (moves_move_pieces p m v l) [
      | inl o ↦ record { was = o.kind; stood = o.stands; left = o.left; is = _; came = o.came; free = o.free }
      | inr c ↦ record { was = King; stood = c.king; left = c.king_left; is = King; came = c.king_came; free = λ k h. none_piece (sym c.target_empty ∙ h) }
    ])

-- a piece of the other side stood where it stands after the move
stood_before :
    (p : Parts) (m : Move) (side : Side) (s : ℕ) (k : Kind)
    → other p.side ≡ side → Valid p → Legal p m → on (after p m).board s ≡ piece_of side k → on p.board s ≡ piece_of side k
stood_before p m side s k e v l h =
    as_side p.board s k (other p.side) side e (theirs_stood p m s k v l (as_side (after p m).board s k side (other p.side) (sym e) h))

-- a move en passant goes to an empty square
passes_empty : (p : Parts) (m : Move) (k : Kind) → Valid p → TakesEnPassant p m → on p.board m.to ≢ piece_of (other p.side) k
passes_empty p m k v x h = let t : IsTarget p.board p.side m.to = v.target m.to x.target in none_piece (sym t.empty ∙ h)

-- a move takes one piece at most
takes_one :
    (p : Parts) (m : Move) (s t : ℕ) (j k : Kind)
    → Valid p → Legal p m
    → on p.board s ≡ piece_of (other p.side) j
    → on (after p m).board s ≢ piece_of (other p.side) j
    → on p.board t ≡ piece_of (other p.side) k
    → on (after p m).board t ≢ piece_of (other p.side) k
    → s ≡ t
takes_one p m s t j k v l hs gs ht gt =
    elim (moves_move_pieces p m v l) [
      | inr c ↦ absurd (gs (castled_quiet p m c s j hs))
      | inl o ↦
          elim (taken_on p m o s j hs gs) [
            | inl a ↦
                elim (taken_on p m o t k ht gt) [
                  | inl b ↦ a ∙ sym b
                  | inr y ↦ absurd (passes_empty p m j v y.1 (ap (on p.board) (sym a) ∙ hs))
                ]
            | inr x ↦
                elim (taken_on p m o t k ht gt) [
                  | inl b ↦ absurd (passes_empty p m k v x.1 (ap (on p.board) (sym b) ∙ ht))
                  | inr y ↦ x.0 ∙ sym y.0
                ]
          ]
    ]

-- after a capture en passant no pawn of the other side goes to the square of the pawn that was taken
no_return :
    (p : Parts) (k n : Move) (o : MovesOnePiece p k)
    → Valid p → Valid (after p k)
    → TakesEnPassant p k
    → Ahead (forward (other p.side)) 1 k.to n.to
    → n.to ≡ o.taken
    → on (after p k).board n.from ≡ piece_of (other p.side) Pawn
    → Goes (after p k) n
    → ⊥
no_return p k n o v w x ahead e h (step s) = s.no_pawn (ap kind_of (sym s.stands ∙ h))
no_return p k n o v w x ahead e h (pawn_step s) =
    let same : n.from ≡ k.to = one_back (other p.side) n.from k.to n.to s.goes ahead in
    sides_differ p.side (ap side_of (sym o.came ∙ ap (on (after p k).board) (sym same) ∙ h))
no_return p k n o v w x ahead e h (capture s) = none_piece (sym o.gone ∙ ap (on (after p k).board) (sym e) ∙ s.taken)
no_return p k n o v w x ahead e h (double_step s) =
    none_piece (sym (s.passed_empty k.to (passed (other p.side) n.from k.to n.to s.goes ahead)) ∙ o.came)
no_return p k n o v w x ahead e h (en_passant s) =
    let one : IsTarget p.board p.side k.to = v.target k.to x.target in
    let two : IsTarget (after p k).board (other p.side) n.to = w.target n.to s.target in
    no_target p.side k.to n.to one.on_row two.on_row ahead
no_return p k n o v w x ahead e h (castling wing s) =
    let home : IsAtHome (after p k).board (other p.side) wing = w.rights (other p.side) wing s.right in
    king_no_pawn (ap kind_of (sym home.king ∙ ap (on (after p k).board) (sym s.from) ∙ h))

-- Where the pictures of a position and of that after a move of the other side are both on the way, each of its pieces
-- stands in that position where it stood.
theirs_stand :
    (p : Parts) (m : Move) (q : Parts) (r : Move) (seen now : List ℕ)
    → Valid p → Legal p m → Valid q → Legal q r
    → q.side ≡ other p.side
    → IsOnTheWay p m seen → seen ≡ picture q
    → IsOnTheWay p m now → now ≡ picture (after q r)
    → KeepsPieces (other p.side) p.board q.board
theirs_stand p m q r seen now v l vq lr e h is h' is' =
    let side : Side = other p.side in
    let w : Valid (after q r) = moves_stay_valid q r vq lr in
    let x : Carries side r q.board (after q r).board = carries q r side e vq lr in
    let low : r.from < 64 = rw (← vq.squares) (on_board q.board r.from side x.was x.stood) in
    let stood : on p.board r.from ≡ piece_of side x.was = h.nowhere_else r.from x.was low (shown_on q seen r.from side x.was is x.stood) in
    let gone : on (after p m).board r.from ≢ piece_of side x.was =
    λ stays. none_piece (sym x.left ∙ on_shown (after q r) now r.from side x.was (rw w.squares low) is' (h'.theirs r.from x.was (stood, stays))) in
    λ s k g.
    elim (piece_or_not (on (after p m).board s) (piece_of side k)) [
      | inl stays ↦
          let low_s : s < 64 = rw (← v.squares) (on_board p.board s side k g) in
          on_shown q seen s side k (rw vq.squares low_s) is (h.theirs s k (g, stays))
      | inr taken ↦
          let same : s ≡ r.from = takes_one p m s r.from k x.was v l g taken stood gone in
          ap (on q.board) same ∙ x.stood ∙ sym stood ∙ ap (on p.board) (sym same) ∙ g
    ]

-- No pair in which the mover moves first goes on by a move.
pub no_own_pair :
    (p : Parts) (m k n r : Move) (seen now : List ℕ)
    → Valid p → Legal p m
    → Legal p k → Legal (after p k) n → Legal (after (after p k) n) r
    → IsOnTheWay p m seen → seen ≡ picture (after (after p k) n)
    → IsOnTheWay p m now → now ≡ picture (after (after (after p k) n) r)
    → ⊥
no_own_pair p m k n r seen now v l lk ln lr h is h' is' =
    let side : Side = p.side in
    let their : Side = other p.side in
    let a : Parts = after p k in
    let q : Parts = after a n in
    let va : Valid a = moves_stay_valid p k v lk in
    let vq : Valid q = moves_stay_valid a n va ln in
    let vr : Valid (after q r) = moves_stay_valid q r vq lr in
    let y : Carries their n a.board q.board = carries a n their refl va ln in
    let z : Carries side r q.board (after q r).board = carries q r side (other-other side) vq lr in
    let left : on p.board n.from ≡ piece_of their y.was = stood_before p k their n.from y.was refl v lk y.stood in
    let low : n.from < 64 = rw (← v.squares) (on_board p.board n.from their y.was left) in
    let off : IsOff p seen = record {
      square = n.from;
      kind = y.was;
      stands = left;
      off = λ c. none_piece (sym y.left ∙ on_shown q seen n.from their y.was (rw vq.squares low) is c);
    } in
    let off' : IsOff p now = record {
      square = n.from;
      kind = y.was;
      stands = left;
      off = λ c.
          none_piece (sym y.left
          ∙ stood_before q r their n.from y.was (other-other their) vq lr (on_shown (after q r) now n.from their y.was (rw vr.squares low) is' c));
    } in
    let taken : on (after p m).board n.from ≢ piece_of their y.was = λ stays. off.off (h.theirs n.from y.was (left, stays)) in
    let low_to : n.to < 64 = rw (← vq.squares) (on_board q.board n.to their y.is y.came) in
    let equal : on p.board n.to ≡ piece_of their y.is = h.nowhere_else n.to y.is low_to (shown_on q seen n.to their y.is is y.came) in
    elim (moves_move_pieces p k v lk) [
      | inr c ↦ y.free y.is (castled_quiet p k c n.to y.is equal)
      | inl o ↦
          elim (taken_on p k o n.to y.is equal (y.free y.is)) [
            | inr x ↦
                let pawn : y.is ≡ Pawn = ap kind_of (sym equal ∙ x.2) in
                no_return p k n o v va x.1 x.3 x.0 (pawn_stood a n va ln (y.came ∙ ap (piece_of their) pawn)) ln.goes
            | inl to ↦
                let own_left : on (after p m).board k.from ≢ piece_of side o.kind =
                λ stays.
                let low_k : k.from < 64 = rw (← v.squares) (on_board p.board k.from side o.kind o.stands) in
                let in_q : on q.board k.from ≡ piece_of side o.kind = on_shown q seen k.from side o.kind (rw vq.squares low_k) is (h.own off k.from o.kind (o.stands, stays)) in
                none_piece (sym o.left ∙ stood_before a n side k.from o.kind (other-other side) va ln in_q) in
                let in_a : on a.board r.from ≡ piece_of side z.was = stood_before a n side r.from z.was (other-other side) va ln z.stood in
                let ne : r.from ≢ k.to = λ e. sides_differ side (ap side_of (sym z.stood ∙ ap (on q.board) (e ∙ sym to) ∙ y.came)) in
                let in_p : on p.board r.from ≡ piece_of side z.was = one_only p k o r.from z.was ne in_a in
                let next_left : on (after p m).board r.from ≢ piece_of side z.was =
                λ stays.
                let low_r : r.from < 64 = rw (← v.squares) (on_board p.board r.from side z.was in_p) in
                none_piece (sym z.left ∙ on_shown (after q r) now r.from side z.was (rw vr.squares low_r) is' (h'.own off' r.from z.was (in_p, stays))) in
                elim (moves_move_pieces p m v l) [
                  | inr c ↦ taken (castled_quiet p m c n.from y.was left)
                  | inl one ↦
                      let f : k.from ≡ m.from = same_unless k.from m.from (λ d. own_left (one_kept p m one k.from o.kind d o.stands)) in
                      let g : r.from ≡ m.from = same_unless r.from m.from (λ d. next_left (one_kept p m one r.from z.was d in_p)) in
                      none_piece (sym o.left ∙ ap (on a.board) (f ∙ sym g) ∙ in_a)
                ]
          ]
    ]

-- No pair in which the other side replies to a move that was tried goes on by a move.
pub no_reply_pair :
    (p : Parts) (m tried k n r : Move) (seen now : List ℕ)
    → Valid p → Legal p m → Legal p tried
    → Legal (after p tried) k → Legal (after (after p tried) k) n → Legal (after (after (after p tried) k) n) r
    → IsOnTheWay p m seen → seen ≡ picture (after (after (after p tried) k) n)
    → IsOnTheWay p m now → now ≡ picture (after (after (after (after p tried) k) n) r)
    → ⊥
no_reply_pair p m tried k n r seen now v l lt lk ln lr h is h' is' =
    let their : Side = other p.side in
    let a : Parts = after p tried in
    let b : Parts = after a k in
    let va : Valid a = moves_stay_valid p tried v lt in
    let vb : Valid b = moves_stay_valid a k va lk in
    let vq : Valid (after b n) = moves_stay_valid b n vb ln in
    let y : Carries their k a.board b.board = carries a k their refl va lk in
    let in_p : on p.board k.from ≡ piece_of their y.was = stood_before p tried their k.from y.was refl v lt y.stood in
    let in_q : on (after b n).board k.from ≡ piece_of their y.was =
    theirs_stand p m (after b n) r seen now v l vq lr (other-other their) h is h' is' k.from y.was in_p in
    none_piece (sym y.left ∙ stood_before b n their k.from y.was (other-other their) vb ln in_q)

-- No pair that puts another move in the place of the other side's last one goes on by a move.
pub no_correction :
    (g : Parts) (last m k n r : Move) (seen now : List ℕ)
    → Valid g → Legal g last → Legal (after g last) m
    → Legal g k → Legal (after g k) n → Legal (after (after g k) n) r
    → IsOnTheWay (after g last) m seen → seen ≡ picture (after (after g k) n)
    → IsOnTheWay (after g last) m now → now ≡ picture (after (after (after g k) n) r)
    → k ≡ last
no_correction g last m k n r seen now v ll lm lk ln lr h is h' is' =
    let p : Parts = after g last in
    let a : Parts = after g k in
    let va : Valid a = moves_stay_valid g k v lk in
    let vq : Valid (after a n) = moves_stay_valid a n va ln in
    let same : other (other g.side) ≡ g.side = other-other g.side in
    let stand : KeepsPieces (other (other g.side)) p.board (after a n).board =
    theirs_stand p m (after a n) r seen now (moves_stay_valid g last v ll) lm vq lr refl h is h' is' in
    sym (pieces_tell_moves g last k v ll lk
    (λ s kind here.
    let in_q : on (after a n).board s ≡ piece_of (other (other g.side)) kind =
    stand s kind (as_side p.board s kind g.side (other (other g.side)) (sym same) here) in
    as_side a.board s kind (other (other g.side)) g.side same (stood_before a n (other (other g.side)) s kind refl va ln in_q)))

king_no_rook : King ≢ Rook
king_no_rook e = let never : ⊥ = cc in never

-- what a move leaves on a square: what stood there, nothing, or a piece of its side
left_on :
    (q : Parts) (r : Move) (s : ℕ)
    → Valid q → Legal q r
    → (on (after q r).board s ≡ on q.board s) ⊎ (on (after q r).board s ≡ None) ⊎ ((k : Kind) × (on (after q r).board s ≡ piece_of q.side k))
left_on q r s v l =
    elim (moves_move_pieces q r v l) [
      | inl o ↦
          elim (cases_eq s r.from) [
            | inl e ↦ inr (inl (ap (on (after q r).board) e ∙ o.left))
            | inr nf ↦
                elim (cases_eq s r.to) [
                  | inl e ↦ inr (inr (_, ap (on (after q r).board) e ∙ o.came))
                  | inr nt ↦
                      elim (cases_eq s o.taken) [
                        | inl e ↦ inr (inl (ap (on (after q r).board) e ∙ o.gone))
                        | inr nx ↦ inl (o.others s nf nt nx)
                      ]
                ]
          ]
      | inr c ↦
          elim (cases_eq s r.from) [
            | inl e ↦ inr (inl (ap (on (after q r).board) e ∙ c.king_left))
            | inr nf ↦
                elim (cases_eq s r.to) [
                  | inl e ↦ inr (inr (King, ap (on (after q r).board) e ∙ c.king_came))
                  | inr nt ↦
                      elim (cases_eq s (rook_home q.side c.wing)) [
                        | inl e ↦ inr (inl (ap (on (after q r).board) e ∙ c.rook_left))
                        | inr nr ↦
                            elim (cases_eq s (crossed q.side c.wing)) [
                              | inl e ↦ inr (inr (Rook, ap (on (after q r).board) e ∙ c.rook_came))
                              | inr nc ↦ inl (c.others s nf nt nr nc)
                            ]
                      ]
                ]
          ]
    ]

-- a picture at a square where the board is as another one, that shows no more than stands
no_more_same :
    (p q w : Parts) (now : List ℕ) (s : ℕ)
    → Valid q → Valid w → s < 64
    → ShowsNoMore p (picture q) → now ≡ picture w → on w.board s ≡ on q.board s
    → (get_or now s 0 ≡ code (on p.board s)) ⊎ (get_or now s 0 ≡ 0)
no_more_same p q w now s vq vw low less is same =
    let e : get_or now s 0 ≡ get_or (picture q) s 0 =
    ap (λ (xs : List ℕ). get_or xs s 0) is ∙ at_picture w s (rw vw.squares low) ∙ ap code same ∙ sym (at_picture q s (rw vq.squares low)) in
    elim (less s low) [ inl stands ↦ inl (e ∙ stands) | inr none ↦ inr (e ∙ none) ]

-- where the board has this
shows_on : (w : Parts) (now : List ℕ) (s : ℕ) (x : Option Piece) → Valid w → s < 64 → now ≡ picture w → on w.board s ≡ x → get_or now s 0 ≡ code x
shows_on w now s x v low is e = ap (λ (xs : List ℕ). get_or xs s 0) is ∙ at_picture w s (rw v.squares low) ∙ ap code e

-- Where a pair leads to no more than stands, and the other side moves then, a picture on the way shows no more either.
pub reply_shows_no_more :
    (p : Parts) (m : Move) (q : Parts) (r : Move) (now : List ℕ)
    → Valid q → Legal q r
    → q.side ≡ other p.side
    → ShowsNoMore p (picture q)
    → IsOnTheWay p m now → now ≡ picture (after q r)
    → ShowsNoMore p now
reply_shows_no_more p m q r now v l e less h is s low =
    let w : Valid (after q r) = moves_stay_valid q r v l in
    elim (left_on q r s v l) [
      | inl same ↦ no_more_same p q (after q r) now s v w low less is same
      | inr (inl none) ↦ inr (shows_on (after q r) now s None w low is none)
      | inr (inr own) ↦
          let there : on (after q r).board s ≡ piece_of (other p.side) own.0 = own.1 ∙ ap (λ (side : Side). piece_of side own.0) e in
          inl (shows_on (after q r) now s (piece_of (other p.side) own.0) w low is there
          ∙ ap code (sym (h.nowhere_else s own.0 low (shown_on (after q r) now s (other p.side) own.0 is there))))
    ]

-- So it is where the mover makes the first ply of the pair, and the one behind it.
pub own_shows_no_more :
    (p : Parts) (m k n r : Move) (now : List ℕ)
    → Valid p → Legal p m
    → Legal p k → Legal (after p k) n → Legal (after (after p k) n) r
    → ShowsNoMore p (picture (after (after p k) n))
    → IsOnTheWay p m now → now ≡ picture (after (after (after p k) n) r)
    → ShowsNoMore p now
own_shows_no_more p m k n r now v l lk ln lr less h is s low =
    let side : Side = p.side in
    let their : Side = other p.side in
    let a : Parts = after p k in
    let q : Parts = after a n in
    let va : Valid a = moves_stay_valid p k v lk in
    let vq : Valid q = moves_stay_valid a n va ln in
    let w : Valid (after q r) = moves_stay_valid q r vq lr in
    let x : Carries side k p.board a.board = carries p k side refl v lk in
    let y : Carries their n a.board q.board = carries a n their refl va ln in
    let left : on p.board n.from ≡ piece_of their y.was = stood_before p k their n.from y.was refl v lk y.stood in
    let low_n : n.from < 64 = rw (← v.squares) (on_board p.board n.from their y.was left) in
    let off : IsOff p now = record {
      square = n.from;
      kind = y.was;
      stands = left;
      off = λ c.
          none_piece (sym y.left
          ∙ stood_before q r their n.from y.was (other-other their) vq lr (on_shown (after q r) now n.from their y.was (rw w.squares low_n) is c));
    } in
    let taken : on (after p m).board n.from ≢ piece_of their y.was = λ stays. off.off (h.theirs n.from y.was (left, stays)) in
    let low_k : k.from < 64 = rw (← v.squares) (on_board p.board k.from side x.was x.stood) in
    let gone : (j : Kind) → on q.board k.from ≢ piece_of side j = λ j e. none_piece (sym x.left ∙ stood_before a n side k.from j (other-other side) va ln e) in
    elim (moves_move_pieces p m v l) [
      | inr c ↦ absurd (taken (castled_quiet p m c n.from y.was left))
      | inl one ↦
          let moved : (t : ℕ) (j : Kind) → on q.board t ≡ piece_of side j → on (after q r).board t ≡ None → t ≡ m.from =
          λ t j stood none.
          let low_t : t < 64 = rw (← vq.squares) (on_board q.board t side j stood) in
          let in_p : on p.board t ≡ piece_of side j = no_more_piece p (picture q) t side j less low_t (shown_on q (picture q) t side j refl stood) in
          same_unless t m.from (λ d.
          none_piece (sym none ∙ on_shown (after q r) now t side j (rw w.squares low_t) is (h.own off t j (in_p, one_kept p m one t j d in_p)))) in
          elim (moves_move_pieces q r vq lr) [
            | inr c ↦
                let king : on q.board r.from ≡ piece_of side King = as_side q.board r.from King q.side side (other-other side) c.king in
                let rook : on q.board (rook_home q.side c.wing) ≡ piece_of side Rook = as_side q.board (rook_home q.side c.wing) Rook q.side side (other-other side) c.rook in
                let same : r.from ≡ rook_home q.side c.wing =
                moved r.from King king c.king_left ∙ sym (moved (rook_home q.side c.wing) Rook rook c.rook_left) in
                absurd (king_no_rook (ap kind_of (sym king ∙ ap (on q.board) same ∙ rook)))
            | inl o ↦
                let from : on q.board r.from ≡ piece_of side o.kind = as_side q.board r.from o.kind q.side side (other-other side) o.stands in
                let at : r.from ≡ m.from = moved r.from o.kind from o.left in
                let ne : k.from ≢ m.from = λ d. gone o.kind (ap (on q.board) (d ∙ sym at) ∙ from) in
                let stays : get_or now k.from 0 ≡ code_of_piece side x.was = h.own off k.from x.was (x.stood, one_kept p m one k.from x.was ne x.stood) in
                let back : on (after q r).board k.from ≡ piece_of side x.was = on_shown (after q r) now k.from side x.was (rw w.squares low_k) is stays in
                let to : k.from ≡ r.to =
                same_unless k.from r.to (λ d.
                gone x.was (as_side q.board k.from x.was q.side side (other-other side)
                (one_only q r o k.from x.was d (as_side (after q r).board k.from x.was side q.side (sym (other-other side)) back)))) in
                elim (cases_eq s r.to) [
                  | inl e ↦
                      inl (shows_on (after q r) now s (piece_of side x.was) w low is (ap (on (after q r).board) (e ∙ sym to) ∙ back)
                      ∙ ap code (sym (ap (on p.board) (e ∙ sym to) ∙ x.stood)))
                  | inr nt ↦
                      elim (cases_eq s r.from) [
                        | inl e ↦ inr (shows_on (after q r) now s None w low is (ap (on (after q r).board) e ∙ o.left))
                        | inr nf ↦
                            elim (cases_eq s o.taken) [
                              | inl e ↦ inr (shows_on (after q r) now s None w low is (ap (on (after q r).board) e ∙ o.gone))
                              | inr nx ↦ no_more_same p q (after q r) now s vq w low less is (o.others s nf nt nx)
                            ]
                      ]
                ]
          ]
    ]

-- After a move that was tried, no reply to it is settled.
pub no_reply_settles :
    (p : Parts) (m tried k : Move) (seen : List ℕ)
    → Valid p → Legal p m → Legal p tried → Legal (after p tried) k
    → IsOnTheWay p m (picture (after p tried))
    → IsOnTheWay p m seen → seen ≡ picture (after (after p tried) k)
    → ⊥
no_reply_settles p m tried k seen v l lt lk t h is =
    let their : Side = other p.side in
    let a : Parts = after p tried in
    let va : Valid a = moves_stay_valid p tried v lt in
    let vb : Valid (after a k) = moves_stay_valid a k va lk in
    let y : Carries their k a.board (after a k).board = carries a k their refl va lk in
    let left : on p.board k.from ≡ piece_of their y.was = stood_before p tried their k.from y.was refl v lt y.stood in
    let low_from : k.from < 64 = rw (← v.squares) (on_board p.board k.from their y.was left) in
    let low_to : k.to < 64 = rw (← vb.squares) (on_board (after a k).board k.to their y.is y.came) in
    let equal : on p.board k.to ≡ piece_of their y.is = h.nowhere_else k.to y.is low_to (shown_on (after a k) seen k.to their y.is is y.came) in
    let first : on (after p m).board k.from ≢ piece_of their y.was =
    λ stays. none_piece (sym y.left ∙ on_shown (after a k) seen k.from their y.was (rw vb.squares low_from) is (h.theirs k.from y.was (left, stays))) in
    let second : on (after p m).board k.to ≢ piece_of their y.is =
    λ stays. y.free y.is (on_shown a (picture a) k.to their y.is (rw va.squares low_to) refl (t.theirs k.to y.is (equal, stays))) in
    let same : k.to ≡ k.from = takes_one p m k.to k.from y.is y.was v l equal second left first in
    y.free y.was (ap (on a.board) same ∙ y.stood)
