-- What the events of the bytes tell, one after the other.
use Rattle.std.proofs.Common.{◌≡◌, ℕ, suc, ◌+◌, List, [], ◌∷◌, ◌++◌, length, take, refl, ap, ◌∙◌, arith}
use Rattle.dgt_frame.specs.Streams.{Timed}
use Rattle.board_cable.specs.declared.line.Event.{Event}
use Rattle.board_cable.specs.Frames.{told_of, with_happening, with_shown}

pub shown_more : (at : ℕ) (bytes : List ℕ) (shown : List Timed) (one : Timed) (past : List Event)
    → with_shown at bytes (shown ++ one ∷ []) past ≡ with_happening at (told_of one.event (take (one.offset + 1) bytes)) (with_shown at bytes shown past)
shown_more at bytes [] one past = refl
shown_more at bytes (first ∷ shown) one past = shown_more at bytes shown one (with_happening at (told_of first.event (take (first.offset + 1) bytes)) past)

pub take_past : (before bytes : List ℕ) (n : ℕ) → take (length before + n) (before ++ bytes) ≡ before ++ take n bytes
take_past [] bytes n = ap (λ k. take k bytes) (let k : 0 + n ≡ n = omega arith in k)
take_past (x ∷ before) bytes n =
    ap (λ k. take k (x ∷ (before ++ bytes))) (let k : length (x ∷ before) + n ≡ suc (length before + n) = omega arith in k)
    ∙ ap (λ xs. x ∷ xs) (take_past before bytes n)
