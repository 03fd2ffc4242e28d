-- The line of a pair, word by word.
use Rattle.std.proofs.Common.{◌≡◌, ℕ, List, ◌++◌, codes, decimal, sym, ap, ◌∙◌, append_assoc}
use Rattle.chess_rules.specs.declared.pieces.Side.{Side}
use Rattle.chess_rules.specs.declared.pieces.Side.TheVariants.{White, Black}
use Rattle.pgn_book.specs.Movetext.{number_token}

-- eight texts, one after the other
eight : (p c d e f g h i j : List ℕ) → p ++ c ++ d ++ e ++ f ++ g ++ h ++ i ++ j ≡ p ++ (c ++ d ++ e ++ f ++ g ++ h ++ i ++ j)
eight p c d e f g h i j =
    let two = append_assoc p c d in
    let three = ap (λ t. t ++ e) two ∙ append_assoc p (c ++ d) e in
    let four = ap (λ t. t ++ f) three ∙ append_assoc p (c ++ d ++ e) f in
    let five = ap (λ t. t ++ g) four ∙ append_assoc p (c ++ d ++ e ++ f) g in
    let six = ap (λ t. t ++ h) five ∙ append_assoc p (c ++ d ++ e ++ f ++ g) h in
    let seven = ap (λ t. t ++ i) six ∙ append_assoc p (c ++ d ++ e ++ f ++ g ++ h) i in
    ap (λ t. t ++ j) seven ∙ append_assoc p (c ++ d ++ e ++ f ++ g ++ h ++ i) j

-- the line, added to others
pub line_added : (old l1 l2 l3 l4 l5 l6 l7 a b c d e f g h i j k : List ℕ)
    → l1 ≡ old ++ a → l2 ≡ l1 ++ b → l3 ≡ l2 ++ c → l4 ≡ l3 ++ d ++ e ++ f → l5 ≡ l4 ++ g → l6 ≡ l5 ++ h ++ i ++ j → l7 ≡ l6 ++ k
    → l7 ≡ old ++ (a ++ b ++ (c ++ d ++ e ++ f ++ g ++ h ++ i ++ j) ++ k)
line_added old l1 l2 l3 l4 l5 l6 l7 a b c d e f g h i j k e1 e2 e3 e4 e5 e6 e7 =
    let w = c ++ d ++ e ++ f ++ g ++ h ++ i ++ j in
    let first : l2 ≡ old ++ (a ++ b) = e2 ∙ ap (λ t. t ++ b) e1 ∙ append_assoc old a b in
    let third : l3 ≡ old ++ (a ++ b) ++ c = e3 ∙ ap (λ t. t ++ c) first in
    let fourth : l4 ≡ old ++ (a ++ b) ++ c ++ d ++ e ++ f = e4 ∙ ap (λ t. t ++ d ++ e ++ f) third in
    let fifth : l5 ≡ old ++ (a ++ b) ++ c ++ d ++ e ++ f ++ g = e5 ∙ ap (λ t. t ++ g) fourth in
    let sixth : l6 ≡ old ++ (a ++ b) ++ w = e6 ∙ ap (λ t. t ++ h ++ i ++ j) fifth ∙ eight (old ++ (a ++ b)) c d e f g h i j in
    e7 ∙ ap (λ t. t ++ k) (sixth ∙ append_assoc old (a ++ b) w) ∙ append_assoc old (a ++ b ++ w) k

-- a move's number, as it stands before White's move, and before Black's
pub dot_added : (old l1 l2 : List ℕ) (side : Side) (n : ℕ) → l1 ≡ old ++ decimal n → l2 ≡ l1 ++ codes "." → side ≡ White → l2 ≡ old ++ number_token side n
dot_added old l1 l2 side n number dot is =
    dot ∙ ap (λ t. t ++ codes ".") number ∙ append_assoc old (decimal n) (codes ".") ∙ ap (λ s. old ++ number_token s n) (sym is)

pub dots_added : (old l1 l2 : List ℕ) (side : Side) (n : ℕ) → l1 ≡ old ++ decimal n → l2 ≡ l1 ++ codes "..." → side ≡ Black → l2 ≡ old ++ number_token side n
dots_added old l1 l2 side n number dots is =
    dots ∙ ap (λ t. t ++ codes "...") number ∙ append_assoc old (decimal n) (codes "...") ∙ ap (λ s. old ++ number_token s n) (sym is)
