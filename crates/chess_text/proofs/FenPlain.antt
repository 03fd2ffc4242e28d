-- A FEN is at most 91 printable bytes, with no quotation mark and no backslash.
use Rattle.std.proofs.Common.{ℕ, ◌<◌, Bool, true, false, List, [], ◌∷◌, Option, None, Some, refl, arith}
use Rattle.std.specs.Prelude.{decimal}
use Rattle.std.proofs.lemmas.Fmt.{length-decimal-le}
use Rattle.chess_rules.specs.declared.pieces.Side.{Side}
use Rattle.chess_rules.specs.declared.pieces.Side.TheVariants.{White, Black}
use Rattle.chess_rules.specs.declared.parts.Rights.{Rights}
use Rattle.chess_rules.specs.declared.parts.Parts.{Parts}
use Rattle.chess_rules.specs.Picture.{picture}
use Rattle.chess_text.specs.Placement.{placement}
use Rattle.chess_text.specs.Fen.{side_text, held, rights_letters, or_dash, rights_text, target_text, IsTargetField, fen, whole}
use Rattle.chess_text.specs.Laws.{IsFenByte, FensArePlain}
use Rattle.chess_text.proofs.PlacementBytes.{AtMost, join, nothing, one, wider, placement_bytes}
use Rattle.chess_text.proofs.FenTexts.{decimal_digits, target_low, valid_reads}

letter_plain : (b : ℕ) → 44 < b → b < 92 → AtMost IsFenByte 1 (b ∷ [])
letter_plain b l h = one IsFenByte b (omega arith, omega arith, λ e. omega arith, λ e. omega arith)

small_plain : (b : ℕ) → 92 < b → b < 127 → AtMost IsFenByte 1 (b ∷ [])
small_plain b l h = one IsFenByte b (omega arith, omega arith, λ e. omega arith, λ e. omega arith)

space : AtMost IsFenByte 1 (32 ∷ [])
space = one IsFenByte 32 (omega arith, omega arith, λ e. omega arith, λ e. omega arith)

placement_plain : (p : Parts) → AtMost IsFenByte 71 (placement (picture p))
placement_plain p =
    let b = placement_bytes (picture p) in
    record { short = b.short; bytes = λ k d lt. let at = b.bytes k d lt in (omega (arith, at.0), omega (arith, at.1), λ e. omega (arith, e, at.0), λ e. at.2 e) }

side_plain : (side : Side) → AtMost IsFenByte 1 (side_text side)
side_plain White = small_plain 119 (omega arith) (omega arith)
side_plain Black = small_plain 98 (omega arith) (omega arith)

held_plain : (is : Bool) (b : ℕ) → AtMost IsFenByte 1 (b ∷ []) → AtMost IsFenByte 1 (held is b)
held_plain true b h = h
held_plain false b h = nothing IsFenByte 1

or_dash_plain : (bs : List ℕ) → AtMost IsFenByte 4 bs → AtMost IsFenByte 4 (or_dash bs)
or_dash_plain [] h = wider IsFenByte 1 4 (45 ∷ []) (omega arith) (letter_plain 45 (omega arith) (omega arith))
or_dash_plain (b ∷ bs) h = h

pub castling_plain : (r : Rights) → AtMost IsFenByte 4 (rights_text r)
castling_plain r =
    or_dash_plain (rights_letters r)
    (join IsFenByte 1 3 (held r.white_king 75) _ (held_plain r.white_king 75 (letter_plain 75 (omega arith) (omega arith)))
    (join IsFenByte 1 2 (held r.white_queen 81) _ (held_plain r.white_queen 81 (letter_plain 81 (omega arith) (omega arith)))
    (join IsFenByte 1 1 (held r.black_king 107) _ (held_plain r.black_king 107 (small_plain 107 (omega arith) (omega arith)))
    (held_plain r.black_queen 113 (small_plain 113 (omega arith) (omega arith))))))

target_plain : (t : Option ℕ) → IsTargetField t → AtMost IsFenByte 2 (target_text t)
target_plain None h = wider IsFenByte 1 2 (45 ∷ []) (omega arith) (letter_plain 45 (omega arith) (omega arith))
target_plain (Some s) h =
    let low : s < 64 = target_low s h in
    join IsFenByte 1 1 _ _ (small_plain _ (omega arith) (omega arith)) (letter_plain _ (omega arith) (omega arith))

decimal_plain : (n : ℕ) → n < 10000 → AtMost IsFenByte 4 (decimal n)
decimal_plain n lt =
    let digits = decimal_digits n (omega arith) in
    record {
      short = length-decimal-le 4 n (omega arith) lt (omega arith);
      bytes = λ k d low. let at = digits.1 k d low in (omega (arith, at.0), omega (arith, at.1), λ e. omega (arith, e, at.0), λ e. omega (arith, e, at.1));
    }

pub fens_plain : FensArePlain
unfolding fen
fens_plain p v =
    let reads = valid_reads (fen p) p v (whole refl) in
    let all : AtMost IsFenByte 91 (fen p) =
    join IsFenByte 71 20 (placement (picture p)) _ (placement_plain p)
    (join IsFenByte 1 19 (32 ∷ []) _ space
    (join IsFenByte 1 18 (side_text p.side) _ (side_plain p.side)
    (join IsFenByte 1 17 (32 ∷ []) _ space
    (join IsFenByte 4 13 (rights_text p.rights) _ (castling_plain p.rights)
    (join IsFenByte 1 12 (32 ∷ []) _ space
    (join IsFenByte 2 10 (target_text p.target) _ (target_plain p.target reads.target)
    (join IsFenByte 1 9 (32 ∷ []) _ space
    (join IsFenByte 4 5 (decimal p.halfmove) _ (decimal_plain p.halfmove (omega (arith, v.counters.halfmove)))
    (join IsFenByte 1 4 (32 ∷ []) (decimal p.fullmove) space (decimal_plain p.fullmove (omega (arith, v.counters.fullmove)))))))))))) in
    record { short = all.short; bytes = all.bytes }
