-- Which plies of a game stay, by a text. Plies stand in their order.
use Rattle.std.specs.Prelude.{◌≡◌, ◌⊎◌, ◌≤◌, ◌+◌, ◌-◌, ◌||◌, ◌&&◌, ◌==◌, nat_lt, ℕ, zero, suc, Bool, if◌then◌else◌, List, [], ◌∷◌, ◌++◌, codes, decimal, length, slice_index, take}
use Rattle.chess_rules.specs.declared.chess_move.Move.{Move}
use Rattle.chess_rules.specs.declared.parts.Parts.{Parts}
use Rattle.chess_rules.specs.After.{after}
use Rattle.chess_text.specs.San.{San}
use Rattle.pgn_book.specs.Movetext.{number_token}
use Rattle.settle_core.specs.declared.plies.Ply.{Ply}

-- `+` or `#` stands at the end
abbrev pub is_marked : List ℕ → Bool
is_marked text = nat_lt 0 (length text) && (slice_index text (length text - 1) == 43 || slice_index text (length text - 1) == 35)

-- the text without it
abbrev pub unmarked : List ℕ → List ℕ
unmarked text = if is_marked text then take (length text - 1) text else text

-- The text names the ply that this move makes in this position: by its number, or by its number and its SAN, whatever
-- mark of a check it has or lacks.
abbrev pub IsNameOf : Parts → Move → List ℕ → Type 0
IsNameOf p m text = (text ≡ number_token p.side p.fullmove)
    ⊎ ((san : List ℕ) × San p m san × (unmarked text ≡ unmarked (number_token p.side p.fullmove ++ codes " " ++ san)))

-- The text names the ply with this number, which is 1 for the first.
abbrev pub NamesPly : Parts → List Ply → List ℕ → ℕ → Type 0
NamesPly p [] text k = ⊥
NamesPly p (ply ∷ plies) text zero = ⊥
NamesPly p (ply ∷ plies) text (suc zero) = IsNameOf p ply.mv text
NamesPly p (ply ∷ plies) text (suc (suc k)) = NamesPly (after p ply.mv) plies text (suc k)

-- So many of the plies stay: all but the last with an empty text, all with `*`; as many as the text says, or those up to
-- a ply that it names.
abbrev pub Names : Parts → List Ply → List ℕ → ℕ → Type 0
Names start plies text k = ((text ≡ []) × (k + 1 ≡ length plies))
    ⊎ (((text ≡ codes "*") × (k ≡ length plies))
    ⊎ (((text ≡ decimal k) × (k ≤ length plies)) ⊎ NamesPly start plies text k))
