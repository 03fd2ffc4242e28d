-- What reading a FEN returns.
use Rattle.std.proofs.Common.{◌≡◌, ℕ, List, ◌↔◌, ap, subst}
use Rattle.std.specs.Prelude.{Result, Ok, Err}
use Rattle.chess_rules.specs.declared.parts.Parts.{Parts}
use Rattle.chess_rules.specs.Valid.{Valid}
use Rattle.chess_text.specs.declared.fen.FenError.{FenError}
use Rattle.chess_text.specs.Fen.{TellsPosition, RefusedFirst}
use Rattle.chess_text.proofs.FenTexts.{texts_tell_positions, not_refused}

-- the result is the position that the text tells
abbrev pub IsAnswer : List ℕ → Result Parts FenError → Type 0
IsAnswer text r = (p : Parts) → r ≡ Ok p ↔ (Valid p × TellsPosition text p)

pub ok_is : (text : List ℕ) (q : Parts) → Valid q → TellsPosition text q → IsAnswer text (Ok q)
ok_is text q v t = λ p. (λ e. let same : q ≡ p = cc in (subst Valid same v, subst (TellsPosition text) same t), λ h. ap Ok (texts_tell_positions q p text v h.0 t h.1))

pub err_is : (text : List ℕ) (e : FenError) → RefusedFirst text e → IsAnswer text (Err e)
err_is text e r = λ p. (λ same. absurd (let no : Err e ≡ Ok p = same in cc), λ h. absurd (not_refused text p h.0 h.1 e r))
