-- Pairs that would be recovered from what a board shows.
use Rattle.std.proofs.Common.{◌≡◌, ◌∙◌, List, ℕ, Some, reverse, sym, subst}
use Rattle.std.proofs.lemmas.List.{reverse-reverse}
use Rattle.chess_rules.specs.declared.parts.Parts.{Parts}
use Rattle.dgt_frame.specs.declared.events.Event.{Event}
use Rattle.settle_core.specs.declared.plies.Ply.{Ply}
use Rattle.settle_core.specs.Entries.{last_picture}
use Rattle.settle_core.specs.Folding.{moves_of}
use Rattle.settle_core.specs.Settler.{SettlerState, plies_of}
use Rattle.board_events.specs.Session.{entries_in}
use Rattle.board_events.specs.Settings.{Setting}
use Rattle.unseen_pairs.specs.Pairs.{IsExplained}
use Rattle.going_back.specs.Back.{ShowsPair}

pub pair_shown : (setting : Setting) (past : List Event) (settler : SettlerState) (seen : List ℕ)
    → settler.start ≡ setting.start → last_picture (entries_in setting past) ≡ Some seen
    → IsExplained settler.start (moves_of settler.score.plies) seen → ShowsPair setting past (plies_of settler)
pair_shown setting past settler seen start last h =
    let S : Parts → Type 0 = λ p. IsExplained p (moves_of settler.score.plies) seen in
    let P : List Ply → Type 0 = λ xs. IsExplained setting.start (moves_of xs) seen in
    (seen, last, subst P (sym (reverse-reverse settler.score.plies)) (subst S start h))

some_same : (seen other : List ℕ) → Some seen ≡ Some other → seen ≡ other
some_same seen other h = cc

pub pair_of : (setting : Setting) (past : List Event) (settler : SettlerState) (seen : List ℕ)
    → settler.start ≡ setting.start → last_picture (entries_in setting past) ≡ Some seen
    → ShowsPair setting past (plies_of settler) → IsExplained settler.start (moves_of settler.score.plies) seen
pair_of setting past settler seen start last (other, is, h) =
    let S : Parts → Type 0 = λ p. IsExplained p (moves_of settler.score.plies) seen in
    let P : List Ply → Type 0 = λ xs. IsExplained setting.start (moves_of xs) seen in
    let I : List ℕ → Type 0 = λ picture. IsExplained setting.start (moves_of (reverse (plies_of settler))) picture in
    subst S (sym start) (subst P (reverse-reverse settler.score.plies) (subst I (some_same other seen (sym is ∙ last)) h))
