-- The texts that a watcher adds.
use Rattle.std.proofs.Common.{◌≡◌, ◌∙◌, ℕ, List, ◌++◌, codes, append_assoc, ap, refl, sym, true}
use Rattle.chess_rules.specs.declared.parts.Parts.{Parts}
use Rattle.settle_core.specs.declared.plies.Seen.{Seen}
use Rattle.settle_core.specs.declared.plies.Seen.TheVariants.{Same, Moved, Sign, Replaced, Waits}
use Rattle.settle_core.specs.Folding.{Score}
use Rattle.watched_streams.specs.Lines.{line}
use Rattle.board_listing.specs.GameText.{TellsSeen, reached_by}
use Rattle.board_listing.specs.Inside.Plies.{is_ply}
use Rattle.board_listing.specs.Inside.Positions.{TellsSeenAndPosition}
use Rattle.board_listing.specs.WatchLines.{position_words}
use Rattle.board_listing.proofs.FollowLemmas.{clash}
use Rattle.board_listing.proofs.SquareLemmas.{line_added, more_added}

-- Texts that are added one behind the other, and the two lines that they make, which have one offset.
pub two_lines_added : (l0 l1 l2 l3 l4 l5 l6 l7 offset placement words : List ℕ)
    → l1 ≡ l0 ++ offset → l2 ≡ l1 ++ codes " picture " → l3 ≡ l2 ++ placement → l4 ≡ l3 ++ codes "\n"
    → l5 ≡ l4 ++ offset → l6 ≡ l5 ++ codes " " → l7 ≡ l6 ++ words ++ codes "\n"
    → l7 ≡ (l0 ++ (offset ++ codes " " ++ (codes "picture " ++ placement) ++ codes "\n")) ++ (offset ++ codes " " ++ words ++ codes "\n")
two_lines_added l0 l1 l2 l3 l4 l5 l6 l7 offset placement words e1 e2 e3 e4 e5 e6 e7 =
    let space = codes " " in
    let end = codes "\n" in
    let begun : l2 ≡ l0 ++ (offset ++ codes " picture ") = more_added l0 l1 l2 offset (codes " picture ") e1 e2 in
    let drawn = more_added l0 l2 l3 (offset ++ codes " picture ") placement begun e3 in
    let first = more_added l0 l3 l4 (offset ++ codes " picture " ++ placement) end drawn e4 in
    let parted : offset ++ codes " picture " ++ placement ≡ offset ++ space ++ (codes "picture " ++ placement) =
    ap (λ text. text ++ placement) (sym (append_assoc offset space (codes "picture "))) ∙ append_assoc (offset ++ space) (codes "picture ") placement in
    line_added l4 l6 l7 offset space words end (e6 ∙ ap (λ text. text ++ space) e5) (e7 ∙ append_assoc l6 words end)
    ∙ ap (λ text. text ++ (offset ++ space ++ words ++ end)) (first ∙ ap (λ text. l0 ++ (text ++ end)) parted)

-- The position stands behind the line of a ply.
pub position_behind : (offset : ℕ) (start : Parts) (score : Score) (shown : List ℕ) (seen : Seen) (told : List ℕ) → is_ply seen ≡ true → TellsSeen offset start score shown seen told
    → TellsSeenAndPosition offset start score shown seen (told ++ line offset (position_words (reached_by start score)))
position_behind offset start score shown (Moved m) told ply tells = (told, tells, refl)
position_behind offset start score shown (Replaced m) told ply tells = (told, tells, refl)
position_behind offset start score shown Same told ply tells = absurd tells
position_behind offset start score shown (Sign outcome) told ply tells = absurd (clash ply refl)
position_behind offset start score shown Waits told ply tells = absurd (clash ply refl)
