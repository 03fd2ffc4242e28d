-- A position that comes again without a press.
use Rattle.std.proofs.Common.{◌≡◌, ◌≤◌, ◌&&◌, ℕ, Bool, true, false, List, ◌∷◌, ◌++◌, Option, Some, None, refl, sym, ap, ◌∙◌, arith}
use Rattle.std.specs.Prelude.{if◌then◌else◌, is_some}
use Rattle.std.proofs.lemmas.Bool.{le-ltb, true≢false}
use Rattle.board_doubts.specs.declared.heard.Event.{Event}
use Rattle.board_doubts.specs.declared.heard.Place.TheVariants.{AtLast}
use Rattle.board_doubts.specs.declared.heard.Ply.{Ply}
use Rattle.board_doubts.specs.declared.heard.Why.{Why}
use Rattle.board_doubts.specs.declared.heard.Why.TheVariants.{Returned}
use Rattle.board_doubts.specs.Doubts.{doubt_by, doubted}
use Rattle.board_doubts.specs.Meaning.{SilentReturnIsDoubted}
use Rattle.board_doubts.specs.Pace.{took_longer}
use Rattle.board_doubts.specs.Plies.{both_back, both_further, played, played_by}
use Rattle.board_doubts.specs.Presses.{is_used, quiet}
use Rattle.board_doubts.specs.Silent.{has_repeated, is_pair, needed, pause, pending, pending_by, silent, silent_by, suspected, suspects}
use Rattle.board_doubts.specs.Unheard.{is_unheard}
use Rattle.board_doubts.specs.Waiting.{ply_times}
use Rattle.board_doubts.proofs.Reasons.{pending_in, quiet_still}

some_suspected : (added used back on again : Bool) → added ≡ false → used ≡ true → again ≡ true
    → is_some (if added then None else if used then suspects back on again else None) ≡ true
some_suspected true used back on again a u h = absurd (true≢false a)
some_suspected false false back on again a u h = absurd (true≢false (sym u))
some_suspected false true true on again a u h = refl
some_suspected false true false true again a u h = refl
some_suspected false true false false true a u h = refl
some_suspected false true false false false a u h = absurd (true≢false (sym h))

at_most_four : (why : Why) → needed why ≤ 4
at_most_four Returned = omega arith
at_most_four _ = omega arith

some_silent : (count : ℕ) (waits : Option Why) → is_some waits ≡ true → 4 ≤ count → is_some (doubted AtLast (silent_by count waits)) ≡ true
some_silent count None is many = absurd (true≢false (sym is))
some_silent count (Some why) is many =
    let most = at_most_four why in
    ap (λ b. is_some (doubted AtLast (if b then None else Some why))) (le-ltb count (needed why) (omega (arith, most, many)))

pub silent_return_is_doubted : SilentReturnIsDoubted
silent_return_is_doubted last clock ply runs past later plays own used repeated paused four waits says seen on =
    let plies : ℕ → Option Ply = played_by last.what (played past) in
    let all : List Event = later ++ last ∷ past in
    let new : Option Why = if last.is_added then None else suspected last.what past in
    let again : (has_repeated past && took_longer pause 3 (ply_times past)) ≡ true = ap (λ b. b && took_longer pause 3 (ply_times past)) repeated ∙ paused in
    let begun : is_some new ≡ true =
    some_suspected last.is_added (is_used past) (is_pair (ply_times past) && both_back plies) (is_pair (ply_times past) && both_further plies)
    (has_repeated past && took_longer pause 3 (ply_times past)) own used again in
    let is : pending (last ∷ past) ≡ new = ap (λ what. pending_by what (is_unheard past) new (pending past)) plays in
    let still : is_some (pending all) ≡ true = ap (λ (o : Option Why). is_some o) (pending_in (last ∷ past) later waits ∙ is) ∙ begun in
    let same : quiet all ≡ quiet (last ∷ past) = quiet_still (last ∷ past) later waits in
    ap (λ b. is_some (if b then None else doubt_by clock.what clock.at all)) seen
    ∙ ap (λ what. is_some (doubt_by what clock.at all)) says
    ∙ ap (λ b. is_some (doubted AtLast (if b then silent (quiet all) all else None))) on
    ∙ some_silent (quiet all) (pending all) still (omega (arith, same, four))
