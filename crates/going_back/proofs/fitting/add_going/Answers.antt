use Rattle.std.proofs.Common.{◌≡◌, ◌-◌, List, Option, length, take, sym, ap, subst, ◌∙◌}
use Rattle.std.specs.Prelude.{slice_get}
use Rattle.std.proofs.lemmas.List.{length-map, take-map}
use Rattle.chess_rules.specs.declared.chess_move.Move.{Move}
use Rattle.chess_rules.specs.declared.parts.Parts.{Parts}
use Rattle.settle_core.specs.Folding.{moves_of}
use Rattle.settle_core.specs.Settling.{Line, position_after}
use Rattle.settle_core.specs.declared.plies.Ply.{Ply}
use Rattle.going_back.specs.declared.fit.Fit.{Fit}
use Rattle.going_back.specs.Fitting.{Fits}
use Rattle.going_back.specs.Inside.Fitting.{Adds, FitsFrom}
use Rattle.going_back.proofs.FitLemmas.{going_from, going_to, line_front, sum_of}
use Rattle.going_back.proofs.FitListing.{adds_same}
use Rattle.going_back.proofs.fitting.add_going.Goals as goal

pub position_behind-position-requires : goal.position_behind-position-requires
position_behind-position-requires c =
    let plies = c.args.plies.now in
    let n = length plies - c.args.gone in
    let L : List Move → Type 0 = λ xs. Line c.args.start.now xs in
    subst L (take-map (λ (ply : Ply). ply.mv) n plies) (line_front c.args.start.now (moves_of plies) n c.requires.line)

pub returns : goal.returns
returns c =
    let start = c.args.start.now in
    let plies = c.args.plies.now in
    let moves = moves_of plies in
    let gone = c.args.gone in
    let seen = c.args.seen.now in
    let n = length plies - gone in
    let a = c.args.fits.now.items in
    let b = c.add_from.new.fits.items in
    let sum = sum_of gone (length moves) (length plies) c.if-plies-gone.false (length-map plies (λ (ply : Ply). ply.mv)) in
    let here : c.position_behind-position.result ≡ position_after start (take n moves) =
    c.position_behind-position.ensures ∙ ap (position_after start) (sym (take-map (λ (ply : Ply). ply.mv) n plies)) in
    let W : Option Move → Type 0 = λ w. Adds (FitsFrom c.position_behind-position.result gone w seen) a b in
    let P : Parts → Type 0 = λ q. Adds (FitsFrom q gone (slice_get moves n) seen) a b in
    let adds = subst P here (subst W c.move_at-went.ensures c.in_ok-add_from.ensures) in
    let These : Fit → Type 0 = λ x. (x.gone ≡ gone) × Fits start moves seen x in
    adds_same (FitsFrom (position_after start (take n moves)) gone (slice_get moves n) seen) These a b adds
    (λ x. (λ h. going_from start moves seen gone n x sum h, λ h. going_to start moves seen gone n x sum c.requires.few h))
