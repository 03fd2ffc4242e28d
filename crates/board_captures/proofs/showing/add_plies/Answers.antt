use Rattle.std.proofs.Common.{◌≡◌, ◌+◌, ◌++◌, List, [], ◌∷◌, None, drop, sym, subst, ap, ◌∙◌, refl, append_assoc, append-nil, arith}
use Rattle.dgt_frame.specs.declared.events.Event.{Event}
use Rattle.std.proofs.lemmas.List.{drop_all}
use Rattle.settle_core.specs.declared.plies.Ply.{Ply}
use Rattle.chess_game.proofs.Plies.{cut_at, line_at}
use Rattle.pair_frames.specs.PutIn.{ShowsWhole}
use Rattle.board_captures.specs.Shown.{plies_shown, ply_shown}
use Rattle.board_captures.proofs.showing.add_plies.Goals as goal

pub loop-ply-init : goal.loop-ply-init
loop-ply-init c = record {
  line = c.requires;
  shown = ([], λ events whole. let W : List Event → Type 0 = λ es. ShowsWhole c.args.out.now.items es in subst W (sym (append-nil events)) whole, refl);
  size = omega arith;
}

pub loop-ply-preserved : goal.loop-ply-preserved
loop-ply-preserved c =
    let plies = c.args.plies.now in
    let first = c.args.first in
    let rotated = c.args.rotated in
    let l = c.loop-ply in
    let ply = c.ply-item.result in
    let here = line_at l.position plies l.ply-index ply (omega arith) c.ply-item.is l.invariant.line in
    let one : List Event = ply_shown first rotated l.position l.before ply in
    let (done, shown, rest) = l.invariant.shown in
    let cut : plies_shown first rotated l.position l.before (drop l.ply-index plies)
    ≡ plies_shown first rotated l.position l.before (ply ∷ drop (l.ply-index + 1) plies) =
    ap (λ (xs : List Ply). plies_shown first rotated l.position l.before xs) (cut_at plies l.ply-index ply (omega arith) c.ply-item.is) in
    record {
      line = rw c.in_ok-position.ensures.after here.1;
      shown = (
        done ++ one,
        λ events whole.
            let W : List Event → Type 0 = λ es. ShowsWhole c.add_ply.new.out.items es in
            subst W (append_assoc events done one) (c.in_ok-position.ensures.shows (events ++ done) (shown events whole)),
        rw c.in_ok-position.ensures.after (append_assoc done one (plies_shown first rotated _ ply.clock (drop (l.ply-index + 1) plies))
            ∙ ap (λ (es : List Event). done ++ es) (sym cut) ∙ rest),
      );
      size = omega (arith, c.in_ok-position.ensures.size, l.invariant.size);
    }

pub returns-clause-shows : goal.returns-clause-shows
returns-clause-shows c = λ events whole.
    let first = c.args.first in
    let rotated = c.args.rotated in
    let plies = c.args.plies.now in
    let l = c.loop-ply in
    let (done, shown, rest) = l.invariant.shown in
    let none : drop l.ply-index plies ≡ [] = drop_all l.ply-index plies (omega arith) in
    let all : done ≡ plies_shown first rotated c.args.start.now None plies =
    sym (append-nil done) ∙ ap (λ (xs : List Ply). done ++ plies_shown first rotated l.position l.before xs) (sym none) ∙ rest in
    let W : List Event → Type 0 = λ es. ShowsWhole l.out.items (events ++ es) in
    subst W all (shown events whole)
