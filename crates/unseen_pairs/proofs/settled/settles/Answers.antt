use Rattle.std.proofs.Common.{sym, ap, ◌∙◌}
use Rattle.std.proofs.lemmas.Slice.Eq.{bytes_eq-Decides}
use Rattle.chess_rules.specs.After.{after}
use Rattle.chess_rules.specs.Picture.{picture}
use Rattle.settle_core.proofs.Steps.{settled_from}
use Rattle.unseen_pairs.proofs.settled.settles.Goals as goal

pub returns-then-is_legal : goal.returns-then-is_legal
returns-then-is_legal c =
    let legal = c.is_legal.ensures in
    let d = bytes_eq-Decides c.picture.result c.args.seen.now in
    let shot = c.picture.ensures.shown ∙ ap picture (c.play.ensures.after ∙ ap (after c.args.p.now) c.copy-then-is_legal.ensures) in (
      λ same. settled_from c.args.p.now c.args.seen.now c.args.m.now c.copy.result c.copy-then-is_legal.result c.play.result c.picture.result
          c.pictures_tell_moves.ensures c.parts.ensures.valid c.copy.ensures (legal.0 c.if-is_legal.true) c.copy-then-is_legal.ensures c.play.ensures.after c.picture.ensures.shown
          (sym c.eq.ensures ∙ same),
      λ h. c.eq.ensures ∙ d.1 (shot ∙ sym h.shows),
    )
