use Rattle.std.proofs.Common.{Option, IfSome, refl, ap, ◌∙◌, subst}
use Rattle.chess_rules.specs.declared.chess_move.Move.{Move}
use Rattle.settle_core.specs.Settling.{Settles}
use Rattle.going_back.specs.declared.fit.Coming.TheVariants.{One}
use Rattle.going_back.specs.Inside.Fitting.{FitsByOne}
use Rattle.going_back.proofs.FitListing.{adds_fit, same_fit}
use Rattle.going_back.proofs.fitting.add_one.Goals as goal

pub returns : goal.returns
returns c =
    let p = c.args.p.now in
    let seen = c.args.seen.now in
    let m = c.in-Some.m in
    let I : Option Move → Type 0 = λ f. IfSome f (Settles p seen) in
    let settles = subst I c.in-Some.is c.settled_in.ensures.some in
    adds_fit (record { gone = c.args.gone; coming = One m }) (FitsByOne p c.args.gone c.args.went.now seen) c.args.fits.now.items c.push.new.self.items
    c.in_ok-push.ensures.items
    (record { ply = m; gives = settles; so_many = refl; comes = refl; anew = λ e. absurd (let a = c.is_gone.ensures.1 e in let b = c.if-is_gone.false in cc) })
    (λ x t. same_fit x (record { gone = c.args.gone; coming = One m }) t.so_many (t.comes ∙ ap One (settles.alone t.ply t.gives.legal t.gives.shows)))
