use Rattle.std.proofs.Common.{refl, ap, ◌∙◌, sym}
use Rattle.going_back.specs.declared.fit.Coming.TheVariants.{Two}
use Rattle.going_back.specs.Inside.Fitting.{IsTwo}
use Rattle.going_back.proofs.FitListing.{adds_fit, adds_nothing, same_fit}
use Rattle.going_back.proofs.fitting.add_two.Goals as goal

pub returns-then-is_gone : goal.returns-then-is_gone
returns-then-is_gone c = adds_nothing (IsTwo c.args.gone c.args.went.now c.args.two.now) c.args.fits.now.items
    (λ x t. t.anew (c.is_gone.ensures.0 c.if-is_gone.true))

pub returns : goal.returns
returns c =
    let two = c.args.two.now in
    let pair = ap Two c.copy.ensures in
    adds_fit (record { gone = c.args.gone; coming = Two c.copy.result }) (IsTwo c.args.gone c.args.went.now two) c.args.fits.now.items c.push.new.self.items
    c.in_ok-push.ensures.items
    (record { so_many = refl; comes = pair; anew = λ e. absurd (let a = c.is_gone.ensures.1 e in let b = c.if-is_gone.false in cc) })
    (λ x t. same_fit x (record { gone = c.args.gone; coming = Two c.copy.result }) t.so_many (t.comes ∙ sym pair))
