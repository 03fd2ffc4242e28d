use Rattle.std.proofs.Common.{◌≡◌, Option, IfNone, IfSome, refl, ap, subst, ◌∙◌}
use Rattle.chess_rules.specs.declared.chess_move.Move.{Move}
use Rattle.chess_rules.specs.declared.parts.Parts.{Parts}
use Rattle.chess_rules.specs.After.{after}
use Rattle.settle_core.specs.Settling.{Settles}
use Rattle.unseen_pairs.proofs.Losing.{first_stays_not}
use Rattle.unseen_pairs.proofs.Adding.{adds_no_pairs, adds_no_reply, adds_one}
use Rattle.unseen_pairs.proofs.explaining.push_pair_with.Goals as goal

pub returns-then-stays : goal.returns-then-stays
returns-then-stays c =
    let same = c.stays.ensures in
    adds_no_pairs c.args.p.now c.args.seen.now c.args.first.now c.args.pairs.now.items
    (λ n two. first_stays_not c.args.p.now c.args.first.now n c.args.before.now c.args.seen.now c.parts.ensures.valid c.requires.before two (same.0 c.if-stays.true))

pub returns-in_default : goal.returns-in_default
returns-in_default c =
    let p = c.args.p.now in
    let m = c.args.first.now in
    let e : c.play-middle.result ≡ after p m = c.play-middle.ensures.after ∙ ap (after p) c.copy.ensures in
    let N : Option Move → Type 0 = λ f. IfNone f ((n : Move) → ¬ Settles c.play-middle.result c.args.seen.now n) in
    let never = subst N c.in_default.is (c.settled_in.ensures.none c.picture-shown.ensures.shown) in
    let S : Parts → Type 0 = λ (q : Parts). (n : Move) → ¬ Settles q c.args.seen.now n in
    adds_no_reply p c.args.seen.now m c.args.pairs.now.items c.parts.ensures.valid c.requires.first (subst S e never)

pub returns : goal.returns
returns c =
    let p = c.args.p.now in
    let m = c.args.first.now in
    let e : c.play-middle.result ≡ after p m = c.play-middle.ensures.after ∙ ap (after p) c.copy.ensures in
    let I : Option Move → Type 0 = λ f. IfSome f (Settles c.play-middle.result c.args.seen.now) in
    let settles = subst I c.in-Some.is c.settled_in.ensures.some in
    let S : Parts → Type 0 = λ (q : Parts). Settles q c.args.seen.now c.in-Some.second in
    adds_one p c.args.seen.now m c.in-Some.second (record { first = c.copy-2.result; second = c.in-Some.second }) c.args.pairs.now.items c.push.new.self.items
    c.in_ok-push.ensures.items c.copy-2.ensures refl c.requires.first (subst S e settles)
