use Rattle.std.proofs.Common.{◌∷◌, refl, sym, subst, ◌∙◌, rules}
use Prim.{search}
use Rattle.settle_core.specs.Masks.{IsDiff}
use Rattle.board_captures.proofs.ReadLemmas.{is_last}
use Rattle.recovery.proofs.KeepLemmas.{repeats_here}
use Rattle.board_game.proofs.SeeLemmas.{again_seen, another_seen, another_shown, another_there, changes_from, changes_since, no_difference, one_changed}
use Rattle.board_game.proofs.pictures.Pictures.see.Goals as goal

pub returns-then-is_some-clause-seen : goal.returns-then-is_some-clause-seen
returns-then-is_some-clause-seen c = λ setting past seen.
    again_seen c.args.self.now _ setting past c.args.event.now (c.in-Nothing.ensures.shown setting.rotated past seen.view) (c.see-change.ensures.views setting.rotated past seen.view) refl refl refl seen

pub returns-then-is_some-clause-shown : goal.returns-then-is_some-clause-shown
returns-then-is_some-clause-shown c = λ setting past valid tells seen.
    let entry = sym tells.entry ∙ (sym c.is_some.ensures ∙ c.if-is_some.true) in
    (entry, repeats_here setting.first setting.rotated past c.args.event.now (c.in-Nothing.ensures.shown setting.rotated past seen.view) entry)

pub returns-else-is_some-clause-seen : goal.returns-else-is_some-clause-seen
returns-else-is_some-clause-seen c = λ setting past seen.
    again_seen c.args.self.now _ setting past c.args.event.now (c.in-Nothing.ensures.shown setting.rotated past seen.view) (c.see-change.ensures.views setting.rotated past seen.view) refl refl refl seen

pub returns-else-is_some-clause-shown : goal.returns-else-is_some-clause-shown
returns-else-is_some-clause-shown c = λ setting past valid tells seen. sym tells.entry ∙ (sym c.is_some.ensures ∙ c.if-is_some.false)

pub returns-in-Square-clause-seen : goal.returns-in-Square-clause-seen
returns-in-Square-clause-seen c = λ setting past seen.
    let event = c.args.event.now in
    let views = c.see-change.ensures.views setting.rotated past seen.view in
    let one = one_changed setting past event c.picture.result.now c.picture-picture.result.now c.in-Square.square c.in-Square.code (c.in-Square.ensures.shown setting.rotated past seen.view)
    (c.picture.ensures.last setting.rotated past seen.view) (c.picture-picture.ensures.last setting.rotated (event ∷ past) views) in
    let differ = c.changed-turned.ensures c.picture.result.now c.count_codes.ensures (seen.mask c.picture.result.now one.last) in
    another_seen _ setting past event c.picture-picture.result.now one.more views refl seen.turned
    (subst (λ p. IsDiff c.changed-turned.result c.args.self.now.turned p) (sym one.is) differ)

pub returns-in-Square-clause-shown : goal.returns-in-Square-clause-shown
returns-in-Square-clause-shown c = λ setting past valid tells seen.
    let event = c.args.event.now in
    let before = c.picture.result.now in
    let p = c.picture-picture.result.now in
    let views = c.see-change.ensures.views setting.rotated past seen.view in
    let one = one_changed setting past event before p c.in-Square.square c.in-Square.code (c.in-Square.ensures.shown setting.rotated past seen.view)
    (c.picture.ensures.last setting.rotated past seen.view) (c.picture-picture.ensures.last setting.rotated (event ∷ past) views) in
    let here = c.changed-changed_here.ensures before c.count_codes.ensures (no_difference before) in
    let differ = c.changed-turned.ensures before c.count_codes.ensures (seen.mask before one.last) in
    another_shown setting past event c.args.taken.now p c.args.self.now.turned c.changed-changed_here.result c.changed-turned.result c.moves.result one.more
    (changes_since before p c.changed-changed_here.result _ one.last (search rules) (subst (λ q. IsDiff c.changed-changed_here.result before q) (sym one.is) here))
    seen.turned (search rules) (subst (λ q. IsDiff c.changed-turned.result c.args.self.now.turned q) (sym one.is) differ) valid tells c.moves.ensures

pub returns-in-Picture-clause-seen : goal.returns-in-Picture-clause-seen
returns-in-Picture-clause-seen c = λ setting past seen.
    let event = c.args.event.now in
    let p = c.picture-picture.result.now in
    let views = c.see-change.ensures.views setting.rotated past seen.view in
    let more = another_there setting past event p (c.in-Picture.ensures.shown setting.rotated past seen.view) (c.picture-picture.ensures.last setting.rotated (event ∷ past) views) in
    another_seen _ setting past event p more views refl seen.turned c.diff_mask-turned.ensures

pub returns-in-Picture-clause-shown : goal.returns-in-Picture-clause-shown
returns-in-Picture-clause-shown c = λ setting past valid tells seen.
    let event = c.args.event.now in
    let before = c.picture.result.now in
    let p = c.picture-picture.result.now in
    let was = c.picture.ensures.last setting.rotated past seen.view in
    let views = c.see-change.ensures.views setting.rotated past seen.view in
    let more = another_there setting past event p (c.in-Picture.ensures.shown setting.rotated past seen.view) (c.picture-picture.ensures.last setting.rotated (event ∷ past) views) in
    another_shown setting past event c.args.taken.now p c.args.self.now.turned c.changed_from-changed_here.result c.diff_mask-turned.result c.moves-in-Picture.result more
    (changes_from c.args.self.now.has_shown _ before p c.changed_from-changed_here.result seen.shown (λ some. is_last setting.first setting.rotated past before (sym seen.shown ∙ some) was)
    c.changed_from-changed_here.ensures.first c.changed_from-changed_here.ensures.later (search rules))
    seen.turned (search rules) c.diff_mask-turned.ensures valid tells c.moves-in-Picture.ensures
