use Rattle.std.proofs.Common.{◌≡◌, ◌∙◌, refl, sym, true}
use Rattle.dgt_frame.specs.declared.events.Event.{Event}
use Rattle.dgt_frame.specs.declared.events.Message.TheVariants.{Update}
use Rattle.dgt_frame.specs.declared.events.Event.TheVariants.{Message as MessageEvent}
use Rattle.dgt_frame.specs.declared.time.First.TheVariants.{White}
use Rattle.board_events.proofs.TakeLemmas.{entries_updated}
use Rattle.board_events.proofs.ViewLemmas.{changed_picture, other_picture_shown, same_picture_shown, shows_same, square_changed, trusted_last, views_now}
use Rattle.board_events.proofs.view.View.see_update.Goals as goal

pub returns-then-self-square-clause-views : goal.returns-then-self-square-clause-views
returns-then-self-square-clause-views c rotated past views =
    let view = c.args.self.now in
    let event : Event = MessageEvent (Update c.args.field c.args.code) in
    let trusted : view.trusted ≡ true = c.if-not-self.false in
    let was = trusted_last view rotated past views trusted in
    let same = same_picture_shown view rotated past c.args.field c.args.code c.number-square.result _ c.requires.field c.number-square.ensures.in_range views trusted (c.number-square.ensures.number ∙ c.square_of.ensures) c.if-self-square.true in
    views_now view view rotated past event views (sym views.trust ∙ trusted) refl trusted was.0 same

pub returns-then-self-square-clause-shown : goal.returns-then-self-square-clause-shown
returns-then-self-square-clause-shown c rotated past views =
    let view = c.args.self.now in
    let event : Event = MessageEvent (Update c.args.field c.args.code) in
    let trusted : view.trusted ≡ true = c.if-not-self.false in
    let was = trusted_last view rotated past views trusted in
    let same = same_picture_shown view rotated past c.args.field c.args.code c.number-square.result _ c.requires.field c.number-square.ensures.in_range views trusted (c.number-square.ensures.number ∙ c.square_of.ensures) c.if-self-square.true in
    shows_same view rotated past event views (entries_updated White rotated c.args.field c.args.code past (sym views.trust ∙ trusted)) was.0 same

pub returns-clause-views : goal.returns-clause-views
returns-clause-views c rotated past views =
    let view = c.args.self.now in
    let event : Event = MessageEvent (Update c.args.field c.args.code) in
    let trusted : view.trusted ≡ true = c.if-not-self.false in
    let was = trusted_last view rotated past views trusted in
    views_now view _ rotated past event views (sym views.trust ∙ trusted) refl trusted was.0
    (changed_picture view rotated past c.args.field c.args.code c.number-square.result c.requires.field views trusted (c.number-square.ensures.number ∙ c.square_of.ensures))

pub returns-clause-shown : goal.returns-clause-shown
returns-clause-shown c rotated past views =
    let view = c.args.self.now in
    let trusted : view.trusted ≡ true = c.if-not-self.false in
    square_changed view rotated past c.args.field c.args.code c.number-square.result c.requires.field views trusted (c.number-square.ensures.number ∙ c.square_of.ensures)
    (other_picture_shown view rotated past c.number-square.result c.args.code _ c.number-square.ensures.in_range views trusted c.if-self-square.false)
