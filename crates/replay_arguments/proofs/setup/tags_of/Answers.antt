use Rattle.std.proofs.Common.{◌≡◌, ◌<◌, ◌∙◌, ℕ, Option, ap, arith, get_or, length, refl, subst}
use Rattle.std.specs.Prelude.{MatchOption}
use Rattle.clap.specs.Walk.{Text}
use Rattle.chess_game.specs.declared.values.Tag.TheVariants.{Event}
use Rattle.chess_game.specs.declared.values.TagError.{TagError}
use Rattle.chess_game.specs.TagNames.{all_tags}
use Rattle.chess_game.specs.Values.{RefusesText}
use Rattle.replay_arguments.specs.declared.setup.Refusal.TheVariants.{Tag as OfTag}
use Rattle.replay_arguments.specs.Inside.Given.{with_given}
use Rattle.replay_arguments.specs.Setups.{MayHave, tag_text}
use Rattle.replay_arguments.proofs.SetupLemmas.{SetTo, all_set, first_tag, none_set, one_set}
use Rattle.replay_arguments.proofs.setup.tags_of.Goals as goal

pub loop-tag-init : goal.loop-tag-init
loop-tag-init c = none_set (tag_text c.args.options.now) _ c.new-tags.ensures

pub loop-tag-preserved : goal.loop-tag-preserved
loop-tag-preserved c =
    let l = c.loop-tag in
    let lt : l.tag-index < length all_tags = omega arith in
    let tag = get_or all_tags l.tag-index Event in
    let is = c.in-Ok.ensures.set ∙ ap (λ (text : Option Text). with_given tag text l.tags) c.text_of.ensures in
    one_set (tag_text c.args.options.now) l.tag-index tag l.tags c.set.new.tags lt refl l.invariant is (subst (MayHave tag) c.text_of.ensures c.in-Ok.ensures.may)

pub returns-in-Err : goal.returns-in-Err
returns-in-Err c =
    let l = c.loop-tag in
    let lt : l.tag-index < length all_tags = omega arith in
    let tag = get_or all_tags l.tag-index Event in
    let P : Option Text → Type 0 = λ text. (error : TagError) × (c.in-Err.refusal ≡ OfTag tag error) × MatchOption text ⊥ (λ value. RefusesText tag value error) in
    first_tag (tag_text c.args.options.now) l.tag-index tag l.tags c.in-Err.refusal lt refl l.invariant (subst P c.text_of.ensures c.in-Err.ensures.refused)

pub returns : goal.returns
returns c =
    let l = c.loop-tag in
    let end : l.tag-index ≡ length all_tags = omega arith in
    let S : ℕ → Type 0 = λ i. SetTo (tag_text c.args.options.now) i l.tags in
    all_set c.args.options.now l.tags (subst S end l.invariant)
