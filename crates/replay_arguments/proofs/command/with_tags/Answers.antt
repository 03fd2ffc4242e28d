use Rattle.std.proofs.Common.{◌<◌, ◌≡◌, ◌∙◌, List, ap, arith, subst, sym, take, length}
use Rattle.std.proofs.lemmas.List.{take_all}
use Rattle.clap.specs.Simple.{App}
use Rattle.chess_game.specs.declared.values.Tag.{Tag}
use Rattle.chess_game.specs.TagNames.{all_tags}
use Rattle.replay_arguments.specs.Command.{Makes, with_options, with_text}
use Rattle.replay_arguments.proofs.CommandLemmas.{option_more}
use Rattle.replay_arguments.proofs.command.with_tags.Goals as goal

pub loop-tag-preserved : goal.loop-tag-preserved
loop-tag-preserved c = λ app is.
    let l = c.loop-tag in
    let lt : l.tag-index < length all_tags = omega arith in
    let before = with_options (take l.tag-index all_tags) app in
    let M : App → Type 0 = λ a. Makes c.with_text-tagged.result a in
    subst M (ap (with_text before) c.option_name.ensures ∙ sym (option_more l.tag-index app lt)) (c.with_text-tagged.ensures before (l.invariant app is))

pub returns : goal.returns
returns c = λ app is.
    let l = c.loop-tag in
    let all : take l.tag-index all_tags ≡ all_tags = take_all l.tag-index all_tags (omega arith) in
    let M : List Tag → Type 0 = λ tags. Makes l.tagged (with_options tags app) in
    subst M all (l.invariant app is)
