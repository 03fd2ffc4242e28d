use Rattle.std.proofs.Common.{refl, sym, ◌∙◌}
use Rattle.replay_arguments.proofs.SetupLemmas.{fen_first, tag_first, tag_none}
use Rattle.replay_arguments.proofs.setup.setup_of.Goals as goal

pub returns-in-Err-clause-first : goal.returns-in-Err-clause-first
returns-in-Err-clause-first c =
    fen_first c.args.options.now c.in-Err.error c.in-Err.ensures.refusal
    (λ start starts. let bad = sym c.in-Err.is ∙ (c.start_of.ensures.start start).1 starts in cc)

pub returns-in-Err-tags_of-clause-meets : goal.returns-in-Err-tags_of-clause-meets
returns-in-Err-tags_of-clause-meets c = tag_none c.args.options.now c.in-Err-tags_of.refusal c.in-Err-tags_of.ensures

pub returns-in-Err-tags_of-clause-first : goal.returns-in-Err-tags_of-clause-first
returns-in-Err-tags_of-clause-first c =
    tag_first c.args.options.now c.in-Err-tags_of.refusal c.in-Ok.start ((c.start_of.ensures.start c.in-Ok.start).0 c.in-Ok.is) c.in-Err-tags_of.ensures

pub returns-clause-meets : goal.returns-clause-meets
returns-clause-meets c = record {
  board = record { rotated = refl; first = refl; start = (c.start_of.ensures.start c.in-Ok.start).0 c.in-Ok.is };
  tags = c.in-Ok-tags_of.ensures;
}
