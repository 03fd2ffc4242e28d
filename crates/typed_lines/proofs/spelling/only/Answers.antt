use Rattle.std.proofs.Common.{◌≡◌, ◌∙◌, ◌∷◌, [], ◌++◌, List, Some, subst, sym, take, ap, arith}
use Rattle.std.proofs.lemmas.Bool.{false≢true}
use Rattle.std.proofs.lemmas.List.{take_all}
use Rattle.std.specs.Prelude.{Option}
use Rattle.chess_rules.specs.declared.chess_move.Move.{Move}
use Rattle.typed_lines.proofs.LineLemmas.{SoFar, all_none, all_some, more_found, more_kept, take_item, two_read}
use Rattle.typed_lines.proofs.spelling.only.Goals as goal
use Rattle.typed_lines.proofs.spelling.only.Goals.{then-so+else-second, else-so}

pub reads-requires : goal.reads-requires
reads-requires c = (c.requires c.m-item.result).0 (c.loop-m.m-index, c.loop-m-test.true, sym c.m-item.is)

pub returns-then-second-clause-none : goal.returns-then-second-clause-none
returns-then-second-clause-none c =
    let m = c.m-item.result in
    two_read c.args.manner c.args.p.now c.args.word.now (take c.loop-m.m-index c.args.moves.now) c.loop-m.found m c.loop-m.invariant
    ((c.requires m).0 (c.loop-m.m-index, c.loop-m-test.true, sym c.m-item.is)) (c.in_ok-so.ensures.0 c.if-so.true)
    (λ same. false≢true (sym (c.is_second-second.ensures.1 same) ∙ c.if-second.true))

pub loop-m-preserved : goal.loop-m-preserved
loop-m-preserved c =
    let manner = c.args.manner in
    let p = c.args.p.now in
    let word = c.args.word.now in
    let moves = c.args.moves.now in
    let i = c.loop-m.m-index in
    let m = c.m-item.result in
    let legal = (c.requires m).0 (i, c.loop-m-test.true, sym c.m-item.is) in
    let T : List Move → Type 0 = λ tried. SoFar manner p word tried c.if-so.found in
    let F : Option Move → Type 0 = λ found. SoFar manner p word (take i moves ++ m ∷ []) found in
    subst T (sym (take_item moves i m c.loop-m-test.true c.m-item.is)) (elim c.if-so.branch [
      | then-so+else-second w ↦
          let is : c.if-so.found ≡ Some m = w.found-is ∙ ap (λ (x : Move). Some x) w.copy.ensures in
          subst F (sym is) (more_found manner p word (take i moves) c.loop-m.found m c.loop-m.invariant legal (c.in_ok-so.ensures.0 w.if-so.true) (w.is_second-second.ensures.0 w.if-second.false))
      | else-so w ↦
          subst F (sym w.found-is) (more_kept manner p word (take i moves) c.loop-m.found m c.loop-m.invariant (λ reads. false≢true (sym w.if-so.false ∙ c.in_ok-so.ensures.1 reads)))
    ])

pub returns-clause-some : goal.returns-clause-some
returns-clause-some c =
    let T : List Move → Type 0 = λ tried. SoFar c.args.manner c.args.p.now c.args.word.now tried c.loop-m.found in
    all_some c.args.manner c.args.p.now c.args.word.now c.args.moves.now c.loop-m.found (subst T (take_all c.loop-m.m-index c.args.moves.now (omega arith)) c.loop-m.invariant) c.requires

pub returns-clause-none : goal.returns-clause-none
returns-clause-none c =
    let T : List Move → Type 0 = λ tried. SoFar c.args.manner c.args.p.now c.args.word.now tried c.loop-m.found in
    all_none c.args.manner c.args.p.now c.args.word.now c.args.moves.now c.loop-m.found (subst T (take_all c.loop-m.m-index c.args.moves.now (omega arith)) c.loop-m.invariant) c.requires
