use Rattle.std.proofs.Common.{sym, subst, Contains, arith}
use Rattle.std.proofs.lemmas.List.Elements.{Contains-get_or}
use Rattle.chess_rules.specs.declared.chess_move.Move.{Move}
use Rattle.bench_calls.proofs.rules.+lines.Goals as goal

-- a listed move is legal
pub play-requires : goal.play-requires
play-requires t c =
    let moves = c.deref-m-items.result.now in
    let C : Move → Type 0 = λ m. Contains moves m in
    let there : C c.m-item.result = subst C (sym c.m-item.is) (Contains-get_or moves c.loop-m.m-index c.m-item.result (omega arith)) in
    (c.loop-m.invariant.listed.each c.m-item.result).0 there
