use Rattle.std.proofs.Common.{◌++◌, [], List, sym, ◌∙◌, ap, subst}
use Rattle.std.proofs.lemmas.List.{append-nil}
use Rattle.settle_core.specs.declared.plies.Ply.{Ply}
use Rattle.settle_core.specs.Settling.{Line}
use Rattle.settle_core.specs.Folding.{moves_of}
use Rattle.pgn_book.specs.Inside.Parse.{Turn, AreTurns, turns_at, words_behind, clock_at}
use Rattle.pgn_book.proofs.ReadingValues.{turns_step}
use Rattle.pgn_book.proofs.Turns.{first_turn, no_turns, line_more, only_more}
use Rattle.pgn_book.proofs.reading.read_plies.Goals as goal

pub returns-in-Err-clause-only : goal.returns-in-Err-clause-only
returns-in-Err-clause-only c = λ plies h.
    let ws = words_behind c.first_word.result.1 in
    let word = c.first_word.result.0.now in
    let turn : Turn = record { san = word; clock = clock_at ws } in
    let step = turns_step (words_behind c.loop-rest.rest) word ws (ap words_behind c.in-Some.is ∙ c.first_word.ensures) (sym c.is_move.ensures ∙ c.if-is_move.true) in
    let left = c.loop-rest.invariant.only plies h in
    let T : List Turn → Type 0 = λ ts. AreTurns c.loop-rest.position left.0 ts in
    let b = first_turn c.loop-rest.position left.0 turn (turns_at ws) (subst T step left.2) in
    c.in-Err.ensures b.ply b.first

pub loop-rest-preserved-in-Ok : goal.loop-rest-preserved-in-Ok
loop-rest-preserved-in-Ok c =
    let ws = words_behind c.first_word.result.1 in
    let word = c.first_word.result.0.now in
    let turn : Turn = record { san = word; clock = clock_at ws } in
    let step = turns_step (words_behind c.loop-rest.rest) word ws (ap words_behind c.in-Some.is ∙ c.first_word.ensures) (sym c.is_move.ensures ∙ c.if-is_move.true) in
    let p = c.loop-rest.position in
    let old = c.loop-rest.plies.items in
    let new = c.read_turn.new.plies.items in
    record {
      line = line_more c.args.start.now p c.in-Ok.next old new turn c.in-Ok.ensures c.loop-rest.invariant.line;
      only = λ plies h.
          let left = c.loop-rest.invariant.only plies h in
          let T : List Turn → Type 0 = λ ts. AreTurns p left.0 ts in
          only_more p c.in-Ok.next old new plies turn (turns_at ws) c.in-Ok.ensures (left.0, left.1, subst T step left.2);
    }

pub returns-clause-line : goal.returns-clause-line
returns-clause-line c =
    let L : List Ply → Type 0 = λ xs. Line c.args.start.now (moves_of xs) in
    subst L (append-nil c.loop-rest.plies.items) (c.loop-rest.invariant.line [] tt)

pub returns-clause-only : goal.returns-clause-only
returns-clause-only c = λ plies h.
    let left = c.loop-rest.invariant.only plies h in
    let T : List Turn → Type 0 = λ ts. AreTurns c.loop-rest.position left.0 ts in
    let none = no_turns c.loop-rest.position left.0 (subst T (ap (λ o. turns_at (words_behind o)) c.in_default.is) left.2) in
    sym (left.1 ∙ ap (λ (x : List Ply). c.loop-rest.plies.items ++ x) none ∙ append-nil c.loop-rest.plies.items)
