use Rattle.std.proofs.Common.{◌+◌, ◌∙◌, ◌∷◌, sym, arith, List, ℕ, ap, take}
use Rattle.std.proofs.lemmas.List.{take_rest, take_all}
use Rattle.pgn_book.specs.Inside.Parse.{words}
use Rattle.pgn_book.proofs.WordLemmas.{NoBreak-more, words-at, words-one}
use Rattle.pgn_book.proofs.words.first_word.Goals as goal

pub returns-then-is_break : goal.returns-then-is_break
returns-then-is_break c =
    let bs = c.args.bytes.now in
    let i = c.loop-i.i in
    words-at bs i (omega arith) c.loop-i.invariant (sym c.is_break.ensures ∙ c.if-is_break.true)
    ∙ ap (λ (x : List ℕ). take i bs ∷ words x) (sym (take_rest bs (i + 1)))

pub loop-i-preserved : goal.loop-i-preserved
loop-i-preserved c = NoBreak-more c.args.bytes.now c.loop-i.i (omega arith) c.loop-i.invariant (sym c.is_break.ensures ∙ c.if-is_break.false)

pub returns : goal.returns
returns c =
    let all = rw (take_all c.loop-i.i c.args.bytes.now (omega arith)) at c.loop-i.invariant in
    words-one c.args.bytes.now all
