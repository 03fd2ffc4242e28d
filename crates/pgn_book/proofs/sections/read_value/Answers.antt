use Rattle.std.proofs.Common.{◌+◌, ◌++◌, ℕ, List, false, get_or, drop, sym, ◌∙◌, ap, subst, arith}
use Rattle.std.proofs.lemmas.List.{drop_more}
use Rattle.chess_game.specs.Values.{IsText, IsShort}
use Rattle.pgn_book.specs.Inside.Parse.{value_at}
use Rattle.pgn_book.proofs.ReadingValues.{plain_step, kept_more, quoted_more, refused_value}
use Rattle.pgn_book.proofs.sections.read_value.Goals as goal
use Rattle.pgn_book.proofs.sections.read_value.Goals.{then-is_plain+else-not-keep, else-is_plain+else-byte-eq34}

pub returns-then-not-keep-clause-none : goal.returns-then-not-keep-clause-none
returns-then-not-keep-clause-none c =
    let bs = c.args.bytes.now in
    let i = c.loop-i.i in
    let q = c.loop-i.quoted in
    let cut = drop_more bs i 0 (omega arith) in
    let step = plain_step q (get_or bs i 0) (drop (i + 1) bs) (sym c.is_plain.ensures ∙ c.if-is_plain.true) in
    let whole = c.loop-i.invariant.value ∙ ap (λ (x : List ℕ). c.loop-i.value.bytes ++ value_at q x) cut ∙ ap (λ (x : List ℕ). c.loop-i.value.bytes ++ x) step.0 in
    let P : List ℕ → Type 0 = λ xs. IsText xs × IsShort xs in
    λ h. refused_value c.loop-i.value.bytes (value_at false (drop (i + 1) bs)) (get_or bs i 0) c.if-not-keep.ensures.refused (subst P whole h)

pub loop-i-preserved : goal.loop-i-preserved
loop-i-preserved c =
    let bs = c.args.bytes.now in
    let i = c.loop-i.i in
    let q = c.loop-i.quoted in
    let items = c.loop-i.value.bytes in
    elim c.if-is_plain.branch [
      | then-is_plain+else-not-keep w ↦
          let kept = w.if-not-keep.ensures.kept in
          let next = kept_more bs items q i (omega arith) c.loop-i.invariant (sym c.is_plain.ensures ∙ w.if-is_plain.true) (kept.1, kept.2, kept.3) in
          rw (w.value-is, w.quoted-is, kept.0) next
      | else-is_plain+else-byte-eq34 w ↦ rw (w.value-is, w.quoted-is) (quoted_more bs items q i (omega arith) c.loop-i.invariant (sym c.is_plain.ensures ∙ w.if-is_plain.false) w.if-byte-eq34.false)
    ]
