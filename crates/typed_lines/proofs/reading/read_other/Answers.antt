use Prim.{search}
use Rattle.std.proofs.Common.{List, Option, ℕ, rules, subst}
use Rattle.std.specs.Prelude.{IfNone, IfSome}
use Rattle.chess_rules.specs.declared.chess_move.Move.{Move}
use Rattle.chess_rules.specs.declared.parts.Parts.{Parts}
use Rattle.typed_lines.specs.Lines.{NamesNone}
use Rattle.typed_lines.specs.Spelling.{IsOnly}
use Rattle.typed_lines.specs.declared.spelling.Manner.{Manner}
use Rattle.typed_lines.specs.declared.spelling.Manner.TheVariants.{Written, Meant}
use Rattle.typed_lines.proofs.reading.read_other.Goals as goal

abbrev IsNone : Manner → Parts → List ℕ → Type 0
IsNone manner p word = (m : Move) → ¬ IsOnly manner p word m

names_none : (p : Parts) (word : List ℕ) → IsNone Written p word → IsNone Meant p word → NamesNone p word
names_none p word written meant Written = written
names_none p word written meant Meant = meant

pub returns-in-Some : goal.returns-in-Some
returns-in-Some c =
    let S : Option Move → Type 0 = λ found. IfSome found (IsOnly Meant c.args.p.now c.args.word.now) in
    (c.requires.unwritten, subst S c.in-Some.is c.in_ok-m.ensures.some)

pub returns-then-branch : goal.returns-then-branch
returns-then-branch c =
    let N : Option Move → Type 0 = λ found. IfNone found (IsNone Meant c.args.p.now c.args.word.now) in
    (names_none c.args.p.now c.args.word.now c.requires.unwritten (subst N c.in_default.is c.in_ok-m.ensures.none), search rules)

pub returns-else-branch : goal.returns-else-branch
returns-else-branch c =
    let N : Option Move → Type 0 = λ found. IfNone found (IsNone Meant c.args.p.now c.args.word.now) in
    (names_none c.args.p.now c.args.word.now c.requires.unwritten (subst N c.in_default.is c.in_ok-m.ensures.none), search rules)
