use Rattle.std.proofs.Common.{◌≡◌, ◌∷◌, ◌+◌, ◌≤◌, ◌∙◌, sym, length, arith, rules}
use Rattle.text_subcommands.specs.Words.{filled, words}
use Rattle.text_subcommands.specs.Inside.Parts.{parts_behind}
use Rattle.text_subcommands.proofs.PlayedLemmas.{PlaysSoFar, none_first, plays_more, plays_none, plays_to_end, plays_to_word, word_first}
use Rattle.text_subcommands.proofs.playing.play_words.Goals as goal
use Rattle.text_subcommands.proofs.playing.play_words.Goals.{then-not-is_empty+in-Some+in_ok-add_position-2, else-not-is_empty}

pub parts-init : goal.parts-init
parts-init c = record {
  so = plays_none c.args.start c.args.lines.now.items (words c.args.text.now) c.add_position.new.lines.items c.in_ok-add_position.ensures;
  short = search rules;
}

pub returns-in_default : goal.returns-in_default
returns-in_default c =
    let l = c.parts in
    let word = c.first_part.result.0.now in
    let behind = parts_behind c.first_part.result.1 in
    let is : words l.left.now ≡ word ∷ filled behind = word_first l.left.now word behind c.first_part.ensures.parts (sym c.is_empty.ensures ∙ c.if-not-is_empty.true) in
    plays_to_word c.args.start c.args.lines.now.items (words c.args.text.now) (filled behind) word l.position l.lines.items l.number (rw is at l.invariant.so) c.in_default.ensures.none

pub returns-in_default-behind : goal.returns-in_default-behind
returns-in_default-behind c =
    let l = c.parts in
    let begin = c.args.lines.now.items in
    let all = words c.args.text.now in
    let word = c.first_part.result.0.now in
    let behind = parts_behind c.first_part.result.1 in
    let next = c.if-not-is_empty in
    let so : PlaysSoFar c.args.start begin all (filled behind) next.position next.lines.items next.number = elim c.if-not-is_empty.branch [
      | then-not-is_empty+in-Some+in_ok-add_position-2 w ↦
          let is : words l.left.now ≡ word ∷ filled behind = word_first l.left.now word behind c.first_part.ensures.parts (sym c.is_empty.ensures ∙ w.if-not-is_empty.true) in
          let m = w.in-Some.ensures.named in
          rw (w.lines-is, w.position-is, w.number-is) (plays_more c.args.start begin all (filled behind) word l.position w.in-Some.next l.lines.items w.add_position-then-not-is_empty.new.lines.items l.number
          m.0 (rw is at l.invariant.so) m.1 m.2 m.3 w.in_ok-add_position-2.ensures)
      | else-not-is_empty w ↦
          let is : words l.left.now ≡ filled behind = none_first l.left.now word behind c.first_part.ensures.parts (sym c.is_empty.ensures ∙ w.if-not-is_empty.false) in
          rw (w.lines-is, w.position-is, w.number-is) (rw is at l.invariant.so)
    ] in
    plays_to_end c.args.start begin all next.position next.lines.items next.number (rw c.in_default-behind.is at so)

pub parts-preserved : goal.parts-preserved
parts-preserved c =
    let l = c.parts in
    let begin = c.args.lines.now.items in
    let all = words c.args.text.now in
    let word = c.first_part.result.0.now in
    let behind = parts_behind c.first_part.result.1 in
    let next = c.if-not-is_empty in
    let len : length word + (length c.in-Some-behind.more.now + 1) ≡ length l.left.now = rw c.in-Some-behind.is at c.first_part.ensures.len in
    let both : PlaysSoFar c.args.start begin all (filled behind) next.position next.lines.items next.number × (next.number + length c.in-Some-behind.more.now ≤ length c.args.text.now) = elim c.if-not-is_empty.branch [
      | then-not-is_empty+in-Some+in_ok-add_position-2 w ↦
          let is : words l.left.now ≡ word ∷ filled behind = word_first l.left.now word behind c.first_part.ensures.parts (sym c.is_empty.ensures ∙ w.if-not-is_empty.true) in
          let m = w.in-Some.ensures.named in
          rw (w.lines-is, w.position-is, w.number-is) (
            plays_more c.args.start begin all (filled behind) word l.position w.in-Some.next l.lines.items w.add_position-then-not-is_empty.new.lines.items l.number
                m.0 (rw is at l.invariant.so) m.1 m.2 m.3 w.in_ok-add_position-2.ensures,
            omega (arith, len, l.invariant.short),
          )
      | else-not-is_empty w ↦
          let is : words l.left.now ≡ filled behind = none_first l.left.now word behind c.first_part.ensures.parts (sym c.is_empty.ensures ∙ w.if-not-is_empty.false) in
          rw (w.lines-is, w.position-is, w.number-is) (rw is at l.invariant.so, omega (arith, len, l.invariant.short))
    ] in
    record { so = rw c.in-Some-behind.is at both.0; short = both.1 }
