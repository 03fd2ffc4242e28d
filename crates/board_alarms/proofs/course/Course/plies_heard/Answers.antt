use Rattle.std.proofs.Common.{inl, inr, Bool, Some, drop, ap, sym, ◌∙◌, arith}
use Rattle.std.proofs.lemmas.Option.{same_Some}
use Rattle.chess_rules.specs.declared.parts.Parts.{Parts}
use Rattle.board_doubts.specs.declared.heard.Heard.TheVariants.{Corrects, Moves, Plays, Replaces}
use Rattle.board_doubts.specs.declared.heard.Ply.{Ply as HeardPly}
use Rattle.board_alarms.specs.Plies.{heard_ply}
use Rattle.board_alarms.proofs.PlyLemmas.{another_last, no_ply, none_made, one_more}
use Rattle.board_alarms.proofs.course.Course.plies_heard.Goals as goal

pub returns-in_default : goal.returns-in_default
returns-in_default c = λ start agrees old keeps same course grows other.
    let settler = c.args.settler.now in
    let plies = settler.score.plies in
    let none = no_ply settler.start plies c.ply_of.result c.ply_of.ensures c.in_default.not-Some in
    absurd (other (none_made old plies grows none))

pub returns-then-old-self : goal.returns-then-old-self
returns-then-old-self c = λ start agrees old keeps same course grows other.
    let settler = c.args.settler.now in
    let plies = settler.score.plies in
    let size = keeps.counted in
    let count = course.counted in
    let longer = c.if-old-self.true in
    let more = one_more old plies grows (omega (arith, size, count, longer)) in
    let ply = same_Some c.in-Some.ply (heard_ply settler.start more.0 old) (sym c.in-Some.is ∙ c.ply_of.ensures more.0 old more.1) ∙ ap (λ (s : Parts). heard_ply s more.0 old) same in
    inr (inl (record {
      last = more.0;
      plies = more.1;
      news_is = ap (λ (b : Bool). Some (Moves b)) (c.repeats-repeats.ensures start plies course.keeps count);
      ply_is = ap (λ (p : HeardPly). Some (Plays p)) ply;
    }))

pub returns : goal.returns
returns c = λ start agrees old keeps same course grows other.
    let settler = c.args.settler.now in
    let plies = settler.score.plies in
    let size = keeps.counted in
    let count = course.counted in
    let longer = c.if-old-self.false in
    let last = another_last old plies grows (omega (arith, size, count, longer)) other in
    let ply = same_Some c.in-Some.ply (heard_ply settler.start last.0 (drop 1 old)) (sym c.in-Some.is ∙ c.ply_of.ensures last.0 (drop 1 old) last.1) ∙ ap (λ (s : Parts). heard_ply s last.0 (drop 1 old)) same in
    inr (inr (record {
      last = last.0;
      plies = last.1;
      size = last.2;
      another = other;
      news_is = ap (λ (b : Bool). Some (Corrects b)) (c.repeats-repeats.ensures start plies course.keeps count);
      ply_is = ap (λ (p : HeardPly). Some (Replaces p)) ply;
    }))
