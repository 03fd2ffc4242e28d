use Rattle.std.proofs.Common.{◌≡◌, ◌==◌, ◌&&◌, ℕ, Bool, not, slice_index, sym, ap, ◌∙◌, arith}
use Rattle.board_doubts.specs.Elsewhere.{comes, differs, elsewhere, is_astray, is_of, may_have_gone}
use Rattle.board_doubts.proofs.Walking.{none_at, none_marked, none_met, nor_astray, nor_gone, nor_landed, nor_out, nor_last, nor_lifted, nor_new, nor_there}
use Rattle.board_doubts.proofs.elsewhere.seen.Goals as goal

pub returns-then-mask-eq0 : goal.returns-then-mask-eq0
returns-then-mask-eq0 c =
    let black = c.args.played.now.black in
    let earlier = c.args.played.now.earlier.now in
    let before = c.args.played.now.before.now in
    let position = c.args.played.now.position.now in
    let picture = c.args.picture.now in
    let mask = c.differing-mask.result in
    let marks = c.differing-mask.ensures in
    let empty : mask ≡ 0 = omega (arith, c.if-mask-eq0.true) in
    let differ : ℕ → Bool = differs position picture in
    record {
      own = none_marked mask differ (λ s. may_have_gone black position picture s && differs before picture s) marks empty
          (λ s e. nor_new (is_of black (slice_index picture s)) (differ s) (comes position picture s) (differs before picture s) e);
      others = none_marked mask differ (λ s. may_have_gone (not black) position picture s) marks empty
          (λ s e. nor_there (is_of (not black) (slice_index picture s)) (differ s) (comes position picture s) e);
      astray = none_marked mask differ (is_astray black before position picture) marks empty
          (λ s e. nor_astray (is_of black (slice_index picture s)) (is_of (not black) (slice_index picture s)) (differ s) (differs before picture s) (not (comes position picture s)) e);
      off = none_met mask differ (λ s. elsewhere (not black) before position s && differ s) marks empty
          (λ s e. nor_last (elsewhere (not black) before position s) (differ s) e);
      back = c.is_picture-is_back.ensures;
      drawn = none_met mask differ (λ s. elsewhere black earlier before s && differ s) marks empty
          (λ s e. nor_last (elsewhere black earlier before s) (differ s) e);
      hand = none_met mask differ (λ s. is_of (not black) (slice_index position s) && (slice_index picture s == 0)) marks empty
          (λ s e. nor_lifted (not black) (slice_index position s) (slice_index picture s) e);
    }

pub returns-then-not-lands : goal.returns-then-not-lands
returns-then-not-lands c =
    let black = c.args.played.now.black in
    let before = c.args.played.now.before.now in
    let position = c.args.played.now.position.now in
    let picture = c.args.picture.now in
    let differ : ℕ → Bool = differs position picture in
    let lands : ℕ → Bool = λ s. not (slice_index picture s == 0) && differ s in
    let none = sym c.lands.ensures ∙ c.if-not-lands.true in
    record {
      own = none_at lands (λ s. may_have_gone black position picture s && differs before picture s) none
          (λ s e. nor_gone (elsewhere black position picture s) (comes position picture s) (differs before picture s) (nor_landed black (slice_index picture s) (differ s) e));
      others = none_at lands (λ s. may_have_gone (not black) position picture s) none
          (λ s e. ap (λ x. x && comes position picture s) (nor_landed (not black) (slice_index picture s) (differ s) e));
      astray = none_at lands (is_astray black before position picture) none
          (λ s e. nor_out (elsewhere black position picture s) (differs before picture s) (elsewhere (not black) position picture s) (not (comes position picture s))
          (nor_landed black (slice_index picture s) (differ s) e) (nor_landed (not black) (slice_index picture s) (differ s) e));
      off = c.is_gone-is_off.ensures;
      back = c.is_picture-is_back.ensures;
      drawn = c.is_gone-was_drawn.ensures;
      hand = c.is_lifted-in_hand.ensures;
    }
