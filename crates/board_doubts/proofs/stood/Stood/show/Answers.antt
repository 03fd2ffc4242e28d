use Rattle.std.proofs.Common.{◌≡◌, ◌<◌, ◌==◌, ◌&&◌, ◌||◌, [], not, ℕ, Bool, None, false, sym, ap, ◌∙◌, arith}
use Rattle.std.specs.Int.{bit_at}
use Rattle.square_runs.specs.Shown.{has, has_held, shown, since_when}
use Rattle.square_runs.specs.Squares.{Marks, some_square}
use Rattle.std.proofs.lemmas.Nat.Bits.{bit_at-zero}
use Rattle.square_runs.proofs.Squares.{any_none, any_same}
use Rattle.square_runs.specs.Lasting.{carry, has_lasted}
use Rattle.board_doubts.specs.Pictures.{has_left, has_stood, shown_as, stood_till}
use Rattle.board_doubts.proofs.stood.Stood.show.Goals as goal

pub returns-then-is_empty : goal.returns-then-is_empty
returns-then-is_empty c squares picture past time since shows keeps =
    let span : ℕ = c.args.span in
    let none : c.args.shown ≡ 0 = omega (arith, c.if-shown-eq0.true) in
    let unseen : (s : ℕ) → s < 64 → since_when (has s) (shown_as squares past) ≡ None = c.is_empty.ensures (shown_as squares past) keeps.runs c.if-is_empty.true in
    let stood : (s : ℕ) → s < 64 → stood_till squares span picture past s ≡ false = λ s low. ap (has_lasted span picture.time) (unseen s low) in
    record {
      runs = λ s low. keeps.runs s low
          ∙ unseen s low
          ∙ sym (ap (λ n. carry (bit_at n s == 1) picture.since (since_when (has s) (shown_as squares past))) (shows ∙ none)
          ∙ ap (λ n. carry (n == 1) picture.since (since_when (has s) (shown_as squares past))) (bit_at-zero s));
      stood = keeps.stood ∙ sym (ap (λ b. b || has_stood squares span past) (any_none 64 (stood_till squares span picture past) stood));
      left = keeps.left ∙ sym (ap (λ b. b || has_left squares span past)
          (any_none 64 (λ s. stood_till squares span picture past s && not (has s (shown picture.since (squares picture)) []))
          (λ s low. ap (λ b. b && not (has s (shown picture.since (squares picture)) [])) (stood s low))));
    }

pub returns : goal.returns
returns c squares picture past time since shows keeps =
    let span : ℕ = c.args.span in
    let stands : ℕ → Bool = stood_till squares span picture past in
    let marks : Marks c.lasting-stood.result stands =
    λ s low. c.lasting-stood.ensures (shown_as squares past) keeps.runs s low
    ∙ ap (λ t. has_held (has s) span t (shown_as squares past)) (sym time) in
    let has_same : (s : ℕ) → (bit_at c.args.shown s == 1) ≡ has s (shown picture.since (squares picture)) [] =
    λ s. ap (λ n. bit_at n s == 1) (sym shows) in
    let taken = c.take.ensures (shown_as squares past) keeps.runs in
    record {
      runs = λ s low. taken s low
          ∙ ap (λ n. carry (bit_at n s == 1) c.args.since (since_when (has s) (shown_as squares past))) (sym shows)
          ∙ ap (λ t. carry (bit_at (squares picture) s == 1) t (since_when (has s) (shown_as squares past))) (sym since);
      stood = c.either-self.ensures
          ∙ ap (λ b. b || c.args.self.now.has_stood) (c.has_any.ensures stands marks)
          ∙ ap (λ b. some_square stands || b) keeps.stood;
      left = c.either-self-2.ensures
          ∙ ap (λ b. b || c.args.self.now.has_left) (c.has_any-2.ensures _ (c.without-left.ensures stands marks))
          ∙ ap (λ b. b || c.args.self.now.has_left)
          (any_same 64 _ (λ s. stands s && not (has s (shown picture.since (squares picture)) [])) (λ s low. ap (λ b. stands s && not b) (has_same s)))
          ∙ ap (λ b. some_square (λ s. stands s && not (has s (shown picture.since (squares picture)) [])) || b) keeps.left;
    }
