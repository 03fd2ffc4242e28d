-- The game of a list of events: it has one result, and each entry gives one move at most.
use Rattle.std.proofs.Common.{◌≡◌, ◌≢◌, ◌⊎◌, inl, inr, List, [], ◌∷◌, Option, Some, None, refl, sym, ◌∙◌}
use Rattle.chess_rules.specs.declared.parts.Parts.{Parts}
use Rattle.chess_rules.specs.Legal.{Mated, Stale}
use Rattle.chess_rules.specs.Valid.{Valid}
use Rattle.settle_core.specs.declared.plies.Outcome.{Outcome}
use Rattle.settle_core.specs.declared.plies.Outcome.TheVariants.{WhiteWins, BlackWins, Drawn}
use Rattle.settle_core.specs.GameResult.{IsResult}
use Rattle.settle_core.specs.Entries.{Entry}
use Rattle.settle_core.proofs.Once.{no_entry_gives_two}
use Rattle.board_events.specs.Game.{GivesOneEach}

-- Two results are the same or not.
same_or_not : (a b : Option Outcome) → (a ≡ b) ⊎ (a ≢ b)
same_or_not None None = inl refl
same_or_not None (Some y) = inr (λ e. cc)
same_or_not (Some x) None = inr (λ e. cc)
same_or_not (Some WhiteWins) (Some WhiteWins) = inl refl
same_or_not (Some WhiteWins) (Some BlackWins) = inr (λ e. cc)
same_or_not (Some WhiteWins) (Some Drawn) = inr (λ e. cc)
same_or_not (Some BlackWins) (Some WhiteWins) = inr (λ e. cc)
same_or_not (Some BlackWins) (Some BlackWins) = inl refl
same_or_not (Some BlackWins) (Some Drawn) = inr (λ e. cc)
same_or_not (Some Drawn) (Some WhiteWins) = inr (λ e. cc)
same_or_not (Some Drawn) (Some BlackWins) = inr (λ e. cc)
same_or_not (Some Drawn) (Some Drawn) = inl refl

-- A position has one result under a sign.
pub one_result : (p : Parts) (sign a b : Option Outcome) → IsResult p sign a → IsResult p sign b → a ≡ b
one_result p sign a b h k = elim (same_or_not a b) [
  | inl same ↦ same
  | inr differ ↦
      let mated : Mated p → ⊥ = λ m. differ (h.mated m ∙ sym (k.mated m)) in
      let stale : Stale p → ⊥ = λ m. differ (h.stale m ∙ sym (k.stale m)) in
      h.running mated stale ∙ sym (k.running mated stale)
]

pub one_each : (start : Parts) (past : List Entry) → Valid start → GivesOneEach start past
one_each start [] valid = tt
one_each start (entry ∷ past) valid = (λ before score h k. no_entry_gives_two start entry past before score valid h k, one_each start past valid)
