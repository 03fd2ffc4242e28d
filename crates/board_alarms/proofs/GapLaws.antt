-- Times in which the board wasn't heard.
use Rattle.std.proofs.Common.{◌≡◌, ◌≤◌, ◌<◌, ◌-◌, ◌⊎◌, inl, inr, ◌&&◌, ℕ, Bool, true, false, List, ◌∷◌, Some, None, refl, ap, ◌∙◌, arith}
use Rattle.std.specs.Prelude.{◌/◌, if◌then◌else◌, nat_le, not}
use Rattle.std.proofs.lemmas.Bool.{le-leb, lt-leb}
use Rattle.dgt_frame.specs.declared.events.Event.{Event}
use Rattle.board_doubts.specs.declared.heard.Gap.{Gap}
use Rattle.board_alarms.specs.declared.chunk.Chunk.{Chunk}
use Rattle.board_alarms.specs.Gaps.{gap_before, gap_from, has_begun, heard_at, is_cut, was_late}
use Rattle.board_alarms.specs.Items.{Item, Sent, is_sent}
use Rattle.board_alarms.specs.Laws.{CutIsAGap, QuietIsAGap}

-- Where this was sent, the time since then counts alone.
since_sent : (last chunk : Chunk) (event : Event) (items : List Item) → is_sent last ≡ true → is_sent chunk ≡ true
    → gap_before chunk (Sent last event ∷ items) ≡ gap_from (Some last.when.at) false false (chunk.end - last.end) chunk.when.at
since_sent last chunk event items sent now =
    ap (λ b. if b then gap_from (heard_at (Sent last event ∷ items)) (is_cut (Sent last event ∷ items)) (has_begun (Sent last event ∷ items)) (chunk.end - last.end) chunk.when.at else None) now
    ∙ ap (λ b. gap_from (if b then Some last.when.at else heard_at items) (not b && is_cut items) (not b && has_begun items) (chunk.end - last.end) chunk.when.at) sent

abbrev gap_of : ℕ → Gap
gap_of lasted = record { lasted = lasted; is_restart = false }

gap_if : (lasted brought : ℕ) (quiet late : Bool) → nat_le 6000 lasted ≡ quiet → was_late lasted brought ≡ late
    → (if nat_le 6000 lasted && not (was_late lasted brought) then Some (gap_of lasted) else None) ≡ (if quiet && not late then Some (gap_of lasted) else None)
gap_if lasted brought quiet late q l =
    ap (λ b. if b && not (was_late lasted brought) then Some (gap_of lasted) else None) q ∙ ap (λ b. if quiet && not b then Some (gap_of lasted) else None) l

no_gap : (lasted : ℕ) (late : Bool) → (if false && not late then Some (gap_of lasted) else None) ≡ None
no_gap lasted late = refl

pub quiet_is_a_gap : QuietIsAGap
quiet_is_a_gap last chunk event items (sent, now) =
    let lasted : ℕ = chunk.when.at - last.when.at in
    let brought : ℕ = chunk.end - last.end in
    let is = since_sent last chunk event items sent now in (
      λ long few. is ∙ gap_if lasted brought true false (le-leb 6000 lasted long) (lt-leb (lasted / 1000 - 1) (brought / 67) few),
      λ short. is ∙ gap_if lasted brought false (was_late lasted brought) (lt-leb 6000 lasted short) refl ∙ no_gap lasted (was_late lasted brought),
    )

pub cut_is_a_gap : CutIsAGap
cut_is_a_gap last chunk event items at (sent, now) =
    ap (λ b. if b then gap_from (heard_at (Sent last event ∷ items)) true (has_begun (Sent last event ∷ items)) (chunk.end - last.end) chunk.when.at else None) now
    ∙ ap (λ b. gap_from (if b then Some last.when.at else heard_at items) true (not b && has_begun items) (chunk.end - last.end) chunk.when.at) sent
