-- One thing is told of what came.
use Rattle.std.proofs.Common.{◌≡◌, ◌<◌, ◌^◌, ℕ, inl, inr, Bool, true, false, List, [], ◌∷◌, Option, Some, None, refl, sym, ap, subst, ◌∙◌, arith}
use Rattle.std.specs.Int.{bit_at}
use Rattle.std.specs.Str.{bytes_eq}
use Rattle.std.proofs.lemmas.Bool.{cases_eq}
use Rattle.std.proofs.lemmas.Nat.Bits.{bit_at-lt, same_from_bits_below}
use Rattle.chess_rules.specs.declared.parts.Parts.{Parts}
use Rattle.chess_rules.specs.Valid.{Valid}
use Rattle.dgt_frame.specs.declared.events.Event.{Event as BoardEvent}
use Rattle.settle_core.specs.declared.plies.Outcome.{Outcome}
use Rattle.settle_core.specs.declared.plies.Ply.{Ply}
use Rattle.settle_core.specs.Entries.{deduplicated}
use Rattle.settle_core.specs.Folding.{Score, moves_of}
use Rattle.settle_core.specs.Masks.{IsDiff}
use Rattle.settle_core.specs.Settling.{reached}
use Rattle.settle_core.proofs.Once.{folds_once}
use Rattle.board_events.specs.History.{picture_of}
use Rattle.board_events.specs.Session.{entries_in}
use Rattle.board_events.specs.Settings.{Setting}
use Rattle.board_events.proofs.GameLemmas.{one_result}
use Rattle.board_alarms.specs.Hearing.{HasResult}
use Rattle.board_alarms.specs.Plies.{position}
use Rattle.game_over.specs.declared.happened.Event.{Event}
use Rattle.game_over.specs.declared.happened.Happening.{Happening}
use Rattle.game_over.specs.declared.happened.Move.{Move}
use Rattle.game_over.specs.declared.said.Said.{Said}
use Rattle.game_over.specs.Laws.{SaidInOneWay}
use Rattle.board_endings.specs.declared.news.End.{End}
use Rattle.board_endings.specs.declared.picture.Told.{Told}
use Rattle.board_endings.specs.Items.{Noted, Sent, bytes_of, events_of}
use Rattle.board_endings.specs.Laws.{EndsOnce, TellsOnce}
use Rattle.board_endings.specs.Moves.{TellsMove}
use Rattle.board_endings.specs.Saying.{IsEnd, end_by}
use Rattle.board_endings.specs.Telling.{TellsEvent, TellsNew, TellsPicture, TellsResult, game_by, happening_of, is_new, listened, timed, with_news, with_picture}

bit_same : (x y : ℕ) → x < 2 → y < 2 → (x ≡ 1 → y ≡ 1) → (y ≡ 1 → x ≡ 1) → x ≡ y
bit_same x y a b f g = elim (cases_eq x 1) [
  | inl e ↦ (let d : y ≡ 1 = f e in omega arith)
  | inr ne ↦ (elim (cases_eq y 1) [ inl d ↦ absurd (ne (g d)) | inr nd ↦ omega arith ])
]

off_once : (a b : ℕ) (one other : List ℕ) → a < 2 ^ 64 → b < 2 ^ 64 → IsDiff a one other → IsDiff b one other → a ≡ b
off_once a b one other fits also g h =
    same_from_bits_below 64 a b fits also (λ s low.
    let x = g s low in let y = h s low in
    bit_same (bit_at a s) (bit_at b s) (bit_at-lt a s) (bit_at-lt b s) (λ e. y.1 (x.0 e)) (λ e. x.1 (y.0 e)))

move_once : (start : Parts) (added : Bool) (old new : List Ply) (a b : Option Move) → TellsMove start added old new a → TellsMove start added old new b → a ≡ b
move_once start added old new None None g h = refl
move_once start added old new None (Some n) g h = absurd (h.0 g)
move_once start added old new (Some m) None g h = absurd (g.0 h)
move_once start added old new (Some m) (Some n) g h = ap (λ (x : Move). Some x) (g.1 ∙ sym h.1)

ended_once : (added : Bool) (moved : Option Move) (before after : Option Outcome) (a b : Option Happening) → TellsResult added moved before after a → TellsResult added moved before after b → a ≡ b
ended_once added (Some m) before after a b g h = g ∙ sym h
ended_once added None before after a b (inl g) (inl h) = g.1 ∙ sym h.1
ended_once added None before after a b (inl g) (inr h) = absurd (h.0 g.0)
ended_once added None before after a b (inr g) (inl h) = absurd (g.0 h.0)
ended_once added None before after a b (inr g) (inr h) = g.1 ∙ sym h.1

abbrev told_with : Happening → Option Happening → ℕ → Bool → Told
told_with game ended off at_start = record { game = game; ended = ended; shown = record { off = off; at_start = at_start } }

picture_once : (start : Parts) (added : Bool) (old new : List Ply) (before after : Option Outcome) (seen : List ℕ) (a b : Told)
    → TellsPicture start added old new before after seen a → TellsPicture start added old new before after seen b → a ≡ b
picture_once start added old new before after seen a b g h =
    let moved = move_once start added old new g.moved h.moved g.moves h.moves in
    let E : Option Move → Type 0 = λ m. TellsResult added m before after a.ended in
    ap (λ (x : Happening). told_with x a.ended a.shown.off a.shown.at_start) (g.game ∙ ap (λ (m : Option Move). game_by m (bytes_eq seen (position start new))) moved ∙ sym h.game)
    ∙ ap (λ (x : Option Happening). told_with b.game x a.shown.off a.shown.at_start) (ended_once added h.moved before after a.ended b.ended (subst E moved g.ended) h.ended)
    ∙ ap (λ (n : ℕ). told_with b.game b.ended n a.shown.at_start) (off_once a.shown.off b.shown.off _ seen g.fits h.fits g.off h.off)
    ∙ ap (λ (x : Bool). told_with b.game b.ended b.shown.off x) (g.at_start ∙ sym h.at_start)

result_once : (start : Parts) (a b : Score) (x y : Option Outcome) → a ≡ b → HasResult start a x → HasResult start b y → x ≡ y
result_once start a b x y e g h = one_result (reached start (moves_of b.plies)) b.sign x y (subst (λ (s : Score). HasResult start s x) e g) h

new_once : (setting : Setting) (past : List BoardEvent) (added : Bool) (event : BoardEvent) (a b : Told) → Valid setting.start
    → TellsNew setting past added event a → TellsNew setting past added event b → a ≡ b
new_once setting past added event a b valid g h =
    let start = setting.start in
    let before = folds_once start (deduplicated (entries_in setting past)) g.before h.before valid g.folds_before h.folds_before in
    let after = folds_once start (deduplicated (entries_in setting (event ∷ past))) g.after h.after valid g.folds h.folds in
    let old = result_once start g.before h.before g.old h.old before g.old_is h.old_is in
    let new = result_once start g.after h.after g.new h.new after g.new_is h.new_is in
    let seen = picture_of setting.rotated (event ∷ past) in
    let A : Score → Type 0 = λ s. TellsPicture start added s.plies g.after.plies g.old g.new seen a in
    let B : Score → Type 0 = λ s. TellsPicture start added h.before.plies s.plies g.old g.new seen a in
    let C : Option Outcome → Type 0 = λ o. TellsPicture start added h.before.plies h.after.plies o g.new seen a in
    let D : Option Outcome → Type 0 = λ o. TellsPicture start added h.before.plies h.after.plies h.old o seen a in
    picture_once start added h.before.plies h.after.plies h.old h.new seen a b (subst D new (subst C old (subst B after (subst A before g.tells)))) h.tells

event_once : (given : Bool) (setting : Setting) (past : List BoardEvent) (at : ℕ) (added : Bool) (bytes : ℕ) (event : BoardEvent) (one other a b : List Event)
    → Valid setting.start → one ≡ other → TellsEvent given setting past at added bytes event one a → TellsEvent given setting past at added bytes event other b → a ≡ b
event_once false setting past at added bytes event one other a b valid same g h =
    g ∙ ap (λ (l : List Event). listened added at bytes l) same ∙ sym h
event_once true setting past at added bytes event one other a b valid same g h =
    g.2 ∙ ap (λ (p : Told). with_picture at bytes p (listened added at bytes one)) (new_once setting past added event g.0 h.0 valid g.1 h.1)
    ∙ ap (λ (l : List Event). with_picture at bytes h.0 (listened added at bytes l)) same ∙ sym h.2

pub tells_once : TellsOnce
tells_once setting [] a b valid g h = g ∙ sym h
tells_once setting (Sent at added bytes event ∷ items) a b valid g h =
    event_once (is_new setting (events_of items) event) setting (events_of items) at added bytes event g.0 h.0 a b valid (tells_once setting items g.0 h.0 valid g.1 h.1) g.2 h.2
tells_once setting (Noted at news ∷ items) a b valid g h =
    g.2 ∙ ap (λ (l : List Event). with_news at (bytes_of items) (happening_of news) l) (tells_once setting items g.0 h.0 valid g.1 h.1) ∙ sym h.2

end_once : SaidInOneWay → (past : List Event) (a b : End) → IsEnd past a → IsEnd past b → a ≡ b
end_once one [] a b g h = g ∙ sym h
end_once one (event ∷ past) a b g h =
    let before = end_once one past g.0 h.0 g.2 h.2 in
    let said = one g.1 h.1 event past g.3 h.3 in
    g.4 ∙ ap (λ (s : Said). end_by s event g.0) said ∙ ap (λ (e : End). end_by h.1 event e) before ∙ sym h.4

pub ends_once : SaidInOneWay → EndsOnce
ends_once one setting items now a b valid g h =
    let told = tells_once setting items g.0 h.0 valid g.1 h.1 in
    let E : List Event → Type 0 = λ t. IsEnd (timed now (bytes_of items) t) a in
    end_once one (timed now (bytes_of items) h.0) a b (subst E told g.2) h.2
