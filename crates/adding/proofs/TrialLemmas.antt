-- Bytes that are made and tried.
use Rattle.std.proofs.Common.{◌≡◌, ℕ, ◌+◌, ◌<◌, Bool, List, [], ◌∷◌, ◌++◌, map, length, get_or, take, Option, refl, sym, ap, subst, ◌∙◌}
use Rattle.std.proofs.lemmas.List.{map-append, reverse-reverse, take_more}
use Rattle.chess_rules.specs.declared.chess_move.Move.{Move}
use Rattle.chess_rules.specs.declared.parts.Parts.{Parts}
use Rattle.chess_rules.specs.After.{after}
use Rattle.dgt_frame.specs.declared.events.Event.{Event}
use Rattle.settle_core.specs.declared.plies.Outcome.{Outcome}
use Rattle.settle_core.specs.declared.plies.Ply.{Ply}
use Rattle.settle_core.specs.Entries.{deduplicated}
use Rattle.settle_core.specs.Folding.{Folds, moves_of}
use Rattle.settle_core.specs.Settler.{SettlerState, plies_of}
use Rattle.settle_core.specs.Settling.{Line, position_after}
use Rattle.board_events.specs.Session.{entries_in}
use Rattle.board_events.specs.Settings.{Setting}
use Rattle.board_captures.specs.Reading.{IsRead, StandsForCapture}
use Rattle.board_captures.specs.declared.reading.Captured.{Captured}
use Rattle.typed_lines.specs.Lines.{ReadsLine}
use Rattle.typed_lines.specs.declared.reading.Typed.{Typed}
use Rattle.adding.specs.declared.adding.Answer.{Answer}
use Rattle.adding.specs.Answers.{HasEnded, IsAnswerTo, IsAnswered, position_of}
use Rattle.adding.specs.declared.adding.Answer.TheVariants.{Added, Refused}
use Rattle.adding.specs.declared.adding.Reason.TheVariants.{Board, Long}
use Rattle.adding.specs.declared.adding.Trial.{Trial}
use Rattle.adding.specs.declared.trying.Verdict.{Verdict}
use Rattle.adding.specs.declared.trying.Verdict.TheVariants.{Kept, Changed, NoRoom}
use Rattle.adding.specs.Stays.{HasOther, HasScore}
use Rattle.adding.specs.Inside.Trials.{IsTrial}
use Rattle.adding.specs.Verdicts.{Judges}
use Rattle.pair_frames.specs.PutIn.{ShowsWhole, dump_of}
use Rattle.adding.specs.Making.{plies_with, shown_at, sign_with, unclocked}

pub unclocked_more : (moves : List Move) (i : ℕ) (d : Move) → i < length moves → map unclocked (take (i + 1) moves) ≡ map unclocked (take i moves) ++ unclocked (get_or moves i d) ∷ []
unclocked_more moves i d lt = ap (map unclocked) (take_more moves i d lt) ∙ map-append unclocked (take i moves) (get_or moves i d ∷ [])

pub take_same : {A : Type 0} (xs ys : List A) (i : ℕ) (d : A) → i < length xs → i < length ys → take i xs ≡ take i ys → get_or xs i d ≡ get_or ys i d → take (i + 1) xs ≡ take (i + 1) ys
take_same xs ys i d in_xs in_ys before here = take_more xs i d in_xs ∙ ap (λ zs. zs ++ get_or xs i d ∷ []) before ∙ ap (λ z. take i ys ++ z ∷ []) here ∙ sym (take_more ys i d in_ys)

-- legal moves are legal one after the other as plies too
pub unclocked_line : (p : Parts) (moves : List Move) → Line p moves → Line p (moves_of (map unclocked moves))
unclocked_line p [] line = tt
unclocked_line p (m ∷ moves) line = (line.0, unclocked_line (after p m) moves line.1)

pub has_other : (setting : Setting) (recovers : Bool) (bytes all : List ℕ) (captured : Captured) (plies : List Ply) (sign : Option Outcome) → bytes ≡ all
    → ((past : List Event) × IsRead setting recovers bytes past × StandsForCapture captured setting past)
    → ((past : List Event) → StandsForCapture captured setting past → (others : List Ply) × (other : Option Outcome) × HasScore setting past others other × ((others ≡ plies) → (other ≡ sign) → ⊥))
    → HasOther setting recovers all plies sign
has_other setting recovers bytes all captured plies sign same read other =
    let found = other read.0 read.2 in
    let R : List ℕ → Type 0 = λ bs. IsRead setting recovers bs read.0 in
    (found.0, found.1, (read.0, subst R same read.1, found.2), found.3)

-- the position that a settler's plies lead to
abbrev pub place : SettlerState → Parts
place sheet = position_after sheet.start (moves_of (plies_of sheet))

pub is_answered : (setting : Setting) (recovers : Bool) (capture text : List ℕ) (captured : Captured) (p : Parts) (said : Typed) (answer : Answer) → p ≡ place captured.session.settler
    → ((past : List Event) × IsRead setting recovers capture past × StandsForCapture captured setting past) → ReadsLine p text said
    → ((past : List Event) → StandsForCapture captured setting past → IsAnswerTo setting recovers capture past p (plies_of captured.session.settler) said answer)
    → IsAnswered setting recovers capture text answer
is_answered setting recovers capture text captured p said answer at read reads answers =
    let past = read.0 in
    let sheet = captured.session.settler in
    let settled = read.2.session.settler in
    let plies = plies_of sheet in
    let here : p ≡ position_of setting plies = at ∙ ap (λ (start : Parts). position_after start (moves_of plies)) settled.start_is in
    let F : List Ply → Type 0 = λ ps. Folds setting.start (deduplicated (entries_in setting past)) (record { plies = ps; sign = sheet.score.sign }) in
    let R : Parts → Type 0 = λ q. ReadsLine q text said in
    let A : Parts → Type 0 = λ q. IsAnswerTo setting recovers capture past q plies said answer in
    (past, plies, sheet.score.sign, record { read = read.1; score = subst F (sym (reverse-reverse sheet.score.plies)) settled.folds }, (said, subst R here reads, subst A here (answers past read.2)))

-- what a verdict answers
abbrev pub answer_by : Typed → Trial → Verdict → Answer
answer_by said trial Kept = Added said trial.bytes
answer_by said trial Changed = Refused said Board
answer_by said trial NoRoom = Refused said Long

-- A trial's game is the one that was typed.
judged_so : (setting : Setting) (recovers : Bool) (capture : List ℕ) (past : List Event) (p : Parts) (plies : List Ply) (said : Typed) (trial : Trial) (again : List ℕ) (verdict : Verdict)
    → IsTrial setting past p plies said trial → Judges setting recovers capture trial.bytes.items again trial.plies.items trial.sign verdict
    → Judges setting recovers capture trial.bytes.items again (plies_with plies said) (sign_with said) verdict
judged_so setting recovers capture past p plies said trial again verdict is judges =
    let P : List Ply → Type 0 = λ ps. Judges setting recovers capture trial.bytes.items again ps trial.sign verdict in
    let S : Option Outcome → Type 0 = λ sign. Judges setting recovers capture trial.bytes.items again (plies_with plies said) sign verdict in
    subst S is.sign_is (subst P is.plies_are judges)

pub judged_to : (setting : Setting) (recovers : Bool) (capture : List ℕ) (past : List Event) (p : Parts) (plies : List Ply) (said : Typed) (trial : Trial) (again : List ℕ) (verdict : Verdict)
    → IsTrial setting past p plies said trial → (HasEnded p said → ⊥) → ShowsWhole again (dump_of setting.rotated (shown_at setting past p) ∷ [])
    → Judges setting recovers capture trial.bytes.items again trial.plies.items trial.sign verdict → IsAnswerTo setting recovers capture past p plies said (answer_by said trial verdict)
judged_to setting recovers capture past p plies said trial again Kept is going shown judges =
    (refl, going, (again, record { shows = is.shows; shown = shown }, judged_so setting recovers capture past p plies said trial again Kept is judges))
judged_to setting recovers capture past p plies said trial again Changed is going shown judges =
    (refl, (trial.bytes.items, again, record { shows = is.shows; shown = shown }, judged_so setting recovers capture past p plies said trial again Changed is judges))
judged_to setting recovers capture past p plies said trial again NoRoom is going shown judges =
    (refl, (trial.bytes.items, again, record { shows = is.shows; shown = shown }, judges))
