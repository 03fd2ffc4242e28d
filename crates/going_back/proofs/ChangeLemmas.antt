-- What is known of a game that is to get other moves.
use Rattle.std.proofs.Common.{◌≡◌, ◌∙◌, ◌≤◌, ℕ, Bool, true, false, List, Option, Some, None, arith, drop, take, length, refl, sym, ap, subst}
use Rattle.std.proofs.lemmas.Bool.{false≢true}
use Rattle.std.proofs.lemmas.List.{take_all}
use Rattle.std.specs.Prelude.{IfSome, not}
use Rattle.chess_rules.specs.declared.chess_move.Move.{Move}
use Rattle.chess_rules.specs.declared.parts.Parts.{Parts}
use Rattle.dgt_frame.specs.declared.events.Event.{Event}
use Rattle.settle_core.specs.declared.plies.Ply.{Ply}
use Rattle.settle_core.specs.Folding.{moves_of}
use Rattle.settle_core.specs.Settler.{SettlerState, HasSettled, plies_of}
use Rattle.settle_core.specs.Settling.{Line, position_after}
use Rattle.board_events.specs.Session.{entries_in}
use Rattle.board_events.specs.Settings.{Setting}
use Rattle.typed_lines.specs.Lines.{ReadsLine}
use Rattle.typed_lines.specs.Words.{typed_words}
use Rattle.typed_lines.specs.declared.reading.Typed.{Typed}
use Rattle.typed_lines.specs.declared.reading.Typed.TheVariants as typed
use Rattle.typed_lines.proofs.LineLemmas.{named_line}
use Rattle.going_back.specs.declared.going.BackError.{BackError}
use Rattle.going_back.specs.declared.going.BackError.TheVariants.{Unseen, Ended, Signed, Moved, Board, TooLong, Memory}
use Rattle.going_back.specs.declared.replacing.Change.{Change}
use Rattle.going_back.specs.declared.replacing.Change.TheVariants as change
use Rattle.going_back.specs.Back.{RefusesThese}
use Rattle.going_back.specs.Coming.{IsNewLine}
use Rattle.going_back.specs.Inside.Changing.{IsChangeBy}
use Rattle.going_back.specs.Inside.Tellable.{IsChangeTellable, IsLegalBehind}
use Rattle.going_back.specs.Placing.{IsPlace}
use Rattle.going_back.specs.Replacing.{IsChangeOf, SaysMoves, SaysNoMoves, Wants}
use Rattle.going_back.proofs.ComingLemmas.{comes_moves, line_on}
use Rattle.going_back.proofs.Fronts.{line_front}
use Rattle.going_back.proofs.TellLemmas.{far_within, settled_line, shown_move_legal}

-- what a line that says moves wants
wants : (start : Parts) (old : List Ply) (text : List ℕ) (place come : ℕ) (said : Typed) (moves : List Move) (plies : List Ply) → IsPlace start old text place
    → ReadsLine (position_after start (moves_of (take place old))) text said → SaysMoves said moves → come ≡ length moves → IsNewLine old place moves plies → Wants start old text place come plies
wants start old text place come said moves plies here reads says count new = record { place = here; said = said; reads = reads; moves = moves; says = says; count = count; new = new }

pub change_from : (setting : Setting) (recovers : Bool) (past : List Event) (game : SettlerState) (text : List ℕ) (place : ℕ) (said : Typed) (moves : List Move) (answer : Change)
    → IsPlace game.start (plies_of game) text place → ReadsLine (position_after game.start (moves_of (take place (plies_of game)))) text said → SaysMoves said moves
    → IsChangeBy setting recovers past game place moves answer → IsChangeOf setting recovers past game text answer
change_from setting recovers past game text place said moves (change.Replaced made stays gone come result) here reads says (plies, at, count, new, all, ends, rest) =
    let W : ℕ → Type 0 = λ n. Wants game.start (plies_of game) text n come plies in
    (plies, subst W (sym at) (wants game.start (plies_of game) text place come said moves plies here reads says count new), all, ends, rest)
change_from setting recovers past game text place said moves (change.Unplaced nearest) here reads says by = absurd by
change_from setting recovers past game text place said moves (change.Unsaid other) here reads says by = absurd by
change_from setting recovers past game text place said moves (change.Old stays come) here reads says (plies, at, count, new, shows) =
    let W : ℕ → Type 0 = λ n. Wants game.start (plies_of game) text n come plies in
    (plies, subst W (sym at) (wants game.start (plies_of game) text place come said moves plies here reads says count new), shows)
change_from setting recovers past game text place said moves (change.Refused plies stays error) here reads says (at, new, refuses) =
    let W : ℕ → Type 0 = λ n. Wants game.start (plies_of game) text n (length moves) plies.items in
    (length moves, subst W (sym at) (wants game.start (plies_of game) text place (length moves) said moves plies.items here reads says refl new), refuses)

-- what is said is a line, if it is moves
pub said_line_of : (p : Parts) (text : List ℕ) (said : Typed) (moves : List Move) → ReadsLine p text said → SaysMoves said moves → Line p moves
said_line_of p text (typed.Moves found) moves reads says =
    let L : List Move → Type 0 = λ ms. Line p ms in
    subst L says (named_line p (typed_words text) found.items reads.1)
said_line_of p text (typed.Result outcome) moves reads says = absurd says
said_line_of p text typed.Reopens moves reads says = absurd says
said_line_of p text typed.Nothing moves reads says = absurd says
said_line_of p text typed.Mixed moves reads says = absurd says
said_line_of p text (typed.Meant word number san) moves reads says = absurd says
said_line_of p text (typed.Illegal word number) moves reads says = absurd says
said_line_of p text (typed.Unknown word number) moves reads says = absurd says
said_line_of p text (typed.Misnumbered word number) moves reads says = absurd says

-- the new plies are a line
pub new_line_is : (start : Parts) (old : List Ply) (stays : ℕ) (moves : List Move) (plies : List Ply) → Line start (moves_of old)
    → Line (position_after start (moves_of (take stays old))) moves → IsNewLine old stays moves plies → Line start (moves_of plies)
new_line_is start old stays moves plies line behind (coming, comes, are) =
    let front = take stays old in
    let L : List Ply → Type 0 = λ xs. Line start (moves_of xs) in
    let M : List Move → Type 0 = λ ms. Line (position_after start (moves_of front)) ms in
    subst L (sym are) (line_on start front coming (line_front start old stays line) (subst M (sym (comes_moves (drop stays old) moves coming comes)) behind))

wanted_line : (start : Parts) (old : List Ply) (text : List ℕ) (stays come : ℕ) (plies : List Ply) → Line start (moves_of old) → Wants start old text stays come plies → Line start (moves_of plies)
wanted_line start old text stays come plies line w =
    new_line_is start old stays w.moves plies line (said_line_of (position_after start (moves_of (take stays old))) text w.said w.moves w.reads w.says) w.new

legal_behind_all : (setting : Setting) (recovers : Bool) (past : List Event) (old plies : List Ply) (start : Parts) (error : BackError) → start ≡ setting.start
    → RefusesThese setting recovers past old plies error → IsLegalBehind start plies (length plies) error
legal_behind_all setting recovers past old plies start (Moved m) same refuses =
    let S : Parts → Type 0 = λ p. IsLegalBehind p plies (length plies) (Moved m) in
    let T : List Ply → Type 0 = λ xs. IsLegalBehind setting.start plies (length plies) (Moved m) in
    subst S (sym same) (rw (sym (take_all (length plies) plies (omega arith))) at (shown_move_legal setting recovers past old plies m refuses))
legal_behind_all setting recovers past old plies start Unseen same refuses = tt
legal_behind_all setting recovers past old plies start (Ended outcome) same refuses = tt
legal_behind_all setting recovers past old plies start (Signed outcome) same refuses = tt
legal_behind_all setting recovers past old plies start Board same refuses = tt
legal_behind_all setting recovers past old plies start TooLong same refuses = tt
legal_behind_all setting recovers past old plies start Memory same refuses = tt

change_tellable_from : (setting : Setting) (recovers : Bool) (past : List Event) (game : SettlerState) (text : List ℕ) (answer : Change)
    → HasSettled game setting.start (entries_in setting past) → IsChangeOf setting recovers past game text answer → IsChangeTellable game.start (plies_of game) answer
change_tellable_from setting recovers past game text (change.Replaced made stays gone come result) settled is = tt
change_tellable_from setting recovers past game text (change.Unplaced None) settled is = tt
change_tellable_from setting recovers past game text (change.Unplaced (Some k)) settled is = far_within text game.start (plies_of game) k is.1.0 is.1.1
change_tellable_from setting recovers past game text (change.Unsaid said) settled is = tt
change_tellable_from setting recovers past game text (change.Old stays come) settled is = tt
change_tellable_from setting recovers past game text (change.Refused plies stays error) settled (come, wanted, refuses) =
    let L : Parts → Type 0 = λ p. Line p (moves_of (plies_of game)) in
    let line = subst L (sym settled.start_is) (settled_line game setting.start (entries_in setting past) settled) in (
      wanted_line game.start (plies_of game) text stays come plies.items line wanted,
      legal_behind_all setting recovers past (plies_of game) plies.items game.start error settled.start_is refuses,
    )

-- the same with the start and the plies as they were taken
pub change_tellable : (setting : Setting) (recovers : Bool) (past : List Event) (game : SettlerState) (text : List ℕ) (answer : Change) (start : Parts) (plies : List Ply)
    → HasSettled game setting.start (entries_in setting past) → IsChangeOf setting recovers past game text answer → start ≡ game.start → plies ≡ plies_of game → IsChangeTellable start plies answer
change_tellable setting recovers past game text answer start plies settled is start-is plies-are =
    let S : Parts → Type 0 = λ p. IsChangeTellable p plies answer in
    let P : List Ply → Type 0 = λ xs. IsChangeTellable game.start xs answer in
    subst S (sym start-is) (subst P (sym plies-are) (change_tellable_from setting recovers past game text answer settled is))

-- a test and its denial
pub not_both : (b : Bool) → not b ≡ false → b ≡ false → ⊥
not_both false h e = false≢true (sym h)
not_both true h e = false≢true (sym e)

place_some : (p : Parts) (plies : List Ply) (text : List ℕ) (found : Option ℕ) (k : ℕ) → found ≡ Some k
    → IfSome found (λ n. (n ≤ length plies) × IsPlace p plies text n) → IsPlace p plies text k
place_some p plies text found k is h =
    let F : Option ℕ → Type 0 = λ o. IfSome o (λ n. (n ≤ length plies) × IsPlace p plies text n) in
    let at : (k ≤ length plies) × IsPlace p plies text k = subst F is h in
    at.1

-- where a line comes in, and how it was read there, of the game
pub place_in : (game : SettlerState) (text : List ℕ) (start : Parts) (plies : List Ply) (found : Option ℕ) (k : ℕ) → start ≡ game.start → plies ≡ plies_of game → found ≡ Some k
    → IfSome found (λ n. (n ≤ length plies) × IsPlace start plies text n) → IsPlace game.start (plies_of game) text k
place_in game text start plies found k start-is plies-are is h =
    let S : Parts → Type 0 = λ p. IsPlace p plies text k in
    let P : List Ply → Type 0 = λ xs. IsPlace game.start xs text k in
    subst P plies-are (subst S start-is (place_some start plies text found k is h))

pub position_in : (game : SettlerState) (start : Parts) (plies : List Ply) (k : ℕ) (p : Parts) → start ≡ game.start → plies ≡ plies_of game
    → p ≡ position_after start (moves_of (take k plies)) → p ≡ position_after game.start (moves_of (take k (plies_of game)))
position_in game start plies k p start-is plies-are is =
    is ∙ ap (λ (q : Parts). position_after q (moves_of (take k plies))) start-is ∙ ap (λ (xs : List Ply). position_after game.start (moves_of (take k xs))) plies-are

-- a line that is no moves
pub no_moves : (said : Typed) → ((found : _) → said ≡ typed.Moves found → ⊥) → SaysNoMoves said
no_moves (typed.Moves found) other = absurd (other found refl)
no_moves (typed.Result outcome) other = tt
no_moves typed.Reopens other = tt
no_moves typed.Nothing other = tt
no_moves typed.Mixed other = tt
no_moves (typed.Meant word number san) other = tt
no_moves (typed.Illegal word number) other = tt
no_moves (typed.Unknown word number) other = tt
no_moves (typed.Misnumbered word number) other = tt
