-- What was kept of a call brings the game what the call brought it, and nothing else.
use Rattle.std.proofs.Common.{◌≡◌, ◌||◌, ℕ, Bool, true, false, List, [], ◌∷◌, Option, Some, None, refl, ap, subst, ◌∙◌}
use Rattle.std.specs.Prelude.{if◌then◌else◌}
use Rattle.board_cable.specs.declared.line.Event.{Event}
use Rattle.board_cable.specs.declared.line.Happening.TheVariants.{Owns as LineOwns}
use Rattle.board_cable.specs.declared.whose.Handling.TheVariants.{Keep}
use Rattle.board_cable.specs.Asking.{request_at, with_request}
use Rattle.board_cable.specs.Silence.{is_silent}
use Rattle.board_cable.specs.Whose.{handling_at, own_number}
use Rattle.board_cable.specs.declared.happened.What.{What as AtCable}
use Rattle.board_cable.specs.declared.happened.What.TheVariants.{Owns, Wakes}
use Rattle.board_cable.specs.Keeping.{aside, ends_aside, ends_held, held, kept}
use Rattle.board_cable.specs.Moments.{Moment as CableMoment, is_heard, sent, stream}
use Rattle.board_cable.specs.Turns.{Tells, Told, Turn, handling_of, told}
use Rattle.board_game.specs.History.{Came}
use Rattle.board_game.specs.declared.note.Note.{Note}
use Rattle.board_game.specs.declared.note.Note.TheVariants.{Line as LineNews, Looked, PutsBack, Reopens, Passes, Resumes, Suspects}
use Rattle.board_standing.specs.declared.heard.Heard.TheVariants.{Answers}
use Rattle.board_live.specs.declared.happened.What.{What}
use Rattle.board_live.specs.declared.happened.What.TheVariants.{Cable, Keeps, KeepsAdded, Notes, Tells as Telling}
use Rattle.board_live.specs.Coming.{came, came_with, lined, silence, when, with_bytes, with_news}
use Rattle.board_live.specs.Laws.{as_kept, with_kept, with_number, with_told}
use Rattle.board_live.specs.Moments.{Moment, already, at_cable, begins, cable_moment, cabled, is_added, news_of}
use Rattle.board_live.proofs.Sides.{Side, nothing, nothing_kept, side_kept, side_of}

-- Whatever the turns are of these moments, nothing is told of the line, nothing is kept back, and this has come to the game.
abbrev pub Fed : List Moment → List Came → Type 0
Fed past has = (turns : List Turn) → Told (cabled past) turns → (told turns ≡ []) × (side_of turns ≡ nothing) × (came past turns ≡ has)

-- a turn of which the cable hears nothing, or that the game's board has a number
record IsQuiet (turn : Turn) (turns : List Turn) (now : List Event) : Type 0 where
  now_is : turn.now ≡ now
  told_is : told (turn ∷ turns) ≡ now
  handles : handling_of turn ≡ Keep
  keeps : kept (turn ∷ turns) ≡ []

pub turn_asked : (turn : Turn) (turns : List Turn) (now : List Event) → turn.now ≡ now → (request_at turn.moment.at now ≡ None) → told (turn ∷ turns) ≡ now
turn_asked turn turns now is quiet =
    ap (λ (es : List Event). with_request turn.moment.at (request_at turn.moment.at es) es) is ∙ ap (λ request. with_request turn.moment.at request now) quiet

pub unheard : (m : CableMoment) → is_heard m.what ≡ false → sent m ≡ []
unheard m h = ap (λ b. if b then m.bytes else []) h

pub none_aside : (b : Bool) (xs : List ℕ) → xs ≡ [] → (if b then [] else xs) ≡ []
none_aside true xs h = refl
none_aside false xs h = h

quiet : (m : CableMoment) (turn : Turn) (turns : List Turn) → m.what ≡ Wakes → turn.moment ≡ m → told turns ≡ [] → side_of turns ≡ nothing
    → turn.now ≡ told turns → IsQuiet turn turns []
quiet m turn turns wakes at empty side now =
    let is : turn.now ≡ [] = now ∙ empty in
    let what : turn.moment.what ≡ Wakes = ap (λ (one : CableMoment). one.what) at ∙ wakes in
    let keeping : handling_of turn ≡ Keep = ap (λ (es : List Event). handling_at turn.moment.at es) is in
    record {
      now_is = is;
      told_is = turn_asked turn turns [] is refl;
      handles = keeping;
      keeps = nothing_kept turn turns keeping (unheard turn.moment (ap is_heard what)) (none_aside (ends_aside turn.moment.what) (aside turns) (ap (λ (s : Side). s.aside) side))
          (none_aside (ends_held turn.moment.what) (held turns) (ap (λ (s : Side). s.held) side));
    }

-- what comes to the game at a quiet turn
came_quiet : (at : ℕ) (what : What) (news : Option Note) (added : Bool) (bytes : List ℕ) (turn : Turn) (turns : List Turn) (has : List Came) → begins what ≡ false → told turns ≡ []
    → is_silent (told (turn ∷ turns)) ≡ false → kept (turn ∷ turns) ≡ []
    → came_with at news added bytes (kept (turn ∷ turns)) (silence what (is_silent (told turns)) (is_silent (told (turn ∷ turns)))) has ≡ with_bytes (when at added) bytes (with_news at news has)
came_quiet at what news added bytes turn turns has stays before after keeps =
    let none : silence what (is_silent (told turns)) (is_silent (told (turn ∷ turns))) ≡ None =
    ap (λ b. silence what (is_silent (told turns)) b) after ∙ ap (λ (es : List Event). silence what (is_silent es) false) before
    ∙ ap (λ b. if false || b then Some Answers else None) stays in
    ap (λ heard. came_with at news added bytes (kept (turn ∷ turns)) heard has) none ∙ ap (λ xs. came_with at news added bytes xs None has) keeps

pub fed_more : (m : Moment) (past : List Moment) (has : List Came) → at_cable m.what ≡ Wakes → begins m.what ≡ false → Fed past has
    → Fed (m ∷ past) (with_bytes (when m.at (is_added m.what)) (already m.what m.bytes) (with_news m.at (news_of m.what) has))
fed_more m past has wakes stays fed [] h = absurd h
fed_more m past has wakes stays fed (turn ∷ turns) h =
    let before = fed turns h.0 in
    let T : AtCable → Type 0 = λ w. Tells (record { at = m.at; what = w; bytes = m.bytes }) (stream (cabled past)) (told turns) turn.now in
    let tells : T Wakes = subst T wakes h.2 in
    let is : IsQuiet turn turns [] = quiet (cable_moment m) turn turns wakes h.1 before.0 before.1 tells in (
      is.told_is,
      side_kept turn turns is.handles,
      came_quiet m.at m.what (news_of m.what) (is_added m.what) (already m.what m.bytes) turn turns (came past turns) stays before.0 (ap is_silent is.told_is) is.keeps
          ∙ ap (λ c. with_bytes (when m.at (is_added m.what)) (already m.what m.bytes) (with_news m.at (news_of m.what) c)) before.2,
    )

-- nothing is kept at it
pub none_kept : (m : Moment) (past : List Moment) (has : List Came) (turn : Turn) (turns : List Turn) → at_cable m.what ≡ Wakes → Fed past has
    → Told (cabled (m ∷ past)) (turn ∷ turns) → kept (turn ∷ turns) ≡ []
none_kept m past has turn turns wakes fed h =
    let before = fed turns h.0 in
    let T : AtCable → Type 0 = λ w. Tells (record { at = m.at; what = w; bytes = m.bytes }) (stream (cabled past)) (told turns) turn.now in
    let is : IsQuiet turn turns [] = quiet (cable_moment m) turn turns wakes h.1 before.0 before.1 (subst T wakes h.2) in is.keeps

pub fed_told : (at : ℕ) (note : Option Note) (past : List Moment) (has : List Came) → Fed past has → Fed (with_told at note past) (with_news at note has)
fed_told at None past has fed = fed
fed_told at (Some (LineNews heard)) past has fed = fed_more (record { at = at; what = Telling heard; bytes = [] }) past has refl refl fed
fed_told at (Some Looked) past has fed = fed_more (record { at = at; what = Notes Looked; bytes = [] }) past has refl refl fed
fed_told at (Some PutsBack) past has fed = fed_more (record { at = at; what = Notes PutsBack; bytes = [] }) past has refl refl fed
fed_told at (Some Reopens) past has fed = fed_more (record { at = at; what = Notes Reopens; bytes = [] }) past has refl refl fed
fed_told at (Some Passes) past has fed = fed_more (record { at = at; what = Notes Passes; bytes = [] }) past has refl refl fed
fed_told at (Some Resumes) past has fed = fed_more (record { at = at; what = Notes Resumes; bytes = [] }) past has refl refl fed
fed_told at (Some (Suspects n)) past has fed = fed_more (record { at = at; what = Notes (Suspects n); bytes = [] }) past has refl refl fed

pub fed_kept : (at : ℕ) (added : Bool) (bytes : List ℕ) (past : List Moment) (has : List Came) → Fed past has → Fed (with_kept at added bytes past) (with_bytes (when at added) bytes has)
fed_kept at added [] past has fed = fed
fed_kept at true (byte ∷ bytes) past has fed = fed_more (record { at = at; what = KeepsAdded; bytes = byte ∷ bytes }) past has refl refl fed
fed_kept at false (byte ∷ bytes) past has fed = fed_more (record { at = at; what = Keeps; bytes = byte ∷ bytes }) past has refl refl fed

pub fed_none : Fed [] []
fed_none [] h = (refl, refl, refl)
fed_none (turn ∷ turns) h = absurd h

fed : (past : List Moment) (turns : List Turn) → Told (cabled past) turns → Fed (as_kept past turns) (came past turns)
fed [] turns h = fed_none
fed (m ∷ past) [] h = absurd h
fed (m ∷ past) (turn ∷ turns) h =
    let at = m.at in
    let news = news_of m.what in
    let has = already m.what m.bytes in
    let more = kept (turn ∷ turns) in
    let added = is_added m.what in
    let ends = lined (silence m.what (is_silent (told turns)) (is_silent (told (turn ∷ turns)))) in
    let moments = as_kept past turns in
    let before = came past turns in
    fed_told at ends (with_kept at false more (with_kept at added has (with_told at news moments))) (with_bytes (when at false) more (with_bytes (when at added) has (with_news at news before)))
    (fed_kept at false more (with_kept at added has (with_told at news moments)) (with_bytes (when at added) has (with_news at news before))
    (fed_kept at added has (with_told at news moments) (with_news at news before) (fed_told at news moments before (fed past turns h.0))))

-- with the number of the game's board
pub numbered : (at : ℕ) (number : Option (List ℕ)) (past : List Moment) (has : List Came) (turns : List Turn) → Fed past has
    → Told (cabled (with_number at number past)) turns → (own_number (told turns) ≡ number) × (came (with_number at number past) turns ≡ has)
numbered at None past has turns fed h =
    let before = fed turns h in (ap own_number before.0, before.2)
numbered at (Some number) past has [] fed h = absurd h
numbered at (Some number) past has (turn ∷ turns) fed h =
    let before = fed turns h.0 in
    let now : List Event = record { at = at; what = LineOwns number } ∷ [] in
    let is : turn.now ≡ now = h.2 ∙ ap (λ (es : List Event). record { at = at; what = LineOwns number } ∷ es) before.0 in
    let all : told (turn ∷ turns) ≡ now = turn_asked turn turns now is refl in
    let keeping : handling_of turn ≡ Keep = ap (λ (es : List Event). handling_at turn.moment.at es) is in
    let what : turn.moment.what ≡ Owns number = ap (λ (one : CableMoment). one.what) h.1 in
    let keeps : kept (turn ∷ turns) ≡ [] = nothing_kept turn turns keeping (unheard turn.moment (ap is_heard what))
    (none_aside (ends_aside turn.moment.what) (aside turns) (ap (λ (s : Side). s.aside) before.1))
    (none_aside (ends_held turn.moment.what) (held turns) (ap (λ (s : Side). s.held) before.1)) in (
      ap own_number all,
      came_quiet at (Cable (Owns number)) None false [] turn turns (came past turns) refl before.0 (ap is_silent all) keeps ∙ before.2,
    )

-- So what was kept of what happened has the number, and brought the game the same.
pub is_kept : (at : ℕ) (past : List Moment) (before turns : List Turn) → Told (cabled past) before
    → Told (cabled (with_number at (own_number (told before)) (as_kept past before))) turns
    → (own_number (told turns) ≡ own_number (told before)) × (came (with_number at (own_number (told before)) (as_kept past before)) turns ≡ came past before)
is_kept at past before turns h k = numbered at (own_number (told before)) (as_kept past before) (came past before) turns (fed past before h) k
