-- A history is filed as it is.
use Rattle.std.proofs.Common.{◌≡◌, ℕ, Bool, true, false, List, [], ◌∷◌, Option, Some, None, refl, ap, ◌∙◌}
use Rattle.board_cable.specs.declared.happened.What.TheVariants.{Wakes}
use Rattle.board_cable.specs.Keeping.{kept}
use Rattle.board_cable.specs.Turns.{Told, Turn}
use Rattle.board_game.specs.History.{Came}
use Rattle.board_game.specs.declared.note.Note.{Note}
use Rattle.board_game.specs.declared.note.Note.TheVariants.{Line as LineNews, Looked, PutsBack, Reopens, Passes, Resumes, Suspects}
use Rattle.board_live.specs.declared.happened.What.TheVariants.{Keeps, KeepsAdded, Notes, Tells as Telling}
use Rattle.board_live.specs.Coming.{when, with_bytes, with_news}
use Rattle.board_live.specs.Laws.{with_kept, with_told}
use Rattle.board_live.specs.Moments.{Moment, already, at_cable, begins, cabled, is_added, news_of}
use Rattle.board_live.specs.Restarts.{as_filed}
use Rattle.board_live.proofs.Fed.{Fed, fed_more, fed_none, none_kept}

-- Whatever the turns are of these moments, this is filed of them.
pub record Files (past filed : List Moment) : Type 0 where
  pub has : List Came
  pub fed : Fed past has
  pub is : (turns : List Turn) → Told (cabled past) turns → as_filed past turns ≡ filed

pub files_none : Files [] []
files_none = record { has = []; fed = fed_none; is = λ turns h. refl }

more_filed : (m : Moment) (past filed : List Moment) → at_cable m.what ≡ Wakes → Files past filed → (turns : List Turn) → Told (cabled (m ∷ past)) turns
    → as_filed (m ∷ past) turns ≡ with_kept m.at (is_added m.what) (already m.what m.bytes) (with_told m.at (news_of m.what) filed)
more_filed m past filed wakes f [] h = absurd h
more_filed m past filed wakes f (turn ∷ turns) h =
    ap (λ bytes. with_kept m.at false bytes (with_kept m.at (is_added m.what) (already m.what m.bytes) (with_told m.at (news_of m.what) (as_filed past turns))))
    (none_kept m past f.has turn turns wakes f.fed h)
    ∙ ap (λ before. with_kept m.at (is_added m.what) (already m.what m.bytes) (with_told m.at (news_of m.what) before)) (f.is turns h.0)

pub files_more : (m : Moment) (past filed : List Moment) → at_cable m.what ≡ Wakes → begins m.what ≡ false → Files past filed
    → Files (m ∷ past) (with_kept m.at (is_added m.what) (already m.what m.bytes) (with_told m.at (news_of m.what) filed))
files_more m past filed wakes stays f = record {
  has = with_bytes (when m.at (is_added m.what)) (already m.what m.bytes) (with_news m.at (news_of m.what) f.has);
  fed = fed_more m past f.has wakes stays f.fed;
  is = λ turns h. more_filed m past filed wakes f turns h;
}

pub files_told : (at : ℕ) (news : Option Note) (past filed : List Moment) → Files past filed → Files (with_told at news past) (with_told at news filed)
files_told at None past filed f = f
files_told at (Some (LineNews heard)) past filed f = files_more (record { at = at; what = Telling heard; bytes = [] }) past filed refl refl f
files_told at (Some Looked) past filed f = files_more (record { at = at; what = Notes Looked; bytes = [] }) past filed refl refl f
files_told at (Some PutsBack) past filed f = files_more (record { at = at; what = Notes PutsBack; bytes = [] }) past filed refl refl f
files_told at (Some Reopens) past filed f = files_more (record { at = at; what = Notes Reopens; bytes = [] }) past filed refl refl f
files_told at (Some Passes) past filed f = files_more (record { at = at; what = Notes Passes; bytes = [] }) past filed refl refl f
files_told at (Some Resumes) past filed f = files_more (record { at = at; what = Notes Resumes; bytes = [] }) past filed refl refl f
files_told at (Some (Suspects n)) past filed f = files_more (record { at = at; what = Notes (Suspects n); bytes = [] }) past filed refl refl f

pub files_kept : (at : ℕ) (added : Bool) (bytes : List ℕ) (past filed : List Moment) → Files past filed → Files (with_kept at added bytes past) (with_kept at added bytes filed)
files_kept at added [] past filed f = f
files_kept at true (byte ∷ bytes) past filed f = files_more (record { at = at; what = KeepsAdded; bytes = byte ∷ bytes }) past filed refl refl f
files_kept at false (byte ∷ bytes) past filed f = files_more (record { at = at; what = Keeps; bytes = byte ∷ bytes }) past filed refl refl f
