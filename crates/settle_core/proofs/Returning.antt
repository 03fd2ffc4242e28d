-- Honest play in which moves are taken back and made again.
use Rattle.std.proofs.Common.{◌≡◌, ◌≢◌, ◌⊎◌, ℕ, inl, inr, true, false, List, [], ◌∷◌, Option, Some, reverse, refl, sym, ap, subst, ◌∙◌}
use mathlib.Core.List.{reverse_aux}
use Rattle.std.specs.Str.{bytes_eq}
use Rattle.std.proofs.lemmas.Bool.{cases_Bool, cond-true, cond-false}
use Rattle.std.proofs.lemmas.List.{reverse-reverse}
use Rattle.std.proofs.lemmas.Slice.Eq.{bytes_eq-Decides}
use Rattle.std.proofs.lemmas.Option.{same_Some}
use Rattle.chess_clock.specs.declared.times.Reading.{Reading}
use Rattle.chess_rules.specs.declared.chess_move.Move.{Move}
use Rattle.chess_rules.specs.declared.parts.Parts.{Parts}
use Rattle.chess_rules.specs.After.{after}
use Rattle.chess_rules.specs.Legal.{Legal}
use Rattle.chess_rules.specs.Picture.{picture}
use Rattle.chess_rules.specs.Valid.{Valid}
use Rattle.chess_rules.proofs.LawLemmas.{moves_stay_valid, pictures_tell_moves}
use Rattle.settle_core.specs.declared.plies.Ply.{Ply}
use Rattle.settle_core.specs.declared.plies.Seen.{Seen}
use Rattle.settle_core.specs.declared.plies.Seen.TheVariants.{Same, Moved, Sign, Replaced, Waits}
use Rattle.settle_core.specs.AnyHands.{MadeAgainStops, ShownEachInTheEnd, ShownInTheEnd, TakenBackAndMadeAgain, WholeMoveIsWithinTurn}
use Rattle.settle_core.specs.Entries.{Entry, deduplicated, last_picture, repeats}
use Rattle.settle_core.specs.Folding.{Folds, Score, SeenAs, moves_of, score_after}
use Rattle.settle_core.specs.HonestPlay.{AllWithinTurnOrLackKing, IsAmong, IsWithinTurnOrLacksKing, IsCapture}
use Rattle.settle_core.specs.Laws.{joined}
use Rattle.settle_core.specs.Settling.{Line, Played, position_after, reached}
use Rattle.settle_core.proofs.Apart.{apart_unless, apart_valid, no_sign_valid}
use Rattle.settle_core.proofs.Fronts.{all_open, among, one_more}
use Rattle.settle_core.proofs.Lines.{begins, open_no_sign, reverse_aux-append}
use Rattle.settle_core.proofs.Lists.{position_in_order}
use Rattle.settle_core.proofs.Once.{folds_once, folds_played}
use Rattle.settle_core.proofs.Pieces.{no_new_after, no_reply, picture_moves, quiet_unless}
use Rattle.settle_core.proofs.Stages.{Ends, EndsAt, IsOpen, IsSound, Opens, bare, end_again, end_first, entry_open, now, opens, shows_at}
use Rattle.settle_core.proofs.Repeats.{repeated_last}

pub whole_move_is_within_turn : WholeMoveIsWithinTurn
whole_move_is_within_turn p m v l quiet = record {
  theirs = no_new_after p m (picture (after p m)) v l refl;
  kings = apart_unless (picture (after p m)) (after p m).side (apart_valid (after p m) (picture (after p m)) (moves_stay_valid p m v l) refl);
  no_capture = λ n ln t e.
      let same : m ≡ n = pictures_tell_moves p m n v l ln e in
      let T : Move → Type 0 = λ k. IsCapture p k in
      quiet (subst T (sym same) t);
}

-- whatever was seen
abbrev Any : List ℕ → Type 0
Any seen = Unit {0}

-- the move was made, with some clock
record Made (earlier : List Ply) (m : Move) (score : Score) : Type 0 where
  ply : Ply
  mv : ply.mv ≡ m
  is : score ≡ bare (ply ∷ earlier)

made_now : (start : Parts) (earlier : List Ply) (m : Move) (reading : Option Reading) (score : Score)
    → score ≡ Rattle.settle_core.specs.Folding.played start earlier reading m → Made earlier m score
made_now start earlier m reading score e = record { ply = _; mv = refl; is = e }

-- the whole picture, where this very move stands
again :
    (start : Parts) (earlier : List Ply) (ply : Ply) (m : Move) (seen : List ℕ) (reading : Option Reading) (shown : Seen)
    → IsSound start earlier
    → Legal (reached start (moves_of earlier)) ply.mv
    → ¬ IsCapture (reached start (moves_of earlier)) ply.mv
    → ply.mv ≡ m
    → Legal (reached start (moves_of earlier)) m
    → seen ≡ picture (after (reached start (moves_of earlier)) m)
    → SeenAs start (ply.mv ∷ moves_of earlier) seen shown
    → Made earlier m (score_after start (bare (ply ∷ earlier)) reading shown)
again start earlier ply m seen reading Same s lp t same l e h = absurd h
again start earlier ply m seen reading (Sign outcome) s lp t same l e h =
    let p : Parts = reached start (moves_of earlier) in
    absurd (no_sign_valid (after p m) seen (moves_stay_valid p m (now start earlier s) l) e _ outcome h)
again start earlier ply m seen reading (Moved k) s lp t same l e h =
    let p : Parts = reached start (moves_of earlier) in
    absurd (no_reply p ply.mv k seen (now start earlier s) lp (quiet_unless p ply.mv t) (no_new_after p m seen (now start earlier s) l e) h)
again start earlier ply m seen reading (Replaced k) s lp t same l e h =
    absurd ((h.2).1 (sym (((h.2).0).alone m l e) ∙ sym same))
again start earlier ply m seen reading Waits s lp t same l e h = record { ply = ply; mv = same; is = refl }

same_or_not : (p : Parts) (m n : Move) → Valid p → Legal p m → Legal p n → (m ≡ n) ⊎ (m ≢ n)
same_or_not p m n v l ln =
    let d = bytes_eq-Decides (picture (after p m)) (picture (after p n)) in
    elim (cases_Bool (bytes_eq (picture (after p m)) (picture (after p n)))) [
      | inl same ↦ inl (pictures_tell_moves p m n v l ln (d.0 same))
      | inr differ ↦ inr (λ e. let one : true ≡ false = sym (d.1 (ap (λ (k : Move). picture (after p k)) e)) ∙ differ in cc)
    ]

-- the whole picture makes the move, whatever stands in its place
whole_step :
    (start : Parts) (earlier : List Ply) (m : Move) (score : Score) (seen : List ℕ) (reading : Option Reading) (shown : Seen)
    → IsSound start earlier
    → Legal (reached start (moves_of earlier)) m
    → seen ≡ picture (after (reached start (moves_of earlier)) m)
    → IsOpen start earlier Any score
    → SeenAs start (moves_of score.plies) seen shown
    → Made earlier m (score_after start score reading shown)
whole_step start earlier m score seen reading shown s l e o h =
    let p : Parts = reached start (moves_of earlier) in
    let M : Score → Type 0 = λ x. Made earlier m (score_after start x reading shown) in
    elim o [
      | inl q ↦
          subst M (sym q) (made_now start earlier m reading (score_after start (bare earlier) reading shown)
          (end_first start earlier m seen reading shown s l e (shows_at start score (bare earlier) seen shown q h)))
      | inr i ↦
          let g = shows_at start score (bare (i.ply ∷ earlier)) seen shown i.is h in
          subst M (sym i.is) (elim (same_or_not p (i.ply).mv m (now start earlier s) i.legal l) [
            | inl same ↦ again start earlier i.ply m seen reading shown s i.legal i.no_capture same l e g
            | inr other ↦
                made_now start earlier m reading (score_after start (bare (i.ply ∷ earlier)) reading shown)
                (end_again start earlier i.ply m seen reading shown s i.legal i.no_capture other l e g)
          ])
    ]

-- While the move is on its way: it is open what stands in its place, but where its whole picture was the last one, it
-- stands.
record Coming (start : Parts) (earlier : List Ply) (m : Move) (past : List Entry) : Type 0 where
  open_so_far : Opens start earlier Any past
  whole : last_picture past ≡ Some (picture (after (reached start (moves_of earlier)) m))
      → (score : Score) → Folds start (deduplicated past) score → Made earlier m score

-- an entry with the whole picture
whole_entry :
    (start : Parts) (earlier : List Ply) (m : Move) (past : List Entry) (entry : Entry)
    → IsSound start earlier
    → Legal (reached start (moves_of earlier)) m
    → entry.picture ≡ picture (after (reached start (moves_of earlier)) m)
    → Coming start earlier m past
    → (score : Score) → Folds start (deduplicated (entry ∷ past)) score → Made earlier m score
whole_entry start earlier m past entry s l e coming score f =
    let F : List Entry → Type 0 = λ es. Folds start es score in
    elim (cases_Bool (repeats entry.picture past)) [
      | inl same ↦
          coming.whole (repeated_last entry.picture past same ∙ ap (λ (xs : List ℕ). Some xs) e) score
          (subst F (cond-true (repeats entry.picture past) (deduplicated past) (entry ∷ deduplicated past) same) f)
      | inr new ↦
          let g : Folds start (entry ∷ deduplicated past) score =
          subst F (cond-false (repeats entry.picture past) (deduplicated past) (entry ∷ deduplicated past) new) f in
          let M : Score → Type 0 = λ x. Made earlier m x in
          subst M (sym g.4) (whole_step start earlier m g.0 entry.picture entry.reading g.1 s l e (coming.open_so_far g.0 g.2) g.3)
    ]

-- one more entry on the way
coming_on :
    (start : Parts) (earlier : List Ply) (m : Move) (past : List Entry) (entry : Entry)
    → IsSound start earlier
    → Legal (reached start (moves_of earlier)) m
    → IsWithinTurnOrLacksKing (reached start (moves_of earlier)) entry.picture
    → Coming start earlier m past
    → Coming start earlier m (entry ∷ past)
coming_on start earlier m past entry s l pass coming = record {
  open_so_far = entry_open start earlier Any past entry s pass tt coming.open_so_far;
  whole = λ e. whole_entry start earlier m past entry s l (same_Some _ _ e) coming;
}

-- the entries of one move
move_made :
    (start : Parts) (earlier : List Ply) (m : Move) (entries past : List Entry)
    → IsSound start earlier
    → Legal (reached start (moves_of earlier)) m
    → Coming start earlier m past
    → ShownInTheEnd (reached start (moves_of earlier)) m entries
    → ((score : Score) → Folds start (deduplicated (reverse_aux entries past)) score → Made earlier m score)
    × EndsAt (after (reached start (moves_of earlier)) m) (reverse_aux entries past)
move_made start earlier m [] past s l coming h = absurd h
move_made start earlier m (entry ∷ []) past s l coming h = (whole_entry start earlier m past entry s l h coming, h)
move_made start earlier m (entry ∷ next ∷ more) past s l coming h =
    move_made start earlier m (next ∷ more) (entry ∷ past) s l (coming_on start earlier m past entry s l h.0 coming) h.1

-- the whole picture isn't the last one where the position's is
ends_coming : (start : Parts) (earlier : List Ply) (m : Move) (past : List Entry) → IsSound start earlier → Legal (reached start (moves_of earlier)) m
    → Ends start earlier past → Coming start earlier m past
ends_coming start earlier m past s l ends = record {
  open_so_far = opens start earlier Any past ends;
  whole = λ e score f. absurd (never past ends.last e);
}
  where
    never : (entries : List Entry) → EndsAt (reached start (moves_of earlier)) entries
        → last_picture entries ≡ Some (picture (after (reached start (moves_of earlier)) m)) → ⊥
    never [] at e = cc
    never (entry ∷ entries) at e = picture_moves (reached start (moves_of earlier)) m (now start earlier s) l (sym (same_Some _ _ e) ∙ at)

-- what was folded before
record FoldedBefore (start : Parts) (past : List Entry) : Type 0 where
  score : Score
  folds : Folds start (deduplicated past) score

folded_before : (start : Parts) (more past : List Entry) (score : Score) → Folds start (deduplicated (reverse_aux more past)) score → FoldedBefore start past
folded_before start [] past score f = record { score = score; folds = f }
folded_before start (entry ∷ more) past score f =
    let before : FoldedBefore start (entry ∷ past) = folded_before start more (entry ∷ past) score f in
    let F : List Entry → Type 0 = λ es. Folds start es before.score in
    elim (cases_Bool (repeats entry.picture past)) [
      | inl same ↦ record { score = before.score; folds = subst F (cond-true (repeats entry.picture past) (deduplicated past) (entry ∷ deduplicated past) same) before.folds }
      | inr new ↦
          let g : Folds start (entry ∷ deduplicated past) before.score =
          subst F (cond-false (repeats entry.picture past) (deduplicated past) (entry ∷ deduplicated past) new) before.folds in
          record { score = g.0; folds = g.2 }
    ]

-- these moves were made after those plies
record MadeOn (earlier : List Ply) (moves : List Move) (score : Score) : Type 0 where
  made : List Ply
  moves_are : moves_of made ≡ moves
  is : score ≡ bare (reverse_aux made earlier)

line_made :
    (start : Parts) (earlier : List Ply) (past : List Entry) (moves : List Move) (lists : List (List Entry)) (score : Score)
    → IsSound start earlier
    → Ends start earlier past
    → Line (reached start (moves_of earlier)) moves
    → ShownEachInTheEnd (reached start (moves_of earlier)) moves lists
    → Folds start (deduplicated (reverse_aux (joined lists) past)) score
    → MadeOn earlier moves score
line_made start earlier past [] [] score s ends l h f = record { made = []; moves_are = refl; is = ends.score score f }
line_made start earlier past [] (list ∷ lists) score s ends l h f = absurd h
line_made start earlier past (m ∷ moves) [] score s ends l h f = absurd h
line_made start earlier past (m ∷ moves) (list ∷ lists) score s ends l h f =
    let p : Parts = reached start (moves_of earlier) in
    let F : List Entry → Type 0 = λ es. Folds start (deduplicated es) score in
    let g : Folds start (deduplicated (reverse_aux (joined lists) (reverse_aux list past))) score =
    subst F (reverse_aux-append list (joined lists) past) f in
    let one = move_made start earlier m list past s l.0 (ends_coming start earlier m past s l.0 ends) h.0 in
    let mid : FoldedBefore start (reverse_aux list past) = folded_before start (joined lists) (reverse_aux list past) score g in
    let made : Made earlier m mid.score = one.0 mid.score mid.folds in
    let ply : Ply = made.ply in
    let at : m ≡ ply.mv = sym made.mv in
    let L : Move → Type 0 = λ k. Legal p k in
    let N : Move → Type 0 = λ k. Line (after p k) moves in
    let S : Move → Type 0 = λ k. ShownEachInTheEnd (after p k) moves lists in
    let E : Move → Type 0 = λ k. EndsAt (after p k) (reverse_aux list past) in
    let sound : IsSound start (ply ∷ earlier) = record { valid = s.valid; played = (subst L at l.0, s.played) } in
    let now_ends : Ends start (ply ∷ earlier) (reverse_aux list past) = record {
      score = λ x k. folds_once start (deduplicated (reverse_aux list past)) x mid.score s.valid k mid.folds ∙ made.is;
      last = subst E at one.1;
    } in
    let rest : MadeOn (ply ∷ earlier) moves score =
    line_made start (ply ∷ earlier) (reverse_aux list past) moves lists score sound now_ends (subst N at l.1) (subst S at h.1) g in
    record {
      made = ply ∷ rest.made;
      moves_are = ap (λ (k : Move). k ∷ moves_of rest.made) made.mv ∙ ap (λ (ks : List Move). m ∷ ks) rest.moves_are;
      is = rest.is;
    }

pub taken_back_and_made_again : TakenBackAndMadeAgain
taken_back_and_made_again start moves lists score v l h f =
    let made : MadeOn [] moves score = line_made start [] [] moves lists score (record { valid = v; played = tt }) (begins start) l h f in (
      ap (λ (x : Score). moves_of (reverse x.plies)) made.is ∙ ap moves_of (reverse-reverse made.made) ∙ made.moves_are,
      ap (λ (x : Score). x.sign) made.is,
    )

pub made_again_stops : MadeAgainStops
made_again_stops start moves lists part score v l h a f =
    let past : List Entry = reverse_aux (joined lists) [] in
    let F : List Entry → Type 0 = λ es. Folds start (deduplicated es) score in
    let g : Folds start (deduplicated (reverse_aux part past)) score = subst F (reverse_aux-append (joined lists) part []) f in
    let mid : FoldedBefore start past = folded_before start part past score g in
    let made : MadeOn [] moves mid.score = line_made start [] [] moves lists mid.score (record { valid = v; played = tt }) (begins start) l h mid.folds in
    let plies : List Ply = made.made in
    let P : Score → Type 0 = λ x. Played start (moves_of x.plies) in
    let sound : IsSound start (reverse plies) = record { valid = v; played = subst P made.is (folds_played start (deduplicated past) mid.score mid.folds) } in
    let at : reached start (moves_of (reverse plies)) ≡ position_after start moves =
    sym (position_in_order start (reverse plies)) ∙ ap (λ (ps : List Ply). position_after start (moves_of ps)) (reverse-reverse plies)
    ∙ ap (position_after start) made.moves_are in
    let A : Parts → Type 0 = λ x. AllWithinTurnOrLackKing x part in
    let before : Opens start (reverse plies) (IsAmong part) past = λ x k. inl (folds_once start (deduplicated past) x mid.score v k mid.folds ∙ made.is) in
    let o : IsOpen start (reverse plies) (IsAmong part) score =
    all_open start (reverse plies) (IsAmong part) part past sound (subst A (sym at) a) (among part [] part refl) before score g in (
      open_no_sign start (reverse plies) (IsAmong part) score o,
      (
        plies,
        made.moves_are,
        elim o [
          | inl e ↦ inl (ap (λ (x : Score). reverse x.plies) e ∙ reverse-reverse plies)
          | inr i ↦ inr (one_more start (position_after start moves) plies part score at i)
        ],
      ),
    )
