-- Pieces at rest: pictures in which pieces are off the board or stand on their own squares confirm no pair.
use Rattle.std.proofs.Common.{◌≡◌, ℕ, zero, suc, Bool, true, false, inl, inr, List, [], ◌∷◌, ◌++◌, Some, cond, get_or, slice_get, refl, sym, ap, subst, ◌∙◌}
use mathlib.Core.List.{reverse_aux}
use Rattle.std.specs.Str.{bytes_eq}
use Rattle.std.proofs.lemmas.Bool.{cases_Bool, cond-false, cond-true}
use Rattle.std.proofs.lemmas.Option.{none-some, same_Some}
use Rattle.chess_rules.specs.declared.chess_move.Move.{Move}
use Rattle.chess_rules.specs.declared.parts.Parts.{Parts}
use Rattle.chess_rules.specs.After.{after}
use Rattle.chess_rules.specs.Legal.{Legal}
use Rattle.chess_rules.specs.Valid.{Valid}
use Rattle.chess_rules.specs.Picture.{picture}
use Rattle.chess_rules.proofs.LawLemmas.{moves_stay_valid}
use Rattle.settle_core.specs.declared.plies.Seen.{Seen}
use Rattle.settle_core.specs.declared.plies.Seen.TheVariants.{Same, Moved, Sign, Replaced, Waits}
use Rattle.settle_core.specs.Entries.{Entry, deduplicated, repeats}
use Rattle.settle_core.specs.Folding.{Replaces, Score, moves_of}
use Rattle.settle_core.specs.HonestPlay.{ShowsNoMore}
use Rattle.settle_core.specs.Settling.{Played, Settles, reached}
use Rattle.settle_core.proofs.Hands.{lacking_no_picture}
use Rattle.settle_core.proofs.Pieces.{at_picture, settles_end}
use Rattle.settle_core.proofs.Stages.{EndsAt, valid_reached}
use Rattle.settle_core.proofs.Waiting.{resting_waits}
use Rattle.settle_core.proofs.Whatever.{kings_make_no_move}
use Rattle.unseen_pairs.specs.declared.pair.Recovery.{Recovery}
use Rattle.unseen_pairs.specs.declared.pair.SeenOrRecovered.{SeenOrRecovered}
use Rattle.unseen_pairs.specs.declared.pair.SeenOrRecovered.TheVariants.{Shown, Recovered}
use Rattle.unseen_pairs.specs.Pairs.{Confirms, GoesOn, ShowsNew, begins, ends}
use Rattle.unseen_pairs.specs.Recovering.{FoldsRecovering, TellsAs, score_told, waiting_after}
use Rattle.unseen_pairs.specs.Laws.{ConfirmNone, Writes}
use Rattle.unseen_pairs.specs.Recoverer.{written_after}
use Rattle.unseen_pairs.specs.HandsAtRest.{AreAtRest, IsAtRest, RestAddsNothing}
use Rattle.unseen_pairs.proofs.Recovered.{is_written, recovering_played, recovers_once, writes_once}
use Rattle.unseen_pairs.proofs.Telling.{valid_root}

-- the entries' pictures are such ones
abbrev pub AllAre : (List ℕ → Type 0) → List Entry → Type 0
AllAre P entries = (place : ℕ) (entry : Entry) → slice_get entries place ≡ Some entry → P entry.picture

pub none_are : (P : List ℕ → Type 0) → AllAre P []
none_are P place entry e = absurd (none-some entry e)

pub more_are : (P : List ℕ → Type 0) (entries : List Entry) (entry : Entry) → AllAre P entries → P entry.picture → AllAre P (entry ∷ entries)
more_are P entries entry all one zero found e = let Q : Entry → Type 0 = λ x. P x.picture in subst Q (same_Some entry found e) one
more_are P entries entry all one (suc place) found e = all place found e

pub are_unless :
    (P : List ℕ → Type 0) (own : Bool) (entries : List Entry) (entry : Entry)
    → AllAre P entries → P entry.picture → AllAre P (cond own [] (entry ∷ entries))
are_unless P true entries entry all one = none_are P
are_unless P false entries entry all one = more_are P entries entry all one

-- a picture that shows no more than stands shows nothing new
pub none_new : (p : Parts) (seen : List ℕ) → Valid p → ShowsNoMore p seen → ¬ ShowsNew p seen
none_new p seen v less new =
    elim (less new.square new.low) [
      | inl same ↦ new.new (same ∙ sym (at_picture p new.square (rw v.squares new.low)))
      | inr none ↦ new.some none
    ]

-- a picture of a position that may be seen at rest shows no more than stands
pub shows_no_more :
    (p q : Parts) (m : Move) (seen : List ℕ) → Valid q → Legal q m → seen ≡ picture (after q m) → IsAtRest p seen → ShowsNoMore p seen
shows_no_more p q m seen v l e (inl (inl h)) = h
shows_no_more p q m seen v l e (inl (inr lacks)) = absurd (lacking_no_picture (after q m) seen (moves_stay_valid q m v l) lacks e)
shows_no_more p q m seen v l e (inr kings) = absurd ((kings_make_no_move q [] seen v tt kings).0 m (settles_end q m seen v l e))

-- the picture of the position itself
pub own_stays : (p : Parts) (seen : List ℕ) → Valid p → seen ≡ picture p → IsAtRest p seen
own_stays p seen v e =
    inl (inl (λ s low. inl (ap (λ (xs : List ℕ). get_or xs s 0) e ∙ at_picture p s (rw v.squares low))))

none_goes :
    (p q : Parts) (a : Seen) (seen : List ℕ)
    → Valid p → Valid q → ShowsNoMore p (picture q) → IsAtRest p seen → ¬ GoesOn p q seen a
none_goes p q (Moved m) seen v vq less stay g =
    elim g.1 [
      | inl put ↦ none_new p (picture q) v less put
      | inr new ↦ none_new p seen v (shows_no_more p q m seen vq (g.0).legal (g.0).shows stay) new
    ]
none_goes p q (Sign o) seen v vq less stay g = none_new p (picture q) v less g.1
none_goes p q (Replaced m) seen v vq less stay g = g
none_goes p q Same seen v vq less stay g = g
none_goes p q Waits seen v vq less stay g = g

confirms_none :
    (start : Parts) (moves : List Move) (waiting : List Entry) (seen : List ℕ) (r : Recovery)
    → Valid start → Played start moves
    → AllAre (λ xs. IsAtRest (reached start moves) xs) waiting
    → IsAtRest (reached start moves) seen
    → ¬ Confirms start moves waiting seen r
confirms_none start moves waiting seen r v played stays stay c =
    let p : Parts = reached start moves in
    let two = ((c.explains).explains).after_two in
    let b : Parts = begins start moves r.pair in
    let u : Valid b = valid_root r.pair.corrects start moves v played in
    let um : Valid (after b r.pair.first) = moves_stay_valid b r.pair.first u two.first in
    let ue : Valid (ends start moves r.pair) = moves_stay_valid (after b r.pair.first) r.pair.second um two.second in
    let less : ShowsNoMore p (c.entry).picture =
    shows_no_more p (after b r.pair.first) r.pair.second (c.entry).picture um two.second two.shows (stays c.place c.entry (c.explains).waits) in
    let N : List ℕ → Type 0 = λ xs. ShowsNoMore p xs in
    none_goes p (ends start moves r.pair) r.sequel seen (valid_reached start moves v played) ue (subst N two.shows less) stay c.goes_on

-- the game while no move is made
pub record IsResting (start : Parts) (moves now : List Move) (waiting : List Entry) : Type 0 where
  pub moves_are : now ≡ moves
  pub stays : AllAre (λ xs. IsAtRest (reached start moves) xs) waiting

pub stay_settles : (start : Parts) (moves : List Move) (seen : List ℕ) (n : Move) → Valid start → Played start moves → IsAtRest (reached start moves) seen
    → ¬ Settles (reached start moves) seen n
stay_settles start moves seen n v l (inl rest) = (resting_waits start moves seen v l rest).0 n
stay_settles start moves seen n v l (inr kings) = (kings_make_no_move start moves seen v l kings).0 n

stay_replaces : (start : Parts) (moves : List Move) (seen : List ℕ) (n : Move) → Valid start → Played start moves → IsAtRest (reached start moves) seen
    → ¬ Replaces start moves seen n
stay_replaces start moves seen n v l (inl rest) = (resting_waits start moves seen v l rest).2 n
stay_replaces start moves seen n v l (inr kings) = (kings_make_no_move start moves seen v l kings).1 n

stay_confirms :
    (start : Parts) (moves now : List Move) (waiting : List Entry) (seen : List ℕ) (r : Recovery)
    → Valid start → Played start moves
    → IsResting start moves now waiting
    → IsAtRest (reached start moves) seen
    → ¬ Confirms start now waiting seen r
stay_confirms start moves now waiting seen r v played rest stay c =
    let C : List Move → Type 0 = λ ms. Confirms start ms waiting seen r in
    confirms_none start moves waiting seen r v played rest.stays stay (subst C rest.moves_are c)

stay_told :
    (start : Parts) (moves : List Move) (score : Score) (waiting : List Entry) (entry : Entry) (told : SeenOrRecovered)
    → Valid start → Played start moves
    → IsResting start moves (moves_of score.plies) waiting
    → IsAtRest (reached start moves) entry.picture
    → TellsAs start (moves_of score.plies) waiting entry.picture told
    → IsResting start moves (moves_of (score_told start score entry.reading told).plies) (waiting_after start (moves_of score.plies) waiting entry told)
stay_told start moves score waiting entry (Recovered r) v played rest stay h =
    absurd (stay_confirms start moves (moves_of score.plies) waiting entry.picture r v played rest stay h.1)
stay_told start moves score waiting entry (Shown Same) v played rest stay h = absurd h.0
stay_told start moves score waiting entry (Shown Waits) v played rest stay h =
    let P : List ℕ → Type 0 = λ xs. IsAtRest (reached start moves) xs in
    record {
      moves_are = rest.moves_are;
      stays = are_unless P (bytes_eq entry.picture (picture (reached start (moves_of score.plies)))) waiting entry rest.stays stay;
    }
stay_told start moves score waiting entry (Shown (Sign o)) v played rest stay h =
    record { moves_are = rest.moves_are; stays = none_are (λ xs. IsAtRest (reached start moves) xs) }
stay_told start moves score waiting entry (Shown (Moved n)) v played rest stay h =
    let S : List Move → Type 0 = λ ms. Settles (reached start ms) entry.picture n in
    absurd (stay_settles start moves entry.picture n v played stay (subst S rest.moves_are h.0))
stay_told start moves score waiting entry (Shown (Replaced n)) v played rest stay h =
    let R : List Move → Type 0 = λ ms. Replaces start ms entry.picture n in
    absurd (stay_replaces start moves entry.picture n v played stay (subst R rest.moves_are (h.0).2))

-- Nothing was added, the plies are the same, and what waits may be seen at rest.
record AddsNothing (start : Parts) (before : Score) (later written : List Entry) (score : Score) (all waiting : List Entry) : Type 0 where
  pub added : all ≡ later ++ written
  pub plies : score.plies ≡ before.plies
  pub rests : IsResting start (moves_of before.plies) (moves_of score.plies) waiting

rest_plain :
    (start : Parts) (before now : Score) (waited : List Entry) (entry : Entry) (told : SeenOrRecovered) (earlier : List Entry)
    → Valid start → Played start (moves_of before.plies)
    → IsAtRest (reached start (moves_of before.plies)) entry.picture
    → IsResting start (moves_of before.plies) (moves_of now.plies) waited
    → TellsAs start (moves_of now.plies) waited entry.picture told
    → (written_after entry told earlier ≡ entry ∷ earlier) × ((score_told start now entry.reading told).plies ≡ now.plies)
rest_plain start before now waited entry (Recovered r) earlier v played stay rest h =
    absurd (stay_confirms start (moves_of before.plies) (moves_of now.plies) waited entry.picture r v played rest stay h.1)
rest_plain start before now waited entry (Shown Same) earlier v played stay rest h = absurd h.0
rest_plain start before now waited entry (Shown Waits) earlier v played stay rest h = (refl, refl)
rest_plain start before now waited entry (Shown (Sign o)) earlier v played stay rest h = (refl, refl)
rest_plain start before now waited entry (Shown (Moved n)) earlier v played stay rest h =
    let S : List Move → Type 0 = λ ms. Settles (reached start ms) entry.picture n in
    absurd (stay_settles start (moves_of before.plies) entry.picture n v played stay (subst S rest.moves_are h.0))
rest_plain start before now waited entry (Shown (Replaced n)) earlier v played stay rest h =
    let R : List Move → Type 0 = λ ms. Replaces start ms entry.picture n in
    absurd (stay_replaces start (moves_of before.plies) entry.picture n v played stay (subst R rest.moves_are (h.0).2))

rest_told :
    (start : Parts) (before now score : Score) (waited waiting : List Entry) (entry : Entry) (told : SeenOrRecovered) (later written earlier all : List Entry)
    → Valid start → Played start (moves_of before.plies)
    → IsAtRest (reached start (moves_of before.plies)) entry.picture
    → AddsNothing start before later written now earlier waited
    → TellsAs start (moves_of now.plies) waited entry.picture told
    → all ≡ written_after entry told earlier
    → score ≡ score_told start now entry.reading told
    → waiting ≡ waiting_after start (moves_of now.plies) waited entry told
    → AddsNothing start before (entry ∷ later) written score all waiting
rest_told start before now score waited waiting entry told later written earlier all v played stay h t is at left =
    let moves : List Move = moves_of before.plies in
    let A : Score → Type 0 = λ x. IsResting start moves (moves_of x.plies) waiting in
    let B : List Entry → Type 0 = λ ws. IsResting start moves (moves_of (score_told start now entry.reading told).plies) ws in
    let none = rest_plain start before now waited entry told earlier v played stay h.rests t in
    record {
      added = is ∙ none.0 ∙ ap (λ (es : List Entry). entry ∷ es) h.added;
      plies = ap (λ (x : Score). x.plies) at ∙ none.1 ∙ h.plies;
      rests = subst A (sym at) (subst B (sym left) (stay_told start moves now waited entry told v played h.rests stay t));
    }

rest_keeps :
    (start : Parts) (later past written all : List Entry) (before score : Score) (waiting : List Entry)
    → Valid start
    → Writes start past written before []
    → AreAtRest (reached start (moves_of before.plies)) later
    → Writes start (later ++ past) all score waiting
    → AddsNothing start before later written score all waiting
rest_keeps start [] past written all before score waiting v w rest h =
    let f : FoldsRecovering start past before [] = (is_written start past before []).1 (written, w) in
    let g : FoldsRecovering start past score waiting = (is_written start past score waiting).1 (all, h) in
    let once = recovers_once start past score before waiting [] v g f in
    let S : List Entry → Type 0 = λ ws. AllAre (λ xs. IsAtRest (reached start (moves_of before.plies)) xs) ws in
    record {
      added = writes_once start past all written score before waiting [] v h w;
      plies = ap (λ (x : Score). x.plies) once.0;
      rests = record {
        moves_are = ap (λ (x : Score). moves_of x.plies) once.0;
        stays = subst S (sym once.1) (none_are (λ xs. IsAtRest (reached start (moves_of before.plies)) xs));
      };
    }
rest_keeps start (entry ∷ later) past written all before score waiting v w rest h =
    let f : FoldsRecovering start past before [] = (is_written start past before []).1 (written, w) in
    rest_told start before h.0 score h.1 waiting entry h.2 later written h.3 all v (recovering_played start past before [] v f) rest.0
    (rest_keeps start later past written h.3 before h.0 h.1 v w rest.1 h.4) h.5 h.6 h.7 h.8

pub rest_adds_nothing : RestAddsNothing
rest_adds_nothing start later past written all before score waiting v w rest h =
    let k = rest_keeps start later past written all before score waiting v w rest h in
    (k.added, k.plies)

-- what was seen last, if anything, may be seen at rest
abbrev pub LastStays : Parts → List Entry → Type 0
LastStays p [] = Unit {0}
LastStays p (entry ∷ past) = IsAtRest p entry.picture

pub last_stays : (p : Parts) (past : List Entry) → Valid p → EndsAt p past → LastStays p past
last_stays p [] v h = tt
last_stays p (entry ∷ past) v h = own_stays p entry.picture v h

-- the entries so far, while no move is made
pub record Rests (start : Parts) (moves : List Move) (past : List Entry) : Type 0 where
  pub none : ConfirmNone start (deduplicated past)
  pub kept : (score : Score) (waiting : List Entry) → FoldsRecovering start (deduplicated past) score waiting → IsResting start moves (moves_of score.plies) waiting
  pub last : LastStays (reached start moves) past

rest_again :
    (start : Parts) (moves : List Move) (past : List Entry) (entry : Entry)
    → IsAtRest (reached start moves) entry.picture
    → repeats entry.picture past ≡ true → Rests start moves past → Rests start moves (entry ∷ past)
rest_again start moves past entry stay same r =
    let once : deduplicated (entry ∷ past) ≡ deduplicated past = cond-true (repeats entry.picture past) (deduplicated past) (entry ∷ deduplicated past) same in
    let N : List Entry → Type 0 = λ es. ConfirmNone start es in
    record {
      none = subst N (sym once) r.none;
      kept = λ score waiting f. let F : List Entry → Type 0 = λ es. FoldsRecovering start es score waiting in r.kept score waiting (subst F once f);
      last = stay;
    }

rest_new :
    (start : Parts) (moves : List Move) (past : List Entry) (entry : Entry)
    → Valid start → Played start moves
    → IsAtRest (reached start moves) entry.picture
    → repeats entry.picture past ≡ false → Rests start moves past → Rests start moves (entry ∷ past)
rest_new start moves past entry v played stay new r =
    let once : deduplicated (entry ∷ past) ≡ entry ∷ deduplicated past = cond-false (repeats entry.picture past) (deduplicated past) (entry ∷ deduplicated past) new in
    let N : List Entry → Type 0 = λ es. ConfirmNone start es in
    record {
      none = subst N (sym once)
          (r.none, λ score waiting found f h. stay_confirms start moves (moves_of score.plies) waiting entry.picture found v played (r.kept score waiting f) stay h.1);
      kept = λ score waiting f.
          let F : List Entry → Type 0 = λ es. FoldsRecovering start es score waiting in
          let g : FoldsRecovering start (entry ∷ deduplicated past) score waiting = subst F once f in
          let A : Score → Type 0 = λ x. IsResting start moves (moves_of x.plies) waiting in
          let B : List Entry → Type 0 = λ ws. IsResting start moves (moves_of (score_told start g.0 entry.reading g.2).plies) ws in
          subst A (sym g.5) (subst B (sym g.6) (stay_told start moves g.0 g.1 entry g.2 v played (r.kept g.0 g.1 g.3) stay g.4));
      last = stay;
    }

rest_more :
    (start : Parts) (moves : List Move) (past : List Entry) (entry : Entry)
    → Valid start → Played start moves
    → IsAtRest (reached start moves) entry.picture
    → Rests start moves past → Rests start moves (entry ∷ past)
rest_more start moves past entry v played stay r =
    elim (cases_Bool (repeats entry.picture past)) [
      | inl same ↦ rest_again start moves past entry stay same r
      | inr new ↦ rest_new start moves past entry v played stay new r
    ]

pub rest_all :
    (start : Parts) (moves : List Move) (entries past : List Entry)
    → Valid start → Played start moves
    → AreAtRest (reached start moves) entries
    → Rests start moves past → Rests start moves (reverse_aux entries past)
rest_all start moves [] past v played a r = r
rest_all start moves (entry ∷ more) past v played a r =
    rest_all start moves more (entry ∷ past) v played a.1 (rest_more start moves past entry v played a.0 r)
