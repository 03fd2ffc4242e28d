-- Plies that are thought about on the other side's time.
use Rattle.std.proofs.Common.{◌≡◌, ◌&&◌, not, ℕ, Bool, true, false, List, [], ◌∷◌, Option, Some, None, take, refl, sym, ap, ◌∙◌}
use Rattle.std.specs.Prelude.{if◌then◌else◌, is_some}
use Rattle.std.proofs.lemmas.Bool.{true≢false}
use Rattle.board_doubts.specs.declared.heard.Event.{Event}
use Rattle.board_doubts.specs.declared.heard.Heard.{Heard}
use Rattle.board_doubts.specs.declared.heard.Heard.TheVariants.{Plays}
use Rattle.board_doubts.specs.declared.heard.Place.TheVariants.{AtLast}
use Rattle.board_doubts.specs.declared.heard.Ply.{Ply}
use Rattle.board_doubts.specs.declared.heard.Why.{Why}
use Rattle.board_doubts.specs.declared.heard.Why.TheVariants.{TakenBack, Unpressed, OtherTime}
use Rattle.board_doubts.specs.Doubts.{doubt_by, doubted, is_on, takes_back, why_played}
use Rattle.board_doubts.specs.Meaning.{SeventhLentPlyIsDoubted, lent_times}
use Rattle.board_doubts.specs.Presses.{counts_now, is_left_by, unpressed}
use Rattle.board_doubts.specs.Thinking.{are_most_lent, is_exchanged, is_other, known_counting, lent, lent_by}
use Rattle.board_doubts.proofs.Reasons.{not_other_time}

other : (black : Bool) → is_other (not black) black ≡ true
other true = refl
other false = refl

-- Such a ply is listed as lent.
listed : (what : Heard) (ply : Ply) (black : Bool) (counts : Option Bool) (before : List Bool) → what ≡ Plays ply → counts ≡ Some (not black) → ply.black ≡ black
    → lent_by what false counts before ≡ true ∷ before
listed what ply black counts before plays is side =
    ap (λ w. lent_by w false counts before) plays ∙ ap (λ o. lent_by (Plays ply) false o before) is
    ∙ ap (λ b. is_other (not black) b ∷ before) side ∙ ap (λ b. b ∷ before) (other black)

some_if : (back left lent : Bool) → lent ≡ true
    → is_some (doubted AtLast (if back then Some TakenBack else if left then Some Unpressed else if lent then Some OtherTime else None)) ≡ true
some_if true left lent h = refl
some_if false true lent h = refl
some_if false false true h = refl
some_if false false false h = absurd (true≢false (sym h))

pub seventh_lent_ply_is_doubted : SeventhLentPlyIsDoubted
seventh_lent_ply_is_doubted event ply black past plies on plays own counts side =
    let what : Heard = event.what in
    let with_it : lent_by what false (known_counting past) (lent past) ≡ true ∷ lent past =
    listed what ply black (known_counting past) (lent past) plays counts side in
    let exchanged : is_exchanged what past ≡ (are_most_lent (true ∷ lent past) && not (are_most_lent (lent past))) =
    ap (λ (l : List Bool). are_most_lent l && not (are_most_lent (lent past))) with_it in (
      (λ six.
          let so : is_exchanged what past ≡ true = exchanged ∙ ap (λ (l : List Bool). are_most_lent (true ∷ l) && not (are_most_lent l)) six in
          ap (λ b. is_some (if b then None else doubt_by what event.at past)) own ∙ ap (λ w. is_some (doubt_by w event.at past)) plays
          ∙ ap (λ b. is_some (doubted AtLast (if b then why_played (Plays ply) past else None))) on
          ∙ some_if (takes_back (Plays ply) past) (is_left_by (Plays ply) (counts_now past) (unpressed past)) (is_exchanged (Plays ply) past)
          (sym (ap (λ w. is_exchanged w past) plays) ∙ so)),
      (λ five. not_other_time event past (exchanged ∙ ap (λ (l : List Bool). are_most_lent (true ∷ l) && not (are_most_lent l)) five)),
    )
