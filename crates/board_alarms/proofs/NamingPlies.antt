-- Which ply an alarm names.
use Rattle.std.proofs.Common.{◌≡◌, ◌+◌, ◌-◌, inl, ℕ, List, ◌++◌, Option, Some, refl, ap, ◌∙◌, arith}
use Rattle.board_doubts.specs.declared.heard.Doubt.{Doubt}
use Rattle.board_doubts.specs.declared.stopped_clock.Tried.{Tried}
use Rattle.board_doubts.specs.Clock.{tries_of}
use Rattle.board_doubts.specs.Doubts.{doubt_of}
use Rattle.board_doubts.specs.Unplayed.{unplayed_of}
use Rattle.board_alarms.specs.declared.look.Look.{Look}
use Rattle.board_alarms.specs.declared.look.Look.TheVariants.{Stopped, Unplayed}
use Rattle.board_alarms.specs.Looking.{Has, NamesPlies}
use Rattle.board_alarms.specs.Looks.{doubtful, heard, listed, stopped, unplayed}
use Rattle.board_alarms.proofs.Opening.{in_first, in_second}

has : (look : Look) (one : Option Look) → one ≡ Some look → Has look (listed one)
has look one is = rw is (inl refl)

back : (plies before n : ℕ) → plies ≡ before + n → plies - n ≡ before
back plies before n is = omega (arith, is)

pub names_plies : NamesPlies
names_plies event plies before past =
    let doubts : List Look = listed (doubtful plies (doubt_of event (heard past))) in
    let tried : List Look = listed (stopped plies (tries_of event (heard past))) in
    let last : List Look = listed (unplayed plies (unplayed_of event (heard past))) in (
      (λ (doubt : Doubt) is. in_first _ doubts (tried ++ last) (has _ (doubtful plies (doubt_of event (heard past))) (ap (doubtful plies) is))),
      (λ (moves : Tried) is count.
          in_second (Stopped before moves.moves) doubts (tried ++ last) (
          in_first (Stopped before moves.moves) tried last (has (Stopped before moves.moves) (stopped plies (tries_of event (heard past)))
          (ap (stopped plies) is ∙ ap (λ n. Some (Stopped n moves.moves)) (back plies before moves.plies count))))),
      (λ (moves : Tried) is count.
          in_second (Unplayed before moves.moves) doubts (tried ++ last) (
          in_second (Unplayed before moves.moves) tried last (has (Unplayed before moves.moves) (unplayed plies (unplayed_of event (heard past)))
          (ap (unplayed plies) is ∙ ap (λ n. Some (Unplayed n moves.moves)) (back plies before moves.plies count))))),
    )
