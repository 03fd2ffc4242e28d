use Rattle.std.proofs.Common.{ℕ, List, [], ◌∷◌, None, sym, subst, ◌∙◌}
use Rattle.dgt_frame.specs.declared.events.Event.{Event}
use Rattle.pair_frames.specs.PutIn.{ShowsWhole, dump_of}
use Rattle.pair_frames.proofs.Joining.{nothing_shown}
use Rattle.board_captures.specs.Shown.{game_shown, plies_shown}
use Rattle.board_captures.proofs.ShownLemmas.{game_none, game_some}
use Rattle.board_captures.proofs.showing.show_game.Goals.{then-not-is_empty+in_ok-add_dump+in_ok-add_plies, else-not-is_empty}
use Rattle.board_captures.proofs.showing.show_game.Goals as goal

pub returns-clause-shows : goal.returns-clause-shows
returns-clause-shows c =
    let first = c.args.first in
    let rotated = c.args.rotated in
    let start = c.args.start.now in
    let plies = c.args.plies.now in
    let G : List ℕ → Type 0 = λ xs. ShowsWhole xs (game_shown first rotated start plies) in
    let W : List ℕ → Type 0 = λ xs. ShowsWhole xs [] in
    let s0 = subst W (sym c.new-bytes.ensures.items) nothing_shown in
    let game : G c.if-not-is_empty.bytes.items = elim c.if-not-is_empty.branch [
      | then-not-is_empty+in_ok-add_dump+in_ok-add_plies w ↦
          let s1 = w.in_ok-add_dump.ensures.shows [] s0 in
          let s2 = w.in_ok-add_plies.ensures.shows _ s1 in
          let E : List Event → Type 0 = λ es. ShowsWhole w.add_plies.new.out.items es in
          let D : List ℕ → Type 0 = λ seen. ShowsWhole w.add_plies.new.out.items (dump_of rotated seen ∷ plies_shown first rotated start None plies) in
          let s3 = subst D w.picture.ensures.shown s2 in
          let s4 = subst E (sym (game_some first rotated start plies (sym c.is_empty.ensures ∙ w.if-not-is_empty.true))) s3 in
          rw w.bytes-is s4
      | else-not-is_empty w ↦
          let E : List Event → Type 0 = λ es. ShowsWhole c.new-bytes.result.items es in
          rw w.bytes-is (subst E (sym (game_none first rotated start plies (sym c.is_empty.ensures ∙ w.if-not-is_empty.false))) s0)
    ] in
    c.in_ok-add_board.ensures.shows _ game
