-- The texts that `record` makes are within the limit of `check`.
use Rattle.std.proofs.Common.{◌≤◌, ℕ, List, Option, Some, length, ap, arith, inl, inr, length-append, subst}
use Rattle.board_session.specs.Sizes.{WrittenMovesTakeTenBytes}
use Rattle.chess_game.specs.Games.{Content}
use Rattle.pgn_book.specs.Laws.{TextsAreShort}
use Rattle.pgn_book.specs.Pgn.{Pgn}
use Rattle.text_subcommands.specs.Checked.{RefusesPgn, text_limit}
use Rattle.dgt_replay.specs.Laws.{WrittenTextsAreWithin, WrittenTextsPass}

pub texts_are_within : WrittenMovesTakeTenBytes → TextsAreShort → WrittenTextsAreWithin
texts_are_within ten short setup left =
    let l = left.leaves in
    omega (arith, ten setup left, short l.game l.text l.text_is, l.bounded, ap length l.parts, length-append l.front l.back)

-- An export text within the limit is not refused.
never_refused : (game : Content) (text message : List ℕ) → Pgn game text → length text ≤ text_limit → RefusesPgn (Some text) message → ⊥
never_refused game text message is within (inl (long, says)) = absurd (omega (arith, long, within))
never_refused game text message is within (inr (none, says)) = none.1 game is

pub texts_pass : WrittenMovesTakeTenBytes → TextsAreShort → WrittenTextsPass
texts_pass ten short setup left status s checks is one =
    let refused = checks.tells.refused one in
    let May : Option (List ℕ) → Type 0 = λ input. RefusesPgn input refused.0 in
    never_refused left.leaves.game left.leaves.text refused.0 left.leaves.text_is (texts_are_within ten short setup left) (subst May is refused.1)
