-- What `record` makes of the new capture of a game that got other moves.
use Rattle.std.proofs.Common.{◌≡◌, Bool, true, ℕ, List, Some, false, subst}
use Rattle.board_events.specs.Commands.{past_of}
use Rattle.board_events.specs.Settings.{Setting, setting_of}
use Rattle.dgt_frame.specs.declared.events.Event.{Event}
use Rattle.settle_core.specs.declared.plies.Ply.{Ply}
use Rattle.settle_core.specs.Laws.{FoldsOnce}
use Rattle.settle_core.specs.Settler.{SettlerState, plies_of}
use Rattle.unseen_pairs.specs.Laws.{RecoversOnce}
use Rattle.going_back.specs.Back.{Replaces}
use Rattle.going_back.specs.Laws.{WhatComesIsRecorded}
use Rattle.going_back.specs.Replacing.{IsChangeOf, Wants}
use Rattle.going_back.specs.Telling.{changed_by}
use Rattle.going_back.specs.declared.replacing.Change.{Change}
use Rattle.going_back.specs.declared.replacing.Change.TheVariants as change
use Rattle.going_back.proofs.LawLemmas.{got_so}
use Rattle.dgt_replay.proofs.AgreementLemmas.{ShowsOnce}
use Rattle.dgt_replay.proofs.RecoveredLemmas.{recovered_score}
use Rattle.dgt_replay.specs.GotMoves.{GotMovesIsRecorded, GotMovesIsRecovered}

-- Where there is a new capture, it has these plies.
got_of : (setting : Setting) (recovers : Bool) (past : List Event) (game : SettlerState) (text made : List ℕ) (answer : Change) → IsChangeOf setting recovers past game text answer → Some made ≡ changed_by answer
    → (stays come : ℕ) × (plies : List Ply) × Wants game.start (plies_of game) text stays come plies × ((more : Bool) × Replaces setting recovers past (plies_of game) plies more made)
got_of setting recovers past game text made (change.Replaced bytes stays gone come result) (plies, wants, all, ends, (more, replaces, other)) same =
    let R : List ℕ → Type 0 = λ bs. Replaces setting recovers past (plies_of game) plies more bs in
    let are : bytes.items ≡ made = cc in
    (stays, come, plies, wants, (more, subst R are replaces))
got_of setting recovers past game text made (change.Unplaced nearest) is same = absurd cc
got_of setting recovers past game text made (change.Unsaid said) is same = absurd cc
got_of setting recovers past game text made (change.Old stays come) is same = absurd cc
got_of setting recovers past game text made (change.Refused plies stays error) is same = absurd cc

pub got_moves : WhatComesIsRecorded → GotMovesIsRecorded
got_moves comes setup report capture text made line sent sent' written written' valid (past, game, read, settled, (answer, is, same, said)) r =
    let (stays, come, plies, wants, (more, replaces)) = got_of (setting_of setup) false past game text made answer is same in
    let recorded = comes (setting_of setup) setup.tags r.game past (plies_of game) plies more made r.events r.rest valid replaces r.shows r.game_is in
    (past, game, read, settled, (stays, come, plies, wants, recorded.1))

pub got_moves_recovered : ShowsOnce → FoldsOnce → RecoversOnce → GotMovesIsRecovered
got_moves_recovered shows one once setup report capture text made line woven lines sent sent' written written' valid (past, game, read, settled, (answer, is, same, said)) recovers r =
    let setting = setting_of setup in
    let (stays, come, plies, wants, (more, (shown, g))) = got_of setting true past game text made answer is same in
    let score = recovered_score shows one once setup report made woven lines g.events g.settler.score sent sent' written written' valid g.read g.settled.folds recovers r in
    let recorded = got_so setting true setup.tags r.game past (past_of r.events) (plies_of game) plies more made g r.game_is score in
    (past, game, read, settled, (stays, come, plies, wants, recorded.1))
