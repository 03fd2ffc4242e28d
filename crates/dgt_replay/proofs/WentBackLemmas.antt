-- What `record` makes of the new capture of a game that went back.
use Rattle.std.proofs.Common.{◌≡◌, Bool, true, ℕ, List, Some, false, subst}
use Rattle.board_events.specs.Settings.{Setting, setting_of}
use Rattle.dgt_frame.specs.declared.events.Event.{Event}
use Rattle.settle_core.specs.Settler.{SettlerState, plies_of}
use Rattle.going_back.specs.Answers.{IsAnswerOf}
use Rattle.going_back.specs.Back.{GoesBack}
use Rattle.going_back.specs.Laws.{WhatStaysIsRecorded}
use Rattle.going_back.specs.Naming.{Names}
use Rattle.going_back.specs.Telling.{made_by}
use Rattle.going_back.specs.declared.answering.Answer.{Answer}
use Rattle.going_back.specs.declared.answering.Answer.TheVariants.{Back, Unnamed, Refused}
use Rattle.std.proofs.Common.{take}
use Rattle.settle_core.specs.Laws.{FoldsOnce}
use Rattle.unseen_pairs.specs.Laws.{RecoversOnce}
use Rattle.board_events.specs.Commands.{past_of}
use Rattle.going_back.proofs.LawLemmas.{stays_so}
use Rattle.dgt_replay.proofs.AgreementLemmas.{ShowsOnce}
use Rattle.dgt_replay.proofs.RecoveredLemmas.{recovered_score}
use Rattle.dgt_replay.specs.WentBack.{WentBackIsRecorded, WentBackIsRecovered}

-- Where there is a new capture, so many plies stay.
back_of : (setting : Setting) (recovers : Bool) (past : List Event) (game : SettlerState) (to made : List ℕ) (answer : Answer) → IsAnswerOf setting recovers past game to answer → Some made ≡ made_by answer
    → (k : ℕ) × Names game.start (plies_of game) to k × GoesBack setting recovers past (plies_of game) (take k (plies_of game)) made
back_of setting recovers past game to made (Back bytes stays gone result) is same =
    let B : List ℕ → Type 0 = λ bs. GoesBack setting recovers past (plies_of game) (take stays (plies_of game)) bs in
    let are : bytes.items ≡ made = cc in
    (stays, is.0, subst B are is.3)
back_of setting recovers past game to made (Unnamed nearest) is same = absurd cc
back_of setting recovers past game to made (Refused stays error) is same = absurd cc

pub went_back : WhatStaysIsRecorded → WentBackIsRecorded
went_back stays setup report capture to made line sent sent' written written' valid (past, game, read, settled, (answer, is, same, said)) r =
    let back = back_of (setting_of setup) false past game to made answer is same in
    let recorded = stays (setting_of setup) setup.tags r.game past (plies_of game) (take back.0 (plies_of game)) made r.events r.rest valid back.2 r.shows r.game_is in
    (past, game, back.0, read, settled, back.1, recorded)

pub went_back_recovered : ShowsOnce → FoldsOnce → RecoversOnce → WentBackIsRecovered
went_back_recovered shows one once setup report capture to made line woven text sent sent' written written' valid (past, game, read, settled, (answer, is, same, said)) recovers r =
    let setting = setting_of setup in
    let back = back_of setting true past game to made answer is same in
    let g = back.2.1.1 in
    let score = recovered_score shows one once setup report made woven text g.events g.settler.score sent sent' written written' valid g.read g.settled.folds recovers r in
    let recorded = stays_so setting true setup.tags r.game past (past_of r.events) (plies_of game) (take back.0 (plies_of game)) made back.2 r.game_is score in
    (past, game, back.0, read, settled, back.1, recorded)
