-- The game of the new capture.
use Rattle.std.proofs.Common.{◌≡◌, ◌⊎◌, ℕ, Bool, true, false, List, Option, None, Some, inl, inr, reverse, refl, sym, subst, ap, ◌∙◌}
use Rattle.std.proofs.lemmas.List.{reverse-reverse}
use Rattle.chess_rules.specs.declared.parts.Parts.{Parts}
use Rattle.dgt_frame.specs.declared.events.Event.{Event}
use Rattle.chess_rules.specs.Valid.{Valid}
use Rattle.dgt_frame.specs.Streams.{Shows, Timed}
use Rattle.settle_core.specs.declared.plies.Outcome.{Outcome}
use Rattle.settle_core.specs.declared.plies.Ply.{Ply}
use Rattle.settle_core.specs.Entries.{deduplicated}
use Rattle.settle_core.specs.Folding.{Folds, Score, moves_of, score_of}
use Rattle.settle_core.specs.GameResult.{IsResult}
use Rattle.settle_core.specs.Laws.{FoldsOnce}
use Rattle.settle_core.specs.Settler.{plies_of}
use Rattle.chess_game.specs.Games.{Content}
use Rattle.chess_game.specs.Values.{TagValues}
use Rattle.board_events.specs.Commands.{past_of}
use Rattle.board_events.specs.Game.{IsGameOf}
use Rattle.board_events.specs.Settings.{Setting}
use Rattle.board_events.specs.Session.{entries_in}
use Rattle.going_back.specs.Back.{EndsSo, Gives, GoesBack, HasOneMore, HasPlies}
use Rattle.unseen_pairs.specs.Pairs.{Explains, IsExplained}
use Rattle.going_back.specs.Laws.{WhatComesIsRecorded, WhatStaysIsRecorded, WhatWentStaysAway}

none_is_some : {P : Type 0} (outcome : Outcome) → None ≡ Some outcome → P
none_is_some outcome h = absurd cc

-- where the position ends no game, the result is the sign
no_result : (p : Parts) (sign result : Option Outcome) → sign ≡ None → IsResult p None None → IsResult p sign result → result ≡ None
no_result p sign result none h k =
    k.running (λ m. none_is_some _ (h.mated m)) (λ s. none_is_some _ (h.stale s)) ∙ none

-- A game with the score of the new capture has its plies.
pub plies_are : (setting : Setting) (recovers : Bool) (tags : TagValues) (game : Content) (past others : List Event) (old plies : List Ply) (more : Bool) (made : List ℕ)
    → (g : Gives setting recovers past old plies more made) → (k : IsGameOf game setting tags others) → g.settler.score ≡ score_of game.plies k.sign → game.plies ≡ plies_of g.settler
plies_are setting recovers tags game past others old plies more made g k score-is =
    sym (reverse-reverse game.plies) ∙ ap (λ (xs : List Ply). reverse xs) (sym (ap (λ (s : Score). s.plies) score-is))

-- It has no result, where the position in which it stands ends no game.
no_result_in : (setting : Setting) (recovers : Bool) (tags : TagValues) (game : Content) (past others : List Event) (old stay : List Ply) (more : Bool) (made : List ℕ)
    → (g : Gives setting recovers past old stay more made) → EndsSo setting stay None → (k : IsGameOf game setting tags others) → g.settler.score ≡ score_of game.plies k.sign
    → game.plies ≡ stay → game.result ≡ None
no_result_in setting recovers tags game past others old stay more made g ends k score-is are =
    let sign-is : k.sign ≡ None = sym (ap (λ (s : Score). s.sign) score-is) ∙ g.sign in
    let R : List Ply → Type 0 = λ xs. EndsSo setting xs None in
    no_result _ k.sign game.result sign-is (subst R (sym are) ends) k.result_is

stays_by : (setting : Setting) (recovers : Bool) (tags : TagValues) (game : Content) (past others : List Event) (old stay : List Ply) (more : Bool) (made : List ℕ)
    → (g : Gives setting recovers past old stay more made) → EndsSo setting stay None → (k : IsGameOf game setting tags others) → g.settler.score ≡ score_of game.plies k.sign
    → HasPlies g.settler old stay more → ((game.plies ≡ stay) × (game.result ≡ None)) ⊎ HasOneMore old stay game.plies
stays_by setting recovers tags game past others old stay false made g ends k score-is same =
    let are = plies_are setting recovers tags game past others old stay false made g k score-is ∙ same in
    inl (are, no_result_in setting recovers tags game past others old stay false made g ends k score-is are)
stays_by setting recovers tags game past others old stay true made g ends k score-is one =
    let O : List Ply → Type 0 = λ all. HasOneMore old stay all in
    inr (subst O (sym (plies_are setting recovers tags game past others old stay true made g k score-is)) one)

pub stays_so : (setting : Setting) (recovers : Bool) (tags : TagValues) (game : Content) (past others : List Event) (old stay : List Ply) (made : List ℕ)
    → (back : GoesBack setting recovers past old stay made) → (k : IsGameOf game setting tags others) → back.1.1.settler.score ≡ score_of game.plies k.sign
    → ((game.plies ≡ stay) × (game.result ≡ None)) ⊎ HasOneMore old stay game.plies
stays_so setting recovers tags game past others old stay made back k score-is =
    stays_by setting recovers tags game past others old stay back.0 made back.1.1 back.2 k score-is back.1.1.front

-- The new capture gives one score.
pub score_is : ((bytes : List ℕ) (events others : List Timed) (rest other : ℕ) → Shows bytes events rest → Shows bytes others other → (events ≡ others) × (rest ≡ other))
    → FoldsOnce → (setting : Setting) (tags : TagValues) (game : Content) (past : List Event) (old plies : List Ply) (more : Bool) (made : List ℕ) (events : List Timed) (rest : ℕ)
    → Valid setting.start → (g : Gives setting false past old plies more made) → Shows made events rest → (k : IsGameOf game setting tags (past_of events))
    → g.settler.score ≡ score_of game.plies k.sign
score_is once folds setting tags game past old plies more made events rest valid g shown k =
    let (timed, rest', shown', same) = g.read.0 in
    let events-are : g.events ≡ past_of events = same ∙ ap past_of (once made timed events rest' rest shown' shown).0 in
    let F : List Event → Type 0 = λ es. Folds setting.start (deduplicated (entries_in setting es)) g.settler.score in
    folds setting.start (deduplicated (entries_in setting (past_of events))) g.settler.score (score_of game.plies k.sign) valid (subst F events-are g.settled.folds) k.folds

comes_by : (setting : Setting) (recovers : Bool) (tags : TagValues) (game : Content) (past others : List Event) (old plies : List Ply) (more : Bool) (made : List ℕ)
    → (g : Gives setting recovers past old plies more made) → (k : IsGameOf game setting tags others) → g.settler.score ≡ score_of game.plies k.sign
    → HasPlies g.settler old plies more → (game.plies ≡ plies) ⊎ HasOneMore old plies game.plies
comes_by setting recovers tags game past others old plies false made g k score-is same =
    inl (plies_are setting recovers tags game past others old plies false made g k score-is ∙ same)
comes_by setting recovers tags game past others old plies true made g k score-is one =
    let O : List Ply → Type 0 = λ all. HasOneMore old plies all in
    inr (subst O (sym (plies_are setting recovers tags game past others old plies true made g k score-is)) one)

-- A game with the score of the new capture has its plies, or one more, and no sign of a result.
pub got_so : (setting : Setting) (recovers : Bool) (tags : TagValues) (game : Content) (past others : List Event) (old plies : List Ply) (more : Bool) (made : List ℕ)
    → (g : Gives setting recovers past old plies more made) → (k : IsGameOf game setting tags others) → g.settler.score ≡ score_of game.plies k.sign
    → (k.sign ≡ None) × ((game.plies ≡ plies) ⊎ HasOneMore old plies game.plies)
got_so setting recovers tags game past others old plies more made g k score-is = (
  sym (ap (λ (s : Score). s.sign) score-is) ∙ g.sign,
  comes_by setting recovers tags game past others old plies more made g k score-is g.front,
)

pub comes_so : ((bytes : List ℕ) (events others : List Timed) (rest other : ℕ) → Shows bytes events rest → Shows bytes others other → (events ≡ others) × (rest ≡ other))
    → FoldsOnce → WhatComesIsRecorded
comes_so once folds = λ setting tags game past old plies more made events rest valid (is, g) shown k.
    got_so setting false tags game past (past_of events) old plies more made g k (score_is once folds setting tags game past old plies more made events rest valid g shown k)

pub recorded_so : ((bytes : List ℕ) (events others : List Timed) (rest other : ℕ) → Shows bytes events rest → Shows bytes others other → (events ≡ others) × (rest ≡ other))
    → FoldsOnce → WhatStaysIsRecorded
recorded_so once folds = λ setting tags game past old stay made events rest valid back shown k.
    let score = score_is once folds setting tags game past old stay back.0 made events rest valid back.1.1 shown k in
    stays_so setting false tags game past (past_of events) old stay made back k score

pub stays_away : WhatWentStaysAway
stays_away setting past old stay made shown waiting seen r place entry back last confirms explains same =
    let g = back.1.1 in
    let E : List ℕ → Type 0 = λ picture. Explains setting.start (moves_of g.settler.score.plies) picture r.pair in
    let P : List Ply → Type 0 = λ xs. IsExplained setting.start (moves_of xs) shown in
    g.no_pair refl (shown, last, subst P (sym (reverse-reverse g.settler.score.plies)) (r.pair, subst E same explains.explains))
