-- What is written follows from what was told.
use Rattle.std.proofs.Common.{◌≡◌, ℕ, Bool, true, false, List, [], ◌∷◌, reverse, Option, Some, None, sym, ap, subst, ◌∙◌}
use Rattle.std.proofs.lemmas.List.{reverse-reverse}
use Rattle.chess_rules.specs.Valid.{Valid}
use Rattle.dgt_frame.specs.declared.events.Event.{Event}
use Rattle.chess_rules.specs.declared.parts.Parts.{Parts}
use Rattle.settle_core.specs.declared.plies.Ply.{Ply}
use Rattle.settle_core.specs.Entries.{Entry, deduplicated}
use Rattle.settle_core.specs.Folding.{Score, moves_of, score_of}
use Rattle.settle_core.specs.Settler.{SettlerState, HasSettled, plies_of}
use Rattle.settle_core.specs.Settling.{Line, position_after}
use Rattle.settle_core.proofs.Once.{folds_once}
use Rattle.chess_game.specs.Games.{Content, Result}
use Rattle.chess_game.specs.Values.{TagValues}
use Rattle.unseen_pairs.specs.Laws.{RecoversOnce}
use Rattle.board_cable.specs.Keeping.{kept}
use Rattle.board_cable.specs.Laws.{IsToldOnce}
use Rattle.board_cable.specs.Turns.{Turn}
use Rattle.board_events.specs.declared.setup.Setup.{Setup}
use Rattle.board_events.specs.Game.{IsGameOf}
use Rattle.board_events.specs.Session.{entries_in}
use Rattle.board_events.specs.Settings.{Setting, setting_of}
use Rattle.board_events.proofs.GameLemmas.{one_result}
use Rattle.board_game.specs.History.{Came, Item, events_of}
use Rattle.board_game.proofs.OnceLemmas.{makes_once}
use Rattle.board_game.proofs.PlainLemmas.{ShowsOnce}
use Rattle.board_live.specs.declared.live.Answer.{Answer}
use Rattle.board_live.specs.Coming.{came}
use Rattle.board_live.specs.Laws.{WakesOnce}
use Rattle.board_live.specs.Once.{IsAnsweredOnce}
use Rattle.board_live.specs.Moments.{Moment, cabled}
use Rattle.board_alarms.specs.declared.look.Look.{Look}
use Rattle.board_standing.specs.declared.state.Kind.{Kind}
use Rattle.board_standing.specs.declared.state.Kind.TheVariants.{Waits, Agrees, Ended, InHand, Wrong, NoStart, SettingUp, Silent, Unplugged}
use Rattle.board_standing.specs.declared.state.State.{State}
use Rattle.going_back.specs.Laws.{FitIsOne}
use Rattle.going_back.proofs.TellLemmas.{settled_line}
use Rattle.pgn_book.specs.Laws.{GamesTellTexts}
use Rattle.pgn_book.specs.Pgn.{Pgn}
use Rattle.pgn_book.proofs.OneText.{same_game}
use Rattle.live_lines.specs.Answers.{answer_text}
use Rattle.live_lines.specs.Entries.{brings_capture, wants_text}
use Rattle.live_lines.specs.Heard.{Heard}
use Rattle.live_lines.specs.Meaning.{moment_of, moments, time_of}
use Rattle.live_lines.specs.Explaining.{ExplainsIf, ExplainsSaid, SaysFitOf}
use Rattle.live_lines.specs.Once.{HasOneAnswer, HasOneText, IsExplainedOnce}
use Rattle.live_lines.specs.Recorder.{IsAnsweredBy, IsSaidOf}
use Rattle.live_lines.specs.Text.{GivesText}

-- ---- one text

game_once : (setting : Setting) (tags : TagValues) (past : List Event) (one other : Content) → Valid setting.start → IsGameOf one setting tags past
    → IsGameOf other setting tags past → one ≡ other
game_once setting tags past one other valid h k =
    let score = folds_once setting.start (deduplicated (entries_in setting past)) (score_of one.plies h.sign) (score_of other.plies k.sign) valid h.folds k.folds in
    let plies : one.plies ≡ other.plies = sym (reverse-reverse one.plies) ∙ ap (λ (s : Score). reverse s.plies) score ∙ reverse-reverse other.plies in
    let sign : h.sign ≡ k.sign = ap (λ (s : Score). s.sign) score in
    let result : Result setting.start one.plies k.sign other.result = rw plies k.result_is in
    same_game one other (h.tags_are ∙ sym k.tags_are) (h.start_is ∙ sym k.start_is) plies
    (one_result (position_after setting.start (moves_of one.plies)) k.sign one.result other.result (rw (← sign) h.result_is) result)

pub one_text : ShowsOnce → RecoversOnce → GamesTellTexts → HasOneText
one_text shows recovers_once texts setting recovers tags past one other valid g h =
    let items : g.0 ≡ h.0 = makes_once shows recovers_once setting recovers past g.0 h.0 valid g.2 h.2 in
    let G : List Item → Type 0 = λ all. IsGameOf g.1 setting tags (events_of all) in
    let game : g.1 ≡ h.1 = game_once setting tags (events_of h.0) g.1 h.1 valid (subst G items g.3) h.3 in
    let P : Content → Type 0 = λ c. Pgn c one in
    texts h.1 one other (subst P game g.4) h.4

given_once : HasOneText → (wants : Bool) (setting : Setting) (recovers : Bool) (tags : TagValues) (past : List Came) (one other : List ℕ) → Valid setting.start
    → GivesText wants setting recovers tags past one → GivesText wants setting recovers tags past other → one ≡ other
given_once texts true setting recovers tags past one other valid g h = texts setting recovers tags past one other valid g h
given_once texts false setting recovers tags past one other valid g h = g ∙ sym h

-- ---- one explanation

said_once : FitIsOne → (start : Parts) (plies : List Ply) (last : Option (List ℕ)) (one other : List ℕ) → Valid start → Line start (moves_of plies)
    → SaysFitOf start plies last one → SaysFitOf start plies last other → one ≡ other
said_once fit start plies None one other valid line g h = g ∙ sym h
said_once fit start plies (Some seen) one other valid line g h = fit start plies seen one other valid line g h

same_explained : FitIsOne → (start : Parts) (past : List Entry) (a b : SettlerState) (one other : List ℕ) → Valid start → HasSettled a start past → HasSettled b start past
    → SaysFitOf a.start (plies_of a) a.last one → SaysFitOf b.start (plies_of b) b.last other → one ≡ other
same_explained fit start past a b one other valid s t g h =
    let score : a.score ≡ b.score = folds_once start (deduplicated past) a.score b.score valid s.folds t.folds in
    let plies : plies_of a ≡ plies_of b = ap (λ (x : Score). reverse x.plies) score in
    let last : a.last ≡ b.last = s.last ∙ sym t.last in
    let A : Parts → Type 0 = λ p. SaysFitOf p (plies_of a) a.last one in
    let P : List Ply → Type 0 = λ xs. SaysFitOf start xs a.last one in
    let L : Option (List ℕ) → Type 0 = λ x. SaysFitOf start (plies_of b) x one in
    let B : Parts → Type 0 = λ p. SaysFitOf p (plies_of b) b.last other in
    said_once fit start (plies_of b) b.last one other valid (settled_line b start past t) (subst L last (subst P plies (subst A s.start_is g))) (subst B t.start_is h)

pub explained_once : ShowsOnce → RecoversOnce → FitIsOne → IsExplainedOnce
explained_once shows recovers_once fit setting recovers past one other valid g h =
    let items : g.0 ≡ h.0 = makes_once shows recovers_once setting recovers past g.0 h.0 valid g.2 h.2 in
    let G : List Item → Type 0 = λ all. HasSettled g.1 setting.start (entries_in setting (events_of all)) in
    same_explained fit setting.start (entries_in setting (events_of h.0)) g.1 h.1 one other valid (subst G items g.3) h.3 g.4 h.4

kind_once : IsExplainedOnce → (kind : Kind) (setting : Setting) (recovers : Bool) (past : List Came) (one other : List ℕ) → Valid setting.start
    → ExplainsIf kind setting recovers past one → ExplainsIf kind setting recovers past other → one ≡ other
kind_once once Wrong setting recovers past one other valid g h = once setting recovers past one other valid g h
kind_once once Waits setting recovers past one other valid g h = g ∙ sym h
kind_once once Agrees setting recovers past one other valid g h = g ∙ sym h
kind_once once Ended setting recovers past one other valid g h = g ∙ sym h
kind_once once InHand setting recovers past one other valid g h = g ∙ sym h
kind_once once NoStart setting recovers past one other valid g h = g ∙ sym h
kind_once once SettingUp setting recovers past one other valid g h = g ∙ sym h
kind_once once Silent setting recovers past one other valid g h = g ∙ sym h
kind_once once Unplugged setting recovers past one other valid g h = g ∙ sym h

fits_once : IsExplainedOnce → (said : Option State) (setting : Setting) (recovers : Bool) (past : List Came) (one other : List ℕ) → Valid setting.start
    → ExplainsSaid said setting recovers past one → ExplainsSaid said setting recovers past other → one ≡ other
fits_once once None setting recovers past one other valid g h = g ∙ sym h
fits_once once (Some state) setting recovers past one other valid g h = kind_once once state.kind setting recovers past one other valid g h

-- ---- one answer

-- This is said at the last of these turns.
abbrev IsSaidAt : Setup → Bool → Heard → List Heard → List ℕ → List ℕ → List Turn → Type 0
IsSaidAt setup recovers heard past more said [] = ⊥
IsSaidAt setup recovers heard past more said (turn ∷ turns) = IsSaidOf setup recovers heard past turn turns more said

said_same : HasOneText → IsExplainedOnce → IsAnsweredOnce → WakesOnce → (setup : Setup) (recovers : Bool) (heard : Heard) (past : List Heard) (t : Turn) (ts : List Turn)
    (more said other : List ℕ) → Valid (setting_of setup).start → IsSaidOf setup recovers heard past t ts more said → IsSaidOf setup recovers heard past t ts more other
    → said ≡ other
said_same texts explained once wakes setup recovers heard past t ts more said other valid g h =
    let now : ℕ = time_of heard past in
    let ms : List Moment = moment_of heard past ∷ moments past in
    let has : List Came = came ms (t ∷ ts) in
    let k : List ℕ = kept (t ∷ ts) in
    let both = once (setting_of setup) recovers ms (t ∷ ts) g.answer h.answer g.looks h.looks valid (g.answers, g.alarms) (h.answers, h.alarms) in
    let game : g.game ≡ h.game = given_once texts (wants_text heard.entry.what) (setting_of setup) recovers setup.tags has g.game h.game valid g.gives h.gives in
    let E : Option State → Type 0 = λ x. ExplainsSaid x (setting_of setup) recovers has g.fits in
    let fits : g.fits ≡ h.fits = fits_once explained h.answer.state (setting_of setup) recovers has g.fits h.fits valid
    (subst E (ap (λ (x : Answer). x.state) both.0) g.explains) h.explains in
    let due : g.due ≡ h.due = wakes (setting_of setup) recovers ms (t ∷ ts) now g.due h.due valid g.wakes h.wakes in
    g.text ∙ ap (λ (x : Answer). answer_text now x k more g.fits g.game g.looks g.due) both.0
    ∙ ap (λ (x : List ℕ). answer_text now h.answer k more x g.game g.looks g.due) fits
    ∙ ap (λ (x : List ℕ). answer_text now h.answer k more h.fits x g.looks g.due) game
    ∙ ap (λ (x : List Look). answer_text now h.answer k more h.fits h.game x g.due) both.1
    ∙ ap (λ (x : Option ℕ). answer_text now h.answer k more h.fits h.game h.looks x) due ∙ sym h.text

answered_by : IsToldOnce → HasOneText → IsExplainedOnce → IsAnsweredOnce → WakesOnce → (capture : Bool) (setup : Setup) (recovers : Bool) (heard : Heard) (past : List Heard)
    (more said other : List ℕ) → Valid (setting_of setup).start → IsAnsweredBy capture setup recovers heard past more said
    → IsAnsweredBy capture setup recovers heard past more other → said ≡ other
answered_by tells texts explained once wakes true setup recovers heard past more said other valid g h = g ∙ sym h
answered_by tells texts explained once wakes false setup recovers heard past more said other valid (t, ts, happened, g) (u, us, told, h) =
    let same : u ∷ us ≡ t ∷ ts = tells (cabled (moment_of heard past ∷ moments past)) (u ∷ us) (t ∷ ts) told happened in
    said_same texts explained once wakes setup recovers heard past t ts more said other valid g (subst (IsSaidAt setup recovers heard past more other) same h)

pub one_answer : IsToldOnce → HasOneText → IsExplainedOnce → IsAnsweredOnce → WakesOnce → HasOneAnswer
one_answer tells texts explained once wakes setup recovers heard past more said other valid g h =
    answered_by tells texts explained once wakes (brings_capture heard.entry.what) setup recovers heard past more said other valid g h
