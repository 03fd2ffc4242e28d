-- What explains a board.
use Rattle.std.proofs.Common.{◌≡◌, ◌∙◌, ℕ, Bool, List, [], Option, Some, None, sym, subst}
use Rattle.std.specs.Prelude.{MatchOption}
use Rattle.board_events.specs.Session.{entries_in}
use Rattle.board_events.specs.Settings.{Setting}
use Rattle.board_game.specs.History.{Came, Item, Makes, events_of}
use Rattle.board_standing.specs.declared.state.Kind.{Kind}
use Rattle.board_standing.specs.declared.state.Kind.TheVariants.{Wrong}
use Rattle.board_standing.specs.declared.state.State.{State}
use Rattle.going_back.specs.Proposing.{SaysFit}
use Rattle.settle_core.specs.Entries.{last_picture}
use Rattle.settle_core.specs.Settler.{SettlerState, HasSettled, plies_of}
use Rattle.live_lines.specs.Explaining.{Explains, ExplainsIf, ExplainsSaid, SaysFitOf}

pub match_none : {A : Type 0} (o : Option A) (P : Type 0) (Q : A → Type 0) → o ≡ None → MatchOption o P Q → P
match_none None P Q e h = h
match_none (Some a) P Q e h = absurd cc

pub match_some : {A : Type 0} (o : Option A) (a : A) (P : Type 0) (Q : A → Type 0) → o ≡ Some a → MatchOption o P Q → Q a
match_some None a P Q e h = absurd cc
match_some (Some b) a P Q e h = let same : b ≡ a = cc in subst Q same h

explains : (setting : Setting) (recovers : Bool) (past : List Came) (items : List Item) (game : SettlerState) (last : Option (List ℕ)) (line : List ℕ)
    → Makes setting recovers past items → HasSettled game setting.start (entries_in setting (events_of items)) → last_picture (entries_in setting (events_of items)) ≡ last
    → SaysFitOf game.start (plies_of game) last line → Explains setting recovers past line
explains setting recovers past items game last line makes settled is says =
    let L : Option (List ℕ) → Type 0 = λ x. SaysFitOf game.start (plies_of game) x line in
    (items, game, makes, settled, subst L (sym (settled.last ∙ is)) says)

pub explains_none : (setting : Setting) (recovers : Bool) (past : List Came) (items : List Item) (game : SettlerState) (line : List ℕ)
    → Makes setting recovers past items → HasSettled game setting.start (entries_in setting (events_of items)) → last_picture (entries_in setting (events_of items)) ≡ None
    → line ≡ [] → Explains setting recovers past line
explains_none setting recovers past items game line makes settled is says = explains setting recovers past items game None line makes settled is says

pub explains_some : (setting : Setting) (recovers : Bool) (past : List Came) (items : List Item) (game : SettlerState) (seen line : List ℕ)
    → Makes setting recovers past items → HasSettled game setting.start (entries_in setting (events_of items))
    → last_picture (entries_in setting (events_of items)) ≡ Some seen → SaysFit game.start (plies_of game) seen line → Explains setting recovers past line
explains_some setting recovers past items game seen line makes settled is says = explains setting recovers past items game (Some seen) line makes settled is says

pub said_wrong : (said : Option State) (state : State) (setting : Setting) (recovers : Bool) (past : List Came) (line : List ℕ) → said ≡ Some state → state.kind ≡ Wrong
    → Explains setting recovers past line → ExplainsSaid said setting recovers past line
said_wrong said state setting recovers past line is wrong h =
    let K : Kind → Type 0 = λ k. ExplainsIf k setting recovers past line in
    let S : Option State → Type 0 = λ x. ExplainsSaid x setting recovers past line in
    subst S (sym is) (subst K (sym wrong) h)
