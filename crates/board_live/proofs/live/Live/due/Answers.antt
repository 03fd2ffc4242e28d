use Rattle.std.proofs.Common.{ℕ, Option, IfSome, ap, sym, subst, ◌∙◌}
use Rattle.board_cable.specs.Lasting.{IsBefore}
use Rattle.board_live.specs.Coming.{came}
use Rattle.square_runs.specs.Lasting.{IsBefore as IsBeforeState, earlier}
use Rattle.board_live.specs.Moments.{cabled}
use Rattle.board_cable.specs.Turns.{told}
use Rattle.board_live.specs.Due.{MayChange}
use Rattle.board_live.proofs.TakeLemmas.{game_at, lies_ahead, sooner_both, sooner_changes}
use Rattle.board_live.proofs.live.Live.due.Goals as goal

pub returns-clause-asks : goal.returns-clause-asks
returns-clause-asks c setting recovers past text turns s h later fits from early =
    let B : Option ℕ → Type 0 = λ d. IsBefore later d in
    let known = (sooner_both later c.sooner-known.result c.ends_at-end.result (subst B c.sooner.ensures early)).0 in
    let both = sooner_both later c.due-cable.result c.due-game.result (subst B c.sooner-known.ensures known) in
    c.due-cable.ensures.asks (cabled past) turns s.attends.cable h later fits from both.0

pub returns-clause-handling : goal.returns-clause-handling
returns-clause-handling c setting recovers past text turns s h later fits from early =
    let B : Option ℕ → Type 0 = λ d. IsBefore later d in
    let known = (sooner_both later c.sooner-known.result c.ends_at-end.result (subst B c.sooner.ensures early)).0 in
    let both = sooner_both later c.due-cable.result c.due-game.result (subst B c.sooner-known.ensures known) in
    c.due-cable.ensures.handling (cabled past) turns s.attends.cable h later fits from both.0

pub returns-clause-state : goal.returns-clause-state
returns-clause-state c setting recovers past text turns s h =
    let game = c.due-game.ensures setting recovers (came past turns) text (game_at c.args.self.now setting recovers past text turns s h) in (
      game.0,
      game.1,
      λ later from fits early.
          let B : Option ℕ → Type 0 = λ d. IsBefore later d in
          let E : Option ℕ → Type 0 = λ d. IsBeforeState later d in
          let known = (sooner_both later c.sooner-known.result c.ends_at-end.result (subst B c.sooner.ensures early)).0 in
          let both = sooner_both later c.due-cable.result c.due-game.result (subst B c.sooner-known.ensures known) in
          c.stays_until_due.ensures c.args.now later game.0 from fits (subst E game.2 both.1),
    )

pub returns-clause-end : goal.returns-clause-end
returns-clause-end c setting recovers past text turns s h later end valid le fits early is =
    let has = came past turns in
    let B : Option ℕ → Type 0 = λ d. IsBefore later d in
    let both = sooner_both later c.sooner-known.result c.ends_at-end.result (subst B c.sooner.ensures early) in
    c.end_stays_until_due.ensures setting recovers has c.args.now later c.ends_at-end.result end valid le fits both.1
    (c.ends_at-end.ensures setting recovers has text (game_at c.args.self.now setting recovers past text turns s h)) is

pub returns-clause-changes : goal.returns-clause-changes
returns-clause-changes c setting recovers past text turns s h =
    let game = game_at c.args.self.now setting recovers past text turns s h in
    let D : Option ℕ → Type 0 = λ d. IfSome d (λ due. MayChange setting recovers (came past turns) (told turns) c.args.now due) in
    let K : Option ℕ → Type 0 = λ known. D (earlier known c.ends_at-end.result) in
    subst D (sym c.sooner.ensures) (subst K (sym c.sooner-known.ensures) (sooner_changes setting recovers (came past turns) (told turns) c.args.now c.due-cable.result c.due-game.result c.ends_at-end.result
    (c.due-cable.ensures.changes (cabled past) turns s.attends.cable h)
    (c.due-game.ensures setting recovers (came past turns) text game)
    (c.ends_at-end.ensures setting recovers (came past turns) text game)))

pub returns-clause-wakes : goal.returns-clause-wakes
returns-clause-wakes c setting recovers past text turns s h =
    let game = game_at c.args.self.now setting recovers past text turns s h in
    record {
      cable = c.due-cable.result;
      state = c.due-game.result;
      end = c.ends_at-end.result;
      cable_is = record {
        ahead = lies_ahead c.args.now c.due-cable.result c.due-cable.ensures.later c.count_time.ensures;
        asks = c.due-cable.ensures.asks (cabled past) turns s.attends.cable h;
        handling = c.due-cable.ensures.handling (cabled past) turns s.attends.cable h;
        changes = c.due-cable.ensures.changes (cabled past) turns s.attends.cable h;
      };
      state_is = c.due-game.ensures setting recovers (came past turns) text game;
      end_is = c.ends_at-end.ensures setting recovers (came past turns) text game;
      due_is = c.sooner.ensures ∙ ap (λ known. earlier known c.ends_at-end.result) c.sooner-known.ensures;
    }
