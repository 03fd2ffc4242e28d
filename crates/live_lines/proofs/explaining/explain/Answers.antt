use Rattle.std.proofs.Common.{◌≡◌, List, Some, None, subst}
use Rattle.board_events.specs.Session.{entries_in}
use Rattle.board_game.specs.History.{events_of}
use Rattle.chess_rules.specs.declared.parts.Parts.{Parts}
use Rattle.going_back.specs.Proposing.{SaysFit}
use Rattle.settle_core.specs.Entries.{last_picture}
use Rattle.settle_core.specs.Settler.{plies_of}
use Rattle.settle_core.specs.declared.plies.Ply.{Ply}
use Rattle.live_lines.specs.Explaining.{Explains}
use Rattle.live_lines.proofs.ExplainLemmas.{explains_none, explains_some, match_none, match_some}
use Rattle.live_lines.proofs.TextLemmas.{map_ok}
use Rattle.live_lines.proofs.explaining.explain.Goals as goal

pub returns-in_default : goal.returns-in_default
returns-in_default c = λ setting recovers past report s.
    let made = c.seen.ensures setting recovers past report s in
    let all = entries_in setting (events_of made.0) in
    let none = match_none _ (last_picture all ≡ None) (λ seen. last_picture all ≡ Some seen.now) c.in_default.is made.3 in
    explains_none setting recovers past made.0 c.settler-settler.result.now c.new.result.items made.1
    (c.settler-settler.ensures.stands setting (events_of made.0) made.2) none c.new.ensures.items

pub returns : goal.returns
returns c = λ setting recovers past report s.
    let made = c.seen.ensures setting recovers past report s in
    let all = entries_in setting (events_of made.0) in
    let game = c.settler-settler.result.now in
    let seen = match_some _ c.in-Some.seen (last_picture all ≡ None) (λ seen. last_picture all ≡ Some seen.now) c.in-Some.is made.3 in
    map_ok c.say_fit.result (λ line. SaysFit c.start.result.now c.moves.result.now c.in-Some.seen.now line.items) (λ line. Explains setting recovers past line.items)
    c.say_fit.ensures
    (λ line says. explains_some setting recovers past made.0 game c.in-Some.seen.now line.items made.1
    (c.settler-settler.ensures.stands setting (events_of made.0) made.2) seen
    (subst (λ (p : Parts). SaysFit p (plies_of game) c.in-Some.seen.now line.items) c.start.ensures
    (subst (λ (plies : List Ply). SaysFit c.start.result.now plies c.in-Some.seen.now line.items) c.moves.ensures.plies says)))
