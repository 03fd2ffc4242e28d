use Rattle.std.proofs.Common.{rules, ◌≡◌, true, subst}
use Rattle.board_events.specs.Game.{IsGameOf}
use Rattle.board_game.specs.History.{events_of}
use Rattle.chess_game.specs.Values.{TagValues}
use Rattle.pgn_book.specs.Pgn.{Pgn}
use Rattle.live_lines.specs.Text.{GivesText}
use Rattle.live_lines.proofs.TextLemmas.{gives, map_ok}
use Rattle.live_lines.proofs.text.text_if.Goals as goal

pub returns : goal.returns
returns c = λ setting recovers past report s.
    let wanted : c.args.is_wanted ≡ true = search rules in
    let made = c.session.ensures setting recovers past report s in
    let G : TagValues → Type 0 = λ t. IsGameOf c.in_ok-played.played setting t (events_of made.0) in
    let is = subst G c.in_ok-copy.ensures (c.in_ok-played.ensures setting (events_of made.0) made.2) in
    map_ok c.text_of.result (λ text. Pgn c.in_ok-played.played text.items) (λ text. GivesText c.args.is_wanted setting recovers c.args.tags.now past text.items) c.text_of.ensures
    (λ text pgn. gives c.args.is_wanted setting recovers c.args.tags.now past made.0 c.in_ok-played.played text.items wanted made.1 is pgn)
