use Rattle.std.proofs.Common.{rules, ◌≡◌, ◌++◌}
use Rattle.pgn_book.specs.Movetext.{number_token}
use Rattle.board_listing.proofs.SquareLemmas.{words_added}
use Rattle.board_listing.proofs.game_lines.add_ply.Goals as goal

pub returns-clause-told : goal.returns-clause-told
returns-clause-told c =
    let written : c.add-4.new.lines.items ≡ c.add-3.new.lines.items ++ c.write_san.result.bytes = search rules in
    let number : c.add_move_number.new.lines.items ≡ c.add-2.new.lines.items ++ number_token c.args.position.now.side c.args.position.now.fullmove = search rules in (
      c.write_san.result.bytes,
      c.write_san.ensures.san,
      words_added _ _ _ _ _ _ _ _ _ _ _ _ _ _ _ _ c.add_offset.ensures.items c.add.ensures.items c.add-2.ensures.items number
          c.add-3.ensures.items written c.add_clock.ensures.items c.add-5.ensures.items,
    )
