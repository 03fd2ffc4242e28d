use Rattle.std.proofs.Common.{◌++◌, ◌∷◌, ◌∙◌, ap, append_assoc, codes, decimal, map}
use Rattle.std.specs.List.{flat_map}
use Rattle.board_listing.specs.EventLines.{hex_digit, two_hex_digits}
use Rattle.board_listing.proofs.RangeLemmas.{codes_in}
use Rattle.board_listing.proofs.events.add_message.Goals as goal

pub returns-in-Update-clause-items : goal.returns-in-Update-clause-items
returns-in-Update-clause-items c =
    let lines = c.args.lines.now.items in
    let field = codes "update " ++ decimal c.in-Update.field in
    rw (c.in-Update.is, c.add_number-in-Update.ensures.items, c.push.ensures.items, c.add_number.ensures.items, c.add-in-Update.ensures.items, c.from.ensures, c.from-in-Update.ensures)
    (ap (λ text. text ++ codes " " ++ decimal c.in-Update.code) (append_assoc lines (codes "update ") (decimal c.in-Update.field))
    ∙ ap (λ text. text ++ decimal c.in-Update.code) (append_assoc lines field (codes " "))
    ∙ append_assoc lines (field ++ codes " ") (decimal c.in-Update.code))

pub add_codes-requires-clause-codes : goal.add_codes-requires-clause-codes
add_codes-requires-clause-codes c = codes_in c.args.message.now c.in-Dump.pieces c.in-Dump.is c.requires.frame

pub returns-in-Dump-clause-items : goal.returns-in-Dump-clause-items
returns-in-Dump-clause-items c =
    rw (c.in-Dump.is, c.add_codes.ensures.items, c.add.ensures.items) (append_assoc c.args.lines.now.items (codes "dump ") (map hex_digit c.in-Dump.pieces))

pub returns-in-Time-clause-items : goal.returns-in-Time-clause-items
returns-in-Time-clause-items c =
    rw (c.in-Time.is, c.add_times.ensures.items, c.add-in-Time.ensures.items) (append_assoc c.args.lines.now.items (codes "time") (flat_map (λ byte. 32 ∷ two_hex_digits byte) c.in-Time.times))
