-- One thing is said to an event.
use Rattle.std.proofs.Common.{◌≡◌, ◌-◌, Bool, List, Option, Some, None, sym, ap, ◌∙◌}
use Rattle.std.specs.Prelude.{slice_get}
use Rattle.game_over.proofs.OneEnd.{ends_in_one_way}
use Rattle.game_over.specs.declared.made.Made.{Made}
use Rattle.game_over.specs.declared.happened.Event.{Event}
use Rattle.game_over.specs.declared.moves.Place.{Place}
use Rattle.game_over.specs.declared.said.Said.{Said}
use Rattle.game_over.specs.declared.said.Said.TheVariants.{IsOver}
use Rattle.game_over.specs.declared.said.Why.{Why}
use Rattle.game_over.specs.declared.said.Why.TheVariants.{Stood, PlaysOn, Corrected, SetUp, Unfinished}
use Rattle.game_over.specs.Laws.{SaidInOneWay}
use Rattle.game_over.specs.Moves.{moves, places}
use Rattle.game_over.specs.Over.{ended_by, front}
use Rattle.game_over.specs.Said.{IsFound, IsSaidFor, IsUnfinished, unfinished}

found_alike : (place also : Option Place) (is_sure is_also_sure : Bool) (moves : List Made) (places : List Place) → IsFound place is_sure moves places
    → IsFound also is_also_sure moves places → (place ≡ also) × (is_sure ≡ is_also_sure)
found_alike place also is_sure is_also_sure moves places one two =
    let alike = ends_in_one_way one.0 two.0 is_sure is_also_sure moves (one.1).end (two.1).end in
    ((one.1).place_is ∙ ap (λ kept. slice_get places (kept - 1)) alike.0 ∙ sym (two.1).place_is, alike.1)

unfinished_alike : (said other : Said) (past : List Event) → IsUnfinished said past → IsUnfinished other past → said ≡ other
unfinished_alike said other past one two =
    let alike = found_alike one.0 two.0 one.1 two.1 (moves past) (places past) one.2 two.2 in
    one.3 ∙ ap (λ place. IsOver (unfinished place one.1 (front past))) alike.0 ∙ ap (λ is_sure. IsOver (unfinished two.0 is_sure (front past))) alike.1 ∙ sym two.3

said_alike : (why : Option Why) (said other : Said) (event : Event) (past : List Event) → IsSaidFor why said event past → IsSaidFor why other event past
    → said ≡ other
said_alike None said other event past one two = one ∙ sym two
said_alike (Some Unfinished) said other event past one two = unfinished_alike said other past one two
said_alike (Some Stood) said other event past one two = one ∙ sym two
said_alike (Some PlaysOn) said other event past one two = one ∙ sym two
said_alike (Some Corrected) said other event past one two = one ∙ sym two
said_alike (Some SetUp) said other event past one two = one ∙ sym two

pub said_in_one_way : SaidInOneWay
said_in_one_way said other event past one two = said_alike (ended_by event past) said other event past one two
