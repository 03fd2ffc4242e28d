use Rattle.std.proofs.Common.{◌≡◌, ◌-◌, ◌≤◌, ◌++◌, ℕ, List, length, map, take}
use Rattle.dgt_frame.specs.Decoder.{Decoded}
use Rattle.dgt_frame.specs.Streams.{Timed}
use Rattle.board_events.specs.Settings.{Setting}
use Rattle.board_game.specs.History.{Item, with_events}
use Rattle.board_game.specs.Inside.Telling.{HasTold}
use Rattle.board_game.proofs.telling.Teller.put_in.Given as goal

abbrev pub invariant-events : goal.invariant-events
invariant-events l = record {
  inside : l.taken ≤ length l.frames;
  begun : (setting : Setting) × (items : List Item) × (text : List ℕ) × HasTold l.self setting items text;
  fed : (timed : List Timed) × Decoded l.decoder (take l.taken l.frames) timed
      × ((setting : Setting) (items : List Item) (text : List ℕ) → HasTold l.fn.self setting items text → (more : List ℕ)
      × (l.lines.items ++ l.gathered.items ≡ (l.fn.lines.items ++ l.fn.gathered.items) ++ more)
      × HasTold l.self setting (with_events l.chunk l.offset (map (λ (t : Timed). t.event) timed) items) (text ++ more));
}

abbrev pub decreases-events : goal.decreases-events
decreases-events l = length l.frames - l.taken
