-- Nothing is invented where pairs are recovered: each ply was shown, or it is one of a pair whose line was written.
-- Events and plies are listed with the latest first.
use Rattle.std.specs.Prelude.{◌≡◌, ◌⊎◌, ℕ, true, List, [], ◌∷◌, ◌++◌, ⊤}
use Rattle.chess_rules.specs.After.{after}
use Rattle.chess_rules.specs.Picture.{picture}
use Rattle.chess_rules.specs.Valid.{Valid}
use Rattle.dgt_frame.specs.declared.events.Event.{Event}
use Rattle.settle_core.specs.declared.plies.Ply.{Ply}
use Rattle.settle_core.specs.Folding.{moves_of, time_of}
use Rattle.settle_core.specs.Settling.{reached}
use Rattle.unseen_pairs.specs.declared.pair.Recovery.{Recovery}
use Rattle.board_events.specs.Commands.{past_of}
use Rattle.board_events.specs.Entries.{is_entry}
use Rattle.board_events.specs.History.{picture_of, reading_at}
use Rattle.board_events.specs.Settings.{Setting}
use Rattle.recovery.specs.Weaving.{Recovers, TellsRecovered}

-- This ply after these was shown whole: one of the events gives an entry, with the picture after the ply, and in the
-- reading then the mover has the time that is the ply's clock.
pub record WasShownByEvent (setting : Setting) (ply : Ply) (earlier : List Ply) (past : List Event) : Type 0 where
  pub later : List Event
  pub event : Event
  pub before : List Event
  pub among : past ≡ later ++ event ∷ before
  pub entry : is_entry event before ≡ true
  pub shows : picture_of setting.rotated (event ∷ before) ≡ picture (after (reached setting.start (moves_of earlier)) ply.mv)
  pub clock_is : ply.clock ≡ time_of (reached setting.start (moves_of earlier)).side (reading_at setting.first (event ∷ before))

-- This ply after these is the first or the second of a pair whose line is in the text. In the pair's reading the mover
-- has the time that is the ply's clock.
pub record HasPairLine (setting : Setting) (ply : Ply) (earlier : List Ply) (text : List ℕ) : Type 0 where
  pub front : List ℕ
  pub line : List ℕ
  pub back : List ℕ
  pub among : text ≡ front ++ line ++ back
  pub offset : ℕ
  pub r : Recovery
  pub tells : TellsRecovered offset r line
  pub one : ((reached setting.start (moves_of earlier) ≡ r.before) × (ply.mv ≡ r.pair.first))
      ⊎ ((reached setting.start (moves_of earlier) ≡ r.middle) × (ply.mv ≡ r.pair.second))
  pub clock_is : ply.clock ≡ time_of (reached setting.start (moves_of earlier)).side r.reading

-- Each of the plies was shown, or has a line.
abbrev pub AreShownOrTold : Setting → List Ply → List Event → List ℕ → Type 0
AreShownOrTold setting [] past text = ⊤
AreShownOrTold setting (ply ∷ earlier) past text =
    (WasShownByEvent setting ply earlier past ⊎ HasPairLine setting ply earlier text) × AreShownOrTold setting earlier past text

-- Nothing is invented: each ply of the score that the bytes give with their pairs was shown by the bytes, or it is one
-- of a pair whose line was written.
abbrev pub PliesAreShownOrTold : Type 0
PliesAreShownOrTold = (setting : Setting) (bytes woven text : List ℕ) → Valid setting.start → (r : Recovers setting bytes woven text)
    → AreShownOrTold setting r.score.plies (past_of r.events) text
