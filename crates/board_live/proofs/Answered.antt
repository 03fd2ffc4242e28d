-- One history has one answer.
use Rattle.std.proofs.Common.{◌≡◌, Bool, List, [], ◌∷◌, refl}
use Rattle.chess_rules.specs.Valid.{Valid}
use Rattle.board_cable.specs.Turns.{Turn}
use Rattle.board_endings.specs.declared.news.End.{End}
use Rattle.board_events.specs.Settings.{Setting}
use Rattle.board_game.specs.Laws.{EndsOnce, HearsOnce, OpensOnce, StopsOnce}
use Rattle.board_live.specs.declared.happened.What.{What}
use Rattle.board_live.specs.Coming.{came}
use Rattle.board_live.specs.Ending.{SaysEnd, last_at}
use Rattle.board_live.specs.Laws.{AnsweredAlike}
use Rattle.board_live.specs.Moments.{Moment}
use Rattle.board_live.specs.Once.{IsAnsweredOnce}
use Rattle.board_live.proofs.Ends.{end_step}
use Rattle.board_live.proofs.Saids.{said_once}
use Rattle.board_live.proofs.Says.{same_said}

-- What is answered alike to itself.
itself : (m : Moment) (past : List Moment) (t : Turn) (ts : List Turn) → AnsweredAlike (m ∷ past) t ts (m ∷ past) t ts
itself m past t ts = record {
  request = refl;
  handling = refl;
  number = λ what. refl;
  kept = refl;
  silent = refl;
  own = refl;
  came = refl;
  asked = λ at. refl;
  handled = λ at. refl;
}

ends_same : EndsOnce → (setting : Setting) (recovers : Bool) (m : Moment) (past : List Moment) (t : Turn) (ts : List Turn) (said other : End) → Valid setting.start
    → SaysEnd setting recovers m past t ts said → SaysEnd setting recovers m past t ts other → said ≡ other
ends_same ends setting recovers m past t ts said other valid p q =
    end_step setting recovers m past past t t ts ts said other refl p q
    (ends setting recovers (came past ts) (last_at past) p.before q.before valid p.before_is q.before_is)
    (ends setting recovers (came (m ∷ past) (t ∷ ts)) m.at p.now q.now valid p.now_is q.now_is)

pub answered_once : HearsOnce → OpensOnce → StopsOnce → EndsOnce → IsAnsweredOnce
answered_once hears opens stops ends setting recovers [] turns a b looks alarms valid g h = absurd g
answered_once hears opens stops ends setting recovers (m ∷ past) [] a b looks alarms valid g h = absurd g
answered_once hears opens stops ends setting recovers (m ∷ past) (t ∷ ts) a b looks alarms valid g h =
    let said = said_once hears setting recovers (m ∷ past) (t ∷ ts) a.state b.state g.0.last h.0.last valid g.0.said h.0.said in
    same_said opens stops setting recovers m past past t t ts ts a b looks alarms valid (itself m past t ts) refl refl said.0
    (ends_same ends setting recovers m past t ts a.end b.end valid g.0.end h.0.end) g h
