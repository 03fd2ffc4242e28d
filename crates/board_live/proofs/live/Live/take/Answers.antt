use Rattle.std.proofs.Common.{◌≡◌, ℕ, Bool, List, ◌∷◌, ◌++◌, refl, sym, ap, subst, ◌∙◌}
use Rattle.board_cable.specs.Keeping.{kept}
use Rattle.board_cable.specs.Turns.{Told, Turn}
use Rattle.board_game.specs.Games.{StandsFor as GameStands}
use Rattle.board_game.specs.History.{Came}
use Rattle.board_game.specs.Ending.{IsEndOf}
use Rattle.board_live.specs.Ending.{SaysNews}
use Rattle.board_live.specs.Coming.{HasRoom, came}
use Rattle.board_live.specs.Moments.{Moment, already, cabled, is_added, moment_of, news_of}
use Rattle.board_live.specs.Saying.{HasSaid, IsRead, is_live, without_other}
use Rattle.board_live.proofs.TakeLemmas.{came_is, game_at, kept_at, said_more, saying_at, turns_are}
use Rattle.board_live.proofs.live.Live.take.Goals as goal

pub returns-clause-stands : goal.returns-clause-stands
returns-clause-stands c = λ setting recovers past text s.
    let m : Moment = moment_of c.args.happened c.args.bytes.now in
    let turns = s.attends.cable.turns in
    let attends = c.in_ok-comes.ensures.attends past s.attends in
    let split = turns_are m past turns attends.cable.turns s.attends.cable.happened attends.cable.happened in
    let turn = split.0 in
    let T : List Turn → Type 0 = λ x. Told (cabled (m ∷ past)) x in
    let h : T (turn ∷ turns) = subst T split.1 attends.cable.happened in
    let tells = c.in_ok-comes.ensures.tells past turn turns s.attends h in
    let more = c.in_ok-is_whole.ensures.told setting recovers (came past turns) text s.game in
    let has = came_is m past turn turns c.kept.result.now c.in_ok-comes.comes.silence (c.kept.ensures ∙ kept_at c.take.new.self (m ∷ past) (turn ∷ turns) attends h)
    tells.silence in
    let G : List Came → Type 0 = λ x. GameStands c.hear.new.game setting recovers x (text ++ more.0) in
    let game : G (came (m ∷ past) (turn ∷ turns)) = subst G has more.2 in
    let reads : IsRead setting recovers (m ∷ past) (turn ∷ turns) m.at c.without_other-now.result = (
      c.state-stands.result,
      c.state-stands.ensures setting recovers (came (m ∷ past) (turn ∷ turns)) (text ++ more.0) game,
      c.without_other-now.ensures ∙ ap (λ own. without_other own c.state-stands.result) (c.is_own-is_own.ensures (cabled (m ∷ past)) (turn ∷ turns) attends.cable h),
    ) in
    let said = said_more c.args.self.now.saying c.say-state.new.self setting recovers m past turn turns c.without_other-now.result c.say-state.result s.saying c.say-state.ensures.live c.say-state.ensures.says
    c.say-state.ensures.last reads c.count_bits.ensures in
    let A : List Turn → Type 0 = λ x. GameStands c.hear.new.game setting recovers (came (m ∷ past) x) (text ++ more.0) in
    let S : List Turn → Type 0 = λ x. HasSaid c.say-state.new.self setting recovers (m ∷ past) x in
    let saying : S (turn ∷ turns) = record {
      live = said.0;
      said = c.say-state.result;
      is_said = said.1;
    } in (
      more.0,
      more.1,
      record {
        attends = attends;
        game = subst A (sym split.1) game;
        saying = subst S (sym split.1) saying;
        at_is = refl;
      },
    )

pub returns-clause-answers : goal.returns-clause-answers
returns-clause-answers c = λ setting recovers past text turn turns s h.
    let m : Moment = moment_of c.args.happened c.args.bytes.now in
    let attends = c.in_ok-comes.ensures.attends past s.attends in
    let tells = c.in_ok-comes.ensures.tells past turn turns s.attends h in
    let before = game_at c.args.self.now setting recovers past text turns s h.0 in
    let more = c.in_ok-is_whole.ensures.told setting recovers (came past turns) text before in
    let keeps : c.kept.result.now ≡ kept (turn ∷ turns) = c.kept.ensures ∙ kept_at c.take.new.self (m ∷ past) (turn ∷ turns) attends h in
    let has = came_is m past turn turns c.kept.result.now c.in_ok-comes.comes.silence keeps tells.silence in
    let G : List Came → Type 0 = λ x. GameStands c.hear.new.game setting recovers x (text ++ more.0) in
    let game : G (came (m ∷ past) (turn ∷ turns)) = subst G has more.2 in
    let reads : IsRead setting recovers (m ∷ past) (turn ∷ turns) m.at c.without_other-now.result = (
      c.state-stands.result,
      c.state-stands.ensures setting recovers (came (m ∷ past) (turn ∷ turns)) (text ++ more.0) game,
      c.without_other-now.ensures ∙ ap (λ own. without_other own c.state-stands.result) (c.is_own-is_own.ensures (cabled (m ∷ past)) (turn ∷ turns) attends.cable h),
    ) in
    let said = said_more c.args.self.now.saying c.say-state.new.self setting recovers m past turn turns c.without_other-now.result c.say-state.result
    (saying_at c.args.self.now setting recovers past text turns s h.0) c.say-state.ensures.live c.say-state.ensures.says
    c.say-state.ensures.last reads c.count_bits.ensures in
    let room = c.in_ok-is_whole.ensures.whole setting recovers (came past turns) text before in
    let R : List ℕ → Type 0 = λ x. HasRoom m.at (news_of m.what) (is_added m.what) (already m.what m.bytes) x (came past turns) in
    let E : ℕ → Type 0 = λ at. IsEndOf setting recovers (came past turns) at c.end-before_end.result in
    let L : Bool → Type 0 = λ live. SaysNews live c.begins-3.result c.end-before_end.result c.end-now_end.result c.end_said-end.result in
    let B : Bool → Type 0 = λ first. SaysNews (is_live (m ∷ past)) first c.end-before_end.result c.end-now_end.result c.end_said-end.result in
    record {
      request = tells.request;
      handling = tells.handling;
      number = tells.number;
      alarms = record {
        before = c.alarms-before.result.now;
        now = c.alarms.result.now;
        before_are = c.alarms-before.ensures setting recovers (came past turns) text before;
        now_are = c.alarms.ensures setting recovers (came (m ∷ past) (turn ∷ turns)) (text ++ more.0) game;
        count_is = c.unsaid-unsaid.ensures ∙ rw c.begins.ensures (rw said.0 refl);
      };
      clock = record {
        before = c.is_clock_stopped-was_stopped.result;
        now = c.is_clock_stopped.result;
        before_is = c.is_clock_stopped-was_stopped.ensures setting recovers (came past turns) text before;
        now_is = c.is_clock_stopped.ensures setting recovers (came (m ∷ past) (turn ∷ turns)) (text ++ more.0) game;
        news_is = c.clock_news-is_clock_stopped.ensures ∙ rw c.begins-2.ensures (rw said.0 refl);
      };
      last = c.say-state.new.self.last;
      said = said.1;
      end = record {
        before = c.end-before_end.result;
        now = c.end-now_end.result;
        before_is = subst E s.at_is (c.end-before_end.ensures setting recovers (came past turns) text before);
        now_is = c.end-now_end.ensures setting recovers (came (m ∷ past) (turn ∷ turns)) (text ++ more.0) game;
        said_is = subst B c.begins-3.ensures (subst L said.0 c.end_said-end.ensures);
      };
      whole = (λ t. subst R keeps (room.0 t), λ r. room.1 (subst R (sym keeps) r));
    }
