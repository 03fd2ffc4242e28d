use Rattle.std.proofs.Common.{rules, append_assoc, append-nil, refl, ◌≡◌, ◌+◌, ◌++◌, ◌∷◌, [], ℕ, false, List, drop, sym, ap, ◌∙◌, subst, arith}
use Rattle.std.proofs.lemmas.List.{drop_all}
use Rattle.board_live.specs.Laws.{with_kept, with_told}
use Rattle.board_live.specs.Live.{StandsFor}
use Rattle.board_live.specs.Moments.{Moment}
use Rattle.board_times.specs.declared.events.Event.{Event}
use Rattle.live_lines.specs.Clock.{clock_over}
use Rattle.live_lines.specs.History.{merged}
use Rattle.live_lines.proofs.HistoryLemmas.{clock_step, cut_at, merged_step, stands_by, three}
use Rattle.live_lines.proofs.history.tell_history.Goals as goal

pub events-init : goal.events-init
events-init c = record {
  begun = c.requires.begun;
  clock = refl;
  told = λ setting recovers past text s.
      let T : List ℕ → Type 0 = λ t. StandsFor c.args.live.now setting recovers past t in
      (past, [], sym (append-nil c.args.lines.now.items), subst T (sym (append-nil text)) s, refl);
}

pub events-preserved : goal.events-preserved
events-preserved c =
    let l = c.events in
    let events : List Event = c.args.events.now in
    let event : Event = c.copy-happened.result in
    let cut : drop l.event-index events ≡ event ∷ drop (l.event-index + 1) events = cut_at events l.event-index event (search rules) (search rules) in
    record {
      begun = c.in_ok-tell.ensures.begun;
      clock = clock_step l.clock c.take-at.new.self event (drop l.event-index events) (drop (l.event-index + 1) events) c.take-at.ensures.next cut
          ∙ l.invariant.clock;
      told = λ setting recovers before text s.
          let t = l.invariant.told setting recovers before text s in
          let past : List Moment = t.0 in
          let more : List ℕ = t.1 in
          let k = c.in_ok-keep.ensures.told setting recovers past (text ++ more) t.3 in
          let kept : List Moment = with_kept c.take-at.result c.is_added.result c.cut.result.0.now past in
          let n = c.in_ok-tell.ensures.told setting recovers kept ((text ++ more) ++ k.0) k.2 in
          let T : List ℕ → Type 0 = λ x. StandsFor c.tell.new.live setting recovers (with_told c.take-at.result c.news_of.result kept) x in (
            with_told c.take-at.result c.news_of.result kept,
            more ++ (k.0 ++ n.0),
            n.1 ∙ ap (λ x. x ++ n.0) (k.1 ∙ ap (λ x. x ++ k.0) t.2) ∙ three c.args.lines.now.items more k.0 n.0,
            subst T (three text more k.0 n.0) n.2,
            merged_step l.clock c.take-at.new.self l.covered c.covered_after-covered.result l.rest.now c.cut.result.0.now c.cut.result.1.now event
                (drop l.event-index events) (drop (l.event-index + 1) events) c.take-at.result c.is_added.result c.news_of.result past
                c.take-at.ensures.next c.take-at.ensures.time c.covered_after-covered.ensures
                (search rules) (search rules) c.news_of.ensures c.is_added.ensures cut ∙ t.4,
          );
    }

pub returns-clause-clock : goal.returns-clause-clock
returns-clause-clock c =
    let l = c.events in
    let none : drop l.event-index c.args.events.now ≡ [] = drop_all l.event-index c.args.events.now (omega arith) in
    ap (λ (x : List Event). clock_over l.clock x) (sym none) ∙ l.invariant.clock

pub returns-clause-told : goal.returns-clause-told
returns-clause-told c = λ setting recovers before text s.
    let l = c.events in
    let events : List Event = c.args.events.now in
    let t = l.invariant.told setting recovers before text s in
    let past : List Moment = t.0 in
    let more : List ℕ = t.1 in
    let k = c.in_ok-keep-2.ensures.told setting recovers past (text ++ more) t.3 in
    let none : drop l.event-index events ≡ [] = drop_all l.event-index events (omega arith) in
    let at : c.last.result ≡ l.clock.last = c.last.ensures in
    let all = ap (λ x. with_kept x false l.rest.now past) at ∙ ap (λ (x : List Event). merged l.clock l.covered l.rest.now x past) (sym none) ∙ t.4 in
    let T : List ℕ → Type 0 = λ x. StandsFor c.keep-2.new.live setting recovers (with_kept c.last.result false l.rest.now past) x in (
      more ++ k.0,
      k.1 ∙ ap (λ x. x ++ k.0) t.2 ∙ append_assoc c.args.lines.now.items more k.0,
      stands_by c.keep-2.new.live setting recovers _ _ _ all (subst T (append_assoc text more k.0) k.2),
    )
