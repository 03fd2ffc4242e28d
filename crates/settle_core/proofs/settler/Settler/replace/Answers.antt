use Rattle.std.proofs.Common.{◌≡◌, ◌∷◌, List, None, drop, reverse, refl, sym, ap, subst, ◌∙◌}
use Rattle.std.specs.Vec.{with_items}
use Rattle.std.proofs.lemmas.List.{with_items_is}
use Rattle.chess_rules.specs.declared.chess_move.Move.{Move}
use Rattle.chess_rules.specs.declared.parts.Parts.{Parts}
use Rattle.chess_rules.specs.After.{after}
use Rattle.chess_rules.specs.Legal.{Legal}
use Rattle.settle_core.specs.declared.plies.Ply.{Ply}
use Rattle.settle_core.specs.Settling.{reached}
use Rattle.settle_core.specs.Folding.{moves_of, played, time_of}
use Rattle.settle_core.specs.Inside.Kept.{CanReplace, IsLastSet, last_of}
use Rattle.settle_core.specs.Settler.{SettlerState}
use Rattle.settle_core.proofs.Steps.{before_of, can_replace, line_replaced}
use Rattle.settle_core.proofs.settler.Settler.replace.Goals as goal

pub play-requires : goal.play-requires
play-requires c =
    let C : SettlerState → Type 0 = λ s. CanReplace s.start (moves_of s.score.plies) c.args.m in
    let can : CanReplace c.self.inside.start (moves_of (reverse c.self.inside.plies.items)) c.args.m = subst C (sym c.self.view_is) c.requires in
    let L : Parts → Type 0 = λ p. Legal p c.args.m in
    subst L (sym (before_of c.self.inside.start c.self.inside.before c.in-Some.before (reverse c.self.inside.plies.items) c.args.m c.self.invariant.before_is c.in-Some.is can))
    (can_replace c.self.inside.start (reverse c.self.inside.plies.items) c.args.m can)

pub invariant_of-self : goal.invariant_of-self
invariant_of-self c =
    let plies : List Ply = reverse c.self.inside.plies.items in
    let C : SettlerState → Type 0 = λ s. CanReplace s.start (moves_of s.score.plies) c.args.m in
    let can : CanReplace c.self.inside.start (moves_of plies) c.args.m = subst C (sym c.self.view_is) c.requires in
    let ply : Ply = record { mv = c.copy.result; clock = c.time_of.result } in
    let now : List Ply = (with_items c.self.inside.plies c.set_last.new.plies).items in
    let items : now ≡ c.set_last.new.plies = with_items_is c.self.inside.plies c.set_last.new.plies (c.set_last.auto.plies ∙ c.deref_mut.ensures.len) in
    let set : IsLastSet c.self.inside.plies.items ply now =
    λ other earlier e. ap reverse items ∙ c.set_last.ensures other earlier (ap reverse c.deref_mut.ensures.value ∙ e) in
    let M : Move → Type 0 = λ m. CanReplace c.self.inside.start (moves_of plies) m in
    let line = line_replaced c.self.inside.start plies c.self.inside.plies.items now ply c.self.inside.before refl (subst M (sym c.copy.ensures) can) set c.self.invariant.played c.self.invariant.before_is in
    let from : c.in-Some.before.position ≡ reached c.self.inside.start (moves_of (drop 1 plies)) =
    before_of c.self.inside.start c.self.inside.before c.in-Some.before plies c.args.m c.self.invariant.before_is c.in-Some.is can in
    record {
      played = rw line.0 line.1;
      position = rw line.0 (c.new-self-inside.ensures.position ∙ c.play.ensures.after ∙ ap (λ (p : Parts). after p c.args.m) from ∙ ap (after (reached c.self.inside.start (moves_of (drop 1 plies)))) (sym c.copy.ensures));
      before_is = rw line.0 line.2;
      here_compared = c.new-self-inside.ensures.compared;
      before_compared = c.self.invariant.before_compared;
      shown_is = c.self.invariant.shown_is;
    }

pub returns : goal.returns
returns c =
    let plies : List Ply = reverse c.self.inside.plies.items in
    let C : SettlerState → Type 0 = λ s. CanReplace s.start (moves_of s.score.plies) c.args.m in
    let can : CanReplace c.self.inside.start (moves_of plies) c.args.m = subst C (sym c.self.view_is) c.requires in
    let ply : Ply = record { mv = c.copy.result; clock = c.time_of.result } in
    let now : List Ply = (with_items c.self.inside.plies c.set_last.new.plies).items in
    let items : now ≡ c.set_last.new.plies = with_items_is c.self.inside.plies c.set_last.new.plies (c.set_last.auto.plies ∙ c.deref_mut.ensures.len) in
    let set : IsLastSet c.self.inside.plies.items ply now =
    λ other earlier e. ap reverse items ∙ c.set_last.ensures other earlier (ap reverse c.deref_mut.ensures.value ∙ e) in
    let M : Move → Type 0 = λ m. CanReplace c.self.inside.start (moves_of plies) m in
    let line = line_replaced c.self.inside.start plies c.self.inside.plies.items now ply c.self.inside.before refl (subst M (sym c.copy.ensures) can) set c.self.invariant.played c.self.invariant.before_is in
    let from : c.in-Some.before.position ≡ reached c.self.inside.start (moves_of (drop 1 plies)) =
    before_of c.self.inside.start c.self.inside.before c.in-Some.before plies c.args.m c.self.invariant.before_is c.in-Some.is can in
    let time : c.time_of.result ≡ time_of (reached c.self.inside.start (moves_of (drop 1 plies))).side c.args.clock =
    c.time_of.ensures ∙ ap (λ (p : Parts). time_of p.side c.args.clock) (c.parts.ensures.same ∙ from) in
    ap (λ (xs : List Ply). record { start = c.self.inside.start; score = record { plies = xs; sign = None }; last = last_of c.self.inside.seen c.self.inside.picture }) (line.0)
    ∙ ap (λ (m : Move). record { start = c.self.inside.start; score = record { plies = record { mv = m; clock = c.time_of.result } ∷ drop 1 plies; sign = None }; last = last_of c.self.inside.seen c.self.inside.picture }) c.copy.ensures
    ∙ ap (λ t. record { start = c.self.inside.start; score = record { plies = record { mv = c.args.m; clock = t } ∷ drop 1 plies; sign = None }; last = last_of c.self.inside.seen c.self.inside.picture }) time
    ∙ ap (λ (s : SettlerState). record { start = s.start; score = played s.start (drop 1 s.score.plies) c.args.clock c.args.m; last = s.last }) c.self.view_is
