use Rattle.std.proofs.Common.{◌≡◌, ◌∷◌, [], List, Some, None, reverse, sym, ap, subst, ◌∙◌}
use Rattle.std.proofs.lemmas.List.{reverse-append}
use Rattle.chess_rules.specs.declared.chess_move.Move.{Move}
use Rattle.chess_rules.specs.declared.parts.Parts.{Parts}
use Rattle.chess_rules.specs.After.{after}
use Rattle.chess_rules.specs.Legal.{Legal}
use Rattle.settle_core.specs.declared.plies.Ply.{Ply}
use Rattle.settle_core.specs.Settling.{reached}
use Rattle.settle_core.specs.Folding.{moves_of, played, time_of}
use Rattle.settle_core.specs.Inside.Kept.{last_of}
use Rattle.settle_core.specs.Settler.{SettlerState, position_of}
use Rattle.settle_core.proofs.settler.Settler.add.Goals as goal

pub invariant_of-self-2 : goal.invariant_of-self-2
invariant_of-self-2 c =
    let old : List Ply = c.self.inside.plies.items in
    let ply : Ply = record { mv = c.copy.result; clock = c.time_of.result } in
    let line : reverse c.push.new.self.items ≡ ply ∷ reverse old = ap reverse c.in_ok-push.ensures.items ∙ reverse-append old (ply ∷ []) in
    let start : Parts = c.self.inside.start in
    let here : Parts = reached start (moves_of (reverse old)) in
    let L : SettlerState → Type 0 = λ s. Legal (position_of s) c.args.m in
    let M : Move → Type 0 = λ m. Legal here m in
    let legal : M c.copy.result = subst M (sym c.copy.ensures) (subst L (sym c.self.view_is) c.requires) in
    record {
      played = rw line (legal, c.self.invariant.played);
      position = rw line (c.new-self-inside.ensures.position ∙ c.play.ensures.after ∙ ap (λ (p : Parts). after p c.args.m) c.self.invariant.position ∙ ap (after here) (sym c.copy.ensures));
      before_is = rw line (ap (λ (p : Parts). Some p) c.self.invariant.position);
      here_compared = c.new-self-inside.ensures.compared;
      before_compared = c.self.invariant.here_compared;
      shown_is = c.self.invariant.shown_is;
    }

pub returns-clause-ok : goal.returns-clause-ok
returns-clause-ok c =
    let old : List Ply = c.self.inside.plies.items in
    let ply : Ply = record { mv = c.copy.result; clock = c.time_of.result } in
    let line : reverse c.push.new.self.items ≡ ply ∷ reverse old = ap reverse c.in_ok-push.ensures.items ∙ reverse-append old (ply ∷ []) in
    let start : Parts = c.self.inside.start in
    let last = last_of c.self.inside.seen c.self.inside.picture in
    let time : c.time_of.result ≡ time_of (reached start (moves_of (reverse old))).side c.args.clock =
    c.time_of.ensures ∙ ap (λ (p : Parts). time_of p.side c.args.clock) (c.parts.ensures.same ∙ c.self.invariant.position) in
    ap (λ (xs : List Ply). record { start = start; score = record { plies = xs; sign = None }; last = last }) line
    ∙ ap (λ (m : Move). record { start = start; score = record { plies = record { mv = m; clock = c.time_of.result } ∷ reverse old; sign = None }; last = last }) c.copy.ensures
    ∙ ap (λ t. record { start = start; score = record { plies = record { mv = c.args.m; clock = t } ∷ reverse old; sign = None }; last = last }) time
    ∙ ap (λ (s : SettlerState). record { start = s.start; score = played s.start s.score.plies c.args.clock c.args.m; last = s.last }) c.self.view_is
