use Rattle.std.proofs.Common.{◌≡◌, ◌<◌, ◌≤◌, ◌-◌, ◌==◌, ◌∙◌, ℕ, zero, suc, false, length, sym, arith}
use Rattle.going_back.proofs.Fronts.{if_ok, line_front}
use Rattle.going_back.proofs.ProposeLemmas.{last_written}
use Rattle.going_back.proofs.TellLemmas.{legal_at}
use Rattle.going_back.proofs.proposing.last_text.Goals as goal

same : (n : ℕ) → n ≤ n
same n = omega arith

some_left : (n : ℕ) → (n == 0) ≡ false → 0 < n
some_left zero e = absurd cc
some_left (suc n) e = omega arith

pub position_behind-position-requires : goal.position_behind-position-requires
position_behind-position-requires c = line_front c.args.start.now c.args.stay.now (length c.args.stay.now - 1) c.requires

pub ply_text-requires : goal.ply_text-requires
ply_text-requires c =
    let some : 0 < length c.args.stay.now = some_left (length c.args.stay.now) (sym c.is_empty.ensures ∙ c.if-is_empty.false) in
    legal_at c.args.start.now c.position_behind-position.result c.args.stay.now (length c.args.stay.now) c.ply_at.result.now some (same (length c.args.stay.now)) c.ply_at.ensures
    c.position_behind-position.ensures c.requires

pub returns : goal.returns
returns c =
    let some : 0 < length c.args.stay.now = some_left (length c.args.stay.now) (sym c.is_empty.ensures ∙ c.if-is_empty.false) in
    if_ok _ _ c.ply_text.result
    (λ text written. last_written c.args.start.now c.position_behind-position.result c.args.stay.now c.ply_at.result.now text.items some c.ply_at.ensures
    c.position_behind-position.ensures written) c.ply_text.ensures
