use Rattle.std.proofs.Common.{◌∙◌, List, [], ◌∷◌, ℕ, ap, sym, subst}
use Rattle.pair_frames.specs.PutIn.{ShowsWhole, dump_of}
use Rattle.pair_frames.proofs.Joining.{nothing_shown}
use Rattle.adding.specs.Signs.{sign_picture}
use Rattle.adding.proofs.making.bytes_of_result.Goals as goal

pub returns : goal.returns
returns c = λ past stands.
    let W : List ℕ → Type 0 = λ xs. ShowsWhole xs [] in
    let D : List ℕ → Type 0 = λ seen. ShowsWhole c.add_dump.new.out.items (dump_of c.args.method.now.rotated seen ∷ []) in
    let sign = c.sign_picture-sign.ensures.same ∙ ap (sign_picture c.args.outcome) c.picture.ensures.shown in
    c.in_ok-add_again.ensures past _ stands (subst D sign (c.in_ok-add_dump.ensures.shows [] (subst W (sym c.new-bytes.ensures.items) nothing_shown)))
