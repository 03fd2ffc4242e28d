use Rattle.std.proofs.Common.{List, [], ◌∷◌, ℕ, sym, subst}
use Rattle.pair_frames.specs.PutIn.{ShowsWhole, dump_of}
use Rattle.pair_frames.proofs.Joining.{nothing_shown}
use Rattle.board_captures.specs.Reading.{setting_of}
use Rattle.adding.proofs.making.shown_again.Goals as goal

pub returns : goal.returns
returns c = λ past stands.
    let W : List ℕ → Type 0 = λ xs. ShowsWhole xs [] in
    let D : List ℕ → Type 0 = λ seen. ShowsWhole c.add_dump.new.out.items (dump_of c.args.method.now.rotated seen ∷ []) in
    subst D (c.shown_last.ensures.shown (setting_of c.args.method.now) past stands) (c.in_ok-add_dump.ensures.shows [] (subst W (sym c.new-again.ensures.items) nothing_shown))
