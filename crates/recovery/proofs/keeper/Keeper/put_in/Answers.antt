use Rattle.std.proofs.Common.{◌≡◌, ◌∷◌, Bool, sym, subst, ap, ◌∙◌}
use Rattle.dgt_frame.specs.declared.First.{First}
use Rattle.settle_core.specs.Entries.{Entry}
use Rattle.board_events.specs.Entries.{entry_at}
use Rattle.board_events.specs.History.{reading_at}
use Rattle.pair_frames.specs.Laws.{IsReadBehind}
use Rattle.pair_frames.specs.PutIn.{ShowsWhole, put_in}
use Rattle.recovery.proofs.KeepLemmas.{entry_now, picture_now}
use Rattle.recovery.proofs.keeper.Keeper.put_in.Goals as goal

pub returns-clause-shows : goal.returns-clause-shows
returns-clause-shows c = λ setting past event written k finds.
    let picture_is = picture_now setting past event c.args.found.now c.picture.result.now finds (c.picture.ensures.last setting.rotated (event ∷ past) k.view) in
    let e = entry_now setting (event ∷ past) c.picture.result.now c.args.self.now.reading picture_is k.reading in
    let F : First → Bool → Entry → Type 0 = λ first rotated entry. ShowsWhole c.put_in.new.out.items (put_in first rotated entry c.args.found.now) in
    subst (λ first. F first setting.rotated (entry_at setting.first setting.rotated (event ∷ past))) k.first
    (subst (λ rotated. F c.args.self.now.first rotated (entry_at setting.first setting.rotated (event ∷ past))) k.rotated
    (subst (F c.args.self.now.first c.args.self.now.rotated) e c.put_in.ensures.shows))

pub returns-clause-read : goal.returns-clause-read
returns-clause-read c = λ setting past event written k finds before same.
    let picture_is = picture_now setting past event c.args.found.now c.picture.result.now finds (c.picture.ensures.last setting.rotated (event ∷ past) k.view) in
    let e = entry_now setting (event ∷ past) c.picture.result.now c.args.self.now.reading picture_is k.reading in
    let here : reading_at c.args.self.now.first before ≡ c.args.self.now.reading =
    ap (λ (f : First). reading_at f before) k.first ∙ same ∙ sym k.reading in
    let F : First → Bool → Entry → Type 0 = λ first rotated entry. IsReadBehind first rotated before entry c.args.found.now in
    subst (λ first. F first setting.rotated (entry_at setting.first setting.rotated (event ∷ past))) k.first
    (subst (λ rotated. F c.args.self.now.first rotated (entry_at setting.first setting.rotated (event ∷ past))) k.rotated
    (subst (F c.args.self.now.first c.args.self.now.rotated) e (c.put_in.ensures.read before here)))
