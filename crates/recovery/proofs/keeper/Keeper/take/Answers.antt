use Rattle.std.proofs.Common.{◌≡◌, ◌<◌, ◌∷◌, ℕ, List, None, if◌then◌else◌, slice_index, slice_set, sym, ap, subst, ◌∙◌}
use Rattle.std.proofs.lemmas.Result.{IfOk-weaker}
use Rattle.dgt_frame.specs.declared.First.{First}
use Rattle.settle_core.specs.Entries.{Entry, entry_of}
use Rattle.unseen_pairs.specs.Recoverer.{HasRecovered, RecovererState}
use Rattle.board_events.specs.declared.view.Change.{Change}
use Rattle.board_events.specs.declared.view.View.{View}
use Rattle.board_events.specs.History.{reading_at}
use Rattle.board_events.specs.Pictures.{ChangesPictures, IsLast, IsOnBoard, pictures}
use Rattle.board_events.specs.Session.{entries_in}
use Rattle.board_events.specs.View.{Views}
use Rattle.recovery.specs.declared.keeper.Keeper.{Keeper}
use Rattle.recovery.specs.Inside.Keeping.{KeepsNext}
use Rattle.recovery.specs.Inside.Seeing.{Sees}
use Rattle.recovery.proofs.KeepLemmas.{another_here, entry_before, kept_same, kept_seen, on_any_err, seen_before, shown_there}
use Rattle.recovery.proofs.keeper.Keeper.take.Goals as goal

pub returns-in-Nothing-clause-next : goal.returns-in-Nothing-clause-next
returns-in-Nothing-clause-next c = λ setting past written k.
    let event = c.args.event.now in
    let before : Views c.hear.new.self.view setting.rotated past = subst (λ (v : View). Views v setting.rotated past) (sym c.hear.ensures.view) k.view in
    let read : c.hear.new.self.reading ≡ reading_at setting.first (event ∷ past) =
    c.hear.ensures.reading past (k.reading ∙ ap (λ (f : First). reading_at f past) (sym k.first)) ∙ ap (λ (f : First). reading_at f (event ∷ past)) k.first in
    let stands : HasRecovered c.hear.new.self.recoverer setting.start (entries_in setting past) written =
    subst (λ (d : RecovererState). HasRecovered d setting.start (entries_in setting past) written) (sym c.hear.ensures.recoverer) k.recoverer in
    let C : Change → Type 0 = λ change. ChangesPictures change (pictures setting.rotated past) (pictures setting.rotated (event ∷ past)) in
    kept_same _ setting past event written (c.see.ensures.views setting.rotated past before) read (c.hear.ensures.first ∙ k.first) (c.hear.ensures.rotated ∙ k.rotated)
    stands (subst C c.in-Nothing.is (c.see.ensures.shown setting.rotated past before))

pub see_square-requires-clause-seen : goal.see_square-requires-clause-seen
see_square-requires-clause-seen c =
    let setting = c.requires.begun.0 in
    let past = c.requires.begun.1 in
    let written = c.requires.begun.2 in
    let k = c.requires.begun.3 in
    let event = c.args.event.now in
    let before : Views c.hear.new.self.view setting.rotated past = subst (λ (v : View). Views v setting.rotated past) (sym c.hear.ensures.view) k.view in
    let stands : HasRecovered c.hear.new.self.recoverer setting.start (entries_in setting past) written =
    subst (λ (d : RecovererState). HasRecovered d setting.start (entries_in setting past) written) (sym c.hear.ensures.recoverer) k.recoverer in
    let C : Change → Type 0 = λ change. ChangesPictures change (pictures setting.rotated past) (pictures setting.rotated (event ∷ past)) in
    let changes = subst C c.in-Square.is (c.see.ensures.shown setting.rotated past before) in
    let e = entry_before setting past changes.0 changes.1 changes.2 in
    seen_before c.hear.new.self.recoverer setting.start e.0 e.1 written (subst (λ (es : List Entry). HasRecovered c.hear.new.self.recoverer setting.start es written) e.2 stands)

pub returns-in-Square-clause-next : goal.returns-in-Square-clause-next
returns-in-Square-clause-next c = λ setting past written k.
    let event = c.args.event.now in
    let picture = c.picture.result.now in
    let before : Views c.hear.new.self.view setting.rotated past = subst (λ (v : View). Views v setting.rotated past) (sym c.hear.ensures.view) k.view in
    let views : Views c.see.new.self setting.rotated (event ∷ past) = c.see.ensures.views setting.rotated past before in
    let read : c.hear.new.self.reading ≡ reading_at setting.first (event ∷ past) =
    c.hear.ensures.reading past (k.reading ∙ ap (λ (f : First). reading_at f past) (sym k.first)) ∙ ap (λ (f : First). reading_at f (event ∷ past)) k.first in
    let stands : HasRecovered c.hear.new.self.recoverer setting.start (entries_in setting past) written =
    subst (λ (d : RecovererState). HasRecovered d setting.start (entries_in setting past) written) (sym c.hear.ensures.recoverer) k.recoverer in
    let last : IsLast picture (pictures setting.rotated (event ∷ past)) = c.picture.ensures.last setting.rotated (event ∷ past) views in
    let C : Change → Type 0 = λ change. ChangesPictures change (pictures setting.rotated past) (pictures setting.rotated (event ∷ past)) in
    let changes = subst C c.in-Square.is (c.see.ensures.shown setting.rotated past before) in
    let e = entry_before setting past changes.0 changes.1 changes.2 in
    let is : picture ≡ slice_set changes.0 c.in-Square.square _ = subst (IsLast picture) changes.3 last in
    let more : pictures setting.rotated (event ∷ past) ≡ picture ∷ pictures setting.rotated past = changes.3 ∙ ap (λ p. p ∷ pictures setting.rotated past) (sym is) in
    let inside : c.in-Square.square < 64 = subst IsOnBoard c.in-Square.is c.see.ensures.inside in
    let shown : picture ≡ slice_set (e.0).picture c.in-Square.square (slice_index picture c.in-Square.square) =
    shown_there (e.0).picture picture c.in-Square.square c.in-Square.code inside c.see_square.ensures.squares
    (is ∙ ap (λ (xs : List ℕ). slice_set xs c.in-Square.square c.in-Square.code) (sym e.3)) in
    let E : List Entry → Type 0 = λ es. HasRecovered c.hear.new.self.recoverer setting.start es written in
    let sees = c.see_square.ensures.sees setting.start e.0 e.1 written (subst E e.2 stands) shown in
    let new : Keeper = record c.hear.new.self { view = c.see.new.self; recoverer = c.see_square.new.recoverer; found = c.see_square.new.found } in
    IfOk-weaker c.see_square.result (λ is. Sees new.recoverer setting.start (e.0 ∷ e.1) written (entry_of picture c.hear.new.self.reading) (if is then new.found else None))
    (λ is. KeepsNext new setting past event (if is then new.found else None) written)
    (λ is sees. kept_seen new setting past event picture written (if is then new.found else None)
    views read (c.hear.ensures.first ∙ k.first) (c.hear.ensures.rotated ∙ k.rotated) more
    (subst (λ (es : List Entry). Sees new.recoverer setting.start es written (entry_of picture (reading_at setting.first (event ∷ past))) (if is then new.found else None)) (sym e.2)
    (subst (λ r. Sees new.recoverer setting.start (e.0 ∷ e.1) written (entry_of picture r) (if is then new.found else None)) read sees)))
    sees

pub returns-in-Picture-clause-next : goal.returns-in-Picture-clause-next
returns-in-Picture-clause-next c = λ setting past written k.
    let event = c.args.event.now in
    let picture = c.picture-in-Picture.result.now in
    let before : Views c.hear.new.self.view setting.rotated past = subst (λ (v : View). Views v setting.rotated past) (sym c.hear.ensures.view) k.view in
    let views : Views c.see.new.self setting.rotated (event ∷ past) = c.see.ensures.views setting.rotated past before in
    let read : c.hear.new.self.reading ≡ reading_at setting.first (event ∷ past) =
    c.hear.ensures.reading past (k.reading ∙ ap (λ (f : First). reading_at f past) (sym k.first)) ∙ ap (λ (f : First). reading_at f (event ∷ past)) k.first in
    let stands : HasRecovered c.hear.new.self.recoverer setting.start (entries_in setting past) written =
    subst (λ (d : RecovererState). HasRecovered d setting.start (entries_in setting past) written) (sym c.hear.ensures.recoverer) k.recoverer in
    let last : IsLast picture (pictures setting.rotated (event ∷ past)) = c.picture-in-Picture.ensures.last setting.rotated (event ∷ past) views in
    let C : Change → Type 0 = λ change. ChangesPictures change (pictures setting.rotated past) (pictures setting.rotated (event ∷ past)) in
    let changes = subst C c.in-Picture.is (c.see.ensures.shown setting.rotated past before) in
    let is : picture ≡ changes.0 = subst (IsLast picture) changes.1 last in
    let more : pictures setting.rotated (event ∷ past) ≡ picture ∷ pictures setting.rotated past = changes.1 ∙ ap (λ p. p ∷ pictures setting.rotated past) (sym is) in
    let sees = c.see_whole.ensures setting.start (entries_in setting past) written stands in
    let new : Keeper = record c.hear.new.self { view = c.see.new.self; recoverer = c.see_whole.new.recoverer; found = c.see_whole.new.found } in
    IfOk-weaker c.see_whole.result (λ is. Sees new.recoverer setting.start (entries_in setting past) written (entry_of picture c.hear.new.self.reading) (if is then new.found else None))
    (λ is. KeepsNext new setting past event (if is then new.found else None) written)
    (λ is sees. kept_seen new setting past event picture written (if is then new.found else None)
    views read (c.hear.ensures.first ∙ k.first) (c.hear.ensures.rotated ∙ k.rotated) more
    (subst (λ r. Sees new.recoverer setting.start (entries_in setting past) written (entry_of picture r) (if is then new.found else None)) read sees))
    sees

pub returns-in-Square-clause-refused : goal.returns-in-Square-clause-refused
returns-in-Square-clause-refused c = λ setting past written k.
    let event = c.args.event.now in
    let before : Views c.hear.new.self.view setting.rotated past = subst (λ (v : View). Views v setting.rotated past) (sym c.hear.ensures.view) k.view in
    let C : Change → Type 0 = λ change. ChangesPictures change (pictures setting.rotated past) (pictures setting.rotated (event ∷ past)) in
    let changes = subst C c.in-Square.is (c.see.ensures.shown setting.rotated past before) in
    on_any_err c.see_square.result (another_here setting past event _ changes.3)

pub returns-in-Picture-clause-refused : goal.returns-in-Picture-clause-refused
returns-in-Picture-clause-refused c = λ setting past written k.
    let event = c.args.event.now in
    let before : Views c.hear.new.self.view setting.rotated past = subst (λ (v : View). Views v setting.rotated past) (sym c.hear.ensures.view) k.view in
    let C : Change → Type 0 = λ change. ChangesPictures change (pictures setting.rotated past) (pictures setting.rotated (event ∷ past)) in
    let changes = subst C c.in-Picture.is (c.see.ensures.shown setting.rotated past before) in
    on_any_err c.see_whole.result (another_here setting past event _ changes.1)
