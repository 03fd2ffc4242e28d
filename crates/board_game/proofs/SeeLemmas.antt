-- What is said of what an event shows.
use Rattle.std.proofs.Common.{◌≡◌, ◌<◌, ◌^◌, ℕ, Bool, true, false, List, ◌∷◌, reverse, slice_set, Option, Some, None, is_some, refl, sym, ap, subst, ◌∙◌, arith}
use Rattle.std.specs.Int.{bit_at}
use Rattle.std.proofs.lemmas.Nat.Bits.{bit_at-zero}
use Rattle.std.proofs.lemmas.Option.{same_Some}
use Rattle.chess_rules.specs.Picture.{picture}
use Rattle.chess_rules.specs.Valid.{Valid}
use Rattle.dgt_frame.specs.declared.events.Event.{Event}
use Rattle.settle_core.specs.Entries.{last_picture}
use Rattle.settle_core.specs.Masks.{IsDiff}
use Rattle.board_captures.proofs.ReadLemmas.{is_last, same_shown, some_shown}
use Rattle.board_events.specs.declared.view.Change.TheVariants.{Square, Picture}
use Rattle.board_events.specs.History.{picture_of}
use Rattle.board_events.specs.Pictures.{ChangesPictures, IsLast, pictures}
use Rattle.board_events.specs.declared.session.Taken.{Taken}
use Rattle.board_events.specs.Session.{TellsTaken, entries_in}
use Rattle.board_events.specs.Settings.{Setting}
use Rattle.board_events.specs.View.{Views}
use Rattle.recovery.proofs.KeepLemmas.{another_here, entry_here}
use Rattle.board_game.specs.declared.pictures.Pictures.{Pictures}
use Rattle.board_game.specs.declared.pictures.Shown.TheVariants.{Another}
use Rattle.board_alarms.specs.Hearing.{HasMoved}
use Rattle.board_game.specs.Hearing.{Changes, IsMask}
use Rattle.board_game.specs.Inside.Shown.{HasSeen, IsShown, moves}
use Rattle.board_game.proofs.PlyLemmas.{moved as has_moved}

-- a picture doesn't differ from itself
pub no_difference : (picture : List ℕ) → IsDiff 0 picture picture
no_difference picture s low = (λ set. (let none : bit_at 0 s ≡ 0 = bit_at-zero s in let never : ⊥ = omega arith in absurd never), λ differs. absurd (differs refl))

-- no other picture
pub again_seen : (old new : Pictures) (setting : Setting) (past : List Event) (event : Event) → pictures setting.rotated (event ∷ past) ≡ pictures setting.rotated past
    → Views new.view setting.rotated (event ∷ past) → new.has_shown ≡ old.has_shown → new.turned ≡ old.turned → new.mask ≡ old.mask → HasSeen old setting past
    → HasSeen new setting (event ∷ past)
again_seen old new setting past event same views shown turned mask seen =
    let last = same_shown setting.first setting.rotated past event same in
    let D : ℕ → List ℕ → List ℕ → Type 0 = λ m t p. IsDiff m t p in
    record {
      view = views;
      shown = shown ∙ seen.shown ∙ ap (λ (o : Option (List ℕ)). is_some o) (sym last);
      turned = turned ∙ seen.turned;
      mask = λ p is. subst (λ m. D m new.turned p) (sym mask) (subst (λ t. D old.mask t p) (sym turned) (seen.mask p (sym last ∙ is)));
    }

pub last_now : (setting : Setting) (past : List Event) (event : Event) (p : List ℕ) → pictures setting.rotated (event ∷ past) ≡ p ∷ pictures setting.rotated past
    → last_picture (entries_in setting (event ∷ past)) ≡ Some p
last_now setting past event p more = is_last setting.first setting.rotated (event ∷ past) p (some_shown setting.first setting.rotated (event ∷ past) p _ more)
    (let P : List (List ℕ) → Type 0 = λ ps. IsLast p ps in subst P (sym more) refl)

-- another picture
pub another_seen : (new : Pictures) (setting : Setting) (past : List Event) (event : Event) (p : List ℕ) → pictures setting.rotated (event ∷ past) ≡ p ∷ pictures setting.rotated past
    → Views new.view setting.rotated (event ∷ past) → new.has_shown ≡ true → new.turned ≡ reverse (picture setting.start) → IsDiff new.mask new.turned p
    → HasSeen new setting (event ∷ past)
another_seen new setting past event p more views shown turned differ =
    let last = last_now setting past event p more in
    record {
      view = views;
      shown = shown ∙ ap (λ (o : Option (List ℕ)). is_some o) (sym last);
      turned = turned;
      mask = λ q is. subst (λ r. IsDiff new.mask new.turned r) (same_Some p q (sym last ∙ is)) differ;
    }

mask_of : (squares : ℕ) (one other p q : List ℕ) → one ≡ p → other ≡ q → squares < 2 ^ 64 → IsDiff squares one other → IsMask squares p q
mask_of squares one other p q e f fits differ =
    let D : List ℕ → List ℕ → Type 0 = λ a b. IsDiff squares a b in
    record { fits = fits; differ = subst (D p) f (subst (λ a. D a other) e differ) }

pub another_shown : (setting : Setting) (past : List Event) (event : Event) (taken : Taken) (p start : List ℕ) (changed turned : ℕ) (moved : Bool)
    → pictures setting.rotated (event ∷ past) ≡ p ∷ pictures setting.rotated past
    → Changes (last_picture (entries_in setting past)) p changed → start ≡ reverse (picture setting.start) → turned < 2 ^ 64 → IsDiff turned start p
    → Valid setting.start → TellsTaken setting past event taken → moved ≡ moves taken.seen → IsShown setting past event (Another changed turned moved)
another_shown setting past event taken p start changed turned moved more changes same within differ valid tells moved_is =
    let new = another_here setting past event p more in
    let M : Bool → Type 0 = λ b. HasMoved setting past event b in
    let now = (entry_here setting.rotated past event p more).1 in (
      record { entry = new.0; another = new.1 },
      subst (λ q. Changes (last_picture (entries_in setting past)) q changed) now changes,
      mask_of turned start p (reverse (picture setting.start)) (picture_of setting.rotated (event ∷ past)) same now within differ,
      subst M (sym moved_is) (has_moved setting past event taken.seen valid new.0 new.1 tells.entry tells.seen),
    )

-- the picture before it, where one square has changed
pub record OneChanged (setting : Setting) (past : List Event) (event : Event) (before p : List ℕ) (square code : ℕ) : Type 0 where
  pub more : pictures setting.rotated (event ∷ past) ≡ p ∷ pictures setting.rotated past
  pub last : last_picture (entries_in setting past) ≡ Some before
  pub is : p ≡ slice_set before square code

pub one_changed : (setting : Setting) (past : List Event) (event : Event) (before p : List ℕ) (square code : ℕ)
    → ChangesPictures (Square square code) (pictures setting.rotated past) (pictures setting.rotated (event ∷ past))
    → IsLast before (pictures setting.rotated past) → IsLast p (pictures setting.rotated (event ∷ past)) → OneChanged setting past event before p square code
one_changed setting past event before p square code changes was now =
    let before_is : before ≡ changes.0 = subst (IsLast before) changes.2 was in
    let p_is : p ≡ slice_set changes.0 square code = subst (IsLast p) changes.3 now in
    record {
      more = changes.3 ∙ ap (λ q. q ∷ pictures setting.rotated past) (sym p_is);
      last = is_last setting.first setting.rotated past before (some_shown setting.first setting.rotated past changes.0 changes.1 changes.2) was;
      is = p_is ∙ ap (λ q. slice_set q square code) (sym before_is);
    }

-- a dump after which another picture stands
pub another_there : (setting : Setting) (past : List Event) (event : Event) (p : List ℕ)
    → ChangesPictures Picture (pictures setting.rotated past) (pictures setting.rotated (event ∷ past)) → IsLast p (pictures setting.rotated (event ∷ past))
    → pictures setting.rotated (event ∷ past) ≡ p ∷ pictures setting.rotated past
another_there setting past event p changes now =
    let p_is : p ≡ changes.0 = subst (IsLast p) changes.1 now in
    changes.1 ∙ ap (λ q. q ∷ pictures setting.rotated past) (sym p_is)

-- where it differs from the one before, if there was one
pub changes_from : (was : Bool) (last : Option (List ℕ)) (before p : List ℕ) (squares : ℕ) → was ≡ is_some last → (was ≡ true → last ≡ Some before)
    → (was ≡ false → squares ≡ 0) → (was ≡ true → IsDiff squares before p) → squares < 2 ^ 64 → Changes last p squares
changes_from true None before p squares is some first later fits = absurd cc
changes_from true (Some q) before p squares is some first later fits =
    record { fits = fits; differ = subst (λ r. IsDiff squares r p) (same_Some before q (sym (some refl))) (later refl) }
changes_from false None before p squares is some first later fits = first refl
changes_from false (Some q) before p squares is some first later fits = absurd cc

pub changes_since : (before p : List ℕ) (squares : ℕ) (last : Option (List ℕ)) → last ≡ Some before → squares < 2 ^ 64 → IsDiff squares before p → Changes last p squares
changes_since before p squares last is fits differ =
    let C : Option (List ℕ) → Type 0 = λ o. Changes o p squares in
    subst C (sym is) (record { fits = fits; differ = differ })
