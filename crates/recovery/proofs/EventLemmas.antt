-- Events with what was put in.
use Rattle.std.proofs.Common.{◌≡◌, ℕ, Bool, true, List, [], ◌∷◌, ◌++◌, reverse, Option, Some, None, refl, sym, ap, subst, ◌∙◌, slice_set, append_assoc}
use Rattle.std.proofs.lemmas.List.{reverse-append}
use Rattle.std.specs.Prelude.{if◌then◌else◌}
use Rattle.dgt_frame.specs.declared.events.Message.TheVariants.{Dump, Update, Time, Other}
use Rattle.dgt_frame.specs.declared.events.Event.{Event}
use Rattle.dgt_frame.specs.declared.events.Event.TheVariants.{Message as MessageEvent, Fault}
use Rattle.dgt_frame.specs.declared.First.{First}
use Rattle.chess_clock.specs.declared.Reading.{Reading}
use Rattle.settle_core.specs.Entries.{Entry}
use Rattle.unseen_pairs.specs.declared.pair.Recovery.{Recovery}
use Rattle.board_events.specs.Entries.{entries, entry_at, is_entry}
use Rattle.board_events.specs.History.{IsInRange, decides, is_trusted, picture_of, reading_at, reading_said, turned}
use Rattle.chess_rules.specs.Picture.{picture}
use Rattle.board_events.specs.Settings.{Setting}
use Rattle.board_events.specs.Session.{entries_in}
use Rattle.board_events.proofs.PictureLemmas.{updated_picture}
use Rattle.pair_frames.specs.Laws.{EndsWhole, IsReadBehind}
use Rattle.pair_frames.specs.PutIn.{dump_of, put_in, time_put_in}
use Rattle.recovery.specs.declared.keeper.Keeper.{Keeper}
use Rattle.recovery.specs.Inside.Keeping.{Keeps, KeepsNext, entries_with}
use Rattle.recovery.specs.Inside.Passing.{Alike, KeepsWithPutIn}

picture_kept : (rotated : Bool) (event : Event) (past written : List Event) → IsInRange event
    → picture_of rotated written ≡ picture_of rotated past → picture_of rotated (event ∷ written) ≡ picture_of rotated (event ∷ past)
unfolding picture_of
picture_kept rotated (MessageEvent (Dump codes)) past written range same = refl
picture_kept rotated (MessageEvent (Update field code)) past written range same =
    sym (updated_picture rotated field code written range.0) ∙ ap (λ (p : List ℕ). slice_set p (turned rotated field) code) same
    ∙ updated_picture rotated field code past range.0
picture_kept rotated (MessageEvent (Time times)) past written range same = same
picture_kept rotated (MessageEvent (Other id size)) past written range same = same
picture_kept rotated (Fault kind) past written range same = same

reading_kept : (first : First) (event : Event) (past written : List Event)
    → reading_at first written ≡ reading_at first past → reading_at first (event ∷ written) ≡ reading_at first (event ∷ past)
reading_kept first (MessageEvent (Dump codes)) past written same = same
reading_kept first (MessageEvent (Update field code)) past written same = same
reading_kept first (MessageEvent (Time times)) past written same = ap (λ (r : Option Reading). if decides times then reading_said first times else r) same
reading_kept first (MessageEvent (Other id size)) past written same = same
reading_kept first (Fault kind) past written same = same

trust_kept : (event : Event) (past written : List Event) → is_trusted written ≡ is_trusted past → is_trusted (event ∷ written) ≡ is_trusted (event ∷ past)
trust_kept (MessageEvent (Dump codes)) past written same = refl
trust_kept (MessageEvent (Update field code)) past written same = same
trust_kept (MessageEvent (Time times)) past written same = same
trust_kept (MessageEvent (Other id size)) past written same = same
trust_kept (Fault kind) past written same = refl

entry_kept : (event : Event) (past written : List Event) → is_trusted written ≡ is_trusted past → is_entry event written ≡ is_entry event past
entry_kept (MessageEvent (Dump codes)) past written same = refl
entry_kept (MessageEvent (Update field code)) past written same = same
entry_kept (MessageEvent (Time times)) past written same = refl
entry_kept (MessageEvent (Other id size)) past written same = refl
entry_kept (Fault kind) past written same = refl

-- The same event after both.
pub alike_event : (setting : Setting) (event : Event) (past written : List Event) → IsInRange event → Alike setting past written
    → Alike setting (event ∷ past) (event ∷ written)
alike_event setting event past written range a = record {
  trust = trust_kept event past written a.trust;
  picture = picture_kept setting.rotated event past written range a.picture;
  reading = reading_kept setting.first event past written a.reading;
}

pub entry_alike : (setting : Setting) (past written : List Event) → Alike setting past written
    → entry_at setting.first setting.rotated written ≡ entry_at setting.first setting.rotated past
entry_alike setting past written a =
    ap (λ (p : List ℕ). let e : Entry = record { picture = p; reading = reading_at setting.first written } in e) a.picture
    ∙ ap (λ (r : Option Reading). let e : Entry = record { picture = picture_of setting.rotated past; reading = r } in e) a.reading

entries_more : (first : First) (rotated : Bool) (event : Event) (past : List Event) → is_entry event past ≡ true
    → entries first rotated (event ∷ past) ≡ entry_at first rotated (event ∷ past) ∷ entries first rotated past
entries_more first rotated event past entered = rw entered refl

entries_alike : (setting : Setting) (event : Event) (past written : List Event) → IsInRange event → Alike setting past written
    → entries_with setting past event None (entries_in setting written) ≡ entries_in setting (event ∷ written)
entries_alike setting event past written range a =
    let next = alike_event setting event past written range a in
    rw (entry_kept event past written a.trust, entry_alike setting (event ∷ past) (event ∷ written) next) refl

-- Nothing is put in.
pub carries_none : (keeper : Keeper) (setting : Setting) (event : Event) (past written : List Event) → IsInRange event → Alike setting past written
    → KeepsNext keeper setting past event None (entries_in setting written) → KeepsWithPutIn keeper setting (event ∷ past) (event ∷ written)
carries_none keeper setting event past written range a next =
    let K : List Entry → Type 0 = λ es. Keeps keeper setting (event ∷ past) es in record {
      keeps = subst K (entries_alike setting event past written range a) next.keeps;
      alike = alike_event setting event past written range a;
    }

-- an entry is of a trusted board
trusted_here : (event : Event) (past : List Event) → is_entry event past ≡ true → is_trusted (event ∷ past) ≡ true
trusted_here (MessageEvent (Dump codes)) past entered = refl
trusted_here (MessageEvent (Update field code)) past entered = entered
trusted_here (MessageEvent (Time times)) past entered = absurd (let n : ⊥ = cc in n)
trusted_here (MessageEvent (Other id size)) past entered = absurd (let n : ⊥ = cc in n)
trusted_here (Fault kind) past entered = absurd (let n : ⊥ = cc in n)

-- The frames of a pair are put in.
pub carries_put : (keeper : Keeper) (setting : Setting) (event : Event) (past written : List Event) (r : Recovery) → IsInRange event → Alike setting past written
    → KeepsNext keeper setting past event (Some r) (entries_in setting written)
    → IsReadBehind setting.first setting.rotated (event ∷ written) (entry_at setting.first setting.rotated (event ∷ past)) r
    → KeepsWithPutIn keeper setting (event ∷ past) (reverse (put_in setting.first setting.rotated (entry_at setting.first setting.rotated (event ∷ past)) r) ++ event ∷ written)
carries_put keeper setting event past written r range a next behind =
    let K : List Entry → Type 0 = λ es. Keeps keeper setting (event ∷ past) es in
    let entered : is_entry event written ≡ true = entry_kept event past written a.trust ∙ (next.finds).0 in
    let entry : Entry = entry_at setting.first setting.rotated (event ∷ past) in
    let more : entries setting.first setting.rotated (event ∷ written) ≡ entry ∷ entries setting.first setting.rotated written =
    entries_more setting.first setting.rotated event written entered
    ∙ ap (λ (e : Entry). e ∷ entries setting.first setting.rotated written) (entry_alike setting (event ∷ past) (event ∷ written) (alike_event setting event past written range a)) in
    record {
      keeps = subst K (sym (rw more at behind.adds)) next.keeps;
      alike = record {
        trust = behind.trust ∙ sym (trusted_here event past (next.finds).0);
        picture = behind.shown;
        reading = behind.reading;
      };
    }

-- What is put in ends with a dump.
pub ends_whole : (first : First) (rotated : Bool) (entry : Entry) (r : Recovery) → EndsWhole (reverse (put_in first rotated entry r))
ends_whole first rotated entry r =
    let a = time_put_in first entry.reading r.reading in
    let b = time_put_in first r.reading entry.reading in
    let last = dump_of rotated entry.picture in
    let front = a ++ dump_of rotated (picture r.middle) ∷ dump_of rotated (picture r.after) ∷ b in
    let is : put_in first rotated entry r ≡ front ++ last ∷ [] = sym (append_assoc a (dump_of rotated (picture r.middle) ∷ dump_of rotated (picture r.after) ∷ b) (last ∷ [])) in
    subst EndsWhole (sym (ap reverse is ∙ reverse-append front (last ∷ []))) tt
