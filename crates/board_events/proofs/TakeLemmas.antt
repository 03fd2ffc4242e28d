-- What a dump and an update do to a session.
use Rattle.std.proofs.Common.{◌≡◌, ℕ, ◌<◌, Bool, true, false, List, [], ◌∷◌, Some, Ok, Err, refl, sym, ap, subst, ◌∙◌, slice_set}
use Rattle.std.specs.declared.alloc.AllocError.{AllocError}
use Rattle.chess_rules.specs.declared.parts.Parts.{Parts}
use Rattle.dgt_frame.specs.declared.events.Message.TheVariants.{Dump, Update, Time, Other}
use Rattle.dgt_frame.specs.declared.events.Event.{Event}
use Rattle.dgt_frame.specs.declared.events.Event.TheVariants.{Message as MessageEvent, Fault}
use Rattle.dgt_frame.specs.declared.First.{First}
use Rattle.settle_core.specs.declared.plies.Seen.{Seen}
use Rattle.settle_core.specs.Entries.{Entry, changed, entry_of, last_picture}
use Rattle.settle_core.specs.Settler.{SettlerState, HasSettled, ReturnsSeen, GivesMove}
use Rattle.board_events.specs.States.{State}
use Rattle.board_events.specs.Settings.{Setting}
use Rattle.board_events.specs.History.{is_trusted, picture_of, turned}
use Rattle.board_events.specs.Entries.{entries, entry_at}
use Rattle.board_events.specs.Session.{HasTakenEvents, TakesInto, entries_in}
use Rattle.board_events.proofs.PictureLemmas.{updated_picture}

-- Of a trusted board the last entry has the present picture.
pub seen_before : (first : First) (rotated : Bool) (past : List Event) → is_trusted past ≡ true
    → (before : Entry) × (earlier : List Entry) × (entries first rotated past ≡ before ∷ earlier) × (before.picture ≡ picture_of rotated past)
unfolding picture_of
seen_before first rotated [] h = cc
seen_before first rotated (MessageEvent (Dump codes) ∷ past) h = (entry_at first rotated (MessageEvent (Dump codes) ∷ past), entries first rotated past, refl, refl)
seen_before first rotated (MessageEvent (Update field code) ∷ past) h = (entry_at first rotated (MessageEvent (Update field code) ∷ past), entries first rotated past, rw h refl, refl)
seen_before first rotated (MessageEvent (Time times) ∷ past) h = seen_before first rotated past h
seen_before first rotated (MessageEvent (Other id size) ∷ past) h = seen_before first rotated past h
seen_before first rotated (Fault kind ∷ past) h = cc

pub entries_updated : (first : First) (rotated : Bool) (field code : ℕ) (past : List Event) → is_trusted past ≡ true
    → entries first rotated (MessageEvent (Update field code) ∷ past) ≡ entry_at first rotated (MessageEvent (Update field code) ∷ past) ∷ entries first rotated past
entries_updated first rotated field code past h = rw h refl

-- The old session with this settler: trusted after a dump, else as it was.
abbrev pub trusting : SettlerState → State → State
trusting settler old = record { settler = settler; first = old.first; rotated = old.rotated; trusted = true; reading = old.reading }

abbrev pub settling : SettlerState → State → State
settling settler old = record old { settler = settler }

abbrev trusted_so : Bool → State → State
trusted_so trusted old = record old { trusted = trusted }

same_state : (old : State) (settler : SettlerState) → settler ≡ old.settler → old.trusted ≡ true → trusting settler old ≡ old
same_state old settler e t = ap (λ (s : SettlerState). trusting s old) e ∙ ap (λ (b : Bool). trusted_so b old) (sym t)

-- A settler took this entry, and one whose picture was the last one left it as it was.
pub record SeesEntry (old new : SettlerState) (start : Parts) (past : List Entry) (entry : Entry) (seen : Seen) : Type 0 where
  pub stands : HasSettled old start past → HasSettled new start (entry ∷ past)
  pub answers : HasSettled old start past → ReturnsSeen start past entry.picture seen
  pub same : HasSettled old start past → last_picture past ≡ Some entry.picture → new ≡ old

-- A settler ran out of memory at this entry: the picture was not the last one, and gives a move.
pub record RefusesEntry (old : SettlerState) (start : Parts) (past : List Entry) (entry : Entry) : Type 0 where
  pub fresh : HasSettled old start past → last_picture past ≡ Some entry.picture → ⊥
  pub moves : HasSettled old start past → GivesMove start past entry.picture

pub dump_taken : (old : State) (settler : SettlerState) (codes picture : List ℕ) (seen : Seen)
    → ((past : List Event) → picture ≡ picture_of old.rotated (MessageEvent (Dump codes) ∷ past))
    → ((start : Parts) (past : List Entry) → SeesEntry old.settler settler start past (entry_of picture old.reading) seen)
    → TakesInto old (MessageEvent (Dump codes)) (Ok (record { asks_dump = false; seen = Some seen })) (trusting settler old)
dump_taken old settler codes picture seen is sees = record {
  stands = λ setting past h.
      let shown : picture ≡ picture_of setting.rotated (MessageEvent (Dump codes) ∷ past) = is past ∙ ap (λ (r : Bool). picture_of r (MessageEvent (Dump codes) ∷ past)) h.rotated in
      let entry : entry_of picture old.reading ≡ entry_at setting.first setting.rotated (MessageEvent (Dump codes) ∷ past) = rw (shown, h.reading) refl in
      record {
        trust = refl;
        reading = h.reading;
        first = h.first;
        rotated = h.rotated;
        settler = subst (λ (e : Entry). HasSettled settler setting.start (e ∷ entries_in setting past)) entry ((sees setting.start (entries_in setting past)).stands h.settler);
      };
  tells = λ setting past h.
      let shown : picture ≡ picture_of setting.rotated (MessageEvent (Dump codes) ∷ past) = is past ∙ ap (λ (r : Bool). picture_of r (MessageEvent (Dump codes) ∷ past)) h.rotated in
      record {
        asks = refl;
        entry = refl;
        seen = subst (λ (p : List ℕ). ReturnsSeen setting.start (entries_in setting past) p seen) shown ((sees setting.start (entries_in setting past)).answers h.settler);
      };
  idle = λ setting past h idle.
      let shown : picture ≡ picture_of setting.rotated (MessageEvent (Dump codes) ∷ past) = is past ∙ ap (λ (r : Bool). picture_of r (MessageEvent (Dump codes) ∷ past)) h.rotated in
      let again : last_picture (entries_in setting past) ≡ Some picture = sym idle.picture ∙ ap (λ (p : List ℕ). Some p) (sym shown) in
      (same_state old settler ((sees setting.start (entries_in setting past)).same h.settler again) (h.trust ∙ sym idle.trust), refl);
  refused = tt;
  memory = λ setting past h. tt;
}

pub dump_refused : (old : State) (settler : SettlerState) (codes picture : List ℕ) (error : AllocError)
    → ((past : List Event) → picture ≡ picture_of old.rotated (MessageEvent (Dump codes) ∷ past))
    → settler ≡ old.settler
    → ((start : Parts) (past : List Entry) → RefusesEntry old.settler start past (entry_of picture old.reading))
    → TakesInto old (MessageEvent (Dump codes)) (Err error) (settling settler old)
dump_refused old settler codes picture error is kept refuses = record {
  stands = λ setting past h. tt;
  tells = λ setting past h. tt;
  idle = λ setting past h idle.
      let shown : picture ≡ picture_of setting.rotated (MessageEvent (Dump codes) ∷ past) = is past ∙ ap (λ (r : Bool). picture_of r (MessageEvent (Dump codes) ∷ past)) h.rotated in
      let again : last_picture (entries_in setting past) ≡ Some picture = sym idle.picture ∙ ap (λ (p : List ℕ). Some p) (sym shown) in
      absurd ((refuses setting.start (entries_in setting past)).fresh h.settler again);
  refused = ap (λ (s : SettlerState). settling s old) kept;
  memory = λ setting past h.
      let shown : picture ≡ picture_of setting.rotated (MessageEvent (Dump codes) ∷ past) = is past ∙ ap (λ (r : Bool). picture_of r (MessageEvent (Dump codes) ∷ past)) h.rotated in
      (refl, subst (λ (p : List ℕ). GivesMove setting.start (entries_in setting past) p) shown ((refuses setting.start (entries_in setting past)).moves h.settler));
}

-- The last entry before an update of a trusted board, and the picture of the update.
record Last (old : State) (setting : Setting) (past : List Event) (field code square : ℕ) : Type 0 where
  trust : is_trusted past ≡ true
  before : Entry
  earlier : List Entry
  are : entries_in setting past ≡ before ∷ earlier
  settled : HasSettled old.settler setting.start (before ∷ earlier)
  shown : slice_set before.picture square code ≡ picture_of setting.rotated (MessageEvent (Update field code) ∷ past)
  entry : changed before square code old.reading ≡ entry_at setting.first setting.rotated (MessageEvent (Update field code) ∷ past)

last_of : (old : State) (setting : Setting) (past : List Event) (field code square : ℕ) → field < 64 → old.trusted ≡ true
    → square ≡ turned old.rotated field → HasTakenEvents old setting past → Last old setting past field code square
last_of old setting past field code square f trusted turns h =
    let trust : is_trusted past ≡ true = sym h.trust ∙ trusted in
    let found = seen_before setting.first setting.rotated past trust in
    let at : square ≡ turned setting.rotated field = turns ∙ ap (λ (r : Bool). turned r field) h.rotated in
    let shown : slice_set found.0.picture square code ≡ picture_of setting.rotated (MessageEvent (Update field code) ∷ past) =
    rw (found.3, at) (updated_picture setting.rotated field code past f) in
    record {
      trust = trust;
      before = found.0;
      earlier = found.1;
      are = found.2;
      settled = subst (λ (es : List Entry). HasSettled old.settler setting.start es) found.2 h.settler;
      shown = shown;
      entry = rw (shown, h.reading) refl;
    }

-- an idle update shows the last picture again
shown_again : (old : State) (setting : Setting) (past : List Event) (field code square : ℕ) (found : Last old setting past field code square)
    → last_picture (entries_in setting (MessageEvent (Update field code) ∷ past)) ≡ last_picture (entries_in setting past)
    → last_picture (found.before ∷ found.earlier) ≡ Some (slice_set found.before.picture square code)
shown_again old setting past field code square found idle =
    let now : last_picture (entries_in setting (MessageEvent (Update field code) ∷ past)) ≡ Some (picture_of setting.rotated (MessageEvent (Update field code) ∷ past)) =
    rw (entries_updated setting.first setting.rotated field code past found.trust) refl in
    ap last_picture (sym found.are) ∙ sym idle ∙ now ∙ ap (λ (p : List ℕ). Some p) (sym found.shown)

pub update_taken : (old : State) (settler : SettlerState) (field code square : ℕ) (seen : Seen) → field < 64 → old.trusted ≡ true
    → square ≡ turned old.rotated field
    → ((start : Parts) (before : Entry) (earlier : List Entry) → SeesEntry old.settler settler start (before ∷ earlier) (changed before square code old.reading) seen)
    → TakesInto old (MessageEvent (Update field code)) (Ok (record { asks_dump = false; seen = Some seen })) (settling settler old)
update_taken old settler field code square seen f trusted turns sees = record {
  stands = λ setting past h.
      let found = last_of old setting past field code square f trusted turns h in
      let told = subst (λ (e : Entry). HasSettled settler setting.start (e ∷ found.before ∷ found.earlier)) found.entry
      ((sees setting.start found.before found.earlier).stands found.settled) in
      record {
        trust = h.trust;
        reading = h.reading;
        first = h.first;
        rotated = h.rotated;
        settler = rw (entries_updated setting.first setting.rotated field code past found.trust)
            (subst (λ (es : List Entry). HasSettled settler setting.start (entry_at setting.first setting.rotated (MessageEvent (Update field code) ∷ past) ∷ es)) (sym found.are) told);
      };
  tells = λ setting past h.
      let found = last_of old setting past field code square f trusted turns h in
      record {
        asks = refl;
        entry = sym found.trust;
        seen = subst (λ (es : List Entry). ReturnsSeen setting.start es (picture_of setting.rotated (MessageEvent (Update field code) ∷ past)) seen) (sym found.are)
            (subst (λ (p : List ℕ). ReturnsSeen setting.start (found.before ∷ found.earlier) p seen) found.shown ((sees setting.start found.before found.earlier).answers found.settled));
      };
  idle = λ setting past h idle.
      let found = last_of old setting past field code square f trusted turns h in
      (ap (λ (s : SettlerState). settling s old) ((sees setting.start found.before found.earlier).same found.settled (shown_again old setting past field code square found idle.picture)), refl);
  refused = tt;
  memory = λ setting past h. tt;
}

pub update_refused : (old : State) (settler : SettlerState) (field code square : ℕ) (error : AllocError) → field < 64 → old.trusted ≡ true
    → square ≡ turned old.rotated field
    → settler ≡ old.settler
    → ((start : Parts) (before : Entry) (earlier : List Entry) → RefusesEntry old.settler start (before ∷ earlier) (changed before square code old.reading))
    → TakesInto old (MessageEvent (Update field code)) (Err error) (settling settler old)
update_refused old settler field code square error f trusted turns kept refuses = record {
  stands = λ setting past h. tt;
  tells = λ setting past h. tt;
  idle = λ setting past h idle.
      let found = last_of old setting past field code square f trusted turns h in
      absurd ((refuses setting.start found.before found.earlier).fresh found.settled (shown_again old setting past field code square found idle.picture));
  refused = ap (λ (s : SettlerState). settling s old) kept;
  memory = λ setting past h.
      let found = last_of old setting past field code square f trusted turns h in (
        found.trust,
        subst (λ (es : List Entry). GivesMove setting.start es (picture_of setting.rotated (MessageEvent (Update field code) ∷ past))) (sym found.are)
            (subst (λ (p : List ℕ). GivesMove setting.start (found.before ∷ found.earlier) p) found.shown ((refuses setting.start found.before found.earlier).moves found.settled)),
      );
}
