-- What is told of an event and of what is put in.
use Rattle.std.proofs.Common.{◌≡◌, ℕ, Bool, inl, List, [], ◌∷◌, ◌++◌, map, Option, Some, None, refl, sym, ap, subst, ◌∙◌, append_assoc, append-nil}
use Rattle.dgt_frame.specs.declared.events.Event.{Event}
use Rattle.dgt_frame.specs.Streams.{Timed}
use Rattle.unseen_pairs.specs.declared.pair.Recovery.{Recovery}
use Rattle.board_events.specs.Entries.{entry_at}
use Rattle.board_events.specs.Settings.{Setting}
use Rattle.pair_frames.specs.PutIn.{ShowsWhole, put_in, time_put_in}
use Rattle.recovery.specs.Weaving.{TellsRecovered}
use Rattle.recovery.specs.Inside.Passing.{Adds as AddsPair, added}
use Rattle.board_alarms.specs.declared.chunk.Chunk.{Chunk}
use Rattle.board_game.specs.declared.following.Following.{Following}
use Rattle.board_game.specs.declared.telling.Teller.{Teller}
use Rattle.board_game.specs.History.{Finds, Item, Pair, Sent, events_of, put_in_with, with_events, with_found}
use Rattle.board_game.specs.Inside.Telling.{HasFollowed, HasKept, HasTold, KeepsEvent}
use Rattle.board_game.proofs.ItemLemmas.{events_found}
use Rattle.board_game.proofs.PlainLemmas.{ShowsOnce}

no_events : ShowsOnce → (events : List Event) → ShowsWhole [] events → events ≡ []
no_events once events whole =
    let none : whole.0 ≡ [] = (once [] whole.0 [] 0 0 whole.1 (inl refl, refl)).0 in
    sym whole.2 ∙ ap (λ (ts : List Timed). map (λ (t : Timed). t.event) ts) none

some_events : (front back : List Event) (event : Event) → front ++ event ∷ back ≡ [] → ⊥
some_events [] back event e = cc
some_events (x ∷ front) back event e = cc

-- what is told of an event
abbrev pub TellsWith : Following → Setting → Bool → List Event → List Item → List ℕ → Chunk → Timed → List ℕ → List ℕ → Type 0
TellsWith following setting recovers past items text time x lines lines' = (found : Option Recovery) × (more : List ℕ) × Finds setting recovers past x.event found
    × (lines' ≡ lines ++ more) × HasFollowed following setting recovers (x.event ∷ past) (with_found setting past time x found items) (text ++ more)

none_by : ShowsOnce → (following : Following) (setting : Setting) (recovers : Bool) (past : List Event) (items : List Item) (text more : List ℕ) (time : Chunk) (x : Timed)
    (frames line lines lines' : List ℕ) (found : Option Recovery) → Finds setting recovers past x.event found
    → HasKept following.keeper setting recovers (x.event ∷ past) (added setting past x.event found (events_of items)) → AddsPair setting (x.event ∷ past) x.offset found frames line
    → frames ≡ [] → lines' ≡ (lines ++ more) ++ line → HasTold following.teller setting (Sent time x ∷ items) (text ++ more)
    → TellsWith following setting recovers past items text time x lines lines'
none_by once following setting recovers past items text more time x frames line lines lines' None finds keeps adds none lines_are told =
    (None, more, finds, lines_are ∙ ap (λ (t : List ℕ). (lines ++ more) ++ t) adds.1 ∙ append-nil (lines ++ more), record { keeps = keeps; told = told })
none_by once following setting recovers past items text more time x frames line lines lines' (Some r) finds keeps adds none lines_are told =
    let entry = entry_at setting.first setting.rotated (x.event ∷ past) in
    let events = put_in setting.first setting.rotated entry r in
    let W : List ℕ → Type 0 = λ bytes. ShowsWhole bytes events in
    absurd (some_events (time_put_in setting.first entry.reading r.reading) _ _ (no_events once events (subst W none adds.0)))

-- Nothing is put in.
pub tells_none : ShowsOnce → (following : Following) (setting : Setting) (recovers : Bool) (past : List Event) (items : List Item) (text more : List ℕ) (time : Chunk) (offset : ℕ) (event : Event)
    (frames line lines lines' : List ℕ) → KeepsEvent following.keeper setting recovers past (events_of items) offset event frames line
    → frames ≡ [] → lines' ≡ (lines ++ more) ++ line → HasTold following.teller setting (Sent time (record { offset = offset; event = event }) ∷ items) (text ++ more)
    → TellsWith following setting recovers past items text time (record { offset = offset; event = event }) lines lines'
tells_none once following setting recovers past items text more time offset event frames line lines lines' k none lines_are told =
    none_by once following setting recovers past items text more time (record { offset = offset; event = event }) frames line lines lines' k.found k.finds k.keeps k.adds none lines_are told

-- what tells frames that are put in
abbrev pub PutsIn : Teller → Teller → Chunk → ℕ → List ℕ → List ℕ → List ℕ → Type 0
PutsIn old new time offset frames lines lines' = (setting : Setting) (items : List Item) (text : List ℕ) (events : List Event) → HasTold old setting items text
    → ShowsWhole frames events → (more : List ℕ) × (lines' ≡ lines ++ more) × HasTold new setting (with_events time offset events items) (text ++ more)

-- what notes a pair
abbrev pub NotesPair : Teller → Teller → Chunk → Type 0
NotesPair old new time = (setting : Setting) (items : List Item) (text line : List ℕ) (offset : ℕ) (r : Recovery) → HasTold old setting items text
    → TellsRecovered offset r line → HasTold new setting (Pair time offset r ∷ items) (text ++ line)

put_by : (following : Following) (teller mid : Teller) (setting : Setting) (recovers : Bool) (past : List Event) (items : List Item) (text more : List ℕ) (time : Chunk) (x : Timed)
    (frames line lines told_lines pair_lines lines' : List ℕ) (found : Option Recovery) → Finds setting recovers past x.event found
    → HasKept following.keeper setting recovers (x.event ∷ past) (added setting past x.event found (events_of items)) → AddsPair setting (x.event ∷ past) x.offset found frames line
    → (frames ≡ [] → ⊥) → told_lines ≡ lines ++ more → HasTold teller setting (Sent time x ∷ items) (text ++ more) → pair_lines ≡ told_lines ++ line
    → NotesPair teller mid time → PutsIn mid following.teller (put_in_with time) x.offset frames pair_lines lines'
    → TellsWith following setting recovers past items text time x lines lines'
put_by following teller mid setting recovers past items text more time x frames line lines told_lines pair_lines lines' None finds keeps adds some lines_are told pair_are notes puts =
    absurd (some adds.0)
put_by following teller mid setting recovers past items text more time x frames line lines told_lines pair_lines lines' (Some r) finds keeps adds some lines_are told pair_are notes puts =
    let entry = entry_at setting.first setting.rotated (x.event ∷ past) in
    let events = put_in setting.first setting.rotated entry r in
    let pair = notes setting (Sent time x ∷ items) (text ++ more) line x.offset r told adds.1 in
    let put = puts setting (Pair time x.offset r ∷ Sent time x ∷ items) ((text ++ more) ++ line) events pair adds.0 in
    let all = (more ++ line) ++ put.0 in
    let same : ((text ++ more) ++ line) ++ put.0 ≡ text ++ all =
    ap (λ (t : List ℕ). t ++ put.0) (append_assoc text more line) ∙ append_assoc text (more ++ line) put.0 in
    let T : List ℕ → Type 0 = λ t. HasTold following.teller setting (with_found setting past time x (Some r) items) t in
    let K : List Event → Type 0 = λ es. HasKept following.keeper setting recovers (x.event ∷ past) es in (
      Some r,
      all,
      finds,
      put.1 ∙ ap (λ (t : List ℕ). t ++ put.0) (pair_are ∙ ap (λ (t : List ℕ). t ++ line) lines_are ∙ append_assoc lines more line) ∙ append_assoc lines (more ++ line) put.0,
      record { keeps = subst K (sym (events_found setting past time x (Some r) items)) keeps; told = subst T same put.2 },
    )

-- A pair is put in.
pub tells_put : (following : Following) (teller mid : Teller) (setting : Setting) (recovers : Bool) (past : List Event) (items : List Item) (text more : List ℕ) (time : Chunk) (offset : ℕ) (event : Event)
    (frames line lines told_lines pair_lines lines' : List ℕ) → KeepsEvent following.keeper setting recovers past (events_of items) offset event frames line
    → (frames ≡ [] → ⊥) → told_lines ≡ lines ++ more → HasTold teller setting (Sent time (record { offset = offset; event = event }) ∷ items) (text ++ more)
    → pair_lines ≡ told_lines ++ line → NotesPair teller mid time → PutsIn mid following.teller (put_in_with time) offset frames pair_lines lines'
    → TellsWith following setting recovers past items text time (record { offset = offset; event = event }) lines lines'
tells_put following teller mid setting recovers past items text more time offset event frames line lines told_lines pair_lines lines' k some lines_are told pair_are notes puts =
    put_by following teller mid setting recovers past items text more time (record { offset = offset; event = event }) frames line lines told_lines pair_lines lines' k.found k.finds k.keeps k.adds
    some lines_are told pair_are notes puts

-- Where something is put in, a pair was found.
pub some_pair : (setting : Setting) (past : List Event) (offset : ℕ) (found : Option Recovery) (frames line : List ℕ) → AddsPair setting past offset found frames line
    → (frames ≡ [] → ⊥) → (r : Recovery) × TellsRecovered offset r line
some_pair setting past offset None frames line adds some = absurd (some adds.0)
some_pair setting past offset (Some r) frames line adds some = (r, adds.1)
