-- What is read as silent was told, and a game that resumes is as one that begins.
use Rattle.std.proofs.Common.{◌≡◌, ◌⊎◌, inl, inr, ℕ, Bool, true, false, List, [], ◌∷◌, Option, Some, None, refl, sym, ap, subst, ◌∙◌}
use Rattle.std.specs.Prelude.{◌↔◌, ◌++◌, is_some, map}
use Rattle.dgt_frame.specs.declared.events.Event.{Event}
use Rattle.dgt_frame.specs.Streams.{Timed}
use Rattle.unseen_pairs.specs.declared.pair.Recovery.{Recovery}
use Rattle.board_alarms.specs.declared.chunk.Chunk.{Chunk}
use Rattle.board_endings.specs.Items.{Item as EndItem}
use Rattle.board_endings.specs.Saying.{IsEndAt}
use Rattle.board_endings.specs.declared.news.End.{End}
use Rattle.board_events.specs.Commands.{past_of}
use Rattle.board_events.specs.Entries.{entry_at}
use Rattle.board_events.specs.Settings.{Setting}
use Rattle.board_standing.specs.declared.heard.Event.{Event as Told}
use Rattle.board_standing.specs.declared.heard.Heard.{Heard}
use Rattle.board_standing.specs.declared.heard.Heard.TheVariants.{Stops, Answers, Unplugs, Plugs, Begins}
use Rattle.board_standing.specs.declared.state.Kind.{Kind}
use Rattle.board_standing.specs.declared.state.Kind.TheVariants.{Silent, Unplugged as Gone}
use Rattle.board_standing.specs.Line.{silent_by, silent_since}
use Rattle.board_standing.specs.Meaning.{SilentExactly, UnpluggedExactly, answers, goes, opens, stands, stops}
use Rattle.board_standing.specs.States.{kind_at}
use Rattle.pair_frames.specs.PutIn.{put_in}
use Rattle.board_game.specs.declared.note.Note.{Note}
use Rattle.board_game.specs.declared.note.Note.TheVariants.{Line, Resumes}
use Rattle.board_game.specs.Ending.{IsEndOf, end_items}
use Rattle.board_game.specs.Hearing.{Hears, heard_of, with_heard}
use Rattle.board_game.specs.History.{Adds, Bytes, Came, Item, Makes, News, Noted, Pair, Sent, bytes_of, chunk_of, events_of, put_in_with, with_events, with_found}
use Rattle.board_game.specs.Laws.{ResumesAsBegun}
use Rattle.board_game.specs.Silences.{SilentIsTold, has_stopped, stopped_by}
use Rattle.board_game.proofs.SilenceLemmas.{ended_of_game, shown_of_game, silent_with}
use Rattle.board_standing.proofs.Meaning.{still}

-- What was told of silence, by the items.
abbrev items_stopped : List Item → Bool
items_stopped [] = false
items_stopped (Sent chunk x ∷ items) = items_stopped items
items_stopped (Pair chunk offset r ∷ items) = items_stopped items
items_stopped (Noted at note ∷ items) = stopped_by note (items_stopped items)

events_stopped : (chunk : Chunk) (offset : ℕ) (events : List Event) (items : List Item) → items_stopped (with_events chunk offset events items) ≡ items_stopped items
events_stopped chunk offset [] items = refl
events_stopped chunk offset (event ∷ events) items = events_stopped chunk offset events (Sent chunk (record { offset = offset; event = event }) ∷ items)

found_stopped : (setting : Setting) (past : List Event) (chunk : Chunk) (x : Timed) (found : Option Recovery) (items : List Item)
    → items_stopped (with_found setting past chunk x found items) ≡ items_stopped items
found_stopped setting past chunk x None items = refl
found_stopped setting past chunk x (Some r) items = events_stopped (put_in_with chunk) x.offset
    (put_in setting.first setting.rotated (entry_at setting.first setting.rotated (x.event ∷ past)) r) (Pair chunk x.offset r ∷ Sent chunk x ∷ items)

adds_stopped : (setting : Setting) (recovers : Bool) (chunk : Chunk) (past : List Event) (more : List Timed) (before items : List Item)
    → Adds setting recovers chunk past more before items → items_stopped items ≡ items_stopped before
adds_stopped setting recovers chunk past [] before items adds = ap items_stopped adds
adds_stopped setting recovers chunk past (x ∷ more) before items adds =
    ap items_stopped adds.4 ∙ found_stopped setting (map (λ (t : Timed). t.event) more ++ past) chunk x adds.1 adds.0
    ∙ adds_stopped setting recovers chunk past more before adds.0 adds.2

made_stopped : (setting : Setting) (recovers : Bool) (past : List Came) (items : List Item) → Makes setting recovers past items → items_stopped items ≡ has_stopped past
made_stopped setting recovers [] items m = ap items_stopped m
made_stopped setting recovers (Bytes time bytes ∷ past) items m =
    adds_stopped setting recovers (chunk_of time (bytes_of past ++ bytes)) (past_of m.1) m.2 m.0 items m.6 ∙ made_stopped setting recovers past m.0 m.3
made_stopped setting recovers (News at note ∷ past) items m = ap items_stopped m.2 ∙ ap (stopped_by note) (made_stopped setting recovers past m.0 m.1)

-- What was heard of silence is what was told of it.
line_stopped : (what : Heard) (at : ℕ) (since : Option ℕ) (b : Bool) → is_some since ≡ b → is_some (silent_by what at since) ≡ stopped_by (Line what) b
line_stopped Stops at None b h = refl
line_stopped Stops at (Some since) b h = refl
line_stopped Answers at since b h = refl
line_stopped Unplugs at since b h = refl
line_stopped Plugs at since b h = refl
line_stopped other at since b h = h

note_stopped : (note : Note) (at : ℕ) (earlier : List Told) (b : Bool) → is_some (silent_since earlier) ≡ b
    → is_some (silent_since (with_heard at (heard_of note) earlier)) ≡ stopped_by note b
note_stopped (Line what) at earlier b h = line_stopped what at (silent_since earlier) b h
note_stopped other at earlier b h = h

heard_stopped : (setting : Setting) (items : List Item) (heard : List Told) → Hears setting items heard → is_some (silent_since heard) ≡ items_stopped items
heard_stopped setting [] heard h = ap (λ l. is_some (silent_since l)) h
heard_stopped setting (Sent chunk x ∷ items) heard h =
    let at : ℕ = chunk.when.at in
    ap (λ l. is_some (silent_since l)) h.5
    ∙ ap is_some (silent_with at h.2 (with_heard at h.1 h.0) (ended_of_game h.4.old h.4.new h.2 h.4.ended_is)
    ∙ silent_with at h.1 h.0 (shown_of_game setting (events_of items) x.event h.4.before h.4.after h.1 h.4.shown_is))
    ∙ heard_stopped setting items h.0 h.3
heard_stopped setting (Pair chunk offset r ∷ items) heard h = heard_stopped setting items heard h
heard_stopped setting (Noted at note ∷ items) heard h =
    ap (λ l. is_some (silent_since l)) h.2 ∙ note_stopped note at h.0 (items_stopped items) (heard_stopped setting items h.0 h.1)

either_said : (gone : Bool) (kind : Kind) → ((kind ≡ Gone) ↔ (gone ≡ true)) → ((kind ≡ Silent) ↔ ((gone ≡ false) × (true ≡ true)))
    → (kind ≡ Silent) ⊎ (kind ≡ Gone)
either_said true kind unplugged silent = inr (unplugged.1 refl)
either_said false kind unplugged silent = inl (silent.1 (refl, refl))

pub silent_is_told : SilentExactly → UnpluggedExactly → SilentIsTold
silent_is_told silent unplugged setting recovers past now state stands_for =
    let heard : List Told = stands_for.heard in
    let same : stands stops answers heard ≡ has_stopped past = sym (still heard) ∙ heard_stopped setting stands_for.is_heard.0 heard stands_for.is_heard.2
    ∙ made_stopped setting recovers past stands_for.is_heard.0 stands_for.is_heard.1 in
    let both = silent now heard in (
      λ is. sym same ∙ (both.0 (sym stands_for.kind ∙ is)).1,
      λ told. let S : Bool → Type 0 = λ b. (kind_at now heard ≡ Silent) ↔ ((stands goes opens heard ≡ false) × (b ≡ true)) in
          elim (either_said (stands goes opens heard) (kind_at now heard) (unplugged now heard) (subst S (same ∙ told) both)) [
            | inl s ↦ inl (stands_for.kind ∙ s)
            | inr u ↦ inr (stands_for.kind ∙ u)
          ],
    )

-- A game that resumes.
end_as : (setting : Setting) (recovers : Bool) (past : List Came) (at now : ℕ) (end : End) (one other : Note) → ((items : List Item) → end_items (Noted at one ∷ items) ≡ end_items (Noted at other ∷ items))
    → IsEndOf setting recovers (News at one ∷ past) now end → IsEndOf setting recovers (News at other ∷ past) now end
end_as setting recovers past at now end one other same h =
    let E : List EndItem → Type 0 = λ items. IsEndAt setting items now end in
    (Noted at other ∷ h.1.0, (h.1.0, h.1.1, refl), subst E (ap end_items h.1.2 ∙ same h.1.0) h.2)

pub resumes_as_begun : ResumesAsBegun
resumes_as_begun setting recovers past at now end = (
  end_as setting recovers past at now end Resumes (Line Begins) (λ items. refl),
  end_as setting recovers past at now end (Line Begins) Resumes (λ items. refl),
)
