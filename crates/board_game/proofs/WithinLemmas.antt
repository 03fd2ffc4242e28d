-- What stands while the bytes of a piece are taken.
use Rattle.std.proofs.Common.{◌≡◌, ◌+◌, ◌≤◌, ℕ, Bool, List, [], ◌∷◌, ◌++◌, length, map, reverse, Option, refl, sym, ap, subst, ◌∙◌, arith, append_assoc, append-nil, length-append, false}
use Rattle.std.proofs.lemmas.List.{reverse-append, reverse-reverse}
use Rattle.settle_core.proofs.Lines.{map-reverse}
use Rattle.dgt_frame.specs.declared.decode.Decoder.{Decoder}
use Rattle.dgt_frame.specs.declared.events.Event.{Event}
use Rattle.dgt_frame.specs.Decoder.{Decoded, TakesAll}
use Rattle.dgt_frame.specs.Streams.{Shows, Timed}
use Rattle.unseen_pairs.specs.declared.pair.Recovery.{Recovery}
use Rattle.board_events.specs.Commands.{past_of}
use Rattle.board_events.specs.Limits.{limit}
use Rattle.board_events.specs.Settings.{Setting}
use Rattle.board_events.proofs.CommandLemmas.{past_both}
use Rattle.board_alarms.specs.declared.chunk.When.{When}
use Rattle.board_alarms.specs.declared.chunk.Chunk.{Chunk}
use Rattle.board_game.specs.declared.following.Following.{Following}
use Rattle.board_game.specs.declared.game.Game.{Game}
use Rattle.board_game.specs.Games.{StandsFor}
use Rattle.board_game.specs.History.{Adds, Bytes, Came, Finds, Item, bytes_of, chunk_of, with_found}
use Rattle.board_game.specs.Inside.Telling.{HasFollowed, IsWithin}

-- no byte of it yet
pub within_start : (game : Game) (setting : Setting) (recovers : Bool) (past : List Came) (text : List ℕ) (time : Chunk) (lines gathered : List ℕ) → gathered ≡ [] → StandsFor game setting recovers past text
    → IsWithin game.decoder game.following setting recovers past text text time [] lines (lines ++ gathered)
within_start game setting recovers past text time lines gathered none s =
    let D : List ℕ → List Timed → Type 0 = λ bytes events. Decoded game.decoder bytes events in
    record {
      events = s.events;
      later = [];
      earlier = s.items;
      items = s.items;
      more = [];
      decoded = subst (λ bytes. D bytes (s.events ++ [])) (sym (append-nil (bytes_of past))) (subst (D (bytes_of past)) (sym (append-nil s.events)) s.decoded);
      shown = s.shown;
      makes = s.makes;
      adds = refl;
      follows = s.follows;
      text_is = sym (append-nil text);
      lines_are = ap (λ (t : List ℕ). lines ++ t) none;
    }

-- the bytes up to the next event
pub within_more : (old new : Decoder) (following next : Following) (setting : Setting) (recovers : Bool) (past : List Came) (before text : List ℕ) (time : Chunk) (offset : ℕ)
    (bytes piece lines lines' lines'' : List ℕ) (event : Event)
    → ((all : List ℕ) (events : List Timed) → Decoded old all events → length all + length piece ≡ offset + 1
    → Decoded new (all ++ piece) (events ++ record { offset = offset; event = event } ∷ []))
    → length (bytes_of past) + (length bytes + length piece) ≡ offset + 1
    → ((raw : List Event) (items : List Item) → HasFollowed following setting recovers raw items text → (found : Option Recovery) × (more : List ℕ)
    × Finds setting recovers raw event found × (lines'' ≡ lines' ++ more)
    × HasFollowed next setting recovers (event ∷ raw) (with_found setting raw time (record { offset = offset; event = event }) found items) (text ++ more))
    → IsWithin old following setting recovers past before text time bytes lines lines'
    → (text' : List ℕ) × IsWithin new next setting recovers past before text' time (bytes ++ piece) lines lines''
within_more old new following next setting recovers past before text time offset bytes piece lines lines' lines'' event takes ends told w =
    let x : Timed = record { offset = offset; event = event } in
    let raw = map (λ (t : Timed). t.event) w.later ++ past_of w.events in
    let t = told raw w.items w.follows in
    let all = bytes_of past ++ bytes in
    let D : List ℕ → List Timed → Type 0 = λ bs es. Decoded new bs es in
    let decoded = takes all (w.events ++ reverse w.later) w.decoded (omega (arith, ends, length-append (bytes_of past) bytes)) in
    let order : (w.events ++ reverse w.later) ++ x ∷ [] ≡ w.events ++ reverse (x ∷ w.later) =
    append_assoc w.events (reverse w.later) (x ∷ []) ∙ ap (λ (es : List Timed). w.events ++ es) (sym (reverse-append (x ∷ []) w.later)) in (
      text ++ t.1,
      record {
        events = w.events;
        later = x ∷ w.later;
        earlier = w.earlier;
        items = with_found setting raw time x t.0 w.items;
        more = w.more ++ t.1;
        decoded = subst (λ bs. D bs (w.events ++ reverse (x ∷ w.later))) (append_assoc (bytes_of past) bytes piece) (subst (D (all ++ piece)) order decoded);
        shown = w.shown;
        makes = w.makes;
        adds = (w.items, t.0, w.adds, t.2, refl);
        follows = t.4;
        text_is = ap (λ (s : List ℕ). s ++ t.1) w.text_is ∙ append_assoc before w.more t.1;
        lines_are = t.3 ∙ ap (λ (s : List ℕ). s ++ t.1) w.lines_are ∙ append_assoc lines w.more t.1;
      },
    )

-- the bytes behind the last event
pub within_rest : (old new : Decoder) (following : Following) (setting : Setting) (recovers : Bool) (past : List Came) (before text : List ℕ) (time : Chunk)
    (bytes piece lines lines' : List ℕ) → TakesAll old piece new → IsWithin old following setting recovers past before text time bytes lines lines'
    → IsWithin new following setting recovers past before text time (bytes ++ piece) lines lines'
within_rest old new following setting recovers past before text time bytes piece lines lines' takes w =
    let D : List ℕ → Type 0 = λ bs. Decoded new bs (w.events ++ reverse w.later) in
    record {
      events = w.events;
      later = w.later;
      earlier = w.earlier;
      items = w.items;
      more = w.more;
      decoded = subst D (append_assoc (bytes_of past) bytes piece) (takes (bytes_of past ++ bytes) (w.events ++ reverse w.later) w.decoded);
      shown = w.shown;
      makes = w.makes;
      adds = w.adds;
      follows = w.follows;
      text_is = w.text_is;
      lines_are = w.lines_are;
    }

past_within : (events later : List Timed) → past_of (events ++ reverse later) ≡ map (λ (t : Timed). t.event) later ++ past_of events
past_within events later =
    past_both events (reverse later)
    ∙ ap (λ (es : List Event). es ++ past_of events) (sym (map-reverse (λ (t : Timed). t.event) (reverse later))
    ∙ ap (λ (es : List Timed). map (λ (t : Timed). t.event) es) (reverse-reverse later))

abbrev made : When → ℕ → Chunk
made time end = record { when = time; end = end; is_put_in = false }

-- all bytes of it
pub within_end : (game : Game) (setting : Setting) (recovers : Bool) (past : List Came) (before text : List ℕ) (time : When) (chunk : Chunk) (rest : ℕ) (bytes lines lines' lines'' : List ℕ)
    → chunk ≡ made time (length (bytes_of past) + length bytes)
    → lines'' ≡ lines' → IsWithin game.decoder game.following setting recovers past before text chunk bytes lines lines'
    → ((all : List ℕ) (events : List Timed) → Decoded game.decoder all events → Shows all events rest)
    → game.count ≡ length (bytes_of past) + length bytes → length (bytes_of past) + length bytes ≤ limit
    → (more : List ℕ) × (lines'' ≡ lines ++ more) × StandsFor game setting recovers (Bytes time bytes ∷ past) (before ++ more)
within_end game setting recovers past before text time chunk rest bytes lines lines' lines'' chunk_is appended w shows count fits =
    let all = bytes_of past ++ bytes in
    let events = w.events ++ reverse w.later in
    let long = length-append (bytes_of past) bytes in
    let shown = shows all events w.decoded in
    let same : chunk ≡ chunk_of time all = chunk_is ∙ ap (λ (n : ℕ). made time n) (sym long) in
    let A : Chunk → Type 0 = λ c. Adds setting recovers c (past_of w.events) w.later w.earlier w.items in
    let F : List Event → List ℕ → Type 0 = λ raw t. HasFollowed game.following setting recovers raw w.items t in (
      w.more,
      appended ∙ w.lines_are,
      record {
        events = events;
        items = w.items;
        decoded = w.decoded;
        shown = (rest, shown);
        counted = count ∙ sym long;
        within = omega (arith, fits, long);
        makes = (w.earlier, w.events, w.later, w.makes, w.shown, (rest, shown), subst A same w.adds);
        follows = subst (F (past_of events)) w.text_is (subst (λ raw. F raw text) (sym (past_within w.events w.later)) w.follows);
      },
    )
