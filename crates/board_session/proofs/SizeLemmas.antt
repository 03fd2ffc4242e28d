-- How many bytes a game takes.
use Rattle.std.proofs.Common.{◌≡◌, ◌≢◌, ◌⊎◌, inl, inr, ℕ, ◌+◌, ◌*◌, ◌<◌, ◌≤◌, suc, Bool, true, false, List, [], ◌∷◌, ◌++◌, drop, get_or, length, Some, refl, sym, ap, subst, ◌∙◌, arith, length-append}
use Rattle.std.proofs.lemmas.Bool.Decides.{eqb_tells}
use Rattle.std.proofs.lemmas.List.{length-reverse}
use Rattle.std.proofs.lemmas.Option.{same_Some}
use Rattle.chess_rules.specs.declared.chess_move.Move.{Move}
use Rattle.chess_rules.specs.declared.parts.Parts.{Parts}
use Rattle.chess_rules.specs.After.{after}
use Rattle.chess_rules.specs.Picture.{picture}
use Rattle.chess_rules.specs.Valid.{Valid}
use Rattle.dgt_frame.specs.declared.events.Message.TheVariants.{Dump, Update, Time, Other}
use Rattle.dgt_frame.specs.declared.events.Event.{Event}
use Rattle.dgt_frame.specs.declared.events.Event.TheVariants.{Message as MessageEvent, Fault}
use Rattle.dgt_frame.specs.Streams.{Opens, ShowsFrom, Timed}
use Rattle.settle_core.specs.declared.plies.Ply.{Ply}
use Rattle.settle_core.specs.declared.plies.Seen.{Seen}
use Rattle.settle_core.specs.declared.plies.Seen.TheVariants.{Same, Moved, Sign, Replaced, Waits}
use Rattle.settle_core.specs.Entries.{Entry, deduplicated, last_picture, repeats}
use Rattle.settle_core.specs.Folding.{Folds, Replaces, Score, SeenAs, moves_of, score_after, score_of}
use Rattle.settle_core.specs.Settling.{reached}
use Rattle.settle_core.proofs.Growing.{one_more}
use Rattle.settle_core.proofs.Once.{folds_played}
use Rattle.settle_core.proofs.Stages.{valid_reached}
use Rattle.settle_core.proofs.Twice.{DiffersTwice, moves_differ}
use Rattle.settle_core.proofs.Repeats.{repeated_last}
use Rattle.board_events.specs.Commands.{past_of}
use Rattle.board_events.specs.Entries.{entry_at}
use Rattle.board_events.specs.History.{code_of_field, is_trusted, picture_of, turned}
use Rattle.board_events.specs.Settings.{Setting}
use Rattle.board_events.specs.Session.{entries_in}
use Rattle.board_session.specs.Sizes.{FramesAreWithin, MovesTakeTenBytes, WrittenMovesTakeTenBytes, size_of, sizes}
use Rattle.board_session.proofs.LeftLemmas.{start_valid}
use Rattle.board_events.proofs.PictureLemmas.{picture_at, turned_twice}
use Rattle.board_events.proofs.TakeLemmas.{entries_updated, seen_before}
use Rattle.board_events.proofs.CommandLemmas.{past_both}

-- ---- frames

size_opened : (event : Event) (front more : List ℕ) (index : ℕ) → Opens event front more index → size_of event ≤ length front
size_opened (MessageEvent (Dump codes)) front more index h = omega (arith, ap length (h.0).0, (h.0).1)
size_opened (MessageEvent (Update field code)) front more index h = omega (arith, ap length (h.0).0)
size_opened (MessageEvent (Time times)) front more index h = omega (arith, ap length (h.0).0, (h.0).1)
size_opened (MessageEvent (Other id size)) front more index h = omega (arith, (h.0).9)
size_opened (Fault kind) front more index h = omega arith

-- the sizes of events in their order
sizes_in_order : List Timed → ℕ
sizes_in_order [] = 0
sizes_in_order (t ∷ events) = size_of t.event + sizes_in_order events

within : (start : ℕ) (bytes : List ℕ) (events : List Timed) (rest : ℕ) → ShowsFrom start bytes events rest → sizes_in_order events + rest ≤ length bytes
unfolding sizes_in_order
within start bytes [] rest h = omega (arith, h.1)
within start bytes (t ∷ events) rest h =
    omega (
      arith,
      within (start + length h.0) h.1 events rest h.6,
      size_opened t.event h.0 h.1 h.2 h.4,
      ap length h.3,
      length-append h.0 h.1,
    )

sizes_joined : (one other : List Event) → sizes (one ++ other) ≡ sizes one + sizes other
sizes_joined [] other = omega arith
sizes_joined (event ∷ one) other = omega (arith, sizes_joined one other)

sizes_past : (events : List Timed) → sizes (past_of events) ≡ sizes_in_order events
unfolding sizes_in_order
sizes_past [] = refl
sizes_past (t ∷ events) =
    let on : sizes (past_of (t ∷ events)) ≡ sizes (past_of events ++ t.event ∷ []) = ap sizes (past_both (t ∷ []) events) in
    omega (arith, on, sizes_joined (past_of events) (t.event ∷ []), sizes_past events)

pub frames_are_within : FramesAreWithin
frames_are_within bytes events rest h = omega (arith, within 0 bytes events rest h, sizes_past events)

-- ---- moves

-- an update changes one square at most
updates_one : (rotated : Bool) (field code : ℕ) (past : List Event) (square : ℕ) → square < 64
    → get_or (picture_of rotated past) square 0 ≢ get_or (picture_of rotated (MessageEvent (Update field code) ∷ past)) square 0
    → field ≡ turned rotated square
updates_one rotated field code past square low differ =
    elim (eqb_tells field (turned rotated square)) [
      | inl e ↦ e.1
      | inr e ↦
          let same : code_of_field (turned rotated square) (MessageEvent (Update field code) ∷ past) ≡ code_of_field (turned rotated square) past = rw e.0 refl in
          absurd (differ (picture_at rotated past square low ∙ sym same ∙ sym (picture_at rotated (MessageEvent (Update field code) ∷ past) square low)))
    ]

never_twice : (rotated : Bool) (field code : ℕ) (past : List Event)
    → DiffersTwice (picture_of rotated past) (picture_of rotated (MessageEvent (Update field code) ∷ past)) → ⊥
never_twice rotated field code past d =
    let one : field ≡ turned rotated d.one = updates_one rotated field code past d.one d.one_low d.at_one in
    let two : field ≡ turned rotated d.two = updates_one rotated field code past d.two d.two_low d.at_two in
    d.apart (sym (turned_twice rotated d.one d.one_low) ∙ ap (turned rotated) (sym one ∙ two) ∙ turned_twice rotated d.two d.two_low)

-- the last picture, if any, is that of the position reached
abbrev Rests : Setting → List Event → Score → Type 0
Rests setting past score = (seen : List ℕ) → last_picture (entries_in setting past) ≡ Some seen → seen ≡ picture (reached setting.start (moves_of score.plies))

-- ten bytes for each ply, and five more where another picture came after the last one
abbrev Bound : Setting → List Event → Score → Type 0
Bound setting past score = (10 * length score.plies + 5 ≤ sizes past) ⊎ ((10 * length score.plies ≤ sizes past) × Rests setting past score)

at_least : (setting : Setting) (past : List Event) (score : Score) → Bound setting past score → 10 * length score.plies ≤ sizes past
at_least setting past score (inl more) = omega (arith, more)
at_least setting past score (inr same) = same.0

-- an event that gives no entry
no_entry : (setting : Setting) (event : Event) (past : List Event) (score : Score) → entries_in setting (event ∷ past) ≡ entries_in setting past
    → (Folds setting.start (deduplicated (entries_in setting past)) score → Bound setting past score)
    → Folds setting.start (deduplicated (entries_in setting (event ∷ past))) score → Bound setting (event ∷ past) score
no_entry setting event past score are before f =
    let F : List Entry → Type 0 = λ es. Folds setting.start (deduplicated es) score in
    elim (before (subst F are f)) [
      | inl more ↦ inl (omega (arith, more))
      | inr same ↦ inr (omega (arith, same.0), λ seen e. same.1 seen (ap last_picture (sym are) ∙ e))
    ]

-- what was folded before an entry, which repeats the last picture or is new
record Before (start : Parts) (entry : Entry) (past : List Entry) (score : Score) : Type 0 where
  before : Score
  seen : Seen
  folds : Folds start (deduplicated past) before
  shown : SeenAs start (moves_of before.plies) entry.picture seen
  is : score ≡ score_after start before entry.reading seen

split : (start : Parts) (entry : Entry) (past : List Entry) (score : Score) (again : Bool) → repeats entry.picture past ≡ again
    → Folds start (deduplicated (entry ∷ past)) score
    → ((repeats entry.picture past ≡ true) × Folds start (deduplicated past) score) ⊎ Before start entry past score
split start entry past score true e f =
    let same : deduplicated (entry ∷ past) ≡ deduplicated past = rw e refl in
    inl (e, rw same at f)
split start entry past score false e f =
    let new : deduplicated (entry ∷ past) ≡ entry ∷ deduplicated past = rw e refl in
    let F : List Entry → Type 0 = λ es. Folds start es score in
    let g : Folds start (entry ∷ deduplicated past) score = subst F new f in
    inr (record { before = g.0; seen = g.1; folds = g.2; shown = g.3; is = g.4 })

dumped : (setting : Setting) (codes : List ℕ) (past : List Event) (score : Score)
    → ((other : Score) → Folds setting.start (deduplicated (entries_in setting past)) other → Bound setting past other)
    → Folds setting.start (deduplicated (entries_in setting (MessageEvent (Dump codes) ∷ past))) score → Bound setting (MessageEvent (Dump codes) ∷ past) score
dumped setting codes past score bound f =
    let entry : Entry = entry_at setting.first setting.rotated (MessageEvent (Dump codes) ∷ past) in
    elim (split setting.start entry (entries_in setting past) score (repeats entry.picture (entries_in setting past)) refl f) [
      | inl same ↦ inl (omega (arith, at_least setting past score (bound score same.1)))
      | inr b ↦
          inl (omega (
            arith,
            at_least setting past b.before (bound b.before b.folds),
            one_more setting.start entry (entries_in setting past) b.before score b.seen b.is,
          ))
    ]

replaced_length : (start : Parts) (plies : List Ply) (seen : List ℕ) (m : Move) → Replaces start (moves_of plies) seen m
    → suc (length (drop 1 plies)) ≡ length plies
replaced_length start [] seen m h = absurd h
replaced_length start (ply ∷ plies) seen m h = refl

replaced_shows : (start : Parts) (plies : List Ply) (seen : List ℕ) (m : Move) → Replaces start (moves_of plies) seen m
    → seen ≡ picture (after (reached start (moves_of (drop 1 plies))) m)
replaced_shows start [] seen m h = absurd h
replaced_shows start (ply ∷ plies) seen m h = (h.0).shows

-- an update that is a new picture
new_update : (setting : Setting) (field code : ℕ) (past : List Event) (before score : Score) (seen : Seen)
    → Valid (reached setting.start (moves_of before.plies))
    → is_trusted past ≡ true
    → Bound setting past before
    → SeenAs setting.start (moves_of before.plies) (picture_of setting.rotated (MessageEvent (Update field code) ∷ past)) seen
    → score ≡ score_after setting.start before (entry_at setting.first setting.rotated (MessageEvent (Update field code) ∷ past)).reading seen
    → (10 * length score.plies + 5 ≤ 5 + sizes past)
    ⊎ ((10 * length score.plies ≤ 5 + sizes past)
    × (picture_of setting.rotated (MessageEvent (Update field code) ∷ past) ≡ picture (reached setting.start (moves_of score.plies))))
new_update setting field code past before score Same v t b h is = absurd h
new_update setting field code past before score Waits v t b h is =
    let same : length score.plies ≡ length before.plies = ap (λ (s : Score). length s.plies) is in
    inl (omega (arith, at_least setting past before b))
new_update setting field code past before score (Sign outcome) v t b h is =
    let same : length score.plies ≡ length before.plies = ap (λ (s : Score). length s.plies) is in
    inl (omega (arith, at_least setting past before b))
new_update setting field code past before score (Replaced m) v t b h is =
    let same : length score.plies ≡ suc (length (drop 1 before.plies)) = ap (λ (s : Score). length s.plies) is in
    let kept = replaced_length setting.start before.plies _ m h.2 in
    inr (
      omega (arith, at_least setting past before b, same, kept),
      replaced_shows setting.start before.plies _ m h.2 ∙ ap (λ (s : Score). picture (reached setting.start (moves_of s.plies))) (sym is),
    )
new_update setting field code past before score (Moved m) v t (inl more) h is =
    let one : length score.plies ≡ suc (length before.plies) = ap (λ (s : Score). length s.plies) is in
    inr (omega (arith, more, one), h.shows ∙ ap (λ (s : Score). picture (reached setting.start (moves_of s.plies))) (sym is))
new_update setting field code past before score (Moved m) v t (inr same) h is =
    let p : Parts = reached setting.start (moves_of before.plies) in
    let last = seen_before setting.first setting.rotated past t in
    let here : picture_of setting.rotated past ≡ picture p = sym last.3 ∙ same.1 last.0.picture (ap last_picture last.2) in
    let D : List ℕ → Type 0 = λ xs. DiffersTwice xs (picture_of setting.rotated (MessageEvent (Update field code) ∷ past)) in
    let E : List ℕ → Type 0 = λ xs. DiffersTwice (picture p) xs in
    absurd (never_twice setting.rotated field code past (subst D (sym here) (subst E (sym h.shows) (moves_differ p m v h.legal))))

updated : (setting : Setting) (field code : ℕ) (past : List Event) (score : Score) (trusted : Bool) → is_trusted past ≡ trusted → Valid setting.start
    → ((other : Score) → Folds setting.start (deduplicated (entries_in setting past)) other → Bound setting past other)
    → Folds setting.start (deduplicated (entries_in setting (MessageEvent (Update field code) ∷ past))) score
    → Bound setting (MessageEvent (Update field code) ∷ past) score
updated setting field code past score false t v bound f =
    no_entry setting (MessageEvent (Update field code)) past score (rw t refl) (bound score) f
updated setting field code past score true t v bound f =
    let update : Event = MessageEvent (Update field code) in
    let entry : Entry = entry_at setting.first setting.rotated (update ∷ past) in
    let are : entries_in setting (update ∷ past) ≡ entry ∷ entries_in setting past = entries_updated setting.first setting.rotated field code past t in
    let F : List Entry → Type 0 = λ es. Folds setting.start (deduplicated es) score in
    let last : last_picture (entries_in setting (update ∷ past)) ≡ Some entry.picture = ap last_picture are in
    elim (split setting.start entry (entries_in setting past) score (repeats entry.picture (entries_in setting past)) refl (subst F are f)) [
      | inl same ↦
          elim (bound score same.1) [
            | inl more ↦ inl (omega (arith, more))
            | inr rests ↦ inr (omega (arith, rests.0), λ seen e. rests.1 seen (repeated_last entry.picture (entries_in setting past) same.0 ∙ sym last ∙ e))
          ]
      | inr b ↦
          let valid : Valid (reached setting.start (moves_of (b.before).plies)) =
          valid_reached setting.start (moves_of (b.before).plies) v (folds_played setting.start (deduplicated (entries_in setting past)) b.before b.folds) in
          elim (new_update setting field code past b.before score b.seen valid t (bound b.before b.folds) b.shown b.is) [
            | inl more ↦ inl more
            | inr same ↦ inr (same.0, λ seen e. same_Some _ _ (sym e ∙ last) ∙ same.1)
          ]
    ]

bound : (setting : Setting) (past : List Event) (score : Score) → Valid setting.start
    → Folds setting.start (deduplicated (entries_in setting past)) score → Bound setting past score
bound setting [] score v f =
    let none : length score.plies ≡ 0 = ap (λ (s : Score). length s.plies) f in
    inr (omega (arith, none), λ seen e. absurd (let never : ⊥ = cc in never))
bound setting (MessageEvent (Dump codes) ∷ past) score v f = dumped setting codes past score (λ other g. bound setting past other v g) f
bound setting (MessageEvent (Update field code) ∷ past) score v f =
    updated setting field code past score (is_trusted past) refl v (λ other g. bound setting past other v g) f
bound setting (MessageEvent (Time times) ∷ past) score v f = no_entry setting (MessageEvent (Time times)) past score refl (λ g. bound setting past score v g) f
bound setting (MessageEvent (Other id size) ∷ past) score v f =
    no_entry setting (MessageEvent (Other id size)) past score refl (λ g. bound setting past score v g) f
bound setting (Fault kind ∷ past) score v f = no_entry setting (Fault kind) past score refl (λ g. bound setting past score v g) f

pub moves_take_ten_bytes : MovesTakeTenBytes
moves_take_ten_bytes setting tags past game v is =
    omega (
      arith,
      at_least setting past (score_of game.plies is.sign) (bound setting past (score_of game.plies is.sign) v is.folds),
      length-reverse game.plies,
    )

pub written_moves_take_ten_bytes : WrittenMovesTakeTenBytes
written_moves_take_ten_bytes setup left =
    let l = left.leaves in
    omega (
      arith,
      moves_take_ten_bytes (Rattle.board_events.specs.Settings.setting_of setup) setup.tags (past_of l.taken) l.game (start_valid setup left) l.game_is,
      frames_are_within l.front (l.taken ++ l.extra) l.rest l.shows,
      ap sizes (past_both l.taken l.extra),
      sizes_joined (past_of l.extra) (past_of l.taken),
    )
