-- Idle events have no line of `watch`.
use Rattle.std.proofs.Common.{◌≡◌, ◌∙◌, inl, inr, ℕ, Bool, true, false, List, [], ◌∷◌, ◌++◌, codes, length, Option, Some, ap, refl, sym, subst, append-nil, arith}
use Rattle.std.specs.Prelude.{decimal}
use Rattle.std.specs.List.{flat_map}
use Rattle.std.proofs.lemmas.Option.{same_Some}
use Rattle.std.proofs.lemmas.Slice.Eq.{bytes_eq-Decides}
use Rattle.chess_clock.specs.declared.Reading.{Reading}
use Rattle.dgt_frame.specs.declared.First.{First}
use Rattle.dgt_frame.specs.declared.events.Event.{Event}
use Rattle.dgt_frame.specs.declared.events.Event.TheVariants.{Message, Fault}
use Rattle.dgt_frame.specs.declared.events.Message.TheVariants.{Dump, Update, Time, Other}
use Rattle.dgt_frame.specs.Streams.{Timed}
use Rattle.settle_core.specs.Entries.{Entry, last_picture, repeats}
use Rattle.board_events.specs.Entries.{Idle, entries, entry_at, is_entry}
use Rattle.board_events.specs.History.{is_trusted, picture_of, reading_at}
use Rattle.board_events.specs.Pictures.{pictures}
use Rattle.board_events.specs.Session.{entries_in}
use Rattle.board_events.specs.Settings.{Setting}
use Rattle.board_events.proofs.ViewLemmas.{pictures_none, pictures_same}
use Rattle.board_listing.specs.GameText.{reached_by}
use Rattle.board_listing.specs.GivenGame.{GameLine, text_of}
use Rattle.board_listing.specs.WatchLaws.{IdleEventsTellNothing, LastDumpIs}
use Rattle.board_listing.specs.WatchText.{ShowsPicture, ShowsReading, WatchesEvent, with_position}
use Rattle.board_listing.proofs.FollowLemmas.{entries_new}
use Rattle.board_listing.proofs.TextLemmas.{never_empty}

-- ---- no lines

no_lines : (lines : List GameLine) → text_of lines ≡ [] → lines ≡ []
no_lines [] is = refl
no_lines (told ∷ earlier) is = absurd (never_empty (text_of earlier) (decimal told.offset ++ codes " " ++ told.words) (sym is))

longer : (picture : List ℕ) (old new : List (List ℕ)) → new ≡ old → new ≡ picture ∷ old → ⊥
longer picture old new same more =
    let short : length new ≡ length old = ap length same in
    let long : length new ≡ length (picture ∷ old) = ap length more in
    omega (arith, short, long)

no_pictured : (offset : ℕ) (old new : List (List ℕ)) (lines : List GameLine) → ShowsPicture offset old new lines → new ≡ old → lines ≡ []
no_pictured offset old new lines (inl (same, none)) is = none
no_pictured offset old new lines (inr (picture, newest, shown)) is = absurd (longer picture old new is newest)

no_timed : (offset : ℕ) (old new : Option Reading) (lines : List GameLine) → ShowsReading offset old new lines → new ≡ old → lines ≡ []
no_timed offset old new lines (inl (same, none)) is = none
no_timed offset old new lines (inr (other, shown)) is = absurd (other is)

-- the lines of an event that shows no picture and says nothing of the game
only_timed : (setting : Setting) (past : List Event) (x : Timed) (lines : List GameLine) (e : WatchesEvent setting past x lines)
    → pictures setting.rotated (x.event ∷ past) ≡ pictures setting.rotated past → text_of e.followed ≡ [] → lines ≡ e.timed
only_timed setting past x lines e same none =
    let p = reached_by setting.start e.score in
    e.lines_are ∙ ap (λ ls. e.timed ++ (flat_map (with_position p) ls ++ e.pictured)) (no_lines e.followed none)
    ∙ ap (λ ls. e.timed ++ ls) (no_pictured x.offset _ _ e.pictured e.picture_is same) ∙ append-nil e.timed

-- ---- idle events

again : (picture : List ℕ) (past : List Entry) → Some picture ≡ last_picture past → repeats picture past ≡ true
again picture [] h = absurd (let never : ⊥ = cc in never)
again picture (before ∷ past) h = let d = bytes_eq-Decides picture before.picture in d.1 (same_Some _ _ h)

idle_by : (setting : Setting) (past : List Event) (x : Timed) (lines : List GameLine) (e : WatchesEvent setting past x lines) → Idle setting.first setting.rotated past x.event
    → (entry : Bool) → is_entry x.event past ≡ entry → lines ≡ e.timed
idle_by setting past x lines e idle false is = only_timed setting past x lines e (pictures_none setting.rotated past x.event is) (e.follows.other idle.message is)
idle_by setting past x lines e idle true is =
    let here = entry_at setting.first setting.rotated (x.event ∷ past) in
    let repeated : repeats here.picture (entries_in setting past) ≡ true =
    again here.picture (entries_in setting past) (ap last_picture (sym (entries_new setting x.event past is)) ∙ idle.picture) in
    only_timed setting past x lines e (pictures_same setting.first setting.rotated past x.event is repeated) (e.follows.repeated is repeated)

nothing : (setting : Setting) (past : List Event) (x : Timed) (lines : List GameLine) → Idle setting.first setting.rotated past x.event → WatchesEvent setting past x lines → lines ≡ []
nothing setting past x lines idle e = idle_by setting past x lines e idle (is_entry x.event past) refl ∙ no_timed x.offset _ _ e.timed e.reading_is idle.reading

-- ---- a dump that comes again

dump_trusted : (codes : List ℕ) (past : List Event) → LastDumpIs codes past → is_trusted past ≡ true
dump_trusted codes [] h = absurd h
dump_trusted codes (Message (Dump others) ∷ past) h = refl
dump_trusted codes (Message (Update field code) ∷ past) h = absurd h
dump_trusted codes (Message (Time times) ∷ past) h = dump_trusted codes past h
dump_trusted codes (Message (Other id size) ∷ past) h = dump_trusted codes past h
dump_trusted codes (Fault kind ∷ past) h = absurd h

same_dumped : (rotated : Bool) (codes others : List ℕ) (a b : List Event) → codes ≡ others
    → Some (picture_of rotated (Message (Dump codes) ∷ a)) ≡ Some (picture_of rotated (Message (Dump others) ∷ b))
unfolding picture_of
same_dumped rotated codes others a b is = ap (λ c. Some (picture_of rotated (Message (Dump c) ∷ b))) is

dump_last : (first : First) (rotated : Bool) (codes : List ℕ) (now past : List Event) → LastDumpIs codes past
    → Some (picture_of rotated (Message (Dump codes) ∷ now)) ≡ last_picture (entries first rotated past)
dump_last first rotated codes now [] h = absurd h
dump_last first rotated codes now (Message (Dump others) ∷ past) h = same_dumped rotated codes others now past h
dump_last first rotated codes now (Message (Update field code) ∷ past) h = absurd h
dump_last first rotated codes now (Message (Time times) ∷ past) h = dump_last first rotated codes now past h
dump_last first rotated codes now (Message (Other id size) ∷ past) h = dump_last first rotated codes now past h
dump_last first rotated codes now (Fault kind ∷ past) h = absurd h

dumps : (first : First) (rotated : Bool) (past : List Event) (codes : List ℕ) → LastDumpIs codes past → Idle first rotated past (Message (Dump codes))
dumps first rotated past codes h =
    record { message = refl; trust = sym (dump_trusted codes past h); picture = dump_last first rotated codes past past h; reading = refl }

others : (first : First) (rotated : Bool) (past : List Event) (id size : ℕ) → Idle first rotated past (Message (Other id size))
others first rotated past id size = record { message = refl; trust = refl; picture = refl; reading = refl }

times_told : (setting : Setting) (past : List Event) (offset : ℕ) (times : List ℕ) (lines : List GameLine)
    → WatchesEvent setting past (record { offset = offset; event = Message (Time times) }) lines
    → ShowsReading offset (reading_at setting.first past) (reading_at setting.first (Message (Time times) ∷ past)) lines
times_told setting past offset times lines e =
    let x : Timed = record { offset = offset; event = Message (Time times) } in
    let S : List GameLine → Type 0 = λ ls. ShowsReading offset (reading_at setting.first past) (reading_at setting.first (Message (Time times) ∷ past)) ls in
    subst S (sym (only_timed setting past x lines e (pictures_none setting.rotated past (Message (Time times)) refl) (e.follows.other refl refl))) e.reading_is

pub idle_events_tell_nothing : IdleEventsTellNothing
idle_events_tell_nothing = record { nothing = nothing; dumps = dumps; others = others; times = times_told }
