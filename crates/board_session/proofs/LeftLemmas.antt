-- What a recording leaves, whatever it returned.
use Rattle.std.proofs.Common.{◌≡◌, ◌⊎◌, inl, inr, ℕ, ◌+◌, Bool, true, false, zero, suc, List, [], ◌∷◌, ◌++◌, length, reverse, Option, None, refl, sym, ap, subst, ◌∙◌, append_assoc, arith}
use Rattle.std.proofs.lemmas.List.{append-nil, reverse-append, reverse-reverse}
use Rattle.chess_rules.specs.Valid.{Valid}
use Rattle.dgt_frame.specs.declared.events.Event.{Event}
use Rattle.dgt_frame.specs.declared.events.Event.TheVariants.{Message as MessageEvent, Fault}
use Rattle.dgt_frame.specs.declared.events.FaultKind.TheVariants.{Cut}
use Rattle.dgt_frame.specs.declared.events.Message.TheVariants.{Dump}
use Rattle.dgt_frame.specs.Frames.{Frame}
use Rattle.dgt_frame.specs.Restarts.{RestartsAreShown, cut_at, moved_on}
use Rattle.dgt_frame.specs.Streams.{Shows, Timed}
use Rattle.settle_core.specs.declared.plies.Outcome.{Outcome}
use Rattle.settle_core.specs.declared.plies.Ply.{Ply}
use Rattle.settle_core.specs.Entries.{Entry, deduplicated, repeats}
use Rattle.settle_core.specs.Folding.{Score, score_of}
use Rattle.settle_core.specs.HonestPlay.{HasOneMore, HasWhole, IsFront, shown_plies}
use Rattle.settle_core.specs.Laws.{GivesScore, joined}
use Rattle.settle_core.specs.Settling.{position_after}
use Rattle.settle_core.proofs.Ending.{honest_play_ends, honest_play_stops_anywhere}
use Rattle.settle_core.proofs.Returning.{made_again_stops}
use Rattle.chess_game.specs.Games.{Content, Result}
use Rattle.board_events.specs.declared.setup.Setup.{Setup}
use Rattle.board_session.specs.AnyRecording.{BeginsWithDump, HonestEndIsRecorded, HonestEndIsWritten, HonestStopAnywhereIsRecorded, HonestStopAnywhereIsWritten, KingsInCentreWriteNoMove, Left, MadeAgainIsRecorded, MadeAgainIsWritten, NothingWrittenIsInvented, OnlyTheLastPlyIsRewritten, RestartsAreRecorded, RestartsAreWritten, ResumedEndIsWritten, ResumedPlayIsWritten, ResumedStopIsWritten}
use Rattle.board_events.specs.Commands.{past_of}
use Rattle.board_events.specs.Game.{IsGameOf}
use Rattle.board_session.specs.Laws.{TellTheSame}
use Rattle.board_events.specs.Settings.{setting_of, Setting}
use Rattle.board_events.specs.Session.{entries_in}
use Rattle.board_events.proofs.CommandLemmas.{past_both, past_moved}
use Rattle.board_session.proofs.AnyLemmas.{deduplicated_on, honest_play_resumes, kings_end_resumed_play, kings_in_centre_keep_the_plies, nothing_is_invented, only_the_last_ply_may_change, resumed_play_stops}
use Rattle.board_session.proofs.HonestLemmas.{ShowsFronts, ShowsOnce, entries_on, valid_start}
use Rattle.board_session.proofs.LawLemmas.{faults_before_dumps_can_go}

pub start_valid : (setup : Setup) (left : Left setup) → Valid setup.start
start_valid setup left =
    let l = left.leaves in
    valid_start setup l.game l.game_is.start_is l.text_is.is_game.start

-- the game, over the events in two parts
in_parts : (setup : Setup) (left : Left setup) (first later : List Timed) → left.leaves.taken ≡ first ++ later
    → IsGameOf left.leaves.game (setting_of setup) setup.tags (past_of later ++ past_of first)
in_parts setup left first later e =
    let G : List Event → Type 0 = λ es. IsGameOf left.leaves.game (setting_of setup) setup.tags es in
    subst G (ap past_of e ∙ past_both first later) left.leaves.game_is

pub nothing_written_is_invented : NothingWrittenIsInvented
nothing_written_is_invented setup left =
    nothing_is_invented (setting_of setup) setup.tags (past_of left.leaves.taken) left.leaves.game left.leaves.game_is

-- where all events were taken, what was decoded shows those that were taken
all_taken : (setup : Setup) (left : Left setup) → left.leaves.extra ≡ [] → Shows left.leaves.front left.leaves.taken left.leaves.rest
all_taken setup left none =
    let l = left.leaves in
    let S : List Timed → Type 0 = λ ts. Shows l.front ts l.rest in
    subst S (ap (λ (ts : List Timed). l.taken ++ ts) none ∙ append-nil l.taken) l.shows

pub only_the_last_ply_is_rewritten : ShowsFronts → OnlyTheLastPlyIsRewritten
only_the_last_ply_is_rewritten fronts setup left bytes more events rest before parts none shows is =
    let l = left.leaves in
    let B : List ℕ → Type 0 = λ xs. Shows xs l.taken l.rest in
    let later = fronts bytes more events l.taken rest l.rest shows (subst B parts (all_taken setup left none)) in
    only_the_last_ply_may_change (setting_of setup) setup.tags (past_of later.0) (past_of events) before l.game (start_valid setup left) is
    (in_parts setup left events later.0 later.1)

pub resumed_play_is_written : ResumedPlayIsWritten
resumed_play_is_written setup left first later before moves lists parts agrees on gives =
    honest_play_resumes (setting_of setup) setup.tags (past_of later) (past_of first) before left.leaves.game moves lists (start_valid setup left) agrees on gives
    (in_parts setup left first later parts)

pub resumed_stop_is_written : ResumedStopIsWritten
resumed_stop_is_written setup left first later before moves lists part parts agrees on passes gives =
    resumed_play_stops (setting_of setup) setup.tags (past_of later) (past_of first) before left.leaves.game moves lists part (start_valid setup left) agrees on passes gives
    (in_parts setup left first later parts)

pub resumed_end_is_written : ResumedEndIsWritten
resumed_end_is_written setup left first later before moves lists clearing rest kings outcome parts agrees on a k b gives =
    kings_end_resumed_play (setting_of setup) setup.tags (past_of later) (past_of first) before left.leaves.game moves lists clearing rest kings outcome (start_valid setup left)
    agrees on a k b gives (in_parts setup left first later parts)

pub kings_in_centre_write_no_move : KingsInCentreWriteNoMove
kings_in_centre_write_no_move setup left first later before shown parts is are kings =
    let E : List Event → Type 0 = λ es. entries_in (setting_of setup) es ≡ shown ++ entries_in (setting_of setup) (past_of first) in
    kings_in_centre_keep_the_plies (setting_of setup) setup.tags (past_of later) (past_of first) before left.leaves.game shown (start_valid setup left) is
    (subst E (ap past_of parts ∙ past_both first later) are) kings (in_parts setup left first later parts)

-- the score of a game, where it is known
plies_of_score : (plies shown : List Ply) (sign other : Option Outcome) → score_of plies sign ≡ score_of shown other → plies ≡ shown
plies_of_score plies shown sign other e = sym (reverse-reverse plies) ∙ ap (λ (s : Score). reverse s.plies) e ∙ reverse-reverse shown

line_of : (setting : Setting) (game : Content) (shown : List Ply) (sign other : Option Outcome) → score_of game.plies sign ≡ score_of shown other
    → Result setting.start game.plies sign game.result → (game.plies ≡ shown) × Result setting.start game.plies other game.result
line_of setting game shown sign other e r =
    let R : Option Outcome → Type 0 = λ o. Result setting.start game.plies o game.result in
    (plies_of_score game.plies shown sign other e, subst R (ap (λ (s : Score). s.sign) e) r)

pub honest_end_is_recorded : HonestEndIsRecorded
honest_end_is_recorded setting tags past game moves lists end sign valid line shown a are is =
    let folds : GivesScore setting.start (joined lists ++ end) (score_of game.plies is.sign) = rw are at is.folds in
    line_of setting game (shown_plies setting.start moves lists) is.sign sign
    (honest_play_ends setting.start moves lists end sign (score_of game.plies is.sign) valid line shown a folds) is.result_is

pub honest_stop_anywhere_is_recorded : HonestStopAnywhereIsRecorded
honest_stop_anywhere_is_recorded setting tags past game moves lists end sign first rest valid line shown a parts are is =
    let folds : GivesScore setting.start first (score_of game.plies is.sign) = rw are at is.folds in
    let plies : List Ply = shown_plies setting.start moves lists in
    elim (honest_play_stops_anywhere setting.start moves lists end sign first rest (score_of game.plies is.sign) valid line shown a parts folds) [
      | inl within ↦
          let front : IsFront setting.start moves lists first = (within.1).0 in
          let P : List Ply → Type 0 = λ ps. HasWhole setting.start front.done front.whole front.part ps in
          let R : Option Outcome → Type 0 = λ o. Result setting.start game.plies o game.result in
          inl ((front, subst P (reverse-reverse game.plies) (within.1).1), subst R within.0 is.result_is)
      | inr after ↦
          elim after [
            | inl e ↦ let l = line_of setting game plies is.sign None e is.result_is in inr (l.0, inl l.1)
            | inr e ↦ let l = line_of setting game plies is.sign sign e is.result_is in inr (l.0, inr l.1)
          ]
    ]

pub honest_end_is_written : ShowsOnce → HonestEndIsWritten
honest_end_is_written once setup left moves lists end sign line shown a s none =
    let l = left.leaves in
    let setting : Setting = setting_of setup in
    let same = once l.front l.taken s.events l.rest s.rest (all_taken setup left none) s.shows in
    honest_end_is_recorded setting setup.tags (past_of l.taken) l.game moves lists end sign (start_valid setup left) line shown a
    (ap (λ (ts : List Timed). deduplicated (entries_in setting (past_of ts))) same.0 ∙ s.are) l.game_is

-- a list of which the entries kept are these at its beginning: the latest of them are those of its own beginning
record KeptFrom (entries kept : List Entry) : Type 0 where
  later : List Entry
  past : List Entry
  is : entries ≡ later ++ past
  kept_are : deduplicated past ≡ kept

after_entry : (entry : Entry) (entries kept : List Entry) → KeptFrom entries kept → KeptFrom (entry ∷ entries) kept
after_entry entry entries kept k =
    record { later = entry ∷ k.later; past = k.past; is = ap (λ (es : List Entry). entry ∷ es) k.is; kept_are = k.kept_are }

by_entry : (entry : Entry) (entries kept : List Entry) (again : Bool) → repeats entry.picture entries ≡ again
    → ((front : List Entry) → deduplicated entries ≡ front ++ kept → KeptFrom entries kept)
    → (front : List Entry) → deduplicated (entry ∷ entries) ≡ front ++ kept → KeptFrom (entry ∷ entries) kept
by_entry entry entries kept true r further front h =
    let same : deduplicated (entry ∷ entries) ≡ deduplicated entries = rw r refl in
    after_entry entry entries kept (further front (sym same ∙ h))
by_entry entry entries kept false r further [] h = record { later = []; past = entry ∷ entries; is = refl; kept_are = h }
by_entry entry entries kept false r further (x ∷ front) h =
    let new : deduplicated (entry ∷ entries) ≡ entry ∷ deduplicated entries = rw r refl in
    let both : entry ∷ deduplicated entries ≡ x ∷ (front ++ kept) = sym new ∙ h in
    let tail : deduplicated entries ≡ front ++ kept = cc in
    after_entry entry entries kept (further front tail)

kept_from : (entries more kept : List Entry) → deduplicated entries ≡ more ++ kept → KeptFrom entries kept
kept_from [] [] kept e = record { later = []; past = []; is = refl; kept_are = e }
kept_from [] (x ∷ more) kept e = absurd (let never : ⊥ = cc in never)
kept_from (entry ∷ entries) more kept e =
    by_entry entry entries kept (repeats entry.picture entries) refl (λ front h. kept_from entries front kept h) more e

pub honest_stop_anywhere_is_written : ShowsFronts → HonestStopAnywhereIsWritten
honest_stop_anywhere_is_written fronts setup left more moves lists end sign line shown a s =
    let l = left.leaves in
    let setting : Setting = setting_of setup in
    let all : List Entry = joined lists ++ end in
    let later = fronts l.front more (l.taken ++ l.extra) s.events l.rest s.rest l.shows s.shows in
    let events : s.events ≡ l.taken ++ (l.extra ++ later.0) = later.1 ∙ append_assoc l.taken l.extra later.0 in
    let on = entries_on setting (past_of (l.extra ++ later.0)) (past_of l.taken) in
    let mine : List Entry = entries_in setting (past_of l.taken) in
    let kept = deduplicated_on on.0 mine in
    let are : deduplicated (reverse all) ≡ kept.0 ++ deduplicated mine =
    sym s.are ∙ ap (λ (ts : List Timed). deduplicated (entries_in setting (past_of ts))) events
    ∙ ap (λ (es : List Event). deduplicated (entries_in setting es)) (past_both l.taken (l.extra ++ later.0)) ∙ ap deduplicated on.1 ∙ kept.1 in
    let from : KeptFrom (reverse all) (deduplicated mine) = kept_from (reverse all) kept.0 (deduplicated mine) are in
    let first : List Entry = reverse from.past in
    let parts : all ≡ first ++ reverse from.later = sym (reverse-reverse all) ∙ ap reverse from.is ∙ reverse-append from.later from.past in
    let taken : deduplicated mine ≡ deduplicated (reverse first) = sym from.kept_are ∙ ap deduplicated (sym (reverse-reverse from.past)) in
    record {
      first = first;
      rest = reverse from.later;
      parts = parts;
      taken_are = taken;
      game_is = honest_stop_anywhere_is_recorded setting setup.tags (past_of l.taken) l.game moves lists end sign first (reverse from.later) (start_valid setup left) line shown a
          parts taken l.game_is;
    }

pub made_again_is_recorded : MadeAgainIsRecorded
made_again_is_recorded setting tags past game moves lists part valid line shown passes are is =
    let folds : GivesScore setting.start (joined lists ++ part) (score_of game.plies is.sign) = rw are at is.folds in
    let stops = made_again_stops setting.start moves lists part (score_of game.plies is.sign) valid line shown passes folds in
    let made = stops.1 in
    let M : List Ply → Type 0 = λ ps. (ps ≡ made.0) ⊎ HasOneMore (position_after setting.start moves) made.0 part ps in
    let R : Option Outcome → Type 0 = λ o. Result setting.start game.plies o game.result in
    ((made.0, made.1, subst M (reverse-reverse game.plies) made.2), subst R stops.0 is.result_is)

pub made_again_is_written : ShowsOnce → MadeAgainIsWritten
made_again_is_written once setup left moves lists part line shown passes s none =
    let l = left.leaves in
    let setting : Setting = setting_of setup in
    let same = once l.front l.taken s.events l.rest s.rest (all_taken setup left none) s.shows in
    made_again_is_recorded setting setup.tags (past_of l.taken) l.game moves lists part (start_valid setup left) line shown passes
    (ap (λ (ts : List Timed). deduplicated (entries_in setting (past_of ts))) same.0 ∙ s.are) l.game_is

-- ---- restarts

tells_itself : (setting : Setting) (past : List Event) → TellTheSame setting past past
tells_itself setting past = record { pictures = refl; game = λ tags game. (λ x. x, λ x. x); text = λ tags text. (λ x. x, λ x. x) }

-- the first event of bytes that begin with a dump
record DumpFirst (bytes : List ℕ) (events : List Timed) : Type 0 where
  codes : List ℕ
  offset : ℕ
  later : List Timed
  are : events ≡ record { offset = offset; event = MessageEvent (Dump codes) } ∷ later

dump_first : ShowsFronts → (bytes : List ℕ) (events : List Timed) (rest : ℕ) → BeginsWithDump bytes → Shows bytes events rest → DumpFirst bytes events
dump_first fronts bytes events rest begins shows =
    let codes : List ℕ = begins.0 in
    let frame : List ℕ = begins.1 in
    let is : Frame (Dump codes) frame = begins.3 in
    let size : 66 + 1 ≡ length frame = omega (arith, ap length is.0, is.1) in
    let alone : Shows frame (record { offset = 66; event = MessageEvent (Dump codes) } ∷ []) 0 =
    (frame, [], 66, sym (append-nil frame), (is, size), refl, (inl refl, refl)) in
    let S : List ℕ → Type 0 = λ xs. Shows xs events rest in
    let later = fronts frame begins.2 (record { offset = 66; event = MessageEvent (Dump codes) } ∷ []) events 0 rest alone (subst S begins.4 shows) in
    record { codes = codes; offset = 66; later = later.0; are = later.1 }

-- the cut, if any, before a dump
cut_can_go : (setting : Setting) (offset rest : ℕ) (again : List ℕ) (others events : List Timed) → DumpFirst again others
    → TellTheSame setting ((past_of others ++ past_of (cut_at offset rest)) ++ past_of events) (past_of others ++ past_of events)
cut_can_go setting offset zero again others events d =
    let T : List Event → Type 0 = λ es. TellTheSame setting (es ++ past_of events) (past_of others ++ past_of events) in
    subst T (sym (append-nil (past_of others))) (tells_itself setting (past_of others ++ past_of events))
cut_can_go setting offset (suc n) again others events d =
    let later : List Event = past_of d.later in
    let before : List Event = past_of events in
    let dump : Event = MessageEvent (Dump d.codes) in
    let are : past_of others ≡ later ++ dump ∷ [] = ap past_of d.are ∙ past_both (record { offset = d.offset; event = dump } ∷ []) d.later in
    let one : (past_of others ++ Fault Cut ∷ []) ++ before ≡ later ++ dump ∷ Fault Cut ∷ before =
    ap (λ (es : List Event). (es ++ Fault Cut ∷ []) ++ before) are ∙ append_assoc (later ++ dump ∷ []) (Fault Cut ∷ []) before ∙ append_assoc later (dump ∷ []) (Fault Cut ∷ before) in
    let two : past_of others ++ before ≡ later ++ dump ∷ before = ap (λ (es : List Event). es ++ before) are ∙ append_assoc later (dump ∷ []) before in
    let L : List Event → Type 0 = λ es. TellTheSame setting es (past_of others ++ before) in
    let R : List Event → Type 0 = λ es. TellTheSame setting (later ++ dump ∷ Fault Cut ∷ before) es in
    subst L (sym one) (subst R (sym two) (faults_before_dumps_can_go setting later [] before d.codes Cut tt))

pub restarts_are_recorded : ShowsOnce → ShowsFronts → RestartsAreShown → RestartsAreRecorded
restarts_are_recorded once fronts joins setting first again events others all rest last end begins h k j =
    let d : DumpFirst again others = dump_first fronts again others last begins k in
    let is : Frame (Dump begins.0) begins.1 = begins.3 in
    let more : List ℕ = 0x00 ∷ 0x43 ∷ (begins.0 ++ begins.2) in
    let bytes : again ≡ 0x86 ∷ more = begins.4 ∙ ap (λ (xs : List ℕ). xs ++ begins.2) is.0 in
    let S : List ℕ → Type 0 = λ xs. Shows xs others last in
    let J : List ℕ → Type 0 = λ xs. Shows (first ++ xs) all end in
    let cut : List Timed = cut_at (length first) rest in
    let moved : List Timed = moved_on (length first) others in
    let shown : Shows (first ++ 0x86 ∷ more) (events ++ cut ++ moved) last =
    joins first more 0x86 events others rest last (omega arith) h (subst S bytes k) in
    let same = once (first ++ 0x86 ∷ more) all (events ++ cut ++ moved) end last (subst J bytes j) shown in
    let are : past_of all ≡ (past_of others ++ past_of cut) ++ past_of events =
    ap past_of same.0 ∙ past_both (events ++ cut) moved ∙ ap (λ (es : List Event). past_of moved ++ es) (past_both events cut)
    ∙ ap (λ (es : List Event). es ++ (past_of cut ++ past_of events)) (past_moved (length first) others)
    ∙ sym (append_assoc (past_of others) (past_of cut) (past_of events)) in
    let T : List Event → Type 0 = λ es. TellTheSame setting es (past_of others ++ past_of events) in
    subst T (sym are) (cut_can_go setting (length first) rest again others events d)

pub restarts_are_written : ShowsOnce → ShowsFronts → RestartsAreShown → RestartsAreWritten
restarts_are_written once fronts joins setup left first again events others rest last begins h k parts none =
    let l = left.leaves in
    let B : List ℕ → Type 0 = λ xs. Shows xs l.taken l.rest in
    let same : TellTheSame (setting_of setup) (past_of l.taken) (past_of others ++ past_of events) =
    restarts_are_recorded once fronts joins (setting_of setup) first again events others l.taken rest last l.rest begins h k (subst B parts (all_taken setup left none)) in
    (same.game setup.tags l.game).0 l.game_is
