-- What a recording has of honest play.
use Rattle.std.proofs.Common.{◌≡◌, ℕ, List, [], ◌∷◌, ◌++◌, length, reverse, Option, Bool, true, false, refl, sym, ap, subst, ◌∙◌}
use Rattle.std.proofs.lemmas.List.{append_assoc, length-map, reverse-append, reverse-reverse}
use Rattle.chess_rules.specs.Valid.{Valid}
use Rattle.dgt_frame.specs.declared.events.Event.{Event}
use Rattle.dgt_frame.specs.Streams.{Shows, Timed}
use Rattle.settle_core.specs.declared.plies.Ply.{Ply}
use Rattle.settle_core.specs.Entries.{Entry, deduplicated}
use Rattle.settle_core.specs.Folding.{score_of}
use Rattle.settle_core.specs.Laws.{GivesScore, joined}
use Rattle.settle_core.specs.HonestPlay.{HasWhole, IsFront}
use Rattle.settle_core.proofs.Fronts.{honest_fronts}
use Rattle.chess_game.specs.Games.{Content, Result}
use Rattle.board_events.specs.declared.setup.Setup.{Setup}
use Rattle.board_events.specs.Commands.{past_of}
use Rattle.board_events.specs.Entries.{entry_at, is_entry}
use Rattle.board_session.specs.Laws.{HonestFrontIsWritten, HonestPlayIsWritten, KingsEndIsWritten, ShowsEntries}
use Rattle.board_events.specs.Settings.{setting_of, Setting}
use Rattle.board_events.specs.Session.{entries_in}
use Rattle.board_events.proofs.CommandLemmas.{past_both}
use Rattle.board_session.proofs.GameLemmas.{honest_clocks_are_recorded, honest_play_is_recorded, kings_end_is_recorded}

-- a stream shows one list of events
abbrev pub ShowsOnce : Type 0
ShowsOnce = (bytes : List ℕ) (events others : List Timed) (rest other : ℕ) → Shows bytes events rest → Shows bytes others other → (events ≡ others) × (rest ≡ other)

-- the first bytes show the first events
abbrev pub ShowsFronts : Type 0
ShowsFronts = (bytes more : List ℕ) (events all : List Timed) (rest last : ℕ)
    → Shows bytes events rest → Shows (bytes ++ more) all last → (later : List Timed) × (all ≡ events ++ later)

-- the entries that the stream of a recording shows
entries_shown : (setting : Setting) (bytes : List ℕ) (shown : List Entry) (events : List Timed) (rest : ℕ) → ShowsOnce
    → Shows bytes events rest → ShowsEntries setting bytes shown → deduplicated (entries_in setting (past_of events)) ≡ deduplicated (reverse shown)
entries_shown setting bytes shown events rest once h s =
    ap (λ (ts : List Timed). deduplicated (entries_in setting (past_of ts))) (once bytes events s.events rest s.rest h s.shows).0 ∙ ap deduplicated s.are

-- the start of a game that was written is valid
pub valid_start : (setup : Setup) (game : Content) → game.start ≡ setup.start → Valid game.start → Valid setup.start
valid_start setup game e v = rw e at v

pub honest_play_is_written : ShowsOnce → HonestPlayIsWritten
honest_play_is_written once setup report bytes sent sent' written written' r moves lists line shown s =
    let setting : Setting = setting_of setup in
    let valid : Valid setup.start = valid_start setup r.game r.game_is.start_is r.text_is.is_game.start in
    let are = entries_shown setting bytes (joined lists) r.events r.rest once r.shows s in
    let plies = honest_clocks_are_recorded setting setup.tags (past_of r.events) r.game moves lists valid line shown are r.game_is in
    let played = honest_play_is_recorded setting setup.tags (past_of r.events) r.game moves lists valid line shown are r.game_is in
    (plies, played.1, r.reports.moves ∙ sym (length-map r.game.plies (λ (ply : Ply). ply.mv)) ∙ ap length played.0)

pub kings_end_is_written : ShowsOnce → KingsEndIsWritten
kings_end_is_written once setup report bytes sent sent' written written' r moves lists clearing later kings outcome line shown a k b s =
    let setting : Setting = setting_of setup in
    let valid : Valid setup.start = valid_start setup r.game r.game_is.start_is r.text_is.is_game.start in
    let are = entries_shown setting bytes (joined lists ++ (clearing ++ kings ∷ later)) r.events r.rest once r.shows s in
    kings_end_is_recorded setting setup.tags (past_of r.events) r.game moves lists clearing later kings outcome valid line shown a k b are r.game_is

-- the entries of more events are those of the first and some more
pub entries_on : (setting : Setting) (later past : List Event) → (more : List Entry) × (entries_in setting (later ++ past) ≡ more ++ entries_in setting past)
entries_on setting [] past = ([], refl)
entries_on setting (event ∷ later) past =
    let on = entries_on setting later past in
    one_more (is_entry event (later ++ past)) refl on
  where
    one_more : (given : Bool) → is_entry event (later ++ past) ≡ given
        → (more : List Entry) × (entries_in setting (later ++ past) ≡ more ++ entries_in setting past)
        → (more : List Entry) × (entries_in setting (event ∷ (later ++ past)) ≡ more ++ entries_in setting past)
    one_more true e on =
        let entry : Entry = entry_at setting.first setting.rotated (event ∷ (later ++ past)) in
        let are : entries_in setting (event ∷ (later ++ past)) ≡ entry ∷ entries_in setting (later ++ past) = rw e refl in
        (entry ∷ on.0, are ∙ ap (λ (es : List Entry). entry ∷ es) on.1)
    one_more false e on =
        let are : entries_in setting (event ∷ (later ++ past)) ≡ entries_in setting (later ++ past) = rw e refl in
        (on.0, are ∙ on.1)

-- the entries taken are the first of those shown
front_of : (setting : Setting) (taken later : List Timed) (shown : List Entry) → entries_in setting (past_of (taken ++ later)) ≡ reverse shown
    → (rest : List Entry) × (shown ≡ reverse (entries_in setting (past_of taken)) ++ rest)
front_of setting taken later shown are =
    let on = entries_on setting (past_of later) (past_of taken) in
    let mine : List Entry = entries_in setting (past_of taken) in
    let both : reverse shown ≡ on.0 ++ mine = sym are ∙ ap (entries_in setting) (past_both taken later) ∙ on.1 in
    (reverse on.0, sym (reverse-reverse shown) ∙ ap reverse both ∙ reverse-append on.0 mine)

pub honest_front_is_written : ShowsFronts → HonestFrontIsWritten
honest_front_is_written fronts setup answer input input' sent sent' written written' r more moves lists line shown s =
    let setting : Setting = setting_of setup in
    let valid : Valid setup.start = valid_start setup r.game r.game_is.start_is r.text_is.is_game.start in
    let later = fronts r.front more (r.taken ++ r.extra) s.events r.rest s.rest r.shows s.shows in
    let events : s.events ≡ r.taken ++ (r.extra ++ later.0) = later.1 ∙ append_assoc r.taken r.extra later.0 in
    let mine : List Entry = entries_in setting (past_of r.taken) in
    let are : entries_in setting (past_of (r.taken ++ (r.extra ++ later.0))) ≡ reverse (joined lists) =
    ap (λ (ts : List Timed). entries_in setting (past_of ts)) (sym events) ∙ s.are in
    let parts = front_of setting r.taken (r.extra ++ later.0) (joined lists) are in
    let folds : GivesScore setup.start (reverse mine) (score_of r.game.plies r.game_is.sign) = rw (reverse-reverse mine) r.game_is.folds in
    let stops = honest_fronts setup.start moves lists (reverse mine) parts.0 (score_of r.game.plies r.game_is.sign) valid line shown parts.1 folds in
    let front : IsFront setup.start moves lists (reverse mine) = (stops.1).0 in
    let P : List Ply → Type 0 = λ ps. HasWhole setup.start front.done front.whole front.part ps in
    let R : Option _ → Type 0 = λ sign. Result setup.start r.game.plies sign r.game.result in
    record {
      rest = parts.0;
      parts = parts.1;
      front = front;
      plies = subst P (reverse-reverse r.game.plies) (stops.1).1;
      result = subst R stops.0 r.game_is.result_is;
    }
