-- What the subcommands do, from the arguments that ask for it.
use Rattle.std.proofs.Common.{◌≡◌, ℕ, List, Option, Bool, false, codes, inl, inr, subst, sym, arith, ◌∙◌}
use Rattle.std.specs.Io.KnownBytes.{Keeps}
use Rattle.clap.specs.Walk.{Row, Text, first_of}
use Rattle.chess_rules.specs.declared.parts.Parts.{Parts}
use Rattle.board_events.specs.Limits.{limit}
use Rattle.board_events.specs.Settings.{Setting}
use Rattle.board_events.specs.declared.setup.Setup.{Setup}
use Rattle.board_listing.specs.EventLines.{rest_line}
use Rattle.board_listing.specs.OneText.{event_lines, no_line, picture_lines}
use Rattle.board_listing.specs.declared.listing.Listing.{Listing}
use Rattle.board_listing.specs.declared.listing.Listing.TheVariants.{Game, Watched}
use Rattle.dgt_frame.specs.Streams.{Timed}
use Rattle.chess_game.specs.declared.values.Tag.{Tag}
use Rattle.replay_arguments.specs.declared.arguments.Subcommand.{Subcommand}
use Rattle.replay_arguments.specs.Subcommands.{Asks, AsksFor, AsksForPictures, AsksForTimes, AsksToAdd, AsksToAttend, AsksToCheck, AsksToFollow, AsksToGoBack, AsksToRecord, AsksToRecover, AsksToReplace, AsksToShow, AsksToWatch}
use Rattle.replay_arguments.specs.Setups.{SetsUpNothing, tag_text}
use Rattle.chess_text.specs.Start.{HasNoStart, StartsAt, given}
use Rattle.replay_arguments.specs.TagOptions.{option_of}
use Rattle.text_subcommands.specs.Checked.{RefusesPgn, text_limit, Checks}
use Rattle.text_subcommands.specs.Timed.{RefusesTimes, TellsTimes, times_limit}
use Rattle.dgt_replay.specs.Add.{AddsLine}
use Rattle.dgt_replay.specs.Back.{TakesBack}
use Rattle.dgt_replay.specs.Instead.{PutsInstead}
use Rattle.dgt_replay.specs.Edit.{Edits, text_in}
use Rattle.dgt_replay.proofs.EditLemmas.{puts_memory}
use Rattle.dgt_replay.specs.Does.{AttendsBoard, Lists, Records, RecoversPairs, WritesText}
use Rattle.dgt_replay.specs.Inside.Dispatching.{Does}
use Rattle.text_subcommands.specs.Played.{Plays, RefusesMoves, line_limit}
use Rattle.text_subcommands.specs.Printed.{Prints}
use Rattle.text_subcommands.specs.Refusals.{Refuses, Untouched, RefusesStart}
use Rattle.text_subcommands.specs.Messages.{IsTooLong, Says}
use Rattle.dgt_replay.specs.Refusals.{RefusesSetup}
use Rattle.text_subcommands.specs.Streams.{Streams}
use Rattle.dgt_replay.proofs.EndLemmas.{ends_for_memory, none_read, not_both}
use Rattle.text_subcommands.proofs.MessageLemmas.{tells_alike, tells_memory}
use Rattle.dgt_replay.proofs.RefusalLemmas.{refuses_alike}
use Rattle.dgt_replay.proofs.SetupLemmas.{meets, meets_nothing, meets_board}
use Rattle.dgt_replay.proofs.SubcommandLemmas.{add_chosen, back_chosen, chooses_check, chooses_follow, chooses_pictures, chooses_record, chooses_recover, chooses_show, chooses_times, chooses_watch, follow_chosen, instead_chosen, live_chosen, moves_chosen, positions_chosen, record_chosen, recover_chosen, watch_chosen}

-- Memory ran out before anything was read, or written to the output.
pub record LacksMemory (status : ℕ) (s : Streams) : Type 0 where
  pub four : status ≡ 4
  pub untouched : Untouched s
  pub says : Says s.said s.said' s.err_failed (codes "memory\n")
  pub reading : s.reader_failed ≡ false

pub lacks_memory : (status : ℕ) (s : Streams) → Keeps s.input s.input' → s.reader_failed ≡ false → (status ≡ 4) × Keeps s.written s.written' × Says s.said s.said' s.err_failed (codes "memory\n") → LacksMemory status s
lacks_memory status s unread reading ended = record { four = ended.0; untouched = (unread, ended.1); says = ended.2; reading = reading }

-- Each subcommand may end so.
pub text_memory : (lines : List Timed → List ℕ) (last : ℕ → List ℕ) (status : ℕ) (s : Streams) → LacksMemory status s → WritesText lines last status s
text_memory lines last status s lacks =
    let four : status ≡ 4 = lacks.four in
    record {
      ends = record {
        done = λ e. absurd (omega arith);
        long = λ e. absurd (omega arith);
        fault = λ e. absurd (omega arith);
        memory = λ e. lacks.untouched;
        known = (3, omega arith, sym four);
        bounded = none_read limit s.input s.input' lacks.untouched.0;
        whole = λ e. absurd (omega arith);
        read = λ e. not_both s.reader_failed e lacks.reading;
      };
      tells = tells_memory status IsTooLong s.said s.said' s.reader_failed s.out_failed s.err_failed four lacks.says;
    }

pub lists_memory : (listing : Listing) (status : ℕ) (s : Streams) → LacksMemory status s → Lists listing status s
lists_memory listing status s lacks = record {
  ends = ends_for_memory listing status s.input s.input' s.written s.written' s.reader_failed s.out_failed lacks.four lacks.untouched.0 lacks.untouched.1 lacks.reading;
  tells = tells_memory status IsTooLong s.said s.said' s.reader_failed s.out_failed s.err_failed lacks.four lacks.says;
}

pub records_memory : (setup : Setup) (status : ℕ) (s : Streams) → LacksMemory status s → Records setup status s
records_memory setup status s lacks =
    let four : status ≡ 4 = lacks.four in
    record {
      done = λ e. absurd (omega arith);
      long = λ e. absurd (omega arith);
      fails = λ e. absurd (omega arith);
      memory = λ e. inr (lacks.untouched, lacks.says);
    }

pub recovers_memory : (setting : Setting) (status : ℕ) (s : Streams) → LacksMemory status s → RecoversPairs setting status s
recovers_memory setting status s lacks =
    let four : status ≡ 4 = lacks.four in
    record {
      done = λ e. absurd (omega arith);
      long = λ e. absurd (omega arith);
      fault = λ e. absurd (omega arith);
      memory = λ e. inr (lacks.untouched, lacks.says);
      known = (3, omega arith, sym four);
      bounded = none_read limit s.input s.input' lacks.untouched.0;
      read = λ e. not_both s.reader_failed e lacks.reading;
    }

pub attends_memory : (setup : Setup) (recovers : Bool) (status : ℕ) (s : Streams) → LacksMemory status s → AttendsBoard setup recovers status s
attends_memory setup recovers status s lacks =
    let four : status ≡ 4 = lacks.four in
    record {
      done = λ e. absurd (omega arith);
      refused = λ e. absurd (omega arith);
      fault = λ e. absurd (omega arith);
      memory = λ e. (inr lacks.untouched, lacks.says);
      known = (3, omega arith, sym four);
    }

pub edits_memory : (Answers : List ℕ → Option (List ℕ) → List ℕ → Type 0) (IsLong : List ℕ → Type 0) (status : ℕ) (s : Streams) → LacksMemory status s → Edits Answers IsLong status s
edits_memory Answers IsLong status s lacks = record {
  puts = λ e. puts_memory Answers IsLong s.input status s.written s.written' s.said s.said' s.out_failed s.err_failed lacks.untouched.1 (inl (lacks.four, lacks.says));
  unread = λ e. not_both s.reader_failed e lacks.reading;
  bounded = none_read limit s.input s.input' lacks.untouched.0;
}

pub refuses_memory : (May : List ℕ → Type 0) (status : ℕ) (s : Streams) → LacksMemory status s → Refuses May status s
refuses_memory May status s lacks = record {
  known = inr lacks.four;
  untouched = lacks.untouched;
  tells = tells_memory status May s.said s.said' false false s.err_failed lacks.four lacks.says;
}

pub checks_memory : (status : ℕ) (s : Streams) → LacksMemory status s → Checks status s
checks_memory status s lacks =
    let four : status ≡ 4 = lacks.four in
    record {
      done = λ e. absurd (omega arith);
      tells = tells_memory status (RefusesPgn s.input) s.said s.said' s.reader_failed s.out_failed s.err_failed four lacks.says;
      bounded = none_read text_limit s.input s.input' lacks.untouched.0;
      fault = λ e. absurd (omega arith);
      unread = λ e. lacks.untouched.1;
      read = λ e. not_both s.reader_failed e lacks.reading;
      silent = λ e. lacks.untouched.1;
    }

pub times_memory : (status : ℕ) (s : Streams) → LacksMemory status s → TellsTimes status s
times_memory status s lacks =
    let four : status ≡ 4 = lacks.four in
    record {
      done = λ e. absurd (omega arith);
      tells = tells_memory status (RefusesTimes s.input) s.said s.said' s.reader_failed s.out_failed s.err_failed four lacks.says;
      bounded = none_read times_limit s.input s.input' lacks.untouched.0;
      fault = λ e. absurd (omega arith);
      unread = λ e. lacks.untouched.1;
      read = λ e. not_both s.reader_failed e lacks.reading;
      silent = λ e. lacks.untouched.1;
    }

pub prints_memory : (fen : Option Text) (status : ℕ) (s : Streams) → LacksMemory status s → Prints fen status s
prints_memory fen status s lacks =
    let four : status ≡ 4 = lacks.four in
    record {
      done = λ start starts e. absurd (omega arith);
      refuses = λ none. inr four;
      refused = λ e. absurd (omega arith);
      fault = λ start starts e. absurd (omega arith);
      silent = λ e. lacks.untouched.1;
      tells = tells_memory status (RefusesStart fen) s.said s.said' false s.out_failed s.err_failed four lacks.says;
    }

pub plays_memory : (start : Parts) (status : ℕ) (s : Streams) → LacksMemory status s → Plays start status s
plays_memory start status s lacks =
    let four : status ≡ 4 = lacks.four in
    record {
      done = λ e. absurd (omega arith);
      tells = tells_memory status (RefusesMoves start s.input s.written s.written') s.said s.said' s.reader_failed s.out_failed s.err_failed four lacks.says;
      fault = λ e. absurd (omega arith);
      unread = λ e. lacks.untouched.1;
      read = λ e. not_both s.reader_failed e lacks.reading;
      memory = λ e. lacks.untouched.1;
      bounded = none_read line_limit s.input s.input' lacks.untouched.0;
    }

-- Another reason for the same refusal.
refuses_too : (May Might : List ℕ → Type 0) (status : ℕ) (s : Streams) → ((message : List ℕ) → May message → Might message) → Refuses May status s → Refuses Might status s
refuses_too May Might status s too refuses = record {
  known = refuses.known;
  untouched = refuses.untouched;
  tells = tells_alike status May Might s.said s.said' false false s.err_failed too refuses.tells;
}

-- A start is refused for what the option says.
refuses_start : (fen : Option Text) (rows : List Row) (status : ℕ) (s : Streams) → fen ≡ first_of (codes "fen") rows → (HasNoStart fen → Refuses (RefusesStart fen) status s)
    → HasNoStart (first_of (codes "fen") rows) → Refuses (RefusesStart (first_of (codes "fen") rows)) status s
refuses_start fen rows status s same refuses = let P : Option Text → Type 0 = λ f. HasNoStart f → Refuses (RefusesStart f) status s in subst P same refuses

does_as : (subcommand chosen : Subcommand) (status : ℕ) (s : Streams) → subcommand ≡ chosen → Does subcommand status s → Does chosen status s
does_as subcommand chosen status s is does = let P : Subcommand → Type 0 = λ w. Does w status s in subst P is does

-- What is done where the arguments ask for it.
pub does_show : (arguments : List Text) (subcommand : Subcommand) (status : ℕ) (s : Streams) → AsksFor arguments subcommand → Does subcommand status s
    → AsksToShow arguments → WritesText event_lines rest_line status s
does_show arguments subcommand status s asked does asks = does_as subcommand _ status s (chooses_show arguments subcommand asks asked) does

pub does_pictures : (arguments : List Text) (subcommand : Subcommand) (status : ℕ) (s : Streams) → AsksFor arguments subcommand → Does subcommand status s
    → (rotated : Bool) → AsksForPictures rotated arguments → WritesText (picture_lines rotated) no_line status s
does_pictures arguments subcommand status s asked does rotated asks = does_as subcommand _ status s (chooses_pictures rotated arguments subcommand asks asked) does

pub does_check : (arguments : List Text) (subcommand : Subcommand) (status : ℕ) (s : Streams) → AsksFor arguments subcommand → Does subcommand status s
    → AsksToCheck arguments → Checks status s
does_check arguments subcommand status s asked does asks = does_as subcommand _ status s (chooses_check arguments subcommand asks asked) does

pub does_times : (arguments : List Text) (subcommand : Subcommand) (status : ℕ) (s : Streams) → AsksFor arguments subcommand → Does subcommand status s
    → AsksForTimes arguments → TellsTimes status s
does_times arguments subcommand status s asked does asks = does_as subcommand _ status s (chooses_times arguments subcommand asks asked) does

pub does_record : (arguments : List Text) (subcommand : Subcommand) (status : ℕ) (s : Streams) → AsksFor arguments subcommand → Does subcommand status s
    → (setup : Setup) → AsksToRecord arguments setup → Records setup status s
does_record arguments subcommand status s asked does setup asks =
    let chosen = chooses_record arguments setup subcommand asks asked in
    (does_as subcommand _ status s chosen.1 does).0 setup chosen.2

pub does_refuse_setup : (arguments : List Text) (subcommand : Subcommand) (status : ℕ) (s : Streams) → AsksFor arguments subcommand → Does subcommand status s
    → (rows : List Row) → Asks arguments (codes "record") rows → SetsUpNothing rows → Refuses (RefusesSetup (first_of (codes "fen") rows) (λ tag. first_of (option_of tag) rows)) status s
does_refuse_setup arguments subcommand status s asked does rows asks nothing =
    let chosen = record_chosen arguments rows subcommand asks asked in
    let options = chosen.0 in
    let wants = chosen.2 in
    let text : Tag → Option Text = λ tag. first_of (option_of tag) rows in
    refuses_too (RefusesSetup (given options.board.fen) (tag_text options)) (RefusesSetup (first_of (codes "fen") rows) text) status s
    (λ message refuses. refuses_alike (given options.board.fen) (first_of (codes "fen") rows) (tag_text options) text wants.board.fen wants.tags message refuses)
    ((does_as subcommand _ status s chosen.1 does).1 (meets_nothing rows options wants nothing))

pub does_follow : (arguments : List Text) (subcommand : Subcommand) (status : ℕ) (s : Streams) → AsksFor arguments subcommand → Does subcommand status s
    → (setting : Setting) → AsksToFollow arguments setting → Lists (Game setting.start setting.first setting.rotated) status s
does_follow arguments subcommand status s asked does setting asks =
    let chosen = chooses_follow arguments setting subcommand asks asked in
    (does_as subcommand _ status s chosen.1 does).0 setting chosen.2

pub does_refuse_start : (arguments : List Text) (subcommand : Subcommand) (status : ℕ) (s : Streams) → AsksFor arguments subcommand → Does subcommand status s
    → (rows : List Row) → Asks arguments (codes "follow") rows → HasNoStart (first_of (codes "fen") rows) → Refuses (RefusesStart (first_of (codes "fen") rows)) status s
does_refuse_start arguments subcommand status s asked does rows asks none =
    let chosen = follow_chosen arguments rows subcommand asks asked in
    refuses_start (given chosen.0.fen) rows status s chosen.2.fen (does_as subcommand _ status s chosen.1 does).1 none

pub does_watch : (arguments : List Text) (subcommand : Subcommand) (status : ℕ) (s : Streams) → AsksFor arguments subcommand → Does subcommand status s
    → (setting : Setting) → AsksToWatch arguments setting → Lists (Watched setting.start setting.first setting.rotated) status s
does_watch arguments subcommand status s asked does setting asks =
    let chosen = chooses_watch arguments setting subcommand asks asked in
    (does_as subcommand _ status s chosen.1 does).0 setting chosen.2

pub does_refuse_watch : (arguments : List Text) (subcommand : Subcommand) (status : ℕ) (s : Streams) → AsksFor arguments subcommand → Does subcommand status s
    → (rows : List Row) → Asks arguments (codes "watch") rows → HasNoStart (first_of (codes "fen") rows) → Refuses (RefusesStart (first_of (codes "fen") rows)) status s
does_refuse_watch arguments subcommand status s asked does rows asks none =
    let chosen = watch_chosen arguments rows subcommand asks asked in
    refuses_start (given chosen.0.fen) rows status s chosen.2.fen (does_as subcommand _ status s chosen.1 does).1 none

pub does_recover : (arguments : List Text) (subcommand : Subcommand) (status : ℕ) (s : Streams) → AsksFor arguments subcommand → Does subcommand status s
    → (setting : Setting) → AsksToRecover arguments setting → RecoversPairs setting status s
does_recover arguments subcommand status s asked does setting asks =
    let chosen = chooses_recover arguments setting subcommand asks asked in
    (does_as subcommand _ status s chosen.1 does).0 setting chosen.2

pub does_refuse_recover : (arguments : List Text) (subcommand : Subcommand) (status : ℕ) (s : Streams) → AsksFor arguments subcommand → Does subcommand status s
    → (rows : List Row) → Asks arguments (codes "recover") rows → HasNoStart (first_of (codes "fen") rows) → Refuses (RefusesStart (first_of (codes "fen") rows)) status s
does_refuse_recover arguments subcommand status s asked does rows asks none =
    let chosen = recover_chosen arguments rows subcommand asks asked in
    refuses_start (given chosen.0.fen) rows status s chosen.2.fen (does_as subcommand _ status s chosen.1 does).1 none

pub does_add : (arguments : List Text) (subcommand : Subcommand) (status : ℕ) (s : Streams) → AsksFor arguments subcommand → Does subcommand status s
    → (setting : Setting) (recovers : Bool) (line : Option Text) → AsksToAdd arguments setting recovers line → AddsLine setting recovers (text_in line) status s
does_add arguments subcommand status s asked does setting recovers line (rows, asks, sets, flag, text) =
    let found = add_chosen arguments rows subcommand asks asked in
    let options = found.0 in
    let wants = found.2 in
    let adds = (does_as subcommand _ status s found.1 does).0 setting (meets_board rows options.board setting wants.board sets) in
    let R : Bool → Type 0 = λ b. AddsLine setting b (text_in (given options.text)) status s in
    let T : Option Text → Type 0 = λ t. AddsLine setting recovers (text_in t) status s in
    subst T (wants.text ∙ text) (subst R (wants.recovers recovers flag) adds)

pub does_refuse_add : (arguments : List Text) (subcommand : Subcommand) (status : ℕ) (s : Streams) → AsksFor arguments subcommand → Does subcommand status s
    → (rows : List Row) → Asks arguments (codes "add") rows → HasNoStart (first_of (codes "fen") rows) → Refuses (RefusesStart (first_of (codes "fen") rows)) status s
does_refuse_add arguments subcommand status s asked does rows asks none =
    let found = add_chosen arguments rows subcommand asks asked in
    refuses_start (given found.0.board.fen) rows status s found.2.board.fen (does_as subcommand _ status s found.1 does).1 none

pub does_back : (arguments : List Text) (subcommand : Subcommand) (status : ℕ) (s : Streams) → AsksFor arguments subcommand → Does subcommand status s
    → (setting : Setting) (recovers : Bool) (to : Option Text) → AsksToGoBack arguments setting recovers to → TakesBack setting recovers (text_in to) status s
does_back arguments subcommand status s asked does setting recovers to (rows, asks, sets, flag, text) =
    let found = back_chosen arguments rows subcommand asks asked in
    let options = found.0 in
    let wants = found.2 in
    let takes = (does_as subcommand _ status s found.1 does).0 setting (meets_board rows options.board setting wants.board sets) in
    let R : Bool → Type 0 = λ b. TakesBack setting b (text_in (given options.text)) status s in
    let T : Option Text → Type 0 = λ t. TakesBack setting recovers (text_in t) status s in
    subst T (wants.text ∙ text) (subst R (wants.recovers recovers flag) takes)

pub does_refuse_back : (arguments : List Text) (subcommand : Subcommand) (status : ℕ) (s : Streams) → AsksFor arguments subcommand → Does subcommand status s
    → (rows : List Row) → Asks arguments (codes "back") rows → HasNoStart (first_of (codes "fen") rows) → Refuses (RefusesStart (first_of (codes "fen") rows)) status s
does_refuse_back arguments subcommand status s asked does rows asks none =
    let found = back_chosen arguments rows subcommand asks asked in
    refuses_start (given found.0.board.fen) rows status s found.2.board.fen (does_as subcommand _ status s found.1 does).1 none

pub does_instead : (arguments : List Text) (subcommand : Subcommand) (status : ℕ) (s : Streams) → AsksFor arguments subcommand → Does subcommand status s
    → (setting : Setting) (recovers : Bool) (line : Option Text) → AsksToReplace arguments setting recovers line → PutsInstead setting recovers (text_in line) status s
does_instead arguments subcommand status s asked does setting recovers line (rows, asks, sets, flag, text) =
    let found = instead_chosen arguments rows subcommand asks asked in
    let options = found.0 in
    let wants = found.2 in
    let takes = (does_as subcommand _ status s found.1 does).0 setting (meets_board rows options.board setting wants.board sets) in
    let R : Bool → Type 0 = λ b. PutsInstead setting b (text_in (given options.text)) status s in
    let T : Option Text → Type 0 = λ t. PutsInstead setting recovers (text_in t) status s in
    subst T (wants.text ∙ text) (subst R (wants.recovers recovers flag) takes)

pub does_refuse_instead : (arguments : List Text) (subcommand : Subcommand) (status : ℕ) (s : Streams) → AsksFor arguments subcommand → Does subcommand status s
    → (rows : List Row) → Asks arguments (codes "instead") rows → HasNoStart (first_of (codes "fen") rows) → Refuses (RefusesStart (first_of (codes "fen") rows)) status s
does_refuse_instead arguments subcommand status s asked does rows asks none =
    let found = instead_chosen arguments rows subcommand asks asked in
    refuses_start (given found.0.board.fen) rows status s found.2.board.fen (does_as subcommand _ status s found.1 does).1 none

pub does_attend : (arguments : List Text) (subcommand : Subcommand) (status : ℕ) (s : Streams) → AsksFor arguments subcommand → Does subcommand status s
    → (setup : Setup) (recovers : Bool) → AsksToAttend arguments setup recovers → AttendsBoard setup recovers status s
does_attend arguments subcommand status s asked does setup recovers (rows, asks, sets, flag) =
    let found = live_chosen arguments rows subcommand asks asked in
    let options = found.0 in
    let wants = found.2 in
    let R : Bool → Type 0 = λ b. AttendsBoard setup b status s in
    subst R (wants.recovers recovers flag) ((does_as subcommand _ status s found.1 does).0 setup (meets rows options.game setup wants.game sets))

pub does_refuse_live : (arguments : List Text) (subcommand : Subcommand) (status : ℕ) (s : Streams) → AsksFor arguments subcommand → Does subcommand status s
    → (rows : List Row) → Asks arguments (codes "live") rows → SetsUpNothing rows → Refuses (RefusesSetup (first_of (codes "fen") rows) (λ tag. first_of (option_of tag) rows)) status s
does_refuse_live arguments subcommand status s asked does rows asks nothing =
    let found = live_chosen arguments rows subcommand asks asked in
    let options = found.0.game in
    let wants = found.2.game in
    let text : Tag → Option Text = λ tag. first_of (option_of tag) rows in
    refuses_too (RefusesSetup (given options.board.fen) (tag_text options)) (RefusesSetup (first_of (codes "fen") rows) text) status s
    (λ message refuses. refuses_alike (given options.board.fen) (first_of (codes "fen") rows) (tag_text options) text wants.board.fen wants.tags message refuses)
    ((does_as subcommand _ status s found.1 does).1 (meets_nothing rows options wants nothing))

pub does_moves : (arguments : List Text) (subcommand : Subcommand) (status : ℕ) (s : Streams) → AsksFor arguments subcommand → Does subcommand status s
    → (rows : List Row) → Asks arguments (codes "moves") rows → Prints (first_of (codes "fen") rows) status s
does_moves arguments subcommand status s asked does rows asks =
    let chosen = moves_chosen arguments rows subcommand asks asked in
    let P : Option Text → Type 0 = λ fen. Prints fen status s in subst P chosen.2 (does_as subcommand _ status s chosen.1 does)

pub does_positions : (arguments : List Text) (subcommand : Subcommand) (status : ℕ) (s : Streams) → AsksFor arguments subcommand → Does subcommand status s
    → (rows : List Row) → Asks arguments (codes "positions") rows → (start : Parts) → StartsAt (first_of (codes "fen") rows) start → Plays start status s
does_positions arguments subcommand status s asked does rows asks start starts =
    let chosen = positions_chosen arguments rows subcommand asks asked in
    let P : Option Text → Type 0 = λ fen. StartsAt fen start in
    (does_as subcommand _ status s chosen.1 does).0 start (subst P (sym chosen.2) starts)

pub does_refuse_positions : (arguments : List Text) (subcommand : Subcommand) (status : ℕ) (s : Streams) → AsksFor arguments subcommand → Does subcommand status s
    → (rows : List Row) → Asks arguments (codes "positions") rows → HasNoStart (first_of (codes "fen") rows) → Refuses (RefusesStart (first_of (codes "fen") rows)) status s
does_refuse_positions arguments subcommand status s asked does rows asks none =
    let chosen = positions_chosen arguments rows subcommand asks asked in
    refuses_start (given chosen.0) rows status s chosen.2 (does_as subcommand _ status s chosen.1 does).1 none
