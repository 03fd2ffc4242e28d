use Rattle.std.proofs.Common.{codes, map, string_bytes, inl, inr, refl, arith}
use Rattle.std.proofs.KnownBytes.{Keeps-refl}
use Rattle.clap.specs.Values.{kind_of}
use Rattle.clap.specs.Walk.{first_of}
use Rattle.clap.specs.declared.error.kind.ErrorKind.TheVariants as kind
use Rattle.watched_streams.specs.Watch.{inner_of}
use Rattle.board_listing.specs.EventLines.{rest_line}
use Rattle.board_listing.specs.OneText.{event_lines, no_line, picture_lines}
use Rattle.board_listing.specs.declared.listing.Listing.TheVariants.{Game, Watched}
use Rattle.replay_arguments.specs.TagOptions.{option_of}
use Rattle.board_captures.specs.Reading.{IsTooLong}
use Rattle.dgt_replay.specs.Add.{AnswersLine}
use Rattle.dgt_replay.specs.Back.{AnswersBack}
use Rattle.dgt_replay.specs.Instead.{AnswersInstead}
use Rattle.dgt_replay.specs.Edit.{text_in}
use Rattle.dgt_replay.specs.Refusals.{RefusesSetup}
use Rattle.text_subcommands.specs.Refusals.{RefusesStart}
use Rattle.dgt_replay.proofs.DoesLemmas.{attends_memory, checks_memory, does_add, does_attend, does_back, does_instead, does_refuse_add, does_refuse_back, does_refuse_instead, does_refuse_live, edits_memory, does_check, does_follow, does_moves, does_pictures, does_positions, does_record, does_recover, does_refuse_positions, does_refuse_recover, does_refuse_setup, does_refuse_start, does_refuse_watch, does_show, does_times, does_watch, lacks_memory, lists_memory, plays_memory, prints_memory, records_memory, recovers_memory, refuses_memory, text_memory, times_memory}
use Rattle.dgt_replay.proofs.FaultLemmas.{mistaken_asks_nothing, mistaken_kind, one_fault, one_kind, text_out_of_memory}
use Rattle.dgt_replay.proofs.SubcommandLemmas.{check_unrefused, follow_unrefused, moves_chosen, or_refused, pictures_unrefused, record_unrefused, recover_chosen, recover_unrefused, show_unrefused, times_unrefused, unrefused, watch_unrefused}
use Rattle.dgt_replay.proofs.program.run.Goals as goal

pub returns-in-Err-clause-show : goal.returns-in-Err-clause-show
returns-in-Err-clause-show g c is =
    let arguments = map string_bytes c.args.arguments.now in
    text_memory event_lines rest_line _ _ (lacks_memory _ _ (Keeps-refl (g.R.Read.remaining (inner_of c.args.reader.now))) c.requires.reading (c.refused_arguments.ensures.memory (or_refused c.in-Err.ensures.refused (show_unrefused arguments (c.without_options.ensures.shows arguments is)))))

pub returns-in-Ok-clause-show : goal.returns-in-Ok-clause-show
returns-in-Ok-clause-show g c is =
    let arguments = map string_bytes c.args.arguments.now in
    does_show arguments c.in-Ok.subcommand c.dispatch.result _ c.in-Ok.ensures.chooses c.dispatch.ensures.does (c.without_options.ensures.shows arguments is)

pub returns-in-Err-clause-pictures : goal.returns-in-Err-clause-pictures
returns-in-Err-clause-pictures g c rotated is =
    let arguments = map string_bytes c.args.arguments.now in
    text_memory (picture_lines rotated) no_line _ _ (lacks_memory _ _ (Keeps-refl (g.R.Read.remaining (inner_of c.args.reader.now))) c.requires.reading (c.refused_arguments.ensures.memory (or_refused c.in-Err.ensures.refused (pictures_unrefused rotated arguments (c.without_options.ensures.pictures rotated arguments is)))))

pub returns-in-Ok-clause-pictures : goal.returns-in-Ok-clause-pictures
returns-in-Ok-clause-pictures g c rotated is =
    let arguments = map string_bytes c.args.arguments.now in
    does_pictures arguments c.in-Ok.subcommand c.dispatch.result _ c.in-Ok.ensures.chooses c.dispatch.ensures.does rotated (c.without_options.ensures.pictures rotated arguments is)

pub returns-in-Err-clause-record_is : goal.returns-in-Err-clause-record_is
returns-in-Err-clause-record_is g c setup asks =
    let arguments = map string_bytes c.args.arguments.now in
    records_memory setup _ _ (lacks_memory _ _ (Keeps-refl (g.R.Read.remaining (inner_of c.args.reader.now))) c.requires.reading (c.refused_arguments.ensures.memory (or_refused c.in-Err.ensures.refused (record_unrefused arguments setup asks))))

pub returns-in-Ok-clause-record_is : goal.returns-in-Ok-clause-record_is
returns-in-Ok-clause-record_is g c setup asks =
    let arguments = map string_bytes c.args.arguments.now in
    does_record arguments c.in-Ok.subcommand c.dispatch.result _ c.in-Ok.ensures.chooses c.dispatch.ensures.does setup asks

pub returns-in-Err-clause-record_refuses : goal.returns-in-Err-clause-record_refuses
returns-in-Err-clause-record_refuses g c rows asks nothing =
    let arguments = map string_bytes c.args.arguments.now in
    refuses_memory (RefusesSetup (first_of (codes "fen") rows) (λ tag. first_of (option_of tag) rows)) _ _ (lacks_memory _ _ (Keeps-refl (g.R.Read.remaining (inner_of c.args.reader.now))) c.requires.reading (c.refused_arguments.ensures.memory (or_refused c.in-Err.ensures.refused (unrefused arguments (codes "record") rows asks))))

pub returns-in-Ok-clause-record_refuses : goal.returns-in-Ok-clause-record_refuses
returns-in-Ok-clause-record_refuses g c rows asks nothing =
    let arguments = map string_bytes c.args.arguments.now in
    does_refuse_setup arguments c.in-Ok.subcommand c.dispatch.result _ c.in-Ok.ensures.chooses c.dispatch.ensures.does rows asks nothing

pub returns-in-Err-clause-follow : goal.returns-in-Err-clause-follow
returns-in-Err-clause-follow g c setting asks =
    let arguments = map string_bytes c.args.arguments.now in
    lists_memory (Game setting.start setting.first setting.rotated) _ _ (lacks_memory _ _ (Keeps-refl (g.R.Read.remaining (inner_of c.args.reader.now))) c.requires.reading (c.refused_arguments.ensures.memory (or_refused c.in-Err.ensures.refused (follow_unrefused arguments setting asks))))

pub returns-in-Ok-clause-follow : goal.returns-in-Ok-clause-follow
returns-in-Ok-clause-follow g c setting asks =
    let arguments = map string_bytes c.args.arguments.now in
    does_follow arguments c.in-Ok.subcommand c.dispatch.result _ c.in-Ok.ensures.chooses c.dispatch.ensures.does setting asks

pub returns-in-Err-clause-follow_refuses : goal.returns-in-Err-clause-follow_refuses
returns-in-Err-clause-follow_refuses g c rows asks none =
    let arguments = map string_bytes c.args.arguments.now in
    refuses_memory (RefusesStart (first_of (codes "fen") rows)) _ _ (lacks_memory _ _ (Keeps-refl (g.R.Read.remaining (inner_of c.args.reader.now))) c.requires.reading (c.refused_arguments.ensures.memory (or_refused c.in-Err.ensures.refused (unrefused arguments (codes "follow") rows asks))))

pub returns-in-Ok-clause-follow_refuses : goal.returns-in-Ok-clause-follow_refuses
returns-in-Ok-clause-follow_refuses g c rows asks none =
    let arguments = map string_bytes c.args.arguments.now in
    does_refuse_start arguments c.in-Ok.subcommand c.dispatch.result _ c.in-Ok.ensures.chooses c.dispatch.ensures.does rows asks none

pub returns-in-Err-clause-watch : goal.returns-in-Err-clause-watch
returns-in-Err-clause-watch g c setting asks =
    let arguments = map string_bytes c.args.arguments.now in
    lists_memory (Watched setting.start setting.first setting.rotated) _ _ (lacks_memory _ _ (Keeps-refl (g.R.Read.remaining (inner_of c.args.reader.now))) c.requires.reading (c.refused_arguments.ensures.memory (or_refused c.in-Err.ensures.refused (watch_unrefused arguments setting asks))))

pub returns-in-Ok-clause-watch : goal.returns-in-Ok-clause-watch
returns-in-Ok-clause-watch g c setting asks =
    let arguments = map string_bytes c.args.arguments.now in
    does_watch arguments c.in-Ok.subcommand c.dispatch.result _ c.in-Ok.ensures.chooses c.dispatch.ensures.does setting asks

pub returns-in-Err-clause-watch_refuses : goal.returns-in-Err-clause-watch_refuses
returns-in-Err-clause-watch_refuses g c rows asks none =
    let arguments = map string_bytes c.args.arguments.now in
    refuses_memory (RefusesStart (first_of (codes "fen") rows)) _ _ (lacks_memory _ _ (Keeps-refl (g.R.Read.remaining (inner_of c.args.reader.now))) c.requires.reading (c.refused_arguments.ensures.memory (or_refused c.in-Err.ensures.refused (unrefused arguments (codes "watch") rows asks))))

pub returns-in-Ok-clause-watch_refuses : goal.returns-in-Ok-clause-watch_refuses
returns-in-Ok-clause-watch_refuses g c rows asks none =
    let arguments = map string_bytes c.args.arguments.now in
    does_refuse_watch arguments c.in-Ok.subcommand c.dispatch.result _ c.in-Ok.ensures.chooses c.dispatch.ensures.does rows asks none

pub returns-in-Err-clause-recover : goal.returns-in-Err-clause-recover
returns-in-Err-clause-recover g c setting asks =
    let arguments = map string_bytes c.args.arguments.now in
    recovers_memory setting _ _ (lacks_memory _ _ (Keeps-refl (g.R.Read.remaining (inner_of c.args.reader.now))) c.requires.reading (c.refused_arguments.ensures.memory (or_refused c.in-Err.ensures.refused (recover_unrefused arguments setting asks))))

pub returns-in-Ok-clause-recover : goal.returns-in-Ok-clause-recover
returns-in-Ok-clause-recover g c setting asks =
    let arguments = map string_bytes c.args.arguments.now in
    does_recover arguments c.in-Ok.subcommand c.dispatch.result _ c.in-Ok.ensures.chooses c.dispatch.ensures.does setting asks

pub returns-in-Err-clause-recover_refuses : goal.returns-in-Err-clause-recover_refuses
returns-in-Err-clause-recover_refuses g c rows asks none =
    let arguments = map string_bytes c.args.arguments.now in
    refuses_memory (RefusesStart (first_of (codes "fen") rows)) _ _ (lacks_memory _ _ (Keeps-refl (g.R.Read.remaining (inner_of c.args.reader.now))) c.requires.reading (c.refused_arguments.ensures.memory (or_refused c.in-Err.ensures.refused (unrefused arguments (codes "recover") rows asks))))

pub returns-in-Ok-clause-recover_refuses : goal.returns-in-Ok-clause-recover_refuses
returns-in-Ok-clause-recover_refuses g c rows asks none =
    let arguments = map string_bytes c.args.arguments.now in
    does_refuse_recover arguments c.in-Ok.subcommand c.dispatch.result _ c.in-Ok.ensures.chooses c.dispatch.ensures.does rows asks none

pub returns-in-Err-clause-add : goal.returns-in-Err-clause-add
returns-in-Err-clause-add g c setting recovers line asks =
    let arguments = map string_bytes c.args.arguments.now in
    edits_memory (AnswersLine setting recovers (text_in line)) (IsTooLong setting recovers) _ _ (lacks_memory _ _ (Keeps-refl (g.R.Read.remaining (inner_of c.args.reader.now))) c.requires.reading (c.refused_arguments.ensures.memory (or_refused c.in-Err.ensures.refused (unrefused arguments (codes "add") asks.0 asks.1))))

pub returns-in-Ok-clause-add : goal.returns-in-Ok-clause-add
returns-in-Ok-clause-add g c setting recovers line asks =
    let arguments = map string_bytes c.args.arguments.now in
    does_add arguments c.in-Ok.subcommand c.dispatch.result _ c.in-Ok.ensures.chooses c.dispatch.ensures.does setting recovers line asks

pub returns-in-Err-clause-add_refuses : goal.returns-in-Err-clause-add_refuses
returns-in-Err-clause-add_refuses g c rows asks none =
    let arguments = map string_bytes c.args.arguments.now in
    refuses_memory (RefusesStart (first_of (codes "fen") rows)) _ _ (lacks_memory _ _ (Keeps-refl (g.R.Read.remaining (inner_of c.args.reader.now))) c.requires.reading (c.refused_arguments.ensures.memory (or_refused c.in-Err.ensures.refused (unrefused arguments (codes "add") rows asks))))

pub returns-in-Ok-clause-add_refuses : goal.returns-in-Ok-clause-add_refuses
returns-in-Ok-clause-add_refuses g c rows asks none =
    let arguments = map string_bytes c.args.arguments.now in
    does_refuse_add arguments c.in-Ok.subcommand c.dispatch.result _ c.in-Ok.ensures.chooses c.dispatch.ensures.does rows asks none

pub returns-in-Err-clause-back : goal.returns-in-Err-clause-back
returns-in-Err-clause-back g c setting recovers to asks =
    let arguments = map string_bytes c.args.arguments.now in
    edits_memory (AnswersBack setting recovers (text_in to)) (IsTooLong setting recovers) _ _ (lacks_memory _ _ (Keeps-refl (g.R.Read.remaining (inner_of c.args.reader.now))) c.requires.reading (c.refused_arguments.ensures.memory (or_refused c.in-Err.ensures.refused (unrefused arguments (codes "back") asks.0 asks.1))))

pub returns-in-Ok-clause-back : goal.returns-in-Ok-clause-back
returns-in-Ok-clause-back g c setting recovers to asks =
    let arguments = map string_bytes c.args.arguments.now in
    does_back arguments c.in-Ok.subcommand c.dispatch.result _ c.in-Ok.ensures.chooses c.dispatch.ensures.does setting recovers to asks

pub returns-in-Err-clause-back_refuses : goal.returns-in-Err-clause-back_refuses
returns-in-Err-clause-back_refuses g c rows asks none =
    let arguments = map string_bytes c.args.arguments.now in
    refuses_memory (RefusesStart (first_of (codes "fen") rows)) _ _ (lacks_memory _ _ (Keeps-refl (g.R.Read.remaining (inner_of c.args.reader.now))) c.requires.reading (c.refused_arguments.ensures.memory (or_refused c.in-Err.ensures.refused (unrefused arguments (codes "back") rows asks))))

pub returns-in-Ok-clause-back_refuses : goal.returns-in-Ok-clause-back_refuses
returns-in-Ok-clause-back_refuses g c rows asks none =
    let arguments = map string_bytes c.args.arguments.now in
    does_refuse_back arguments c.in-Ok.subcommand c.dispatch.result _ c.in-Ok.ensures.chooses c.dispatch.ensures.does rows asks none

pub returns-in-Err-clause-instead : goal.returns-in-Err-clause-instead
returns-in-Err-clause-instead g c setting recovers line asks =
    let arguments = map string_bytes c.args.arguments.now in
    edits_memory (AnswersInstead setting recovers (text_in line)) (IsTooLong setting recovers) _ _ (lacks_memory _ _ (Keeps-refl (g.R.Read.remaining (inner_of c.args.reader.now))) c.requires.reading (c.refused_arguments.ensures.memory (or_refused c.in-Err.ensures.refused (unrefused arguments (codes "instead") asks.0 asks.1))))

pub returns-in-Ok-clause-instead : goal.returns-in-Ok-clause-instead
returns-in-Ok-clause-instead g c setting recovers line asks =
    let arguments = map string_bytes c.args.arguments.now in
    does_instead arguments c.in-Ok.subcommand c.dispatch.result _ c.in-Ok.ensures.chooses c.dispatch.ensures.does setting recovers line asks

pub returns-in-Err-clause-instead_refuses : goal.returns-in-Err-clause-instead_refuses
returns-in-Err-clause-instead_refuses g c rows asks none =
    let arguments = map string_bytes c.args.arguments.now in
    refuses_memory (RefusesStart (first_of (codes "fen") rows)) _ _ (lacks_memory _ _ (Keeps-refl (g.R.Read.remaining (inner_of c.args.reader.now))) c.requires.reading (c.refused_arguments.ensures.memory (or_refused c.in-Err.ensures.refused (unrefused arguments (codes "instead") rows asks))))

pub returns-in-Ok-clause-instead_refuses : goal.returns-in-Ok-clause-instead_refuses
returns-in-Ok-clause-instead_refuses g c rows asks none =
    let arguments = map string_bytes c.args.arguments.now in
    does_refuse_instead arguments c.in-Ok.subcommand c.dispatch.result _ c.in-Ok.ensures.chooses c.dispatch.ensures.does rows asks none

pub returns-in-Err-clause-live : goal.returns-in-Err-clause-live
returns-in-Err-clause-live g c setup recovers asks =
    let arguments = map string_bytes c.args.arguments.now in
    attends_memory setup recovers _ _ (lacks_memory _ _ (Keeps-refl (g.R.Read.remaining (inner_of c.args.reader.now))) c.requires.reading (c.refused_arguments.ensures.memory (or_refused c.in-Err.ensures.refused (unrefused arguments (codes "live") asks.0 asks.1))))

pub returns-in-Ok-clause-live : goal.returns-in-Ok-clause-live
returns-in-Ok-clause-live g c setup recovers asks =
    let arguments = map string_bytes c.args.arguments.now in
    does_attend arguments c.in-Ok.subcommand c.dispatch.result _ c.in-Ok.ensures.chooses c.dispatch.ensures.does setup recovers asks

pub returns-in-Err-clause-live_refuses : goal.returns-in-Err-clause-live_refuses
returns-in-Err-clause-live_refuses g c rows asks nothing =
    let arguments = map string_bytes c.args.arguments.now in
    refuses_memory (RefusesSetup (first_of (codes "fen") rows) (λ tag. first_of (option_of tag) rows)) _ _ (lacks_memory _ _ (Keeps-refl (g.R.Read.remaining (inner_of c.args.reader.now))) c.requires.reading (c.refused_arguments.ensures.memory (or_refused c.in-Err.ensures.refused (unrefused arguments (codes "live") rows asks))))

pub returns-in-Ok-clause-live_refuses : goal.returns-in-Ok-clause-live_refuses
returns-in-Ok-clause-live_refuses g c rows asks nothing =
    let arguments = map string_bytes c.args.arguments.now in
    does_refuse_live arguments c.in-Ok.subcommand c.dispatch.result _ c.in-Ok.ensures.chooses c.dispatch.ensures.does rows asks nothing

pub returns-in-Err-clause-check : goal.returns-in-Err-clause-check
returns-in-Err-clause-check g c is =
    let arguments = map string_bytes c.args.arguments.now in
    checks_memory _ _ (lacks_memory _ _ (Keeps-refl (g.R.Read.remaining (inner_of c.args.reader.now))) c.requires.reading (c.refused_arguments.ensures.memory (or_refused c.in-Err.ensures.refused (check_unrefused arguments (c.without_options.ensures.checks arguments is)))))

pub returns-in-Ok-clause-check : goal.returns-in-Ok-clause-check
returns-in-Ok-clause-check g c is =
    let arguments = map string_bytes c.args.arguments.now in
    does_check arguments c.in-Ok.subcommand c.dispatch.result _ c.in-Ok.ensures.chooses c.dispatch.ensures.does (c.without_options.ensures.checks arguments is)

pub returns-in-Err-clause-times : goal.returns-in-Err-clause-times
returns-in-Err-clause-times g c is =
    let arguments = map string_bytes c.args.arguments.now in
    times_memory _ _ (lacks_memory _ _ (Keeps-refl (g.R.Read.remaining (inner_of c.args.reader.now))) c.requires.reading (c.refused_arguments.ensures.memory (or_refused c.in-Err.ensures.refused (times_unrefused arguments (c.without_options.ensures.times arguments is)))))

pub returns-in-Ok-clause-times : goal.returns-in-Ok-clause-times
returns-in-Ok-clause-times g c is =
    let arguments = map string_bytes c.args.arguments.now in
    does_times arguments c.in-Ok.subcommand c.dispatch.result _ c.in-Ok.ensures.chooses c.dispatch.ensures.does (c.without_options.ensures.times arguments is)

pub returns-in-Err-clause-moves : goal.returns-in-Err-clause-moves
returns-in-Err-clause-moves g c rows asks =
    let arguments = map string_bytes c.args.arguments.now in
    prints_memory (first_of (codes "fen") rows) _ _ (lacks_memory _ _ (Keeps-refl (g.R.Read.remaining (inner_of c.args.reader.now))) c.requires.reading (c.refused_arguments.ensures.memory (or_refused c.in-Err.ensures.refused (unrefused arguments (codes "moves") rows asks))))

pub returns-in-Ok-clause-moves : goal.returns-in-Ok-clause-moves
returns-in-Ok-clause-moves g c rows asks =
    let arguments = map string_bytes c.args.arguments.now in
    does_moves arguments c.in-Ok.subcommand c.dispatch.result _ c.in-Ok.ensures.chooses c.dispatch.ensures.does rows asks

pub returns-in-Ok-clause-moves_unread : goal.returns-in-Ok-clause-moves_unread
returns-in-Ok-clause-moves_unread g c rows asks =
    let chosen = moves_chosen (map string_bytes c.args.arguments.now) rows c.in-Ok.subcommand asks c.in-Ok.ensures.chooses in
    c.dispatch.ensures.moves_unread chosen.0 chosen.1

pub returns-in-Err-clause-positions : goal.returns-in-Err-clause-positions
returns-in-Err-clause-positions g c rows asks start starts =
    let arguments = map string_bytes c.args.arguments.now in
    plays_memory start _ _ (lacks_memory _ _ (Keeps-refl (g.R.Read.remaining (inner_of c.args.reader.now))) c.requires.reading (c.refused_arguments.ensures.memory (or_refused c.in-Err.ensures.refused (unrefused arguments (codes "positions") rows asks))))

pub returns-in-Ok-clause-positions : goal.returns-in-Ok-clause-positions
returns-in-Ok-clause-positions g c rows asks start starts =
    let arguments = map string_bytes c.args.arguments.now in
    does_positions arguments c.in-Ok.subcommand c.dispatch.result _ c.in-Ok.ensures.chooses c.dispatch.ensures.does rows asks start starts

pub returns-in-Err-clause-positions_refuses : goal.returns-in-Err-clause-positions_refuses
returns-in-Err-clause-positions_refuses g c rows asks none =
    let arguments = map string_bytes c.args.arguments.now in
    refuses_memory (RefusesStart (first_of (codes "fen") rows)) _ _ (lacks_memory _ _ (Keeps-refl (g.R.Read.remaining (inner_of c.args.reader.now))) c.requires.reading (c.refused_arguments.ensures.memory (or_refused c.in-Err.ensures.refused (unrefused arguments (codes "positions") rows asks))))

pub returns-in-Ok-clause-positions_refuses : goal.returns-in-Ok-clause-positions_refuses
returns-in-Ok-clause-positions_refuses g c rows asks none =
    let arguments = map string_bytes c.args.arguments.now in
    does_refuse_positions arguments c.in-Ok.subcommand c.dispatch.result _ c.in-Ok.ensures.chooses c.dispatch.ensures.does rows asks none

pub returns-in-Err-clause-mistaken : goal.returns-in-Err-clause-mistaken
returns-in-Err-clause-mistaken g c mistaken =
    let arguments = map string_bytes c.args.arguments.now in
    elim c.in-Err.ensures.fault [
      | inl memory ↦ (let ended = c.refused_arguments.ensures.memory memory in (refl, (c.refused_arguments.ensures.memory_unwritten memory, inr (ended.0, ended.2))))
      | inr fault ↦ (let other = mistaken_kind arguments (kind_of c.in-Err.error) mistaken fault in (refl, c.refused_arguments.ensures.refuses other.0 other.1))
    ]

pub returns-in-Ok-clause-mistaken : goal.returns-in-Ok-clause-mistaken
returns-in-Ok-clause-mistaken g c mistaken = absurd (mistaken_asks_nothing (map string_bytes c.args.arguments.now) c.in-Ok.subcommand mistaken c.in-Ok.ensures.faultless c.in-Ok.ensures.chooses)

pub returns-in-Err-clause-help : goal.returns-in-Err-clause-help
returns-in-Err-clause-help g c asks =
    let arguments = map string_bytes c.args.arguments.now in
    elim c.in-Err.ensures.fault [
      | inl memory ↦ (let ended = c.refused_arguments.ensures.memory memory in (refl, text_out_of_memory c.refused_arguments.result _ _ _ _ _ _ ended.0 ended.1 ended.2))
      | inr fault ↦ (refl, c.refused_arguments.ensures.help (one_kind arguments kind.DisplayHelp (kind_of c.in-Err.error) asks fault))
    ]

pub returns-in-Ok-clause-help : goal.returns-in-Ok-clause-help
returns-in-Ok-clause-help g c asks = absurd (one_fault (map string_bytes c.args.arguments.now) kind.DisplayHelp asks c.in-Ok.ensures.faultless)

pub returns-in-Err-clause-version : goal.returns-in-Err-clause-version
returns-in-Err-clause-version g c asks =
    let arguments = map string_bytes c.args.arguments.now in
    elim c.in-Err.ensures.fault [
      | inl memory ↦ (let ended = c.refused_arguments.ensures.memory memory in (refl, text_out_of_memory c.refused_arguments.result _ _ _ _ _ _ ended.0 ended.1 ended.2))
      | inr fault ↦ (refl, c.refused_arguments.ensures.version (one_kind arguments kind.DisplayVersion (kind_of c.in-Err.error) asks fault))
    ]

pub returns-in-Ok-clause-version : goal.returns-in-Ok-clause-version
returns-in-Ok-clause-version g c asks = absurd (one_fault (map string_bytes c.args.arguments.now) kind.DisplayVersion asks c.in-Ok.ensures.faultless)

pub returns-in-Err-clause-usage : goal.returns-in-Err-clause-usage
returns-in-Err-clause-usage g c two =
    elim c.in-Err.ensures.refused [
      | inl memory ↦ (let four = (c.refused_arguments.ensures.memory memory).0 in absurd (omega (arith, four)))
      | inr refused ↦ refused
    ]

pub returns-in-Err-clause-moves_unread : goal.returns-in-Err-clause-moves_unread
returns-in-Err-clause-moves_unread g c rows asks = refl

pub returns-in-Err-clause-recover_told : goal.returns-in-Err-clause-recover_told
returns-in-Err-clause-recover_told g c rows asks zero =
    let four = (c.refused_arguments.ensures.memory (or_refused c.in-Err.ensures.refused (unrefused (map string_bytes c.args.arguments.now) (codes "recover") rows asks))).0 in
    absurd (omega (arith, zero, four))

pub returns-in-Ok-clause-recover_told : goal.returns-in-Ok-clause-recover_told
returns-in-Ok-clause-recover_told g c rows asks =
    let chosen = recover_chosen (map string_bytes c.args.arguments.now) rows c.in-Ok.subcommand asks c.in-Ok.ensures.chooses in
    c.dispatch.ensures.recover_told chosen.0 chosen.1

pub returns-in-Err-clause-works : goal.returns-in-Err-clause-works
returns-in-Err-clause-works g c zero = (c.requires.reading, c.refused_arguments.ensures.works zero)
