-- What is done with the streams, whatever the subcommand.
use Rattle.std.specs.Prelude.{ℕ, Bool, false, true, if◌then◌else◌}
use Rattle.chess_rules.specs.declared.parts.Parts.{Parts}
use Rattle.board_events.specs.Settings.{Setting}
use Rattle.board_events.specs.declared.setup.Setup.{Setup}
use Rattle.board_listing.specs.EventLines.{rest_line}
use Rattle.board_listing.specs.OneText.{event_lines, no_line, picture_lines}
use Rattle.board_listing.specs.declared.listing.Listing.{Listing}
use Rattle.board_listing.specs.declared.listing.Listing.TheVariants.{Game, Watched}
use Rattle.replay_arguments.specs.declared.arguments.Subcommand.{Subcommand}
use Rattle.replay_arguments.specs.declared.arguments.Subcommand.TheVariants.{Show, Pictures, Record, Follow, Watch, Recover, Add, Back, Instead, Live, Check, Times, Moves, Positions}
use Rattle.replay_arguments.specs.Setups.{Meets, MeetsBoard, MeetsNothing, tag_text}
use Rattle.chess_text.specs.Start.{HasNoStart, StartsAt, given}
use Rattle.dgt_replay.specs.Add.{AddsLine}
use Rattle.dgt_replay.specs.Back.{TakesBack}
use Rattle.dgt_replay.specs.Instead.{PutsInstead}
use Rattle.dgt_replay.specs.Edit.{text_in}
use Rattle.dgt_replay.specs.Refusals.{RefusesSetup}
use Rattle.text_subcommands.specs.Refusals.{RefusesStart, Refuses}
use Rattle.text_subcommands.specs.Streams.{Streams}
use Rattle.text_subcommands.specs.Checked.{Checks}
use Rattle.text_subcommands.specs.Played.{Plays}
use Rattle.text_subcommands.specs.Printed.{Prints}
use Rattle.text_subcommands.specs.Timed.{TellsTimes}
use Rattle.dgt_replay.specs.Does.{AttendsBoard, Lists, Records, RecoversPairs, WritesText}

-- what is listed of a game that is followed or, with what the board and the clocks show, watched
abbrev pub game_listing : Bool → Setting → Listing
game_listing watched setting = if watched then Watched setting.start setting.first setting.rotated else Game setting.start setting.first setting.rotated

-- What a subcommand does, by the setups, settings or starts that its options give.
abbrev pub Does : Subcommand → ℕ → Streams → Type 0
Does Show status s = WritesText event_lines rest_line status s
Does (Pictures rotated) status s = WritesText (picture_lines rotated) no_line status s
Does (Record options) status s = ((setup : Setup) → Meets options setup → Records setup status s)
    × (MeetsNothing options → Refuses (RefusesSetup (given options.board.fen) (tag_text options)) status s)
Does (Follow options) status s = ((setting : Setting) → MeetsBoard options setting → Lists (game_listing false setting) status s)
    × (HasNoStart (given options.fen) → Refuses (RefusesStart (given options.fen)) status s)
Does (Watch options) status s = ((setting : Setting) → MeetsBoard options setting → Lists (game_listing true setting) status s)
    × (HasNoStart (given options.fen) → Refuses (RefusesStart (given options.fen)) status s)
Does (Recover options) status s = ((setting : Setting) → MeetsBoard options setting → RecoversPairs setting status s)
    × (HasNoStart (given options.fen) → Refuses (RefusesStart (given options.fen)) status s)
Does (Add options) status s = ((setting : Setting) → MeetsBoard options.board setting → AddsLine setting options.recovers (text_in (given options.text)) status s)
    × (HasNoStart (given options.board.fen) → Refuses (RefusesStart (given options.board.fen)) status s)
Does (Back options) status s = ((setting : Setting) → MeetsBoard options.board setting → TakesBack setting options.recovers (text_in (given options.text)) status s)
    × (HasNoStart (given options.board.fen) → Refuses (RefusesStart (given options.board.fen)) status s)
Does (Instead options) status s = ((setting : Setting) → MeetsBoard options.board setting → PutsInstead setting options.recovers (text_in (given options.text)) status s)
    × (HasNoStart (given options.board.fen) → Refuses (RefusesStart (given options.board.fen)) status s)
Does (Live options) status s = ((setup : Setup) → Meets options.game setup → AttendsBoard setup options.recovers status s)
    × (MeetsNothing options.game → Refuses (RefusesSetup (given options.game.board.fen) (tag_text options.game)) status s)
Does Check status s = Checks status s
Does Times status s = TellsTimes status s
Does (Moves fen) status s = Prints (given fen) status s
Does (Positions fen) status s = ((start : Parts) → StartsAt (given fen) start → Plays start status s)
    × (HasNoStart (given fen) → Refuses (RefusesStart (given fen)) status s)
