-- The command line, as a parse reads it.
use Rattle.std.specs.Prelude.{◌≡◌, List, [], ◌∷◌, codes, Some, true, false, Result, IfOk}
use Rattle.clap.specs.Walk.{Rule, Text}
use Rattle.clap.specs.Simple.{App, app_of, new_app, new_rule, with_rule, with_subcommand}
use Rattle.clap.specs.declared.builder.command.Command.TheViews.{out-Command}
use Rattle.clap.specs.declared.builder.command.Command.{Command}
use Rattle.chess_game.specs.declared.values.Tag.{Tag}
use Rattle.chess_game.specs.TagNames.{all_tags}
use Rattle.replay_arguments.specs.TagOptions.{option_of}
use Rattle.std.specs.declared.alloc.AllocError.{AllocError}
use Rattle.clap.specs.declared.builder.action.ArgAction.TheVariants.{SetTrue}

-- a flag
abbrev pub rotated_rule : Rule
rotated_rule = record (new_rule (codes "rotated")) { long = Some (codes "rotated"); action = Some SetTrue }

-- another flag
abbrev pub recover_rule : Rule
recover_rule = record (new_rule (codes "recover")) { long = Some (codes "recover"); action = Some SetTrue }

-- an option with a text
abbrev pub text_rule : Text → Rule
text_rule name = record (new_rule name) { long = Some name; value_names = 1 }

abbrev pub show_app : App
show_app = new_app (codes "show")

abbrev pub pictures_app : App
pictures_app = with_rule (new_app (codes "pictures")) rotated_rule

abbrev pub with_text : App → Text → App
with_text app name = with_rule app (text_rule name)

-- with the options of these tags, in this order
abbrev pub with_options : List Tag → App → App
with_options [] app = app
with_options (tag ∷ tags) app = with_options tags (with_text app (option_of tag))

abbrev pub with_tags : App → App
with_tags app = with_options all_tags app

-- how a board stands and where its game starts
abbrev pub with_board : App → App
with_board app = with_text (with_text (with_rule app rotated_rule) (codes "first")) (codes "fen")

abbrev pub record_app : App
record_app = with_tags (with_board (new_app (codes "record")))

abbrev pub check_app : App
check_app = new_app (codes "check")

abbrev pub times_app : App
times_app = new_app (codes "times")

abbrev pub moves_app : App
moves_app = with_text (new_app (codes "moves")) (codes "fen")

abbrev pub positions_app : App
positions_app = with_text (new_app (codes "positions")) (codes "fen")

abbrev pub follow_app : App
follow_app = with_board (new_app (codes "follow"))

abbrev pub watch_app : App
watch_app = with_board (new_app (codes "watch"))

abbrev pub recover_app : App
recover_app = with_board (new_app (codes "recover"))

-- how a board stands, where its game starts, whether it is recovered first, and an option with a text
abbrev pub with_edit : Text → App → App
with_edit name app = with_text (with_rule (with_board app) recover_rule) name

abbrev pub add_app : App
add_app = with_edit (codes "line") (new_app (codes "add"))

abbrev pub back_app : App
back_app = with_edit (codes "to") (new_app (codes "back"))

abbrev pub instead_app : App
instead_app = with_edit (codes "line") (new_app (codes "instead"))

-- how a board stands, where its game starts, whether it is recovered, and the tags of its text
abbrev pub live_app : App
live_app = with_tags (with_rule (with_board (new_app (codes "live"))) recover_rule)

-- a version, and a subcommand that must be given
abbrev pub with_version : App → App
with_version app = record app { top = record app.top { has_version = true; subcommand_required = true } }

-- with the subcommands that read what a board sends, in this order
abbrev pub with_board_subcommands : App → App
with_board_subcommands app = with_subcommand (with_subcommand (with_subcommand (with_subcommand (with_subcommand (with_subcommand app
    show_app.top) pictures_app.top) record_app.top) follow_app.top) watch_app.top) recover_app.top

-- with those that change a capture
abbrev pub with_edit_subcommands : App → App
with_edit_subcommands app = with_subcommand (with_subcommand (with_subcommand app add_app.top) back_app.top) instead_app.top

-- with those that read texts, or nothing
abbrev pub with_text_subcommands : App → App
with_text_subcommands app = with_subcommand (with_subcommand (with_subcommand (with_subcommand app check_app.top) times_app.top) moves_app.top) positions_app.top

-- the command with its subcommands
abbrev pub replay : App
replay = with_text_subcommands (with_subcommand (with_edit_subcommands (with_board_subcommands (with_version (new_app (codes "dgt_replay"))))) live_app.top)

-- The command is read so by a parse.
pub record IsApp (command : Command) (app : App) : Type 0 where
  pub app_is : app_of command ≡ app
  pub local : (out-Command command).has_globals ≡ false

-- The command, where there is one, is read so.
abbrev pub Makes : Result Command AllocError → App → Type 0
Makes command app = IfOk command (λ c. IsApp c app)

-- Whatever the command was read as, it has this argument more.
abbrev pub AddsRule : Result Command AllocError → Rule → Result Command AllocError → Type 0
AddsRule old rule result = (app : App) → Makes old app → Makes result (with_rule app rule)

-- Whatever the two commands were read as, the first has the second as a subcommand more.
abbrev pub AddsApp : Result Command AllocError → Result Command AllocError → Result Command AllocError → Type 0
AddsApp old sub result = (app sub_app : App) → Makes old app → Makes sub sub_app → Makes result (with_subcommand app sub_app.top)
