-- What the arguments of the command line ask for. The first one is the program's name.
use Rattle.std.specs.Prelude.{◌≡◌, ◌≢◌, ◌⊎◌, ◌||◌, Bool, List, [], ◌∷◌, ◌++◌, codes, Option, Some, MatchOption, IfSome, is_some, true, false, if◌then◌else◌}
use Rattle.std.specs.Option.{option_map_or}
use Rattle.std.specs.Borrow.{Bor}
use Rattle.std.specs.Str.{bytes_eq}
use Rattle.clap.specs.Walk.{Row, Text, first_of, one_of}
use Rattle.clap.specs.Simple.{subcommand_of}
use Rattle.clap.specs.Takes.{takes}
use Rattle.clap.specs.Faults.{fault_of}
use Rattle.clap.specs.Kinds.{IsAmong}
use Rattle.clap.specs.declared.error.kind.ErrorKind.TheVariants as kind
use Rattle.chess_rules.specs.declared.parts.Parts.{Parts}
use Rattle.board_events.specs.declared.setup.Setup.{Setup}
use Rattle.board_events.specs.Settings.{Setting}
use Rattle.replay_arguments.specs.declared.arguments.Subcommand.{Subcommand}
use Rattle.replay_arguments.specs.declared.arguments.Subcommand.TheVariants.{Show, Pictures, Record, Follow, Watch, Recover, Add, Back, Instead, Live, Check, Times, Moves, Positions}
use Rattle.replay_arguments.specs.declared.arguments.BoardArguments.{BoardArguments}
use Rattle.replay_arguments.specs.declared.arguments.RecordArguments.{RecordArguments}
use Rattle.replay_arguments.specs.declared.arguments.EditArguments.{EditArguments}
use Rattle.replay_arguments.specs.declared.arguments.LiveArguments.{LiveArguments}
use Rattle.replay_arguments.specs.Command.{replay}
use Rattle.replay_arguments.specs.Setups.{SetsBoardUp, SetsUp, Wants, WantsBoard, WantsEdit, WantsLive, flag_text, side_in}
use Rattle.chess_text.specs.Start.{StartsAt, given}

-- whether the subcommand is one of the program's, and the side after `--first`, if there is one, is white or black
abbrev pub is_subcommand : Text → List Row → Bool
is_subcommand name rows = if bytes_eq name (codes "record") || bytes_eq name (codes "follow") || bytes_eq name (codes "watch") || bytes_eq name (codes "recover") || bytes_eq name (codes "add") || bytes_eq name (codes "back") || bytes_eq name (codes "instead") || bytes_eq name (codes "live") then is_some (side_in (first_of (codes "first") rows))
    else (bytes_eq name (codes "show") || bytes_eq name (codes "pictures") || bytes_eq name (codes "check") || bytes_eq name (codes "times") || bytes_eq name (codes "moves") || bytes_eq name (codes "positions"))

-- what a subcommand with these arguments asks for
pub record Chooses (name : Text) (rows : List Row) (subcommand : Option Subcommand) : Type 0 where
  pub show : name ≡ codes "show" → subcommand ≡ Some Show
  pub pictures : (rotated : Bool) → name ≡ codes "pictures" → one_of (codes "rotated") rows ≡ Some (flag_text rotated) → subcommand ≡ Some (Pictures rotated)
  pub record_is : name ≡ codes "record" → IfSome subcommand (λ chosen. (options : RecordArguments) × (chosen ≡ Record options) × Wants rows options)
  pub follow : name ≡ codes "follow" → IfSome subcommand (λ chosen. (options : BoardArguments) × (chosen ≡ Follow options) × WantsBoard rows options)
  pub watch : name ≡ codes "watch" → IfSome subcommand (λ chosen. (options : BoardArguments) × (chosen ≡ Watch options) × WantsBoard rows options)
  pub recover : name ≡ codes "recover" → IfSome subcommand (λ chosen. (options : BoardArguments) × (chosen ≡ Recover options) × WantsBoard rows options)
  pub add : name ≡ codes "add" → IfSome subcommand (λ chosen. (options : EditArguments) × (chosen ≡ Add options) × WantsEdit (codes "line") rows options)
  pub back : name ≡ codes "back" → IfSome subcommand (λ chosen. (options : EditArguments) × (chosen ≡ Back options) × WantsEdit (codes "to") rows options)
  pub instead : name ≡ codes "instead" → IfSome subcommand (λ chosen. (options : EditArguments) × (chosen ≡ Instead options) × WantsEdit (codes "line") rows options)
  pub live : name ≡ codes "live" → IfSome subcommand (λ chosen. (options : LiveArguments) × (chosen ≡ Live options) × WantsLive rows options)
  pub check : name ≡ codes "check" → subcommand ≡ Some Check
  pub times : name ≡ codes "times" → subcommand ≡ Some Times
  pub moves : name ≡ codes "moves" → (fen : Option (Bor Text)) × (subcommand ≡ Some (Moves fen)) × (given fen ≡ first_of (codes "fen") rows)
  pub positions : name ≡ codes "positions" → (fen : Option (Bor Text)) × (subcommand ≡ Some (Positions fen)) × (given fen ≡ first_of (codes "fen") rows)
  pub known : is_some subcommand ≡ is_subcommand name rows

-- a parse finds this in the arguments
abbrev pub AsksFor : List Text → Subcommand → Type 0
AsksFor arguments subcommand = MatchOption (subcommand_of replay arguments) ⊥ (λ found. Chooses found.0 found.1 (Some subcommand))

-- A parse refuses the arguments, or they ask for nothing that the program does.
abbrev pub IsRefused : List Text → Type 0
IsRefused arguments = (takes replay arguments ≡ false) ⊎ (option_map_or (λ found. is_subcommand found.0 found.1) (subcommand_of replay arguments) false ≡ false)

-- The arguments ask for help.
abbrev pub AsksForHelp : List Text → Type 0
AsksForHelp arguments = fault_of replay arguments ≡ kind.DisplayHelp ∷ []

-- The arguments ask for the version.
abbrev pub AsksForVersion : List Text → Type 0
AsksForVersion arguments = fault_of replay arguments ≡ kind.DisplayVersion ∷ []

-- The arguments are mistaken: a parse finds fault with them, or they ask for nothing that the program does; and they
-- don't ask for help or for a version.
pub record AreMistaken (arguments : List Text) : Type 0 where
  pub fault : (fault_of replay arguments ≢ []) ⊎ (option_map_or (λ found. is_subcommand found.0 found.1) (subcommand_of replay arguments) false ≡ false)
  pub no_help : IsAmong kind.DisplayHelp (fault_of replay arguments) → ⊥
  pub no_version : IsAmong kind.DisplayVersion (fault_of replay arguments) → ⊥

-- The arguments ask for this subcommand with these arguments, and are not refused.
pub record Asks (arguments : List Text) (name : Text) (rows : List Row) : Type 0 where
  pub taken : takes replay arguments ≡ true
  pub found : subcommand_of replay arguments ≡ Some (name, rows)
  pub known : is_subcommand name rows ≡ true

-- The arguments ask for the messages and faults of a stream.
abbrev pub AsksToShow : List Text → Type 0
AsksToShow arguments = (rows : List Row) × Asks arguments (codes "show") rows

-- The arguments ask for the pictures of a stream, turned or not.
abbrev pub AsksForPictures : Bool → List Text → Type 0
AsksForPictures rotated arguments = (rows : List Row) × Asks arguments (codes "pictures") rows × (one_of (codes "rotated") rows ≡ Some (flag_text rotated))

-- The arguments ask whether a text is PGN in export form.
abbrev pub AsksToCheck : List Text → Type 0
AsksToCheck arguments = (rows : List Row) × Asks arguments (codes "check") rows

-- The arguments ask for the lines of a file of times.
abbrev pub AsksForTimes : List Text → Type 0
AsksForTimes arguments = (rows : List Row) × Asks arguments (codes "times") rows

-- The arguments ask for a recording that is set up so.
abbrev pub AsksToRecord : List Text → Setup → Type 0
AsksToRecord arguments setup = (rows : List Row) × Asks arguments (codes "record") rows × SetsUp rows setup

-- The arguments ask that a game be followed that is set up so.
abbrev pub AsksToFollow : List Text → Setting → Type 0
AsksToFollow arguments setting = (rows : List Row) × Asks arguments (codes "follow") rows × SetsBoardUp rows setting

-- The arguments ask that a game be watched that is set up so.
abbrev pub AsksToWatch : List Text → Setting → Type 0
AsksToWatch arguments setting = (rows : List Row) × Asks arguments (codes "watch") rows × SetsBoardUp rows setting

-- The arguments ask that a game be recovered that is set up so.
abbrev pub AsksToRecover : List Text → Setting → Type 0
AsksToRecover arguments setting = (rows : List Row) × Asks arguments (codes "recover") rows × SetsBoardUp rows setting

-- The arguments ask what a typed line, if there is one, adds to a capture whose game is set up so, and which is recovered
-- first or not.
abbrev pub AsksToAdd : List Text → Setting → Bool → Option Text → Type 0
AsksToAdd arguments setting recovers line = (rows : List Row) × Asks arguments (codes "add") rows × SetsBoardUp rows setting
    × (one_of (codes "recover") rows ≡ Some (flag_text recovers)) × (first_of (codes "line") rows ≡ line)

-- The arguments ask that a game go back as far as a text says, if there is one, of a capture whose game is set up so, and
-- which is recovered first or not.
abbrev pub AsksToGoBack : List Text → Setting → Bool → Option Text → Type 0
AsksToGoBack arguments setting recovers to = (rows : List Row) × Asks arguments (codes "back") rows × SetsBoardUp rows setting
    × (one_of (codes "recover") rows ≡ Some (flag_text recovers)) × (first_of (codes "to") rows ≡ to)

-- The arguments ask that a game get the moves of a line, if there is one, in place of its last ones, of a capture whose game
-- is set up so, and which is recovered first or not.
abbrev pub AsksToReplace : List Text → Setting → Bool → Option Text → Type 0
AsksToReplace arguments setting recovers line = (rows : List Row) × Asks arguments (codes "instead") rows × SetsBoardUp rows setting
    × (one_of (codes "recover") rows ≡ Some (flag_text recovers)) × (first_of (codes "line") rows ≡ line)

-- The arguments ask that a board be attended whose game is set up so, and is recovered or not.
abbrev pub AsksToAttend : List Text → Setup → Bool → Type 0
AsksToAttend arguments setup recovers = (rows : List Row) × Asks arguments (codes "live") rows × SetsUp rows setup
    × (one_of (codes "recover") rows ≡ Some (flag_text recovers))

-- The arguments ask for the moves of this position.
abbrev pub AsksForMoves : List Text → Parts → Type 0
AsksForMoves arguments start = (rows : List Row) × Asks arguments (codes "moves") rows × StartsAt (first_of (codes "fen") rows) start

-- The arguments ask for the positions of a line of moves from this start.
abbrev pub AsksForPositions : List Text → Parts → Type 0
AsksForPositions arguments start = (rows : List Row) × Asks arguments (codes "positions") rows × StartsAt (first_of (codes "fen") rows) start

-- The arguments are a program's name, whatever it is, and `show`.
abbrev pub IsShow : List Text → Type 0
IsShow arguments = (name : Text) × (arguments ≡ name ∷ codes "show" ∷ [])

-- The arguments are a program's name, whatever it is, and `pictures`, with or without `--rotated`.
abbrev pub IsPictures : Bool → List Text → Type 0
IsPictures rotated arguments = (name : Text) × (arguments ≡ name ∷ codes "pictures" ∷ (if rotated then codes "--rotated" ∷ [] else []))

-- The arguments are a program's name, whatever it is, and `record`, with or without `--rotated`.
abbrev pub IsRecord : Bool → List Text → Type 0
IsRecord rotated arguments = (name : Text) × (arguments ≡ name ∷ codes "record" ∷ (if rotated then codes "--rotated" ∷ [] else []))

-- The arguments are a program's name, whatever it is, and `follow`, with or without `--rotated`.
abbrev pub IsFollow : Bool → List Text → Type 0
IsFollow rotated arguments = (name : Text) × (arguments ≡ name ∷ codes "follow" ∷ (if rotated then codes "--rotated" ∷ [] else []))

-- The arguments are a program's name, whatever it is, and `watch`, with or without `--rotated`.
abbrev pub IsWatch : Bool → List Text → Type 0
IsWatch rotated arguments = (name : Text) × (arguments ≡ name ∷ codes "watch" ∷ (if rotated then codes "--rotated" ∷ [] else []))

-- The arguments are a program's name, whatever it is, and `recover`, with or without `--rotated`.
abbrev pub IsRecover : Bool → List Text → Type 0
IsRecover rotated arguments = (name : Text) × (arguments ≡ name ∷ codes "recover" ∷ (if rotated then codes "--rotated" ∷ [] else []))

-- The arguments are a program's name, whatever it is, this subcommand, and an option that begins so with a text, with or
-- without `--rotated` and `--recover`.
abbrev pub IsEdit : Text → Text → Text → Bool → Bool → List Text → Type 0
IsEdit subcommand option text rotated recovers arguments = (name : Text)
    × (arguments ≡ name ∷ subcommand ∷ (option ++ text) ∷ ((if rotated then codes "--rotated" ∷ [] else []) ++ (if recovers then codes "--recover" ∷ [] else [])))

-- They are `add` and `--line=TEXT`.
abbrev pub IsAdd : Text → Bool → Bool → List Text → Type 0
IsAdd text rotated recovers arguments = IsEdit (codes "add") (codes "--line=") text rotated recovers arguments

-- They are `back` and `--to=TEXT`.
abbrev pub IsBack : Text → Bool → Bool → List Text → Type 0
IsBack text rotated recovers arguments = IsEdit (codes "back") (codes "--to=") text rotated recovers arguments

-- They are `instead` and `--line=TEXT`.
abbrev pub IsInstead : Text → Bool → Bool → List Text → Type 0
IsInstead text rotated recovers arguments = IsEdit (codes "instead") (codes "--line=") text rotated recovers arguments

-- The arguments are a program's name, whatever it is, and `live`, with or without `--rotated` and `--recover`.
abbrev pub IsLive : Bool → Bool → List Text → Type 0
IsLive rotated recovers arguments = (name : Text)
    × (arguments ≡ name ∷ codes "live" ∷ ((if rotated then codes "--rotated" ∷ [] else []) ++ (if recovers then codes "--recover" ∷ [] else [])))

-- The arguments are a program's name, whatever it is, and `check`.
abbrev pub IsCheck : List Text → Type 0
IsCheck arguments = (name : Text) × (arguments ≡ name ∷ codes "check" ∷ [])

-- The arguments are a program's name, whatever it is, and `times`.
abbrev pub IsTimes : List Text → Type 0
IsTimes arguments = (name : Text) × (arguments ≡ name ∷ codes "times" ∷ [])

-- The arguments are a program's name, whatever it is, and `moves`.
abbrev pub IsMoves : List Text → Type 0
IsMoves arguments = (name : Text) × (arguments ≡ name ∷ codes "moves" ∷ [])

-- The arguments are a program's name, whatever it is, and `positions`.
abbrev pub IsPositions : List Text → Type 0
IsPositions arguments = (name : Text) × (arguments ≡ name ∷ codes "positions" ∷ [])

-- The arguments are a program's name, whatever it is, and `--help` or `-h`.
abbrev pub IsHelp : List Text → Type 0
IsHelp arguments = (name : Text) × ((arguments ≡ name ∷ codes "--help" ∷ []) ⊎ (arguments ≡ name ∷ codes "-h" ∷ []))

-- The arguments are a program's name, whatever it is, and `--version` or `-V`.
abbrev pub IsVersion : List Text → Type 0
IsVersion arguments = (name : Text) × ((arguments ≡ name ∷ codes "--version" ∷ []) ⊎ (arguments ≡ name ∷ codes "-V" ∷ []))
