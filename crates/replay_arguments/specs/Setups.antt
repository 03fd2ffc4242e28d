-- What the options of the subcommands that read what a board sends set up.
use Rattle.std.specs.Prelude.{◌≡◌, ◌⊎◌, Bool, List, ◌∷◌, ◌++◌, All, ℕ, codes, Option, Some, None, MatchOption, true, false, if◌then◌else◌, ⊤}
use Rattle.std.specs.Str.{bytes_eq}
use Rattle.clap.specs.Walk.{Row, Text, first_of, one_of}
use Rattle.chess_rules.specs.declared.parts.Parts.{Parts}
use Rattle.chess_rules.specs.Initial.{initial}
use Rattle.chess_text.specs.Fen.{RefusedFirst}
use Rattle.chess_text.specs.Start.{HasNoStart, StartsAt, given}
use Rattle.dgt_frame.specs.declared.time.First.{First}
use Rattle.dgt_frame.specs.declared.time.First.TheVariants as first
use Rattle.chess_game.specs.declared.values.Tag.{Tag}
use Rattle.chess_game.specs.declared.values.Tag.TheVariants.{Event, Site, Date, Round, White, Black}
use Rattle.chess_game.specs.declared.values.TagError.TheVariants.{Memory}
use Rattle.chess_game.specs.TagNames.{all_tags}
use Rattle.chess_game.specs.Values.{IsValue, RefusesText, TagValues, unknown_of, unknown_values, value_of}
use Rattle.board_events.specs.declared.setup.Setup.{Setup}
use Rattle.board_events.specs.Settings.{Setting, setting_of}
use Rattle.replay_arguments.specs.TagOptions.{option_of}
use Rattle.replay_arguments.specs.declared.setup.Refusal.{Refusal}
use Rattle.replay_arguments.specs.declared.setup.Refusal.TheVariants.{Fen, Tag as OfTag}
use Rattle.replay_arguments.specs.declared.arguments.BoardArguments.{BoardArguments}
use Rattle.replay_arguments.specs.declared.arguments.RecordArguments.{RecordArguments}
use Rattle.replay_arguments.specs.declared.arguments.EditArguments.{EditArguments}
use Rattle.replay_arguments.specs.declared.arguments.LiveArguments.{LiveArguments}

-- the text of a flag
abbrev pub flag_text : Bool → Text
flag_text true = codes "true"
flag_text false = codes "false"

-- the side that the text after `--first` names; White where there is no text; none where it is another text
abbrev pub side_in : Option Text → Option First
side_in None = Some first.White
side_in (Some text) = if bytes_eq text (codes "white") then Some first.White else (if bytes_eq text (codes "black") then Some first.Black else None)

-- The value of a tag: the text that is given, if the tag may have it, or the unknown value where none is given.
abbrev pub HasValue : Tag → Option Text → List ℕ → Type 0
HasValue tag None value = value ≡ unknown_of tag
HasValue tag (Some text) value = (value ≡ text) × IsValue tag text

-- The options set a board and its game up so.
pub record SetsBoardUp (rows : List Row) (setting : Setting) : Type 0 where
  pub rotated : one_of (codes "rotated") rows ≡ Some (flag_text setting.rotated)
  pub first : side_in (first_of (codes "first") rows) ≡ Some setting.first
  pub start : StartsAt (first_of (codes "fen") rows) setting.start

-- The options set a recording up so.
pub record SetsUp (rows : List Row) (setup : Setup) : Type 0 where
  pub board : SetsBoardUp rows (setting_of setup)
  pub tags : (tag : Tag) → HasValue tag (first_of (option_of tag) rows) (value_of tag setup.tags)

-- the setup where no option is given but perhaps `--rotated`: the initial position, White's time first, unknown tags
abbrev pub plain_setup : Bool → Setup
plain_setup rotated = record { start = initial; first = first.White; rotated = rotated; tags = unknown_values }

-- The tag may not have the text.
abbrev pub HasNoValue : Tag → Option Text → Type 0
HasNoValue tag text = (value : List ℕ) → HasValue tag text value → ⊥

-- No position has the FEN that is given, or a tag may not have the text that is given for it.
abbrev pub SetsUpNothing : List Row → Type 0
SetsUpNothing rows = HasNoStart (first_of (codes "fen") rows) ⊎ ((tag : Tag) × HasNoValue tag (first_of (option_of tag) rows))

-- The tag may have the text, where one is given.
abbrev pub MayHave : Tag → Option Text → Type 0
MayHave tag None = ⊤
MayHave tag (Some text) = IsValue tag text

-- the text that is given for a tag
abbrev pub tag_text : RecordArguments → Tag → Option Text
tag_text options Event = given options.event
tag_text options Site = given options.site
tag_text options Date = given options.date
tag_text options Round = given options.round
tag_text options White = given options.white
tag_text options Black = given options.black

-- The fields of the arguments of a board are what the rows of a parse say.
pub record WantsBoard (rows : List Row) (options : BoardArguments) : Type 0 where
  pub rotated : (rotated : Bool) → one_of (codes "rotated") rows ≡ Some (flag_text rotated) → options.rotated ≡ rotated
  pub first : side_in (first_of (codes "first") rows) ≡ Some options.first
  pub fen : given options.fen ≡ first_of (codes "fen") rows

-- So are the fields of the arguments of a recording.
pub record Wants (rows : List Row) (options : RecordArguments) : Type 0 where
  pub board : WantsBoard rows options.board
  pub tags : (tag : Tag) → tag_text options tag ≡ first_of (option_of tag) rows

-- So are those of the arguments by which a capture is changed; its text is that of this option.
pub record WantsEdit (name : Text) (rows : List Row) (options : EditArguments) : Type 0 where
  pub board : WantsBoard rows options.board
  pub recovers : (recovers : Bool) → one_of (codes "recover") rows ≡ Some (flag_text recovers) → options.recovers ≡ recovers
  pub text : given options.text ≡ first_of name rows

-- So are those of the arguments by which a board is attended.
pub record WantsLive (rows : List Row) (options : LiveArguments) : Type 0 where
  pub game : Wants rows options.game
  pub recovers : (recovers : Bool) → one_of (codes "recover") rows ≡ Some (flag_text recovers) → options.recovers ≡ recovers

-- The tags have the values that are given.
abbrev pub HasValues : RecordArguments → TagValues → Type 0
HasValues options values = (tag : Tag) → HasValue tag (tag_text options tag) (value_of tag values)

-- The setting of a board is as the arguments say.
pub record MeetsBoard (options : BoardArguments) (setting : Setting) : Type 0 where
  pub rotated : setting.rotated ≡ options.rotated
  pub first : setting.first ≡ options.first
  pub start : StartsAt (given options.fen) setting.start

-- The setup is as the arguments say.
pub record Meets (options : RecordArguments) (setup : Setup) : Type 0 where
  pub board : MeetsBoard options.board (setting_of setup)
  pub tags : HasValues options setup.tags

-- No position has the FEN, or a tag may not have its text.
abbrev pub MeetsNothing : RecordArguments → Type 0
MeetsNothing options = HasNoStart (given options.board.fen) ⊎ ((tag : Tag) × HasNoValue tag (tag_text options tag))

-- The refusal is that memory ran out.
abbrev pub ForMemory : Refusal → Type 0
ForMemory (Fen error) = ⊥
ForMemory (OfTag tag error) = error ≡ Memory

-- The refusal is that of a tag whose text, or memory for it, is refused. The tags before it may have the texts given
-- for them.
abbrev pub OfFirstTag : (Tag → Option Text) → Refusal → Type 0
OfFirstTag text (Fen error) = ⊥
OfFirstTag text (OfTag tag error) = (before after : List Tag) × (all_tags ≡ before ++ tag ∷ after)
    × All (λ t. MayHave t (text t)) before × MatchOption (text tag) ⊥ (λ value. RefusesText tag value error)

-- The refusal is the first there is: of the FEN, else of the first tag that is refused.
abbrev pub IsFirst : RecordArguments → Refusal → Type 0
IsFirst options (Fen error) = MatchOption (given options.board.fen) ⊥ (λ text. RefusedFirst text error)
IsFirst options (OfTag tag error) = ((start : Parts) × StartsAt (given options.board.fen) start) × OfFirstTag (tag_text options) (OfTag tag error)
