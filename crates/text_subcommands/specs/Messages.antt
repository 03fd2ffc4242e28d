-- What the program says on standard error.
use Rattle.std.specs.Prelude.{◌≡◌, ◌⊎◌, ℕ, List, ◌++◌, codes, Bool, true, false, Option}
use Rattle.std.specs.Io.KnownBytes.{Appends, Keeps}
use Rattle.chess_text.specs.declared.fen.FenError.{FenError}
use Rattle.chess_text.specs.declared.fen.FenError.TheVariants.{Form, Counters, Placement, Kings, Pawns, Rights, EnPassant, Check}
use Rattle.chess_game.specs.declared.values.Tag.{Tag}
use Rattle.chess_game.specs.declared.values.TagError.{TagError}
use Rattle.chess_game.specs.declared.values.TagError.TheVariants.{Text, Long, Date as NoDate, Memory}
use Rattle.chess_game.specs.TagNames.{tag_name}
use Rattle.watched_streams.specs.Output.{AppendsPart}

-- This message and no other was written, or a front of it where the stream has failed.
abbrev pub Says : Option (List ℕ) → Option (List ℕ) → Bool → List ℕ → Type 0
Says said said' failed message = AppendsPart said said' message × (failed ≡ false → Appends said said' message)

-- why a FEN is refused
abbrev pub fen_message : FenError → List ℕ
fen_message Form = codes "fen: form\n"
fen_message Counters = codes "fen: counters\n"
fen_message Placement = codes "fen: placement\n"
fen_message Kings = codes "fen: kings\n"
fen_message Pawns = codes "fen: pawns\n"
fen_message Rights = codes "fen: rights\n"
fen_message EnPassant = codes "fen: en passant\n"
fen_message Check = codes "fen: check\n"

-- why the value of a tag is refused
abbrev pub tag_message : Tag → TagError → List ℕ
tag_message tag Text = codes "tag " ++ tag_name tag ++ codes ": text\n"
tag_message tag Long = codes "tag " ++ tag_name tag ++ codes ": long\n"
tag_message tag NoDate = codes "tag " ++ tag_name tag ++ codes ": date\n"
tag_message tag Memory = codes "memory\n"

-- the message about a stream past its limit
abbrev pub IsTooLong : List ℕ → Type 0
IsTooLong message = message ≡ codes "input: too long\n"

-- What a subcommand says, by its status; it may refuse its input with this message.
pub record Tells (status : ℕ) (May : List ℕ → Type 0) (said said' : Option (List ℕ)) (reader_failed out_failed err_failed : Bool) : Type 0 where
  pub done : status ≡ 0 → Keeps said said'
  pub refused : status ≡ 1 → (message : List ℕ) × May message × Says said said' err_failed message
  pub fault : status ≡ 3 → ((reader_failed ≡ true) × Says said said' err_failed (codes "read fault\n"))
      ⊎ ((out_failed ≡ true) × Says said said' err_failed (codes "write fault\n"))
  pub memory : status ≡ 4 → Says said said' err_failed (codes "memory\n")
