-- Setups that are as the arguments say.
use Rattle.std.proofs.Common.{◌≡◌, ◌⊎◌, ◌∙◌, ℕ, List, Option, Some, None, inl, inr, refl, subst, sym}
use Rattle.clap.specs.Walk.{Row, Text}
use Rattle.chess_rules.specs.declared.parts.Parts.{Parts}
use Rattle.chess_text.specs.Laws.{TextsTellPositions}
use Rattle.chess_game.specs.declared.values.Tag.{Tag}
use Rattle.chess_game.specs.Values.{TagValues, value_of}
use Rattle.chess_game.proofs.TagValues.{same_values}
use Rattle.board_events.specs.declared.setup.Setup.{Setup}
use Rattle.board_events.specs.Settings.{Setting}
use Rattle.board_events.specs.Settings.{setting_of}
use Rattle.replay_arguments.specs.declared.setup.Refusal.{Refusal}
use Rattle.replay_arguments.specs.declared.arguments.BoardArguments.{BoardArguments}
use Rattle.replay_arguments.specs.declared.arguments.RecordArguments.{RecordArguments}
use Rattle.replay_arguments.specs.Setups.{ForMemory, HasNoValue, HasValue, HasValues, Meets, MeetsBoard, MeetsNothing, SetsBoardUp, SetsUp, SetsUpNothing, Wants, WantsBoard, tag_text}
use Rattle.chess_text.specs.Start.{HasNoStart, StartsAt, given}

-- What the rows of a parse set up is what the fields want.
pub meets_board : (rows : List Row) (options : BoardArguments) (setting : Setting) → WantsBoard rows options → SetsBoardUp rows setting → MeetsBoard options setting
meets_board rows options setting wants sets =
    let first : Some setting.first ≡ Some options.first = sym sets.first ∙ wants.first in
    let P : Option Text → Type 0 = λ fen. StartsAt fen setting.start in
    record {
      rotated = sym (wants.rotated setting.rotated sets.rotated);
      first = cc;
      start = subst P (sym wants.fen) sets.start;
    }

pub meets : (rows : List Row) (options : RecordArguments) (setup : Setup) → Wants rows options → SetsUp rows setup → Meets options setup
meets rows options setup wants sets = record {
  board = meets_board rows options.board (setting_of setup) wants.board sets.board;
  tags = λ tag. (let Q : Option Text → Type 0 = λ text. HasValue tag text (value_of tag setup.tags) in subst Q (sym (wants.tags tag)) (sets.tags tag));
}

-- The setting that has this start is the one that the arguments say.
pub same_setting : (options : BoardArguments) (setting : Setting) (start : Parts) → MeetsBoard options setting → start ≡ setting.start
    → record { start = start; first = options.first; rotated = options.rotated } ≡ setting
same_setting options setting start meets same =
    let first : options.first ≡ setting.first = sym meets.first in
    let rotated : options.rotated ≡ setting.rotated = sym meets.rotated in
    rw (same, first, rotated) refl

pub meets_nothing : (rows : List Row) (options : RecordArguments) → Wants rows options → SetsUpNothing rows → MeetsNothing options
meets_nothing rows options wants (inl none) = inl (subst HasNoStart (sym wants.board.fen) none)
meets_nothing rows options wants (inr (tag, none)) = inr (tag, subst (HasNoValue tag) (sym (wants.tags tag)) none)

value_one : (tag : Tag) (text : Option Text) (a b : List ℕ) → HasValue tag text a → HasValue tag text b → a ≡ b
value_one tag None a b x y = x ∙ sym y
value_one tag (Some text) a b x y = x.0 ∙ sym y.0

values_one : (options : RecordArguments) (a b : TagValues) → HasValues options a → HasValues options b → a ≡ b
values_one options a b x y =
    same_values a b (λ tag. value_one tag (tag_text options tag) (value_of tag a) (value_of tag b) (x tag) (y tag))

starts_one : TextsTellPositions → (fen : Option Text) (p q : Parts) → StartsAt fen p → StartsAt fen q → p ≡ q
starts_one law None p q x y = x ∙ sym y
starts_one law (Some text) p q x y = law p q text x.0 y.0 x.1 y.1

-- At most one setup is as the arguments say.
pub one_setup : TextsTellPositions → (options : RecordArguments) (a b : Setup) → Meets options a → Meets options b → a ≡ b
one_setup law options a b x y =
    let start : a.start ≡ b.start = starts_one law (given options.board.fen) a.start b.start x.board.start y.board.start in
    let first : a.first ≡ b.first = x.board.first ∙ sym y.board.first in
    let rotated : a.rotated ≡ b.rotated = x.board.rotated ∙ sym y.board.rotated in
    let tags : a.tags ≡ b.tags = values_one options a.tags b.tags x.tags y.tags in
    let e : record { start = a.start; first = a.first; rotated = a.rotated; tags = a.tags }
    ≡ record { start = b.start; first = b.first; rotated = b.rotated; tags = b.tags } = cc in e

pub met_by_none : {A : Type 0} (options : RecordArguments) (setup : Setup) → Meets options setup → MeetsNothing options → A
met_by_none options setup meets (inl none) = absurd (none setup.start meets.board.start)
met_by_none options setup meets (inr (tag, none)) = absurd (none (value_of tag setup.tags) (meets.tags tag))

-- Where a setup is as the arguments say, only an allocation that fails prevents it.
pub only_for_memory : (options : RecordArguments) (setup : Setup) (refusal : Refusal) → Meets options setup → ForMemory refusal ⊎ MeetsNothing options → ForMemory refusal
only_for_memory options setup refusal meets (inl memory) = memory
only_for_memory options setup refusal meets (inr none) = met_by_none options setup meets none
