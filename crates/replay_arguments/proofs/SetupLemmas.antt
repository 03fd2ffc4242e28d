-- What arguments set up.
use Rattle.std.proofs.Common.{◌≡◌, ◌⊎◌, ◌∙◌, ℕ, ◌+◌, ◌<◌, Bool, true, false, List, [], ◌∷◌, ◌++◌, take, drop, get_or, length, Option, Some, None, ap, codes, inl, inr, refl, subst, sym}
use Rattle.std.specs.Prelude.{All, IfSome, MatchOption, unwrap_or, if◌then◌else◌}
use Rattle.std.proofs.lemmas.List.{drop_more, take_more, take-append-drop}
use Rattle.std.proofs.lemmas.List.Elements.{All-nil, All-push}
use Rattle.std.proofs.Math.Path.{fun_ext}
use Rattle.std.specs.Borrow.{Bor}
use Rattle.clap.specs.Walk.{Row, Text, first_of, one_of}
use Rattle.chess_rules.specs.declared.parts.Parts.{Parts}
use Rattle.chess_rules.specs.Initial.{initial}
use Rattle.chess_text.specs.declared.fen.FenError.{FenError}
use Rattle.chess_text.specs.Fen.{RefusedFirst}
use Rattle.chess_game.specs.declared.values.Tag.{Tag}
use Rattle.chess_game.specs.declared.values.Tag.TheVariants.{Event, Site, Date, Round, White, Black}
use Rattle.chess_game.specs.declared.values.TagError.{TagError}
use Rattle.chess_game.specs.declared.values.TagError.TheVariants.{Text as NoText, Long, Date as NoDate, Memory}
use Rattle.chess_game.specs.TagNames.{all_tags, is_tag, tag_index}
use Rattle.chess_game.specs.Values.{RefusesText, TagValues, unknown_of, unknown_values, value_of, values_by}
use Rattle.chess_game.proofs.TagValues.{by_value, index_below, tag_at, value_by}
use Rattle.board_events.specs.Settings.{setting_of}
use Rattle.replay_arguments.specs.declared.setup.Refusal.{Refusal}
use Rattle.replay_arguments.specs.declared.setup.Refusal.TheVariants.{Fen, Tag as OfTag}
use Rattle.replay_arguments.specs.declared.arguments.BoardArguments.{BoardArguments}
use Rattle.replay_arguments.specs.declared.arguments.RecordArguments.{RecordArguments}
use Rattle.replay_arguments.specs.Inside.Given.{with_given}
use Rattle.replay_arguments.specs.Setups.{ForMemory, HasNoValue, HasValue, HasValues, IsFirst, MayHave, MeetsNothing, OfFirstTag, SetsBoardUp, SetsUp, flag_text, plain_setup, tag_text}
use Rattle.chess_text.specs.Start.{StartsAt, given}
use Rattle.replay_arguments.specs.TagOptions.{option_of}

pub sets_board_up_plainly : (rows : List Row) (rotated : Bool) → one_of (codes "rotated") rows ≡ Some (flag_text rotated) → first_of (codes "first") rows ≡ None
    → first_of (codes "fen") rows ≡ None → SetsBoardUp rows (setting_of (plain_setup rotated))
sets_board_up_plainly rows rotated turned first fen = record {
  rotated = turned;
  first = rw first refl;
  start = rw fen refl;
}

pub sets_up_plainly : (rows : List Row) (rotated : Bool) → one_of (codes "rotated") rows ≡ Some (flag_text rotated) → first_of (codes "first") rows ≡ None
    → first_of (codes "fen") rows ≡ None → ((tag : Tag) → first_of (option_of tag) rows ≡ None) → SetsUp rows (plain_setup rotated)
sets_up_plainly rows rotated turned first fen none = record {
  board = sets_board_up_plainly rows rotated turned first fen;
  tags = λ tag. rw (none tag) (value_by unknown_of tag);
}

-- the texts for tags, one by one
abbrev pub options_with : BoardArguments → (event site date round white black : Option (Bor Text)) → RecordArguments
options_with board event site date round white black = record { board = board; event = event; site = site; date = date; round = round; white = white; black = black }

pub wants_tags : (rows : List Row) (options : RecordArguments) → given options.event ≡ first_of (option_of Event) rows → given options.site ≡ first_of (option_of Site) rows
    → given options.date ≡ first_of (option_of Date) rows → given options.round ≡ first_of (option_of Round) rows → given options.white ≡ first_of (option_of White) rows
    → given options.black ≡ first_of (option_of Black) rows → (tag : Tag) → tag_text options tag ≡ first_of (option_of tag) rows
wants_tags rows options event site date round white black Event = event
wants_tags rows options event site date round white black Site = site
wants_tags rows options event site date round white black Date = date
wants_tags rows options event site date round white black Round = round
wants_tags rows options event site date round white black White = white
wants_tags rows options event site date round white black Black = black

-- a text that a tag refuses
pub value_refused : (tag : Tag) (text : List ℕ) (error : TagError) → RefusesText tag text error → (error ≡ Memory) ⊎ HasNoValue tag (Some text)
value_refused tag text NoText refuses = inr (λ value has. refuses has.1.text)
value_refused tag text Long refuses = inr (λ value has. refuses.1 has.1.short)
value_refused tag text NoDate refuses = inr (λ value has. refuses.3 (has.1.date refuses.2))
value_refused tag text Memory refuses = inl refl

-- ---- tags that are set one after another

-- the values with those of these tags changed to their texts, where such are given
abbrev pub with_texts : (Tag → Option Text) → List Tag → TagValues → TagValues
with_texts text [] values = values
with_texts text (tag ∷ tags) values = with_texts text tags (with_given tag (text tag) values)

pub none_given : (tag : Tag) (values : TagValues) → values ≡ with_given tag None values
none_given tag values =
    by_value values
    ∙ ap values_by (fun_ext (λ other. elim (is_tag tag other) as (λ b. value_of other values ≡ (if b then value_of other values else value_of other values)) [ true ↦ refl | false ↦ refl ]))

value_given : (text : Tag → Option Text) (tag : Tag) → value_of tag (with_texts text all_tags unknown_values) ≡ unwrap_or (text tag) (unknown_of tag)
value_given text Event = refl
value_given text Site = refl
value_given text Date = refl
value_given text Round = refl
value_given text White = refl
value_given text Black = refl

has_value : (tag : Tag) (text : Option Text) (value : List ℕ) → value ≡ unwrap_or text (unknown_of tag) → MayHave tag text → HasValue tag text value
has_value tag None value is may = is
has_value tag (Some text) value is may = (is, may)

-- These tags may have their texts.
abbrev pub AllMay : (Tag → Option Text) → List Tag → Type 0
AllMay text = All (λ t. MayHave t (text t))

each_may : (text : Tag → Option Text) → AllMay text all_tags → (tag : Tag) → MayHave tag (text tag)
each_may text may tag = let P : Tag → Type 0 = λ t. MayHave t (text t) in subst P (tag_at tag) (may (tag_index tag) Event (index_below tag))

-- The tags in the first i places are set.
pub record SetTo (text : Tag → Option Text) (i : ℕ) (values : TagValues) : Type 0 where
  pub may : AllMay text (take i all_tags)
  pub gives : with_texts text (drop i all_tags) values ≡ with_texts text all_tags unknown_values

pub none_set : (text : Tag → Option Text) (values : TagValues) → values ≡ unknown_values → SetTo text 0 values
none_set text values is = record { may = All-nil (λ t. MayHave t (text t)); gives = ap (with_texts text all_tags) is }

pub one_set : (text : Tag → Option Text) (i : ℕ) (tag : Tag) (values new : TagValues) → i < length all_tags → tag ≡ get_or all_tags i Event → SetTo text i values
    → new ≡ with_given tag (text tag) values → MayHave tag (text tag) → SetTo text (i + 1) new
one_set text i tag values new lt at set is may =
    let P : Tag → Type 0 = λ t. MayHave t (text t) in
    let left = drop (i + 1) all_tags in
    let next : drop i all_tags ≡ tag ∷ left = drop_more all_tags i Event lt ∙ ap (λ (t : Tag). t ∷ left) (sym at) in
    let front : take (i + 1) all_tags ≡ take i all_tags ++ tag ∷ [] = take_more all_tags i Event lt ∙ ap (λ (t : Tag). take i all_tags ++ t ∷ []) (sym at) in
    record {
      may = subst (AllMay text) (sym front) (All-push P (take i all_tags) tag set.may may);
      gives = ap (with_texts text left) is ∙ sym (ap (λ (ts : List Tag). with_texts text ts values) next) ∙ set.gives;
    }

-- Tags that are set one after another have the values that are given.
pub all_set : (options : RecordArguments) (values : TagValues) → SetTo (tag_text options) (length all_tags) values → HasValues options values
all_set options values set tag =
    has_value tag (tag_text options tag) (value_of tag values) (ap (value_of tag) set.gives ∙ value_given (tag_text options) tag) (each_may (tag_text options) set.may tag)

-- A tag is refused, and those before it aren't.
pub first_tag : (text : Tag → Option Text) (i : ℕ) (tag : Tag) (values : TagValues) (refusal : Refusal) → i < length all_tags → tag ≡ get_or all_tags i Event → SetTo text i values
    → ((error : TagError) × (refusal ≡ OfTag tag error) × MatchOption (text tag) ⊥ (λ value. RefusesText tag value error)) → OfFirstTag text refusal
first_tag text i tag values refusal lt at set (error, refusal_is, refused) =
    let left = drop (i + 1) all_tags in
    let next : drop i all_tags ≡ tag ∷ left = drop_more all_tags i Event lt ∙ ap (λ (t : Tag). t ∷ left) (sym at) in
    let whole : all_tags ≡ take i all_tags ++ tag ∷ left = sym (take-append-drop i all_tags) ∙ ap (λ (ts : List Tag). take i all_tags ++ ts) next in
    let P : Refusal → Type 0 = λ r. OfFirstTag text r in
    subst P (sym refusal_is) (take i all_tags, left, whole, set.may, refused)

value_none : (tag : Tag) (text : Option Text) (error : TagError) → MatchOption text ⊥ (λ value. RefusesText tag value error) → (error ≡ Memory) ⊎ HasNoValue tag text
value_none tag None error refused = absurd refused
value_none tag (Some text) error refused = value_refused tag text error refused

-- Such a refusal is for memory, or no setup is as the arguments say.
pub tag_none : (options : RecordArguments) (refusal : Refusal) → OfFirstTag (tag_text options) refusal → ForMemory refusal ⊎ MeetsNothing options
tag_none options (Fen error) first = absurd first
tag_none options (OfTag tag error) first = elim (value_none tag (tag_text options tag) error first.4) [
  | inl memory ↦ inl memory
  | inr none ↦ inr (inr (tag, none))
]

pub tag_first : (options : RecordArguments) (refusal : Refusal) (start : Parts) → StartsAt (given options.board.fen) start → OfFirstTag (tag_text options) refusal → IsFirst options refusal
tag_first options (Fen error) start starts first = absurd first
tag_first options (OfTag tag error) start starts first = ((start, starts), first)

fen_given : (fen : Option Text) (error : FenError) → IfSome fen (λ text. RefusedFirst text error) → ((start : Parts) → StartsAt fen start → ⊥) → MatchOption fen ⊥ (λ text. RefusedFirst text error)
fen_given None error refused none = none initial refl
fen_given (Some text) error refused none = refused

pub fen_first : (options : RecordArguments) (error : FenError) → IfSome (given options.board.fen) (λ text. RefusedFirst text error) → ((start : Parts) → StartsAt (given options.board.fen) start → ⊥) → IsFirst options (Fen error)
fen_first options error refused none = fen_given (given options.board.fen) error refused none
