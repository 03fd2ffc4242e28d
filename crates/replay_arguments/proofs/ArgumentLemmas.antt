-- What the parse of arguments gives.
use Rattle.std.proofs.Common.{◌≡◌, ◌⊎◌, ◌&&◌, ℕ, ◌∷◌, ◌++◌, [], ◌∙◌, Bool, true, false, List, Option, Some, None, ap, refl, sym, inl, inr, codes, option_map, subst}
use Rattle.std.specs.Prelude.{IfSome, MatchOption, is_some}
use Rattle.std.specs.Option.{option_map_or}
use Rattle.std.specs.Borrow.{Bor}
use Rattle.std.specs.Str.{bytes_eq}
use Rattle.std.proofs.lemmas.Slice.Eq.{bytes_eq-Decides}
use Rattle.clap.specs.Walk.{Row, Text, first_of, nothing_held, one_of, rows_of}
use Rattle.clap.specs.Matches.{first_value, one_text}
use Rattle.clap.specs.Simple.{App, HasMatchesOf, argument_words, built, is_simple, subcommand_of, subcommand_rows_of}
use Rattle.clap.specs.Takes.{built_takes, takes}
use Rattle.clap.specs.declared.parser.matches.ArgMatches.{ArgMatches}
use Rattle.clap.specs.declared.builder.value_parser.Reading.TheVariants.{AsWritten}
use Rattle.clap.specs.declared.parser.matches.Found.{Found}
use Rattle.clap.specs.declared.parser.matches.ValueSource.{ValueSource}
use Rattle.clap.specs.declared.parser.matches.ValueSource.TheVariants.{CommandLine, DefaultValue}
use Rattle.clap.proofs.OnLiterals.{clap_on_literals}
use Rattle.clap.proofs.WalkLemmas.{first_value-rows, one_text-rows}
use Rattle.chess_rules.specs.Initial.{initial}
use Rattle.chess_game.specs.declared.values.Tag.{Tag}
use Rattle.chess_game.specs.declared.values.Tag.TheVariants.{Event, Site, Date, Round, White, Black}
use Rattle.board_events.specs.Settings.{setting_of}
use Rattle.replay_arguments.specs.declared.arguments.Subcommand.{Subcommand}
use Rattle.replay_arguments.specs.Command.{replay}
use Rattle.replay_arguments.specs.Subcommands.{Asks, AsksForPictures, AsksForTimes, AsksToAdd, AsksToAttend, AsksToCheck, AsksToShow, AsksForMoves, AsksForPositions, AsksToFollow, AsksToGoBack, AsksToReplace, AsksToRecord, AsksToRecover, AsksToWatch, Chooses, IsAdd, IsBack, IsInstead, IsCheck, IsFollow, IsLive, IsMoves, IsPictures, IsPositions, IsRecord, IsRecover, IsTimes, IsWatch, IsShow, is_subcommand}
use Rattle.replay_arguments.specs.Setups.{SetsBoardUp, flag_text, plain_setup, side_in}
use Rattle.chess_text.specs.Start.{given}
use Rattle.replay_arguments.specs.TagOptions.{option_of}
use Rattle.replay_arguments.proofs.SetupLemmas.{sets_board_up_plainly, sets_up_plainly}

-- a text that was given, or not, is in the rows
pub text_given : (found : Found) (id : Text) (result : Option (Bor (List ℕ))) → option_map (λ s. s.now) result ≡ first_value found id → given result ≡ first_of id (rows_of found)
text_given found id result is = is ∙ first_value-rows found id

pub if_some_at : {A : Type 0} (P : A → Type 0) (o : Option A) (a : A) → o ≡ Some a → IfSome o P → P a
if_some_at {A} P o a is holds = let Q : Option A → Type 0 = λ o. IfSome o P in subst Q is holds

pub flag_given : (found : Found) (id text : Text) → one_of id (rows_of found) ≡ Some text → one_text found id ≡ Some text
flag_given found id text given = one_text-rows found id ∙ given

replay_is_simple : is_simple replay ≡ true
unfolding clap_on_literals
replay_is_simple = refl

-- The matches of a parse have the subcommand that is in the arguments.
pub rows_found : (app : App) (arguments : List Text) (m : ArgMatches) → app ≡ replay → HasMatchesOf app arguments m → subcommand_rows_of m ≡ subcommand_of replay arguments
rows_found app arguments m app_is has = (has (ap is_simple app_is ∙ replay_is_simple)).1 ∙ ap (λ a. subcommand_of a arguments) app_is

pub asks_for : (found : Option (Text × List Row)) (subcommand : Option Subcommand) (chosen : Subcommand) → MatchOption found (subcommand ≡ None) (λ f. Chooses f.0 f.1 subcommand) → subcommand ≡ Some chosen
    → MatchOption found ⊥ (λ f. Chooses f.0 f.1 (Some chosen))
asks_for None subcommand chosen none is = let bad : None ≡ Some chosen = sym none ∙ is in cc
asks_for (Some found) subcommand chosen chooses is = let P : Option Subcommand → Type 0 = λ c. Chooses found.0 found.1 c in subst P is chooses

pub asks_for_none : (found : Option (Text × List Row)) (subcommand : Option Subcommand) → MatchOption found (subcommand ≡ None) (λ f. Chooses f.0 f.1 subcommand) → subcommand ≡ None
    → option_map_or (λ f. is_subcommand f.0 f.1) found false ≡ false
asks_for_none None subcommand none is = refl
asks_for_none (Some found) subcommand chooses is = sym chooses.known ∙ ap is_some is

pub not_taken : (b : Bool) (P Q : Type 0) → (b ≡ true → P) → P ⊎ ((b ≡ false) ⊎ Q)
not_taken true P Q h = inl (h refl)
not_taken false P Q h = inr (inl refl)

pub flag_reads : (found : Found) (result rotated : Bool) → (one_text found (codes "rotated") ≡ Some (codes "true") → result ≡ true)
    → (one_text found (codes "rotated") ≡ Some (codes "false") → result ≡ false) → one_of (codes "rotated") (rows_of found) ≡ Some (flag_text rotated) → result ≡ rotated
flag_reads found result true set unset given = set (flag_given found (codes "rotated") (codes "true") given)
flag_reads found result false set unset given = unset (flag_given found (codes "rotated") (codes "false") given)

-- the same of any flag
pub flag_of_reads : (found : Found) (id : Text) (result flag : Bool) → (one_text found id ≡ Some (codes "true") → result ≡ true) → (one_text found id ≡ Some (codes "false") → result ≡ false)
    → one_of id (rows_of found) ≡ Some (flag_text flag) → result ≡ flag
flag_of_reads found id result true set unset given = set (flag_given found id (codes "true") given)
flag_of_reads found id result false set unset given = unset (flag_given found id (codes "false") given)

pub side_known : {A : Type 0} (found : Found) (options : Option A) → is_some options ≡ is_some (side_in (first_value found (codes "first")))
    → is_some options ≡ is_some (side_in (first_of (codes "first") (rows_of found)))
side_known found options known = known ∙ ap (λ text. is_some (side_in text)) (first_value-rows found (codes "first"))

-- a name isn't two texts that differ
pub named_once : {A : Type 0} {name a b : Text} → name ≡ a → name ≡ b → bytes_eq a b ≡ false → A
named_once {A} {name} {a} {b} is other differ =
    let same : bytes_eq a b ≡ true = (bytes_eq-Decides a b).1 (sym is ∙ other) in
    let bad : true ≡ false = sym same ∙ differ in cc

-- ---- fixed arguments: each parse is computed once

-- what a parse finds of a flag that is given, or not
abbrev flag_source : Bool → ValueSource
flag_source true = CommandLine
flag_source false = DefaultValue

abbrev flag_row : Bool → Row
flag_row rotated = record { id = codes "rotated"; values = flag_text rotated ∷ []; count = None; source = Some (flag_source rotated); reading = AsWritten }

-- A parse takes these arguments, and finds this subcommand with these rows.
abbrev Finds : List Text → Text → List Row → Type 0
Finds arguments name rows = (subcommand_of replay arguments ≡ Some (name, rows)) × (takes replay arguments ≡ true)

abbrev FindsFlag : List Text → Text → Bool → Type 0
FindsFlag arguments name rotated = Finds arguments name (flag_row rotated ∷ [])

flag_found : (rotated : Bool) → one_of (codes "rotated") (flag_row rotated ∷ []) ≡ Some (flag_text rotated)
flag_found true = refl
flag_found false = refl

-- That the command is simple is known: what is left to compute is whether it takes these arguments.
takes_by : (arguments : List Text) → built_takes (built replay) nothing_held (argument_words replay arguments) ≡ true → takes replay arguments ≡ true
takes_by arguments passes = ap (λ simple. simple && built_takes (built replay) nothing_held (argument_words replay arguments)) replay_is_simple ∙ passes

show_found : (name : Text) → Finds (name ∷ codes "show" ∷ []) (codes "show") []
unfolding clap_on_literals
show_found name = (refl, takes_by (name ∷ codes "show" ∷ []) refl)

check_found : (name : Text) → Finds (name ∷ codes "check" ∷ []) (codes "check") []
unfolding clap_on_literals
check_found name = (refl, takes_by (name ∷ codes "check" ∷ []) refl)

times_found : (name : Text) → Finds (name ∷ codes "times" ∷ []) (codes "times") []
unfolding clap_on_literals
times_found name = (refl, takes_by (name ∷ codes "times" ∷ []) refl)

moves_found : (name : Text) → Finds (name ∷ codes "moves" ∷ []) (codes "moves") []
unfolding clap_on_literals
moves_found name = (refl, takes_by (name ∷ codes "moves" ∷ []) refl)

positions_found : (name : Text) → Finds (name ∷ codes "positions" ∷ []) (codes "positions") []
unfolding clap_on_literals
positions_found name = (refl, takes_by (name ∷ codes "positions" ∷ []) refl)

plain_pictures : (name : Text) → FindsFlag (name ∷ codes "pictures" ∷ []) (codes "pictures") false
unfolding clap_on_literals
plain_pictures name = (refl, takes_by (name ∷ codes "pictures" ∷ []) refl)

turned_pictures : (name : Text) → FindsFlag (name ∷ codes "pictures" ∷ codes "--rotated" ∷ []) (codes "pictures") true
unfolding clap_on_literals
turned_pictures name = (refl, takes_by (name ∷ codes "pictures" ∷ codes "--rotated" ∷ []) refl)

plain_record : (name : Text) → FindsFlag (name ∷ codes "record" ∷ []) (codes "record") false
unfolding clap_on_literals
plain_record name = (refl, takes_by (name ∷ codes "record" ∷ []) refl)

turned_record : (name : Text) → FindsFlag (name ∷ codes "record" ∷ codes "--rotated" ∷ []) (codes "record") true
unfolding clap_on_literals
turned_record name = (refl, takes_by (name ∷ codes "record" ∷ codes "--rotated" ∷ []) refl)

plain_follow : (name : Text) → FindsFlag (name ∷ codes "follow" ∷ []) (codes "follow") false
unfolding clap_on_literals
plain_follow name = (refl, takes_by (name ∷ codes "follow" ∷ []) refl)

turned_follow : (name : Text) → FindsFlag (name ∷ codes "follow" ∷ codes "--rotated" ∷ []) (codes "follow") true
unfolding clap_on_literals
turned_follow name = (refl, takes_by (name ∷ codes "follow" ∷ codes "--rotated" ∷ []) refl)

plain_watch : (name : Text) → FindsFlag (name ∷ codes "watch" ∷ []) (codes "watch") false
unfolding clap_on_literals
plain_watch name = (refl, takes_by (name ∷ codes "watch" ∷ []) refl)

turned_watch : (name : Text) → FindsFlag (name ∷ codes "watch" ∷ codes "--rotated" ∷ []) (codes "watch") true
unfolding clap_on_literals
turned_watch name = (refl, takes_by (name ∷ codes "watch" ∷ codes "--rotated" ∷ []) refl)

plain_recover : (name : Text) → FindsFlag (name ∷ codes "recover" ∷ []) (codes "recover") false
unfolding clap_on_literals
plain_recover name = (refl, takes_by (name ∷ codes "recover" ∷ []) refl)

turned_recover : (name : Text) → FindsFlag (name ∷ codes "recover" ∷ codes "--rotated" ∷ []) (codes "recover") true
unfolding clap_on_literals
turned_recover name = (refl, takes_by (name ∷ codes "recover" ∷ codes "--rotated" ∷ []) refl)

-- ---- what they ask for

asks_by : (arguments : List Text) (name : Text) (rows : List Row) → Finds arguments name rows → is_subcommand name rows ≡ true → Asks arguments name rows
asks_by arguments name rows (found, taken) known = record { taken = taken; found = found; known = known }

pub show_asks : (arguments : List Text) → IsShow arguments → AsksToShow arguments
show_asks arguments (name, is) = subst AsksToShow (sym is) ([], asks_by (name ∷ codes "show" ∷ []) (codes "show") [] (show_found name) refl)

pub check_asks : (arguments : List Text) → IsCheck arguments → AsksToCheck arguments
check_asks arguments (name, is) = subst AsksToCheck (sym is) ([], asks_by (name ∷ codes "check" ∷ []) (codes "check") [] (check_found name) refl)

pub times_asks : (arguments : List Text) → IsTimes arguments → AsksForTimes arguments
times_asks arguments (name, is) = subst AsksForTimes (sym is) ([], asks_by (name ∷ codes "times" ∷ []) (codes "times") [] (times_found name) refl)

pub moves_asks : (arguments : List Text) → IsMoves arguments → AsksForMoves arguments initial
moves_asks arguments (name, is) =
    let P : List Text → Type 0 = λ w. AsksForMoves w initial in
    subst P (sym is) ([], asks_by (name ∷ codes "moves" ∷ []) (codes "moves") [] (moves_found name) refl, refl)

pub positions_asks : (arguments : List Text) → IsPositions arguments → AsksForPositions arguments initial
positions_asks arguments (name, is) =
    let P : List Text → Type 0 = λ w. AsksForPositions w initial in
    subst P (sym is) ([], asks_by (name ∷ codes "positions" ∷ []) (codes "positions") [] (positions_found name) refl, refl)

pictures_by : (rotated : Bool) (arguments : List Text) → FindsFlag arguments (codes "pictures") rotated → AsksForPictures rotated arguments
pictures_by rotated arguments finds = (flag_row rotated ∷ [], asks_by arguments (codes "pictures") (flag_row rotated ∷ []) finds refl, flag_found rotated)

pub pictures_asks : (rotated : Bool) (arguments : List Text) → IsPictures rotated arguments → AsksForPictures rotated arguments
pictures_asks true arguments (name, is) = subst (AsksForPictures true) (sym is) (pictures_by true (name ∷ codes "pictures" ∷ codes "--rotated" ∷ []) (turned_pictures name))
pictures_asks false arguments (name, is) = subst (AsksForPictures false) (sym is) (pictures_by false (name ∷ codes "pictures" ∷ []) (plain_pictures name))

no_tag : (rotated : Bool) (tag : Tag) → first_of (option_of tag) (flag_row rotated ∷ []) ≡ None
no_tag rotated Event = refl
no_tag rotated Site = refl
no_tag rotated Date = refl
no_tag rotated Round = refl
no_tag rotated White = refl
no_tag rotated Black = refl

record_by : (rotated : Bool) (arguments : List Text) → FindsFlag arguments (codes "record") rotated → AsksToRecord arguments (plain_setup rotated)
record_by rotated arguments finds = (
  flag_row rotated ∷ [],
  asks_by arguments (codes "record") (flag_row rotated ∷ []) finds refl,
  sets_up_plainly (flag_row rotated ∷ []) rotated (flag_found rotated) refl refl (no_tag rotated),
)

pub record_asks : (rotated : Bool) (arguments : List Text) → IsRecord rotated arguments → AsksToRecord arguments (plain_setup rotated)
record_asks true arguments (name, is) =
    let P : List Text → Type 0 = λ w. AsksToRecord w (plain_setup true) in
    subst P (sym is) (record_by true (name ∷ codes "record" ∷ codes "--rotated" ∷ []) (turned_record name))
record_asks false arguments (name, is) =
    let P : List Text → Type 0 = λ w. AsksToRecord w (plain_setup false) in
    subst P (sym is) (record_by false (name ∷ codes "record" ∷ []) (plain_record name))

-- a subcommand of this name that has the options of a board, without them
asks_of_a_board : (word : Text) (rotated : Bool) (arguments : List Text) → FindsFlag arguments word rotated → is_subcommand word (flag_row rotated ∷ []) ≡ true
    → (rows : List Row) × Asks arguments word rows × SetsBoardUp rows (setting_of (plain_setup rotated))
asks_of_a_board word rotated arguments finds known = (
  flag_row rotated ∷ [],
  asks_by arguments word (flag_row rotated ∷ []) finds known,
  sets_board_up_plainly (flag_row rotated ∷ []) rotated (flag_found rotated) refl refl,
)

pub follow_asks : (rotated : Bool) (arguments : List Text) → IsFollow rotated arguments → AsksToFollow arguments (setting_of (plain_setup rotated))
follow_asks true arguments (name, is) =
    let P : List Text → Type 0 = λ w. AsksToFollow w (setting_of (plain_setup true)) in
    subst P (sym is) (asks_of_a_board (codes "follow") true (name ∷ codes "follow" ∷ codes "--rotated" ∷ []) (turned_follow name) refl)
follow_asks false arguments (name, is) =
    let P : List Text → Type 0 = λ w. AsksToFollow w (setting_of (plain_setup false)) in
    subst P (sym is) (asks_of_a_board (codes "follow") false (name ∷ codes "follow" ∷ []) (plain_follow name) refl)

pub watch_asks : (rotated : Bool) (arguments : List Text) → IsWatch rotated arguments → AsksToWatch arguments (setting_of (plain_setup rotated))
watch_asks true arguments (name, is) =
    let P : List Text → Type 0 = λ w. AsksToWatch w (setting_of (plain_setup true)) in
    subst P (sym is) (asks_of_a_board (codes "watch") true (name ∷ codes "watch" ∷ codes "--rotated" ∷ []) (turned_watch name) refl)
watch_asks false arguments (name, is) =
    let P : List Text → Type 0 = λ w. AsksToWatch w (setting_of (plain_setup false)) in
    subst P (sym is) (asks_of_a_board (codes "watch") false (name ∷ codes "watch" ∷ []) (plain_watch name) refl)

pub recover_asks : (rotated : Bool) (arguments : List Text) → IsRecover rotated arguments → AsksToRecover arguments (setting_of (plain_setup rotated))
recover_asks true arguments (name, is) =
    let P : List Text → Type 0 = λ w. AsksToRecover w (setting_of (plain_setup true)) in
    subst P (sym is) (asks_of_a_board (codes "recover") true (name ∷ codes "recover" ∷ codes "--rotated" ∷ []) (turned_recover name) refl)
recover_asks false arguments (name, is) =
    let P : List Text → Type 0 = λ w. AsksToRecover w (setting_of (plain_setup false)) in
    subst P (sym is) (asks_of_a_board (codes "recover") false (name ∷ codes "recover" ∷ []) (plain_recover name) refl)

-- ---- subcommands that change a capture, with a text

abbrev recover_row : Bool → Row
recover_row recovers = record { id = codes "recover"; values = flag_text recovers ∷ []; count = None; source = Some (flag_source recovers); reading = AsWritten }

abbrev text_row : Text → Text → Row
text_row option text = record { id = option; values = text ∷ []; count = None; source = Some CommandLine; reading = AsWritten }

-- what was given comes first
abbrev edit_rows : Text → Text → Bool → Bool → List Row
edit_rows option text false true = text_row option text ∷ recover_row true ∷ flag_row false ∷ []
edit_rows option text false false = text_row option text ∷ flag_row false ∷ recover_row false ∷ []
edit_rows option text true false = text_row option text ∷ flag_row true ∷ recover_row false ∷ []
edit_rows option text true true = text_row option text ∷ flag_row true ∷ recover_row true ∷ []

plain_add : (name text : Text) → Finds (name ∷ codes "add" ∷ (codes "--line=" ++ text) ∷ []) (codes "add") (edit_rows (codes "line") text false false)
unfolding clap_on_literals
plain_add name text = (refl, takes_by (name ∷ codes "add" ∷ (codes "--line=" ++ text) ∷ []) refl)

turned_add : (name text : Text) → Finds (name ∷ codes "add" ∷ (codes "--line=" ++ text) ∷ codes "--rotated" ∷ []) (codes "add") (edit_rows (codes "line") text true false)
unfolding clap_on_literals
turned_add name text = (refl, takes_by (name ∷ codes "add" ∷ (codes "--line=" ++ text) ∷ codes "--rotated" ∷ []) refl)

recovered_add : (name text : Text) → Finds (name ∷ codes "add" ∷ (codes "--line=" ++ text) ∷ codes "--recover" ∷ []) (codes "add") (edit_rows (codes "line") text false true)
unfolding clap_on_literals
recovered_add name text = (refl, takes_by (name ∷ codes "add" ∷ (codes "--line=" ++ text) ∷ codes "--recover" ∷ []) refl)

turned_recovered_add : (name text : Text) → Finds (name ∷ codes "add" ∷ (codes "--line=" ++ text) ∷ codes "--rotated" ∷ codes "--recover" ∷ []) (codes "add") (edit_rows (codes "line") text true true)
unfolding clap_on_literals
turned_recovered_add name text = (refl, takes_by (name ∷ codes "add" ∷ (codes "--line=" ++ text) ∷ codes "--rotated" ∷ codes "--recover" ∷ []) refl)

add_by : (text : Text) (rotated recovers : Bool) (arguments : List Text) → Finds arguments (codes "add") (edit_rows (codes "line") text rotated recovers)
    → AsksToAdd arguments (setting_of (plain_setup rotated)) recovers (Some text)
add_by text false false arguments finds = (
  edit_rows (codes "line") text false false,
  asks_by arguments (codes "add") (edit_rows (codes "line") text false false) finds refl,
  sets_board_up_plainly (edit_rows (codes "line") text false false) false refl refl refl,
  refl,
  refl,
)
add_by text true false arguments finds = (
  edit_rows (codes "line") text true false,
  asks_by arguments (codes "add") (edit_rows (codes "line") text true false) finds refl,
  sets_board_up_plainly (edit_rows (codes "line") text true false) true refl refl refl,
  refl,
  refl,
)
add_by text false true arguments finds = (
  edit_rows (codes "line") text false true,
  asks_by arguments (codes "add") (edit_rows (codes "line") text false true) finds refl,
  sets_board_up_plainly (edit_rows (codes "line") text false true) false refl refl refl,
  refl,
  refl,
)
add_by text true true arguments finds = (
  edit_rows (codes "line") text true true,
  asks_by arguments (codes "add") (edit_rows (codes "line") text true true) finds refl,
  sets_board_up_plainly (edit_rows (codes "line") text true true) true refl refl refl,
  refl,
  refl,
)

pub add_asks : (text : Text) (rotated recovers : Bool) (arguments : List Text) → IsAdd text rotated recovers arguments → AsksToAdd arguments (setting_of (plain_setup rotated)) recovers (Some text)
add_asks text false false arguments (name, is) =
    let P : List Text → Type 0 = λ w. AsksToAdd w (setting_of (plain_setup false)) false (Some text) in
    subst P (sym is) (add_by text false false (name ∷ codes "add" ∷ (codes "--line=" ++ text) ∷ []) (plain_add name text))
add_asks text true false arguments (name, is) =
    let P : List Text → Type 0 = λ w. AsksToAdd w (setting_of (plain_setup true)) false (Some text) in
    subst P (sym is) (add_by text true false (name ∷ codes "add" ∷ (codes "--line=" ++ text) ∷ codes "--rotated" ∷ []) (turned_add name text))
add_asks text false true arguments (name, is) =
    let P : List Text → Type 0 = λ w. AsksToAdd w (setting_of (plain_setup false)) true (Some text) in
    subst P (sym is) (add_by text false true (name ∷ codes "add" ∷ (codes "--line=" ++ text) ∷ codes "--recover" ∷ []) (recovered_add name text))
add_asks text true true arguments (name, is) =
    let P : List Text → Type 0 = λ w. AsksToAdd w (setting_of (plain_setup true)) true (Some text) in
    subst P (sym is) (add_by text true true (name ∷ codes "add" ∷ (codes "--line=" ++ text) ∷ codes "--rotated" ∷ codes "--recover" ∷ []) (turned_recovered_add name text))

plain_back : (name text : Text) → Finds (name ∷ codes "back" ∷ (codes "--to=" ++ text) ∷ []) (codes "back") (edit_rows (codes "to") text false false)
unfolding clap_on_literals
plain_back name text = (refl, takes_by (name ∷ codes "back" ∷ (codes "--to=" ++ text) ∷ []) refl)

turned_back : (name text : Text) → Finds (name ∷ codes "back" ∷ (codes "--to=" ++ text) ∷ codes "--rotated" ∷ []) (codes "back") (edit_rows (codes "to") text true false)
unfolding clap_on_literals
turned_back name text = (refl, takes_by (name ∷ codes "back" ∷ (codes "--to=" ++ text) ∷ codes "--rotated" ∷ []) refl)

recovered_back : (name text : Text) → Finds (name ∷ codes "back" ∷ (codes "--to=" ++ text) ∷ codes "--recover" ∷ []) (codes "back") (edit_rows (codes "to") text false true)
unfolding clap_on_literals
recovered_back name text = (refl, takes_by (name ∷ codes "back" ∷ (codes "--to=" ++ text) ∷ codes "--recover" ∷ []) refl)

turned_recovered_back : (name text : Text) → Finds (name ∷ codes "back" ∷ (codes "--to=" ++ text) ∷ codes "--rotated" ∷ codes "--recover" ∷ []) (codes "back") (edit_rows (codes "to") text true true)
unfolding clap_on_literals
turned_recovered_back name text = (refl, takes_by (name ∷ codes "back" ∷ (codes "--to=" ++ text) ∷ codes "--rotated" ∷ codes "--recover" ∷ []) refl)

back_by : (text : Text) (rotated recovers : Bool) (arguments : List Text) → Finds arguments (codes "back") (edit_rows (codes "to") text rotated recovers)
    → AsksToGoBack arguments (setting_of (plain_setup rotated)) recovers (Some text)
back_by text false false arguments finds = (
  edit_rows (codes "to") text false false,
  asks_by arguments (codes "back") (edit_rows (codes "to") text false false) finds refl,
  sets_board_up_plainly (edit_rows (codes "to") text false false) false refl refl refl,
  refl,
  refl,
)
back_by text true false arguments finds = (
  edit_rows (codes "to") text true false,
  asks_by arguments (codes "back") (edit_rows (codes "to") text true false) finds refl,
  sets_board_up_plainly (edit_rows (codes "to") text true false) true refl refl refl,
  refl,
  refl,
)
back_by text false true arguments finds = (
  edit_rows (codes "to") text false true,
  asks_by arguments (codes "back") (edit_rows (codes "to") text false true) finds refl,
  sets_board_up_plainly (edit_rows (codes "to") text false true) false refl refl refl,
  refl,
  refl,
)
back_by text true true arguments finds = (
  edit_rows (codes "to") text true true,
  asks_by arguments (codes "back") (edit_rows (codes "to") text true true) finds refl,
  sets_board_up_plainly (edit_rows (codes "to") text true true) true refl refl refl,
  refl,
  refl,
)

pub back_asks : (text : Text) (rotated recovers : Bool) (arguments : List Text) → IsBack text rotated recovers arguments → AsksToGoBack arguments (setting_of (plain_setup rotated)) recovers (Some text)
back_asks text false false arguments (name, is) =
    let P : List Text → Type 0 = λ w. AsksToGoBack w (setting_of (plain_setup false)) false (Some text) in
    subst P (sym is) (back_by text false false (name ∷ codes "back" ∷ (codes "--to=" ++ text) ∷ []) (plain_back name text))
back_asks text true false arguments (name, is) =
    let P : List Text → Type 0 = λ w. AsksToGoBack w (setting_of (plain_setup true)) false (Some text) in
    subst P (sym is) (back_by text true false (name ∷ codes "back" ∷ (codes "--to=" ++ text) ∷ codes "--rotated" ∷ []) (turned_back name text))
back_asks text false true arguments (name, is) =
    let P : List Text → Type 0 = λ w. AsksToGoBack w (setting_of (plain_setup false)) true (Some text) in
    subst P (sym is) (back_by text false true (name ∷ codes "back" ∷ (codes "--to=" ++ text) ∷ codes "--recover" ∷ []) (recovered_back name text))
back_asks text true true arguments (name, is) =
    let P : List Text → Type 0 = λ w. AsksToGoBack w (setting_of (plain_setup true)) true (Some text) in
    subst P (sym is) (back_by text true true (name ∷ codes "back" ∷ (codes "--to=" ++ text) ∷ codes "--rotated" ∷ codes "--recover" ∷ []) (turned_recovered_back name text))

plain_instead : (name text : Text) → Finds (name ∷ codes "instead" ∷ (codes "--line=" ++ text) ∷ []) (codes "instead") (edit_rows (codes "line") text false false)
unfolding clap_on_literals
plain_instead name text = (refl, takes_by (name ∷ codes "instead" ∷ (codes "--line=" ++ text) ∷ []) refl)

turned_instead : (name text : Text) → Finds (name ∷ codes "instead" ∷ (codes "--line=" ++ text) ∷ codes "--rotated" ∷ []) (codes "instead") (edit_rows (codes "line") text true false)
unfolding clap_on_literals
turned_instead name text = (refl, takes_by (name ∷ codes "instead" ∷ (codes "--line=" ++ text) ∷ codes "--rotated" ∷ []) refl)

recovered_instead : (name text : Text) → Finds (name ∷ codes "instead" ∷ (codes "--line=" ++ text) ∷ codes "--recover" ∷ []) (codes "instead") (edit_rows (codes "line") text false true)
unfolding clap_on_literals
recovered_instead name text = (refl, takes_by (name ∷ codes "instead" ∷ (codes "--line=" ++ text) ∷ codes "--recover" ∷ []) refl)

turned_recovered_instead : (name text : Text) → Finds (name ∷ codes "instead" ∷ (codes "--line=" ++ text) ∷ codes "--rotated" ∷ codes "--recover" ∷ []) (codes "instead") (edit_rows (codes "line") text true true)
unfolding clap_on_literals
turned_recovered_instead name text = (refl, takes_by (name ∷ codes "instead" ∷ (codes "--line=" ++ text) ∷ codes "--rotated" ∷ codes "--recover" ∷ []) refl)

instead_by : (text : Text) (rotated recovers : Bool) (arguments : List Text) → Finds arguments (codes "instead") (edit_rows (codes "line") text rotated recovers)
    → AsksToReplace arguments (setting_of (plain_setup rotated)) recovers (Some text)
instead_by text false false arguments finds = (
  edit_rows (codes "line") text false false,
  asks_by arguments (codes "instead") (edit_rows (codes "line") text false false) finds refl,
  sets_board_up_plainly (edit_rows (codes "line") text false false) false refl refl refl,
  refl,
  refl,
)
instead_by text true false arguments finds = (
  edit_rows (codes "line") text true false,
  asks_by arguments (codes "instead") (edit_rows (codes "line") text true false) finds refl,
  sets_board_up_plainly (edit_rows (codes "line") text true false) true refl refl refl,
  refl,
  refl,
)
instead_by text false true arguments finds = (
  edit_rows (codes "line") text false true,
  asks_by arguments (codes "instead") (edit_rows (codes "line") text false true) finds refl,
  sets_board_up_plainly (edit_rows (codes "line") text false true) false refl refl refl,
  refl,
  refl,
)
instead_by text true true arguments finds = (
  edit_rows (codes "line") text true true,
  asks_by arguments (codes "instead") (edit_rows (codes "line") text true true) finds refl,
  sets_board_up_plainly (edit_rows (codes "line") text true true) true refl refl refl,
  refl,
  refl,
)

pub instead_asks : (text : Text) (rotated recovers : Bool) (arguments : List Text) → IsInstead text rotated recovers arguments → AsksToReplace arguments (setting_of (plain_setup rotated)) recovers (Some text)
instead_asks text false false arguments (name, is) =
    let P : List Text → Type 0 = λ w. AsksToReplace w (setting_of (plain_setup false)) false (Some text) in
    subst P (sym is) (instead_by text false false (name ∷ codes "instead" ∷ (codes "--line=" ++ text) ∷ []) (plain_instead name text))
instead_asks text true false arguments (name, is) =
    let P : List Text → Type 0 = λ w. AsksToReplace w (setting_of (plain_setup true)) false (Some text) in
    subst P (sym is) (instead_by text true false (name ∷ codes "instead" ∷ (codes "--line=" ++ text) ∷ codes "--rotated" ∷ []) (turned_instead name text))
instead_asks text false true arguments (name, is) =
    let P : List Text → Type 0 = λ w. AsksToReplace w (setting_of (plain_setup false)) true (Some text) in
    subst P (sym is) (instead_by text false true (name ∷ codes "instead" ∷ (codes "--line=" ++ text) ∷ codes "--recover" ∷ []) (recovered_instead name text))
instead_asks text true true arguments (name, is) =
    let P : List Text → Type 0 = λ w. AsksToReplace w (setting_of (plain_setup true)) true (Some text) in
    subst P (sym is) (instead_by text true true (name ∷ codes "instead" ∷ (codes "--line=" ++ text) ∷ codes "--rotated" ∷ codes "--recover" ∷ []) (turned_recovered_instead name text))

-- ---- a board that is attended

-- what was given comes first
abbrev live_rows : Bool → Bool → List Row
live_rows false true = recover_row true ∷ flag_row false ∷ []
live_rows false false = flag_row false ∷ recover_row false ∷ []
live_rows true false = flag_row true ∷ recover_row false ∷ []
live_rows true true = flag_row true ∷ recover_row true ∷ []

plain_live : (name : Text) → Finds (name ∷ codes "live" ∷ []) (codes "live") (live_rows false false)
unfolding clap_on_literals
plain_live name = (refl, takes_by (name ∷ codes "live" ∷ []) refl)

turned_live : (name : Text) → Finds (name ∷ codes "live" ∷ codes "--rotated" ∷ []) (codes "live") (live_rows true false)
unfolding clap_on_literals
turned_live name = (refl, takes_by (name ∷ codes "live" ∷ codes "--rotated" ∷ []) refl)

recovered_live : (name : Text) → Finds (name ∷ codes "live" ∷ codes "--recover" ∷ []) (codes "live") (live_rows false true)
unfolding clap_on_literals
recovered_live name = (refl, takes_by (name ∷ codes "live" ∷ codes "--recover" ∷ []) refl)

turned_recovered_live : (name : Text) → Finds (name ∷ codes "live" ∷ codes "--rotated" ∷ codes "--recover" ∷ []) (codes "live") (live_rows true true)
unfolding clap_on_literals
turned_recovered_live name = (refl, takes_by (name ∷ codes "live" ∷ codes "--rotated" ∷ codes "--recover" ∷ []) refl)

no_live_tag : (rotated recovers : Bool) (tag : Tag) → first_of (option_of tag) (flag_row rotated ∷ recover_row recovers ∷ []) ≡ None
no_live_tag rotated recovers Event = refl
no_live_tag rotated recovers Site = refl
no_live_tag rotated recovers Date = refl
no_live_tag rotated recovers Round = refl
no_live_tag rotated recovers White = refl
no_live_tag rotated recovers Black = refl

no_recovered_tag : (tag : Tag) → first_of (option_of tag) (recover_row true ∷ flag_row false ∷ []) ≡ None
no_recovered_tag Event = refl
no_recovered_tag Site = refl
no_recovered_tag Date = refl
no_recovered_tag Round = refl
no_recovered_tag White = refl
no_recovered_tag Black = refl

live_by : (rotated recovers : Bool) (arguments : List Text) → Finds arguments (codes "live") (live_rows rotated recovers)
    → AsksToAttend arguments (plain_setup rotated) recovers
live_by false false arguments finds = (
  live_rows false false,
  asks_by arguments (codes "live") (live_rows false false) finds refl,
  sets_up_plainly (live_rows false false) false refl refl refl (no_live_tag false false),
  refl,
)
live_by true false arguments finds = (
  live_rows true false,
  asks_by arguments (codes "live") (live_rows true false) finds refl,
  sets_up_plainly (live_rows true false) true refl refl refl (no_live_tag true false),
  refl,
)
live_by false true arguments finds = (
  live_rows false true,
  asks_by arguments (codes "live") (live_rows false true) finds refl,
  sets_up_plainly (live_rows false true) false refl refl refl no_recovered_tag,
  refl,
)
live_by true true arguments finds = (
  live_rows true true,
  asks_by arguments (codes "live") (live_rows true true) finds refl,
  sets_up_plainly (live_rows true true) true refl refl refl (no_live_tag true true),
  refl,
)

pub live_asks : (rotated recovers : Bool) (arguments : List Text) → IsLive rotated recovers arguments → AsksToAttend arguments (plain_setup rotated) recovers
live_asks false false arguments (name, is) =
    let P : List Text → Type 0 = λ w. AsksToAttend w (plain_setup false) false in
    subst P (sym is) (live_by false false (name ∷ codes "live" ∷ []) (plain_live name))
live_asks true false arguments (name, is) =
    let P : List Text → Type 0 = λ w. AsksToAttend w (plain_setup true) false in
    subst P (sym is) (live_by true false (name ∷ codes "live" ∷ codes "--rotated" ∷ []) (turned_live name))
live_asks false true arguments (name, is) =
    let P : List Text → Type 0 = λ w. AsksToAttend w (plain_setup false) true in
    subst P (sym is) (live_by false true (name ∷ codes "live" ∷ codes "--recover" ∷ []) (recovered_live name))
live_asks true true arguments (name, is) =
    let P : List Text → Type 0 = λ w. AsksToAttend w (plain_setup true) true in
    subst P (sym is) (live_by true true (name ∷ codes "live" ∷ codes "--rotated" ∷ codes "--recover" ∷ []) (turned_recovered_live name))
