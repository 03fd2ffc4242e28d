-- What the arguments ask for, by the subcommand that was read.
use Rattle.std.proofs.Common.{◌≡◌, ◌⊎◌, ◌∙◌, Bool, true, false, List, Option, Some, ap, refl, sym, inl, inr, codes, subst}
use Rattle.std.specs.Prelude.{MatchOption}
use Rattle.std.specs.Option.{option_map_or}
use Rattle.std.specs.Borrow.{Bor}
use Rattle.clap.specs.Walk.{Row, Text, first_of}
use Rattle.clap.specs.Simple.{subcommand_of}
use Rattle.board_events.specs.declared.setup.Setup.{Setup}
use Rattle.board_events.specs.Settings.{Setting}
use Rattle.replay_arguments.specs.declared.arguments.Subcommand.{Subcommand}
use Rattle.replay_arguments.specs.declared.arguments.Subcommand.TheVariants.{Show, Pictures, Record, Follow, Watch, Recover, Add, Back, Instead, Live, Check, Times, Moves, Positions}
use Rattle.replay_arguments.specs.declared.arguments.BoardArguments.{BoardArguments}
use Rattle.replay_arguments.specs.declared.arguments.EditArguments.{EditArguments}
use Rattle.replay_arguments.specs.declared.arguments.LiveArguments.{LiveArguments}
use Rattle.replay_arguments.specs.declared.arguments.RecordArguments.{RecordArguments}
use Rattle.replay_arguments.specs.Command.{replay}
use Rattle.replay_arguments.specs.Subcommands.{Asks, AsksForPictures, AsksForTimes, AsksToCheck, AsksToShow, AsksFor, AsksToFollow, AsksToRecord, AsksToRecover, AsksToWatch, Chooses, IsRefused, is_subcommand}
use Rattle.replay_arguments.specs.Setups.{Meets, MeetsBoard, Wants, WantsBoard, WantsEdit, WantsLive}
use Rattle.chess_text.specs.Start.{given}
use Rattle.dgt_replay.proofs.SetupLemmas.{meets, meets_board}

-- what the arguments of this name ask for
chosen_with : (found : Option (Text × List Row)) (name : Text) (rows : List Row) (subcommand : Subcommand) → found ≡ Some (name, rows)
    → MatchOption found ⊥ (λ f. Chooses f.0 f.1 (Some subcommand)) → Chooses name rows (Some subcommand)
chosen_with found name rows subcommand is asks =
    let P : Option (Text × List Row) → Type 0 = λ f. MatchOption f ⊥ (λ f. Chooses f.0 f.1 (Some subcommand)) in subst P is asks

chosen : (arguments : List Text) (name : Text) (rows : List Row) (subcommand : Subcommand) → Asks arguments name rows → AsksFor arguments subcommand → Chooses name rows (Some subcommand)
chosen arguments name rows subcommand asks found = chosen_with (subcommand_of replay arguments) name rows subcommand asks.found found

pub unrefused : (arguments : List Text) (name : Text) (rows : List Row) → Asks arguments name rows → IsRefused arguments → ⊥
unrefused arguments name rows asks refused = elim refused [
  | inl untaken ↦ (let bad : true ≡ false = sym asks.taken ∙ untaken in cc)
  | inr unknown ↦ (let bad : true ≡ false = sym asks.known ∙ sym (ap (λ found. option_map_or (λ f. is_subcommand f.0 f.1) found false) asks.found) ∙ unknown in cc)
]

same_subcommand : (a b : Subcommand) → Some a ≡ Some b → a ≡ b
same_subcommand a b e = cc

-- `show` asks for the messages and faults
pub chooses_show : (arguments : List Text) (subcommand : Subcommand) → AsksToShow arguments → AsksFor arguments subcommand → subcommand ≡ Show
chooses_show arguments subcommand (rows, asks) asked = same_subcommand subcommand Show ((chosen arguments (codes "show") rows subcommand asks asked).show refl)

-- `pictures` asks for the pictures, turned or not
pub chooses_pictures : (rotated : Bool) (arguments : List Text) (subcommand : Subcommand) → AsksForPictures rotated arguments → AsksFor arguments subcommand → subcommand ≡ Pictures rotated
chooses_pictures rotated arguments subcommand (rows, asks, turned) asked =
    same_subcommand subcommand (Pictures rotated) ((chosen arguments (codes "pictures") rows subcommand asks asked).pictures rotated refl turned)

-- `check` asks for a check
pub chooses_check : (arguments : List Text) (subcommand : Subcommand) → AsksToCheck arguments → AsksFor arguments subcommand → subcommand ≡ Check
chooses_check arguments subcommand (rows, asks) asked = same_subcommand subcommand Check ((chosen arguments (codes "check") rows subcommand asks asked).check refl)

-- `times` asks for the lines of a file of times
pub chooses_times : (arguments : List Text) (subcommand : Subcommand) → AsksForTimes arguments → AsksFor arguments subcommand → subcommand ≡ Times
chooses_times arguments subcommand (rows, asks) asked = same_subcommand subcommand Times ((chosen arguments (codes "times") rows subcommand asks asked).times refl)

-- `record` asks for a recording as its options say
pub record_chosen : (arguments : List Text) (rows : List Row) (subcommand : Subcommand) → Asks arguments (codes "record") rows → AsksFor arguments subcommand
    → (options : RecordArguments) × (subcommand ≡ Record options) × Wants rows options
record_chosen arguments rows subcommand asks asked =
    let found = (chosen arguments (codes "record") rows subcommand asks asked).record_is refl in
    (found.0, found.1, found.2)

pub chooses_record : (arguments : List Text) (setup : Setup) (subcommand : Subcommand) → AsksToRecord arguments setup → AsksFor arguments subcommand
    → (options : RecordArguments) × (subcommand ≡ Record options) × Meets options setup
chooses_record arguments setup subcommand (rows, asks, sets) asked =
    let found = record_chosen arguments rows subcommand asks asked in
    (found.0, found.1, meets rows found.0 setup found.2 sets)

-- `follow` asks that a game be followed as its options say
pub follow_chosen : (arguments : List Text) (rows : List Row) (subcommand : Subcommand) → Asks arguments (codes "follow") rows → AsksFor arguments subcommand
    → (options : BoardArguments) × (subcommand ≡ Follow options) × WantsBoard rows options
follow_chosen arguments rows subcommand asks asked =
    let found = (chosen arguments (codes "follow") rows subcommand asks asked).follow refl in
    (found.0, found.1, found.2)

pub chooses_follow : (arguments : List Text) (setting : Setting) (subcommand : Subcommand) → AsksToFollow arguments setting → AsksFor arguments subcommand
    → (options : BoardArguments) × (subcommand ≡ Follow options) × MeetsBoard options setting
chooses_follow arguments setting subcommand (rows, asks, sets) asked =
    let found = follow_chosen arguments rows subcommand asks asked in
    (found.0, found.1, meets_board rows found.0 setting found.2 sets)

-- `watch` asks that a game be watched as its options say
pub watch_chosen : (arguments : List Text) (rows : List Row) (subcommand : Subcommand) → Asks arguments (codes "watch") rows → AsksFor arguments subcommand
    → (options : BoardArguments) × (subcommand ≡ Watch options) × WantsBoard rows options
watch_chosen arguments rows subcommand asks asked =
    let found = (chosen arguments (codes "watch") rows subcommand asks asked).watch refl in
    (found.0, found.1, found.2)

pub chooses_watch : (arguments : List Text) (setting : Setting) (subcommand : Subcommand) → AsksToWatch arguments setting → AsksFor arguments subcommand
    → (options : BoardArguments) × (subcommand ≡ Watch options) × MeetsBoard options setting
chooses_watch arguments setting subcommand (rows, asks, sets) asked =
    let found = watch_chosen arguments rows subcommand asks asked in
    (found.0, found.1, meets_board rows found.0 setting found.2 sets)

-- `recover` asks that a game be recovered as its options say
pub recover_chosen : (arguments : List Text) (rows : List Row) (subcommand : Subcommand) → Asks arguments (codes "recover") rows → AsksFor arguments subcommand
    → (options : BoardArguments) × (subcommand ≡ Recover options) × WantsBoard rows options
recover_chosen arguments rows subcommand asks asked =
    let found = (chosen arguments (codes "recover") rows subcommand asks asked).recover refl in
    (found.0, found.1, found.2)

pub chooses_recover : (arguments : List Text) (setting : Setting) (subcommand : Subcommand) → AsksToRecover arguments setting → AsksFor arguments subcommand
    → (options : BoardArguments) × (subcommand ≡ Recover options) × MeetsBoard options setting
chooses_recover arguments setting subcommand (rows, asks, sets) asked =
    let found = recover_chosen arguments rows subcommand asks asked in
    (found.0, found.1, meets_board rows found.0 setting found.2 sets)

-- `add` asks what a line adds as its options say
pub add_chosen : (arguments : List Text) (rows : List Row) (subcommand : Subcommand) → Asks arguments (codes "add") rows → AsksFor arguments subcommand
    → (options : EditArguments) × (subcommand ≡ Add options) × WantsEdit (codes "line") rows options
add_chosen arguments rows subcommand asks asked =
    let found = (chosen arguments (codes "add") rows subcommand asks asked).add refl in
    (found.0, found.1, found.2)

-- `back` asks how far a game goes back as its options say
pub back_chosen : (arguments : List Text) (rows : List Row) (subcommand : Subcommand) → Asks arguments (codes "back") rows → AsksFor arguments subcommand
    → (options : EditArguments) × (subcommand ≡ Back options) × WantsEdit (codes "to") rows options
back_chosen arguments rows subcommand asks asked =
    let found = (chosen arguments (codes "back") rows subcommand asks asked).back refl in
    (found.0, found.1, found.2)

-- `instead` asks that a game get other moves as its options say
pub instead_chosen : (arguments : List Text) (rows : List Row) (subcommand : Subcommand) → Asks arguments (codes "instead") rows → AsksFor arguments subcommand
    → (options : EditArguments) × (subcommand ≡ Instead options) × WantsEdit (codes "line") rows options
instead_chosen arguments rows subcommand asks asked =
    let found = (chosen arguments (codes "instead") rows subcommand asks asked).instead refl in
    (found.0, found.1, found.2)

-- `live` asks that a board be attended as its options say
pub live_chosen : (arguments : List Text) (rows : List Row) (subcommand : Subcommand) → Asks arguments (codes "live") rows → AsksFor arguments subcommand
    → (options : LiveArguments) × (subcommand ≡ Live options) × WantsLive rows options
live_chosen arguments rows subcommand asks asked =
    let found = (chosen arguments (codes "live") rows subcommand asks asked).live refl in
    (found.0, found.1, found.2)

-- `moves` asks for those of the position that its option says
pub moves_chosen : (arguments : List Text) (rows : List Row) (subcommand : Subcommand) → Asks arguments (codes "moves") rows → AsksFor arguments subcommand
    → (fen : Option (Bor Text)) × (subcommand ≡ Moves fen) × (given fen ≡ first_of (codes "fen") rows)
moves_chosen arguments rows subcommand asks asked =
    let found = (chosen arguments (codes "moves") rows subcommand asks asked).moves refl in
    (found.0, same_subcommand subcommand (Moves found.0) found.1, found.2)

-- `positions` asks for those of a line from the start that its option says
pub positions_chosen : (arguments : List Text) (rows : List Row) (subcommand : Subcommand) → Asks arguments (codes "positions") rows → AsksFor arguments subcommand
    → (fen : Option (Bor Text)) × (subcommand ≡ Positions fen) × (given fen ≡ first_of (codes "fen") rows)
positions_chosen arguments rows subcommand asks asked =
    let found = (chosen arguments (codes "positions") rows subcommand asks asked).positions refl in
    (found.0, same_subcommand subcommand (Positions found.0) found.1, found.2)

-- None of them is refused.
pub show_unrefused : (arguments : List Text) → AsksToShow arguments → IsRefused arguments → ⊥
show_unrefused arguments (rows, asks) = unrefused arguments (codes "show") rows asks

pub pictures_unrefused : (rotated : Bool) (arguments : List Text) → AsksForPictures rotated arguments → IsRefused arguments → ⊥
pictures_unrefused rotated arguments (rows, asks, turned) = unrefused arguments (codes "pictures") rows asks

pub check_unrefused : (arguments : List Text) → AsksToCheck arguments → IsRefused arguments → ⊥
check_unrefused arguments (rows, asks) = unrefused arguments (codes "check") rows asks

pub times_unrefused : (arguments : List Text) → AsksForTimes arguments → IsRefused arguments → ⊥
times_unrefused arguments (rows, asks) = unrefused arguments (codes "times") rows asks

pub record_unrefused : (arguments : List Text) (setup : Setup) → AsksToRecord arguments setup → IsRefused arguments → ⊥
record_unrefused arguments setup (rows, asks, sets) = unrefused arguments (codes "record") rows asks

pub follow_unrefused : (arguments : List Text) (setting : Setting) → AsksToFollow arguments setting → IsRefused arguments → ⊥
follow_unrefused arguments setting (rows, asks, sets) = unrefused arguments (codes "follow") rows asks

pub watch_unrefused : (arguments : List Text) (setting : Setting) → AsksToWatch arguments setting → IsRefused arguments → ⊥
watch_unrefused arguments setting (rows, asks, sets) = unrefused arguments (codes "watch") rows asks

pub recover_unrefused : (arguments : List Text) (setting : Setting) → AsksToRecover arguments setting → IsRefused arguments → ⊥
recover_unrefused arguments setting (rows, asks, sets) = unrefused arguments (codes "recover") rows asks

pub or_refused : {P Q : Type 0} → P ⊎ Q → (Q → ⊥) → P
or_refused (inl p) k = p
or_refused (inr q) k = absurd (k q)
