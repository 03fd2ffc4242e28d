-- Commands that are built step by step.
use Rattle.std.proofs.Common.{◌≡◌, ◌<◌, ◌+◌, ◌++◌, ◌∷◌, ◌∙◌, ◌||◌, [], ℕ, false, List, Result, Ok, Err, IfOk, Some, ap, get_or, length, refl, subst, take}
use Rattle.std.specs.Borrow.{Bor}
use Rattle.std.proofs.lemmas.List.{take_more}
use Rattle.std.specs.declared.alloc.AllocError.{AllocError}
use Rattle.clap.specs.Built.{AddsArg, AddsSubcommand}
use Rattle.clap.specs.Simple.{App, app_of, new_rule, shape_of, with_rule, with_subcommand}
use Rattle.clap.specs.Walk.{Rule, rule_of}
use Rattle.clap.specs.declared.builder.action.ArgAction.TheVariants.{SetTrue}
use Rattle.clap.specs.declared.builder.arg.Arg.{Arg}
use Rattle.clap.specs.declared.builder.texts.Texts.TheVariants.{One}
use Rattle.clap.specs.declared.builder.command.Command.TheViews.{out-Command}
use Rattle.clap.specs.declared.builder.command.Command.{Command}
use Rattle.chess_game.specs.declared.values.Tag.{Tag}
use Rattle.chess_game.specs.declared.values.Tag.TheVariants.{Event}
use Rattle.chess_game.specs.TagNames.{all_tags}
use Rattle.replay_arguments.specs.TagOptions.{option_of}
use Rattle.replay_arguments.specs.Command.{AddsApp, AddsRule, IsApp, Makes, text_rule, with_options, with_text}

pub app_made : (command : Result Command AllocError) (app : App) → Makes command app → IfOk command (λ c. app_of c ≡ app)
app_made (Err e) app makes = tt
app_made (Ok new) app makes = makes.app_is

options_more : (tags : List Tag) (tag : Tag) (app : App) → with_options (tags ++ tag ∷ []) app ≡ with_text (with_options tags app) (option_of tag)
options_more [] tag app = refl
options_more (first ∷ tags) tag app = options_more tags tag (with_text app (option_of first))

-- One more tag has its option.
pub option_more : (i : ℕ) (app : App) → i < length all_tags → with_options (take (i + 1) all_tags) app ≡ with_text (with_options (take i all_tags) app) (option_of (get_or all_tags i Event))
option_more i app lt = ap (λ (tags : List Tag). with_options tags app) (take_more all_tags i Event lt) ∙ options_more (take i all_tags) (get_or all_tags i Event) app

-- ---- one argument more

-- the rule of an argument, which is one of its own command alone
abbrev pub HasRule : Arg → Rule → Type 0
HasRule arg rule = (rule_of arg ≡ rule) × (arg.global ≡ false)

-- A command has an argument of this rule more.
pub rule_added : (old : Result Command AllocError) (was : Command) (arg : Arg) (rule : Rule) (new : Result Command AllocError) → old ≡ Ok was → HasRule arg rule
    → IfOk new (λ command. AddsArg was arg command) → AddsRule old rule new
rule_added old was arg rule (Err e) is has adds app makes = tt
rule_added old was arg rule (Ok new) is has adds app makes =
    let M : Result Command AllocError → Type 0 = λ command. Makes command app in
    let before : IsApp was app = subst M is makes in
    record {
      app_is = adds.shape has.1 ∙ ap (λ a. with_rule a (rule_of arg)) before.app_is ∙ ap (with_rule app) has.0;
      local = adds.globals ∙ ap (λ globals. globals || arg.global) before.local ∙ has.1;
    }

pub option_made : (new long named arg : Arg) (name value help : Bor (List ℕ)) → HasRule new (new_rule name.now) → long ≡ record new { long = Some name }
    → named ≡ record long { val_names = One value } → arg ≡ record named { help = Some help } → HasRule arg (text_rule name.now)
option_made new long named arg name value help is l n h = (
  ap rule_of h ∙ ap rule_of n ∙ ap (λ (a : Arg). record (rule_of a) { value_names = 1 }) l ∙ ap (λ (r : Rule). record r { long = Some name.now; value_names = 1 }) is.0,
  ap (λ (a : Arg). a.global) h ∙ ap (λ (a : Arg). a.global) n ∙ ap (λ (a : Arg). a.global) l ∙ is.1,
)

pub flag_made : (new long set arg : Arg) (name help : Bor (List ℕ)) → HasRule new (new_rule name.now) → long ≡ record new { long = Some name }
    → set ≡ record long { action = Some SetTrue } → arg ≡ record set { help = Some help } → HasRule arg (record (new_rule name.now) { long = Some name.now; action = Some SetTrue })
flag_made new long set arg name help is l s h = (
  ap rule_of h ∙ ap rule_of s ∙ ap (λ (a : Arg). record (rule_of a) { action = Some SetTrue }) l ∙ ap (λ (r : Rule). record r { long = Some name.now; action = Some SetTrue }) is.0,
  ap (λ (a : Arg). a.global) h ∙ ap (λ (a : Arg). a.global) s ∙ ap (λ (a : Arg). a.global) l ∙ is.1,
)

-- A command has another as a subcommand more.
pub subcommand_added : (old sub : Result Command AllocError) (was added : Command) (new : Result Command AllocError) → old ≡ Ok was → sub ≡ Ok added
    → IfOk new (λ command. AddsSubcommand was added command) → AddsApp old sub new
subcommand_added old sub was added (Err e) is sub_is adds app sub_app makes makes_sub = tt
subcommand_added old sub was added (Ok new) is sub_is adds app sub_app makes makes_sub =
    let M : Result Command AllocError → Type 0 = λ command. Makes command app in
    let S : Result Command AllocError → Type 0 = λ command. Makes command sub_app in
    let before : IsApp was app = subst M is makes in
    let below : IsApp added sub_app = subst S sub_is makes_sub in
    record {
      app_is = adds.shape below.local ∙ ap (λ a. with_subcommand a (shape_of added)) before.app_is ∙ ap (λ (a : App). with_subcommand app a.top) below.app_is;
      local = adds.globals ∙ ap (λ globals. globals || (out-Command added).has_globals) before.local ∙ below.local;
    }
