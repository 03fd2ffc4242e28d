-- Arguments with which a parse finds fault, and arguments that ask for help.
use Rattle.std.proofs.Common.{◌≡◌, ◌≢◌, ◌⊎◌, ◌∙◌, true, List, [], ◌∷◌, codes, ap, inl, inr, refl, subst, sym}
use Rattle.clap.specs.Faults.{fault_of, is_simple_and_free}
use Rattle.clap.specs.Kinds.{IsAmong, HasKind, Kinds}
use Rattle.clap.specs.Simple.{App}
use Rattle.clap.specs.Values.{kind_of}
use Rattle.clap.specs.Walk.{Text}
use Rattle.clap.specs.declared.error.Error.{Error}
use Rattle.clap.specs.declared.error.kind.ErrorKind.{ErrorKind}
use Rattle.clap.specs.declared.error.kind.ErrorKind.TheVariants as kind
use Rattle.clap.proofs.OnLiterals.{clap_on_literals}
use Rattle.replay_arguments.specs.Command.{replay}
use Rattle.replay_arguments.specs.Subcommands.{AreMistaken, AsksForHelp, AsksForVersion, IsHelp, IsVersion}

replay_is_free : is_simple_and_free replay ≡ true
unfolding clap_on_literals
replay_is_free = refl

pub is_free : (app : App) → app ≡ replay → is_simple_and_free app ≡ true
is_free app is = ap is_simple_and_free is ∙ replay_is_free

-- What a parse of the command finds: a fault of the arguments, or none.
pub fault_found : (app : App) (arguments : List Text) (error : Error) → app ≡ replay → (is_simple_and_free app ≡ true → HasKind (fault_of app arguments) error)
    → (kind_of error ≡ kind.OutOfMemory) ⊎ (IsAmong (kind_of error) (fault_of replay arguments) ⊎ ((fault_of replay arguments ≡ []) × (kind_of error ≡ kind.InvalidValue)))
fault_found app arguments error is has =
    let P : App → Type 0 = λ a. HasKind (fault_of a arguments) error in
    elim (subst P is (has (is_free app is))) [
      | inl memory ↦ inl memory
      | inr among ↦ inr (inl among)
    ]

pub none_found : (app : App) (arguments : List Text) → app ≡ replay → (is_simple_and_free app ≡ true → fault_of app arguments ≡ []) → fault_of replay arguments ≡ []
none_found app arguments is none = ap (λ a. fault_of a arguments) (sym is) ∙ none (is_free app is)

pub long_help : (name : Text) → AsksForHelp (name ∷ codes "--help" ∷ [])
unfolding clap_on_literals
long_help name = refl

pub short_help : (name : Text) → AsksForHelp (name ∷ codes "-h" ∷ [])
unfolding clap_on_literals
short_help name = refl

nothing_fault : (name : Text) → fault_of replay (name ∷ []) ≡ kind.MissingSubcommand ∷ []
unfolding clap_on_literals
nothing_fault name = refl

unknown_fault : (name : Text) → fault_of replay (name ∷ codes "fly" ∷ []) ≡ kind.UnknownArgument ∷ kind.InvalidSubcommand ∷ []
unfolding clap_on_literals
unknown_fault name = refl

-- none of these is help, or a version
abbrev AreFaults : Kinds → Type 0
AreFaults [] = Unit {0}
AreFaults (k ∷ ks) = (k ≢ kind.DisplayHelp) × (k ≢ kind.DisplayVersion) × AreFaults ks

none_is : (x : ErrorKind) (ks : Kinds) → AreFaults ks → ((k : ErrorKind) → (k ≢ kind.DisplayHelp) × (k ≢ kind.DisplayVersion) → k ≢ x) → IsAmong x ks → ⊥
none_is x [] are other among = among
none_is x (k ∷ ks) are other (inl same) = other k (are.0, are.1) (sym same)
none_is x (k ∷ ks) are other (inr among) = none_is x ks are.2 other among

faulty : (arguments : List Text) (k : ErrorKind) (ks : Kinds) → fault_of replay arguments ≡ k ∷ ks → AreFaults (k ∷ ks) → AreMistaken arguments
faulty arguments k ks is are =
    let H : Kinds → Type 0 = λ xs. IsAmong kind.DisplayHelp xs in
    let V : Kinds → Type 0 = λ xs. IsAmong kind.DisplayVersion xs in
    record {
      fault = inl (λ none. let bad : k ∷ ks ≡ [] = sym is ∙ none in cc);
      no_help = λ among. none_is kind.DisplayHelp (k ∷ ks) are (λ x not. not.0) (subst H is among);
      no_version = λ among. none_is kind.DisplayVersion (k ∷ ks) are (λ x not. not.1) (subst V is among);
    }

pub nothing_is_mistaken : (name : Text) → AreMistaken (name ∷ [])
nothing_is_mistaken name = faulty (name ∷ []) kind.MissingSubcommand [] (nothing_fault name) ((λ e. cc), (λ e. cc), tt)

pub unknown_is_mistaken : (name : Text) → AreMistaken (name ∷ codes "fly" ∷ [])
unknown_is_mistaken name = faulty (name ∷ codes "fly" ∷ []) kind.UnknownArgument (kind.InvalidSubcommand ∷ []) (unknown_fault name)
    ((λ e. cc), (λ e. cc), ((λ e. cc), (λ e. cc), tt))

pub help_asked : (arguments : List Text) → IsHelp arguments → AsksForHelp arguments
help_asked arguments (name, is) = elim is [
  | inl long ↦ subst AsksForHelp (sym long) (long_help name)
  | inr short ↦ subst AsksForHelp (sym short) (short_help name)
]

long_version : (name : Text) → AsksForVersion (name ∷ codes "--version" ∷ [])
unfolding clap_on_literals
long_version name = refl

short_version : (name : Text) → AsksForVersion (name ∷ codes "-V" ∷ [])
unfolding clap_on_literals
short_version name = refl

pub version_asked : (arguments : List Text) → IsVersion arguments → AsksForVersion arguments
version_asked arguments (name, is) = elim is [
  | inl long ↦ subst AsksForVersion (sym long) (long_version name)
  | inr short ↦ subst AsksForVersion (sym short) (short_version name)
]
