-- Arguments with which a parse finds fault, and arguments that ask for help.
use Rattle.std.proofs.Common.{◌≡◌, ◌≢◌, ◌⊎◌, ◌∙◌, true, false, List, [], ◌∷◌, Option, Some, None, inl, inr, subst, sym, ℕ, codes, Bool, arith}
use Rattle.std.specs.Option.{option_map_or}
use Rattle.std.specs.Prelude.{MatchOption}
use Rattle.clap.specs.Faults.{fault_of}
use Rattle.clap.specs.Kinds.{IsAmong, Kinds}
use Rattle.clap.specs.Simple.{subcommand_of}
use Rattle.clap.specs.Walk.{Row, Text}
use Rattle.clap.specs.declared.error.kind.ErrorKind.{ErrorKind}
use Rattle.clap.specs.declared.error.kind.ErrorKind.TheVariants as kind
use Rattle.replay_arguments.specs.declared.arguments.Subcommand.{Subcommand}
use Rattle.replay_arguments.specs.Command.{replay}
use Rattle.replay_arguments.specs.Subcommands.{AreMistaken, AsksFor, Chooses, is_subcommand}
use Rattle.std.specs.Io.KnownBytes.{Keeps}
use Rattle.dgt_replay.specs.Messages.{GivesText}
use Rattle.text_subcommands.specs.Messages.{Says}

-- Mistaken arguments ask for nothing.
pub mistaken_asks_nothing : (arguments : List Text) (subcommand : Subcommand) → AreMistaken arguments → fault_of replay arguments ≡ [] → AsksFor arguments subcommand → ⊥
mistaken_asks_nothing arguments subcommand m none asks = elim m.fault [
  | inl some ↦ some none
  | inr unknown ↦ chooses_known (subcommand_of replay arguments) unknown asks
] where
  chooses_known : (found : Option (Text × List Row)) → option_map_or (λ f. is_subcommand f.0 f.1) found false ≡ false → MatchOption found ⊥ (λ f. Chooses f.0 f.1 (Some subcommand)) → ⊥
  chooses_known None unknown chooses = chooses
  chooses_known (Some f) unknown chooses = let bad : true ≡ false = chooses.known ∙ unknown in cc

-- The error of mistaken arguments is neither help nor a version.
pub mistaken_kind : (arguments : List Text) (k : ErrorKind) → AreMistaken arguments → (IsAmong k (fault_of replay arguments)) ⊎ ((fault_of replay arguments ≡ []) × (k ≡ kind.InvalidValue))
    → (k ≢ kind.DisplayHelp) × (k ≢ kind.DisplayVersion)
mistaken_kind arguments k m (inl among) =
    let P : ErrorKind → Type 0 = λ x. IsAmong x (fault_of replay arguments) in
    ((λ e. m.no_help (subst P e among)), (λ e. m.no_version (subst P e among)))
mistaken_kind arguments k m (inr own) = ((λ e. let bad : kind.InvalidValue ≡ kind.DisplayHelp = sym own.1 ∙ e in cc), (λ e. let bad : kind.InvalidValue ≡ kind.DisplayVersion = sym own.1 ∙ e in cc))

-- Arguments that ask for help or for the version have a fault.
pub one_fault : (arguments : List Text) (asked : ErrorKind) → fault_of replay arguments ≡ asked ∷ [] → fault_of replay arguments ≡ [] → ⊥
one_fault arguments asked one none = let bad : asked ∷ [] ≡ [] = sym one ∙ none in cc

-- Their error is what they ask for.
pub one_kind : (arguments : List Text) (asked k : ErrorKind) → fault_of replay arguments ≡ asked ∷ []
    → (IsAmong k (fault_of replay arguments)) ⊎ ((fault_of replay arguments ≡ []) × (k ≡ kind.InvalidValue)) → k ≡ asked
one_kind arguments asked k one (inl among) =
    let P : Kinds → Type 0 = λ ks. IsAmong k ks in
    elim (subst P one among) [
      | inl same ↦ same
      | inr none ↦ absurd none
    ]
one_kind arguments asked k one (inr own) = absurd (one_fault arguments asked one own.0)

-- A text that is asked for, where memory ran out.
pub text_out_of_memory : (status : ℕ) (written written' said said' : Option (List ℕ)) (out_failed err_failed : Bool) → status ≡ 4
    → Keeps written written' → Says said said' err_failed (codes "memory\n") → GivesText status written written' said said' out_failed err_failed
text_out_of_memory status written written' said said' out_failed err_failed four keeps says = record {
  done = λ e. absurd (omega arith);
  fault = λ e. absurd (omega arith);
  memory = λ e. (keeps, says);
  known = inr (inr four);
}
