-- What is said of arguments that are refused.
use Rattle.std.proofs.Common.{◌≡◌, ◌≢◌, ◌⊎◌, ℕ, Bool, false, List, Option, Some, None, codes, inl, inr, refl, subst}
use Rattle.std.specs.Prelude.{MatchOption, slice_index_or}
use Rattle.clap.specs.Walk.{Text}
use Rattle.chess_rules.specs.declared.parts.Parts.{Parts}
use Rattle.chess_text.specs.declared.fen.FenError.{FenError}
use Rattle.chess_text.specs.Fen.{RefusedFirst}
use Rattle.chess_game.specs.declared.values.Tag.{Tag}
use Rattle.chess_game.specs.declared.values.TagError.{TagError}
use Rattle.chess_game.specs.declared.values.TagError.TheVariants.{Text as NoText, Long, Date as NoDate, Memory}
use Rattle.chess_game.specs.Values.{RefusesText}
use Rattle.replay_arguments.specs.declared.setup.Refusal.{Refusal}
use Rattle.replay_arguments.specs.declared.setup.Refusal.TheVariants.{Fen, Tag as OfTag}
use Rattle.replay_arguments.specs.declared.arguments.RecordArguments.{RecordArguments}
use Rattle.replay_arguments.specs.Setups.{ForMemory, IsFirst, MayHave, tag_text}
use Rattle.chess_text.specs.Start.{StartsAt, given}
use Rattle.dgt_replay.specs.Refusals.{RefusesSetup, RefusesValue}
use Rattle.dgt_replay.specs.Inside.Refused.{refusal_message}
use Rattle.text_subcommands.specs.Refusals.{RefusesStart}
use Rattle.text_subcommands.specs.Messages.{Says, Tells, fen_message, tag_message}
use Rattle.text_subcommands.proofs.MessageLemmas.{tells_memory, tells_refused}

match_map : {A : Type 0} (o : Option A) (P Q : A → Type 0) → ((a : A) → P a → Q a) → MatchOption o ⊥ P → MatchOption o ⊥ Q
match_map None P Q f none = none
match_map (Some a) P Q f p = f a p

-- What is said of the first refusal.
tells_value : (options : RecordArguments) (tag : Tag) (error : TagError) (status : ℕ) (said said' : Option (List ℕ)) (err_failed : Bool) → (error ≢ Memory) → IsFirst options (OfTag tag error)
    → status ≡ 1 → Says said said' err_failed (tag_message tag error) → Tells status (RefusesSetup (given options.board.fen) (tag_text options)) said said' false false err_failed
tells_value options tag error status said said' err_failed value first one says =
    let tagged = first.1 in
    tells_refused status (RefusesSetup (given options.board.fen) (tag_text options)) said said' false false err_failed (tag_message tag error) one
    (inr (
      first.0,
      (
        tagged.0,
        tagged.1,
        tag,
        tagged.2,
        tagged.3,
        match_map (tag_text options tag) (λ text. RefusesText tag text error) (λ text. (e : TagError) × (e ≢ Memory) × RefusesText tag text e × (tag_message tag error ≡ tag_message tag e))
            (λ text refused. (error, value, refused, refl)) tagged.4,
      ),
    )) says

pub tells_refusal : (options : RecordArguments) (refusal : Refusal) (status : ℕ) (said said' : Option (List ℕ)) (err_failed : Bool) → IsFirst options refusal → (ForMemory refusal → status ≡ 4)
    → (¬ ForMemory refusal → status ≡ 1) → Says said said' err_failed (refusal_message refusal) → Tells status (RefusesSetup (given options.board.fen) (tag_text options)) said said' false false err_failed
tells_refusal options (Fen error) status said said' err_failed first memory refused says =
    tells_refused status (RefusesSetup (given options.board.fen) (tag_text options)) said said' false false err_failed (fen_message error) (refused (λ m. m))
    (inl (match_map (given options.board.fen) (λ text. RefusedFirst text error) (λ text. (e : FenError) × RefusedFirst text e × (fen_message error ≡ fen_message e)) (λ text first. (error, first, refl)) first)) says
tells_refusal options (OfTag tag NoText) status said said' err_failed first memory refused says =
    let value : NoText ≢ Memory = λ e. cc in tells_value options tag NoText status said said' err_failed value first (refused value) says
tells_refusal options (OfTag tag Long) status said said' err_failed first memory refused says =
    let value : Long ≢ Memory = λ e. cc in tells_value options tag Long status said said' err_failed value first (refused value) says
tells_refusal options (OfTag tag NoDate) status said said' err_failed first memory refused says =
    let value : NoDate ≢ Memory = λ e. cc in tells_value options tag NoDate status said said' err_failed value first (refused value) says
tells_refusal options (OfTag tag Memory) status said said' err_failed first memory refused says =
    tells_memory status (RefusesSetup (given options.board.fen) (tag_text options)) said said' false false err_failed (memory refl) says

pub refusal_status : (refusal : Refusal) (status : ℕ) → (ForMemory refusal → status ≡ 4) → (¬ ForMemory refusal → status ≡ 1) → (status ≡ 1) ⊎ (status ≡ 4)
refusal_status (Fen error) status memory refused = inl (refused (λ m. m))
refusal_status (OfTag tag NoText) status memory refused = let value : NoText ≢ Memory = λ e. cc in inl (refused value)
refusal_status (OfTag tag Long) status memory refused = let value : Long ≢ Memory = λ e. cc in inl (refused value)
refusal_status (OfTag tag NoDate) status memory refused = let value : NoDate ≢ Memory = λ e. cc in inl (refused value)
refusal_status (OfTag tag Memory) status memory refused = inr (memory refl)

pub says_memory : (refusal : Refusal) (said said' : Option (List ℕ)) (err_failed : Bool) → ForMemory refusal → Says said said' err_failed (refusal_message refusal)
    → Says said said' err_failed (codes "memory\n")
says_memory (Fen error) said said' err_failed memory says = absurd memory
says_memory (OfTag tag error) said said' err_failed memory says = let P : TagError → Type 0 = λ e. Says said said' err_failed (tag_message tag e) in subst P memory says

-- The same reasons where the texts are the same.
refuses_start_alike : (fen fen' : Option Text) (arguments : List ℕ) → fen ≡ fen' → RefusesStart fen arguments → RefusesStart fen' arguments
refuses_start_alike fen fen' arguments same refuses = let P : Option Text → Type 0 = λ f. RefusesStart f arguments in subst P same refuses

pub refuses_alike : (fen fen' : Option Text) (text text' : Tag → Option Text) → fen ≡ fen' → ((tag : Tag) → text tag ≡ text' tag) → (arguments : List ℕ) → RefusesSetup fen text arguments → RefusesSetup fen' text' arguments
refuses_alike fen fen' text text' same alike arguments (inl refuses) = inl (refuses_start_alike fen fen' arguments same refuses)
refuses_alike fen fen' text text' same alike arguments (inr (starts, tagged)) =
    let P : Option Text → Type 0 = λ f. (start : Parts) × StartsAt f start in
    let Q : Option Text → Type 0 = λ t. RefusesValue tagged.2 t arguments in
    inr (
      subst P same starts,
      (
        tagged.0,
        tagged.1,
        tagged.2,
        tagged.3,
        (λ k d lt. let t = slice_index_or tagged.0 k d in (let R : Option Text → Type 0 = λ o. MayHave t o in subst R (alike t) (tagged.4 k d lt))),
        subst Q (alike tagged.2) tagged.5,
      ),
    )
