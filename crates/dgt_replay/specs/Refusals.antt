-- The messages about arguments that are refused.
use Rattle.std.specs.Prelude.{◌≡◌, ◌≢◌, ◌⊎◌, List, ◌∷◌, ◌++◌, All, ℕ, Option, MatchOption}
use Rattle.clap.specs.Walk.{Text}
use Rattle.chess_rules.specs.declared.parts.Parts.{Parts}
use Rattle.chess_game.specs.declared.values.Tag.{Tag}
use Rattle.chess_game.specs.declared.values.TagError.{TagError}
use Rattle.chess_game.specs.declared.values.TagError.TheVariants.{Memory}
use Rattle.chess_game.specs.TagNames.{all_tags}
use Rattle.chess_game.specs.Values.{RefusesText}
use Rattle.replay_arguments.specs.Setups.{MayHave}
use Rattle.chess_text.specs.Start.{StartsAt}
use Rattle.text_subcommands.specs.Messages.{tag_message}
use Rattle.text_subcommands.specs.Refusals.{RefusesStart}

-- The message about a refused value of a tag.
abbrev pub RefusesValue : Tag → Option Text → List ℕ → Type 0
RefusesValue tag text message = MatchOption text ⊥ (λ value. (error : TagError) × (error ≢ Memory) × RefusesText tag value error × (message ≡ tag_message tag error))

-- The message about refused values of tags: it names the first that a tag may not have, in the order of the tags.
abbrev pub RefusesTags : (Tag → Option Text) → List ℕ → Type 0
RefusesTags text message = (before after : List Tag) × (tag : Tag) × (all_tags ≡ before ++ tag ∷ after)
    × All (λ t. MayHave t (text t)) before × RefusesValue tag (text tag) message

-- The message where arguments set nothing up: about the FEN, or, where that isn't refused, about a tag.
abbrev pub RefusesSetup : Option Text → (Tag → Option Text) → List ℕ → Type 0
RefusesSetup fen text message = RefusesStart fen message ⊎ (((start : Parts) × StartsAt fen start) × RefusesTags text message)
