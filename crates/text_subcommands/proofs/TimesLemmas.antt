-- What `times` has found in a text, and written of it.
use Rattle.std.proofs.Common.{◌≡◌, ℕ, ◌≤◌, List, ◌++◌, length, Option, Some, None, IfSome, inr, sym, subst}
use Rattle.std.specs.Io.KnownBytes.{Appends}
use Rattle.watched_streams.specs.Output.{AppendsPart}
use Rattle.board_times.specs.declared.reading.Found.{Found}
use Rattle.board_times.specs.declared.reading.Found.TheVariants.{Times}
use Rattle.board_times.specs.declared.reading.Kept.{Kept}
use Rattle.board_times.specs.Listing.{listing_of}
use Rattle.board_times.specs.Times.{IsFound}
use Rattle.text_subcommands.specs.Timed.{ListsPart, ListsTimes, times_limit}

-- What was found in the text that was read is found in the input.
pub found_in : (input : Option (List ℕ)) (text slice : List ℕ) (other found : Found) → IfSome input (λ bytes. text ≡ bytes) → slice ≡ text
    → other ≡ found → IsFound slice other → length text ≤ times_limit → IfSome input (λ bytes. IsFound bytes found × (length bytes ≤ times_limit))
found_in None text slice other found text_is slice_is same is within = tt
found_in (Some bytes) text slice other found text_is slice_is same is within =
    let F : List ℕ → Type 0 = λ bs. IsFound bs found in
    let G : Found → Type 0 = λ one. IsFound slice one in
    let P : List ℕ → Type 0 = λ bs. IsFound bs found × (length bs ≤ times_limit) in
    subst P text_is (subst F slice_is (subst G same is), within)

-- The lines of what was read are written, or a part of them.
pub listed_whole : (input written written' : Option (List ℕ)) (kept : Kept) (text slice : List ℕ) → text ≡ listing_of kept → slice ≡ text
    → IfSome input (λ bytes. IsFound bytes (Times kept) × (length bytes ≤ times_limit)) → Appends written written' slice
    → ListsTimes input written written'
listed_whole None written written' kept text slice text_is slice_is read appends = tt
listed_whole (Some bytes) written written' kept text slice text_is slice_is read appends =
    let P : List ℕ → Type 0 = λ t. Appends written written' t in (kept, read.0, read.1, subst P text_is (subst P slice_is appends))

pub listed_part : (input written written' : Option (List ℕ)) (kept : Kept) (text slice : List ℕ) → text ≡ listing_of kept → slice ≡ text
    → IfSome input (λ bytes. IsFound bytes (Times kept) × (length bytes ≤ times_limit)) → AppendsPart written written' slice
    → ListsPart input written written'
listed_part None written written' kept text slice text_is slice_is read appends = inr tt
listed_part (Some bytes) written written' kept text slice text_is slice_is read appends =
    let P : List ℕ → Type 0 = λ t. AppendsPart written written' t in inr (kept, read.0, read.1, subst P text_is (subst P slice_is appends))
