-- What `check` has said of a text.
use Rattle.std.proofs.Common.{◌≡◌, ℕ, ◌+◌, ◌<◌, ◌≤◌, List, ◌++◌, length, length-append, Option, Some, None, IfSome, inr, true, take, ap, subst, arith}
use Rattle.std.proofs.lemmas.List.{length-take-le}
use Rattle.std.proofs.KnownBytes.{Consumes-trans}
use Rattle.std.specs.Io.KnownBytes.{Appends, Consumes}
use Rattle.watched_streams.specs.declared.chunks.ReadChunk.{ReadChunk}
use Rattle.watched_streams.specs.Input.{GivesChunk, ReadsWithin}
use Rattle.watched_streams.specs.Output.{AppendsPart}
use Rattle.chess_game.specs.Games.{Content}
use Rattle.pgn_book.specs.Pgn.{Pgn}
use Rattle.text_subcommands.specs.Checked.{ChecksGame, ChecksPart, summary_line, text_limit}

pub is_game : (input : Option (List ℕ)) (text : List ℕ) (game : Content) → IfSome input (λ bytes. text ≡ bytes) → Pgn game text → length text ≤ text_limit
    → IfSome input (λ bytes. Pgn game bytes × (length bytes ≤ text_limit))
is_game None text game text_is pgn within = tt
is_game (Some bytes) text game text_is pgn within =
    let P : List ℕ → Type 0 = λ bs. Pgn game bs × (length bs ≤ text_limit) in subst P text_is (pgn, within)

pub no_game : (input : Option (List ℕ)) (text : List ℕ) → IfSome input (λ bytes. text ≡ bytes) → length text ≤ text_limit → ((game : Content) → Pgn game text → ⊥)
    → IfSome input (λ bytes. (length bytes ≤ text_limit) × ((game : Content) → Pgn game bytes → ⊥))
no_game None text text_is within none = tt
no_game (Some bytes) text text_is within none =
    let P : List ℕ → Type 0 = λ bs. (length bs ≤ text_limit) × ((game : Content) → Pgn game bs → ⊥) in subst P text_is (within, none)

-- The line about the game that was read is written, or a part of it.
pub told_whole : (input written written' : Option (List ℕ)) (game : Content) → IfSome input (λ bytes. Pgn game bytes × (length bytes ≤ text_limit))
    → Appends written written' (summary_line (length game.plies) game.result) → ChecksGame input written written'
told_whole None written written' game read appends = tt
told_whole (Some bytes) written written' game read appends = (game, read.0, read.1, appends)

pub told_part : (input written written' : Option (List ℕ)) (game : Content) → IfSome input (λ bytes. Pgn game bytes × (length bytes ≤ text_limit))
    → AppendsPart written written' (summary_line (length game.plies) game.result) → ChecksPart input written written'
told_part None written written' game read appends = inr tt
told_part (Some bytes) written written' game read appends = inr (game, read.0, read.1, appends)

-- At most so many bytes were read.
pub read_more : (limit room : ℕ) (input now left : Option (List ℕ)) (text buffer : List ℕ) (chunk : ReadChunk) → Consumes input now text → GivesChunk room buffer chunk now left
    → length text + room ≡ limit → ReadsWithin limit input left
read_more limit room input now left text buffer chunk before gives full =
    let read = take chunk.within buffer ++ gives.beyond in
    (text ++ read, Consumes-trans input now left text read before gives.consumes, omega (arith, length-append text read, full, gives.bounded))

-- More bytes than the limit were read.
pub too_long : (limit room : ℕ) (input now left : Option (List ℕ)) (text buffer : List ℕ) (chunk : ReadChunk) → Consumes input now text → GivesChunk room buffer chunk now left
    → length text + room ≡ limit → chunk.past ≡ true → IfSome input (λ bytes. limit < length bytes)
too_long limit room None now left text buffer chunk before gives full past = tt
too_long limit room (Some bytes) None left text buffer chunk before gives full past = absurd before
too_long limit room (Some bytes) (Some rest) None text buffer chunk before gives full past = absurd gives.consumes
too_long limit room (Some bytes) (Some rest) (Some last) text buffer chunk before gives full past =
    let heard = take chunk.within buffer in
    let long : length heard ≡ chunk.within = length-take-le chunk.within buffer gives.fits in
    omega (arith, ap length before, ap length gives.consumes, length-append text rest, length-append (heard ++ gives.beyond) last, length-append heard gives.beyond, long, gives.one_past past, full)
