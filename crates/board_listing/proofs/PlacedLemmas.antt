-- Lines of `follow`, and the positions behind them.
use Rattle.std.proofs.Common.{◌≡◌, ◌∙◌, inl, inr, ℕ, Bool, true, false, List, [], ◌∷◌, ◌++◌, codes, Option, ap, refl, sym}
use Rattle.std.specs.Prelude.{if◌then◌else◌}
use Rattle.std.specs.List.{AllByRecursion, flat_map}
use Rattle.std.proofs.lemmas.Grind.{flat_map-append}
use Rattle.chess_clock.specs.declared.Hms.{Hms}
use Rattle.chess_rules.specs.declared.parts.Parts.{Parts}
use Rattle.chess_rules.specs.Picture.{picture}
use Rattle.chess_rules.specs.Valid.{Valid}
use Rattle.chess_text.specs.Laws.{TextsArePlain}
use Rattle.chess_text.proofs.FenTexts.{All-append}
use Rattle.dgt_frame.specs.declared.events.Event.{Event}
use Rattle.dgt_frame.specs.declared.events.Event.TheVariants.{Message, Fault}
use Rattle.dgt_frame.specs.declared.events.FaultKind.{FaultKind}
use Rattle.dgt_frame.specs.declared.events.FaultKind.TheVariants.{Cut, Stray, Size, Data}
use Rattle.settle_core.specs.declared.plies.Outcome.{Outcome}
use Rattle.settle_core.specs.declared.plies.Ply.{Ply}
use Rattle.settle_core.specs.declared.plies.Seen.{Seen}
use Rattle.settle_core.specs.declared.plies.Seen.TheVariants.{Same, Moved, Sign, Replaced, Waits}
use Rattle.settle_core.specs.Folding.{Score, moves_of}
use Rattle.settle_core.specs.Settling.{Played, reached}
use Rattle.settle_core.proofs.Stages.{valid_reached}
use Rattle.board_events.specs.History.{is_fault}
use Rattle.watched_streams.specs.Lines.{line}
use Rattle.board_listing.specs.EventLines.{kind_text, line_of}
use Rattle.board_listing.specs.GameLines.{move_words, result_words, squares_text, waiting_words}
use Rattle.board_listing.specs.GameText.{TellsPly, TellsResult, TellsSeen, reached_by}
use Rattle.board_listing.specs.GivenGame.{GameLine, text_of}
use Rattle.board_listing.specs.Inside.News.{LastIsLegal, MayTell}
use Rattle.board_listing.specs.Inside.Positions.{TellsResultAndPosition, TellsSeenAndPosition}
use Rattle.board_listing.specs.WatchLines.{position_words, tells_change, tells_game}
use Rattle.board_listing.specs.WatchText.{IsGameLine, line_with, with_position}
use Rattle.board_listing.proofs.FollowLemmas.{clash}
use Rattle.board_listing.proofs.LineLemmas.{text_append}
use Rattle.board_listing.proofs.TextLemmas.{Printed, fault_printed, fixed, ply_printed, result_printed, squares_printed, waiting_printed}

-- These are lines of `follow`, and the text is they with the position behind each that changes the game.
pub record Placed (offset : ℕ) (p : Parts) (plain text : List ℕ) : Type 0 where
  pub lines : List GameLine
  pub plain_is : plain ≡ text_of lines
  pub text_is : text ≡ text_of (flat_map (with_position p) lines)
  pub each : AllByRecursion (IsGameLine offset) lines

pub none_placed : (offset : ℕ) (p : Parts) (plain text : List ℕ) → plain ≡ [] → text ≡ [] → Placed offset p plain text
none_placed offset p plain text plain_is text_is = record { lines = []; plain_is = plain_is; text_is = text_is; each = tt }

both_placed : (offset : ℕ) (p : Parts) (plain text plain' text' : List ℕ) → Placed offset p plain text → Placed offset p plain' text' → Placed offset p (plain ++ plain') (text ++ text')
both_placed offset p plain text plain' text' a b = record {
  lines = b.lines ++ a.lines;
  plain_is = ap (λ t. t ++ plain') a.plain_is ∙ ap (λ t. text_of a.lines ++ t) b.plain_is ∙ sym (text_append b.lines a.lines);
  text_is = ap (λ t. t ++ text') a.text_is ∙ ap (λ t. text_of (flat_map (with_position p) a.lines) ++ t) b.text_is
      ∙ sym (text_append (flat_map (with_position p) b.lines) (flat_map (with_position p) a.lines)) ∙ ap text_of (sym (flat_map-append (with_position p) b.lines a.lines));
  each = All-append (IsGameLine offset) b.lines a.lines b.each a.each;
}

-- a line with the position behind it, or without
abbrev placed_if : ℕ → Parts → List ℕ → Bool → List GameLine
placed_if offset p words change =
    (if change then line_with offset (position_words p) ∷ line_with offset words ∷ [] else line_with offset words ∷ []) ++ []

change_placed : (offset : ℕ) (p : Parts) (words plain text : List ℕ) → tells_change words ≡ true → tells_game words ≡ true → Printed words
    → plain ≡ line offset words → text ≡ plain ++ line offset (position_words p) → Placed offset p plain text
change_placed offset p words plain text change game printed plain_is text_is = record {
  lines = line_with offset words ∷ [];
  plain_is = plain_is;
  text_is = text_is ∙ ap (λ t. t ++ line offset (position_words p)) plain_is ∙ sym (ap (λ b. text_of (placed_if offset p words b)) change);
  each = (record { offset_is = refl; kind = game; one = printed }, tt);
}

pub other_placed : (offset : ℕ) (p : Parts) (words text : List ℕ) → tells_change words ≡ false → tells_game words ≡ true → Printed words
    → text ≡ line offset words → Placed offset p text text
other_placed offset p words text change game printed text_is = record {
  lines = line_with offset words ∷ [];
  plain_is = text_is;
  text_is = text_is ∙ sym (ap (λ b. text_of (placed_if offset p words b)) change);
  each = (record { offset_is = refl; kind = game; one = printed }, tt);
}

-- A ply is told by words that change the game, whatever they are.
abbrev TellsChange : List ℕ → Type 0
TellsChange word = (p : Parts) (san : List ℕ) (clock : Option Hms) → (tells_change (move_words word p san clock) ≡ true) × (tells_game (move_words word p san clock) ≡ true)

move_changes : TellsChange (codes "move")
move_changes p san clock = (refl, refl)

correction_changes : TellsChange (codes "correction")
correction_changes p san clock = (refl, refl)

ply_placed : TextsArePlain → (offset : ℕ) (p : Parts) (word : List ℕ) (start : Parts) (plies : List Ply) (plain text : List ℕ) → TellsChange word → Printed word → Valid start
    → Played start (moves_of plies) → LastIsLegal start plies → TellsPly offset word start plies plain → text ≡ plain ++ line offset (position_words p) → Placed offset p plain text
ply_placed law offset p word start [] plain text changes printed valid played legal tells text_is = absurd legal
ply_placed law offset p word start (ply ∷ earlier) plain text changes printed valid played legal tells text_is =
    let q = reached start (moves_of earlier) in
    let words = move_words word q tells.0 ply.clock in
    let kinds = changes q tells.0 ply.clock in
    change_placed offset p words plain text kinds.0 kinds.1
    (ply_printed law start earlier word words ply printed (valid_reached start (moves_of earlier) valid played.1) (record { san = tells.0; legal = legal; san_is = tells.1; words_are = refl }))
    tells.2 text_is

waiting_kinds : (squares : List ℕ) → (tells_change (waiting_words squares) ≡ false) × (tells_game (waiting_words squares) ≡ true)
waiting_kinds [] = (refl, refl)
waiting_kinds (byte ∷ bytes) = (refl, refl)

-- The lines of what a picture shows.
record SeenPlaced (offset : ℕ) (start : Parts) (score : Score) (shown : List ℕ) (seen : Seen) (text : List ℕ) : Type 0 where
  plain : List ℕ
  tells : TellsSeen offset start score shown seen plain
  placed : Placed offset (reached_by start score) plain text

seen_placed : TextsArePlain → (offset : ℕ) (start : Parts) (score : Score) (shown : List ℕ) (seen : Seen) (text : List ℕ) → Valid start → Played start (moves_of score.plies)
    → MayTell start score seen → TellsSeenAndPosition offset start score shown seen text → SeenPlaced offset start score shown seen text
seen_placed law offset start score shown Same text valid played may tells = absurd tells
seen_placed law offset start score shown (Moved m) text valid played may tells = record {
  plain = tells.0;
  tells = tells.1;
  placed = ply_placed law offset (reached_by start score) (codes "move") start score.plies tells.0 text move_changes (fixed (codes "move") refl) valid played may tells.1 tells.2;
}
seen_placed law offset start score shown (Replaced m) text valid played may tells = record {
  plain = tells.0;
  tells = tells.1;
  placed = ply_placed law offset (reached_by start score) (codes "correction") start score.plies tells.0 text correction_changes (fixed (codes "correction") refl) valid played may tells.1 tells.2;
}
seen_placed law offset start score shown (Sign outcome) text valid played may tells = record {
  plain = text;
  tells = tells;
  placed = none_placed offset (reached_by start score) text text tells tells;
}
seen_placed law offset start score shown Waits text valid played may tells =
    let squares = squares_text (picture (reached_by start score)) shown in
    let kinds = waiting_kinds squares in
    record {
      plain = text;
      tells = tells;
      placed = other_placed offset (reached_by start score) (waiting_words squares) text kinds.0 kinds.1 (waiting_printed squares (squares_printed (picture (reached_by start score)) shown)) tells;
    }

-- The lines of the result.
record ResultPlaced (offset : ℕ) (old new : Option Outcome) (p : Parts) (text : List ℕ) : Type 0 where
  plain : List ℕ
  tells : TellsResult offset old new plain
  placed : Placed offset p plain text

result_placed : (offset : ℕ) (old new : Option Outcome) (p : Parts) (text : List ℕ) → TellsResultAndPosition offset old new p text → ResultPlaced offset old new p text
result_placed offset old new p text (inl (same, none)) = record {
  plain = [];
  tells = inl (same, refl);
  placed = none_placed offset p [] text refl none;
}
result_placed offset old new p text (inr (other, is)) = record {
  plain = line offset (result_words new);
  tells = inr (other, refl);
  placed = change_placed offset p (result_words new) (line offset (result_words new)) text refl refl (result_printed new) refl is;
}

-- The lines of a picture that is a new one.
pub record NewsPlaced (offset : ℕ) (start : Parts) (score : Score) (shown : List ℕ) (seen : Seen) (old new : Option Outcome) (text : List ℕ) : Type 0 where
  pub first : List ℕ
  pub second : List ℕ
  pub first_is : TellsSeen offset start score shown seen first
  pub second_is : TellsResult offset old new second
  pub placed : Placed offset (reached_by start score) (first ++ second) text

pub news_placed : TextsArePlain → (offset : ℕ) (start : Parts) (score : Score) (shown : List ℕ) (seen : Seen) (old new : Option Outcome) (first second : List ℕ) → Valid start
    → Played start (moves_of score.plies) → MayTell start score seen → TellsSeenAndPosition offset start score shown seen first
    → TellsResultAndPosition offset old new (reached_by start score) second → NewsPlaced offset start score shown seen old new (first ++ second)
news_placed law offset start score shown seen old new first second valid played may tells result =
    let a = seen_placed law offset start score shown seen first valid played may tells in
    let b = result_placed offset old new (reached_by start score) second result in
    record {
      first = a.plain;
      second = b.plain;
      first_is = a.tells;
      second_is = b.tells;
      placed = both_placed offset (reached_by start score) a.plain first b.plain second a.placed b.placed;
    }

pub fault_kinds : (kind : FaultKind) → (tells_change (codes "fault " ++ kind_text kind) ≡ false) × (tells_game (codes "fault " ++ kind_text kind) ≡ true)
fault_kinds Cut = (refl, refl)
fault_kinds Stray = (refl, refl)
fault_kinds Size = (refl, refl)
fault_kinds Data = (refl, refl)

-- The line of a fault.
pub fault_placed : (p : Parts) (offset : ℕ) (event : Event) → is_fault event ≡ true
    → Placed offset p (line_of (record { offset = offset; event = event })) (line_of (record { offset = offset; event = event }))
fault_placed p offset (Message m) fault = absurd (clash fault refl)
fault_placed p offset (Fault kind) fault =
    let kinds = fault_kinds kind in
    other_placed offset p (codes "fault " ++ kind_text kind) (line offset (codes "fault " ++ kind_text kind)) kinds.0 kinds.1 (fault_printed kind) refl
