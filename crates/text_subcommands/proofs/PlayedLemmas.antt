-- The words of a text, and the moves that they name.
use Rattle.std.proofs.Common.{◌≡◌, ◌≢◌, ℕ, ◌+◌, ◌<◌, ◌≤◌, Bool, true, false, cond, not, ◌==◌, List, [], ◌∷◌, ◌++◌, length, get_or, take, drop, codes, Option, Some, None, refl, sym, ap, subst, ◌∙◌, append_assoc, append-nil, add-one, drop-cons, inl, inr, arith, length-append}
use Rattle.std.specs.Prelude.{All, IfSome, MatchOption}
use Rattle.std.specs.Io.KnownBytes.{Appends, Keeps}
use Rattle.std.proofs.lemmas.List.{take-append-drop, take_more}
use Rattle.std.proofs.lemmas.List.Elements.{All-append, All-cons, All-nil}
use Rattle.std.proofs.lemmas.List.Splits.{slice_split_at, slice_split_none}
use Rattle.chess_rules.specs.declared.chess_move.Move.{Move}
use Rattle.chess_rules.specs.declared.parts.Parts.{Parts}
use Rattle.chess_rules.specs.After.{after}
use Rattle.chess_rules.specs.Legal.{Legal}
use Rattle.chess_text.specs.Fen.{fen}
use Rattle.chess_text.specs.San.{San}
use Rattle.settle_core.specs.Settling.{position_after}
use Rattle.watched_streams.specs.Input.{ReadsWithin}
use Rattle.text_subcommands.specs.Played.{Plays, NamesMoves, NamesNoMove, PlaysAll, PlaysPart, RefusesMoves, StopsAtWord, fen_lines, line_limit, word_message}
use Rattle.text_subcommands.specs.Messages.{Says, Tells}
use Rattle.text_subcommands.specs.Streams.{Streams}
use Rattle.text_subcommands.specs.Words.{filled, is_blank, parts, words}

-- ---- words

abbrev pub NoBlank : List ℕ → Type 0
NoBlank xs = All (λ b. is_blank b ≡ false) xs

pub no_blank_more : (bs : List ℕ) (i : ℕ) → i < length bs → NoBlank (take i bs) → is_blank (get_or bs i 0) ≡ false → NoBlank (take (i + 1) bs)
no_blank_more bs i lt h e =
    let P : ℕ → Type 0 = λ b. is_blank b ≡ false in
    rw (take_more bs i 0 lt) (All-append P (take i bs) (get_or bs i 0 ∷ []) h (All-cons P (get_or bs i 0) [] e (All-nil P)))

-- up to the first blank
pub parts_at : (bs : List ℕ) (i : ℕ) → i < length bs → NoBlank (take i bs) → is_blank (get_or bs i 0) ≡ true → parts bs ≡ take i bs ∷ parts (drop (i + 1) bs)
parts_at bs i lt h e =
    let cut : drop i bs ≡ get_or bs i 0 ∷ drop (i + 1) bs = rw (add-one, drop-cons bs i 0) refl in
    let whole : bs ≡ take i bs ++ get_or bs i 0 ∷ drop (i + 1) bs = sym (take-append-drop i bs) ∙ ap (λ (x : List ℕ). take i bs ++ x) cut in
    ap parts whole ∙ slice_split_at is_blank (take i bs) (get_or bs i 0) (drop (i + 1) bs) h e

pub parts_one : (bs : List ℕ) → NoBlank bs → parts bs ≡ bs ∷ []
parts_one bs h = slice_split_none is_blank bs h

-- a part that is a word, and one that is empty
pub word_first : (text part : List ℕ) (behind : List (List ℕ)) → parts text ≡ part ∷ behind → (length part == 0) ≡ false → words text ≡ part ∷ filled behind
word_first text part behind is some = ap filled is ∙ ap (λ b. cond (not b) (part ∷ filled behind) (filled behind)) some

pub none_first : (text part : List ℕ) (behind : List (List ℕ)) → parts text ≡ part ∷ behind → (length part == 0) ≡ true → words text ≡ filled behind
none_first text part behind is none = ap filled is ∙ ap (λ b. cond (not b) (part ∷ filled behind) (filled behind)) none

-- ---- moves

pub names_more : (p : Parts) (found : List (List ℕ)) (moves : List Move) (word : List ℕ) (m : Move) → NamesMoves p found moves → Legal (position_after p moves) m
    → San (position_after p moves) m word → NamesMoves p (found ++ word ∷ []) (moves ++ m ∷ [])
names_more p [] [] word m named legal is = (legal, is, tt)
names_more p (w ∷ found) (n ∷ moves) word m named legal is = (named.0, named.1, names_more (after p n) found moves word m named.2 legal is)
names_more p [] (n ∷ moves) word m named legal is = absurd named
names_more p (w ∷ found) [] word m named legal is = absurd named

pub after_more : (p : Parts) (moves : List Move) (m : Move) → position_after p (moves ++ m ∷ []) ≡ after (position_after p moves) m
after_more p [] m = refl
after_more p (n ∷ moves) m = after_more (after p n) moves m

pub fens_more : (p : Parts) (moves : List Move) (m : Move) → fen_lines p (moves ++ m ∷ []) ≡ fen_lines p moves ++ (fen (after (position_after p moves) m) ++ codes "\n")
fens_more p [] m = refl
fens_more p (n ∷ moves) m =
    let last = fen (after (position_after (after p n) moves) m) ++ codes "\n" in
    ap (λ (x : List ℕ). fen p ++ codes "\n" ++ x) (fens_more (after p n) moves m) ∙ sym (append_assoc (fen p ++ codes "\n") (fen_lines (after p n) moves) last)

-- Of all words these stand behind those that were moves: the position that these lead to, the lines behind what stood
-- before, and how many they are.
pub record PlaysSoFar (start : Parts) (begin : List ℕ) (all behind : List (List ℕ)) (position : Parts) (lines : List ℕ) (number : ℕ) : Type 0 where
  pub found : List (List ℕ)
  pub moves : List Move
  pub split : all ≡ found ++ behind
  pub named : NamesMoves start found moves
  pub here : position ≡ position_after start moves
  pub played : lines ≡ begin ++ fen_lines start moves
  pub count : number ≡ length moves

pub plays_none : (start : Parts) (begin : List ℕ) (all : List (List ℕ)) (lines : List ℕ) → lines ≡ begin ++ fen start ++ codes "\n" → PlaysSoFar start begin all all start lines 0
plays_none start begin all lines is = record {
  found = [];
  moves = [];
  split = refl;
  named = tt;
  here = refl;
  played = is ∙ append_assoc begin (fen start) (codes "\n");
  count = refl;
}

pub plays_more : (start : Parts) (begin : List ℕ) (all behind : List (List ℕ)) (word : List ℕ) (position next : Parts) (lines lines' : List ℕ) (number : ℕ) (m : Move)
    → PlaysSoFar start begin all (word ∷ behind) position lines number → Legal position m → San position m word → next ≡ after position m
    → lines' ≡ lines ++ fen next ++ codes "\n" → PlaysSoFar start begin all behind next lines' (number + 1)
plays_more start begin all behind word position next lines lines' number m so legal is next_is added =
    let last = fen next ++ codes "\n" in
    let last_is : last ≡ fen (after (position_after start so.moves) m) ++ codes "\n" = rw (next_is, so.here) refl in
    record {
      found = so.found ++ word ∷ [];
      moves = so.moves ++ m ∷ [];
      split = so.split ∙ sym (append_assoc so.found (word ∷ []) behind);
      named = names_more start so.found so.moves word m so.named (subst (λ (p : Parts). Legal p m) so.here legal) (subst (λ (p : Parts). San p m word) so.here is);
      here = next_is ∙ ap (λ (p : Parts). after p m) so.here ∙ sym (after_more start so.moves m);
      played = added ∙ append_assoc lines (fen next) (codes "\n") ∙ ap (λ (x : List ℕ). x ++ last) so.played ∙ append_assoc begin (fen_lines start so.moves) last
          ∙ ap (λ (x : List ℕ). begin ++ (fen_lines start so.moves ++ x)) last_is ∙ ap (λ (x : List ℕ). begin ++ x) (sym (fens_more start so.moves m));
      count = omega (arith, so.count, length-append so.moves (m ∷ []));
    }

pub plays_to_end : (start : Parts) (begin : List ℕ) (all : List (List ℕ)) (position : Parts) (lines : List ℕ) (number : ℕ) → PlaysSoFar start begin all [] position lines number
    → (moves : List Move) × (lines ≡ begin ++ fen_lines start moves) × NamesMoves start all moves
plays_to_end start begin all position lines number so =
    let P : List (List ℕ) → Type 0 = λ found. NamesMoves start found so.moves in
    (so.moves, so.played, subst P (sym (so.split ∙ append-nil so.found)) so.named)

pub plays_to_word : (start : Parts) (begin : List ℕ) (all behind : List (List ℕ)) (word : List ℕ) (position : Parts) (lines : List ℕ) (number : ℕ)
    → PlaysSoFar start begin all (word ∷ behind) position lines number → NamesNoMove position word
    → (moves : List Move) × (lines ≡ begin ++ fen_lines start moves) × ((number + 1 ≡ length moves + 1) × StopsAtWord start all moves)
plays_to_word start begin all behind word position lines number so none =
    let P : Parts → Type 0 = λ p. NamesNoMove p word in
    (so.moves, so.played, (ap (λ n. n + 1) so.count, (so.found, behind, word, so.split, so.named, subst P so.here none)))

-- ---- a text that is what an input had

pub all_at : (start : Parts) (input written written' : Option (List ℕ)) (text : List ℕ) → IfSome input (λ bytes. text ≡ bytes) → PlaysAll start (Some text) written written'
    → PlaysAll start input written written'
all_at start None written written' text is plays = (plays.0, tt, plays.2)
all_at start (Some bytes) written written' text is plays = let P : List ℕ → Type 0 = λ bs. PlaysAll start (Some bs) written written' in subst P is plays

pub part_at : (start : Parts) (input written written' : Option (List ℕ)) (text : List ℕ) → IfSome input (λ bytes. text ≡ bytes) → PlaysPart start (Some text) written written'
    → PlaysPart start input written written'
part_at start None written written' text is plays = (plays.0, tt, plays.2)
part_at start (Some bytes) written written' text is plays = let P : List ℕ → Type 0 = λ bs. PlaysPart start (Some bs) written written' in subst P is plays

pub refuses_at : (start : Parts) (input written written' : Option (List ℕ)) (text : List ℕ) → IfSome input (λ bytes. text ≡ bytes) → (message : List ℕ)
    → RefusesMoves start (Some text) written written' message → RefusesMoves start input written written' message
refuses_at start None written written' text is message (inl long) = inl (tt, long.1, long.2)
refuses_at start None written written' text is message (inr stops) = inr (stops.0, tt, stops.2, stops.3)
refuses_at start (Some bytes) written written' text is message refuses = let P : List ℕ → Type 0 = λ bs. RefusesMoves start (Some bs) written written' message in subst P is refuses

-- ---- how it ends

appends_none : (written written' : Option (List ℕ)) → Keeps written written' → Appends written written' []
appends_none None written' kept = tt
appends_none (Some xs) None kept = absurd kept
appends_none (Some xs) (Some ys) kept = kept ∙ sym (append-nil xs)

names_none : (start : Parts) (input : Option (List ℕ)) → IfSome input (λ bytes. (before after : List (List ℕ)) × (words bytes ≡ before ++ after) × NamesMoves start before [])
names_none start None = tt
names_none start (Some bytes) = ([], words bytes, refl, tt)

-- Nothing is a first part.
pub part_none : (start : Parts) (input written written' : Option (List ℕ)) → Keeps written written' → PlaysPart start input written written'
part_none start input written written' kept = ([], names_none start input, ([], fen_lines start [], refl, appends_none written written' kept))

-- Where nothing was written, and the status isn't 0.
pub plays_nothing : (start : Parts) (status : ℕ) (s : Streams) → Keeps s.written s.written' → ReadsWithin line_limit s.input s.input' → status ≢ 0 → (s.reader_failed ≡ true → status ≡ 3)
    → Tells status (RefusesMoves start s.input s.written s.written') s.said s.said' s.reader_failed s.out_failed s.err_failed → Plays start status s
plays_nothing start status s kept within undone read tells = record {
  done = λ e. absurd (undone e);
  tells = tells;
  fault = λ e. part_none start s.input s.written s.written' kept;
  unread = λ e. kept;
  read = read;
  memory = λ e. kept;
  bounded = within;
}

match_some : {A : Type 0} (P : Type 0) (Q : A → Type 0) (o : Option A) (a : A) → o ≡ Some a → MatchOption o P Q → Q a
match_some {A} P Q o a is holds = let R : Option A → Type 0 = λ x. MatchOption x P Q in subst R is holds

-- What is said once the lines of a text were written.
pub tells_played : (start : Parts) (text lines : List ℕ) (stopped : Option ℕ) (status : ℕ) (written written' said said' : Option (List ℕ)) (out_failed err_failed : Bool) → length text ≤ line_limit
    → ((moves : List Move) × (lines ≡ fen_lines start moves) × MatchOption stopped (NamesMoves start (words text) moves) (λ number. (number ≡ length moves + 1) × StopsAtWord start (words text) moves))
    → (status ≡ 0 → Keeps said said')
    → (status ≡ 1 → (number : ℕ) × (stopped ≡ Some number) × Appends written written' lines × Says said said' err_failed (word_message number))
    → (status ≡ 3 → (out_failed ≡ true) × Says said said' err_failed (codes "write fault\n")) → status ≤ 3
    → Tells status (RefusesMoves start (Some text) written written') said said' false out_failed err_failed
tells_played start text lines stopped status written written' said said' out_failed err_failed within played done refused fault known = record {
  done = done;
  refused = λ e.
      (let told = refused e in
      let moves = played.0 in
      let stops = match_some (NamesMoves start (words text) moves) (λ number. (number ≡ length moves + 1) × StopsAtWord start (words text) moves) stopped told.0 told.1 played.2 in
      let P : List ℕ → Type 0 = λ bs. Appends written written' bs in
      (word_message told.0, inr (moves, (within, stops.1), subst P played.1 told.2, ap word_message stops.0), told.3));
  fault = λ e. inr (fault e);
  memory = λ e. absurd (omega (arith, known, e));
}
