-- What is typed, and the moves that it names.

use Rattle.std.proofs.Common.{arith, ◌≡◌, ℕ, ◌+◌, ◌<◌, Bool, false, List, [], ◌∷◌, ◌++◌, length, get_or, take, drop, map, add-one, drop-cons, Bor, Option, Some, None, Result, Ok, Err, refl, sym, ap, subst, ◌∙◌, ⊎_elim}
use Rattle.std.proofs.lemmas.Bool.{false≢true}
use Rattle.std.proofs.lemmas.List.{map-append, take_more, take-append-drop}
use Rattle.std.specs.List.{list_any}
use Rattle.std.specs.Prelude.{◌↔◌, ◌≢◌, ◌||◌, Contains, IfNone, IfOk, IfSome, IsTrue, MatchOption, ⊤}
use Rattle.std.proofs.lemmas.List.Elements.{Contains-push_cases}
use Rattle.chess_rules.specs.declared.chess_move.Move.{Move}
use Rattle.chess_rules.specs.declared.parts.Parts.{Parts}
use Rattle.chess_rules.specs.declared.pieces.Kind.{Kind}
use Rattle.chess_rules.specs.After.{after}
use Rattle.chess_rules.specs.Legal.{Legal}
use Rattle.chess_text.specs.San.{San}
use Rattle.settle_core.specs.Settling.{Line, position_after}
use Rattle.typed_lines.specs.Letters.{bare}
use Rattle.typed_lines.specs.Words.{without_number}
use Rattle.typed_lines.specs.Lines.{AreMoves, WordSays, StopsAt}
use Rattle.typed_lines.specs.Spelling.{IsOnly, IsItsSan, IsReadAs, SpellsBy}
use Rattle.typed_lines.specs.declared.spelling.Way.{Way}
use Rattle.typed_lines.specs.declared.spelling.Way.TheVariants.{Piece, WithFile, WithRank, WithSquare, Squares}
use Rattle.typed_lines.specs.declared.spelling.Manner.{Manner}
use Rattle.typed_lines.specs.declared.spelling.Manner.TheVariants.{Written}
use Rattle.typed_lines.specs.declared.reading.Word.{Word}
use Rattle.typed_lines.specs.declared.reading.Word.TheVariants.{Meant}

-- a call's answer, and what is said in other words
pub if_ok_iff : {E : Type 0} (r : Result Bool E) (A B : Type 0) → IfOk r (λ b. IsTrue b ↔ A) → (A → B) → (B → A) → IfOk r (λ b. IsTrue b ↔ B)
if_ok_iff (Ok b) A B iff to back = (λ t. to (iff.0 t), λ q. iff.1 (back q))
if_ok_iff (Err e) A B iff to back = tt

pub written_iff : (p : Parts) (m n : Move) (word san : List ℕ) (b : Bool) → n ≡ m → San p n san → ((text : List ℕ) → San p n text → text ≡ san) → (IsTrue b ↔ (bare word ≡ bare san))
    → IsTrue b ↔ IsItsSan p m word
written_iff p m n word san b same is one iff =
    let P : Move → Type 0 = λ x. IsTrue b ↔ IsItsSan p x word in
    subst P same (λ t. (san, is, iff.0 t), λ w. iff.1 (w.2 ∙ ap bare (one w.0 w.1)))

-- Of the moves that were tried, which one the word is read as, if any.
abbrev pub SoFar : Manner → Parts → List ℕ → List Move → Option Move → Type 0
SoFar manner p word tried None = (n : Move) → Contains tried n → IsReadAs manner p n word → ⊥
SoFar manner p word tried (Some m) = Legal p m × IsReadAs manner p m word × ((n : Move) → Contains tried n → IsReadAs manner p n word → n ≡ m)

pub none_tried : (manner : Manner) (p : Parts) (word : List ℕ) → SoFar manner p word [] None
none_tried manner p word n has reads = let bad : has.0 < 0 = has.1 in absurd (omega arith)

pub more_kept : (manner : Manner) (p : Parts) (word : List ℕ) (tried : List Move) (found : Option Move) (m : Move) → SoFar manner p word tried found → (IsReadAs manner p m word → ⊥)
    → SoFar manner p word (tried ++ m ∷ []) found
more_kept manner p word tried None m so not_read = λ n has reads.
    ⊎_elim (λ old. so n old reads) (λ same. not_read (let P : Move → Type 0 = λ x. IsReadAs manner p x word in subst P (sym same) reads)) (Contains-push_cases tried m n has)
more_kept manner p word tried (Some found) m so not_read = (
  so.0,
  so.1,
  λ n has reads. ⊎_elim (λ old. so.2 n old reads)
      (λ same. absurd (not_read (let P : Move → Type 0 = λ x. IsReadAs manner p x word in subst P (sym same) reads))) (Contains-push_cases tried m n has),
)

pub more_found : (manner : Manner) (p : Parts) (word : List ℕ) (tried : List Move) (found : Option Move) (m : Move) → SoFar manner p word tried found → Legal p m → IsReadAs manner p m word
    → MatchOption found ⊤ (λ n. n ≡ m) → SoFar manner p word (tried ++ m ∷ []) (Some m)
more_found manner p word tried None m so legal is same =
    (legal, is, λ n has reads. ⊎_elim (λ old. absurd (so n old reads)) (λ this. sym this) (Contains-push_cases tried m n has))
more_found manner p word tried (Some found) m so legal is same =
    (legal, is, λ n has reads. ⊎_elim (λ old. so.2 n old reads ∙ same) (λ this. sym this) (Contains-push_cases tried m n has))

-- Where two moves are read, there is no one alone.
pub two_read : (manner : Manner) (p : Parts) (word : List ℕ) (tried : List Move) (found : Option Move) (m : Move) → SoFar manner p word tried found → Legal p m → IsReadAs manner p m word
    → (MatchOption found ⊤ (λ n. n ≡ m) → ⊥) → (n : Move) → IsOnly manner p word n → ⊥
two_read manner p word tried None m so legal is other n alone = other tt
two_read manner p word tried (Some found) m so legal is other n alone = other (alone.alone found so.0 so.1 ∙ sym (alone.alone m legal is))

pub all_some : (manner : Manner) (p : Parts) (word : List ℕ) (moves : List Move) (found : Option Move) → SoFar manner p word moves found → ((m : Move) → Contains moves m ↔ Legal p m)
    → IfSome found (IsOnly manner p word)
all_some manner p word moves None so listed = tt
all_some manner p word moves (Some m) so listed = record { legal = so.0; reads = so.1; alone = λ n legal reads. so.2 n ((listed n).1 legal) reads }

pub all_none : (manner : Manner) (p : Parts) (word : List ℕ) (moves : List Move) (found : Option Move) → SoFar manner p word moves found → ((m : Move) → Contains moves m ↔ Legal p m)
    → IfNone found ((m : Move) → IsOnly manner p word m → ⊥)
all_none manner p word moves None so listed = λ m alone. so m ((listed m).1 alone.legal) alone.reads
all_none manner p word moves (Some m) so listed = tt

-- ---- moves, one after the other

pub names_more : (p : Parts) (found : List (List ℕ)) (moves : List Move) (word : List ℕ) (m : Move) → AreMoves p found moves
    → IsOnly Written (position_after p moves) (without_number word) m → AreMoves p (found ++ word ∷ []) (moves ++ m ∷ [])
names_more p [] [] word m named is = (is, tt)
names_more p (w ∷ found) (n ∷ moves) word m named is = (named.0, names_more (after p n) found moves word m named.1 is)
names_more p [] (n ∷ moves) word m named is = absurd named
names_more p (w ∷ found) [] word m named is = absurd named

pub after_more : (p : Parts) (moves : List Move) (m : Move) → position_after p (moves ++ m ∷ []) ≡ after (position_after p moves) m
after_more p [] m = refl
after_more p (n ∷ moves) m = after_more (after p n) moves m

-- So many of the words are these moves, which lead to this position.
pub record ReadSoFar (start : Parts) (words : List (List ℕ)) (position : Parts) (moves : List Move) : Type 0 where
  pub named : AreMoves start words moves
  pub here : position ≡ position_after start moves

pub read_more : (start position : Parts) (words : List (List ℕ)) (moves : List Move) (word : List ℕ) (m : Move) → ReadSoFar start words position moves
    → IsOnly Written position (without_number word) m → ReadSoFar start (words ++ word ∷ []) (after position m) (moves ++ m ∷ [])
read_more start position words moves word m so is = record {
  named = names_more start words moves word m so.named (let P : Parts → Type 0 = λ q. IsOnly Written q (without_number word) m in subst P so.here is);
  here = ap (λ (q : Parts). after q m) so.here ∙ sym (after_more start moves m);
}

pub stops_at : (start position : Parts) (words found behind : List (List ℕ)) (moves : List Move) (word : List ℕ) (number : ℕ) (says : Word) → words ≡ found ++ word ∷ behind
    → ReadSoFar start found position moves → number ≡ length moves → WordSays position (without_number word) says → StopsAt start words word number says
stops_at start position words found behind moves word number says split so count here = record {
  before = found;
  behind = behind;
  moves = moves;
  split = split;
  named = so.named;
  count = count;
  here = let P : Parts → Type 0 = λ q. WordSays q (without_number word) says in subst P so.here here;
}

-- ---- ways

no_way : (b : Bool) (A B : Type 0) → b ≡ false → (IsTrue b ↔ A) → A → B
no_way b A B none iff a = absurd (false≢true (sym none ∙ iff.1 a))

-- In none of the first four ways, so in the last.
pub last_way : (kind : Kind) (m : Move) (heard : List ℕ) (b1 b2 b3 b4 : Bool) → b1 ≡ false → (IsTrue b1 ↔ SpellsBy Piece kind m heard) → b2 ≡ false → (IsTrue b2 ↔ SpellsBy WithFile kind m heard)
    → b3 ≡ false → (IsTrue b3 ↔ SpellsBy WithRank kind m heard) → b4 ≡ false → (IsTrue b4 ↔ SpellsBy WithSquare kind m heard) → (way : Way) → SpellsBy way kind m heard → SpellsBy Squares kind m heard
last_way k m heard b1 b2 b3 b4 n1 i1 n2 i2 n3 i3 n4 i4 Piece by = no_way b1 _ _ n1 i1 by
last_way k m heard b1 b2 b3 b4 n1 i1 n2 i2 n3 i3 n4 i4 WithFile by = no_way b2 _ _ n2 i2 by
last_way k m heard b1 b2 b3 b4 n1 i1 n2 i2 n3 i3 n4 i4 WithRank by = no_way b3 _ _ n3 i3 by
last_way k m heard b1 b2 b3 b4 n1 i1 n2 i2 n3 i3 n4 i4 WithSquare by = no_way b4 _ _ n4 i4 by
last_way k m heard b1 b2 b3 b4 n1 i1 n2 i2 n3 i3 n4 i4 Squares by = by

-- ---- one more of a list

pub take_item : {A : Type 0} (xs : List A) (i : ℕ) (x : A) → i < length xs → x ≡ get_or xs i x → take (i + 1) xs ≡ take i xs ++ x ∷ []
take_item xs i x lt is = take_more xs i x lt ∙ ap (λ y. take i xs ++ y ∷ []) (sym is)

-- the words behind references, one more of them, and those behind it
pub map_item : (xs : List (Bor (List ℕ))) (i : ℕ) (d : Bor (List ℕ)) → i < length xs
    → map (λ (word : Bor (List ℕ)). word.now) (take (i + 1) xs) ≡ map (λ (word : Bor (List ℕ)). word.now) (take i xs) ++ (get_or xs i d).now ∷ []
map_item xs i d lt = ap (map (λ (word : Bor (List ℕ)). word.now)) (take_more xs i d lt) ∙ map-append (λ (word : Bor (List ℕ)). word.now) (take i xs) (get_or xs i d ∷ [])

pub map_split : (xs : List (Bor (List ℕ))) (i : ℕ) (d : Bor (List ℕ)) → i < length xs
    → map (λ (word : Bor (List ℕ)). word.now) xs ≡ map (λ (word : Bor (List ℕ)). word.now) (take i xs) ++ (get_or xs i d).now ∷ map (λ (word : Bor (List ℕ)). word.now) (drop (i + 1) xs)
map_split xs i d lt =
    let cut : drop i xs ≡ get_or xs i d ∷ drop (i + 1) xs = rw (add-one, drop-cons xs i d) refl in
    let whole : xs ≡ take i xs ++ get_or xs i d ∷ drop (i + 1) xs = sym (take-append-drop i xs) ∙ ap (λ (x : List (Bor (List ℕ))). take i xs ++ x) cut in
    ap (map (λ (word : Bor (List ℕ)). word.now)) whole ∙ map-append (λ (word : Bor (List ℕ)). word.now) (take i xs) (get_or xs i d ∷ drop (i + 1) xs)

-- ---- lines

pub some_words : (items : List (Bor (List ℕ))) (words : List (List ℕ)) → map (λ (word : Bor (List ℕ)). word.now) items ≡ words → items ≢ [] → words ≢ []
some_words [] words is some none = some refl
some_words (item ∷ items) words is some none = let bad = is ∙ none in cc

pub any_behind : (test : List ℕ → Bool) (xs : List (Bor (List ℕ))) → list_any test (map (λ (word : Bor (List ℕ)). word.now) xs) ≡ list_any (λ (word : Bor (List ℕ)). test word.now) xs
any_behind test [] = refl
any_behind test (x ∷ xs) = ap (λ b. test x.now || b) (any_behind test xs)

pub meant_at : (start position : Parts) (words found behind : List (List ℕ)) (moves : List Move) (word : List ℕ) (number : ℕ) (m : Move) (san : List ℕ) → words ≡ found ++ word ∷ behind
    → ReadSoFar start found position moves → number ≡ length moves → WordSays position (without_number word) (Meant m) → San position m san
    → (n : Move) × (stops : StopsAt start words word number (Meant n)) × San (position_after start stops.moves) n san
meant_at start position words found behind moves word number m san split so count here is =
    let P : Parts → Type 0 = λ q. WordSays q (without_number word) (Meant m) in
    let Q : Parts → Type 0 = λ q. San q m san in
    (m, record { before = found; behind = behind; moves = moves; split = split; named = so.named; count = count; here = subst P so.here here }, subst Q so.here is)

-- moves that words name are legal one after the other
pub named_line : (p : Parts) (words : List (List ℕ)) (moves : List Move) → AreMoves p words moves → Line p moves
named_line p [] [] named = tt
named_line p (word ∷ words) (m ∷ moves) named = (named.0.legal, named_line (after p m) words moves named.1)
named_line p [] (m ∷ moves) named = absurd named
named_line p (word ∷ words) [] named = absurd named
