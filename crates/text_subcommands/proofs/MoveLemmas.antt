-- The lines of moves, as they are gathered one after another.
use Rattle.std.proofs.Common.{◌≡◌, ℕ, ◌+◌, ◌<◌, ◌≤◌, List, [], ◌∷◌, ◌++◌, length, get_or, take, drop, codes, Option, Result, Ok, Err, OnErr, inr, refl, sym, ap, subst, ◌∙◌, append_assoc, append-nil}
use Rattle.std.proofs.lemmas.List.{take-append-drop, take_all, take_more}
use Rattle.std.proofs.KnownBytes.{Appends-trans}
use Rattle.std.specs.Io.KnownBytes.{Appends}
use Rattle.chess_rules.specs.declared.chess_move.Move.{Move}
use Rattle.chess_rules.specs.declared.parts.Parts.{Parts}
use Rattle.chess_rules.specs.Moves.{ListsLegal}
use Rattle.chess_text.specs.San.{San}
use Rattle.watched_streams.specs.Output.{AppendsPart, Gathers}
use Rattle.text_subcommands.specs.Printed.{PrintsPart, TellsMoves}

tells_more : (p : Parts) (moves : List Move) (m : Move) (text san : List ℕ) → TellsMoves p moves text → San p m san → TellsMoves p (moves ++ m ∷ []) (text ++ (san ++ codes "\n"))
tells_more p [] m text san told is = (san, [], is, ap (λ (x : List ℕ). x ++ (san ++ codes "\n")) told ∙ sym (append-nil (san ++ codes "\n")), refl)
tells_more p (n ∷ moves) m text san told is =
    let line = san ++ codes "\n" in (
      told.0,
      told.1 ++ line,
      told.2,
      ap (λ (x : List ℕ). x ++ line) told.3 ∙ append_assoc (told.0 ++ codes "\n") told.1 line,
      tells_more p moves m told.1 san told.4 is,
    )

-- The text of the moves up to the next one, and with it.
pub told_more : (p : Parts) (moves : List Move) (i : ℕ) (m : Move) (text san : List ℕ) → i < length moves → m ≡ get_or moves i m → San p m san
    → TellsMoves p (take i moves) text → TellsMoves p (take (i + 1) moves) (text ++ (san ++ codes "\n"))
told_more p moves i m text san lt e is told =
    let P : List Move → Type 0 = λ xs. TellsMoves p xs (text ++ (san ++ codes "\n")) in
    subst P (ap (λ (x : Move). take i moves ++ x ∷ []) e ∙ sym (take_more moves i m lt)) (tells_more p (take i moves) m text san told is)

pub told_to_end : (p : Parts) (moves : List Move) (i : ℕ) (text : List ℕ) → length moves ≤ i → TellsMoves p (take i moves) text → TellsMoves p moves text
told_to_end p moves i text le told = let P : List Move → Type 0 = λ xs. TellsMoves p xs text in subst P (take_all i moves le) told

-- A first part of what waits was written.
pub part_written : (begin written written' : Option (List ℕ)) (waiting text : List ℕ) → Gathers begin written waiting text → AppendsPart written written' waiting → AppendsPart begin written' text
part_written begin written written' waiting text gathered part = (
  gathered.0 ++ part.0,
  part.1,
  gathered.1 ∙ ap (λ (bs : List ℕ). gathered.0 ++ bs) part.2 ∙ sym (append_assoc gathered.0 part.0 part.1),
  Appends-trans begin written written' gathered.0 part.0 gathered.2 part.3,
)

-- One more line waits.
pub gathers_more : (begin written : Option (List ℕ)) (waiting waiting' line text : List ℕ) → Gathers begin written waiting text → waiting' ≡ waiting ++ line
    → Gathers begin written waiting' (text ++ line)
gathers_more begin written waiting waiting' line text gathered is =
    (gathered.0, ap (λ bs. bs ++ line) gathered.1 ∙ append_assoc gathered.0 waiting line ∙ ap (λ bs. gathered.0 ++ bs) (sym is), gathered.2)

-- All lines are written once what waits is.
pub all_written : (begin written written' : Option (List ℕ)) (waiting text : List ℕ) → Gathers begin written waiting text → Appends written written' waiting → Appends begin written' text
all_written begin written written' waiting text gathered sent =
    subst (λ (bs : List ℕ). Appends begin written' bs) (sym gathered.1) (Appends-trans begin written written' gathered.0 waiting gathered.2 sent)

-- Of a write that failed: the lines of the first moves, or a first part of them.
pub part_told : {T E : Type 0} (r : Result T E) (p : Parts) (moves : List Move) (i : ℕ) (begin written written' : Option (List ℕ)) (waiting done : List ℕ) → TellsMoves p (take i moves) done
    → Gathers begin written waiting done → AppendsPart written written' waiting
    → OnErr r ((first more : List Move) × (text : List ℕ) × (moves ≡ first ++ more) × TellsMoves p first text × AppendsPart begin written' text)
part_told {T} {E} (Ok v) p moves i begin written written' waiting done told gathered part = tt
part_told {T} {E} (Err e) p moves i begin written written' waiting done told gathered part =
    (take i moves, drop i moves, done, sym (take-append-drop i moves), told, part_written begin written written' waiting done gathered part)

pub prints_part : (p start : Parts) (items now first more : List Move) (text : List ℕ) (written written' : Option (List ℕ)) → p ≡ start → ListsLegal p items → now ≡ items → now ≡ first ++ more
    → TellsMoves p first text → AppendsPart written written' text → PrintsPart start written written'
prints_part p start items now first more text written written' same listed is parts told part =
    let L : List Move → Type 0 = λ ms. ListsLegal p ms in
    let P : Parts → Type 0 = λ q. ListsLegal q (first ++ more) in
    let Q : Parts → Type 0 = λ q. TellsMoves q first text in
    inr (first, more, text, subst P same (subst L (sym is ∙ parts) listed), subst Q same told, part)
