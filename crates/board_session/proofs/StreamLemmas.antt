-- What stands of a game's text after a write that failed, and after a flush that did.
use Rattle.std.proofs.Common.{◌≡◌, ℕ, true, false, List, [], take, drop, Option, Result, Ok, Err, IfErr, OnOk, sym}
use Rattle.std.specs.Prelude.{⊤}
use Rattle.std.specs.Result.{is_err}
use Rattle.std.proofs.KnownBytes.{Appends-kept}
use Rattle.std.proofs.lemmas.List.{append-nil, take-append-drop}
use Rattle.std.specs.Io.KnownBytes.{Appends, Keeps}
use Rattle.watched_streams.specs.declared.putting.WriteFault.{WriteFault}
use Rattle.chess_game.specs.Games.{Content}
use Rattle.pgn_book.specs.Pgn.{Pgn}
use Rattle.pgn_book.specs.Written.{AppendsFront}
use Rattle.watched_streams.specs.Output.{AppendsPart}

pub text_put : (game : Content) (old new : Option (List ℕ)) (r : Result ⊤ WriteFault) → is_err r ≡ true
    → IfErr r (λ fault. (text : List ℕ) × Pgn game text × AppendsFront old new text fault.written) → (text : List ℕ) × Pgn game text × AppendsPart old new text
text_put game old new (Ok done) e h = absurd (let never : ⊥ = cc in never)
text_put game old new (Err fault) e h = let front = h.2 in (h.0, h.1, (take front.0 h.0, drop front.0 h.0, sym (take-append-drop front.0 h.0), front.3))

pub text_flushed : (game : Content) (old mid new : Option (List ℕ)) (r : Result ⊤ WriteFault) → is_err r ≡ false
    → OnOk r ((text : List ℕ) × Pgn game text × Appends old mid text) → Keeps mid new → (text : List ℕ) × Pgn game text × AppendsPart old new text
text_flushed game old mid new (Ok done) e h k = (h.0, h.1, (h.0, [], sym (append-nil h.0), Appends-kept old mid new h.0 h.2 k))
text_flushed game old mid new (Err fault) e h k = absurd (let never : ⊥ = cc in never)
