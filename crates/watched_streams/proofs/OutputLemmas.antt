-- What stands on a stream after a write, whether it failed or not.
use Rattle.std.proofs.Common.{◌≡◌, ◌∙◌, ℕ, ◌<◌, ◌++◌, true, List, [], length, take, drop, Option, Result, Ok, Err, IfErr, append_assoc, sym, ap}
use Rattle.std.specs.Prelude.{⊤}
use Rattle.std.specs.Result.{is_err}
use Rattle.std.proofs.KnownBytes.{Appends-trans}
use Rattle.std.proofs.lemmas.List.{append-nil, take-append-drop}
use Rattle.std.specs.Io.KnownBytes.{Appends}
use Rattle.watched_streams.specs.declared.putting.WriteFault.{WriteFault}
use Rattle.watched_streams.specs.Output.{AppendsPart, Gathers}

pub part_put : (old new : Option (List ℕ)) (bytes : List ℕ) (r : Result ⊤ WriteFault) → is_err r ≡ true
    → IfErr r (λ fault. (fault.written < length bytes) × Appends old new (take fault.written bytes)) → AppendsPart old new bytes
part_put old new bytes (Ok done) e h = absurd (let never : ⊥ = cc in never)
part_put old new bytes (Err fault) e h = (take fault.written bytes, drop fault.written bytes, sym (take-append-drop fault.written bytes), h.1)

-- What waits was written.
pub gathers_sent : (begin written written' : Option (List ℕ)) (waiting text : List ℕ) → Gathers begin written waiting text → Appends written written' waiting
    → Gathers begin written' [] text
gathers_sent begin written written' waiting text gathered sent =
    (gathered.0 ++ waiting, gathered.1 ∙ sym (append-nil (gathered.0 ++ waiting)), Appends-trans begin written written' gathered.0 waiting gathered.2 sent)

-- a part of these bytes, behind those that were written
pub part_behind : (written written' after : Option (List ℕ)) (sent more : List ℕ) → Appends written written' sent → AppendsPart written' after more → AppendsPart written after (sent ++ more)
part_behind written written' after sent more first part =
    (sent ++ part.0, part.1, ap (λ bs. sent ++ bs) part.2 ∙ sym (append_assoc sent part.0 part.1), Appends-trans written written' after sent part.0 first part.3)
