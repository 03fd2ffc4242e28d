-- What looks like a set-up may go.
use Rattle.std.proofs.Common.{◌≡◌, ◌<◌, ◌&&◌, ◌||◌, not, ℕ, Bool, true, false, Option, Some, None, refl, sym, ap, arith}
use Rattle.std.specs.Prelude.{if◌then◌else◌}
use Rattle.std.proofs.lemmas.Bool.{leb-false, lt-leb, true≢false}
use Rattle.game_over.specs.declared.made.Made.{Made}
use Rattle.game_over.specs.Unfinished.{home_stands, may_go, sets_up, stands, stood_for, was_changed}

longer : (stood : Option ℕ) → stood_for stood stands ≡ false → stood_for stood home_stands ≡ false
longer None short = short
longer (Some stood) short = let below : stood < stands = leb-false stands stood short in lt-leb home_stands stood (omega arith)

drawn : (stood : Option ℕ) (b : Bool) → stood_for stood stands ≡ b → (goes_on changed : Bool) → (if b || not goes_on then false else changed) ≡ true
    → not (stood_for stood home_stands) ≡ true
drawn stood true is goes_on changed so = absurd (true≢false (sym so))
drawn stood false is goes_on changed so = ap not (longer stood is)

going : (stood : Option ℕ) (added home goes_on changed : Bool)
    → (if added then false else if home then not (stood_for stood home_stands) else if stood_for stood stands || not goes_on then false else changed) ≡ true
    → (not added && not (stood_for stood home_stands)) ≡ true
going stood true home goes_on changed so = absurd (true≢false (sym so))
going stood false true goes_on changed so = so
going stood false false goes_on changed so = drawn stood (stood_for stood stands) refl goes_on changed so

pub may_go_all : (made : Made) (next : Option Made) → sets_up made next ≡ true → may_go made ≡ true
may_go_all made next so = going made.stood made.is_added made.goes_home made.goes_on (was_changed next) so
