-- Moves after the board has shown something else.
use Rattle.std.proofs.Common.{◌≡◌, ◌≢◌, ◌<◌, ◌≤◌, ◌+◌, ◌&&◌, ℕ, min, Bool, true, false, List, [], ◌∷◌, ◌++◌, Option, Some, None, refl, sym, ap, ◌∙◌, arith}
use Rattle.std.specs.Prelude.{if◌then◌else◌, nat_le}
use Rattle.std.specs.List.{list_all}
use Rattle.std.proofs.lemmas.Bool.{and_parts, le-leb, lt-leb, true≢false}
use Rattle.square_runs.specs.Lasting.{has_lasted}
use Rattle.board_doubts.specs.declared.heard.Event.{Event}
use Rattle.board_doubts.specs.declared.heard.Heard.{Heard}
use Rattle.board_doubts.specs.declared.heard.Heard.TheVariants.{Shows, Moves, Corrects, Agrees, Looked}
use Rattle.board_doubts.specs.declared.heard.Seen.{Seen}
use Rattle.board_doubts.specs.Clock.{most}
use Rattle.board_doubts.specs.Meaning.{OddAfterTenSeconds, leaves_apart}
use Rattle.board_doubts.specs.Unplayed.{apart_by, apart_since, odd, odd_by, wrong}

still_apart : (what : Heard) (at since : ℕ) (before : Option ℕ) → leaves_apart what ≡ true → before ≡ Some since → apart_by what at before ≡ Some since
still_apart (Shows seen) at since None leaves is = absurd cc
still_apart (Shows seen) at since (Some time) leaves is = is
still_apart (Moves repeats) at since before leaves is = absurd (true≢false (sym leaves))
still_apart (Corrects repeats) at since before leaves is = absurd (true≢false (sym leaves))
still_apart Agrees at since before leaves is = absurd (true≢false (sym leaves))
still_apart _ at since before leaves is = is

apart_in : (since : ℕ) (between base : List Event) → list_all (λ one. leaves_apart one.what) between ≡ true → apart_since base ≡ Some since
    → apart_since (between ++ base) ≡ Some since
apart_in since [] base leaves is = is
apart_in since (event ∷ between) base leaves is =
    let both = and_parts (leaves_apart event.what) (list_all (λ one. leaves_apart one.what) between) leaves in
    still_apart event.what event.at since (apart_since (between ++ base)) both.0 (apart_in since between base both.1 is)

some : (n : ℕ) → min most (n + 1) ≢ 0
some n e = omega arith

pub odd_after_ten_seconds : OddAfterTenSeconds
odd_after_ten_seconds move apart agree seen repeats past between agrees shows leaves moves made =
    let all : List Event = between ++ apart ∷ (agree ∷ past) in
    let begun : apart_since (apart ∷ (agree ∷ past)) ≡ Some apart.at =
    ap (λ what. apart_by what apart.at (apart_by agree.what agree.at (apart_since past))) shows
    ∙ ap (λ what. apart_by (Shows seen) apart.at (apart_by what agree.at (apart_since past))) agrees in
    let since : apart_since all ≡ Some apart.at = apart_in apart.at between (apart ∷ (agree ∷ past)) leaves begun in
    let told : odd (move ∷ all) ≡ (if nat_le (apart.at + 10000) move.at then min most (odd all + 1) else 0) =
    ap (λ what. odd_by what move.is_added (has_lasted wrong move.at (apart_since all)) (odd all)) moves
    ∙ ap (λ b. if b then 0 else if has_lasted wrong move.at (apart_since all) then min most (odd all + 1) else 0) made
    ∙ ap (λ o. if has_lasted wrong move.at o then min most (odd all + 1) else 0) since in (
      (λ late e. some (odd all) (sym (told ∙ ap (λ b. if b then min most (odd all + 1) else 0) (le-leb (apart.at + 10000) move.at late)) ∙ e)),
      (λ low. told ∙ ap (λ b. if b then min most (odd all + 1) else 0) (lt-leb (apart.at + 10000) move.at low)),
    )
