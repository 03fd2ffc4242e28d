-- The game gets nothing of what another board has sent.
use Rattle.std.proofs.Common.{◌≡◌, ℕ, not, Bool, true, false, List, [], ◌∷◌, ◌++◌, Option, Some, None, refl, sym, ap, subst, ◌∙◌, append-nil, append_assoc}
use Rattle.std.specs.Prelude.{if◌then◌else◌}
use Rattle.std.specs.List.{list_all}
use Rattle.std.specs.Str.{bytes_eq}
use Rattle.std.proofs.lemmas.Bool.{and_parts}
use Rattle.board_cable.specs.declared.whose.Handling.{Handling}
use Rattle.board_cable.specs.declared.whose.Handling.TheVariants.{Hold, Keep, Other}
use Rattle.board_cable.specs.Whose.{awaited_at, dumps_since, handling_by, is_awaited, own_number, shown_number}
use Rattle.board_cable.specs.Keeping.{are_same, aside, ends_aside, ends_held, held, held_by, kept_by, owner, owner_by, released_by}
use Rattle.board_cable.specs.Laws.{AreSomeOf, OthersAreNotKept, all_kept, all_sent, owns}
use Rattle.board_cable.specs.Moments.{Moment, is_heard, sent, stream}
use Rattle.board_cable.specs.Turns.{Told, Turn, handling_of, request_of, told}
use Rattle.board_cable.proofs.Kept.{all_of, joined, none_of, through, unless_ended, within_limit}
use Rattle.board_cable.proofs.Owned.{own_asked, same_told}

-- What is handled as another board's isn't of the game's own.

differs_if : (same : Bool) (shown own number : List ℕ) → bytes_eq shown own ≡ same → (if same then Keep else Other shown) ≡ Other number → bytes_eq number own ≡ false
differs_if true shown own number e h = absurd (let never : Keep ≡ Other number = h in cc)
differs_if false shown own number e h =
    let other : Other shown ≡ Other number = h in
    let is : shown ≡ number = cc in
    ap (λ n. bytes_eq n own) (sym is) ∙ e

other_by : (awaited : Bool) (own shown : Option (List ℕ)) (number : List ℕ) → handling_by awaited own shown ≡ Other number
    → (mine : List ℕ) × (own ≡ Some mine) × (are_same (Some number) own ≡ false)
other_by true None shown number h = absurd (let never : Keep ≡ Other number = h in cc)
other_by false None shown number h = absurd (let never : Keep ≡ Other number = h in cc)
other_by true (Some mine) shown number h = absurd (let never : Hold ≡ Other number = h in cc)
other_by false (Some mine) None number h = absurd (let never : Keep ≡ Other number = h in cc)
other_by false (Some mine) (Some shown) number h = (mine, refl, differs_if (bytes_eq shown mine) shown mine number refl h)

other_of : (turn : Turn) (number : List ℕ) → handling_of turn ≡ Other number
    → (mine : List ℕ) × (own_number turn.now ≡ Some mine) × (are_same (Some number) (own_number turn.now) ≡ false)
other_of turn number h =
    other_by (is_awaited turn.moment.at (awaited_at turn.now) (dumps_since turn.now)) (own_number turn.now) (shown_number turn.now) number h

-- What is kept aside stays another board's.
still_other : (handling : Handling) (before own : Option (List ℕ)) → are_same before own ≡ false
    → ((number : List ℕ) → handling ≡ Other number → are_same (Some number) own ≡ false) → are_same (owner_by handling before) own ≡ false
still_other Keep before own h other = refl
still_other Hold before own h other = h
still_other (Other number) before own h other = other number refl

not_given : (handling : Handling) (own before : Option (List ℕ)) (k a h h0 s w : List ℕ) → are_same before own ≡ false → AreSomeOf h h0
    → AreSomeOf (k ++ h0) w → AreSomeOf ((k ++ kept_by handling (released_by handling own before a h) s) ++ held_by handling (h ++ s)) (w ++ s)
not_given Keep own before k a h h0 s w other p r =
    let some : AreSomeOf (k ++ h) w = through (k ++ h) (k ++ h0) w (joined k k h h0 (all_of k) p) r in
    let all : AreSomeOf ((k ++ h) ++ s) (w ++ s) = joined (k ++ h) w s s some (all_of s) in
    let moved : AreSomeOf (k ++ (h ++ s)) (w ++ s) = subst (λ xs. AreSomeOf xs (w ++ s)) (append_assoc k h s) all in
    let given : AreSomeOf (k ++ (((if are_same before own then a else []) ++ h) ++ s)) (w ++ s) =
    subst (λ (b : Bool). AreSomeOf (k ++ (((if b then a else []) ++ h) ++ s)) (w ++ s)) (sym other) moved in
    subst (λ xs. AreSomeOf xs (w ++ s)) (sym (append-nil (k ++ (((if are_same before own then a else []) ++ h) ++ s)))) given
not_given Hold own before k a h h0 s w other p r =
    let some : AreSomeOf (k ++ h) w = through (k ++ h) (k ++ h0) w (joined k k h h0 (all_of k) p) r in
    let all : AreSomeOf ((k ++ h) ++ s) (w ++ s) = joined (k ++ h) w s s some (all_of s) in
    let moved : AreSomeOf (k ++ (h ++ s)) (w ++ s) = subst (λ xs. AreSomeOf xs (w ++ s)) (append_assoc k h s) all in
    let within = through (k ++ held_by Hold (h ++ s)) (k ++ (h ++ s)) (w ++ s) (joined k k (held_by Hold (h ++ s)) (h ++ s) (all_of k) (within_limit (h ++ s))) moved in
    subst (λ xs. AreSomeOf (xs ++ held_by Hold (h ++ s)) (w ++ s)) (sym (append-nil k)) within
not_given (Other number) own before k a h h0 s w other p r =
    let some : AreSomeOf (k ++ []) w = through (k ++ []) (k ++ h0) w (joined k k [] h0 (all_of k) (none_of h0)) r in
    let all : AreSomeOf ((k ++ []) ++ []) (w ++ s) = joined (k ++ []) w [] s some (none_of s) in
    all

-- The turns since the one at which the board was another one.
abbrev Since : List Turn → List Turn → List ℕ → Type 0
Since since base mine = (own_number (told (since ++ base)) ≡ Some mine) × (are_same (owner (since ++ base)) (Some mine) ≡ false)
    × AreSomeOf (all_kept since base ++ held (since ++ base)) (all_sent since)

since_more : (m : Moment) (past : List Moment) (turn : Turn) (since base : List Turn) (mine : List ℕ) → Told (m ∷ past) (turn ∷ (since ++ base))
    → not (owns turn.moment.what) ≡ true → Since since base mine → Since (turn ∷ since) base mine
since_more m past turn since base mine h stays so =
    let turns = since ++ base in
    let stays_m : not (owns m.what) ≡ true = subst (λ (one : Moment). not (owns one.what) ≡ true) h.1 stays in
    let own : own_number turn.now ≡ Some mine = same_told (is_heard m.what) m (stream past) mine (told turns) turn.now h.2 stays_m so.0 in
    let other : are_same (owner turns) (own_number turn.now) ≡ false = ap (λ o. are_same (owner turns) o) own ∙ so.1 in (
      own_asked turn.moment.at (request_of turn) turn.now ∙ own,
      still_other (handling_of turn) (owner turns) (Some mine) so.1
          (λ number is. ap (λ o. are_same (Some number) o) (sym own) ∙ (other_of turn number is).2),
      not_given (handling_of turn) (own_number turn.now) (owner turns) (all_kept since base) (if ends_aside turn.moment.what then [] else aside turns)
          (if ends_held turn.moment.what then [] else held turns) (held turns) (sent turn.moment) (all_sent since) other
          (unless_ended (ends_held turn.moment.what) (held turns)) so.2,
    )

since_all : (past : List Moment) (turn : Turn) (since before : List Turn) (number mine : List ℕ) → Told past (since ++ turn ∷ before)
    → handling_of turn ≡ Other number → own_number turn.now ≡ Some mine → are_same (Some number) (Some mine) ≡ false
    → list_all (λ (one : Turn). not (owns one.moment.what)) since ≡ true → Since since (turn ∷ before) mine
since_all past turn [] before number mine h is own other stays = (
  own_asked turn.moment.at (request_of turn) turn.now ∙ own,
  ap (λ handling. are_same (owner_by handling (owner before)) (Some mine)) is ∙ other,
  subst (λ xs. AreSomeOf xs []) (sym (ap (λ handling. held_by handling ((if ends_held turn.moment.what then [] else held before) ++ sent turn.moment)) is)) tt,
)
since_all [] turn (last ∷ since) before number mine h is own other stays = absurd h
since_all (m ∷ past) turn (last ∷ since) before number mine h is own other stays =
    let both = and_parts (not (owns last.moment.what)) (list_all (λ (one : Turn). not (owns one.moment.what)) since) stays in
    since_more m past last since (turn ∷ before) mine h both.0 (since_all past turn since before number mine h.0 is own other both.1)

pub not_kept : OthersAreNotKept
not_kept past turn since before number h is stays =
    let found = other_of turn number is in
    let base = turn ∷ before in
    let other : are_same (Some number) (Some found.0) ≡ false = ap (λ o. are_same (Some number) o) (sym found.1) ∙ found.2 in
    let so = since_all past turn since before number found.0 h is found.1 other stays in
    through (all_kept since base) (all_kept since base ++ held (since ++ base)) (all_sent since)
    (subst (λ xs. AreSomeOf xs (all_kept since base ++ held (since ++ base))) (append-nil (all_kept since base))
    (joined (all_kept since base) (all_kept since base) [] (held (since ++ base)) (all_of (all_kept since base)) (none_of (held (since ++ base)))))
    so.2
