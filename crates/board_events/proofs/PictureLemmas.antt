-- What a dump and an update make of the picture.
use Rattle.std.proofs.Common.{inl, inr, ◌≡◌, ◌≢◌, ℕ, ◌-◌, ◌<◌, Bool, true, false, List, ◌∷◌, length, reverse, set, get_or, get_or-set_same, get_or-set_other, refl, sym, ap, arith, ◌∙◌, slice_set}
use Rattle.std.proofs.lemmas.List.{get_or-reverse, length-reverse, length-set}
use Rattle.std.proofs.lemmas.List.FromFn.{get_or-map-range_with_len, length-map-range_with_len}
use Rattle.std.proofs.lemmas.Bool.Decides.{eqb_tells}
use Rattle.std.proofs.lemmas.Grind.{same_number_lists}
use Rattle.dgt_frame.specs.declared.events.Message.TheVariants.{Dump, Update}
use Rattle.dgt_frame.specs.declared.events.Event.{Event}
use Rattle.dgt_frame.specs.declared.events.Event.TheVariants.{Message as MessageEvent}
use Rattle.board_events.specs.History.{code_of_field, picture_of, turned}

pub picture_at : (rotated : Bool) (past : List Event) (square : ℕ) → square < 64
    → get_or (picture_of rotated past) square 0 ≡ code_of_field (turned rotated square) past
unfolding picture_of
picture_at rotated past square h = get_or-map-range_with_len (λ n. code_of_field (turned rotated n) past) 0 64 square square 0 h (omega arith)

pub length-picture_of : (rotated : Bool) (past : List Event) → length (picture_of rotated past) ≡ 64
unfolding picture_of
length-picture_of rotated past = length-map-range_with_len (λ n. code_of_field (turned rotated n) past) 0 64

pub picture_is : (rotated : Bool) (past : List Event) (picture : List ℕ) → length picture ≡ 64
    → ((square : ℕ) → square < 64 → get_or picture square 0 ≡ code_of_field (turned rotated square) past) → picture ≡ picture_of rotated past
picture_is rotated past picture size same = same_number_lists picture (picture_of rotated past) (size ∙ sym (length-picture_of rotated past))
    (λ k h. let within : k < 64 = omega arith in same k within ∙ sym (picture_at rotated past k within))

pub plain_dump : (codes : List ℕ) (past : List Event) → length codes ≡ 64 → codes ≡ picture_of false (MessageEvent (Dump codes) ∷ past)
plain_dump codes past size = picture_is false (MessageEvent (Dump codes) ∷ past) codes size (λ square h. refl)

pub rotated_dump : (codes : List ℕ) (past : List Event) → length codes ≡ 64 → reverse codes ≡ picture_of true (MessageEvent (Dump codes) ∷ past)
rotated_dump codes past size = picture_is true (MessageEvent (Dump codes) ∷ past) (reverse codes) (length-reverse codes ∙ size)
    (λ square h. let within : square < length codes = omega arith in get_or-reverse codes square 0 within ∙ ap (λ n. get_or codes (n - 1 - square) 0) size)

pub turned_twice : (rotated : Bool) (n : ℕ) → n < 64 → turned rotated (turned rotated n) ≡ n
turned_twice true n h = omega arith
turned_twice false n h = refl

turned_within : (rotated : Bool) (n : ℕ) → n < 64 → turned rotated n < 64
turned_within true n h = omega arith
turned_within false n h = h

code_updated : (rotated : Bool) (field code square : ℕ) (past : List Event) → field < 64 → square < 64
    → get_or (set (picture_of rotated past) (turned rotated field) code) square 0 ≡ code_of_field (turned rotated square) (MessageEvent (Update field code) ∷ past)
code_updated rotated field code square past f s =
    elim (eqb_tells field (turned rotated square)) [
      | inl e ↦
          let at : square ≡ turned rotated field = sym (turned_twice rotated square s) ∙ ap (turned rotated) (sym e.1) in
          let inside : turned rotated field < length (picture_of rotated past) = rw (length-picture_of rotated past) (turned_within rotated field f) in
          rw (e.0, at) (get_or-set_same (picture_of rotated past) (turned rotated field) code 0 inside)
      | inr e ↦
          let other : square ≢ turned rotated field = λ same. e.1 (sym (turned_twice rotated field f) ∙ ap (turned rotated) (sym same)) in
          rw e.0 (get_or-set_other (picture_of rotated past) (turned rotated field) square code 0 other ∙ picture_at rotated past square s)
    ]

pub updated_picture : (rotated : Bool) (field code : ℕ) (past : List Event) → field < 64
    → slice_set (picture_of rotated past) (turned rotated field) code ≡ picture_of rotated (MessageEvent (Update field code) ∷ past)
updated_picture rotated field code past f = picture_is rotated (MessageEvent (Update field code) ∷ past) (slice_set (picture_of rotated past) (turned rotated field) code)
    (length-set (picture_of rotated past) (turned rotated field) code ∙ length-picture_of rotated past)
    (λ square s. code_updated rotated field code square past f s)
