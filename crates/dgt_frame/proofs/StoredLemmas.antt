-- The message of a frame whose data is stored.
use Rattle.std.proofs.Common.{◌≡◌, ◌≤◌, ◌+◌, ◌*◌, ℕ, List, [], ◌∷◌, length, take, slice_index, refl, ap, ◌∙◌, take_all, eq-eqb, inl, inr, arith}
use Rattle.std.proofs.lemmas.Bool.{cases_eq, ne_eqb}
use Rattle.dgt_frame.specs.Layout.{IsHeader, FitsData}
use Rattle.dgt_frame.specs.Frames.{Frame}
use Rattle.dgt_frame.specs.Inside.Stored.{message_stored}
use Rattle.dgt_frame.specs.declared.events.Message.TheVariants.{Dump, Update, Time}
use Rattle.dgt_frame.proofs.FrameLemmas.{whole_dump, whole_other, whole_time}

dump_stored : (id high low size : ℕ) (body stored : List ℕ) → id ≡ 0x86 → length stored ≡ 64 → IsHeader id high low size → FitsData id 0 body → length body + 3 ≡ size
    → (length body ≤ 64 → body ≡ take (length body) stored) → Frame (Dump stored) (id ∷ high ∷ low ∷ body)
dump_stored id high low size body stored is len header fits whole kept =
    let size_is : size ≡ 67 = (rw is at header.4.1) (omega arith) in
    let full : length body ≡ 64 = omega arith in
    let body_is : body ≡ stored = kept (omega arith) ∙ rw full (take_all 64 stored (omega arith)) in
    let h : IsHeader 0x86 high low size = rw is at header in
    let f : FitsData 0x86 0 body = rw is at fits in
    let frame : Frame (Dump body) (0x86 ∷ high ∷ low ∷ body) = whole_dump high low size body h f whole in
    rw (is, ← body_is) frame

front_two : (stored : List ℕ) → 2 ≤ length stored → take 2 stored ≡ slice_index stored 0 ∷ slice_index stored 1 ∷ []
front_two [] long = absurd (omega arith)
front_two (a ∷ []) long = absurd (omega arith)
front_two (a ∷ b ∷ rest) long = refl

front_seven : (stored : List ℕ) → 7 ≤ length stored → take 7 stored ≡ slice_index stored 0 ∷ slice_index stored 1 ∷ slice_index stored 2 ∷ slice_index stored 3
    ∷ slice_index stored 4 ∷ slice_index stored 5 ∷ slice_index stored 6 ∷ []
front_seven [] long = absurd (omega arith)
front_seven (a ∷ []) long = absurd (omega arith)
front_seven (a ∷ b ∷ []) long = absurd (omega arith)
front_seven (a ∷ b ∷ c ∷ []) long = absurd (omega arith)
front_seven (a ∷ b ∷ c ∷ d ∷ []) long = absurd (omega arith)
front_seven (a ∷ b ∷ c ∷ d ∷ e ∷ []) long = absurd (omega arith)
front_seven (a ∷ b ∷ c ∷ d ∷ e ∷ f ∷ []) long = absurd (omega arith)
front_seven (a ∷ b ∷ c ∷ d ∷ e ∷ f ∷ g ∷ rest) long = refl

update_whole : (high low size field code : ℕ) → IsHeader 0x8E high low size → FitsData 0x8E 0 (field ∷ code ∷ []) → Frame (Update field code) (0x8E ∷ high ∷ low ∷ field ∷ code ∷ [])
update_whole high low size field code header fits =
    let high_is : high ≡ 0 = header.1.1 (omega arith) in
    let size_is : size ≡ 5 = header.4.1 (omega arith) in
    let sum_is : size ≡ 128 * high + low = header.3 in
    let low_is : low ≡ 5 = omega arith in
    (rw (high_is, low_is) refl, fits.0, fits.1.0)

update_stored : (id high low size : ℕ) (body stored : List ℕ) → id ≡ 0x8E → length stored ≡ 64 → IsHeader id high low size → FitsData id 0 body → length body + 3 ≡ size
    → (length body ≤ 64 → body ≡ take (length body) stored) → Frame (Update (slice_index stored 0) (slice_index stored 1)) (id ∷ high ∷ low ∷ body)
update_stored id high low size body stored is len header fits whole kept =
    let h : IsHeader 0x8E high low size = rw is at header in
    let size_is : size ≡ 5 = h.4.1 (omega arith) in
    let two : length body ≡ 2 = omega arith in
    let body_is : body ≡ slice_index stored 0 ∷ slice_index stored 1 ∷ [] = kept (omega arith) ∙ ap (λ n. take n stored) two ∙ front_two stored (omega arith) in
    let f : FitsData 0x8E 0 (slice_index stored 0 ∷ slice_index stored 1 ∷ []) = rw (is, body_is) at fits in
    rw (is, body_is) (update_whole high low size (slice_index stored 0) (slice_index stored 1) h f)

time_stored : (id high low size : ℕ) (body stored : List ℕ) → id ≡ 0x8D → length stored ≡ 64 → IsHeader id high low size → FitsData id 0 body → length body + 3 ≡ size
    → (length body ≤ 64 → body ≡ take (length body) stored)
    → Frame (Time (slice_index stored 0 ∷ slice_index stored 1 ∷ slice_index stored 2 ∷ slice_index stored 3 ∷ slice_index stored 4 ∷ slice_index stored 5 ∷ slice_index stored 6 ∷ []))
    (id ∷ high ∷ low ∷ body)
time_stored id high low size body stored is len header fits whole kept =
    let h : IsHeader 0x8D high low size = rw is at header in
    let size_is : size ≡ 10 = h.4.1 (omega arith) in
    let seven : length body ≡ 7 = omega arith in
    let times = slice_index stored 0 ∷ slice_index stored 1 ∷ slice_index stored 2 ∷ slice_index stored 3 ∷ slice_index stored 4 ∷ slice_index stored 5 ∷ slice_index stored 6 ∷ [] in
    let body_is : body ≡ times = kept (omega arith) ∙ ap (λ n. take n stored) seven ∙ front_seven stored (omega arith) in
    let f : FitsData 0x8D 0 times = rw (is, body_is) at fits in
    rw (is, body_is) (whole_time high low size times h f (omega arith))

-- It is what the frame says.
pub frame_stored : (id high low size : ℕ) (body stored : List ℕ) → length stored ≡ 64 → IsHeader id high low size → FitsData id 0 body → length body + 3 ≡ size
    → (length body ≤ 64 → body ≡ take (length body) stored) → Frame (message_stored id size stored) (id ∷ high ∷ low ∷ body)
frame_stored id high low size body stored long header fits whole kept = elim (cases_eq id 0x86) [
  | inl e ↦ rw (eq-eqb id 0x86 e) (dump_stored id high low size body stored e long header fits whole kept)
  | inr no_dump ↦ elim (cases_eq id 0x8E) [
    | inl e ↦ rw (ne_eqb id 0x86 no_dump, eq-eqb id 0x8E e) (update_stored id high low size body stored e long header fits whole kept)
    | inr no_update ↦ elim (cases_eq id 0x8D) [
      | inl e ↦ rw (ne_eqb id 0x86 no_dump, ne_eqb id 0x8E no_update, eq-eqb id 0x8D e) (time_stored id high low size body stored e long header fits whole kept)
      | inr no_time ↦ rw (ne_eqb id 0x86 no_dump, ne_eqb id 0x8E no_update, ne_eqb id 0x8D no_time) (whole_other id high low size body no_dump no_update no_time header fits whole)
    ]
  ]
]
