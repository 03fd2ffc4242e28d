-- The picture that was seen last, and the events of bytes that are taken one by one.
use Rattle.std.proofs.Common.{◌≡◌, ◌⊎◌, inl, inr, ℕ, Bool, true, false, if◌then◌else◌, List, [], ◌∷◌, ◌++◌, map, reverse, Option, Some, None, is_some, refl, sym, ap, ◌∙◌}
use Rattle.std.proofs.lemmas.Slice.Eq.{bytes_eq-Decides}
use Rattle.std.proofs.lemmas.List.{map-append, reverse-append}
use Rattle.dgt_frame.specs.declared.events.Event.{Event}
use Rattle.dgt_frame.specs.declared.First.{First}
use Rattle.dgt_frame.specs.declared.First.TheVariants.{White}
use Rattle.dgt_frame.specs.Streams.{Timed}
use Rattle.settle_core.specs.Entries.{Entry, deduplicated, last_picture, repeats}
use Rattle.board_events.specs.Commands.{past_of}
use Rattle.board_events.specs.Entries.{entries, entry_at, is_entry}
use Rattle.board_events.specs.declared.view.Change.{Change}
use Rattle.board_events.specs.declared.view.Change.TheVariants.{Nothing, Square, Picture}
use Rattle.board_events.specs.Pictures.{ChangesPictures, IsLast, pictures}

abbrev first_of : List (List ℕ) → Option (List ℕ)
first_of [] = None
first_of (x ∷ xs) = Some x

one_more : (is : Bool) (a b : Entry) (xs ys : List Entry) → a.picture ≡ b.picture → last_picture xs ≡ last_picture ys
    → last_picture (if is then a ∷ xs else xs) ≡ last_picture (if is then b ∷ ys else ys)
one_more true a b xs ys h k = ap (λ (p : List ℕ). Some p) h
one_more false a b xs ys h k = k

-- whichever group is whose
last_any : (f g : First) (rotated : Bool) (past : List Event) → last_picture (entries f rotated past) ≡ last_picture (entries g rotated past)
last_any f g rotated [] = refl
last_any f g rotated (event ∷ past) = one_more (is_entry event past) (entry_at f rotated (event ∷ past)) (entry_at g rotated (event ∷ past))
    (entries f rotated past) (entries g rotated past) refl (last_any f g rotated past)

repeated : (picture : List ℕ) (xs : List Entry) → repeats picture xs ≡ true → last_picture xs ≡ Some picture
repeated picture [] h = absurd cc
repeated picture (x ∷ xs) h = ap (λ (p : List ℕ). Some p) (sym ((bytes_eq-Decides picture x.picture).0 h))

kept_or : (x : Entry) (xs : List Entry) (same : Bool) → repeats x.picture xs ≡ same → last_picture (deduplicated xs) ≡ last_picture xs
    → last_picture (if same then deduplicated xs else x ∷ deduplicated xs) ≡ Some x.picture
kept_or x xs true e h = h ∙ repeated x.picture xs e
kept_or x xs false e h = refl

last_kept : (xs : List Entry) → last_picture (deduplicated xs) ≡ last_picture xs
last_kept [] = refl
last_kept (x ∷ xs) = kept_or x xs (repeats x.picture xs) refl (last_kept xs)

first_shown : (xs : List Entry) → first_of (map (λ (entry : Entry). entry.picture) xs) ≡ last_picture xs
first_shown [] = refl
first_shown (x ∷ xs) = refl

pub last_shown : (first : First) (rotated : Bool) (past : List Event) → first_of (pictures rotated past) ≡ last_picture (entries first rotated past)
last_shown first rotated past =
    first_shown (deduplicated (entries White rotated past)) ∙ last_kept (entries White rotated past) ∙ last_any White first rotated past

pub same_shown : (first : First) (rotated : Bool) (past : List Event) (event : Event) → pictures rotated (event ∷ past) ≡ pictures rotated past
    → last_picture (entries first rotated (event ∷ past)) ≡ last_picture (entries first rotated past)
same_shown first rotated past event h = sym (last_shown first rotated (event ∷ past)) ∙ ap first_of h ∙ last_shown first rotated past

pub some_shown : (first : First) (rotated : Bool) (past : List Event) (picture : List ℕ) (earlier : List (List ℕ)) → pictures rotated past ≡ picture ∷ earlier
    → is_some (last_picture (entries first rotated past)) ≡ true
some_shown first rotated past picture earlier h = ap (λ (o : Option (List ℕ)). is_some o) (sym (last_shown first rotated past) ∙ ap first_of h)

pub more_shown : (first : First) (rotated : Bool) (past : List Event) (event : Event) (change : Change)
    → ((square code : ℕ) × (change ≡ Square square code)) ⊎ (change ≡ Picture) → ChangesPictures change (pictures rotated past) (pictures rotated (event ∷ past))
    → is_some (last_picture (entries first rotated (event ∷ past))) ≡ true
more_shown first rotated past event Nothing (inl h) k = absurd (let e = h.2 in cc)
more_shown first rotated past event Nothing (inr h) k = absurd cc
more_shown first rotated past event (Square square code) h k = some_shown first rotated (event ∷ past) _ _ k.3
more_shown first rotated past event Picture h k = some_shown first rotated (event ∷ past) _ _ k.1

is_first : (picture : List ℕ) (ps : List (List ℕ)) (last : Option (List ℕ)) → first_of ps ≡ last → is_some last ≡ true → IsLast picture ps → last ≡ Some picture
is_first picture [] last h k l = absurd (let e = ap (λ (o : Option (List ℕ)). is_some o) h in let never : false ≡ true = e ∙ k in cc)
is_first picture (p ∷ ps) last h k l = sym h ∙ ap (λ (x : List ℕ). Some x) (sym l)

pub is_last : (first : First) (rotated : Bool) (past : List Event) (picture : List ℕ) → is_some (last_picture (entries first rotated past)) ≡ true
    → IsLast picture (pictures rotated past) → last_picture (entries first rotated past) ≡ Some picture
is_last first rotated past picture k l = is_first picture (pictures rotated past) _ (last_shown first rotated past) k l

pub is_none : (last : Option (List ℕ)) → is_some last ≡ false → last ≡ None
is_none None h = refl
is_none (Some x) h = absurd cc

pub past_more : (events : List Timed) (offset : ℕ) (event : Event) → past_of (events ++ record { offset = offset; event = event } ∷ []) ≡ event ∷ past_of events
past_more events offset event =
    ap (λ (es : List Event). reverse es) (map-append (λ (t : Timed). t.event) events (record { offset = offset; event = event } ∷ []))
    ∙ reverse-append (map (λ (t : Timed). t.event) events) (event ∷ [])
