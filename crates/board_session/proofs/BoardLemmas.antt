-- The pictures of an honest board.
use Rattle.std.proofs.Common.{◌≡◌, ℕ, Bool, true, false, List, [], ◌∷◌, ◌++◌, map, reverse, length, slice_set, refl, sym, ap, subst, ◌∙◌}
use mathlib.Core.List.{reverse_aux}
use Rattle.std.proofs.lemmas.List.{reverse-reverse}
use Rattle.dgt_frame.specs.declared.events.Message.TheVariants.{Dump, Update, Time, Other}
use Rattle.dgt_frame.specs.declared.events.Event.{Event}
use Rattle.dgt_frame.specs.declared.events.Event.TheVariants.{Message as MessageEvent, Fault}
use Rattle.dgt_frame.specs.declared.First.{First}
use Rattle.settle_core.specs.Entries.{Entry}
use Rattle.settle_core.proofs.Resuming.{onto}
use Rattle.board_events.specs.History.{is_trusted, picture_of, turned, codes_by_field}
use Rattle.board_session.specs.HonestBoard.{HonestBoardsAreRead, SendsOn, pictures_in}
use Rattle.board_events.proofs.PictureLemmas.{plain_dump, rotated_dump, updated_picture}
use Rattle.board_events.proofs.TakeLemmas.{entries_updated}

after_time : (rotated : Bool) (times : List ℕ) (past : List Event) → picture_of rotated (MessageEvent (Time times) ∷ past) ≡ picture_of rotated past
unfolding picture_of
after_time rotated times past = refl

after_other : (rotated : Bool) (id size : ℕ) (past : List Event) → picture_of rotated (MessageEvent (Other id size) ∷ past) ≡ picture_of rotated past
unfolding picture_of
after_other rotated id size past = refl

sent_on : (first : First) (rotated : Bool) (past : List Event) (now : List ℕ) (pictures : List (List ℕ)) (events : List Event)
    → is_trusted past ≡ true → picture_of rotated past ≡ now → SendsOn rotated now pictures events
    → pictures_in first rotated (reverse_aux events past) ≡ reverse_aux pictures (pictures_in first rotated past)
sent_on first rotated past now pictures [] t shows h = ap (λ (ps : List (List ℕ)). reverse_aux ps (pictures_in first rotated past)) (sym h)
sent_on first rotated past now pictures (MessageEvent (Update field code) ∷ events) t shows h =
    let update : Event = MessageEvent (Update field code) in
    let is : picture_of rotated (update ∷ past) ≡ h.0 =
    sym (updated_picture rotated field code past h.3) ∙ ap (λ (p : List ℕ). slice_set p (turned rotated field) code) shows ∙ sym h.4 in
    let more : pictures_in first rotated (reverse_aux events (update ∷ past)) ≡ reverse_aux h.1 (pictures_in first rotated (update ∷ past)) =
    sent_on first rotated (update ∷ past) h.0 h.1 events t is h.5 in
    let here : pictures_in first rotated (update ∷ past) ≡ h.0 ∷ pictures_in first rotated past =
    ap (map (λ (entry : Entry). entry.picture)) (entries_updated first rotated field code past t)
    ∙ ap (λ (p : List ℕ). p ∷ pictures_in first rotated past) is in
    more ∙ ap (reverse_aux h.1) here ∙ ap (λ (ps : List (List ℕ)). reverse_aux ps (pictures_in first rotated past)) (sym h.2)
sent_on first rotated past now pictures (MessageEvent (Dump codes) ∷ events) t shows h = absurd h
sent_on first rotated past now pictures (MessageEvent (Time times) ∷ events) t shows h =
    sent_on first rotated (MessageEvent (Time times) ∷ past) now pictures events t (after_time rotated times past ∙ shows) h
sent_on first rotated past now pictures (MessageEvent (Other id size) ∷ events) t shows h =
    sent_on first rotated (MessageEvent (Other id size) ∷ past) now pictures events t (after_other rotated id size past ∙ shows) h
sent_on first rotated past now pictures (Fault kind ∷ events) t shows h = absurd h

dumped : (rotated : Bool) (picture : List ℕ) (past : List Event) → length picture ≡ 64
    → picture_of rotated (MessageEvent (Dump (codes_by_field rotated picture)) ∷ past) ≡ picture
dumped false picture past size = sym (plain_dump picture past size)
dumped true picture past size =
    sym (rotated_dump (reverse picture) past (Rattle.std.proofs.lemmas.List.length-reverse picture ∙ size)) ∙ reverse-reverse picture

pub honest_boards_are_read : HonestBoardsAreRead
honest_boards_are_read first rotated past events picture pictures h =
    let dump : Event = MessageEvent (Dump (codes_by_field rotated picture)) in
    let is : picture_of rotated (dump ∷ past) ≡ picture = dumped rotated picture past h.squares in
    let P : List Event → Type 0 = λ es. pictures_in first rotated (reverse es ++ past) ≡ reverse (picture ∷ pictures) ++ pictures_in first rotated past in
    let order : pictures_in first rotated (reverse (dump ∷ h.later) ++ past) ≡ pictures_in first rotated (reverse_aux h.later (dump ∷ past)) =
    ap (pictures_in first rotated) (sym (onto (dump ∷ h.later) past)) in
    let sent : pictures_in first rotated (reverse_aux h.later (dump ∷ past)) ≡ reverse_aux pictures (pictures_in first rotated (dump ∷ past)) =
    sent_on first rotated (dump ∷ past) picture pictures h.later refl is h.goes_on in
    let here : pictures_in first rotated (dump ∷ past) ≡ picture ∷ pictures_in first rotated past =
    ap (λ (p : List ℕ). p ∷ pictures_in first rotated past) is in
    subst P (sym h.are) (order ∙ sent ∙ ap (reverse_aux pictures) here ∙ onto (picture ∷ pictures) (pictures_in first rotated past))
