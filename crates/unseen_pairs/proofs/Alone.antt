-- Honest hands are left alone: over a line of moves no pair is confirmed.
use Rattle.std.proofs.Common.{◌≡◌, ◌⊎◌, ℕ, Bool, true, false, inl, inr, List, [], ◌∷◌, cond, drop, reverse, refl, sym, ap, subst, ◌∙◌}
use mathlib.Core.List.{reverse_aux}
use Rattle.std.specs.Str.{bytes_eq}
use Rattle.std.proofs.lemmas.Slice.Eq.{bytes_eq-Decides}
use Rattle.std.proofs.lemmas.Bool.{cases_Bool, cond-true, cond-false, both_ways}
use Rattle.chess_rules.specs.declared.chess_move.Move.{Move}
use Rattle.chess_rules.specs.declared.parts.Parts.{Parts}
use Rattle.chess_rules.specs.Board.{other}
use Rattle.chess_rules.specs.After.{after}
use Rattle.chess_rules.specs.Legal.{Legal}
use Rattle.chess_rules.specs.Valid.{Valid}
use Rattle.chess_rules.specs.Picture.{picture}
use Rattle.chess_rules.proofs.LawLemmas.{moves_stay_valid, pictures_tell_moves}
use Rattle.chess_rules.proofs.Shifts.{on_board}
use Rattle.settle_core.specs.declared.plies.Seen.{Seen}
use Rattle.settle_core.specs.declared.plies.Seen.TheVariants.{Same, Moved, Sign, Replaced, Waits}
use Rattle.settle_core.specs.Entries.{Entry, deduplicated, repeats}
use Rattle.settle_core.specs.Settling.{Line, Played, Settles, reached}
use Rattle.settle_core.specs.Folding.{Replaces, Score, SeenAs, moves_of}
use Rattle.settle_core.specs.HonestPlay.{ShowsNoMore}
use Rattle.settle_core.specs.Laws.{joined}
use Rattle.settle_core.proofs.Apart.{apart_unless, apart_valid, kings_apart_under_way, no_sign_valid}
use Rattle.settle_core.proofs.Hands.{lacking_no_picture, lacking_no_sign, no_sign_apart}
use Rattle.settle_core.proofs.Lines.{reverse_aux-append}
use Rattle.settle_core.proofs.Pieces.{no_new_after, no_new_partial, settles_end, shown_on, shown_still}
use Rattle.settle_core.proofs.Stages.{EndsAt, lacking_replaces, no_replace, valid_reached}
use Rattle.settle_core.proofs.Lists.{moves_of_drop}
use Rattle.unseen_pairs.specs.declared.pair.Recovery.{Recovery}
use Rattle.unseen_pairs.specs.declared.pair.SeenOrRecovered.{SeenOrRecovered}
use Rattle.unseen_pairs.specs.declared.pair.SeenOrRecovered.TheVariants.{Shown, Recovered}
use Rattle.unseen_pairs.specs.Pairs.{BringsNew, Confirms, Explains, GoesOn, IsAfterTwo, IsInstead, ends, root}
use Rattle.unseen_pairs.specs.Recovering.{FoldsRecovering, TellsAs, score_told, waiting_after}
use Rattle.unseen_pairs.specs.Laws.{ConfirmNone}
use Rattle.unseen_pairs.specs.HonestHands.{EachShownByHand, HonestHandsAreLeftAlone, HonestHandsConfirmNone, IsOnTheWay, IsOnTheWayOrLacksKing, PlainHandsAreOnTheWay, ShownByHand}
use Rattle.unseen_pairs.specs.HandsAtRest.{IsAtRest}
use Rattle.unseen_pairs.proofs.OnTheWay.{no_correction, no_own_pair, no_reply_pair, no_reply_settles, own_shows_no_more, reply_shows_no_more}
use Rattle.unseen_pairs.proofs.Recovered.{nothing_put_in}
use Rattle.unseen_pairs.proofs.Resting.{AllAre, IsResting, LastStays, Rests, are_unless, last_stays, none_are, none_new, shows_no_more, stay_settles}

-- the picture of a position does not lack a king
on_the_way : (p : Parts) (m : Move) (q : Parts) (seen : List ℕ) → Valid q → seen ≡ picture q → IsOnTheWayOrLacksKing p m seen → IsOnTheWay p m seen
on_the_way p m q seen v e (inl h) = h
on_the_way p m q seen v e (inr lacks) = absurd (lacking_no_picture q seen v lacks e)

-- the picture after the move is on the way to it
whole : (p : Parts) (m : Move) (seen : List ℕ) → Valid p → Legal p m → seen ≡ picture (after p m) → IsOnTheWay p m seen
whole p m seen v l e =
    record {
      nowhere_else = no_new_after p m seen v l e;
      theirs = λ s k h. shown_on (after p m) seen s _ k e h.1;
      own = λ off s k h. shown_on (after p m) seen s _ k e h.1;
      kings = apart_unless seen (after p m).side (apart_valid (after p m) seen (moves_stay_valid p m v l) e);
    }

-- so is each picture of hands that do nothing but the move
pub plain : PlainHandsAreOnTheWay
plain p m seen v l q =
    record {
      nowhere_else = no_new_partial p m seen v l q;
      theirs = λ s k h. shown_still p m seen s (other p.side) k q (rw (← v.squares) (on_board p.board s (other p.side) k h.0)) h.0 h.1;
      own = λ off s k h. shown_still p m seen s p.side k q (rw (← v.squares) (on_board p.board s p.side k h.0)) h.0 h.1;
      kings = elim (cases_Bool (bytes_eq seen (picture (after p m)))) [
        | inl same ↦ let d = bytes_eq-Decides seen (picture (after p m)) in (whole p m seen v l (d.0 same)).kings
        | inr new ↦
            let d = bytes_eq-Decides seen (picture (after p m)) in
            kings_apart_under_way p m seen v l (record { way = inl q; not_yet = λ e. both_ways _ new (d.1 e) })
      ];
    }

-- what goes on is a move, with a piece on a new square
goes_by_move :
    (now p : Parts) (m : Move) (q : Parts) (seen : List ℕ) (a : Seen) → IsOnTheWayOrLacksKing p m seen → GoesOn now q seen a → (x : Move) × Settles q seen x × BringsNew now q seen
goes_by_move now p m q seen (Moved x) c h = (x, h.0, h.1)
goes_by_move now p m q seen (Sign o) (inl way) h = absurd (no_sign_apart seen way.kings q o h.0)
goes_by_move now p m q seen (Sign o) (inr lacks) h = absurd (lacking_no_sign q seen o lacks h.0)
goes_by_move now p m q seen (Replaced x) c h = absurd h
goes_by_move now p m q seen Same c h = absurd h
goes_by_move now p m q seen Waits c h = absurd h

valid_two : (p : Parts) (seen : List ℕ) (k n : Move) → Valid p → IsAfterTwo p seen k n → Valid (after (after p k) n)
valid_two p seen k n v two = moves_stay_valid (after p k) n (moves_stay_valid p k v two.first) two.second

-- where no move stands in the place of the one that is to come
pair_first :
    (start : Parts) (earlier : List Move) (m : Move) (corrects : Bool) (k n x : Move) (seen now : List ℕ)
    → Valid start → Played start earlier → Legal (reached start earlier) m
    → IsAfterTwo (reached start (root corrects earlier)) seen k n
    → (corrects ≡ true → IsInstead earlier k)
    → Settles (after (after (reached start (root corrects earlier)) k) n) now x
    → IsOnTheWayOrLacksKing (reached start earlier) m seen
    → IsOnTheWayOrLacksKing (reached start earlier) m now
    → ⊥
pair_first start earlier m false k n x seen now v h l two instead next a b =
    let p : Parts = reached start earlier in
    let w : Valid p = valid_reached start earlier v h in
    let u : Valid (after (after p k) n) = valid_two p seen k n w two in
    no_own_pair p m k n x seen now w l two.first two.second next.legal
    (on_the_way p m (after (after p k) n) seen u two.shows a) two.shows
    (on_the_way p m (after (after (after p k) n) x) now (moves_stay_valid (after (after p k) n) x u next.legal) next.shows b) next.shows
pair_first start [] m true k n x seen now v h l two instead next a b = instead refl
pair_first start (last ∷ before) m true k n x seen now v h l two instead next a b =
    let g : Parts = reached start before in
    let p : Parts = after g last in
    let w : Valid g = valid_reached start before v h.1 in
    let u : Valid (after (after g k) n) = valid_two g seen k n w two in
    instead refl
    (no_correction g last m k n x seen now w h.0 l two.first two.second next.legal
    (on_the_way p m (after (after g k) n) seen u two.shows a) two.shows
    (on_the_way p m (after (after (after g k) n) x) now (moves_stay_valid (after (after g k) n) x u next.legal) next.shows b) next.shows)

-- and where hands were at rest before
rest_first :
    (start : Parts) (earlier : List Move) (m : Move) (corrects : Bool) (k n x : Move) (seen now : List ℕ)
    → Valid start → Played start earlier → Legal (reached start earlier) m
    → IsAfterTwo (reached start (root corrects earlier)) seen k n
    → (corrects ≡ true → IsInstead earlier k)
    → Settles (after (after (reached start (root corrects earlier)) k) n) now x
    → IsAtRest (reached start earlier) seen
    → IsOnTheWayOrLacksKing (reached start earlier) m now
    → ¬ BringsNew (reached start earlier) (after (after (reached start (root corrects earlier)) k) n) now
rest_first start earlier m false k n x seen now v h l two instead next stay came new =
    let p : Parts = reached start earlier in
    let w : Valid p = valid_reached start earlier v h in
    let u : Valid (after (after p k) n) = valid_two p seen k n w two in
    let N : List ℕ → Type 0 = λ xs. ShowsNoMore p xs in
    let less : ShowsNoMore p (picture (after (after p k) n)) =
    subst N two.shows (shows_no_more p (after p k) n seen (moves_stay_valid p k w two.first) two.second two.shows stay) in
    elim new [
      | inl put ↦ none_new p (picture (after (after p k) n)) w less put
      | inr here ↦
          none_new p now w
          (own_shows_no_more p m k n x now w l two.first two.second next.legal less
          (on_the_way p m (after (after (after p k) n) x) now (moves_stay_valid (after (after p k) n) x u next.legal) next.shows came) next.shows) here
    ]
rest_first start [] m true k n x seen now v h l two instead next stay came new = absurd (instead refl)
rest_first start (last ∷ before) m true k n x seen now v h l two instead next stay came new =
    let g : Parts = reached start before in
    let p : Parts = after g last in
    let w : Valid g = valid_reached start before v h.1 in
    let wp : Valid p = moves_stay_valid g last w h.0 in
    let q : Parts = after (after g k) n in
    let u : Valid q = valid_two g seen k n w two in
    let N : List ℕ → Type 0 = λ xs. ShowsNoMore p xs in
    let less : ShowsNoMore p (picture q) =
    subst N two.shows (shows_no_more p (after g k) n seen (moves_stay_valid g k w two.first) two.second two.shows stay) in
    elim new [
      | inl put ↦ none_new p (picture q) wp less put
      | inr here ↦
          none_new p now wp
          (reply_shows_no_more p m q x now u next.legal refl less
          (on_the_way p m (after q x) now (moves_stay_valid q x u next.legal) next.shows came) next.shows) here
    ]

-- and where one does
pair_again :
    (start : Parts) (earlier : List Move) (m tried : Move) (corrects : Bool) (k n x : Move) (seen now : List ℕ)
    → Valid start → Played start earlier → Legal (reached start earlier) m → Legal (reached start earlier) tried
    → IsAfterTwo (reached start (root corrects (tried ∷ earlier))) seen k n
    → Settles (after (after (reached start (root corrects (tried ∷ earlier))) k) n) now x
    → IsOnTheWayOrLacksKing (reached start earlier) m seen
    → IsOnTheWayOrLacksKing (reached start earlier) m now
    → ⊥
pair_again start earlier m tried true k n x seen now v h l t two next a b =
    pair_first start earlier m false k n x seen now v h l two (λ e. absurd (let never : ⊥ = cc in never)) next a b
pair_again start earlier m tried false k n x seen now v h l t two next a b =
    let p : Parts = reached start earlier in
    let w : Valid p = valid_reached start earlier v h in
    let q : Parts = after (after (after p tried) k) n in
    let u : Valid q = valid_two (after p tried) seen k n (moves_stay_valid p tried w t) two in
    no_reply_pair p m tried k n x seen now w l t two.first two.second next.legal
    (on_the_way p m q seen u two.shows a) two.shows
    (on_the_way p m (after q x) now (moves_stay_valid q x u next.legal) next.shows b) next.shows

-- Another move stands in the place of the one that is to come.
record IsTried (p : Parts) (m : Move) (earlier now : List Move) : Type 0 where
  pub tried : Move
  pub is : now ≡ tried ∷ earlier
  pub legal : Legal p tried
  pub came : IsOnTheWay p m (picture (after p tried))

-- what may wait before the move: what may be seen up to it, or while no move is made
abbrev MayWait : Parts → Move → List ℕ → Type 0
MayWait p m seen = IsOnTheWayOrLacksKing p m seen ⊎ IsAtRest p seen

-- the moves that were told, and what waits, on the way to the move
abbrev IsUpTo : Parts → List Move → Move → List Move → List Entry → Type 0
IsUpTo start earlier m now waiting = ((now ≡ earlier) × AllAre (λ xs. MayWait (reached start earlier) m xs) waiting)
    ⊎ (IsTried (reached start earlier) m earlier now × AllAre (λ xs. IsOnTheWayOrLacksKing (reached start earlier) m xs) waiting)

-- what is known of the line so far, and of its next move
pub record IsNext (start : Parts) (earlier : List Move) (m : Move) : Type 0 where
  pub valid : Valid start
  pub played : Played start earlier
  pub legal : Legal (reached start earlier) m

pub now_valid : (start : Parts) (earlier : List Move) (m : Move) → IsNext start earlier m → Valid (reached start earlier)
now_valid start earlier m s = valid_reached start earlier s.valid s.played

-- no pair is confirmed
confirms_none :
    (start : Parts) (earlier : List Move) (m : Move) (now : List Move) (waiting : List Entry) (seen : List ℕ) (r : Recovery)
    → IsNext start earlier m
    → IsUpTo start earlier m now waiting
    → IsOnTheWayOrLacksKing (reached start earlier) m seen
    → ¬ Confirms start now waiting seen r
confirms_none start earlier m now waiting seen r s up came c =
    let p : Parts = reached start earlier in
    let next : (x : Move) × Settles (ends start now r.pair) seen x × BringsNew (reached start now) (ends start now r.pair) seen =
    goes_by_move (reached start now) p m (ends start now r.pair) seen r.sequel came c.goes_on in
    let E : List Move → Type 0 = λ ms. Explains start ms (c.entry).picture r.pair in
    let S : List Move → Type 0 = λ ms. Settles (ends start ms r.pair) seen next.0 in
    let N : List Move → Type 0 = λ ms. BringsNew (reached start ms) (ends start ms r.pair) seen in
    elim up [
      | inl e ↦
          let x : Explains start earlier (c.entry).picture r.pair = subst E e.0 (c.explains).explains in
          elim (e.1 c.place c.entry (c.explains).waits) [
            | inl before ↦
                pair_first start earlier m r.pair.corrects r.pair.first r.pair.second next.0 (c.entry).picture seen s.valid s.played s.legal
                x.after_two x.instead (subst S e.0 next.1) before came
            | inr stay ↦
                rest_first start earlier m r.pair.corrects r.pair.first r.pair.second next.0 (c.entry).picture seen s.valid s.played s.legal
                x.after_two x.instead (subst S e.0 next.1) stay came (subst N e.0 next.2)
          ]
      | inr t ↦
          let x : Explains start ((t.0).tried ∷ earlier) (c.entry).picture r.pair = subst E (t.0).is (c.explains).explains in
          pair_again start earlier m (t.0).tried r.pair.corrects r.pair.first r.pair.second next.0 (c.entry).picture seen s.valid s.played s.legal (t.0).legal
          x.after_two (subst S (t.0).is next.1) (t.1 c.place c.entry (c.explains).waits) came
    ]

-- no move of the position is settled where another one was tried
none_again :
    (start : Parts) (earlier : List Move) (m : Move) (now : List Move) (seen : List ℕ) (n : Move)
    → IsNext start earlier m
    → IsTried (reached start earlier) m earlier now
    → IsOnTheWayOrLacksKing (reached start earlier) m seen
    → ¬ Settles (reached start now) seen n
none_again start earlier m now seen n s t came h =
    let p : Parts = reached start earlier in
    let v : Valid p = now_valid start earlier m s in
    let S : List Move → Type 0 = λ ms. Settles (reached start ms) seen n in
    let k : Settles (after p t.tried) seen n = subst S t.is h in
    let w : Valid (after (after p t.tried) n) = moves_stay_valid (after p t.tried) n (moves_stay_valid p t.tried v t.legal) k.legal in
    no_reply_settles p m t.tried n seen v s.legal t.legal k.legal t.came (on_the_way p m (after (after p t.tried) n) seen w k.shows came) k.shows

-- no move is settled in the place of the last one before
none_instead :
    (start : Parts) (earlier : List Move) (m : Move) (seen : List ℕ) (n : Move)
    → IsNext start earlier m → IsOnTheWayOrLacksKing (reached start earlier) m seen → ¬ Replaces start earlier seen n
none_instead start earlier m seen n s (inl way) h = no_replace start earlier n seen s.valid s.played way.nowhere_else h
none_instead start earlier m seen n s (inr lacks) h = lacking_replaces start earlier seen n s.valid s.played lacks h

tried_now :
    (start : Parts) (earlier : List Move) (m : Move) (now : List Move) (seen : List ℕ) (n : Move)
    → IsNext start earlier m
    → IsOnTheWayOrLacksKing (reached start earlier) m seen
    → Settles (reached start earlier) seen n
    → now ≡ n ∷ earlier
    → IsTried (reached start earlier) m earlier now
tried_now start earlier m now seen n s came h is =
    let p : Parts = reached start earlier in
    let w : Valid (after p n) = moves_stay_valid p n (now_valid start earlier m s) h.legal in
    let W : List ℕ → Type 0 = λ q. IsOnTheWay p m q in
    record { tried = n; is = is; legal = h.legal; came = subst W h.shows (on_the_way p m (after p n) seen w h.shows came) }

-- one more entry
told_more :
    (start : Parts) (earlier : List Move) (m : Move) (score : Score) (waiting : List Entry) (entry : Entry) (told : SeenOrRecovered)
    → IsNext start earlier m
    → IsUpTo start earlier m (moves_of score.plies) waiting
    → IsOnTheWayOrLacksKing (reached start earlier) m entry.picture
    → TellsAs start (moves_of score.plies) waiting entry.picture told
    → IsUpTo start earlier m (moves_of (score_told start score entry.reading told).plies) (waiting_after start (moves_of score.plies) waiting entry told)
told_more start earlier m score waiting entry (Recovered r) s up came h =
    absurd (confirms_none start earlier m (moves_of score.plies) waiting entry.picture r s up came h.1)
told_more start earlier m score waiting entry (Shown Same) s up came h = absurd h.0
told_more start earlier m score waiting entry (Shown Waits) s up came h =
    let p : Parts = reached start earlier in
    let own : Bool = bytes_eq entry.picture (picture (reached start (moves_of score.plies))) in
    elim up [
      | inl e ↦ inl (e.0, are_unless (λ xs. MayWait p m xs) own waiting entry e.1 (inl came))
      | inr t ↦ inr (t.0, are_unless (λ xs. IsOnTheWayOrLacksKing p m xs) own waiting entry t.1 came)
    ]
told_more start earlier m score waiting entry (Shown (Sign o)) s up came h =
    let p : Parts = reached start earlier in
    elim up [ inl e ↦ inl (e.0, none_are (λ xs. MayWait p m xs)) | inr t ↦ inr (t.0, none_are (λ xs. IsOnTheWayOrLacksKing p m xs)) ]
told_more start earlier m score waiting entry (Shown (Moved n)) s up came h =
    let p : Parts = reached start earlier in
    let S : List Move → Type 0 = λ ms. Settles (reached start ms) entry.picture n in
    elim up [
      | inl e ↦
          inr (
            tried_now start earlier m (n ∷ moves_of score.plies) entry.picture n s came (subst S e.0 h.0) (ap (λ (ms : List Move). n ∷ ms) e.0),
            none_are (λ xs. IsOnTheWayOrLacksKing p m xs),
          )
      | inr t ↦ absurd (none_again start earlier m (moves_of score.plies) entry.picture n s t.0 came h.0)
    ]
told_more start earlier m score waiting entry (Shown (Replaced n)) s up came h =
    let p : Parts = reached start earlier in
    let R : List Move → Type 0 = λ ms. Replaces start ms entry.picture n in
    elim up [
      | inl e ↦ absurd (none_instead start earlier m entry.picture n s came (subst R e.0 (h.0).2))
      | inr t ↦
          let k : Replaces start ((t.0).tried ∷ earlier) entry.picture n = subst R (t.0).is (h.0).2 in
          inr (
            tried_now start earlier m (n ∷ moves_of (drop 1 score.plies)) entry.picture n s came k.0
                (ap (λ (ms : List Move). n ∷ ms) (moves_of_drop score.plies ∙ ap (λ (ms : List Move). drop 1 ms) (t.0).is)),
            none_are (λ xs. IsOnTheWayOrLacksKing p m xs),
          )
    ]

-- exactly the move was told, and nothing waits
abbrev pub IsMade : List Move → List Move → List Entry → Type 0
IsMade moves now waiting = (now ≡ moves) × (waiting ≡ [])

-- the move that was tried is the one that is to come, where the picture after this one waits
end_waits :
    (start : Parts) (earlier : List Move) (m : Move) (now : List Move) (waiting : List Entry) (entry : Entry)
    → IsNext start earlier m
    → IsTried (reached start earlier) m earlier now
    → entry.picture ≡ picture (after (reached start earlier) m)
    → SeenAs start now entry.picture Waits
    → (own : Bool)
    → bytes_eq entry.picture (picture (reached start now)) ≡ own
    → IsMade (m ∷ earlier) now (cond own [] (entry ∷ waiting))
end_waits start earlier m now waiting entry s t e h true own =
    let p : Parts = reached start earlier in
    let d = bytes_eq-Decides entry.picture (picture (reached start now)) in
    let shown : picture (after p m) ≡ picture (after p t.tried) = sym e ∙ d.0 own ∙ ap (λ (ms : List Move). picture (reached start ms)) t.is in
    let same : m ≡ t.tried = pictures_tell_moves p m t.tried (now_valid start earlier m s) s.legal t.legal shown in
    (t.is ∙ ap (λ (x : Move). x ∷ earlier) (sym same), refl)
end_waits start earlier m now waiting entry s t e h false own =
    let p : Parts = reached start earlier in
    let d = bytes_eq-Decides entry.picture (picture (reached start now)) in
    let N : List Move → Type 0 = λ ms. ¬ Replaces start ms entry.picture m in
    let settles : Settles p entry.picture m = settles_end p m entry.picture (now_valid start earlier m s) s.legal e in
    absurd (subst N t.is (h.2 m)
    (settles, λ same. both_ways _ own (d.1 (e ∙ ap (λ (x : Move). picture (after p x)) same ∙ ap (λ (ms : List Move). picture (reached start ms)) (sym t.is)))))

-- the entry with the picture after the move
told_end :
    (start : Parts) (earlier : List Move) (m : Move) (score : Score) (waiting : List Entry) (entry : Entry) (told : SeenOrRecovered)
    → IsNext start earlier m
    → IsUpTo start earlier m (moves_of score.plies) waiting
    → IsOnTheWayOrLacksKing (reached start earlier) m entry.picture
    → entry.picture ≡ picture (after (reached start earlier) m)
    → TellsAs start (moves_of score.plies) waiting entry.picture told
    → IsMade (m ∷ earlier) (moves_of (score_told start score entry.reading told).plies) (waiting_after start (moves_of score.plies) waiting entry told)
told_end start earlier m score waiting entry (Recovered r) s up came e h =
    absurd (confirms_none start earlier m (moves_of score.plies) waiting entry.picture r s up came h.1)
told_end start earlier m score waiting entry (Shown Same) s up came e h = absurd h.0
told_end start earlier m score waiting entry (Shown (Sign o)) s up came e h =
    let p : Parts = reached start earlier in
    absurd (no_sign_valid (after p m) entry.picture (moves_stay_valid p m (now_valid start earlier m s) s.legal) e _ o h.0)
told_end start earlier m score waiting entry (Shown (Moved n)) s up came e h =
    let S : List Move → Type 0 = λ ms. Settles (reached start ms) entry.picture n in
    elim up [
      | inl is ↦
          let k : Settles (reached start earlier) entry.picture n = subst S is.0 h.0 in
          (ap (λ (ms : List Move). n ∷ ms) is.0 ∙ ap (λ (x : Move). x ∷ earlier) (sym (k.alone m s.legal e)), refl)
      | inr t ↦ absurd (none_again start earlier m (moves_of score.plies) entry.picture n s t.0 came h.0)
    ]
told_end start earlier m score waiting entry (Shown (Replaced n)) s up came e h =
    let R : List Move → Type 0 = λ ms. Replaces start ms entry.picture n in
    elim up [
      | inl is ↦ absurd (none_instead start earlier m entry.picture n s came (subst R is.0 (h.0).2))
      | inr t ↦
          let k : Replaces start ((t.0).tried ∷ earlier) entry.picture n = subst R (t.0).is (h.0).2 in
          let rest : moves_of (drop 1 score.plies) ≡ earlier = moves_of_drop score.plies ∙ ap (λ (ms : List Move). drop 1 ms) (t.0).is in
          (ap (λ (ms : List Move). n ∷ ms) rest ∙ ap (λ (x : Move). x ∷ earlier) (sym ((k.0).alone m s.legal e)), refl)
    ]
told_end start earlier m score waiting entry (Shown Waits) s up came e h =
    let N : List Move → Type 0 = λ ms. ¬ Settles (reached start ms) entry.picture m in
    elim up [
      | inl is ↦ absurd (subst N is.0 ((h.0).0 m) (settles_end (reached start earlier) m entry.picture (now_valid start earlier m s) s.legal e))
      | inr t ↦ end_waits start earlier m (moves_of score.plies) waiting entry s t.0 e h.0 _ refl
    ]

-- the last entry has this picture
abbrev pub ShowsLast : List ℕ → List Entry → Type 0
ShowsLast seen [] = ⊥
ShowsLast seen (entry ∷ past) = entry.picture ≡ seen

pub repeats_last : (seen : List ℕ) (past : List Entry) → repeats seen past ≡ true → ShowsLast seen past
repeats_last seen [] e = let never : ⊥ = cc in never
repeats_last seen (before ∷ past) e = let d = bytes_eq-Decides seen before.picture in sym (d.0 e)

-- the entries so far, on the way to the move
record Comes (start : Parts) (earlier : List Move) (m : Move) (past : List Entry) : Type 0 where
  pub none : ConfirmNone start (deduplicated past)
  pub up_to : (score : Score) (waiting : List Entry) → FoldsRecovering start (deduplicated past) score waiting → IsUpTo start earlier m (moves_of score.plies) waiting
  pub ends : (score : Score) (waiting : List Entry) → FoldsRecovering start (deduplicated past) score waiting
      → ShowsLast (picture (after (reached start earlier) m)) past → IsMade (m ∷ earlier) (moves_of score.plies) waiting

comes_again :
    (start : Parts) (earlier : List Move) (m : Move) (past : List Entry) (entry : Entry)
    → repeats entry.picture past ≡ true → Comes start earlier m past → Comes start earlier m (entry ∷ past)
comes_again start earlier m past entry same c =
    let once : deduplicated (entry ∷ past) ≡ deduplicated past = cond-true (repeats entry.picture past) (deduplicated past) (entry ∷ deduplicated past) same in
    let N : List Entry → Type 0 = λ es. ConfirmNone start es in
    let L : List ℕ → Type 0 = λ seen. ShowsLast seen past in
    record {
      none = subst N (sym once) c.none;
      up_to = λ score waiting f. let F : List Entry → Type 0 = λ es. FoldsRecovering start es score waiting in c.up_to score waiting (subst F once f);
      ends = λ score waiting f e.
          let F : List Entry → Type 0 = λ es. FoldsRecovering start es score waiting in
          c.ends score waiting (subst F once f) (subst L e (repeats_last entry.picture past same));
    }

comes_new :
    (start : Parts) (earlier : List Move) (m : Move) (past : List Entry) (entry : Entry)
    → IsNext start earlier m
    → IsOnTheWayOrLacksKing (reached start earlier) m entry.picture
    → repeats entry.picture past ≡ false → Comes start earlier m past → Comes start earlier m (entry ∷ past)
comes_new start earlier m past entry s came new c =
    let one : deduplicated (entry ∷ past) ≡ entry ∷ deduplicated past = cond-false (repeats entry.picture past) (deduplicated past) (entry ∷ deduplicated past) new in
    let N : List Entry → Type 0 = λ es. ConfirmNone start es in
    record {
      none = subst N (sym one)
          (c.none, λ score waiting r f h. confirms_none start earlier m (moves_of score.plies) waiting entry.picture r s (c.up_to score waiting f) came h.1);
      up_to = λ score waiting f.
          let F : List Entry → Type 0 = λ es. FoldsRecovering start es score waiting in
          let g : FoldsRecovering start (entry ∷ deduplicated past) score waiting = subst F one f in
          let A : Score → Type 0 = λ x. IsUpTo start earlier m (moves_of x.plies) waiting in
          let B : List Entry → Type 0 = λ ws. IsUpTo start earlier m (moves_of (score_told start g.0 entry.reading g.2).plies) ws in
          subst A (sym g.5) (subst B (sym g.6) (told_more start earlier m g.0 g.1 entry g.2 s (c.up_to g.0 g.1 g.3) came g.4));
      ends = λ score waiting f e.
          let F : List Entry → Type 0 = λ es. FoldsRecovering start es score waiting in
          let g : FoldsRecovering start (entry ∷ deduplicated past) score waiting = subst F one f in
          let A : Score → Type 0 = λ x. IsMade (m ∷ earlier) (moves_of x.plies) waiting in
          let B : List Entry → Type 0 = λ ws. IsMade (m ∷ earlier) (moves_of (score_told start g.0 entry.reading g.2).plies) ws in
          subst A (sym g.5) (subst B (sym g.6) (told_end start earlier m g.0 g.1 entry g.2 s (c.up_to g.0 g.1 g.3) came e g.4));
    }

comes_more :
    (start : Parts) (earlier : List Move) (m : Move) (past : List Entry) (entry : Entry)
    → IsNext start earlier m
    → IsOnTheWayOrLacksKing (reached start earlier) m entry.picture
    → Comes start earlier m past → Comes start earlier m (entry ∷ past)
comes_more start earlier m past entry s came c =
    elim (cases_Bool (repeats entry.picture past)) [
      | inl same ↦ comes_again start earlier m past entry same c
      | inr new ↦ comes_new start earlier m past entry s came new c
    ]

-- the entries so far, after these moves
pub record Stands (start : Parts) (moves : List Move) (past : List Entry) : Type 0 where
  pub none : ConfirmNone start (deduplicated past)
  pub made : (score : Score) (waiting : List Entry) → FoldsRecovering start (deduplicated past) score waiting → IsMade moves (moves_of score.plies) waiting
  pub last : EndsAt (reached start moves) past

-- while no move is made
pub resting : (start : Parts) (moves : List Move) (past : List Entry) → Valid start → Played start moves → Stands start moves past → Rests start moves past
resting start moves past v played s =
    let p : Parts = reached start moves in
    record {
      none = s.none;
      kept = λ score waiting f.
          let made = s.made score waiting f in
          let R : List Entry → Type 0 = λ ws. IsResting start moves (moves_of score.plies) ws in
          subst R (sym made.1) (record { moves_are = made.0; stays = none_are (λ xs. IsAtRest p xs) });
      last = last_stays p past (valid_reached start moves v played) s.last;
    }

not_yet : (start : Parts) (earlier : List Move) (m : Move) (past : List Entry) → IsNext start earlier m → LastStays (reached start earlier) past
    → ¬ ShowsLast (picture (after (reached start earlier) m)) past
not_yet start earlier m [] s stay h = h
not_yet start earlier m (entry ∷ past) s stay h =
    stay_settles start earlier entry.picture m s.valid s.played stay
    (settles_end (reached start earlier) m entry.picture (now_valid start earlier m s) s.legal h)

comes_first : (start : Parts) (earlier : List Move) (m : Move) (past : List Entry) → IsNext start earlier m → Rests start earlier past → Comes start earlier m past
comes_first start earlier m past s h = record {
  none = h.none;
  up_to = λ score waiting f.
      let k : IsResting start earlier (moves_of score.plies) waiting = h.kept score waiting f in
      inl (k.moves_are, λ place entry e. inr (k.stays place entry e));
  ends = λ score waiting f e. absurd (not_yet start earlier m past s h.last e);
}

shown_stands :
    (start : Parts) (earlier : List Move) (m : Move) (entries past : List Entry)
    → IsNext start earlier m
    → Comes start earlier m past
    → ShownByHand (reached start earlier) m entries
    → Stands start (m ∷ earlier) (reverse_aux entries past)
shown_stands start earlier m [] past s c h = absurd h
shown_stands start earlier m (entry ∷ []) past s c h =
    let way : IsOnTheWay (reached start earlier) m entry.picture = whole (reached start earlier) m entry.picture (now_valid start earlier m s) s.legal h in
    let d : Comes start earlier m (entry ∷ past) = comes_more start earlier m past entry s (inl way) c in
    record { none = d.none; made = λ score waiting f. d.ends score waiting f h; last = h }
shown_stands start earlier m (entry ∷ next ∷ more) past s c h =
    shown_stands start earlier m (next ∷ more) (entry ∷ past) s (comes_more start earlier m past entry s h.0 c) h.1

-- one more move that is shown
pub stands_after :
    (start : Parts) (earlier : List Move) (m : Move) (entries past : List Entry)
    → IsNext start earlier m
    → Rests start earlier past
    → ShownByHand (reached start earlier) m entries
    → Stands start (m ∷ earlier) (reverse_aux entries past)
stands_after start earlier m entries past s h shown = shown_stands start earlier m entries past s (comes_first start earlier m past s h) shown

line_none :
    (start : Parts) (earlier : List Move) (past : List Entry) (moves : List Move) (lists : List (List Entry))
    → Valid start
    → Played start earlier
    → Stands start earlier past
    → Line (reached start earlier) moves
    → EachShownByHand (reached start earlier) moves lists
    → ConfirmNone start (deduplicated (reverse_aux (joined lists) past))
line_none start earlier past [] [] v played s l h = s.none
line_none start earlier past [] (list ∷ lists) v played s l h = absurd h
line_none start earlier past (m ∷ moves) [] v played s l h = absurd h
line_none start earlier past (m ∷ moves) (list ∷ lists) v played s l h =
    let next : IsNext start earlier m = record { valid = v; played = played; legal = l.0 } in
    let N : List Entry → Type 0 = λ es. ConfirmNone start (deduplicated es) in
    let one : Stands start (m ∷ earlier) (reverse_aux list past) = stands_after start earlier m list past next (resting start earlier past v played s) h.0 in
    subst N (sym (reverse_aux-append list (joined lists) past))
    (line_none start (m ∷ earlier) (reverse_aux list past) moves lists v (l.0, played) one l.1 h.1)

-- so it is where the entries are broken off
pub broken_off :
    (start : Parts) (rest past : List Entry) → ConfirmNone start (deduplicated (reverse_aux rest past)) → ConfirmNone start (deduplicated past)
broken_off start [] past h = h
broken_off start (entry ∷ rest) past h =
    let N : List Entry → Type 0 = λ es. ConfirmNone start es in
    let here : ConfirmNone start (deduplicated (entry ∷ past)) = broken_off start rest (entry ∷ past) h in
    elim (cases_Bool (repeats entry.picture past)) [
      | inl same ↦ subst N (cond-true (repeats entry.picture past) (deduplicated past) (entry ∷ deduplicated past) same) here
      | inr new ↦
          let both : ConfirmNone start (entry ∷ deduplicated past) = subst N (cond-false (repeats entry.picture past) (deduplicated past) (entry ∷ deduplicated past) new) here in
          both.0
    ]

pub begins_alone : (start : Parts) → Stands start [] []
begins_alone start = record { none = tt; made = λ score waiting f. (ap (λ (s : Score). moves_of s.plies) f.0, f.1); last = tt }

pub honest_hands_confirm_none : HonestHandsConfirmNone
honest_hands_confirm_none start moves lists first rest v l h e =
    let all : ConfirmNone start (deduplicated (reverse_aux (joined lists) [])) = line_none start [] [] moves lists v tt (begins_alone start) l h in
    let N : List Entry → Type 0 = λ es. ConfirmNone start (deduplicated es) in
    broken_off start rest (reverse_aux first [])
    (subst N (ap (λ (es : List Entry). reverse_aux es []) e ∙ reverse_aux-append first rest []) all)

pub honest_hands_are_left_alone : HonestHandsAreLeftAlone
honest_hands_are_left_alone start moves lists first rest written score waiting v l h e w =
    nothing_put_in start (deduplicated (reverse first)) written score waiting (honest_hands_confirm_none start moves lists first rest v l h e) w
