-- What one picture makes of a settler.
use Rattle.std.proofs.Common.{◌≡◌, ◌≢◌, ℕ, ◌<◌, ◌+◌, ◌-◌, List, [], ◌∷◌, ◌++◌, Option, Some, None, IfSome, IfNone, Bool, true, false, drop, reverse, length, length-append, get_or, slice_set, is_some, arith, refl, sym, ap, subst, ◌∙◌}
use Rattle.std.specs.Str.{bytes_eq}
use Rattle.std.specs.List.{slice_get}
use Rattle.std.proofs.lemmas.Slice.Eq.{bytes_eq-Decides}
use Rattle.std.proofs.lemmas.List.{reverse-append, reverse-reverse, set-get_or, set-set}
use Rattle.std.proofs.lemmas.Option.{get_or_from_slice_get, none-some, same_Some}
use Rattle.std.proofs.lemmas.Bool.{cond-true, cond-false, false_from_ne_true}
use Rattle.chess_clock.specs.declared.times.Reading.{Reading}
use Rattle.chess_rules.specs.declared.chess_move.Move.{Move}
use Rattle.chess_rules.specs.declared.parts.Parts.{Parts}
use Rattle.chess_rules.specs.After.{after}
use Rattle.chess_rules.specs.Legal.{Legal}
use Rattle.chess_rules.specs.Valid.{Valid}
use Rattle.chess_rules.specs.Picture.{picture}
use Rattle.chess_rules.specs.Laws.{PicturesTellMoves}
use Rattle.settle_core.specs.declared.compared.Compared.{Compared}
use Rattle.settle_core.specs.declared.plies.Ply.{Ply}
use Rattle.settle_core.specs.declared.plies.Seen.{Seen}
use Rattle.settle_core.specs.declared.plies.Seen.TheVariants.{Same, Moved, Sign, Replaced, Waits}
use Rattle.settle_core.specs.Entries.{Entry, entry_of, repeats, deduplicated}
use Rattle.settle_core.specs.Settling.{Settles, reached, Played}
use Rattle.settle_core.specs.Folding.{Score, Folds, SeenAs, Replaces, moves_of, score_after}
use Rattle.settle_core.specs.Settler.{SettlerState, HasSettled, ReturnsSeen, GivesMove}
use Rattle.settle_core.proofs.Changing.{set_differs}
use Rattle.settle_core.specs.Inside.Kept.{IsLastSet, CanReplace, before_last, last_of, position_in}

-- a legal move whose picture this is settles
pub settled_from :
    (p : Parts) (seen : List ℕ) (m m' m'' : Move) (next : Parts) (shot : List ℕ)
    → PicturesTellMoves
    → Valid p
    → m' ≡ m
    → Legal p m'
    → m'' ≡ m
    → next ≡ after p m''
    → shot ≡ picture next
    → bytes_eq shot seen ≡ true
    → Settles p seen m
settled_from p seen m m' m'' next shot tell v e l e' n s same =
    let L : Move → Type 0 = λ x. Legal p x in
    let l' : Legal p m = subst L e l in
    let d = bytes_eq-Decides shot seen in
    let shows : seen ≡ picture (after p m) = sym (d.0 same) ∙ s ∙ ap picture (n ∙ ap (after p) e') in
    record { legal = l'; shows = shows; alone = λ k lk ek. tell p k m v lk l' (sym ek ∙ shows) }

-- the picture that was seen last
pub last_is : (seen : Bool) (kept picture : List ℕ) → last_of seen kept ≡ Some picture → kept ≡ picture
last_is true kept picture e = same_Some _ _ e
last_is false kept picture e = absurd (none-some _ e)

pub seen_is : (seen : Bool) (kept picture : List ℕ) → last_of seen kept ≡ Some picture → seen ≡ true
seen_is true kept picture e = refl
seen_is false kept picture e = absurd (none-some _ e)

-- the last move, and the position before it
pub replaces_but :
    (start : Parts) (before : Option Compared) (b : Compared) (seen : List ℕ) (turned : List Ply) (last : Ply)
    → position_in before ≡ before_last start (moves_of turned)
    → before ≡ Some b
    → ((earlier : List Ply) (other : Ply) → turned ≡ other ∷ earlier → last ≡ other)
    → ((k : Move) → Settles b.position seen k × k ≢ last.mv → Replaces start (moves_of turned) seen k)
    × (((k : Move) → Settles b.position seen k → k ≡ last.mv) → (m : Move) → ¬ Replaces start (moves_of turned) seen m)
replaces_but start before b seen [] last s h l = absurd (none-some _ (sym s ∙ ap position_in h))
replaces_but start before b seen (other ∷ earlier) last s h l =
    let at : b.position ≡ reached start (moves_of earlier) = same_Some _ _ (sym (ap position_in h) ∙ s) in
    let same : last ≡ other = l earlier other refl in (
      λ k t. (let S : Parts → Type 0 = λ x. Settles x seen k in subst S at t.0, λ q. t.1 (q ∙ ap (λ (x : Ply). x.mv) (sym same))),
      λ alone m r. r.1 (alone m (let S : Parts → Type 0 = λ x. Settles x seen m in subst S (sym at) r.0) ∙ ap (λ (x : Ply). x.mv) same),
    )

pub some_map : {X : Type 0} {P Q : X → Type 0} (o : Option X) → ((x : X) → P x → Q x) → IfSome o P → IfSome o Q
some_map None f h = h
some_map (Some x) f h = f x h

pub none_map : {X P Q : Type 0} (o : Option X) → (P → Q) → IfNone o P → IfNone o Q
none_map None f h = f h
none_map (Some x) f h = h

get_at_end : {X : Type 0} (xs : List X) (x d : X) → get_or (xs ++ x ∷ []) (length xs) d ≡ x
get_at_end [] x d = refl
get_at_end (z ∷ xs) x d = get_at_end xs x d

pub last_from :
    (items : List Ply) (last : Ply)
    → Some last ≡ slice_get items (length items - 1)
    → (earlier : List Ply) (other : Ply) → reverse items ≡ other ∷ earlier → last ≡ other
last_from items last e earlier other r =
    let is : items ≡ reverse earlier ++ other ∷ [] = sym (reverse-reverse items) ∙ ap reverse r ∙ reverse-append (other ∷ []) earlier in
    let n : length (reverse earlier ++ other ∷ []) ≡ length (reverse earlier) + 1 = length-append (reverse earlier) (other ∷ []) in
    let at : length items - 1 ≡ length (reverse earlier) = ap (λ (xs : List Ply). length xs - 1) is ∙ (let q : length (reverse earlier ++ other ∷ []) - 1 ≡ length (reverse earlier) = omega arith in q) in
    let got : get_or items (length items - 1) last ≡ last = get_or_from_slice_get items (length items - 1) last last (sym e) in
    sym got ∙ ap (λ k. get_or items k last) at ∙ ap (λ (xs : List Ply). get_or xs (length (reverse earlier)) last) is ∙ get_at_end (reverse earlier) other last

-- the position before the last move
pub before_of :
    (start : Parts) (before : Option Compared) (b : Compared) (plies : List Ply) (m : Move)
    → position_in before ≡ before_last start (moves_of plies)
    → before ≡ Some b
    → CanReplace start (moves_of plies) m
    → b.position ≡ reached start (moves_of (drop 1 plies))
before_of start before b [] m s h can = absurd can
before_of start before b (last ∷ earlier) m s h can = same_Some _ _ (sym (ap position_in h) ∙ s)

pub can_replace :
    (start : Parts) (plies : List Ply) (m : Move) → CanReplace start (moves_of plies) m → Legal (reached start (moves_of (drop 1 plies))) m
can_replace start [] m can = absurd can
can_replace start (last ∷ earlier) m can = can

pub replacing_can :
    (start : Parts) (plies : List Ply) (seen : List ℕ) (m : Move) → Replaces start (moves_of plies) seen m → CanReplace start (moves_of plies) m
replacing_can start [] seen m r = r
replacing_can start (last ∷ earlier) seen m r = (r.0).legal

-- a line with another last ply
pub line_replaced :
    (start : Parts) (plies : List Ply) (old new : List Ply) (ply : Ply) (before : Option Compared)
    → reverse old ≡ plies
    → CanReplace start (moves_of plies) ply.mv
    → IsLastSet old ply new
    → Played start (moves_of plies)
    → position_in before ≡ before_last start (moves_of plies)
    → (reverse new ≡ ply ∷ drop 1 plies) × Played start (ply.mv ∷ moves_of (drop 1 plies)) × (position_in before ≡ Some (reached start (moves_of (drop 1 plies))))
line_replaced start [] old new ply before e can set p b = absurd can
line_replaced start (last ∷ earlier) old new ply before e can set p b = (set last earlier e, (can, p.1), b)

-- The picture is new, and shows this: it stands.
pub taken_stands :
    (old new : SettlerState) (start : Parts) (past : List Entry) (picture : List ℕ) (reading : Option Reading) (seen : Seen)
    → HasSettled old start past
    → repeats picture past ≡ false
    → SeenAs old.start (moves_of old.score.plies) picture seen
    → new ≡ record { start = old.start; score = score_after old.start old.score reading seen; last = Some picture }
    → HasSettled new start (entry_of picture reading ∷ past)
taken_stands old new start past picture reading seen st fresh shows is =
    let P : SettlerState → Type 0 = λ s. HasSettled s start (entry_of picture reading ∷ past) in
    let F : List Entry → Type 0 = λ es. Folds start es (score_after old.start old.score reading seen) in
    let S : Parts → Type 0 = λ s. SeenAs s (moves_of old.score.plies) picture seen in
    let folds : Folds start (entry_of picture reading ∷ deduplicated past) (score_after old.start old.score reading seen) =
    (old.score, seen, st.folds, subst S st.start_is shows, ap (λ (s : Parts). score_after s old.score reading seen) st.start_is) in
    subst P (sym is)
    (record {
      start_is = st.start_is;
      last = refl;
      folds = subst F (sym (cond-false (repeats picture past) (deduplicated past) (entry_of picture reading ∷ deduplicated past) fresh)) folds;
    })

answers_new : (start : Parts) (past : List Entry) (seen : List ℕ) (score : Score) (answer : Seen)
    → repeats seen past ≡ false → Folds start (deduplicated past) score → SeenAs start (moves_of score.plies) seen answer
    → ReturnsSeen start past seen answer
answers_new start past seen score Same new f h = absurd h
answers_new start past seen score (Moved m) new f h = (new, (score, f, h))
answers_new start past seen score (Sign outcome) new f h = (new, (score, f, h))
answers_new start past seen score (Replaced m) new f h = (new, (score, f, h))
answers_new start past seen score Waits new f h = (new, (score, f, h))

-- and this is the result
pub taken_answers :
    (old : SettlerState) (start : Parts) (past : List Entry) (picture : List ℕ) (seen : Seen)
    → HasSettled old start past
    → repeats picture past ≡ false
    → SeenAs old.start (moves_of old.score.plies) picture seen
    → ReturnsSeen start past picture seen
taken_answers old start past picture seen st fresh shows =
    let S : Parts → Type 0 = λ s. SeenAs s (moves_of old.score.plies) picture seen in
    answers_new start past picture old.score seen fresh st.folds (subst S st.start_is shows)

-- out of memory
pub refused_gives :
    (old : SettlerState) (start : Parts) (past : List Entry) (picture : List ℕ) (m : Move)
    → HasSettled old start past
    → repeats picture past ≡ false
    → Settles (reached old.start (moves_of old.score.plies)) picture m
    → GivesMove start past picture
refused_gives old start past picture m st fresh h = (m, taken_answers old start past picture (Moved m) st fresh h)

-- The picture is the last one: it stands.
pub same_stands :
    (old : SettlerState) (start : Parts) (past : List Entry) (picture : List ℕ) (reading : Option Reading)
    → HasSettled old start past
    → old.last ≡ Some picture
    → HasSettled old start (entry_of picture reading ∷ past)
same_stands old start [] picture reading st e = absurd (none-some _ (sym st.last ∙ e))
same_stands old start (before ∷ past) picture reading st e =
    let same : before.picture ≡ picture = same_Some _ _ (sym st.last ∙ e) in
    let d = bytes_eq-Decides picture before.picture in
    let F : List Entry → Type 0 = λ es. Folds start es old.score in
    record {
      start_is = st.start_is;
      last = e;
      folds = subst F (sym (cond-true (repeats picture (before ∷ past)) (deduplicated (before ∷ past)) (entry_of picture reading ∷ deduplicated (before ∷ past)) (d.1 (sym same)))) st.folds;
    }

pub same_answers :
    (old : SettlerState) (start : Parts) (past : List Entry) (picture : List ℕ) → HasSettled old start past → old.last ≡ Some picture → repeats picture past ≡ true
same_answers old start [] picture st e = absurd (none-some _ (sym st.last ∙ e))
same_answers old start (before ∷ past) picture st e =
    let same : before.picture ≡ picture = same_Some _ _ (sym st.last ∙ e) in
    let d = bytes_eq-Decides picture before.picture in d.1 (sym same)

-- a picture that is not the last one is new
pub fresh :
    (old : SettlerState) (start : Parts) (past : List Entry) (picture : List ℕ) → HasSettled old start past → old.last ≢ Some picture → repeats picture past ≡ false
fresh old start [] picture st ne = refl
fresh old start (before ∷ past) picture st ne =
    let d = bytes_eq-Decides picture before.picture in
    false_from_ne_true (bytes_eq picture before.picture) (λ same. ne (st.last ∙ ap (λ (x : List ℕ). Some x) (sym (d.0 same))))

-- what was judged of the last picture
pub judged :
    (old mid new : SettlerState) (picture : List ℕ) (reading : Option Reading) (seen : Seen)
    → mid ≡ record { start = old.start; score = old.score; last = Some picture }
    → SeenAs mid.start (moves_of mid.score.plies) picture seen × (new ≡ record { start = mid.start; score = score_after mid.start mid.score reading seen; last = mid.last })
    → SeenAs old.start (moves_of old.score.plies) picture seen × (new ≡ record { start = old.start; score = score_after old.start old.score reading seen; last = Some picture })
judged old mid new picture reading seen e h =
    let P : SettlerState → Type 0 = λ s. SeenAs s.start (moves_of s.score.plies) picture seen × (new ≡ record { start = s.start; score = score_after s.start s.score reading seen; last = s.last }) in
    subst P e h

-- a fact about a position and a picture, where they are named otherwise
pub elsewhere : (Q : Parts → List ℕ → Type 0) (p p' : Parts) (seen seen' : List ℕ) → p ≡ p' → seen ≡ seen' → Q p seen → Q p' seen'
elsewhere Q p p' seen seen' e e' h = subst (Q p') e' (let P : Parts → Type 0 = λ x. Q x seen in subst P e h)

-- a field that shows what it showed
pub field_same :
    (kept picture : List ℕ) (number at code : ℕ) → kept ≡ picture → number ≡ at → get_or kept number 0 ≡ code → slice_set picture at code ≡ picture
field_same kept picture number at code e n shown =
    ap (λ c. slice_set picture at c) (sym shown ∙ ap (λ xs. get_or xs number 0) e ∙ ap (λ k. get_or picture k 0) n) ∙ set-get_or picture at 0

-- a field that shows another code makes another picture
pub field_differs :
    (kept picture : List ℕ) (number at code : ℕ) → kept ≡ picture → number ≡ at → length kept ≡ 64 → number < 64 → get_or kept number 0 ≢ code → slice_set picture at code ≢ picture
field_differs kept picture number at code e n l low ne same =
    let P : ℕ → Type 0 = λ k. slice_set kept k code ≡ kept in
    let Q : List ℕ → Type 0 = λ xs. slice_set xs at code ≡ xs in
    set_differs kept number code (rw l low) ne (subst P (sym n) (subst Q (sym e) same))

-- a field that is set back
pub restored :
    (old mid back new : SettlerState) (picture : List ℕ) (at code : ℕ)
    → old.last ≡ Some picture
    → mid ≡ record { start = old.start; score = old.score; last = Some (slice_set picture at code) }
    → back ≡ mid
    → new ≡ record { start = back.start; score = back.score; last = Some (slice_set (slice_set picture at code) at (get_or picture at 0)) }
    → new ≡ old
restored old mid back new picture at code last changed refused again =
    let e : back ≡ record { start = old.start; score = old.score; last = Some (slice_set picture at code) } = refused ∙ changed in
    let shown : slice_set (slice_set picture at code) at (get_or picture at 0) ≡ picture = set-set picture at code (get_or picture at 0) ∙ set-get_or picture at 0 in
    again
    ∙ ap (λ (s : SettlerState). record { start = s.start; score = s.score; last = Some (slice_set (slice_set picture at code) at (get_or picture at 0)) }) e
    ∙ ap (λ (x : Option (List ℕ)). record { start = old.start; score = old.score; last = x }) (ap (λ (xs : List ℕ). Some xs) shown ∙ sym last)

-- where a picture was seen, it is the last one
pub seen_last : (seen : Bool) (kept : List ℕ) → is_some (last_of seen kept) ≡ true → last_of seen kept ≡ Some kept
seen_last true kept e = refl
seen_last false kept e = absurd (let never : ⊥ = cc in never)
