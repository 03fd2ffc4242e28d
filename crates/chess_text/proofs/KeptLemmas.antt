-- Ranks that are kept, and the picture that they make.
use Rattle.std.proofs.Common.{◌≡◌, ℕ, zero, suc, ◌+◌, ◌*◌, ◌<◌, ◌≤◌, List, [], ◌∷◌, ◌++◌, length, take, drop, get_or, slice_set, refl, sym, ap, ◌∙◌, arith, append_assoc, append-nil, take-add, take_at, drop_at, length-append}
use Rattle.std.specs.List.{flat_map}
use Rattle.std.specs.List.{between}
use borrow.Rule.Slice.PartMut.{put_mid}
use lib.Seq.{take-append-add}
use Rattle.std.proofs.lemmas.Slice.{between_is}
use Rattle.std.proofs.lemmas.List.{length-set, length-drop, length-take-le, take-append-le, take_all, take_more, take_more_set}
use Rattle.std.proofs.lemmas.List.Concat.{flat_map-append}
use Rattle.chess_text.specs.declared.rank_text.RankText.{RankText}
use Rattle.chess_text.specs.Placement.{rank_text, ranks_text, placement}
use Rattle.chess_text.specs.KeptRanks.{codes_in}

-- the texts of ranks, each behind a `/`
abbrev pub texts_in : List RankText → List ℕ
texts_in ranks = flat_map (λ rank. 47 ∷ rank_text 0 rank.codes) ranks

set_right : (xs ys : List ℕ) (k code : ℕ) → slice_set (xs ++ ys) (length xs + k) code ≡ xs ++ slice_set ys k code
set_right [] ys k code = let e : 0 + k ≡ k = omega arith in ap (λ (n : ℕ). slice_set ys n code) e
set_right (x ∷ xs) ys k code = let e : length (x ∷ xs) + k ≡ suc (length xs + k) = omega arith in rw e (ap (λ l. x ∷ l) (set_right xs ys k code))

set_left : (xs ys : List ℕ) (k code : ℕ) → k < length xs → slice_set (xs ++ ys) k code ≡ slice_set xs k code ++ ys
set_left [] ys k code lt = absurd (omega arith)
set_left (x ∷ xs) ys zero code lt = refl
set_left (x ∷ xs) ys (suc k) code lt = ap (λ l. x ∷ l) (set_left xs ys k code (omega arith))

-- A rank of which one square has another code.
pub rank_changed : (ranks : List RankText) (r file code : ℕ) (any new : RankText) → r < length ranks → file < 8
    → new.codes ≡ slice_set (get_or ranks r any).codes file code → codes_in (slice_set ranks r new) ≡ slice_set (codes_in ranks) (8 * r + file) code
rank_changed [] r file code any new lt within is = absurd (omega arith)
rank_changed (first ∷ ranks) zero file code any new lt within is =
    let squares : length first.codes ≡ 8 = first.squares in
    let place : 8 * 0 + file ≡ file = omega arith in
    ap (λ (l : List ℕ). l ++ codes_in ranks) is ∙ sym (set_left first.codes (codes_in ranks) file code (omega arith))
    ∙ ap (λ (n : ℕ). slice_set (codes_in (first ∷ ranks)) n code) (sym place)
rank_changed (first ∷ ranks) (suc r) file code any new lt within is =
    let squares : length first.codes ≡ 8 = first.squares in
    let place : 8 * suc r + file ≡ length first.codes + (8 * r + file) = omega arith in
    ap (λ (l : List ℕ). first.codes ++ l) (rank_changed ranks r file code any new (omega arith) within is)
    ∙ sym (set_right first.codes (codes_in ranks) (8 * r + file) code) ∙ ap (λ (n : ℕ). slice_set (codes_in (first ∷ ranks)) n code) (sym place)

texts_by : (ranks : List RankText) → ranks_text (length ranks) (codes_in ranks) ≡ texts_in ranks
unfolding ranks_text
texts_by [] = refl
texts_by (rank ∷ ranks) =
    let squares : length rank.codes ≡ 8 = rank.squares in
    let front : take 8 (codes_in (rank ∷ ranks)) ≡ rank.codes = take_at rank.codes (codes_in ranks) 8 squares in
    let rest : drop 8 (codes_in (rank ∷ ranks)) ≡ codes_in ranks = drop_at rank.codes (codes_in ranks) 8 squares in
    ap (λ (l : List ℕ). 47 ∷ rank_text 0 l ++ ranks_text (length ranks) (drop 8 (codes_in (rank ∷ ranks)))) front
    ∙ ap (λ (l : List ℕ). 47 ∷ rank_text 0 rank.codes ++ ranks_text (length ranks) l) rest
    ∙ ap (λ (l : List ℕ). 47 ∷ rank_text 0 rank.codes ++ l) (texts_by ranks)

-- Eight ranks make the placement, behind a `/`.
pub placement_by : (ranks : List RankText) → length ranks ≡ 8 → texts_in ranks ≡ 47 ∷ placement (codes_in ranks)
unfolding ranks_text
placement_by ranks eight = sym (texts_by ranks) ∙ ap (λ (n : ℕ). ranks_text n (codes_in ranks)) eight

pub codes_next : (ranks : List RankText) (rank : RankText) → codes_in (ranks ++ rank ∷ []) ≡ codes_in ranks ++ rank.codes
codes_next ranks rank = flat_map-append (λ rank. rank.codes) ranks (rank ∷ []) ∙ ap (λ (l : List ℕ). codes_in ranks ++ l) (append-nil rank.codes)

pub texts_next : (ranks : List RankText) (rank : RankText) → texts_in (ranks ++ rank ∷ []) ≡ texts_in ranks ++ 47 ∷ rank_text 0 rank.codes
texts_next ranks rank = flat_map-append (λ rank. 47 ∷ rank_text 0 rank.codes) ranks (rank ∷ [])
    ∙ ap (λ (l : List ℕ). texts_in ranks ++ 47 ∷ l) (append-nil (rank_text 0 rank.codes))

-- One rank more is shown.
pub show_more : (ranks : List RankText) (k : ℕ) (new : RankText) (picture : List ℕ) → k < length ranks → new.codes ≡ take 8 (drop (8 * k) picture)
    → codes_in (take k ranks) ≡ take (8 * k) picture → codes_in (take (k + 1) (slice_set ranks k new)) ≡ take (8 * (k + 1)) picture
show_more ranks k new picture lt is before =
    let more : 8 * (k + 1) ≡ 8 * k + 8 = omega arith in
    ap codes_in (take_more_set ranks k new lt) ∙ codes_next (take k ranks) new ∙ ap (λ (l : List ℕ). l ++ new.codes) before
    ∙ ap (λ (l : List ℕ). take (8 * k) picture ++ l) is ∙ sym (take-add (8 * k) 8 picture) ∙ ap (λ (n : ℕ). take n picture) (sym more)

-- One rank more stands in the line, of which the bytes behind it do not matter.
pub line_more : (line text : List ℕ) (len i room : ℕ) (ranks : List RankText) (any : RankText) → i < length ranks
    → len < length line → text ≡ (get_or ranks i any).text → take len line ≡ texts_in (take i ranks)
    → take (len + (1 + (get_or ranks i any).len)) (put_mid (len + 1) room (slice_set line len 47) text) ≡ texts_in (take (i + 1) ranks)
line_more line text len i room ranks any lt inside is before =
    let rank = get_or ranks i any in
    let marked = slice_set line len 47 in
    let front = take (len + 1) marked in
    let post = drop room (drop (len + 1) marked) in
    let long : length front ≡ len + 1 = length-take-le (len + 1) marked (omega (arith, length-set line len 47, inside)) in
    let count : len + (1 + rank.len) ≡ length front + rank.len = omega arith in
    let whole : rank.len ≤ length text = (let room : length rank.text ≡ 8 = rank.room in let short : rank.len ≤ 8 = rank.short in omega (arith, ap length is)) in
    ap (λ (n : ℕ). take n (front ++ (text ++ post))) count ∙ take-append-add front (text ++ post) rank.len
    ∙ ap (λ (l : List ℕ). front ++ l) (take-append-le rank.len text post whole ∙ ap (λ (l : List ℕ). take rank.len l) is ∙ rank.text_is)
    ∙ ap (λ (l : List ℕ). l ++ rank_text 0 rank.codes) (take_more_set line len 47 inside)
    ∙ append_assoc (take len line) (47 ∷ []) (rank_text 0 rank.codes)
    ∙ ap (λ (l : List ℕ). l ++ 47 ∷ rank_text 0 rank.codes) before
    ∙ sym (texts_next (take i ranks) rank) ∙ ap texts_in (sym (take_more ranks i any lt))

pub length_put : (a k : ℕ) (xs ys : List ℕ) → length ys ≡ k → a + k ≤ length xs → length (put_mid a k xs ys) ≡ length xs
length_put a k xs ys same fits =
    omega (arith, length-append (take a xs) (ys ++ drop k (drop a xs)), length-append ys (drop k (drop a xs)), length-take-le a xs (omega arith), length-drop k (drop a xs), length-drop a xs)

-- The line of eight ranks, but for the first `/`.
pub line_whole : (line : List ℕ) (len i : ℕ) (ranks : List RankText) → length ranks ≡ 8 → length ranks ≤ i → take len line ≡ texts_in (take i ranks)
    → between 1 len line ≡ placement (codes_in ranks)
line_whole line len i ranks eight past is =
    between_is line 1 len ∙ ap (drop 1) (is ∙ ap texts_in (take_all i ranks past) ∙ placement_by ranks eight)
